-- What the words of a command line say.
use Rattle.std.specs.Prelude.{ℕ, ◌-◌, ◌^◌, List, [], ◌∷◌, codes, Bool, ◌&&◌, not, nat_eq, nat_le, bytes_eq, if◌then◌else◌, Option, Some, None, option_map, length, map, filter}
use Rattle.std.specs.List.{starts_with, list_all}
use Rattle.std.specs.Option.{option_and_then}
use Rattle.num_text.specs.NumberText.{is_digits, digits_number}
use Rattle.num_text.specs.Words.{is_one_of}

-- the files that hold a problem; without scenarios there is none of changes
pub record Inputs : Type 0 where
  pub model : List ℕ
  pub changes : Option (List ℕ)

-- how a problem is solved, and the file for the log where one is wanted
pub record Options : Type 0 where
  pub workers : ℕ
  pub nodes : ℕ
  pub log : Option (List ℕ)

-- what is asked for: a solution, a check of a log, or a problem by its seed, columns, rows and scenarios
pub data Order : Type 0 where
  solve : Inputs → Options → Order
  check : Inputs → List ℕ → Order
  generate : ℕ → ℕ → ℕ → ℕ → Order

-- a word that may name a file: it isn't empty and doesn't begin with a dash
abbrev pub is_file_name : List ℕ → Bool
is_file_name word = not (bytes_eq word []) && not (starts_with nat_eq word (codes "-"))

abbrev pub file_in : List ℕ → Option (List ℕ)
file_in word = if is_file_name word then Some word else None

-- a file of changes, or a dash where there is none
abbrev pub changes_in : List ℕ → Option (Option (List ℕ))
changes_in word = if bytes_eq word (codes "-") then Some None else option_map Some (file_in word)

-- 1 to 20 digits
abbrev pub is_number : List ℕ → Bool
is_number word = is_digits word && nat_le (length word) 20

-- the number of a word, where it isn't below the least one or above the greatest one
abbrev pub number_in : ℕ → ℕ → List ℕ → Option ℕ
number_in least greatest word =
    let number = digits_number word
    in if is_number word && nat_le least number && nat_le number greatest then Some number else None

abbrev pub inputs_from : Option (List ℕ) → Option (Option (List ℕ)) → Option Inputs
inputs_from None changes = None
inputs_from (Some model) None = None
inputs_from (Some model) (Some changes) = Some (record { model = model; changes = changes })

abbrev pub inputs_in : List ℕ → List ℕ → Option Inputs
inputs_in model changes = inputs_from (file_in model) (changes_in changes)

-- an option's name and the word behind it
pub record Pair : Type 0 where
  pub name : List ℕ
  pub value : List ℕ

-- the words two by two, where none is left over
abbrev pub pairs_of : List (List ℕ) → Option (List Pair)
pairs_of [] = Some []
pairs_of (name ∷ []) = None
pairs_of (name ∷ value ∷ words) = option_map (λ pairs. record { name = name; value = value } ∷ pairs) (pairs_of words)

-- the words behind a name
abbrev pub values_of : List ℕ → List Pair → List (List ℕ)
values_of name pairs = map (λ p. p.value) (filter (λ p. bytes_eq p.name name) pairs)

-- what a word means that may be left out and stands at most once
abbrev pub once : {X : Type 0} → X → (List ℕ → Option X) → List (List ℕ) → Option X
once default meaning [] = Some default
once default meaning (word ∷ []) = meaning word
once default meaning (word ∷ other ∷ more) = None

abbrev pub is_option : Pair → Bool
is_option p = is_one_of (codes "--workers" ∷ codes "--nodes" ∷ codes "--log" ∷ []) p.name

abbrev pub options_from : Option ℕ → Option ℕ → Option (Option (List ℕ)) → Option Options
options_from None nodes log = None
options_from (Some workers) None log = None
options_from (Some workers) (Some nodes) None = None
options_from (Some workers) (Some nodes) (Some log) = Some (record { workers = workers; nodes = nodes; log = log })

abbrev pub workers_in : List ℕ → Option ℕ
workers_in word = number_in 1 64 word

abbrev pub nodes_in : List ℕ → Option ℕ
nodes_in word = number_in 1 100001 word

abbrev pub log_in : List ℕ → Option (Option (List ℕ))
log_in word = option_map Some (file_in word)

-- options in any order, each at most once
abbrev pub options_of : List Pair → Option Options
options_of pairs =
    if list_all is_option pairs then options_from
    (once 1 workers_in (values_of (codes "--workers") pairs))
    (once 100001 nodes_in (values_of (codes "--nodes") pairs))
    (once None log_in (values_of (codes "--log") pairs))
    else None

abbrev pub options_in : List (List ℕ) → Option Options
options_in words = option_and_then options_of (pairs_of words)

abbrev pub solve_from : Option Inputs → Option Options → Option Order
solve_from None options = None
solve_from (Some inputs) None = None
solve_from (Some inputs) (Some options) = Some (solve inputs options)

-- what stands behind `solve`: MODEL CHANGES and options
abbrev pub solve_of : List (List ℕ) → Option Order
solve_of [] = None
solve_of (model ∷ []) = None
solve_of (model ∷ changes ∷ options) = solve_from (inputs_in model changes) (options_in options)

abbrev pub check_from : Option Inputs → Option (List ℕ) → Option Order
check_from None log = None
check_from (Some inputs) None = None
check_from (Some inputs) (Some log) = Some (check inputs log)

-- what stands behind `check`: MODEL CHANGES LOG
abbrev pub check_of : List (List ℕ) → Option Order
check_of (model ∷ changes ∷ log ∷ []) = check_from (inputs_in model changes) (file_in log)
check_of words = None

abbrev pub generate_from : Option ℕ → Option ℕ → Option ℕ → Option ℕ → Option Order
generate_from None columns rows scenarios = None
generate_from (Some seed) None rows scenarios = None
generate_from (Some seed) (Some columns) None scenarios = None
generate_from (Some seed) (Some columns) (Some rows) None = None
generate_from (Some seed) (Some columns) (Some rows) (Some scenarios) = Some (generate seed columns rows scenarios)

-- what stands behind `gen`: SEED COLUMNS ROWS SCENARIOS
abbrev pub generate_of : List (List ℕ) → Option Order
generate_of (seed ∷ columns ∷ rows ∷ scenarios ∷ []) =
    generate_from (number_in 0 (2 ^ 64 - 1) seed) (number_in 1 1000 columns) (number_in 0 1000 rows) (number_in 0 64 scenarios)
generate_of words = None

-- what the words say, None where they are no command
abbrev pub command_of : List (List ℕ) → Option Order
command_of [] = None
command_of (verb ∷ words) =
    if bytes_eq verb (codes "solve") then solve_of words
    else if bytes_eq verb (codes "check") then check_of words
    else if bytes_eq verb (codes "gen") then generate_of words
    else None
