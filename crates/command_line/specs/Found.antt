-- Options of which some have been read, and what the words that are left add to them.
use Rattle.std.specs.Prelude.{ℕ, List, [], ◌∷◌, codes, bytes_eq, if◌then◌else◌, Option, Some, None, option_map, unwrap_or}
use Rattle.std.specs.List.{list_all}
use Rattle.std.specs.Option.{option_and_then}
use Rattle.command_line.specs.Words.{Options, Pair, is_option, pairs_of, values_of, once, options_from, workers_in, nodes_in, log_in, file_in}
use Rattle.command_line.specs.declared.options.Found.{Found}
use Rattle.command_line.specs.declared.options.Choice.{Choice}

-- the values that have been read, each None where its option hasn't come
pub record Past : Type 0 where
  pub workers : Option ℕ
  pub nodes : Option ℕ
  pub log : Option (List ℕ)

abbrev pub past_of : Found → Past
past_of found = record { workers = found.workers; nodes = found.nodes; log = option_map (λ l. l.now) found.log }

abbrev pub options_chosen : Choice → Options
options_chosen choice = record { workers = choice.workers; nodes = choice.nodes; log = option_map (λ l. l.now) choice.log }

-- the options where no more come
abbrev pub options_found : Past → Options
options_found past = record { workers = unwrap_or past.workers 1; nodes = unwrap_or past.nodes 100001; log = past.log }

-- a value that comes where none has come yet
abbrev pub first_value : {X : Type 0} → Option X → Option X → Option X
first_value None value = value
first_value (Some earlier) value = None

abbrev pub with_workers : Past → List ℕ → Option Past
with_workers past value = option_map (λ w. record past { workers = Some w }) (first_value past.workers (workers_in value))

abbrev pub with_nodes : Past → List ℕ → Option Past
with_nodes past value = option_map (λ n. record past { nodes = Some n }) (first_value past.nodes (nodes_in value))

abbrev pub with_log : Past → List ℕ → Option Past
with_log past value = option_map (λ l. record past { log = Some l }) (first_value past.log (file_in value))

-- the values that have been read with that of one more option
abbrev pub with_option : Past → List ℕ → List ℕ → Option Past
with_option past name value =
    if bytes_eq name (codes "--workers") then with_workers past value
    else if bytes_eq name (codes "--nodes") then with_nodes past value
    else if bytes_eq name (codes "--log") then with_log past value
    else None

-- what the words that are left say of an option, where it may have come before
abbrev pub once_more : {X : Type 0} → Option X → X → (List ℕ → Option X) → List (List ℕ) → Option X
once_more None default meaning words = once default meaning words
once_more (Some earlier) default meaning [] = Some earlier
once_more (Some earlier) default meaning (word ∷ words) = None

abbrev pub options_behind : Past → List Pair → Option Options
options_behind past pairs =
    if list_all is_option pairs then options_from
    (once_more past.workers 1 workers_in (values_of (codes "--workers") pairs))
    (once_more past.nodes 100001 nodes_in (values_of (codes "--nodes") pairs))
    (once_more (option_map Some past.log) None log_in (values_of (codes "--log") pairs))
    else None

abbrev pub options_after : Past → List (List ℕ) → Option Options
options_after past words = option_and_then (options_behind past) (pairs_of words)
