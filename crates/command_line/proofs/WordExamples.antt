-- Worked command lines, by computing.
use Rattle.std.specs.Prelude.{◌≡◌, ℕ, List, [], ◌∷◌, codes, Some, None, refl}
use Rattle.command_line.specs.Words.{Inputs, Options, solve, check, generate, command_of}

m_alone : Inputs
m_alone = record { model = codes "m"; changes = None }

m_changed : Inputs
m_changed = record { model = codes "m"; changes = Some (codes "c") }

defaults : Options
defaults = record { workers = 1; nodes = 100001; log = None }

-- `solve m -` and further words
solve_with : List (List ℕ) → List (List ℕ)
solve_with words = codes "solve" ∷ codes "m" ∷ codes "-" ∷ words

no_options : command_of (solve_with []) ≡ Some (solve m_alone defaults)
unfolding solve_with m_alone defaults
no_options = refl

with_changes : command_of (codes "solve" ∷ codes "m" ∷ codes "c" ∷ []) ≡ Some (solve m_changed defaults)
unfolding m_changed defaults
with_changes = refl

any_order : command_of (solve_with (codes "--log" ∷ codes "l" ∷ codes "--workers" ∷ codes "64" ∷ codes "--nodes" ∷ codes "7" ∷ [])) ≡ Some (solve m_alone (record { workers = 64; nodes = 7; log = Some (codes "l") }))
unfolding solve_with m_alone
any_order = refl

other_order : command_of (solve_with (codes "--nodes" ∷ codes "007" ∷ codes "--log" ∷ codes "l" ∷ codes "--workers" ∷ codes "64" ∷ [])) ≡ Some (solve m_alone (record { workers = 64; nodes = 7; log = Some (codes "l") }))
unfolding solve_with m_alone
other_order = refl

zero_workers : command_of (solve_with (codes "--workers" ∷ codes "0" ∷ [])) ≡ None
unfolding solve_with
zero_workers = refl

too_many_workers : command_of (solve_with (codes "--workers" ∷ codes "65" ∷ [])) ≡ None
unfolding solve_with
too_many_workers = refl

nodes_twice : command_of (solve_with (codes "--nodes" ∷ codes "1" ∷ codes "--nodes" ∷ codes "1" ∷ [])) ≡ None
unfolding solve_with
nodes_twice = refl

most_nodes : command_of (solve_with (codes "--nodes" ∷ codes "100001" ∷ [])) ≡ Some (solve m_alone defaults)
unfolding solve_with m_alone defaults
most_nodes = refl

too_many_nodes : command_of (solve_with (codes "--nodes" ∷ codes "100002" ∷ [])) ≡ None
unfolding solve_with
too_many_nodes = refl

joined_by_a_sign : command_of (solve_with (codes "--workers=2" ∷ [])) ≡ None
unfolding solve_with
joined_by_a_sign = refl

two_dashes : command_of (solve_with (codes "--" ∷ [])) ≡ None
unfolding solve_with
two_dashes = refl

-- a number is digits alone, 20 at most
with_a_plus : command_of (solve_with (codes "--nodes" ∷ codes "+7" ∷ [])) ≡ None
unfolding solve_with
with_a_plus = refl

many_digits : command_of (solve_with (codes "--nodes" ∷ codes "00000000000000000007" ∷ [])) ≡ Some (solve m_alone (record { workers = 1; nodes = 7; log = None }))
unfolding solve_with m_alone
many_digits = refl

too_many_digits : command_of (solve_with (codes "--nodes" ∷ codes "000000000000000000007" ∷ [])) ≡ None
unfolding solve_with
too_many_digits = refl

no_value : command_of (solve_with (codes "--nodes" ∷ [])) ≡ None
unfolding solve_with
no_value = refl

log_is_a_dash : command_of (solve_with (codes "--log" ∷ codes "-" ∷ [])) ≡ None
unfolding solve_with
log_is_a_dash = refl

too_few : command_of (codes "solve" ∷ codes "m" ∷ []) ≡ None
too_few = refl

no_words : command_of [] ≡ None
no_words = refl

-- a dash stands for no changes, and for no model
dash_as_model : command_of (codes "solve" ∷ codes "-" ∷ codes "c" ∷ []) ≡ None
dash_as_model = refl

dashed_model : command_of (codes "solve" ∷ codes "-x" ∷ codes "-" ∷ []) ≡ None
dashed_model = refl

dashed_changes : command_of (codes "solve" ∷ codes "m" ∷ codes "-x" ∷ []) ≡ None
dashed_changes = refl

empty_model : command_of (codes "solve" ∷ codes "" ∷ codes "-" ∷ []) ≡ None
empty_model = refl

checks : command_of (codes "check" ∷ codes "m" ∷ codes "-" ∷ codes "l" ∷ []) ≡ Some (check m_alone (codes "l"))
unfolding m_alone
checks = refl

check_takes_no_option : command_of (codes "check" ∷ codes "m" ∷ codes "-" ∷ codes "l" ∷ codes "--nodes" ∷ codes "7" ∷ []) ≡ None
check_takes_no_option = refl

generates : command_of (codes "gen" ∷ codes "18446744073709551615" ∷ codes "2" ∷ codes "0" ∷ codes "3" ∷ []) ≡ Some (generate 18446744073709551615 2 0 3)
generates = refl

seed_too_great : command_of (codes "gen" ∷ codes "18446744073709551616" ∷ codes "2" ∷ codes "0" ∷ codes "3" ∷ []) ≡ None
seed_too_great = refl

no_columns : command_of (codes "gen" ∷ codes "7" ∷ codes "0" ∷ codes "0" ∷ codes "3" ∷ []) ≡ None
no_columns = refl

too_many_scenarios : command_of (codes "gen" ∷ codes "7" ∷ codes "1" ∷ codes "0" ∷ codes "65" ∷ []) ≡ None
too_many_scenarios = refl

unknown_word : command_of (codes "Solve" ∷ codes "m" ∷ codes "-" ∷ []) ≡ None
unknown_word = refl
