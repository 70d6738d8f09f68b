-- What a good line makes of the changes.
use Rattle.std.specs.Prelude.{◌≡◌, ℕ, if◌then◌else◌, List, [], slice_index_or, codes, bytes_eq, Option, Some, None, unwrap_or, Result, Ok, Err}
use Rattle.int_model.specs.Models.{IntegerModel}
use Rattle.scenario_changes.specs.Changes.{ChangeSet, with_number, with_cost, with_low, with_high, with_rhs, with_name}
use Rattle.changes_reader.specs.Names.{column_names, row_names, number_named}
use Rattle.changes_reader.specs.Values.{number_set, side_set}
use Rattle.changes_reader.specs.ChangesText.{natural_of}
use Rattle.changes_reader.specs.declared.ChangesKind.{ChangesKind}
use Rattle.changes_reader.specs.declared.fault.Fault.{Fault}
use Rattle.changes_reader.specs.declared.fault.Fault.TheVariants.{Refused, Memory}

-- the changes behind a line with this word and these further fields
abbrev pub taken_words : IntegerModel → ChangeSet → List ℕ → List ℕ → List ℕ → ChangeSet
taken_words m c word one two =
    if bytes_eq word (codes "scenarios") then with_number c (natural_of one) else
    if bytes_eq word (codes "scenario") then record c { selected = natural_of one } else
    if bytes_eq word (codes "name") then with_name c (Some one) else
    if bytes_eq word (codes "rhs") then with_rhs c (unwrap_or (number_named (row_names m) one) 0) (side_set two) else
    if bytes_eq word (codes "obj") then with_cost c (unwrap_or (number_named (column_names m) one) 0) (number_set two) else
    if bytes_eq word (codes "lb") then with_low c (unwrap_or (number_named (column_names m) one) 0) (number_set two) else
    with_high c (unwrap_or (number_named (column_names m) one) 0) (number_set two)

abbrev pub taken : IntegerModel → ChangeSet → List (List ℕ) → ChangeSet
taken m c fields = taken_words m c (slice_index_or fields 0 []) (slice_index_or fields 1 []) (slice_index_or fields 2 [])

-- a line without a kind makes the wanted changes, and one with a kind is refused with it; want of memory may come
-- at any time
abbrev pub Takes : Option ChangesKind → ChangeSet → ChangeSet → Result (Unit {0}) Fault → Type 0
Takes kind new wanted (Ok _) = (kind ≡ None) × (new ≡ wanted)
Takes kind new wanted (Err (Refused k)) = kind ≡ Some k
Takes kind new wanted (Err Memory) = Unit {0}
