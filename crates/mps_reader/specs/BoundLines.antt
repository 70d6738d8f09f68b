-- What a line of BOUNDS says.
use Rattle.std.specs.Prelude.{◌≡◌, ℕ, true, false, List, [], ◌∷◌, ◌&&◌, not, map, codes, Option, Some, None, option_map, if◌then◌else◌}
use Rattle.mps_reader.specs.MpsLines.{Line, field, takes_value, bound_has_set, bound_column, bound_text, column_names, sets_of, is_one_of}
use Rattle.std.specs.Borrow.{Bor}
use Rattle.mps_reader.specs.MpsRules.{bound_fits, first_kind, is_second}
use Rattle.mps_reader.specs.Sets.{AgreesWith}
use Rattle.mps_reader.specs.declared.MpsKind.{MpsKind}
use Rattle.mps_reader.specs.declared.MpsKind.TheVariants.{SecondSet, UnknownColumn}
use Rattle.mps_reader.specs.ColumnBounds.{value_word, plain_word}
use Rattle.mps_reader.specs.declared.bounds.Setting.{Setting}
use Rattle.mps_reader.specs.declared.bounds.Setting.TheVariants.{Value, Plain}
use Rattle.mps_reader.specs.declared.bounds.BoundLine.{BoundLine}

-- the line is of this type, and with a value it has this number
abbrev pub IsSetting : Setting → Line → Type 0
IsSetting (Value bound number) l = (takes_value (field 0 l) ≡ true) × (field 0 l ≡ value_word bound) × (bound_text l ≡ number.now)
IsSetting (Plain bound) l = (takes_value (field 0 l) ≡ false) × (field 0 l ≡ plain_word bound)

pub record IsBoundLine (b : BoundLine) (l : Line) : Type 0 where
  pub fits : bound_fits l ≡ true
  pub set : option_map (λ n. n.now) b.set ≡ (if bound_has_set l then Some (field 1 l) else None)
  pub column : bound_column l ≡ b.column.now
  pub setting : IsSetting b.setting l

-- the kinds that come before a line's number
abbrev pub place_kind : List Line → Line → Option MpsKind
place_kind earlier l = first_kind (
    (bound_has_set l && is_second (sets_of (codes "BOUNDS") earlier) (field 1 l), SecondSet)
    ∷ (not (is_one_of (column_names earlier) (bound_column l)), UnknownColumn)
    ∷ [])

-- the set and the names of the columns are those of the earlier lines
pub record BoundsReady (set : Option (Bor (List ℕ))) (keys : List (Bor (List ℕ))) (earlier : List Line) : Type 0 where
  pub sets : AgreesWith set (sets_of (codes "BOUNDS") earlier)
  pub names : map (λ k. k.now) keys ≡ column_names earlier
