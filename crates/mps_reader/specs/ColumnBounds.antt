-- What the lines of BOUNDS say of one column.
use Rattle.std.specs.Prelude.{◌≡◌, ℕ, true, false, not, nat_eq, List, length, filter, filter_map, codes, Option, Some, None, if◌then◌else◌}
use Rattle.std.specs.Option.{option_map_or}
use Rattle.std.specs.List.{list_any}
use Rattle.mps_reader.specs.MpsLines.{Line, last_of}
use Rattle.mps_reader.specs.MpsModels.{low_set, high_set, sets_high, sets_integer, is_negative_upper}
use Rattle.mps_reader.specs.declared.bounds.Bounds.{Bounds}
use Rattle.mps_reader.specs.declared.bounds.ValueBound.{ValueBound}
use Rattle.mps_reader.specs.declared.bounds.ValueBound.TheVariants.{Lower, Upper, Fixed, IntegerLower, IntegerUpper}
use Rattle.mps_reader.specs.declared.bounds.PlainBound.{PlainBound}
use Rattle.mps_reader.specs.declared.bounds.PlainBound.TheVariants.{Free, MinusInfinity, PlusInfinity, Binary}

abbrev pub value_word : ValueBound → List ℕ
value_word Lower = codes "LO"
value_word Upper = codes "UP"
value_word Fixed = codes "FX"
value_word IntegerLower = codes "LI"
value_word IntegerUpper = codes "UI"

abbrev pub plain_word : PlainBound → List ℕ
plain_word Free = codes "FR"
plain_word MinusInfinity = codes "MI"
plain_word PlusInfinity = codes "PL"
plain_word Binary = codes "BV"

-- the last of two settings that is one
abbrev pub last_setting : {X : Type 0} → Option X → Option X → Option X
last_setting before (Some x) = Some x
last_setting before None = before

-- the bounds behind one more line
abbrev pub with_line : Bounds → Line → Bounds
with_line b l = record {
  is_named = true;
  is_integer = if sets_integer l then true else b.is_integer;
  low = last_setting b.low (low_set l);
  high = last_setting b.high (high_set l);
  has_negative_upper = if sets_high l then is_negative_upper l else b.has_negative_upper;
}

-- what is kept of a column is what the lines that name it say
pub record BoundsAgree (b : Bounds) (lines : List Line) : Type 0 where
  pub named : b.is_named ≡ not (nat_eq (length lines) 0)
  pub integer : b.is_integer ≡ list_any sets_integer lines
  pub low : b.low ≡ last_of (filter_map low_set lines)
  pub high : b.high ≡ last_of (filter_map high_set lines)
  pub negative_upper : b.has_negative_upper ≡ option_map_or is_negative_upper (last_of (filter sets_high lines)) false
