-- What the fields of a line say, or why they say nothing.
use Rattle.std.specs.Prelude.{ℕ, ℤ, pos, negsuc, nat_lt, if◌then◌else◌, List, codes, bytes_eq, Option, Some, None, Result, Ok, Err}
use Rattle.num_text.specs.NumberText.{number_of}
use Rattle.num_text.specs.declared.number.NumberError.{NumberError}
use Rattle.num_text.specs.declared.number.NumberError.TheVariants.{NotNumber, TooWide}
use Rattle.num_text.specs.declared.number.NumberError.TheVariants as number
use Rattle.int_model.specs.declared.model.Rhs.{Rhs}
use Rattle.int_model.specs.declared.model.Rhs.TheVariants.{Value, Inf, MinusInf}
use Rattle.changes_reader.specs.declared.ChangesKind.{ChangesKind}
use Rattle.changes_reader.specs.declared.ChangesKind.TheVariants.{Number, Fraction, Magnitude, TooMany, NoScenario}

-- the whole number of a text; the kind of one that is too wide depends on where it stands
abbrev pub whole : ChangesKind → List ℕ → Result ℤ ChangesKind
whole too_wide text = of_number (number_of text)
  where
    of_number : Result ℤ NumberError → Result ℤ ChangesKind
    of_number (Ok z) = Ok z
    of_number (Err NotNumber) = Err Number
    of_number (Err number.Fraction) = Err Fraction
    of_number (Err TooWide) = Err too_wide

-- the number of scenarios: 0 to 64
abbrev pub count_of : List ℕ → Result ℕ ChangesKind
count_of text = in_range (whole Magnitude text)
  where
    in_range : Result ℤ ChangesKind → Result ℕ ChangesKind
    in_range (Ok (pos n)) = if nat_lt 64 n then Err TooMany else Ok n
    in_range (Ok (negsuc n)) = Err Magnitude
    in_range (Err kind) = Err kind

-- the number of one of so many scenarios
abbrev pub scenario_of : ℕ → List ℕ → Result ℕ ChangesKind
scenario_of count text = in_range (whole NoScenario text)
  where
    in_range : Result ℤ ChangesKind → Result ℕ ChangesKind
    in_range (Ok (pos n)) = if nat_lt n count then Ok n else Err NoScenario
    in_range (Ok (negsuc n)) = Err NoScenario
    in_range (Err kind) = Err kind

-- a number, or None where the text says undefined
abbrev pub value_of : List ℕ → Result (Option ℤ) ChangesKind
value_of text = if bytes_eq text (codes "undefined") then Ok None else some_number (whole Magnitude text)
  where
    some_number : Result ℤ ChangesKind → Result (Option ℤ) ChangesKind
    some_number (Ok z) = Ok (Some z)
    some_number (Err kind) = Err kind

-- a right-hand side, or None where the text says undefined
abbrev pub rhs_of : List ℕ → Result (Option Rhs) ChangesKind
rhs_of text = if bytes_eq text (codes "inf") then Ok (Some Inf) else if bytes_eq text (codes "-inf") then Ok (Some MinusInf) else as_rhs (value_of text)
  where
    as_rhs : Result (Option ℤ) ChangesKind → Result (Option Rhs) ChangesKind
    as_rhs (Ok None) = Ok None
    as_rhs (Ok (Some z)) = Ok (Some (Value z))
    as_rhs (Err kind) = Err kind

-- what was said, where something was
abbrev pub said_or : {X : Type 0} → X → Result X ChangesKind → X
said_or x (Ok said) = said
said_or x (Err kind) = x

-- what a good text sets
abbrev pub number_set : List ℕ → Option ℤ
number_set text = said_or None (value_of text)

abbrev pub side_set : List ℕ → Option Rhs
side_set text = said_or None (rhs_of text)
