-- What the headers and the lines of OBJSENSE have said so far.
use Rattle.std.specs.Prelude.{◌≡◌, ℕ, true, false, List, [], ◌∷◌, Option, Some, None, if◌then◌else◌, codes, bytes_eq}
use Rattle.std.specs.List.{list_any}
use Rattle.mps_reader.specs.MpsLines.{Line, headers_of, is_one_of}
use Rattle.mps_reader.specs.MpsRules.{is_maximum, is_direction, direction_words}
use Rattle.mps_reader.specs.Sections.{words_of}
use Rattle.mps_reader.specs.declared.header.Headers.{Headers}
use Rattle.int_model.specs.declared.model.Direction.{Direction}
use Rattle.int_model.specs.declared.model.Direction.TheVariants.{Min, Max}

-- the direction that words give, None where there are none
abbrev pub direction_of : List (List ℕ) → Option Direction
direction_of [] = None
direction_of (word ∷ words) = Some (if list_any is_maximum (word ∷ words) then Max else Min)

-- what is kept is what the lines say
pub record HeadersAgree (h : Headers) (earlier : List Line) : Type 0 where
  pub seen : words_of h.seen.items ≡ headers_of earlier
  pub direction : h.direction ≡ direction_of (direction_words earlier)
  pub asked : is_one_of (headers_of earlier) (codes "OBJSENSE") ≡ false → direction_words earlier ≡ []

-- the direction words of a header, by its section and its further fields
abbrev pub header_words : List ℕ → List (List ℕ) → List (List ℕ)
header_words section [] = []
header_words section (value ∷ more) = if bytes_eq section (codes "OBJSENSE") then value ∷ [] else []

-- the direction behind words that are good, and words of which the first isn't
abbrev pub GivesDirection : Option Direction → List (List ℕ) → Option Direction → Type 0
GivesDirection kept [] d = d ≡ kept
GivesDirection kept (word ∷ words) d = (is_direction word ≡ true) × (d ≡ Some (if is_maximum word then Max else Min))

abbrev pub RefusesDirection : List (List ℕ) → Type 0
RefusesDirection [] = ⊥
RefusesDirection (word ∷ words) = is_direction word ≡ false
