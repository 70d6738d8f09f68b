-- Worked examples, by computing.
use Rattle.std.specs.Prelude.{◌≡◌, ℕ, ℤ, pos, negsuc, [], ◌∷◌, Some, None, refl}
use Rattle.int_model.specs.Boxes.{Box, box_of}
use Rattle.int_model.specs.Programs.{Program}
use Rattle.dual_bounds.specs.Vectors.{Multipliers}
use Rattle.tighten.specs.declared.step.Step.{Step}
use Rattle.tighten.specs.declared.step.RowEnd.TheVariants.{Upper}
use Rattle.certs.specs.Verdicts.{judged, start_level}
use Rattle.certs.specs.declared.cert.Cert.{Cert}
use Rattle.certs.specs.declared.level.Level.TheVariants.{Value, Inf}
use Rattle.certs.specs.declared.verdict.Verdict.TheVariants.{Empty, Misses, Farkas, Bound, Point}

-- min cost * x - 2y, x from low to 3 and y in 0..3, 2x + y at most a number
abbrev pub cap : ℤ → ℤ → ℤ → Program
cap cost low most = record {
  costs = cost ∷ negsuc 1 ∷ [];
  constant = pos 0;
  bounds = box_of (low ∷ pos 0 ∷ []) (pos 3 ∷ pos 3 ∷ []);
  rows = ((0, pos 2) ∷ (1, pos 1) ∷ []) ∷ [];
  ends = record { lower = None; upper = Some most } ∷ [];
}

-- four scenarios: the base, a lesser side, another cost, and a lower bound that the row forbids
abbrev pub base : Program
base = cap (negsuc 2) (pos 0) (pos 4)

abbrev pub small : Program
small = cap (negsuc 2) (pos 0) (pos 2)

abbrev pub dear : Program
dear = cap (negsuc 4) (pos 0) (pos 4)

abbrev pub high : Program
high = cap (negsuc 2) (pos 3) (pos 4)

abbrev pub root : Box
root = box_of (pos 0 ∷ pos 0 ∷ []) (pos 3 ∷ pos 3 ∷ [])

-- the row narrows x and then y; two vectors of the row
abbrev pub upper : ℕ → Step
upper column = record { row = 0; column = column; side = Upper }

abbrev pub of_row : ℕ → ℤ → Multipliers
of_row scale y = record { scale = scale; entries = (0, y) ∷ [] }

abbrev pub cert : Cert
cert = record { steps = upper 0 ∷ upper 1 ∷ []; vectors = of_row 2 (negsuc 2) ∷ of_row 1 (negsuc 1) ∷ [] }

-- ---- one certificate for all four

-- over x in 0..2 and y in 0..3 the sum is -15, half of which is rounded up
base-bound : judged base root cert (Bound 0) ≡ Some (Value (negsuc 6))
base-bound = refl

small-bound : judged small root cert (Bound 0) ≡ Some (Value (negsuc 3))
small-bound = refl

dear-bound : judged dear root cert (Bound 1) ≡ Some (Value (negsuc 9))
dear-bound = refl

-- with the multiplier -1 in place of -2
dear-weak : judged dear root (record { steps = upper 0 ∷ upper 1 ∷ []; vectors = of_row 1 (negsuc 0) ∷ [] }) (Bound 0) ≡ Some (Value (negsuc 12))
dear-weak = refl

high-empty : judged high root cert Empty ≡ Some Inf
high-empty = refl

-- each program begins with the bound of its own bounds
base-start : start_level root base ≡ Value (negsuc 14)
base-start = refl

dear-start : start_level root dear ≡ Value (negsuc 20)
dear-start = refl

apart-start : start_level (box_of (pos 0 ∷ pos 0 ∷ []) (pos 2 ∷ pos 3 ∷ [])) high ≡ Inf
apart-start = refl

-- ---- verdicts that aren't valid

root-point : judged base root cert Point ≡ None
root-point = refl

not-empty : judged base root cert Empty ≡ None
not-empty = refl

-- over an empty replay no other verdict is valid
empty-bound : judged high root cert (Bound 0) ≡ None
empty-bound = refl

no-vector : judged base root cert (Bound 2) ≡ None
no-vector = refl

scaled-farkas : judged base root cert (Farkas 0) ≡ None
scaled-farkas = refl

-- ---- just valid and just not

abbrev pub corner : ℤ → Box
corner y = box_of (pos 1 ∷ y ∷ []) (pos 3 ∷ pos 3 ∷ [])

-- no steps, and the row's own vector with the scale 0
abbrev pub plain : Cert
plain = record { steps = []; vectors = of_row 0 (negsuc 0) ∷ [] }

-- the sum is 2 * 1 + y - 4, for the least y
zero-farkas : judged base (corner (pos 2)) plain (Farkas 0) ≡ None
zero-farkas = refl

one-farkas : judged base (corner (pos 3)) plain (Farkas 0) ≡ Some Inf
one-farkas = refl

unscaled-bound : judged base (corner (pos 3)) plain (Bound 0) ≡ None
unscaled-bound = refl

met-row : judged base (corner (pos 2)) plain (Misses 0) ≡ None
met-row = refl

missed-row : judged base (corner (pos 3)) plain (Misses 0) ≡ Some Inf
missed-row = refl

no-row : judged base (corner (pos 3)) plain (Misses 1) ≡ None
no-row = refl

single-point : judged base (box_of (pos 1 ∷ pos 2 ∷ []) (pos 1 ∷ pos 2 ∷ [])) plain Point ≡ Some (Value (negsuc 6))
single-point = refl

-- ---- the replay begins within the program's bounds

-- at most 3 in each column, though the box goes on to 9
wide-bound : judged base (box_of (pos 0 ∷ pos 0 ∷ []) (pos 9 ∷ pos 9 ∷ [])) (record { steps = []; vectors = record { scale = 1; entries = [] } ∷ [] }) (Bound 0) ≡ Some (Value (negsuc 14))
wide-bound = refl

-- one point of the box lies in the program's bounds
cut-point : judged high (box_of (pos 0 ∷ pos 0 ∷ []) (pos 3 ∷ pos 0 ∷ [])) plain Point ≡ Some (Value (negsuc 8))
cut-point = refl

apart-empty : judged high (box_of (pos 0 ∷ pos 0 ∷ []) (pos 2 ∷ pos 3 ∷ [])) plain Empty ≡ Some Inf
apart-empty = refl
