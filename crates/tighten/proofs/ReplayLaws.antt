-- Steps and replays keep every feasible point of the box.
use Rattle.std.specs.Prelude.{◌≡◌, ℕ, zero, suc, ℤ, pos, negsuc, ◌-ℤ◌, ◌*ℤ◌, neg_ℤ, ◌≤ℤ◌, List, [], ◌∷◌, slice_set, slice_index_or, Bool, true, false, cond, int_lt, Option, Some, None, IfSome, IsSomeAnd, option_and_then}
use Rattle.std.proofs.Common.{arith}
use Rattle.std.specs.Int.{int_div_euclid}
use Rattle.std.proofs.lemmas.Int.{ints}
use Rattle.int_model.specs.Integers.{int_at}
use Rattle.int_model.specs.Boxes.{Interval, Box, InBox, interval_at, meet, is_empty}
use Rattle.int_model.specs.Programs.{Program, Terms, Feasible, IsBetween, row_sum}
use Rattle.int_model.specs.RowSums.{coefficient, without, least_sum, greatest_sum}
use Rattle.int_model.specs.declared.model.Ends.{Ends}
use Rattle.int_model.proofs.BoxLaws.{IsIn, IsIn-at_most, IsIn-at_least, InBox-set, InBox-meet, InBox-not_empty}
use Rattle.int_model.proofs.RowSumLaws.{IsIn_at, IsBetween_at, least_sum-le, le-greatest_sum, row_sum-without}
use Rattle.int_model.proofs.IntegerLaws.{neg-mul, div-above, div-below}
use Rattle.tighten.specs.Replay.{narrowed, by_upper, by_lower, left_by, tightened, tightened_by, replay}
use Rattle.tighten.specs.declared.step.Step.{Step}
use Rattle.tighten.specs.declared.step.RowEnd.{RowEnd}
use Rattle.tighten.specs.declared.step.RowEnd.TheVariants.{Lower, Upper}

-- ---- the part of an interval with a * x ≤ c

pub IsIn-narrowed : (a c : ℤ) (i : Interval) (v : ℤ) → IsIn i v → (a *ℤ v) ≤ℤ c → IsIn (narrowed a c i) v
IsIn-narrowed (pos zero) c i v h p = h
IsIn-narrowed (pos (suc n)) c i v h p = IsIn-at_most i (int_div_euclid c (pos (suc n))) v h (div-above n c v p)
IsIn-narrowed (negsuc n) c i v h p = IsIn-at_least i (int_div_euclid c (negsuc n)) v h (div-below n c v p)

pub IsIn-by_upper : (terms : Terms) (e : Option ℤ) (j : ℕ) (box : Box) (x : List ℤ) → InBox box x → IfSome e (λ u. row_sum terms x ≤ℤ u) → IsIn (by_upper terms e j box) (int_at x j)
IsIn-by_upper terms None j box x h p = IsIn_at box x h j
IsIn-by_upper terms (Some u) j box x h p =
    IsIn-narrowed (coefficient j terms) (u -ℤ least_sum (without j terms) box) (interval_at box j) (int_at x j) (IsIn_at box x h j)
    (omega (arith, ints, row_sum-without j terms x, least_sum-le (without j terms) box x h))

pub IsIn-by_lower : (terms : Terms) (e : Option ℤ) (j : ℕ) (box : Box) (x : List ℤ) → InBox box x → IfSome e (λ w. w ≤ℤ row_sum terms x) → IsIn (by_lower terms e j box) (int_at x j)
IsIn-by_lower terms None j box x h p = IsIn_at box x h j
IsIn-by_lower terms (Some w) j box x h p =
    IsIn-narrowed (neg_ℤ (coefficient j terms)) (greatest_sum (without j terms) box -ℤ w) (interval_at box j) (int_at x j) (IsIn_at box x h j)
    (omega (arith, ints, row_sum-without j terms x, neg-mul (coefficient j terms) (int_at x j), le-greatest_sum (without j terms) box x h))

-- ---- steps

pub IsIn-left_by : (terms : Terms) (e : Ends) (side : RowEnd) (j : ℕ) (box : Box) (x : List ℤ) → InBox box x → IsBetween e (row_sum terms x) → IsIn (left_by terms e side j box) (int_at x j)
IsIn-left_by terms e Lower j box x h p = IsIn-by_lower terms e.lower j box x h p.0
IsIn-left_by terms e Upper j box x h p = IsIn-by_upper terms e.upper j box x h p.1

-- an interval with a number in it isn't empty
not_empty : (i : Interval) (v : ℤ) → IsIn i v → int_lt i.high i.low ≡ false
not_empty i v h = grind (arith, ints, h.low, h.high)

abbrev set_unless : Bool → Box → ℕ → Interval → Option Box
set_unless b box j i = cond b None (Some (slice_set box j i))

keeps : (box : Box) (x : List ℤ) (j : ℕ) (i : Interval) → InBox box x → IsIn i (int_at x j) → (b : Bool) → b ≡ false → IsSomeAnd (set_unless b box j i) (λ t. InBox t x)
keeps box x j i h k true e = absurd (cc)
keeps box x j i h k false e = InBox-set box x j i h k

pub tightened-keeps : (p : Program) (step : Step) (box : Box) (x : List ℤ) → Feasible p x → InBox box x → IsSomeAnd (tightened p.rows p.ends step box) (λ t. InBox t x)
tightened-keeps p step box x f h =
    let terms : Terms = slice_index_or p.rows step.row [] in
    let e : Ends = slice_index_or p.ends step.row (record { lower = None; upper = None }) in
    let i : Interval = left_by terms e step.side step.column box in
    let k : IsIn i (int_at x step.column) = IsIn-left_by terms e step.side step.column box x h (IsBetween_at p.rows p.ends x f.rows step.row) in
    keeps box x step.column i h k (int_lt i.high i.low) (not_empty i (int_at x step.column) k)

keeps_next : (p : Program) (steps : List Step) (x : List ℤ) → ((t : Box) → InBox t x → IsSomeAnd (tightened_by p.rows p.ends steps t) (λ u. InBox u x)) → (o : Option Box) → IsSomeAnd o (λ t. InBox t x) → IsSomeAnd (option_and_then (tightened_by p.rows p.ends steps) o) (λ t. InBox t x)
keeps_next p steps x more None k = k
keeps_next p steps x more (Some t) k = more t k

pub tightened_by-keeps : (p : Program) (steps : List Step) (box : Box) (x : List ℤ) → Feasible p x → InBox box x → IsSomeAnd (tightened_by p.rows p.ends steps box) (λ t. InBox t x)
tightened_by-keeps p [] box x f h = h
tightened_by-keeps p (step ∷ steps) box x f h =
    keeps_next p steps x (λ t k. tightened_by-keeps p steps t x f k) (tightened p.rows p.ends step box) (tightened-keeps p step box x f h)

-- a feasible point of the box lies in the replay, so the replay isn't empty
pub replay-keeps : (p : Program) (steps : List Step) (box : Box) (x : List ℤ) → Feasible p x → InBox box x → IsSomeAnd (replay p steps box) (λ t. InBox t x)
replay-keeps p steps box x f h =
    let k : InBox (meet box p.bounds) x = InBox-meet box p.bounds x h f.within
    in on_part (is_empty (meet box p.bounds)) (InBox-not_empty (meet box p.bounds) x k) (tightened_by p.rows p.ends steps (meet box p.bounds)) (tightened_by-keeps p steps (meet box p.bounds) x f k)
  where
    on_part : (b : Bool) → b ≡ false → (o : Option Box) → IsSomeAnd o (λ t. InBox t x) → IsSomeAnd (cond b None o) (λ t. InBox t x)
    on_part true e o k = absurd (cc)
    on_part false e o k = k
