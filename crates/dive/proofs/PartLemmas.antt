-- Parts of boxes: what steps and changed intervals leave.
use Rattle.std.proofs.Common.{◌≡◌, ◌∙◌, ap, sym, subst, refl, ℕ, zero, suc, ◌<◌, ℤ, pos, negsuc, ◌-ℤ◌, neg_ℤ, ◌≤ℤ◌, List, [], ◌∷◌, length, map, Bool, true, false, ◌||◌, Option, Some, None, arith, int_lt}
use Rattle.std.specs.Prelude.{slice_index_or, slice_set, option_and_then, if◌then◌else◌}
use Rattle.std.specs.Int.{int_div_euclid, int_max, int_min}
use Rattle.std.proofs.lemmas.Int.{ints, clamps}
use Rattle.std.proofs.lemmas.List.{length-map}
use Rattle.int_model.specs.Limits.{IsBound}
use Rattle.int_model.specs.Models.{IntegerModel}
use Rattle.int_model.specs.Boxes.{Box, Interval, box_of, InBox, interval_at, is_empty, at_most, at_least}
use Rattle.int_model.specs.Programs.{Terms}
use Rattle.int_model.specs.declared.model.Ends.{Ends}
use Rattle.int_model.specs.RowSums.{coefficient, without, least_sum, greatest_sum}
use Rattle.tighten.specs.declared.step.Step.{Step}
use Rattle.tighten.specs.declared.step.RowEnd.{RowEnd}
use Rattle.tighten.specs.declared.step.RowEnd.TheVariants.{Lower, Upper}
use Rattle.tighten.specs.declared.engine.Engine.{Engine}
use Rattle.tighten.specs.Engines.{IsLoaded, box_in}
use Rattle.tighten.specs.Replay.{narrowed, by_upper, by_lower, left_by, left_of, with_interval, tightened, tightened_by}
use Rattle.dive.specs.Dives.{IsPart}

pub part-same : (b : Box) → IsPart b b
part-same [] = tt
part-same (i ∷ b) = (omega (arith, ints), omega (arith, ints), part-same b)

pub part-trans : (a b c : Box) → IsPart a b → IsPart b c → IsPart a c
part-trans [] [] [] p q = tt
part-trans [] [] (k ∷ c) p q = q
part-trans [] (i ∷ b) c p q = absurd p
part-trans (i ∷ a) [] c p q = absurd p
part-trans (i ∷ a) (j ∷ b) [] p q = absurd q
part-trans (i ∷ a) (j ∷ b) (k ∷ c) p q = (omega (arith, ints, p.0, q.0), omega (arith, ints, p.1, q.1), part-trans a b c p.2 q.2)

pub part-length : (a b : Box) → IsPart a b → length a ≡ length b
part-length [] [] p = refl
part-length [] (k ∷ b) p = absurd p
part-length (i ∷ a) [] p = absurd p
part-length (i ∷ a) (k ∷ b) p = ap suc (part-length a b p.2)

pub part-in : (a b : Box) (x : List ℤ) → IsPart a b → InBox a x → InBox b x
part-in [] [] x p i = i
part-in [] (k ∷ b) x p i = absurd p
part-in (i ∷ a) [] x p h = absurd p
part-in (i ∷ a) (k ∷ b) [] p h = absurd h
part-in (i ∷ a) (k ∷ b) (v ∷ x) p h = (omega (arith, ints, p.0, h.0), omega (arith, ints, p.1, h.1), part-in a b x p.2 h.2)

-- an interval that lies in another
pub record IsIn (i k : Interval) : Type 0 where
  pub low : k.low ≤ℤ i.low
  pub high : i.high ≤ℤ k.high

pub part-set : (b : Box) (j : ℕ) (i : Interval) → IsIn i (interval_at b j) → IsPart (slice_set b j i) b
part-set [] j i h = tt
part-set (k ∷ b) zero i h = (h.low, h.high, part-same b)
part-set (k ∷ b) (suc j) i h = (omega (arith, ints), omega (arith, ints), part-set b j i h)

-- ---- steps

in-same : (i : Interval) → IsIn i i
in-same i = record { low = omega (arith, ints); high = omega (arith, ints) }

narrowed-in : (a c : ℤ) (i : Interval) → IsIn (narrowed a c i) i
narrowed-in (pos zero) c i = in-same i
narrowed-in (pos (suc n)) c i = record { low = omega (arith, ints); high = omega (arith, ints, clamps) }
narrowed-in (negsuc n) c i = record { low = omega (arith, ints, clamps); high = omega (arith, ints) }

upper-in : (terms : Terms) (u : Option ℤ) (j : ℕ) (box : Box) → IsIn (by_upper terms u j box) (interval_at box j)
upper-in terms None j box = in-same (interval_at box j)
upper-in terms (Some u) j box = narrowed-in (coefficient j terms) (u -ℤ least_sum (without j terms) box) (interval_at box j)

lower-in : (terms : Terms) (w : Option ℤ) (j : ℕ) (box : Box) → IsIn (by_lower terms w j box) (interval_at box j)
lower-in terms None j box = in-same (interval_at box j)
lower-in terms (Some w) j box = narrowed-in (neg_ℤ (coefficient j terms)) (greatest_sum (without j terms) box -ℤ w) (interval_at box j)

by-in : (terms : Terms) (e : Ends) (side : RowEnd) (j : ℕ) (box : Box) → IsIn (left_by terms e side j box) (interval_at box j)
by-in terms e Lower j box = lower-in terms e.lower j box
by-in terms e Upper j box = upper-in terms e.upper j box

left-in : (rows : List Terms) (ends : List Ends) (step : Step) (box : Box) → IsIn (left_of rows ends step box) (interval_at box step.column)
left-in rows ends step box = by-in (slice_index_or rows step.row []) (slice_index_or ends step.row (record { lower = None; upper = None })) step.side step.column box

with-part : (box t : Box) (j : ℕ) (i : Interval) → IsIn i (interval_at box j) → with_interval box j i ≡ Some t → IsPart t box
with-part box t j i h e = by (int_lt i.high i.low) refl e
  where
    by : (empty : Bool) → int_lt i.high i.low ≡ empty → (if empty then None else Some (slice_set box j i)) ≡ Some t → IsPart t box
    by true p f = absurd (cc)
    by false p f =
        let same : slice_set box j i ≡ t = cc in
        subst (λ (c : Box). IsPart c box) same (part-set box j i h)

tightened-part : (rows : List Terms) (ends : List Ends) (step : Step) (box t : Box) → tightened rows ends step box ≡ Some t → IsPart t box
tightened-part rows ends step box t e = with-part box t step.column (left_of rows ends step box) (left-in rows ends step box) e

-- a part that is left of what one step leaves
then-part : (rows : List Terms) (ends : List Ends) (step : Step) (box t : Box) (more : Box → Option Box) → ((mid : Box) → more mid ≡ Some t → IsPart t mid) → (o : Option Box) → tightened rows ends step box ≡ o → option_and_then more o ≡ Some t → IsPart t box
then-part rows ends step box t more later None p f = absurd (cc)
then-part rows ends step box t more later (Some mid) p f = part-trans t mid box (later mid f) (tightened-part rows ends step box mid p)

-- steps leave a part of the box
pub steps-part : (rows : List Terms) (ends : List Ends) (steps : List Step) (box t : Box) → tightened_by rows ends steps box ≡ Some t → IsPart t box
steps-part rows ends [] box t e =
    let same : box ≡ t = cc in
    subst (λ (c : Box). IsPart c box) same (part-same box)
steps-part rows ends (step ∷ steps) box t e = then-part rows ends step box t (tightened_by rows ends steps) (λ mid. steps-part rows ends steps mid t) (tightened rows ends step box) refl e

-- ---- intervals by the sides of a box

pub low-at : (lows highs : List ℤ) (j : ℕ) → length lows ≡ length highs → (interval_at (box_of lows highs) j).low ≡ slice_index_or lows j (pos 0)
low-at [] highs j same = refl
low-at (l ∷ lows) [] j same = absurd (omega arith)
low-at (l ∷ lows) (h ∷ highs) zero same = refl
low-at (l ∷ lows) (h ∷ highs) (suc j) same = low-at lows highs j (omega arith)

pub high-at : (lows highs : List ℤ) (j : ℕ) → length lows ≡ length highs → (interval_at (box_of lows highs) j).high ≡ slice_index_or highs j (pos 0)
high-at [] [] j same = refl
high-at [] (h ∷ highs) j same = absurd (omega arith)
high-at (l ∷ lows) [] j same = absurd (omega arith)
high-at (l ∷ lows) (h ∷ highs) zero same = refl
high-at (l ∷ lows) (h ∷ highs) (suc j) same = high-at lows highs j (omega arith)

or-none : (a b : Bool) → (a || b) ≡ false → (a ≡ false) × (b ≡ false)
or-none true b e = absurd (cc)
or-none false b e = (refl, e)

-- in a box that isn't empty no interval is
pub ordered-at : (b : Box) (j : ℕ) → is_empty b ≡ false → (interval_at b j).low ≤ℤ (interval_at b j).high
ordered-at [] j e = omega (arith, ints)
ordered-at (i ∷ b) zero e = omega (arith, ints, (or-none (int_lt i.high i.low) (is_empty b) e).0)
ordered-at (i ∷ b) (suc j) e = ordered-at b j (or-none (int_lt i.high i.low) (is_empty b) e).1

-- an interval of a box within the limits
pub record IsSmall (i : Interval) : Type 0 where
  pub low : IsBound i.low
  pub high : IsBound i.high

pub small-at : (m : IntegerModel) (e : Engine) (j : ℕ) → IsLoaded m e → j < length m.columns → IsSmall (interval_at (box_in e) j)
small-at m e j loaded h =
    let same : length e.low.items ≡ length e.high.items = omega (arith, loaded.sized.lows, loaded.sized.highs) in
    record {
      low = subst IsBound (sym (low-at e.low.items e.high.items j same)) (loaded.lows j (pos 0) (omega (arith, loaded.sized.lows)));
      high = subst IsBound (sym (high-at e.low.items e.high.items j same)) (loaded.highs j (pos 0) (omega (arith, loaded.sized.highs)));
    }

-- a number between the ends of such an interval
pub between-small : (i : Interval) (z : ℤ) → IsSmall i → i.low ≤ℤ z → z ≤ℤ i.high → IsBound z
between-small i z s l h = omega (arith, ints, s.low, s.high, l, h)

pub lows-at : (b : Box) (j : ℕ) → slice_index_or (map (λ (i : Interval). i.low) b) j (pos 0) ≡ (interval_at b j).low
lows-at [] j = refl
lows-at (i ∷ b) zero = refl
lows-at (i ∷ b) (suc j) = lows-at b j

pub highs-at : (b : Box) (j : ℕ) → slice_index_or (map (λ (i : Interval). i.high) b) j (pos 0) ≡ (interval_at b j).high
highs-at [] j = refl
highs-at (i ∷ b) zero = refl
highs-at (i ∷ b) (suc j) = highs-at b j

-- a part by the sides of both boxes
pub part-by-sides : (a b : Box) → length a ≡ length b → ((k : ℕ) → k < length b → IsIn (interval_at a k) (interval_at b k)) → IsPart a b
part-by-sides [] [] same h = tt
part-by-sides [] (k ∷ b) same h = absurd (omega arith)
part-by-sides (i ∷ a) [] same h = absurd (omega arith)
part-by-sides (i ∷ a) (k ∷ b) same h =
    let first : IsIn i k = h 0 (omega arith) in
    (first.low, first.high, part-by-sides a b (omega arith) (λ j l. h (suc j) (omega arith)))

pub sides-part : (a b : Box) (al ah bl bh : List ℤ) → al ≡ map (λ (i : Interval). i.low) a → ah ≡ map (λ (i : Interval). i.high) a → bl ≡ map (λ (i : Interval). i.low) b → bh ≡ map (λ (i : Interval). i.high) b → length al ≡ length bl → ((k : ℕ) → k < length bl → (slice_index_or bl k (pos 0) ≤ℤ slice_index_or al k (pos 0)) × (slice_index_or ah k (pos 0) ≤ℤ slice_index_or bh k (pos 0))) → IsPart a b
sides-part a b al ah bl bh e f g h same inside =
    let a_count : length al ≡ length a = ap length e ∙ length-map a (λ (i : Interval). i.low) in
    let b_count : length bl ≡ length b = ap length g ∙ length-map b (λ (i : Interval). i.low) in
    part-by-sides a b (omega (arith, a_count, b_count, same)) (λ k l.
    let a_low = ap (λ (z : List ℤ). slice_index_or z k (pos 0)) e ∙ lows-at a k in
    let a_high = ap (λ (z : List ℤ). slice_index_or z k (pos 0)) f ∙ highs-at a k in
    let b_low = ap (λ (z : List ℤ). slice_index_or z k (pos 0)) g ∙ lows-at b k in
    let b_high = ap (λ (z : List ℤ). slice_index_or z k (pos 0)) h ∙ highs-at b k in
    let here = inside k (omega (arith, l, b_count)) in
    record { low = omega (arith, ints, a_low, b_low, here.0); high = omega (arith, ints, a_high, b_high, here.1) })
