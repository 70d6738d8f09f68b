-- Boxes that are compared, and cut in place.
use Rattle.std.specs.Prelude.{◌≡◌, ℕ, zero, suc, ℤ, pos, ◌≤ℤ◌, ◌<ℤ◌, ◌+ℤ◌, int_le, int_lt, true, List, [], ◌∷◌, map, slice_index_or, slice_set, Some, refl}
use Rattle.std.specs.Int.{int_min, int_max}
use Rattle.std.proofs.Common.{arith, ap, sym, ◌∙◌, get_or, FitsSigned, w32}
use Rattle.std.proofs.lemmas.Int.{ints}
use Rattle.std.proofs.lemmas.Bool.{and_parts}
use Rattle.int_model.specs.Boxes.{Box, Interval, interval_at, at_most, at_least, below_cut, above_cut}
use Rattle.certs.specs.Trees.{splits_inside}
use Rattle.certs.proofs.ProblemLemmas.{sides_same}

pub same_ends : (a b : Box) → map (λ (i : Interval). i.low) a ≡ map (λ (i : Interval). i.low) b → map (λ (i : Interval). i.high) a ≡ map (λ (i : Interval). i.high) b → a ≡ b
same_ends a b e g =
    let lows = map (λ (i : Interval). i.low) a in
    let highs = map (λ (i : Interval). i.high) a in
    sym (sides_same a lows highs refl refl) ∙ sides_same b lows highs e g

-- ---- the ends of one column

pub low_at : (box : Box) (j : ℕ) → slice_index_or (map (λ (i : Interval). i.low) box) j (pos 0) ≡ (interval_at box j).low
low_at [] j = refl
low_at (i ∷ box) zero = refl
low_at (i ∷ box) (suc j) = low_at box j

pub high_at : (box : Box) (j : ℕ) → slice_index_or (map (λ (i : Interval). i.high) box) j (pos 0) ≡ (interval_at box j).high
high_at [] j = refl
high_at (i ∷ box) zero = refl
high_at (i ∷ box) (suc j) = high_at box j

-- the column's numbers around the value
pub record IsAround (box : Box) (j : ℕ) (v : ℤ) : Type 0 where
  pub low : (interval_at box j).low ≤ℤ v
  pub high : v <ℤ (interval_at box j).high

pub around : (box : Box) (j : ℕ) (v : ℤ) → splits_inside (Some box) j v ≡ true → IsAround box j v
around box j v e =
    let t = and_parts (int_le (interval_at box j).low v) (int_lt v (interval_at box j).high) e in
    record { low = grind (arith, ints, t.0); high = grind (arith, ints, t.1) }

-- ---- both parts, made in place

least : (a v : ℤ) → v <ℤ a → int_min a v ≡ v
least a v h = grind (arith, ints, h)

greatest : (a v : ℤ) → a ≤ℤ v → int_max a (v +ℤ pos 1) ≡ v +ℤ pos 1
greatest a v h = grind (arith, ints, h)

set_again : (box : Box) (j : ℕ) (i k : Interval) → slice_set (slice_set box j i) j k ≡ slice_set box j k
set_again [] j i k = refl
set_again (l ∷ box) zero i k = refl
set_again (l ∷ box) (suc j) i k = ap (λ (b : Box). l ∷ b) (set_again box j i k)

interval_of : ℤ → ℤ → Interval
interval_of low high = record { low = low; high = high }

pub below_is : (box : Box) (j : ℕ) (low v : ℤ) → splits_inside (Some box) j v ≡ true → low ≡ (interval_at box j).low → slice_set box j (record { low = low; high = v }) ≡ below_cut box j v
unfolding interval_of
below_is box j low v e l =
    let h : IsAround box j v = around box j v e in
    let cut : ◌≡◌ {A = Interval} (interval_of low v) (at_most (interval_at box j) v) = ap (λ (z : ℤ). interval_of z v) l ∙ ap (λ (z : ℤ). interval_of (interval_at box j).low z) (sym (least (interval_at box j).high v h.high)) in
    ap (λ (i : Interval). slice_set box j i) cut

pub above_is : (box : Box) (j : ℕ) (i : Interval) (high v : ℤ) → splits_inside (Some box) j v ≡ true → high ≡ (interval_at box j).high → slice_set (slice_set box j i) j (record { low = v +ℤ pos 1; high = high }) ≡ above_cut box j v
unfolding interval_of
above_is box j i high v e g =
    let h : IsAround box j v = around box j v e in
    let cut : ◌≡◌ {A = Interval} (interval_of (v +ℤ pos 1) high) (at_least (interval_at box j) (v +ℤ pos 1)) = ap (λ (z : ℤ). interval_of (v +ℤ pos 1) z) g ∙ ap (λ (z : ℤ). interval_of z (interval_at box j).high) (sym (greatest (interval_at box j).low v h.low)) in
    set_again box j i (interval_of (v +ℤ pos 1) high) ∙ ap (λ (k : Interval). slice_set box j k) cut

-- the same where the ends were read
pub made_below : (box first : Box) (lows : List ℤ) (j : ℕ) (v : ℤ) → splits_inside (Some box) j v ≡ true → lows ≡ map (λ (i : Interval). i.low) box → first ≡ slice_set box j (record { low = get_or lows j (pos 0); high = v }) → first ≡ below_cut box j v
made_below box first lows j v e l m = m ∙ below_is box j (get_or lows j (pos 0)) v e (ap (λ (xs : List ℤ). get_or xs j (pos 0)) l ∙ low_at box j)

pub made_above : (box first second : Box) (highs : List ℤ) (j : ℕ) (v : ℤ) (i : Interval) → splits_inside (Some box) j v ≡ true → highs ≡ map (λ (k : Interval). k.high) box → first ≡ slice_set box j i → second ≡ slice_set first j (record { low = v +ℤ pos 1; high = get_or highs j (pos 0) }) → second ≡ above_cut box j v
unfolding interval_of
made_above box first second highs j v i e h m n =
    n ∙ ap (λ (b : Box). slice_set b j (interval_of (v +ℤ pos 1) (get_or highs j (pos 0)))) m ∙ above_is box j i (get_or highs j (pos 0)) v e (ap (λ (xs : List ℤ). get_or xs j (pos 0)) h ∙ high_at box j)

-- the number after the value is a bound too
pub next_fits : (box : Box) (highs : List ℤ) (j : ℕ) (v : ℤ) → splits_inside (Some box) j v ≡ true → highs ≡ map (λ (k : Interval). k.high) box → FitsSigned w32 v → FitsSigned w32 (get_or highs j (pos 0)) → FitsSigned w32 (v +ℤ pos 1)
next_fits box highs j v e h f g =
    let a : IsAround box j v = around box j v e in
    let same : get_or highs j (pos 0) ≡ (interval_at box j).high = ap (λ (xs : List ℤ). get_or xs j (pos 0)) h ∙ high_at box j in
    let above : v <ℤ get_or highs j (pos 0) = rw same a.high in
    omega (arith, ints, above, f.sfits, g.sfits)
