-- The level where a search begins.
use Rattle.std.specs.Prelude.{◌≡◌, ℕ, zero, suc, ◌^◌, ◌<◌, ◌≤◌, ℤ, pos, negsuc, ◌+ℤ◌, ◌-ℤ◌, ◌*ℤ◌, neg_ℤ, ◌≤ℤ◌, unsigned_abs, Bool, true, false, cond, List, [], ◌∷◌, length, map, drop, slice_index_or, All, refl}
use Rattle.std.specs.Int.{int_max, int_min, int_div_euclid}
use Rattle.std.proofs.Common.{arith, ap, sym, ◌∙◌, subst}
use Rattle.std.proofs.lemmas.Int.{ints, clamps}
use Rattle.std.proofs.Math.Seq.{drop-cons}
use Rattle.std.proofs.lemmas.List.Elements.{All-head, All-rest}
use Rattle.int_model.specs.Integers.{ceil_div}
use Rattle.int_model.specs.Boxes.{Interval, Box, box_of, is_empty, meet, hull, hull_of}
use Rattle.int_model.specs.Programs.{Program, Terms}
use Rattle.int_model.specs.RowSums.{least_product}
use Rattle.dual_bounds.specs.Vectors.{Multipliers, least_reduced, program_bound, within_range}
use Rattle.scenario_changes.specs.Problems.{IsWithin, Problem, AreWithin, program_at, root_box}
use Rattle.certs.specs.Costs.{least_cost}
use Rattle.certs.specs.Verdicts.{plain_level, start_level}
use Rattle.certs.specs.declared.level.Level.TheVariants.{Value, Inf}

-- ---- the least sum of costs

-- one column more
pub least-more : (costs lows highs : List ℤ) (j : ℕ) (whole s r t : ℤ) → j < length costs → j < length lows → j < length highs → whole ≡ s +ℤ least_cost (drop j costs) (box_of (drop j lows) (drop j highs)) → r ≡ least_product (slice_index_or costs j (pos 0)) (record { low = slice_index_or lows j (pos 0); high = slice_index_or highs j (pos 0) }) → t ≡ s +ℤ r → whole ≡ t +ℤ least_cost (drop (suc j) costs) (box_of (drop (suc j) lows) (drop (suc j) highs))
least-more costs lows highs j whole s r t a b c before is after =
    let cost : ℤ = slice_index_or costs j (pos 0) in
    let low : ℤ = slice_index_or lows j (pos 0) in
    let step : least_cost (drop j costs) (box_of (drop j lows) (drop j highs)) ≡ least_product cost (record { low = low; high = slice_index_or highs j (pos 0) }) +ℤ least_cost (drop (suc j) costs) (box_of (drop (suc j) lows) (drop (suc j) highs)) =
    ap (λ (xs : List ℤ). least_cost xs (box_of (drop j lows) (drop j highs))) (drop-cons costs j (pos 0) a)
    ∙ ap (λ (ls : List ℤ). least_cost (cost ∷ drop (suc j) costs) (box_of ls (drop j highs))) (drop-cons lows j (pos 0) b)
    ∙ ap (λ (hs : List ℤ). least_cost (cost ∷ drop (suc j) costs) (box_of (low ∷ drop (suc j) lows) hs)) (drop-cons highs j (pos 0) c) in
    omega (arith, ints, before, is, after, step)

one_cost : (c : ℤ) → pos 1 *ℤ c -ℤ pos 0 ≡ c
one_cost c = omega (arith, ints)

-- with the scale 1 and no multipliers the reduced costs are the costs
reduced-none : (rows : List Terms) (j : ℕ) (costs : List ℤ) (box : Box) → least_reduced rows 1 [] j costs box ≡ least_cost costs box
reduced-none rows j [] box = refl
reduced-none rows j (c ∷ costs) [] = refl
reduced-none rows j (c ∷ costs) (i ∷ box) =
    let here : least_product (pos 1 *ℤ c -ℤ pos 0) i ≡ least_product c i = ap (λ (z : ℤ). least_product z i) (one_cost c) in
    omega (arith, ints, here, reduced-none rows (suc j) costs box)

div_one : (z : ℤ) → int_div_euclid z (pos 1) ≡ z
div_one (pos m) = omega (arith, ints)
div_one (negsuc m) = omega (arith, ints)

ceil_one : (z : ℤ) → ceil_div z (pos 1) ≡ z
ceil_one z = ap neg_ℤ (div_one (neg_ℤ z)) ∙ omega (arith, ints)

in_range : (z : ℤ) → unsigned_abs z ≤ 2 ^ 60 → within_range z ≡ z
in_range z h = omega (arith, ints, clamps, h)

abbrev plain : Multipliers
plain = record { scale = 1; entries = [] }

plain-bound : (p : Program) (box : Box) (sum : ℤ) → sum ≡ least_cost p.costs box → unsigned_abs (sum +ℤ p.constant) ≤ 2 ^ 60 → program_bound p plain box ≡ sum +ℤ p.constant
plain-bound p box sum e h =
    let none : pos 0 +ℤ least_reduced p.rows 1 [] 0 p.costs box ≡ sum = omega (arith, ints, reduced-none p.rows 0 p.costs box, e) in
    ap (λ (z : ℤ). within_range (ceil_div z (pos 1) +ℤ p.constant)) none ∙ ap (λ (z : ℤ). within_range (z +ℤ p.constant)) (ceil_one sum) ∙ in_range (sum +ℤ p.constant) h

-- ---- boxes that contain a box

Contains : Box → Box → Type 0
Contains [] [] = Unit {0}
Contains [] (k ∷ other) = ⊥
Contains (i ∷ box) [] = ⊥
Contains (i ∷ box) (k ∷ other) = (i.low ≤ℤ k.low) × (k.high ≤ℤ i.high) × Contains box other

interval_is : (l h a b : ℤ) → l ≡ a → h ≡ b → let i : Interval = record { low = l; high = h } in let k : Interval = record { low = a; high = b } in i ≡ k
interval_is l h a b e f = rw (e, f) refl

greater_is : (a b : ℤ) → a ≤ℤ b → int_max a b ≡ b
greater_is a b h = omega (arith, ints, clamps, h)

lesser_is : (a b : ℤ) → b ≤ℤ a → int_min a b ≡ b
lesser_is a b h = omega (arith, ints, clamps, h)

meet-part : (box part : Box) → Contains box part → meet box part ≡ part
unfolding Contains
meet-part [] [] h = refl
meet-part [] (k ∷ part) h = absurd h
meet-part (i ∷ box) [] h = absurd h
meet-part (i ∷ box) (k ∷ part) h =
    ap (λ (n : Interval). n ∷ meet box part) (interval_is (int_max i.low k.low) (int_min i.high k.high) k.low k.high (greater_is i.low k.low h.0) (lesser_is i.high k.high h.1))
    ∙ ap (λ (b : Box). k ∷ b) (meet-part box part h.2)

contains-self : (box : Box) → Contains box box
unfolding Contains
contains-self [] = tt
contains-self (i ∷ box) = (omega (arith, ints), omega (arith, ints), contains-self box)

contains-left : (box other : Box) → length box ≡ length other → Contains (hull box other) box
unfolding Contains
contains-left [] other h = tt
contains-left (i ∷ box) [] h = absurd (omega arith)
contains-left (i ∷ box) (k ∷ other) h = (omega (arith, ints, clamps), omega (arith, ints, clamps), contains-left box other (omega arith))

contains-right : (box other part : Box) → length box ≡ length other → Contains other part → Contains (hull box other) part
unfolding Contains
contains-right [] [] part h c = c
contains-right [] (k ∷ other) part h c = absurd (omega arith)
contains-right (i ∷ box) [] part h c = absurd (omega arith)
contains-right (i ∷ box) (k ∷ other) [] h c = absurd c
contains-right (i ∷ box) (k ∷ other) (p ∷ part) h c = (omega (arith, ints, clamps, c.0), omega (arith, ints, clamps, c.1), contains-right box other part (omega arith) c.2)

abbrev boxes_of : List Program → List Box
boxes_of ps = map (λ (p : Program). p.bounds) ps

length-hull : (box other : Box) → length box ≡ length other → length (hull box other) ≡ length box
length-hull [] other h = refl
length-hull (i ∷ box) [] h = absurd (omega arith)
length-hull (i ∷ box) (k ∷ other) h = ap suc (length-hull box other (omega arith))

-- each box has so many columns
AreWide : ℕ → List Program → Type 0
AreWide n [] = Unit {0}
AreWide n (p ∷ ps) = (length p.bounds ≡ n) × AreWide n ps

length-hull_of : (n : ℕ) (box : Box) (ps : List Program) → length box ≡ n → AreWide n ps → length (hull_of box (boxes_of ps)) ≡ n
unfolding AreWide
length-hull_of n box [] e h = e
length-hull_of n box (p ∷ ps) e h =
    let rest : length (hull_of p.bounds (boxes_of ps)) ≡ n = length-hull_of n p.bounds ps h.0 h.1 in
    length-hull box (hull_of p.bounds (boxes_of ps)) (e ∙ sym rest) ∙ e

contains-first : (n : ℕ) (box : Box) (ps : List Program) → length box ≡ n → AreWide n ps → Contains (hull_of box (boxes_of ps)) box
unfolding AreWide
contains-first n box [] e h = contains-self box
contains-first n box (p ∷ ps) e h = contains-left box (hull_of p.bounds (boxes_of ps)) (e ∙ sym (length-hull_of n p.bounds ps h.0 h.1))

contains-each : (n : ℕ) (box : Box) (ps : List Program) (s : ℕ) (d : Program) → length box ≡ n → AreWide n ps → s < length ps → Contains (hull_of box (boxes_of ps)) (slice_index_or ps s d).bounds
unfolding AreWide
contains-each n box [] s d e h lt = absurd (omega arith)
contains-each n box (p ∷ ps) zero d e h lt =
    contains-right box (hull_of p.bounds (boxes_of ps)) p.bounds (e ∙ sym (length-hull_of n p.bounds ps h.0 h.1)) (contains-first n p.bounds ps h.0 h.1)
contains-each n box (p ∷ ps) (suc s) d e h lt =
    contains-right box (hull_of p.bounds (boxes_of ps)) (slice_index_or ps s d).bounds (e ∙ sym (length-hull_of n p.bounds ps h.0 h.1)) (contains-each n p.bounds ps s d h.0 h.1 (omega arith))

wide-all : (n m : ℕ) (ps : List Program) → All (IsWithin n m) ps → AreWide n ps
unfolding AreWide
wide-all n m [] h = tt
wide-all n m (p ∷ ps) h = ((All-head (IsWithin n m) p ps h).shape.bounds, wide-all n m ps (All-rest (IsWithin n m) p ps (p ∷ ps) refl h))

contains-root : (n : ℕ) (ps : List Program) (s : ℕ) (d : Program) → AreWide n ps → s < length ps → Contains (root_box ps) (slice_index_or ps s d).bounds
unfolding AreWide
contains-root n [] s d h lt = absurd (omega arith)
contains-root n (p ∷ ps) zero d h lt = contains-first n p.bounds ps h.0 h.1
contains-root n (p ∷ ps) (suc s) d h lt = contains-each n p.bounds ps s d h.0 h.1 (omega arith)

-- the root box's part in a scenario's bounds is the whole of them
pub root-part : (p : Problem) (s : ℕ) → AreWithin p → s < length p.scenarios → meet (root_box p.scenarios) (program_at p s).bounds ≡ (program_at p s).bounds
root-part p s h lt =
    meet-part (root_box p.scenarios) (program_at p s).bounds (contains-root p.columns p.scenarios s (record { costs = []; constant = pos 0; bounds = []; rows = []; ends = [] }) (wide-all p.columns p.rows p.scenarios h.programs) lt)

-- ---- the level

pub start-empty : (p : Problem) (s : ℕ) (box : Box) → AreWithin p → s < length p.scenarios → box ≡ (program_at p s).bounds → is_empty box ≡ true → Inf ≡ start_level (root_box p.scenarios) (program_at p s)
start-empty p s box h lt e q =
    let part : meet (root_box p.scenarios) (program_at p s).bounds ≡ box = root-part p s h lt ∙ sym e in
    sym (ap (plain_level (program_at p s)) part ∙ rw q refl)

pub start-value : (p : Problem) (s : ℕ) (box : Box) (sum constant : ℤ) → AreWithin p → s < length p.scenarios → box ≡ (program_at p s).bounds → is_empty box ≡ false → sum ≡ least_cost (program_at p s).costs box → (program_at p s).constant ≡ constant → unsigned_abs (sum +ℤ constant) ≤ 2 ^ 60 → Value (sum +ℤ constant) ≡ start_level (root_box p.scenarios) (program_at p s)
start-value p s box sum constant h lt e q is k small =
    let part : meet (root_box p.scenarios) (program_at p s).bounds ≡ box = root-part p s h lt ∙ sym e in
    let limit : unsigned_abs (sum +ℤ (program_at p s).constant) ≤ 2 ^ 60 = subst (λ (z : ℤ). unsigned_abs (sum +ℤ z) ≤ 2 ^ 60) (sym k) small in
    let bound : program_bound (program_at p s) plain box ≡ sum +ℤ constant = plain-bound (program_at p s) box sum is limit ∙ ap (λ (z : ℤ). sum +ℤ z) k in
    sym (ap (plain_level (program_at p s)) part ∙ occupied (is_empty box) q ∙ ap (λ (z : ℤ). Value z) bound)
  where
    occupied : (b : Bool) → b ≡ false → cond b Inf (Value (program_bound (program_at p s) plain box)) ≡ Value (program_bound (program_at p s) plain box)
    occupied true f = absurd (cc)
    occupied false f = refl
