-- The root box, one scenario after another.
use Rattle.std.specs.Prelude.{◌≡◌, ℕ, suc, ◌+◌, ◌<◌, ◌≤◌, ℤ, List, [], ◌∷◌, length, map, drop, slice_index_or, pos, refl}
use Rattle.std.specs.List.{All}
use Rattle.std.specs.Int.{int_min, int_max}
use Rattle.std.proofs.Common.{arith, ap, sym, ◌∙◌, subst}
use Rattle.std.proofs.lemmas.Int.{ints, clamps}
use Rattle.std.proofs.lemmas.List.{drop_more, drop_all}
use Rattle.std.proofs.lemmas.List.Elements.{All-nil, All-cons, All-head, All-rest}
use Rattle.int_model.specs.Limits.{IsBound}
use Rattle.int_model.specs.Boxes.{Box, Interval, box_of, hull, hull_of}
use Rattle.int_model.specs.Programs.{Program}
use Rattle.scenario_changes.specs.Problems.{Scenarios, problem, program_at, lesser, greater, root_box}
use Rattle.scenario_changes.proofs.ProblemLaws.{bounds-read}

pub peel-lesser : (xs ys : List ℤ) (k : ℕ) (d : ℤ) → k < length xs → k < length ys → lesser (drop k xs) (drop k ys) ≡ int_min (slice_index_or xs k d) (slice_index_or ys k d) ∷ lesser (drop (k + 1) xs) (drop (k + 1) ys)
peel-lesser xs ys k d h i = ap (λ (as' : List ℤ). lesser as' (drop k ys)) (drop_more xs k d h) ∙ ap (λ (bs : List ℤ). lesser (slice_index_or xs k d ∷ drop (k + 1) xs) bs) (drop_more ys k d i)

pub peel-greater : (xs ys : List ℤ) (k : ℕ) (d : ℤ) → k < length xs → k < length ys → greater (drop k xs) (drop k ys) ≡ int_max (slice_index_or xs k d) (slice_index_or ys k d) ∷ greater (drop (k + 1) xs) (drop (k + 1) ys)
peel-greater xs ys k d h i = ap (λ (as' : List ℤ). greater as' (drop k ys)) (drop_more xs k d h) ∙ ap (λ (bs : List ℤ). greater (slice_index_or xs k d ∷ drop (k + 1) xs) bs) (drop_more ys k d i)

length-lesser : (xs ys : List ℤ) → length xs ≡ length ys → length (lesser xs ys) ≡ length xs
length-lesser [] ys e = refl
length-lesser (x ∷ xs) [] e = absurd (omega arith)
length-lesser (x ∷ xs) (y ∷ ys) e = ap suc (length-lesser xs ys (omega arith))

length-greater : (xs ys : List ℤ) → length xs ≡ length ys → length (greater xs ys) ≡ length xs
length-greater [] ys e = refl
length-greater (x ∷ xs) [] e = absurd (omega arith)
length-greater (x ∷ xs) (y ∷ ys) e = ap suc (length-greater xs ys (omega arith))

lesser-small : (xs ys : List ℤ) → All IsBound xs → All IsBound ys → All IsBound (lesser xs ys)
lesser-small [] ys a b = All-nil IsBound
lesser-small (x ∷ xs) [] a b = All-nil IsBound
lesser-small (x ∷ xs) (y ∷ ys) a b =
    let left : IsBound x = All-head IsBound x xs a in
    let right : IsBound y = All-head IsBound y ys b in
    All-cons IsBound (int_min x y) (lesser xs ys) (omega (arith, ints, clamps, left, right)) (lesser-small xs ys (All-rest IsBound x xs (x ∷ xs) refl a) (All-rest IsBound y ys (y ∷ ys) refl b))

greater-small : (xs ys : List ℤ) → All IsBound xs → All IsBound ys → All IsBound (greater xs ys)
greater-small [] ys a b = All-nil IsBound
greater-small (x ∷ xs) [] a b = All-nil IsBound
greater-small (x ∷ xs) (y ∷ ys) a b =
    let left : IsBound x = All-head IsBound x xs a in
    let right : IsBound y = All-head IsBound y ys b in
    All-cons IsBound (int_max x y) (greater xs ys) (omega (arith, ints, clamps, left, right)) (greater-small xs ys (All-rest IsBound x xs (x ∷ xs) refl a) (All-rest IsBound y ys (y ∷ ys) refl b))

-- ---- hulls

hull-sides : (ls hs ms ks : List ℤ) → length ls ≡ length hs → length ms ≡ length ks → length ls ≡ length ms → hull (box_of ls hs) (box_of ms ks) ≡ box_of (lesser ls ms) (greater hs ks)
hull-sides [] hs ms ks a b c = refl
hull-sides (l ∷ ls) [] ms ks a b c = absurd (omega arith)
hull-sides (l ∷ ls) (h ∷ hs) [] ks a b c = absurd (omega arith)
hull-sides (l ∷ ls) (h ∷ hs) (m ∷ ms) [] a b c = absurd (omega arith)
hull-sides (l ∷ ls) (h ∷ hs) (m ∷ ms) (k ∷ ks) a b c =
    ap (λ (box : Box). record { low = int_min l m; high = int_max h k } ∷ box) (hull-sides ls hs ms ks (omega arith) (omega arith) (omega arith))

hull-assoc : (a b c : Box) → hull a (hull b c) ≡ hull (hull a b) c
hull-assoc [] b c = refl
hull-assoc (i ∷ a) [] c = refl
hull-assoc (i ∷ a) (j ∷ b) [] = refl
hull-assoc (i ∷ a) (j ∷ b) (k ∷ c) =
    let low : int_min i.low (int_min j.low k.low) ≡ int_min (int_min i.low j.low) k.low = omega (arith, ints, clamps) in
    let high : int_max i.high (int_max j.high k.high) ≡ int_max (int_max i.high j.high) k.high = omega (arith, ints, clamps) in
    ap (λ (z : ℤ). record { low = z; high = int_max i.high (int_max j.high k.high) } ∷ hull a (hull b c)) low
    ∙ ap (λ (z : ℤ). record { low = int_min (int_min i.low j.low) k.low; high = z } ∷ hull a (hull b c)) high
    ∙ ap (λ (box : Box). record { low = int_min (int_min i.low j.low) k.low; high = int_max (int_max i.high j.high) k.high } ∷ box) (hull-assoc a b c)

hull_of-hull : (a b : Box) (rest : List Box) → hull_of a (b ∷ rest) ≡ hull_of (hull a b) rest
hull_of-hull a b [] = refl
hull_of-hull a b (c ∷ cs) = hull-assoc a b (hull_of c cs)

pub root-start : (ps : List Program) (d : Program) → 0 < length ps → hull_of (slice_index_or ps 0 d).bounds (map (λ (p : Program). p.bounds) (drop 1 ps)) ≡ root_box ps
root-start [] d h = absurd (omega arith)
root-start (p ∷ ps) d h = refl

-- the sides of the box of the scenarios so far
pub record SidesAre (n : ℕ) (lows highs : List ℤ) : Type 0 where
  pub low_count : length lows ≡ n
  pub high_count : length highs ≡ n
  pub small_lows : All IsBound lows
  pub small_highs : All IsBound highs

pub sides-step : (n : ℕ) (lows highs ls hs new_lows new_highs : List ℤ) → SidesAre n lows highs → SidesAre n ls hs → new_lows ≡ lesser lows ls → new_highs ≡ greater highs hs → SidesAre n new_lows new_highs
sides-step n lows highs ls hs new_lows new_highs a b e f = record {
  low_count = ap length e ∙ length-lesser lows ls (a.low_count ∙ sym b.low_count) ∙ a.low_count;
  high_count = ap length f ∙ length-greater highs hs (a.high_count ∙ sym b.high_count) ∙ a.high_count;
  small_lows = subst (λ (xs : List ℤ). All IsBound xs) (sym e) (lesser-small lows ls a.small_lows b.small_lows);
  small_highs = subst (λ (xs : List ℤ). All IsBound xs) (sym f) (greater-small highs hs a.small_highs b.small_highs);
}

pub root-step : (ps : List Program) (d : Program) (s n : ℕ) (lows highs ls hs new_lows new_highs : List ℤ) → s < length ps → SidesAre n lows highs → SidesAre n ls hs → box_of ls hs ≡ (slice_index_or ps s d).bounds → new_lows ≡ lesser lows ls → new_highs ≡ greater highs hs → hull_of (box_of lows highs) (map (λ (p : Program). p.bounds) (drop s ps)) ≡ root_box ps → hull_of (box_of new_lows new_highs) (map (λ (p : Program). p.bounds) (drop (s + 1) ps)) ≡ root_box ps
root-step ps d s n lows highs ls hs new_lows new_highs lt a b at e f before =
    let rest : List Box = map (λ (p : Program). p.bounds) (drop (s + 1) ps) in
    let made : box_of new_lows new_highs ≡ hull (box_of lows highs) (slice_index_or ps s d).bounds =
    ap (λ (xs : List ℤ). box_of xs new_highs) e ∙ ap (λ (xs : List ℤ). box_of (lesser lows ls) xs) f
    ∙ sym (hull-sides lows highs ls hs (a.low_count ∙ sym a.high_count) (b.low_count ∙ sym b.high_count) (a.low_count ∙ sym b.low_count))
    ∙ ap (λ (box : Box). hull (box_of lows highs) box) at in
    ap (λ (box : Box). hull_of box rest) made ∙ sym (hull_of-hull (box_of lows highs) (slice_index_or ps s d).bounds rest)
    ∙ sym (ap (λ (qs : List Program). hull_of (box_of lows highs) (map (λ (p : Program). p.bounds) qs)) (drop_more ps s d lt)) ∙ before

pub root-end : (ps : List Program) (s : ℕ) (box : Box) → length ps ≤ s → hull_of box (map (λ (p : Program). p.bounds) (drop s ps)) ≡ root_box ps → box ≡ root_box ps
root-end ps s box h before = sym (ap (λ (qs : List Program). hull_of box (map (λ (p : Program). p.bounds) qs)) (drop_all s ps h)) ∙ before

pub root-begun : (p : Scenarios) (lows highs ls hs : List ℤ) → 0 < length (problem p).scenarios → lows ≡ ls → highs ≡ hs → ls ≡ map (λ (i : Interval). i.low) (program_at (problem p) 0).bounds → hs ≡ map (λ (i : Interval). i.high) (program_at (problem p) 0).bounds → hull_of (box_of lows highs) (map (λ (q : Program). q.bounds) (drop 1 (problem p).scenarios)) ≡ root_box (problem p).scenarios
root-begun p lows highs ls hs some a b c d =
    let made : box_of lows highs ≡ (program_at (problem p) 0).bounds = ap (λ (xs : List ℤ). box_of xs highs) a ∙ ap (λ (xs : List ℤ). box_of ls xs) b ∙ bounds-read p 0 ls hs c d in
    ap (λ (box : Box). hull_of box (map (λ (q : Program). q.bounds) (drop 1 (problem p).scenarios))) made ∙ root-start (problem p).scenarios (record { costs = []; constant = pos 0; bounds = []; rows = []; ends = [] }) some
