-- How a dive ends.
use Rattle.std.proofs.Common.{◌≡◌, ◌∙◌, ◌↔◌, ap, sym, subst, refl, ℕ, zero, suc, ◌<◌, ◌≤◌, ℤ, pos, ◌*ℤ◌, ◌≤ℤ◌, List, [], ◌∷◌, length, map, get_or, Bool, true, false, true≢false, ◌||◌, Option, Some, None, IfSome, arith, slice_get, int_lt}
use Rattle.std.specs.Prelude.{Result, Ok, Err, IfOk}
use Rattle.std.specs.declared.alloc.AllocError.{AllocError}
use Rattle.std.proofs.lemmas.Int.{ints, clamps}
use Rattle.std.proofs.lemmas.List.{get_or-map, length-map}
use Rattle.std.proofs.lemmas.Option.{get_or_from_slice_get, slice_get_within}
use Rattle.int_model.specs.Integers.{int_at}
use Rattle.int_model.specs.Boxes.{Box, Interval, box_of, InBox, interval_at, is_empty, is_single}
use Rattle.int_model.specs.Programs.{Program, Terms, Feasible, MeetsRows, IsBetween, row_sum}
use Rattle.int_model.specs.RowSums.{least_product, greatest_product, least_sum, greatest_sum, is_above, is_below, misses_ends, row_misses}
use Rattle.int_model.specs.Models.{IntegerModel}
use Rattle.int_model.specs.declared.model.Ends.{Ends}
use Rattle.int_model.specs.declared.model.Row.{Row}
use Rattle.int_model.proofs.BoxLaws.{tells-points, length-InBox}
use Rattle.int_model.proofs.RowSumLaws.{row_misses-none}
use Rattle.scenario_changes.specs.Changes.{no_change}
use Rattle.scenario_changes.specs.Problems.{Scenarios, problem, program_at, scenario_of, solved}
use Rattle.dive.specs.Dives.{LiesIn, MissesNone, IsMissing, IsFound, IsStuck, IsPart, IsDive, FindsPoint, DecidesSingle}
use Rattle.dive.specs.declared.outcome.Dive.{Dive}
use Rattle.dive.specs.declared.outcome.Dive.TheVariants.{Point, Stuck}
use Rattle.dive.proofs.PartLemmas.{part-same, part-trans, part-length, part-in}

abbrev pub lows_of : Box → List ℤ
lows_of b = map (λ (i : Interval). i.low) b

-- the single box of a point
abbrev pub single : List ℤ → Box
single x = box_of x x

-- ---- the least corner of a box that isn't empty

or_none : (a b : Bool) → (a || b) ≡ false → (a ≡ false) × (b ≡ false)
or_none true b e = absurd (cc)
or_none false b e = (refl, e)

ordered : (i : Interval) → int_lt i.high i.low ≡ false → i.low ≤ℤ i.high
ordered i e = omega (arith, ints, e)

not_above : (l : ℤ) → int_lt l l ≡ false
not_above l = grind (arith, ints)

pub single-occupied : (x : List ℤ) → is_empty (single x) ≡ false
single-occupied [] = refl
single-occupied (l ∷ x) = rw (not_above l) (single-occupied x)

pub corner-part : (b : Box) → is_empty b ≡ false → IsPart (single (lows_of b)) b
corner-part [] e = tt
corner-part (i ∷ b) e =
    let parts = or_none (int_lt i.high i.low) (is_empty b) e in
    (omega (arith, ints), ordered i parts.0, corner-part b parts.1)

-- ---- rows over a single box

single-at : (x : List ℤ) (j : ℕ) → interval_at (single x) j ≡ record { low = int_at x j; high = int_at x j }
single-at [] j = refl
single-at (l ∷ x) zero = refl
single-at (l ∷ x) (suc j) = single-at x j

least-one : (a l : ℤ) → least_product a (record { low = l; high = l }) ≡ a *ℤ l
least-one a l = omega (arith, ints, clamps)

greatest-one : (a l : ℤ) → greatest_product a (record { low = l; high = l }) ≡ a *ℤ l
greatest-one a l = omega (arith, ints, clamps)

least-single : (terms : Terms) (x : List ℤ) → least_sum terms (single x) ≡ row_sum terms x
least-single [] x = refl
least-single ((j, a) ∷ terms) x =
    let one : least_product a (interval_at (single x) j) ≡ a *ℤ int_at x j = ap (least_product a) (single-at x j) ∙ least-one a (int_at x j) in
    omega (arith, ints, one, least-single terms x)

greatest-single : (terms : Terms) (x : List ℤ) → greatest_sum terms (single x) ≡ row_sum terms x
greatest-single [] x = refl
greatest-single ((j, a) ∷ terms) x =
    let one : greatest_product a (interval_at (single x) j) ≡ a *ℤ int_at x j = ap (greatest_product a) (single-at x j) ∙ greatest-one a (int_at x j) in
    omega (arith, ints, one, greatest-single terms x)

above-met : (u : Option ℤ) (s : ℤ) → is_above u s ≡ false → IfSome u (λ z. s ≤ℤ z)
above-met None s e = tt
above-met (Some u) s e = omega (arith, ints)

below-met : (w : Option ℤ) (s : ℤ) → is_below w s ≡ false → IfSome w (λ z. z ≤ℤ s)
below-met None s e = tt
below-met (Some w) s e = omega (arith, ints)

met : (terms : Terms) (e : Ends) (x : List ℤ) → misses_ends terms e (single x) ≡ false → IsBetween e (row_sum terms x)
met terms e x m =
    let parts = or_none (is_above e.upper (least_sum terms (single x))) (is_below e.lower (greatest_sum terms (single x))) m in
    (below-met e.lower _ (subst (λ (s : ℤ). is_below e.lower s ≡ false) (greatest-single terms x) parts.1), above-met e.upper _ (subst (λ (s : ℤ). is_above e.upper s ≡ false) (least-single terms x) parts.0))

meets-all : (rows : List Terms) (ends : List Ends) (x : List ℤ) → length ends ≡ length rows → ((i : ℕ) → i < length rows → misses_ends (get_or rows i []) (get_or ends i (record { lower = None; upper = None })) (single x) ≡ false) → MeetsRows rows ends x
meets-all [] [] x same h = tt
meets-all [] (e ∷ ends) x same h = absurd (omega arith)
meets-all (row ∷ rows) [] x same h = absurd (omega arith)
meets-all (row ∷ rows) (e ∷ ends) x same h = (met row e x (h 0 (omega arith)), meets-all rows ends x (omega arith) (λ i l. h (suc i) (omega arith)))

-- ---- the answers

-- the corner of a part, where no row misses it
corner-found : (p : Program) (box part : Box) → length p.ends ≡ length p.rows → LiesIn box p.bounds → IsPart part box → is_empty part ≡ false → MissesNone p (single (lows_of part)) → IsFound p box (lows_of part)
corner-found p box part same lies is occupied none =
    let here : InBox box (lows_of part) = part-in part box (lows_of part) is ((tells-points part).some occupied) in
    record {
      feasible = record { within = lies (lows_of part) here; rows = meets-all p.rows p.ends (lows_of part) same none };
      within = here;
    }

pub part-stuck : (p : Program) (box part : Box) (i : ℕ) → IsPart part box → is_empty part ≡ false → IsMissing p part i → IsStuck p box part i
part-stuck p box part i is occupied row = record {
  columns = part-length part box is;
  occupied = occupied;
  within = λ x h. part-in part box x is h;
  row = row;
}

corner-stuck : (p : Program) (box part : Box) (i : ℕ) → IsPart part box → is_empty part ≡ false → IsMissing p (single (lows_of part)) i → IsStuck p box (single (lows_of part)) i
corner-stuck p box part i is occupied row = part-stuck p box (single (lows_of part)) i (part-trans (single (lows_of part)) part box (corner-part part occupied) is) (single-occupied (lows_of part)) row

-- a box with a point isn't empty
pub with-point : (b : Box) (x : List ℤ) → InBox b x → is_empty b ≡ false
with-point b x i = by (is_empty b) refl
  where
    by : (e : Bool) → is_empty b ≡ e → is_empty b ≡ false
    by true e = absurd ((tells-points b).none e x i)
    by false e = e

pub found-length : (p : Program) (box : Box) (x : List ℤ) → IsFound p box x → length x ≡ length box
found-length p box x f = sym (length-InBox box x f.within)

lows-single : (x : List ℤ) → lows_of (single x) ≡ x
lows-single [] = refl
lows-single (l ∷ x) = ap (λ (y : List ℤ). l ∷ y) (lows-single x)

-- the corner by the sides that it was made of
corner-is : (part corner : Box) (l k : List ℤ) → l ≡ lows_of part → k ≡ lows_of part → corner ≡ box_of l k → corner ≡ single (lows_of part)
corner-is part corner l k e f g = g ∙ ap (λ (z : List ℤ). box_of z k) e ∙ ap (λ (z : List ℤ). box_of (lows_of part) z) f

pub corner-length : (part corner : Box) (l k : List ℤ) → l ≡ lows_of part → k ≡ lows_of part → corner ≡ box_of l k → is_empty part ≡ false → length corner ≡ length part
corner-length part corner l k e f g occupied = ap length (corner-is part corner l k e f g) ∙ part-length (single (lows_of part)) part (corner-part part occupied)

pub corner-answer : (p : Program) (box part corner : Box) (l k x : List ℤ) → l ≡ lows_of part → k ≡ lows_of part → corner ≡ box_of l k → length p.ends ≡ length p.rows → LiesIn box p.bounds → IsPart part box → is_empty part ≡ false → MissesNone p corner → x ≡ lows_of corner → IsFound p box x
corner-answer p box part corner l k x e f g same lies is occupied none h =
    let c : corner ≡ single (lows_of part) = corner-is part corner l k e f g in
    subst (IsFound p box) (sym (h ∙ ap lows_of c ∙ lows-single (lows_of part))) (corner-found p box part same lies is occupied (subst (MissesNone p) c none))

pub corner-refused : (p : Program) (box part corner : Box) (l k : List ℤ) (i : ℕ) → l ≡ lows_of part → k ≡ lows_of part → corner ≡ box_of l k → IsPart part box → is_empty part ≡ false → IsMissing p corner i → IsStuck p box corner i
corner-refused p box part corner l k i e f g is occupied row =
    let c : corner ≡ single (lows_of part) = corner-is part corner l k e f g in
    subst (λ (b : Box). IsStuck p box b i) (sym c) (corner-stuck p box part i is occupied (subst (λ (b : Box). IsMissing p b i) c row))

-- ---- single boxes

-- a single box has no other point
single-point : (b : Box) (x : List ℤ) → is_single b ≡ true → InBox b x → x ≡ lows_of b
single-point b x one i = ((tells-points b).one one x).0 i

-- the point of a single box isn't feasible where a row misses a part that has a point
stuck-infeasible : (p : Program) (box part : Box) (i : ℕ) → is_single box ≡ true → IsStuck p box part i → Feasible p (lows_of box) → ⊥
stuck-infeasible p box part i one k f =
    let own : InBox part (lows_of part) = (tells-points part).some k.occupied in
    let same : lows_of part ≡ lows_of box = single-point box (lows_of part) one (k.within (lows_of part) own) in
    true≢false (sym k.row.misses ∙ row_misses-none p i part (lows_of box) f (subst (InBox part) same own))

decides : (p : Program) (box : Box) (d : Dive) → IsDive p box d → DecidesSingle p box d
decides p box (Point x) k one = (λ u. subst (Feasible p) (single-point box x one k.within) k.feasible, λ f. tt)
decides p box (Stuck part i) k one = (λ u. absurd u, λ f. stuck-infeasible p box part i one k f)

pub decides-each : (p : Program) (box : Box) (r : Result Dive AllocError) → IfOk r (IsDive p box) → IfOk r (DecidesSingle p box)
decides-each p box (Ok d) k = decides p box d k
decides-each p box (Err e) k = tt

-- a box that isn't empty and lies in the bounds has as many columns
pub columns-of : (box bounds : Box) → is_empty box ≡ false → LiesIn box bounds → length box ≡ length bounds
columns-of box bounds occupied lies =
    let x = lows_of box in
    sym (length-InBox bounds x (lies x ((tells-points box).some occupied)) ∙ length-map box (λ (i : Interval). i.low))

-- ---- rows of scenarios

row-terms : (rows : List Row) (i : ℕ) (r : Row) → slice_get rows i ≡ Some r → get_or (map (λ (q : Row). q.terms) rows) i [] ≡ r.terms
row-terms rows i r at = get_or-map (λ (q : Row). q.terms) rows i r [] (slice_get_within rows i r at) ∙ ap (λ (q : Row). q.terms) (get_or_from_slice_get rows i r r at)

pub scenario-rows : (p : Scenarios) (s : ℕ) → s < length (problem p).scenarios → (program_at (problem p) s).rows ≡ map (λ (i : Row). i.terms) p.model.rows
scenario-rows p s h =
    let changes = solved p.model p.changes in
    ap (λ (q : Program). q.rows) (get_or-map (scenario_of p.model) changes s (no_change 0 0) (record { costs = []; constant = pos 0; bounds = []; rows = []; ends = [] }) (omega (arith, h, length-map changes (scenario_of p.model))))

pub row-count : (p : Scenarios) (s : ℕ) → s < length (problem p).scenarios → length (program_at (problem p) s).rows ≡ length p.model.rows
row-count p s h = ap length (scenario-rows p s h) ∙ length-map p.model.rows (λ (i : Row). i.terms)

pub scenario-shape : (p : Scenarios) (s : ℕ) (ends : List Ends) → s < length (problem p).scenarios → ends ≡ (program_at (problem p) s).ends → length ends ≡ length p.model.rows → length (program_at (problem p) s).ends ≡ length (program_at (problem p) s).rows
scenario-shape p s ends h e count = sym (ap length e) ∙ count ∙ sym (row-count p s h)

-- whether row i misses a box, by what the problem tells of the row
pub row-verdict : (p : Scenarios) (s : ℕ) (box : Box) (m : IntegerModel) (ends : List Ends) (i : ℕ) (r : Row) (terms : Terms) (b : Bool) → s < length (problem p).scenarios → m ≡ p.model → ends ≡ (program_at (problem p) s).ends → slice_get m.rows i ≡ Some r → terms ≡ r.terms → b ≡ misses_ends terms (get_or ends i (record { lower = None; upper = None })) box → row_misses (program_at (problem p) s) i box ≡ b
row-verdict p s box m ends i r terms b h same e at own is =
    let at_model : slice_get p.model.rows i ≡ Some r = subst (λ (n : IntegerModel). slice_get n.rows i ≡ Some r) same at in
    let q = program_at (problem p) s in
    let of_row : get_or q.rows i [] ≡ r.terms = ap (λ (l : List Terms). get_or l i []) (scenario-rows p s h) ∙ row-terms p.model.rows i r at_model in
    let by : b ≡ misses_ends r.terms (get_or q.ends i (record { lower = None; upper = None })) box =
    is ∙ ap (λ (t : Terms). misses_ends t (get_or ends i (record { lower = None; upper = None })) box) own ∙ ap (λ (l : List Ends). misses_ends r.terms (get_or l i (record { lower = None; upper = None })) box) e in
    ap (λ (t : Terms). misses_ends t (get_or q.ends i (record { lower = None; upper = None })) box) of_row ∙ sym by
