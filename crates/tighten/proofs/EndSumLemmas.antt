-- The sum of a row that an end is compared with, and what a step does by it.
use Rattle.std.specs.Prelude.{◌≡◌, ℕ, ◌^◌, ◌<◌, ◌≤◌, ℤ, pos, ◌+ℤ◌, ◌-ℤ◌, ◌≤ℤ◌, ◌<ℤ◌, unsigned_abs, false, List, [], length, map, slice_index_or, slice_set, Some, None, refl}
use Rattle.std.specs.List.{All}
use Rattle.std.proofs.Common.{arith, ap, sym, ◌∙◌, subst}
use Rattle.std.proofs.lemmas.Int.{ints}
use Rattle.std.proofs.lemmas.List.{length-map}
use Rattle.int_model.specs.Boxes.{Interval, Box, box_of, interval_at, is_empty}
use Rattle.int_model.specs.Limits.{IsBound}
use Rattle.int_model.specs.Models.{IntegerModel, KeepsLimits}
use Rattle.int_model.specs.Programs.{Terms, AreTerms}
use Rattle.int_model.specs.RowSums.{coefficient, least_product, greatest_product, least_sum, greatest_sum}
use Rattle.int_model.specs.declared.model.Ends.{Ends}
use Rattle.activity.specs.Sums.{AreSummed}
use Rattle.activity.proofs.SumLemmas.{least_sum-limit, greatest_sum-limit}
use Rattle.tighten.specs.declared.step.RowEnd.{RowEnd}
use Rattle.tighten.specs.declared.step.RowEnd.TheVariants.{Lower, Upper}
use Rattle.tighten.specs.declared.step.Step.{Step}
use Rattle.tighten.specs.Cuts.{interval}
use Rattle.tighten.specs.EndSums.{end_sum, end_product, end_left, IsAppliedBy}
use Rattle.tighten.specs.Replay.{left_by, left_of}
use Rattle.tighten.specs.Steps.{IsStep, rows_of}
use Rattle.tighten.proofs.EngineLemmas.{row-terms, below-is, above-is, same-left, less-left, empty-left}
use Rattle.tighten.proofs.NarrowLemmas.{column-facts}
use Rattle.tighten.proofs.OtherTerms.{least_sum-split, greatest_sum-split}
use Rattle.tighten.proofs.StepLemmas.{sides-of}
use Rattle.tighten.proofs.SumChanges.{interval-set, others-set}

-- ---- what an end leaves, and the sum after it

pub left-is : (n : ℕ) (terms : Terms) (e : Ends) (side : RowEnd) (j : ℕ) (box : Box) (i : Interval) (a sum : ℤ) → AreTerms 0 n terms → interval_at box j ≡ i → a ≡ coefficient j terms → sum ≡ end_sum terms side box → end_left e side sum a i ≡ left_by terms e side j box
left-is n terms e Lower j box i a sum all at f g = above-is n terms e.lower j box i a sum all at f g
left-is n terms e Upper j box i a sum all at f g = below-is n terms e.upper j box i a sum all at f g

-- a column's part of the sum, before and after it gets another interval
record AreParts (f : ℤ → Interval → ℤ) (terms : Terms) (j : ℕ) (box : Box) (k : Interval) (old new : ℤ) : Type 0 where
  before : f (coefficient j terms) (interval_at box j) ≡ old
  after : f (coefficient j terms) (interval_at (slice_set box j k) j) ≡ new

parts : (f : ℤ → Interval → ℤ) (terms : Terms) (j : ℕ) (box : Box) (i k : Interval) (a before after : ℤ) → j < length box → interval_at box j ≡ i → a ≡ coefficient j terms → before ≡ f a i → after ≡ f a k → AreParts f terms j box k before after
parts f terms j box i k a before after inside at same b q = record {
  before = ap (λ (c : ℤ). f c (interval_at box j)) (sym same) ∙ ap (f a) at ∙ sym b;
  after = ap (f (coefficient j terms)) (interval-set box j k inside) ∙ ap (λ (c : ℤ). f c k) (sym same) ∙ sym q;
}

pub moved-sum : (n : ℕ) (terms : Terms) (side : RowEnd) (j : ℕ) (box : Box) (i k : Interval) (a sum before after now : ℤ) → AreTerms 0 n terms → j < length box → interval_at box j ≡ i → a ≡ coefficient j terms → sum ≡ end_sum terms side box → before ≡ end_product side a i → after ≡ end_product side a k → now ≡ sum -ℤ before +ℤ after → now ≡ end_sum terms side (slice_set box j k)
moved-sum n terms Lower j box i k a sum before after now all inside at same g b q is =
    let p = parts greatest_product terms j box i k a before after inside at same b q in
    omega (arith, ints, greatest_sum-split n j terms box all, greatest_sum-split n j terms (slice_set box j k) all, others-set greatest_product j terms box k, p.before, p.after, g, is)
moved-sum n terms Upper j box i k a sum before after now all inside at same g b q is =
    let p = parts least_product terms j box i k a before after inside at same b q in
    omega (arith, ints, least_sum-split n j terms box all, least_sum-split n j terms (slice_set box j k) all, others-set least_product j terms box k, p.before, p.after, g, is)

-- ---- what a step finds

sides-same : (box : Box) (lows highs : List ℤ) → lows ≡ map (λ (i : Interval). i.low) box → highs ≡ map (λ (i : Interval). i.high) box → box_of lows highs ≡ box
sides-same box lows highs e f = rw (e, f) (sides-of box)

box-summed : (m : IntegerModel) (i : ℕ) (box : Box) (lows highs : List ℤ) → KeepsLimits m → length box ≡ length m.columns → lows ≡ map (λ (i : Interval). i.low) box → highs ≡ map (λ (i : Interval). i.high) box → All IsBound lows → All IsBound highs → AreSummed (slice_index_or (rows_of m) i []) lows highs
box-summed m i box lows highs k count e f small_lows small_highs =
    let low_count : length lows ≡ length box = ap length e ∙ length-map box (λ (i : Interval). i.low) in
    let high_count : length highs ≡ length box = ap length f ∙ length-map box (λ (i : Interval). i.high) in
    record {
      few = omega (arith, low_count, count, k.few_columns);
      sides = low_count ∙ sym high_count;
      row = subst (λ (n : ℕ). AreTerms 0 n (slice_index_or (rows_of m) i [])) (sym (low_count ∙ count)) (row-terms m i k);
      lows = small_lows;
      highs = small_highs;
    }

end_sum-limit : (terms : Terms) (side : RowEnd) (box : Box) (lows highs : List ℤ) → AreSummed terms lows highs → box_of lows highs ≡ box → unsigned_abs (end_sum terms side box) ≤ 10 ^ 18
end_sum-limit terms Lower box lows highs s same = subst (λ (b : Box). unsigned_abs (greatest_sum terms b) ≤ 10 ^ 18) same (greatest_sum-limit terms lows highs s)
end_sum-limit terms Upper box lows highs s same = subst (λ (b : Box). unsigned_abs (least_sum terms b) ≤ 10 ^ 18) same (least_sum-limit terms lows highs s)

pub record StepFacts (m : IntegerModel) (step : Step) (box : Box) (sum low high : ℤ) : Type 0 where
  pub terms : AreTerms 0 (length m.columns) (slice_index_or (rows_of m) step.row [])
  pub limit : unsigned_abs sum ≤ 10 ^ 18
  pub inside : step.column < length box
  pub at : interval_at box step.column ≡ interval low high
  pub low_small : IsBound low
  pub high_small : IsBound high
  pub ordered : low ≤ℤ high

pub step-facts : (m : IntegerModel) (step : Step) (box : Box) (lows highs : List ℤ) (sum : ℤ) → KeepsLimits m → IsStep m step → length box ≡ length m.columns → is_empty box ≡ false → lows ≡ map (λ (i : Interval). i.low) box → highs ≡ map (λ (i : Interval). i.high) box → All IsBound lows → All IsBound highs → sum ≡ end_sum (slice_index_or (rows_of m) step.row []) step.side box → StepFacts m step box sum (slice_index_or lows step.column (pos 0)) (slice_index_or highs step.column (pos 0))
step-facts m step box lows highs sum k is count occupied e f small_lows small_highs g =
    let s : AreSummed (slice_index_or (rows_of m) step.row []) lows highs = box-summed m step.row box lows highs k count e f small_lows small_highs in
    let same : box_of lows highs ≡ box = sides-same box lows highs e f in
    let low_count : length lows ≡ length box = ap length e ∙ length-map box (λ (i : Interval). i.low) in
    let facts = column-facts (slice_index_or (rows_of m) step.row []) lows highs step.column s (omega (arith, low_count, count, is.column)) (ap is_empty same ∙ occupied) in
    record {
      terms = row-terms m step.row k;
      limit = rw g (end_sum-limit (slice_index_or (rows_of m) step.row []) step.side box lows highs s same);
      inside = omega (arith, count, is.column);
      at = sym (ap (λ (b : Box). interval_at b step.column) same) ∙ facts.at;
      low_small = facts.low_small;
      high_small = facts.high_small;
      ordered = facts.ordered;
    }

-- the sum by the sides of the box
pub end_sum-lower : (terms : Terms) (side : RowEnd) (box : Box) (lows highs : List ℤ) (sum : ℤ) → side ≡ Lower → lows ≡ map (λ (i : Interval). i.low) box → highs ≡ map (λ (i : Interval). i.high) box → sum ≡ greatest_sum terms (box_of lows highs) → sum ≡ end_sum terms side box
end_sum-lower terms side box lows highs sum is e f g =
    g ∙ ap (greatest_sum terms) (sides-same box lows highs e f) ∙ sym (ap (λ (s : RowEnd). end_sum terms s box) is)

pub end_sum-upper : (terms : Terms) (side : RowEnd) (box : Box) (lows highs : List ℤ) (sum : ℤ) → side ≡ Upper → lows ≡ map (λ (i : Interval). i.low) box → highs ≡ map (λ (i : Interval). i.high) box → sum ≡ least_sum terms (box_of lows highs) → sum ≡ end_sum terms side box
end_sum-upper terms side box lows highs sum is e f g =
    g ∙ ap (least_sum terms) (sides-same box lows highs e f) ∙ sym (ap (λ (s : RowEnd). end_sum terms s box) is)

-- ---- what a step does

pub step-left : (m : IntegerModel) (ends : List Ends) (step : Step) (box : Box) (sum low high own : ℤ) → StepFacts m step box sum low high → own ≡ coefficient step.column (slice_index_or (rows_of m) step.row []) → sum ≡ end_sum (slice_index_or (rows_of m) step.row []) step.side box → end_left (slice_index_or ends step.row (record { lower = None; upper = None })) step.side sum own (interval low high) ≡ left_of (rows_of m) ends step box
step-left m ends step box sum low high own facts e g =
    left-is (length m.columns) (slice_index_or (rows_of m) step.row []) (slice_index_or ends step.row (record { lower = None; upper = None })) step.side step.column box (interval low high) own sum facts.terms facts.at e g

pub applied-same : (rows : List Terms) (ends : List Ends) (step : Step) (box : Box) (sum : ℤ) → is_empty box ≡ false → left_of rows ends step box ≡ interval_at box step.column → sum ≡ end_sum (slice_index_or rows step.row []) step.side box → IsAppliedBy rows ends step box (Some sum) box
applied-same rows ends step box sum occupied left g = (same-left box step.column (left_of rows ends step box) occupied left, g)

pub applied-less : (rows : List Terms) (ends : List Ends) (step : Step) (box now : Box) (sum low high : ℤ) → left_of rows ends step box ≡ interval low high → low ≤ℤ high → now ≡ slice_set box step.column (interval low high) → sum ≡ end_sum (slice_index_or rows step.row []) step.side (slice_set box step.column (interval low high)) → IsAppliedBy rows ends step box (Some sum) now
applied-less rows ends step box now sum low high left o is g =
    (less-left box step.column (left_of rows ends step box) low high left o ∙ ap (λ (b : Box). Some b) (sym is), g ∙ ap (end_sum (slice_index_or rows step.row []) step.side) (sym is))

pub applied-empty : (rows : List Terms) (ends : List Ends) (step : Step) (box : Box) → (left_of rows ends step box).high <ℤ (left_of rows ends step box).low → IsAppliedBy rows ends step box None box
applied-empty rows ends step box none = (empty-left box step.column (left_of rows ends step box) none, refl)
