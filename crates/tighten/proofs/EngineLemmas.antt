-- What is known of a loaded engine, and of a change of its box.
use Rattle.std.specs.Prelude.{◌≡◌, ◌≢◌, ℕ, zero, suc, ◌*◌, ◌<◌, ◌≤◌, ℤ, pos, ◌+ℤ◌, ◌-ℤ◌, ◌*ℤ◌, neg_ℤ, unsigned_abs, nat_eq, ◌≤ℤ◌, ◌<ℤ◌, int_lt, true, false, Bool, List, [], ◌∷◌, ◌++◌, length, take, slice_index_or, slice_set, Option, Some, None, Result, Ok, Err, IsErr, Vec, vec_capacity, drop, refl}
use Rattle.std.specs.List.{All}
use Rattle.std.specs.declared.alloc.Global.{Global}
use Rattle.std.specs.declared.alloc.AllocError.{AllocError}
use Rattle.std.specs.Vec.{with_items}
use Rattle.std.proofs.Common.{arith, ap, sym, ◌∙◌, subst}
use Rattle.std.proofs.lemmas.List.{length-set, length-take, get_or_default, set-get_or, take-append-le, drop-append-le, take_all}
use Rattle.std.proofs.lemmas.List.Elements.{All-set, All-nil, All-cons}
use Rattle.std.proofs.lemmas.Bool.Decides.{nat_tests}
use Rattle.std.proofs.lemmas.Int.{ints, clamps}
use Rattle.int_model.specs.Limits.{IsBound}
use Rattle.int_model.specs.Boxes.{Interval, Box, box_of, interval_at, is_empty}
use Rattle.int_model.specs.Programs.{Terms, AreTerms, AreRows}
use Rattle.int_model.specs.Models.{IntegerModel, KeepsLimits}
use Rattle.int_model.specs.ByColumn.{column_terms}
use Rattle.int_model.specs.RowSums.{coefficient, without, least_product, greatest_product, least_sum, greatest_sum}
use Rattle.int_model.specs.declared.model.Ends.{Ends}
use Rattle.int_model.proofs.BoxLaws.{box_of-set, length-box_of}
use Rattle.int_model.proofs.ByColumnLaws.{transposed}
use Rattle.int_model.proofs.IntegerLaws.{neg-mul}
use Rattle.int_model.proofs.ModelLaws.{rows-within}
use Rattle.activity.specs.Sums.{AreSummed, spread}
use Rattle.activity.proofs.SumLemmas.{least_sum-limit, greatest_sum-limit, ordered}
use Rattle.tighten.specs.declared.engine.Change.{Change}
use Rattle.tighten.specs.declared.engine.Engine.{Engine}
use Rattle.tighten.specs.declared.narrowing.Narrowing.{Narrowing}
use Rattle.tighten.specs.declared.narrowing.Narrowing.TheVariants.{Less, Empty}
use Rattle.tighten.specs.declared.step.Step.{Step}
use Rattle.tighten.specs.Cuts.{IsCut, interval, below_end, above_end}
use Rattle.tighten.specs.Engines.{box_in, restored, IsSized, IsChange, IsLoaded, Stays, Moves, IsKept, Tightens, IsTightened}
use Rattle.tighten.specs.Queues.{IsQueue}
use Rattle.tighten.specs.Replay.{narrowed, by_upper, by_lower, left_of, with_interval, tightened}
use Rattle.tighten.specs.Steps.{IsStep, rows_of}
use Rattle.tighten.specs.Sums.{AreLeast, AreGreatest, AreSpreads, AreSmall, change}
use Rattle.tighten.proofs.NarrowLemmas.{ColumnFacts, column-facts}
use Rattle.tighten.proofs.OtherTerms.{coefficient-at, least_sum-split, greatest_sum-split}
use Rattle.tighten.proofs.StepLemmas.{set-occupied, then_some}
use Rattle.tighten.proofs.StepRuns.{narrows-one, tightens-none, tightens-trans, follows-same, restored-append}
use Rattle.tighten.proofs.SumChanges.{least_sum-moved, greatest_sum-moved, interval-set, interval-set_other, product-spread}

pub item-at : (xs : List ℤ) (i : ℕ) (v : ℤ) → v ≡ slice_index_or xs i v → i < length xs → v ≡ slice_index_or xs i (pos 0)
item-at xs i v e h = e ∙ get_or_default xs i v (pos 0) h

-- ---- rows

terms_at : (n : ℕ) (rows : List Terms) (i : ℕ) → AreRows n rows → AreTerms 0 n (slice_index_or rows i [])
terms_at n [] i all = tt
terms_at n (row ∷ rows) zero all = all.0
terms_at n (row ∷ rows) (suc i) all = terms_at n rows i all.1

pub row-terms : (m : IntegerModel) (i : ℕ) → KeepsLimits m → AreTerms 0 (length m.columns) (slice_index_or (rows_of m) i [])
row-terms m i k = terms_at (length m.columns) (rows_of m) i (rows-within (length m.columns) m.rows k.rows)

pub summed : (m : IntegerModel) (e : Engine) (i : ℕ) → KeepsLimits m → IsLoaded m e → AreSummed (slice_index_or (rows_of m) i []) e.low.items e.high.items
summed m e i k s = record {
  few = omega (arith, s.sized.lows, k.few_columns);
  sides = s.sized.lows ∙ sym s.sized.highs;
  row = subst (λ (n : ℕ). AreTerms 0 n (slice_index_or (rows_of m) i [])) (sym s.sized.lows) (row-terms m i k);
  lows = s.lows;
  highs = s.highs;
}

pub small-least : (m : IntegerModel) (e : Engine) → KeepsLimits m → IsLoaded m e → AreSmall e.least.items
small-least m e k s i = rw (s.least i) (least_sum-limit (slice_index_or (rows_of m) i []) e.low.items e.high.items (summed m e i k s))

pub small-most : (m : IntegerModel) (e : Engine) → KeepsLimits m → IsLoaded m e → AreSmall e.most.items
small-most m e k s i = rw (s.most i) (greatest_sum-limit (slice_index_or (rows_of m) i []) e.low.items e.high.items (summed m e i k s))

pub column-of : (m : IntegerModel) (e : Engine) (j : ℕ) → KeepsLimits m → IsLoaded m e → j < length m.columns → ColumnFacts e.low.items e.high.items j
column-of m e j k s h = column-facts (slice_index_or (rows_of m) 0 []) e.low.items e.high.items j (summed m e 0 k s) (omega (arith, h, s.sized.lows)) s.occupied

-- ---- what an end leaves, by the row's sums

pub below-is : (n : ℕ) (terms : Terms) (u : Option ℤ) (j : ℕ) (box : Box) (i : Interval) (a least : ℤ) → AreTerms 0 n terms → interval_at box j ≡ i → a ≡ coefficient j terms → least ≡ least_sum terms box → below_end u least a i ≡ by_upper terms u j box
below-is n terms None j box i a least all at e f = sym at
below-is n terms (Some u) j box i a least all at e f =
    let own : least_product (coefficient j terms) (interval_at box j) ≡ least_product a i = ap (least_product (coefficient j terms)) at ∙ ap (λ (b : ℤ). least_product b i) (sym e) in
    let others : u -ℤ least +ℤ least_product a i ≡ u -ℤ least_sum (without j terms) box = omega (arith, ints, f, own, least_sum-split n j terms box all) in
    ap (λ (z : ℤ). narrowed a z i) others ∙ ap (λ (b : ℤ). narrowed b (u -ℤ least_sum (without j terms) box) i) e ∙ ap (narrowed (coefficient j terms) (u -ℤ least_sum (without j terms) box)) (sym at)

turned_product : (a : ℤ) (i : Interval) → least_product (neg_ℤ a) i ≡ neg_ℤ (greatest_product a i)
turned_product a i = omega (arith, ints, clamps, neg-mul a i.low, neg-mul a i.high)

pub above-is : (n : ℕ) (terms : Terms) (w : Option ℤ) (j : ℕ) (box : Box) (i : Interval) (a most : ℤ) → AreTerms 0 n terms → interval_at box j ≡ i → a ≡ coefficient j terms → most ≡ greatest_sum terms box → above_end w most a i ≡ by_lower terms w j box
above-is n terms None j box i a most all at e f = sym at
above-is n terms (Some w) j box i a most all at e f =
    let own : greatest_product (coefficient j terms) (interval_at box j) ≡ greatest_product a i = ap (greatest_product (coefficient j terms)) at ∙ ap (λ (b : ℤ). greatest_product b i) (sym e) in
    let others : most -ℤ w +ℤ least_product (neg_ℤ a) i ≡ greatest_sum (without j terms) box -ℤ w = omega (arith, ints, f, own, turned_product a i, greatest_sum-split n j terms box all) in
    ap (λ (z : ℤ). narrowed (neg_ℤ a) z i) others ∙ ap (λ (b : ℤ). narrowed (neg_ℤ b) (greatest_sum (without j terms) box -ℤ w) i) e ∙ ap (narrowed (neg_ℤ (coefficient j terms)) (greatest_sum (without j terms) box -ℤ w)) (sym at)

pub cut-at : (left other i k : Interval) (r : Narrowing) → left ≡ other → i ≡ k → IsCut left i r → IsCut other k r
cut-at left other i k r e f h = subst (λ (v : Interval). IsCut v k r) e (subst (λ (v : Interval). IsCut left v r) f h)

-- ---- another interval for a column

moved_least : (m : IntegerModel) (e : Engine) (j : ℕ) (low high : ℤ) (sums : List ℤ) → KeepsLimits m → IsLoaded m e → j < length m.columns → low ≤ℤ high → ((i : ℕ) → slice_index_or sums i (pos 0) ≡ slice_index_or e.least.items i (pos 0) +ℤ change (low -ℤ (interval_at (box_in e) j).low) (high -ℤ (interval_at (box_in e) j).high) (coefficient i (column_terms j 0 (rows_of m)))) → AreLeast (rows_of m) (slice_set (box_in e) j (interval low high)) sums
moved_least m e j low high sums k s h o shifted i =
    let u : ℤ = low -ℤ (interval_at (box_in e) j).low in
    let v : ℤ = high -ℤ (interval_at (box_in e) j).high in
    let inside : j < length (box_in e) = omega (arith, h, s.sized.lows, length-box_of e.low.items e.high.items (s.sized.lows ∙ sym s.sized.highs)) in
    let same : change (low -ℤ (interval_at (box_in e) j).low) (high -ℤ (interval_at (box_in e) j).high) (coefficient i (column_terms j 0 (rows_of m))) ≡ change (low -ℤ (interval_at (box_in e) j).low) (high -ℤ (interval_at (box_in e) j).high) (coefficient j (slice_index_or (rows_of m) i [])) = ap (change (low -ℤ (interval_at (box_in e) j).low) (high -ℤ (interval_at (box_in e) j).high)) (transposed (rows_of m) i j) in
    let moved = least_sum-moved (length m.columns) (slice_index_or (rows_of m) i []) (box_in e) j (interval low high) (row-terms m i k) inside (ordered (box_in e) j s.occupied) o in
    sums_to _ _ _ _ _ _ (shifted i) (s.least i) same moved
  where
    sums_to : (x y z p q r : ℤ) → x ≡ y +ℤ p → y ≡ z → p ≡ q → r ≡ z +ℤ q → x ≡ r
    sums_to x y z p q r a b c d = omega (arith, ints)

moved_most : (m : IntegerModel) (e : Engine) (j : ℕ) (low high : ℤ) (sums : List ℤ) → KeepsLimits m → IsLoaded m e → j < length m.columns → low ≤ℤ high → ((i : ℕ) → slice_index_or sums i (pos 0) ≡ slice_index_or e.most.items i (pos 0) +ℤ change (high -ℤ (interval_at (box_in e) j).high) (low -ℤ (interval_at (box_in e) j).low) (coefficient i (column_terms j 0 (rows_of m)))) → AreGreatest (rows_of m) (slice_set (box_in e) j (interval low high)) sums
moved_most m e j low high sums k s h o shifted i =
    let inside : j < length (box_in e) = omega (arith, h, s.sized.lows, length-box_of e.low.items e.high.items (s.sized.lows ∙ sym s.sized.highs)) in
    let same : change (high -ℤ (interval_at (box_in e) j).high) (low -ℤ (interval_at (box_in e) j).low) (coefficient i (column_terms j 0 (rows_of m))) ≡ change (high -ℤ (interval_at (box_in e) j).high) (low -ℤ (interval_at (box_in e) j).low) (coefficient j (slice_index_or (rows_of m) i [])) = ap (change (high -ℤ (interval_at (box_in e) j).high) (low -ℤ (interval_at (box_in e) j).low)) (transposed (rows_of m) i j) in
    let moved = greatest_sum-moved (length m.columns) (slice_index_or (rows_of m) i []) (box_in e) j (interval low high) (row-terms m i k) inside (ordered (box_in e) j s.occupied) o in
    sums_to _ _ _ _ _ _ (shifted i) (s.most i) same moved
  where
    sums_to : (x y z p q r : ℤ) → x ≡ y +ℤ p → y ≡ z → p ≡ q → r ≡ z +ℤ q → x ≡ r
    sums_to x y z p q r a b c d = omega (arith, ints)

inside_box : (m : IntegerModel) (e : Engine) (j : ℕ) → IsLoaded m e → j < length m.columns → j < length (box_in e)
inside_box m e j s h = omega (arith, h, s.sized.lows, length-box_of e.low.items e.high.items (s.sized.lows ∙ sym s.sized.highs))

moved_spread : (m : IntegerModel) (e : Engine) (j : ℕ) (low high : ℤ) (width : ℕ) (spreads : List ℕ) → KeepsLimits m → IsLoaded m e → j < length m.columns → low ≤ℤ high → pos width ≡ high -ℤ low → ((i : ℕ) → slice_index_or e.spread.items i 0 ≤ slice_index_or spreads i 0) → ((i : ℕ) → unsigned_abs (coefficient i (column_terms j 0 (rows_of m))) * width ≤ slice_index_or spreads i 0) → AreSpreads (rows_of m) (slice_set (box_in e) j (interval low high)) spreads
moved_spread m e j low high width spreads k s h o is grown wide i t inside = at (nat_eq (slice_index_or (slice_index_or (rows_of m) i []) t (0, pos 0)).0 j) refl
  where
    term : ℕ × ℤ
    term = slice_index_or (slice_index_or (rows_of m) i []) t (0, pos 0)

    at : (b : Bool) → nat_eq (slice_index_or (slice_index_or (rows_of m) i []) t (0, pos 0)).0 j ≡ b → spread (slice_index_or (slice_index_or (rows_of m) i []) t (0, pos 0)) (slice_set (box_in e) j (interval low high)) ≤ℤ pos (slice_index_or spreads i 0)
    at true q =
        let same : (slice_index_or (slice_index_or (rows_of m) i []) t (0, pos 0)).0 ≡ j = grind (arith, nat_tests) in
        let own : coefficient i (column_terms j 0 (rows_of m)) ≡ (slice_index_or (slice_index_or (rows_of m) i []) t (0, pos 0)).1 = transposed (rows_of m) i j ∙ coefficient-at 0 (length m.columns) (slice_index_or (rows_of m) i []) t j (0, pos 0) (row-terms m i k) inside same in
        let new : interval_at (slice_set (box_in e) j (interval low high)) (slice_index_or (slice_index_or (rows_of m) i []) t (0, pos 0)).0 ≡ interval low high = ap (interval_at (slice_set (box_in e) j (interval low high))) same ∙ interval-set (box_in e) j (interval low high) (inside_box m e j s h) in
        let size = product-spread (slice_index_or (slice_index_or (rows_of m) i []) t (0, pos 0)).1 (interval low high) o in
        let small : unsigned_abs (slice_index_or (slice_index_or (rows_of m) i []) t (0, pos 0)).1 * width ≤ slice_index_or spreads i 0 = subst (λ (a : ℤ). unsigned_abs a * width ≤ slice_index_or spreads i 0) own (wide i) in
        let there : spread (slice_index_or (slice_index_or (rows_of m) i []) t (0, pos 0)) (slice_set (box_in e) j (interval low high)) ≡ pos (unsigned_abs (slice_index_or (slice_index_or (rows_of m) i []) t (0, pos 0)).1 * width) =
        ap (λ (v : Interval). greatest_product (slice_index_or (slice_index_or (rows_of m) i []) t (0, pos 0)).1 v -ℤ least_product (slice_index_or (slice_index_or (rows_of m) i []) t (0, pos 0)).1 v) new ∙ size ∙ sym (ap (λ (z : ℤ). pos (unsigned_abs (slice_index_or (slice_index_or (rows_of m) i []) t (0, pos 0)).1) *ℤ z) is) in
        omega (arith, ints, there, small)
    at false q =
        let other : (slice_index_or (slice_index_or (rows_of m) i []) t (0, pos 0)).0 ≢ j = grind (arith, nat_tests) in
        let there : spread (slice_index_or (slice_index_or (rows_of m) i []) t (0, pos 0)) (slice_set (box_in e) j (interval low high)) ≡ spread (slice_index_or (slice_index_or (rows_of m) i []) t (0, pos 0)) (box_in e) =
        ap (λ (v : Interval). greatest_product (slice_index_or (slice_index_or (rows_of m) i []) t (0, pos 0)).1 v -ℤ least_product (slice_index_or (slice_index_or (rows_of m) i []) t (0, pos 0)).1 v) (interval-set_other (box_in e) j (slice_index_or (slice_index_or (rows_of m) i []) t (0, pos 0)).0 (interval low high) other) in
        omega (arith, ints, there, s.spread i t inside, grown i)

-- what a change of one interval leaves as it was, and what it puts in place
pub record IsMoved (m : IntegerModel) (e now : Engine) (j : ℕ) (low high : ℤ) : Type 0 where
  pub lows : now.low.items ≡ slice_set e.low.items j low
  pub highs : now.high.items ≡ slice_set e.high.items j high
  pub least : (i : ℕ) → slice_index_or now.least.items i (pos 0) ≡ slice_index_or e.least.items i (pos 0) +ℤ change (low -ℤ (interval_at (box_in e) j).low) (high -ℤ (interval_at (box_in e) j).high) (coefficient i (column_terms j 0 (rows_of m)))
  pub most : (i : ℕ) → slice_index_or now.most.items i (pos 0) ≡ slice_index_or e.most.items i (pos 0) +ℤ change (high -ℤ (interval_at (box_in e) j).high) (low -ℤ (interval_at (box_in e) j).low) (coefficient i (column_terms j 0 (rows_of m)))
  pub least_count : length now.least.items ≡ length e.least.items
  pub most_count : length now.most.items ≡ length e.most.items
  pub width : ℕ
  pub is_width : pos width ≡ high -ℤ low
  pub grown : (i : ℕ) → slice_index_or e.spread.items i 0 ≤ slice_index_or now.spread.items i 0
  pub wide : (i : ℕ) → unsigned_abs (coefficient i (column_terms j 0 (rows_of m))) * width ≤ slice_index_or now.spread.items i 0
  pub spread_count : length now.spread.items ≡ length e.spread.items
  pub queue : now.queue ≡ e.queue
  pub trail : now.trail ≡ e.trail
  pub steps : now.steps ≡ e.steps

pub moved-box : (m : IntegerModel) (e now : Engine) (j : ℕ) (low high : ℤ) → IsLoaded m e → now.low.items ≡ slice_set e.low.items j low → now.high.items ≡ slice_set e.high.items j high → box_in now ≡ slice_set (box_in e) j (interval low high)
moved-box m e now j low high s f g =
    ap (λ (l : List ℤ). box_of l now.high.items) f ∙ ap (box_of (slice_set e.low.items j low)) g ∙ box_of-set e.low.items e.high.items j low high (s.sized.lows ∙ sym s.sized.highs)

pub moved-loaded : (m : IntegerModel) (e now : Engine) (j : ℕ) (low high : ℤ) → KeepsLimits m → IsLoaded m e → j < length m.columns → IsBound low → IsBound high → low ≤ℤ high → IsMoved m e now j low high → IsLoaded m now
moved-loaded m e now j low high k s h small_low small_high o is =
    let box : box_in now ≡ slice_set (box_in e) j (interval low high) = moved-box m e now j low high s is.lows is.highs in
    let not_less : int_lt high low ≡ false = grind (arith, ints, o) in
    record {
      sized = record {
        lows = ap length is.lows ∙ length-set e.low.items j low ∙ s.sized.lows;
        highs = ap length is.highs ∙ length-set e.high.items j high ∙ s.sized.highs;
        least = is.least_count ∙ s.sized.least;
        most = is.most_count ∙ s.sized.most;
        spread = is.spread_count ∙ s.sized.spread;
        queue = rw is.queue s.sized.queue;
        waits = rw is.queue s.sized.waits;
        few = rw is.steps s.sized.few;
        room = rw is.steps s.sized.room;
      };
      lows = rw is.lows (All-set IsBound e.low.items j low small_low s.lows);
      highs = rw is.highs (All-set IsBound e.high.items j high small_high s.highs);
      occupied = rw box (set-occupied (box_in e) j (interval low high) s.occupied not_less);
      least = rw box (moved_least m e j low high now.least.items k s h o is.least);
      most = rw box (moved_most m e j low high now.most.items k s h o is.most);
      spread = rw box (moved_spread m e j low high is.width now.spread.items k s h o is.is_width is.grown is.wide);
      trail = rw is.trail s.trail;
    }

-- another queue and another trail
pub loaded-with : (m : IntegerModel) (e now : Engine) → IsLoaded m e → now.low ≡ e.low → now.high ≡ e.high → now.least ≡ e.least → now.most ≡ e.most → now.spread ≡ e.spread → IsQueue now.queue → length now.queue.waits.items ≡ length e.queue.waits.items → All (IsChange m) now.trail.items → length now.steps.items ≤ 128 → 128 ≤ vec_capacity now.steps → IsLoaded m now
loaded-with m e now s el eh ea em es queue waits trail few room = record {
  sized = record {
    lows = rw el s.sized.lows;
    highs = rw eh s.sized.highs;
    least = rw ea s.sized.least;
    most = rw em s.sized.most;
    spread = rw es s.sized.spread;
    queue = queue;
    waits = waits ∙ s.sized.waits;
    few = few;
    room = room;
  };
  lows = rw el s.lows;
  highs = rw eh s.highs;
  occupied = rw (el, eh) s.occupied;
  least = rw (el, eh, ea) s.least;
  most = rw (el, eh, em) s.most;
  spread = rw (el, eh, es) s.spread;
  trail = trail;
}

-- ---- a step by what it leaves

not_less : (i : Interval) → i.low ≤ℤ i.high → int_lt i.high i.low ≡ false
not_less i o = grind (arith, ints, o)

with-left : (box : Box) (j : ℕ) (i : Interval) → int_lt i.high i.low ≡ false → with_interval box j i ≡ Some (slice_set box j i)
with-left box j i e = rw e refl

pub same-left : (box : Box) (j : ℕ) (left : Interval) → is_empty box ≡ false → left ≡ interval_at box j → with_interval box j left ≡ Some box
same-left box j left o e =
    let ordered_left : left.low ≤ℤ left.high = subst (λ (i : Interval). i.low ≤ℤ i.high) (sym e) (ordered box j o) in
    with-left box j left (not_less left ordered_left) ∙ ap (λ (b : Box). Some b) (ap (slice_set box j) e ∙ set-get_or box j (record { low = pos 0; high = pos 0 }))

pub less-left : (box : Box) (j : ℕ) (left : Interval) (low high : ℤ) → left ≡ interval low high → low ≤ℤ high → with_interval box j left ≡ Some (slice_set box j (interval low high))
less-left box j left low high e o = rw e (with-left box j (interval low high) (not_less (interval low high) o))

some_same : {a b : Box} → Some a ≡ Some b → a ≡ b
some_same e = cc

less-narrows : (box : Box) (j : ℕ) (left : Interval) (low high : ℤ) → j < length box → left ≡ interval low high → left ≢ interval_at box j → low ≤ℤ high → with_interval box j left ≢ Some box
less-narrows box j left low high h e n o g =
    let same : slice_set box j (interval low high) ≡ box = some_same (sym (less-left box j left low high e o) ∙ g) in
    n (e ∙ sym (interval-set box j (interval low high) h) ∙ ap (λ (b : Box). interval_at b j) same)

pub empty-left : (box : Box) (j : ℕ) (left : Interval) → left.high <ℤ left.low → with_interval box j left ≡ None
empty-left box j left h =
    let less : int_lt left.high left.low ≡ true = grind (arith, ints, h) in rw less refl

none_narrows : (box : Box) (o : Option Box) → o ≡ None → o ≢ Some box
none_narrows box o e f = cc

one_step : (m : IntegerModel) (step : Step) → IsStep m step → All (IsStep m) (step ∷ [])
one_step m step h = All-cons (IsStep m) step [] h (All-nil (IsStep m))

set_back : (box : Box) (j : ℕ) (i : Interval) → slice_set (slice_set box j i) j (interval_at box j) ≡ box
set_back [] j i = refl
set_back (k ∷ box) zero i = refl
set_back (k ∷ box) (suc j) i = ap (λ (b : Box). k ∷ b) (set_back box j i)

kept_box : (step : Step) (before now : Engine) → IsKept step before now → box_in now ≡ box_in before
kept_box step before now k = rw (k.lows, k.highs) refl

pub tightens-same : (m : IntegerModel) (ends : List Ends) (e : Engine) → IsLoaded m e → Tightens m ends e true e
tightens-same m ends e s = tightens-none m ends e e s.sized.few (record { bounds = refl; trail = refl; steps = refl })

-- a step that leaves a smaller interval
pub tightens-less : (m : IntegerModel) (ends : List Ends) (before mid now : Engine) (step : Step) (low high : ℤ) → IsLoaded m before → IsStep m step → IsCut (left_of (rows_of m) ends step (box_in before)) (interval_at (box_in before) step.column) (Less low high) → Moves step.column low high before mid → IsKept step mid now → Tightens m ends before true now
tightens-less m ends before mid now step low high s h cut moves kept =
    let box : Box = box_in before in
    let left : Interval = left_of (rows_of m) ends step (box_in before) in
    let moved : box_in now ≡ slice_set (box_in before) step.column (interval low high) = kept_box step mid now kept ∙ moves.bounds in
    record {
      taken = step ∷ [];
      are_steps = one_step m step h;
      narrows = narrows-one (rows_of m) ends step (box_in before) (less-narrows (box_in before) step.column (left_of (rows_of m) ends step (box_in before)) low high (inside_box m before step.column s h.column) cut.0 cut.1 cut.2);
      leads = then_some (tightened (rows_of m) ends step (box_in before)) ∙ less-left (box_in before) step.column (left_of (rows_of m) ends step (box_in before)) low high cut.0 cut.2 ∙ ap (λ (b : Box). Some b) (sym moved);
      kept = kept.steps ∙ ap (λ (t : List Step). take 128 (t ++ step ∷ [])) moves.steps;
      follows = record {
        added = record { column = step.column; low = (interval_at (box_in before) step.column).low; high = (interval_at (box_in before) step.column).high } ∷ [];
        trail = ap (λ (t : Vec Change Global). t.items) kept.trail ∙ moves.trail;
        back = ap (λ (b : Box). slice_set b step.column (interval_at (box_in before) step.column)) moved ∙ set_back (box_in before) step.column (interval low high);
      };
      count = omega arith;
    }

-- a step that leaves nothing
pub tightens-empty : (m : IntegerModel) (ends : List Ends) (before now : Engine) (step : Step) → IsStep m step → IsCut (left_of (rows_of m) ends step (box_in before)) (interval_at (box_in before) step.column) Empty → IsKept step before now → Tightens m ends before false now
tightens-empty m ends before now step h cut kept =
    let none : tightened (rows_of m) ends step (box_in before) ≡ None = empty-left (box_in before) step.column (left_of (rows_of m) ends step (box_in before)) cut in
    record {
      taken = step ∷ [];
      are_steps = one_step m step h;
      narrows = narrows-one (rows_of m) ends step (box_in before) (none_narrows (box_in before) (tightened (rows_of m) ends step (box_in before)) none);
      leads = then_some (tightened (rows_of m) ends step (box_in before)) ∙ none;
      kept = kept.steps;
      follows = follows-same before now (kept_box step before now kept) (ap (λ (t : Vec Change Global). t.items) kept.trail);
      count = omega arith;
    }

-- ---- what calls hand on

-- a list written into another of its length
pub refilled : {A : Type 0} (v : Vec A Global) (ws : List A) → length ws ≡ length v.items → (with_items v ws).items ≡ ws
refilled v ws same =
    let count : v.len ≡ length v.items = v.ok.0 in
    take-append-le v.len ws (drop (length ws) v.items) (omega arith) ∙ take_all v.len ws (omega arith)

-- the same sums in other words
pub shifted-by : (u u2 v v2 : ℤ) (ct ct2 : Terms) (old old2 new new2 : List ℤ) → u ≡ u2 → v ≡ v2 → ct ≡ ct2 → old ≡ old2 → new2 ≡ new → ((i : ℕ) → slice_index_or new i (pos 0) ≡ slice_index_or old i (pos 0) +ℤ change u v (coefficient i ct)) → (i : ℕ) → slice_index_or new2 i (pos 0) ≡ slice_index_or old2 i (pos 0) +ℤ change u2 v2 (coefficient i ct2)
shifted-by u u2 v v2 ct ct2 old old2 new new2 eu ev ec eo en h i =
    ap (λ (xs : List ℤ). slice_index_or xs i (pos 0)) en ∙ h i ∙ ap (λ (xs : List ℤ). slice_index_or xs i (pos 0) +ℤ change u v (coefficient i ct)) eo ∙ ap (λ (z : ℤ). slice_index_or old2 i (pos 0) +ℤ change z v (coefficient i ct)) eu ∙ ap (λ (z : ℤ). slice_index_or old2 i (pos 0) +ℤ change u2 z (coefficient i ct)) ev ∙ ap (λ (ts : Terms). slice_index_or old2 i (pos 0) +ℤ change u2 v2 (coefficient i ts)) ec

-- the same spreads in other words
pub grown-by : (old old2 new2 new : List ℕ) → old ≡ old2 → new2 ≡ new → ((i : ℕ) → slice_index_or old i 0 ≤ slice_index_or new i 0) → (i : ℕ) → slice_index_or old2 i 0 ≤ slice_index_or new2 i 0
grown-by old old2 new2 new eo en h i = omega (arith, h i, ap (λ (xs : List ℕ). slice_index_or xs i 0) eo, ap (λ (xs : List ℕ). slice_index_or xs i 0) en)

pub wide-by : (ct ct2 : Terms) (new2 new : List ℕ) (width : ℕ) → ct ≡ ct2 → new2 ≡ new → ((i : ℕ) → unsigned_abs (coefficient i ct) * width ≤ slice_index_or new i 0) → (i : ℕ) → unsigned_abs (coefficient i ct2) * width ≤ slice_index_or new2 i 0
wide-by ct ct2 new2 new width ec en h i = omega (arith, h i, ap (λ (ts : Terms). unsigned_abs (coefficient i ts) * width) ec, ap (λ (xs : List ℕ). slice_index_or xs i 0) en)

pub loaded-kept : (m : IntegerModel) (before now : Engine) (step : Step) → IsLoaded m before → IsKept step before now → IsLoaded m now
loaded-kept m before now step s k =
    let few : length now.steps.items ≤ 128 = omega (arith, ap length k.steps, length-take 128 (before.steps.items ++ step ∷ [])) in
    loaded-with m before now s k.lows k.highs k.least k.most k.spread (rw k.queue s.sized.queue) (rw k.queue refl) (rw k.trail s.trail) few k.room

pub loaded-from : (m : IntegerModel) (now : Engine) (box : Box) → IsSized m now → box_in now ≡ box → is_empty box ≡ false → All IsBound now.low.items → All IsBound now.high.items → AreLeast (rows_of m) box now.least.items → AreGreatest (rows_of m) box now.most.items → AreSpreads (rows_of m) box now.spread.items → now.trail.items ≡ [] → IsLoaded m now
loaded-from m now box sized e o lows highs least most spreads none = record {
  sized = sized;
  lows = lows;
  highs = highs;
  occupied = rw e o;
  least = rw e least;
  most = rw e most;
  spread = rw e spreads;
  trail = rw none (All-nil (IsChange m));
}

pub tightened-at_err : (m : IntegerModel) (ends : List Ends) (before now : Engine) (r : Result Bool AllocError) → IsErr r → Tightens m ends before true now → IsTightened m ends before r now
tightened-at_err m ends before now (Ok b) h t = absurd (cc)
tightened-at_err m ends before now (Err e) h t = t

pub tightened-then : (m : IntegerModel) (ends : List Ends) (first next last : Engine) (r : Result Bool AllocError) → Tightens m ends first true next → IsTightened m ends next r last → IsTightened m ends first r last
tightened-then m ends first next last (Ok b) h k = tightens-trans m ends first next last b h k
tightened-then m ends first next last (Err e) h k = tightens-trans m ends first next last true h k

pub tightens-as : (m : IntegerModel) (ends : List Ends) (before now : Engine) (b is_occupied : Bool) → b ≡ is_occupied → Tightens m ends before b now → Tightens m ends before is_occupied now
tightens-as m ends before now b is_occupied e t = subst (λ (v : Bool). Tightens m ends before v now) e t

-- a change that is taken back
pub undo-step : (mark : ℕ) (some all : List Change) (c : Change) (box now : Box) → all ≡ some ++ c ∷ [] → mark ≤ length some → now ≡ slice_set box c.column (interval c.low c.high) → restored (drop mark some) now ≡ restored (drop mark all) box
undo-step mark some all c box now e h same =
    ap (restored (drop mark some)) same ∙ sym (restored-append (drop mark some) (c ∷ []) box) ∙ ap (λ (t : List Change). restored t box) (sym (drop-append-le mark some (c ∷ []) h)) ∙ ap (λ (t : List Change). restored (drop mark t) box) (sym e)

pub undo-trail : (mark : ℕ) (some all : List Change) (c : Change) → all ≡ some ++ c ∷ [] → mark ≤ length some → take mark some ≡ take mark all
undo-trail mark some all c e h = sym (take-append-le mark some (c ∷ []) h) ∙ ap (take mark) (sym e)

pub tightens-after : (m : IntegerModel) (ends : List Ends) (first next mid last : Engine) (b : Bool) → Tightens m ends first true next → length next.steps.items ≤ 128 → Stays next mid → Tightens m ends mid b last → Tightens m ends first b last
tightens-after m ends first next mid last b h few s k = tightens-trans m ends first next last b h (tightens-trans m ends next mid last b (tightens-none m ends next mid few s) k)

all_last : (P : Change → Type 0) (xs : List Change) (x : Change) → All P (xs ++ x ∷ []) → P x
all_last P [] x h = h 0 x (omega arith)
all_last P (y ∷ xs) x h = all_last P xs x (λ k d g. h (suc k) d (omega arith))

pub last-change : (P : Change → Type 0) (xs all : List Change) (x : Change) → all ≡ xs ++ x ∷ [] → All P all → P x
last-change P xs all x e h = all_last P xs x (subst (All P) e h)
