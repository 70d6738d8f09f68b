-- How a program's sum changes with the multiplier of one row.
use Rattle.std.specs.Prelude.{◌≡◌, ◌≢◌, ℕ, zero, suc, ◌+◌, ◌<◌, ℤ, pos, ◌+ℤ◌, ◌-ℤ◌, ◌*ℤ◌, neg_ℤ, List, [], ◌∷◌, length, slice_index_or, slice_set, refl}
use Rattle.std.proofs.Common.{arith, ap, sym, ◌∙◌}
use Rattle.std.proofs.lemmas.List.{get_or-set_other, length-set}
use Rattle.std.proofs.lemmas.Int.{ints}
use Rattle.int_model.specs.Integers.{int_at, int_sum_by}
use Rattle.int_model.specs.Boxes.{Box, interval_at}
use Rattle.int_model.specs.Programs.{Program, Terms, AreTerms}
use Rattle.int_model.specs.RowSums.{coefficient, least_product, row_at}
use Rattle.int_model.specs.declared.model.Ends.{Ends}
use Rattle.int_model.proofs.IntegerLaws.{add-mul, neg-mul}
use Rattle.dual_bounds.specs.Vectors.{Entry, counted, reduced_cost, least_reduced, program_sum}
use Rattle.dual_bounds.specs.Counting.{counting}
use Rattle.dual_search.specs.Gains.{entries_of, vector_of, AreReduced, column_gain, gain}
use Rattle.dual_search.proofs.TermLemmas.{shifted-one}
use Rattle.dual_search.proofs.EntryLemmas.{end_sum-set, share-set}

-- ---- the least sum over the columns, by the reduced costs

abbrev pub least_total : List ℤ → Box → ℤ
least_total (r ∷ rs) (i ∷ box) = least_product r i +ℤ least_total rs box
least_total (r ∷ rs) [] = pos 0
least_total [] box = pos 0

pub least-by-costs : (rows : List Terms) (scale : ℕ) (es : List Entry) (k : ℕ) (costs reduced : List ℤ) (box : Box) → length reduced ≡ length costs → ((j : ℕ) → j < length costs → int_at reduced j ≡ reduced_cost rows scale es (k + j) (int_at costs j)) → least_reduced rows scale es k costs box ≡ least_total reduced box
least-by-costs rows scale es k [] [] box n same = refl
least-by-costs rows scale es k [] (r ∷ rs) box n same = absurd (omega arith)
least-by-costs rows scale es k (c ∷ costs) [] box n same = absurd (omega arith)
least-by-costs rows scale es k (c ∷ costs) (r ∷ rs) [] n same = refl
least-by-costs rows scale es k (c ∷ costs) (r ∷ rs) (i ∷ box) n same =
    let at : k + 0 ≡ k = omega arith in
    let first : r ≡ reduced_cost rows scale es k c = rw at at (same 0 (omega arith)) in
    let own : least_product (reduced_cost rows scale es k c) i ≡ least_product r i = ap (λ (z : ℤ). least_product z i) (sym first) in
    let rest : least_reduced rows scale es (suc k) costs box ≡ least_total rs box = least-by-costs rows scale es (suc k) costs rs box (omega arith) (λ j h. let after : k + suc j ≡ suc k + j = omega arith in rw after at (same (suc j) (omega arith))) in
    omega (arith, ints, own, rest)

least-set : (reduced : List ℤ) (box : Box) (j : ℕ) (w : ℤ) → j < length reduced → j < length box → least_total (slice_set reduced j w) box +ℤ least_product (int_at reduced j) (interval_at box j) ≡ least_total reduced box +ℤ least_product w (interval_at box j)
least-set [] box j w h g = absurd (omega arith)
least-set (r ∷ rs) [] j w h g = absurd (omega arith)
least-set (r ∷ rs) (i ∷ box) zero w h g = omega (arith, ints)
least-set (r ∷ rs) (i ∷ box) (suc j) w h g = omega (arith, ints, least-set rs box j w (omega arith) (omega arith))

-- the gains of later columns see no number of an earlier one
gains-same : (s : ℤ) (reduced : List ℤ) (box : Box) (j : ℕ) (w : ℤ) (least n : ℕ) (ts : Terms) → AreTerms least n ts → j < least → int_sum_by (column_gain s (slice_set reduced j w) box) ts ≡ int_sum_by (column_gain s reduced box) ts
gains-same s reduced box j w least n [] all h = refl
gains-same s reduced box j w least n (t ∷ ts) all h =
    let other : t.0 ≢ j = omega (arith, all.0, h) in
    let here : column_gain s (slice_set reduced j w) box t ≡ column_gain s reduced box t = ap (λ (z : ℤ). least_product (z -ℤ s *ℤ t.1) (interval_at box t.0) -ℤ least_product z (interval_at box t.0)) (get_or-set_other reduced j t.0 w (pos 0) other) in
    let rest : int_sum_by (column_gain s (slice_set reduced j w) box) ts ≡ int_sum_by (column_gain s reduced box) ts = gains-same s reduced box j w (t.0 + 1) n ts all.4 (omega (arith, all.0, h)) in
    omega (arith, ints, here, rest)

-- the reduced costs after a row's multiplier has grown
abbrev shifted : ℤ → Terms → List ℤ → List ℤ
shifted s [] reduced = reduced
shifted s (t ∷ ts) reduced = shifted s ts (slice_set reduced t.0 (int_at reduced t.0 -ℤ s *ℤ t.1))

shifted-length : (s : ℤ) (ts : Terms) (reduced : List ℤ) → length (shifted s ts reduced) ≡ length reduced
shifted-length s [] reduced = refl
shifted-length s (t ∷ ts) reduced = shifted-length s ts (slice_set reduced t.0 (int_at reduced t.0 -ℤ s *ℤ t.1)) ∙ length-set reduced t.0 (int_at reduced t.0 -ℤ s *ℤ t.1)

shifted-at : (s : ℤ) (least n : ℕ) (ts : Terms) (reduced : List ℤ) (j : ℕ) → AreTerms least n ts → n ≡ length reduced → int_at (shifted s ts reduced) j ≡ int_at reduced j -ℤ s *ℤ coefficient j ts
shifted-at s least n [] reduced j all e = omega (arith, ints)
shifted-at s least n (t ∷ ts) reduced j all e =
    let w : ℤ = int_at reduced t.0 -ℤ s *ℤ t.1 in
    shifted-at s (t.0 + 1) n ts (slice_set reduced t.0 w) j all.4 (e ∙ sym (length-set reduced t.0 w))
    ∙ sym (shifted-one s t ts reduced w j (omega (arith, all.1, e)) refl)

shifted-gain : (s : ℤ) (least n : ℕ) (ts : Terms) (reduced : List ℤ) (box : Box) → AreTerms least n ts → n ≡ length reduced → n ≡ length box → least_total (shifted s ts reduced) box ≡ least_total reduced box +ℤ int_sum_by (column_gain s reduced box) ts
shifted-gain s least n [] reduced box all e f = omega (arith, ints)
shifted-gain s least n (t ∷ ts) reduced box all e f =
    let w : ℤ = int_at reduced t.0 -ℤ s *ℤ t.1 in
    let next : List ℤ = slice_set reduced t.0 w in
    let rest : least_total (shifted s ts next) box ≡ least_total next box +ℤ int_sum_by (column_gain s next box) ts = shifted-gain s (t.0 + 1) n ts next box all.4 (e ∙ sym (length-set reduced t.0 w)) f in
    let same : int_sum_by (column_gain s next box) ts ≡ int_sum_by (column_gain s reduced box) ts = gains-same s reduced box t.0 w (t.0 + 1) n ts all.4 (omega arith) in
    let set : least_total next box +ℤ least_product (int_at reduced t.0) (interval_at box t.0) ≡ least_total reduced box +ℤ least_product w (interval_at box t.0) = least-set reduced box t.0 w (omega (arith, all.1, e)) (omega (arith, all.1, f)) in
    omega (arith, ints, rest, same, set)

-- ---- a multiplier of one row becomes another

sub-mul : (a b c : ℤ) → (a -ℤ b) *ℤ c ≡ a *ℤ c -ℤ b *ℤ c
sub-mul a b c = omega (arith, ints, add-mul a (neg_ℤ b) c, neg-mul b c)

reduced-moved : (rows : List Terms) (ends : List Ends) (scale : ℕ) (ys : List ℤ) (i : ℕ) (z : ℤ) (j : ℕ) (c : ℤ) → i < length ys → reduced_cost rows scale (counted ends (entries_of 0 (slice_set ys i z))) j c ≡ reduced_cost rows scale (counted ends (entries_of 0 ys)) j c -ℤ (counting ends (i, z) -ℤ counting ends (i, int_at ys i)) *ℤ coefficient j (slice_index_or rows i [])
reduced-moved rows ends scale ys i z j c h =
    omega (arith, ints, share-set ends rows ys i z j h, sub-mul (counting ends (i, z)) (counting ends (i, int_at ys i)) (coefficient j (slice_index_or rows i [])))

-- the reduced costs move with the multiplier
pub reduced-set : (p : Program) (scale : ℕ) (ys : List ℤ) (i : ℕ) (z : ℤ) (before after : List ℤ) → i < length ys → AreReduced p scale ys before → length after ≡ length before → ((j : ℕ) → int_at after j ≡ int_at before j -ℤ (counting p.ends (i, z) -ℤ counting p.ends (i, int_at ys i)) *ℤ coefficient j (row_at p i)) → AreReduced p scale (slice_set ys i z) after
reduced-set p scale ys i z before after h all n moved = record {
  count = n ∙ all.count;
  values = λ j g.
      moved j
      ∙ ap (λ (x : ℤ). x -ℤ (counting p.ends (i, z) -ℤ counting p.ends (i, int_at ys i)) *ℤ coefficient j (row_at p i)) (all.values j g)
      ∙ sym (reduced-moved p.rows p.ends scale ys i z j (int_at p.costs j) h);
}

pub least-is : (p : Program) (scale : ℕ) (ys reduced : List ℤ) (box : Box) → AreReduced p scale ys reduced → least_reduced p.rows scale (counted p.ends (entries_of 0 ys)) 0 p.costs box ≡ least_total reduced box
least-is p scale ys reduced box all =
    least-by-costs p.rows scale (counted p.ends (entries_of 0 ys)) 0 p.costs reduced box all.count (λ j h. let at : 0 + j ≡ j = omega arith in rw at (all.values j h))

-- the sum grows by the gain
pub sum-moved : (p : Program) (scale : ℕ) (ys : List ℤ) (i : ℕ) (z : ℤ) (reduced : List ℤ) (box : Box) → i < length ys → AreReduced p scale ys reduced → AreTerms 0 (length p.costs) (row_at p i) → length box ≡ length p.costs → program_sum p (vector_of scale (slice_set ys i z)) box ≡ program_sum p (vector_of scale ys) box +ℤ gain (row_at p i) p.ends reduced box i (int_at ys i) z
sum-moved p scale ys i z reduced box h all terms columns =
    let s : ℤ = counting p.ends (i, z) -ℤ counting p.ends (i, int_at ys i) in
    let after : List ℤ = shifted s (row_at p i) reduced in
    let moved : AreReduced p scale (slice_set ys i z) after = reduced-set p scale ys i z reduced after h all (shifted-length s (row_at p i) reduced) (λ j. shifted-at s 0 (length p.costs) (row_at p i) reduced j terms (sym all.count)) in
    let old : least_reduced p.rows scale (counted p.ends (entries_of 0 ys)) 0 p.costs box ≡ least_total reduced box = least-is p scale ys reduced box all in
    let new : least_reduced p.rows scale (counted p.ends (entries_of 0 (slice_set ys i z))) 0 p.costs box ≡ least_total after box = least-is p scale (slice_set ys i z) after box moved in
    let gained : least_total after box ≡ least_total reduced box +ℤ int_sum_by (column_gain s reduced box) (row_at p i) = shifted-gain s 0 (length p.costs) (row_at p i) reduced box terms (sym all.count) (sym columns) in
    omega (arith, ints, end_sum-set p.ends ys i z h, old, new, gained)
