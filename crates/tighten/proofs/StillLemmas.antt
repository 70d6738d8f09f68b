-- Steps that change nothing.
use Rattle.std.specs.Prelude.{◌≡◌, ◌⊎◌, ℕ, suc, ◌+◌, ◌<◌, ◌≤◌, ℤ, pos, ◌+ℤ◌, ◌-ℤ◌, ◌*ℤ◌, neg_ℤ, ◌≤ℤ◌, unsigned_abs, Bool, true, false, cond, nat_eq, List, [], ◌∷◌, length, drop, slice_index_or, Option, Some, None, Result, Ok, Err, IfSome, refl}
use Rattle.std.proofs.Common.{arith, add-one, ap, sym, ◌∙◌, subst, inl, inr, drop-cons}
use Rattle.std.proofs.lemmas.Bool.Decides.{nat_tests}
use Rattle.std.proofs.lemmas.Int.{ints, clamps}
use Rattle.std.proofs.lemmas.List.{length-append, length-drop}
use Rattle.std.specs.declared.alloc.AllocError.{AllocError}
use Rattle.int_model.specs.Boxes.{Interval, Box, interval_at, is_empty}
use Rattle.int_model.specs.Programs.{Terms, AreTerms}
use Rattle.int_model.specs.Models.{IntegerModel}
use Rattle.int_model.specs.RowSums.{coefficient, least_product, greatest_product, least_sum, greatest_sum, without}
use Rattle.int_model.specs.declared.model.Ends.{Ends}
use Rattle.activity.specs.Sums.{SpreadWithin}
use Rattle.activity.proofs.SumLemmas.{ordered}
use Rattle.tighten.specs.declared.engine.Change.{Change}
use Rattle.tighten.specs.declared.engine.Engine.{Engine}
use Rattle.tighten.specs.declared.step.RowEnd.TheVariants.{Lower, Upper}
use Rattle.tighten.specs.declared.step.Step.{Step}
use Rattle.tighten.specs.Cuts.{IsSlack, no_ends}
use Rattle.tighten.specs.Engines.{box_in, restored, Follows, Leaves, ColumnStays, RowStays, IsSettled, IsStill, IsAtRest, Tightens, IsTightened}
use Rattle.tighten.specs.Replay.{narrowed, by_upper, by_lower, tightened_by}
use Rattle.tighten.specs.Steps.{rows_of}
use Rattle.tighten.proofs.CutLemmas.{cut-none}
use Rattle.tighten.proofs.EngineLemmas.{below-is, above-is, same-left}
use Rattle.tighten.proofs.OtherTerms.{coefficient-at, least_sum-split, greatest_sum-split}
use Rattle.tighten.proofs.SumChanges.{product-spread}

-- ---- an engine without a change

nil_of : (xs : List Change) → length xs ≡ 0 → xs ≡ []
nil_of [] e = refl
nil_of (x ∷ xs) e = absurd (omega arith)

pub grows : (before now : Engine) → Follows before now → length before.trail.items ≤ length now.trail.items
grows before now f = omega (arith, ap length f.trail, length-append before.trail.items f.added)

pub no-change : (before now : Engine) → Follows before now → length now.trail.items ≡ length before.trail.items → box_in now ≡ box_in before
no-change before now f same =
    let none : f.added ≡ [] = nil_of f.added (omega (arith, ap length f.trail, length-append before.trail.items f.added)) in
    sym (ap (λ (c : List Change). restored c (box_in now)) none) ∙ f.back

-- ---- a column that its row leaves alone

pub leaves-upper : (n : ℕ) (ts : Terms) (u : Option ℤ) (j : ℕ) (box : Box) (w room : ℤ) → AreTerms 0 n ts → (interval_at box j).low ≤ℤ (interval_at box j).high → IfSome u (λ z. room ≤ℤ (z -ℤ least_sum ts box)) → w ≡ pos (unsigned_abs (coefficient j ts)) *ℤ ((interval_at box j).high -ℤ (interval_at box j).low) → w ≤ℤ room → by_upper ts u j box ≡ interval_at box j
leaves-upper n ts None j box w room all o h e k = refl
leaves-upper n ts (Some u) j box w room all o h e k =
    let within : w ≤ℤ (u -ℤ least_sum ts box) = omega (arith, ints, h, k) in
    sym (below-is n ts (Some u) j box (interval_at box j) (coefficient j ts) (least_sum ts box) all refl refl refl) ∙ cut-none (coefficient j ts) (u -ℤ least_sum ts box) (interval_at box j).low (interval_at box j).high w o e within

same_size : (a : ℤ) → unsigned_abs (neg_ℤ a) ≡ unsigned_abs a
same_size a = omega (arith, ints)

pub leaves-lower : (n : ℕ) (ts : Terms) (v : Option ℤ) (j : ℕ) (box : Box) (w room : ℤ) → AreTerms 0 n ts → (interval_at box j).low ≤ℤ (interval_at box j).high → IfSome v (λ z. room ≤ℤ (greatest_sum ts box -ℤ z)) → w ≡ pos (unsigned_abs (coefficient j ts)) *ℤ ((interval_at box j).high -ℤ (interval_at box j).low) → w ≤ℤ room → by_lower ts v j box ≡ interval_at box j
leaves-lower n ts None j box w room all o h e k = refl
leaves-lower n ts (Some v) j box w room all o h e k =
    let within : w ≤ℤ (greatest_sum ts box -ℤ v) = omega (arith, ints, h, k) in
    let turned : w ≡ pos (unsigned_abs (neg_ℤ (coefficient j ts))) *ℤ ((interval_at box j).high -ℤ (interval_at box j).low) = e ∙ ap (λ (s : ℕ). pos s *ℤ ((interval_at box j).high -ℤ (interval_at box j).low)) (sym (same_size (coefficient j ts))) in
    sym (above-is n ts (Some v) j box (interval_at box j) (coefficient j ts) (greatest_sum ts box) all refl refl refl) ∙ cut-none (neg_ℤ (coefficient j ts)) (greatest_sum ts box -ℤ v) (interval_at box j).low (interval_at box j).high w o turned within

pub column-stays : (n : ℕ) (rows : List Terms) (ends : List Ends) (i j : ℕ) (box : Box) (w room : ℤ) → AreTerms 0 n (slice_index_or rows i []) → is_empty box ≡ false → IsSlack (slice_index_or ends i (record { lower = None; upper = None })) (least_sum (slice_index_or rows i []) box) (greatest_sum (slice_index_or rows i []) box) room → w ≡ pos (unsigned_abs (coefficient j (slice_index_or rows i []))) *ℤ ((interval_at box j).high -ℤ (interval_at box j).low) → w ≤ℤ room → ColumnStays rows ends i j box
column-stays n rows ends i j box w room all o h e k Lower = leaves-lower n (slice_index_or rows i []) (slice_index_or ends i (record { lower = None; upper = None })).lower j box w room all (ordered box j o) h.lower e k
column-stays n rows ends i j box w room all o h e k Upper = leaves-upper n (slice_index_or rows i []) (slice_index_or ends i (record { lower = None; upper = None })).upper j box w room all (ordered box j o) h.upper e k

-- a column that the row has no term of
none_upper : (ts : Terms) (u : Option ℤ) (j : ℕ) (box : Box) → coefficient j ts ≡ pos 0 → by_upper ts u j box ≡ interval_at box j
none_upper ts None j box e = refl
none_upper ts (Some u) j box e = ap (λ (a : ℤ). narrowed a (u -ℤ least_sum (without j ts) box) (interval_at box j)) e

none_lower : (ts : Terms) (v : Option ℤ) (j : ℕ) (box : Box) → coefficient j ts ≡ pos 0 → by_lower ts v j box ≡ interval_at box j
none_lower ts None j box e = refl
none_lower ts (Some v) j box e = ap (λ (a : ℤ). narrowed (neg_ℤ a) (greatest_sum (without j ts) box -ℤ v) (interval_at box j)) e

none_stays : (rows : List Terms) (ends : List Ends) (i j : ℕ) (box : Box) → coefficient j (slice_index_or rows i []) ≡ pos 0 → ColumnStays rows ends i j box
none_stays rows ends i j box e Lower = none_lower (slice_index_or rows i []) (slice_index_or ends i (record { lower = None; upper = None })).lower j box e
none_stays rows ends i j box e Upper = none_upper (slice_index_or rows i []) (slice_index_or ends i (record { lower = None; upper = None })).upper j box e

abbrev HasTerm : Terms → ℕ → ℕ × ℤ → Type 0
HasTerm ts j d = (k : ℕ) × (k < length ts) × ((slice_index_or ts k d).0 ≡ j)

find_later : (t : ℕ × ℤ) (ts : Terms) (j : ℕ) (d : ℕ × ℤ) → (coefficient j ts ≡ pos 0) ⊎ HasTerm ts j d → (b : Bool) → nat_eq t.0 j ≡ b → (cond b t.1 (pos 0) +ℤ coefficient j ts ≡ pos 0) ⊎ HasTerm (t ∷ ts) j d
find_later t ts j d more true e = inr (0, omega arith, grind (arith, nat_tests))
find_later t ts j d (inl none) false e = inl (omega (arith, ints, none))
find_later t ts j d (inr h) false e = inr (suc h.0, omega (arith, h.1), h.2)

find_term : (ts : Terms) (j : ℕ) (d : ℕ × ℤ) → (coefficient j ts ≡ pos 0) ⊎ HasTerm ts j d
find_term [] j d = inl refl
find_term (t ∷ ts) j d = find_later t ts j d (find_term ts j d) (nat_eq t.0 j) refl

-- a row leaves each column alone where it leaves those of its terms alone
pub row-stays : (rows : List Terms) (ends : List Ends) (i : ℕ) (terms : Terms) (box : Box) (d : ℕ × ℤ) → slice_index_or rows i [] ≡ terms → ((k : ℕ) → k < length terms → ColumnStays rows ends i (slice_index_or terms k d).0 box) → RowStays rows ends i box
row-stays rows ends i terms box d e h j side = elim (find_term terms j d) [
  | inl none ↦ none_stays rows ends i j box (ap (coefficient j) e ∙ none) side
  | inr t ↦ subst (λ (c : ℕ). ColumnStays rows ends i c box) t.2 (h t.0 t.1) side
]

pub term-stays : (n : ℕ) (rows : List Terms) (ends : List Ends) (i : ℕ) (terms : Terms) (k : ℕ) (d : ℕ × ℤ) (box : Box) (w room : ℤ) → slice_index_or rows i [] ≡ terms → AreTerms 0 n terms → k < length terms → is_empty box ≡ false → IsSlack (slice_index_or ends i no_ends) (least_sum (slice_index_or rows i []) box) (greatest_sum (slice_index_or rows i []) box) room → w ≡ pos (unsigned_abs (slice_index_or terms k d).1) *ℤ ((interval_at box (slice_index_or terms k d).0).high -ℤ (interval_at box (slice_index_or terms k d).0).low) → w ≤ℤ room → ColumnStays rows ends i (slice_index_or terms k d).0 box
term-stays n rows ends i terms k d box w room e all inside o slack is within =
    let j : ℕ = (slice_index_or terms k d).0 in
    let own : coefficient (slice_index_or terms k d).0 (slice_index_or rows i []) ≡ (slice_index_or terms k d).1 = ap (coefficient (slice_index_or terms k d).0) e ∙ coefficient-at 0 n terms k (slice_index_or terms k d).0 d all inside refl in
    let width : ℤ = (interval_at box (slice_index_or terms k d).0).high -ℤ (interval_at box (slice_index_or terms k d).0).low in
    column-stays n rows ends i (slice_index_or terms k d).0 box w room (subst (AreTerms 0 n) (sym e) all) o slack (is ∙ ap (λ (a : ℤ). pos (unsigned_abs a) *ℤ ((interval_at box (slice_index_or terms k d).0).high -ℤ (interval_at box (slice_index_or terms k d).0).low)) (sym own)) within

-- ---- a row whose ends allow each of its sums

ordered_sums : (ts : Terms) (box : Box) → least_sum ts box ≤ℤ greatest_sum ts box
ordered_sums [] box = omega (arith, ints)
ordered_sums ((j, a) ∷ ts) box =
    let own : least_product a (interval_at box j) ≤ℤ greatest_product a (interval_at box j) = omega (arith, ints, clamps) in
    omega (arith, ints, own, ordered_sums ts box)

pub spread-within : (n : ℕ) (ts : Terms) (j : ℕ) (box : Box) → AreTerms 0 n ts → is_empty box ≡ false → (pos (unsigned_abs (coefficient j ts)) *ℤ ((interval_at box j).high -ℤ (interval_at box j).low)) ≤ℤ (greatest_sum ts box -ℤ least_sum ts box)
spread-within n ts j box all o =
    omega (arith, ints, product-spread (coefficient j ts) (interval_at box j) (ordered box j o), ordered_sums (without j ts) box, least_sum-split n j ts box all, greatest_sum-split n j ts box all)

pub redundant-stays : (n : ℕ) (rows : List Terms) (ends : List Ends) (i : ℕ) (box : Box) (room : ℤ) → AreTerms 0 n (slice_index_or rows i []) → is_empty box ≡ false → IsSlack (slice_index_or ends i (record { lower = None; upper = None })) (least_sum (slice_index_or rows i []) box) (greatest_sum (slice_index_or rows i []) box) room → (greatest_sum (slice_index_or rows i []) box -ℤ least_sum (slice_index_or rows i []) box) ≤ℤ room → RowStays rows ends i box
redundant-stays n rows ends i box room all o h k j =
    let within = spread-within n (slice_index_or rows i []) j box all o in
    let small : (pos (unsigned_abs (coefficient j (slice_index_or rows i []))) *ℤ ((interval_at box j).high -ℤ (interval_at box j).low)) ≤ℤ room = omega (arith, ints, within, k) in
    column-stays n rows ends i j box (pos (unsigned_abs (coefficient j (slice_index_or rows i []))) *ℤ ((interval_at box j).high -ℤ (interval_at box j).low)) room all o h refl small

-- the same where no term's spread is above the slack
pub calm-stays : (n : ℕ) (rows : List Terms) (ends : List Ends) (i : ℕ) (box : Box) (w : ℕ) (room : ℤ) → AreTerms 0 n (slice_index_or rows i []) → is_empty box ≡ false → IsSlack (slice_index_or ends i (record { lower = None; upper = None })) (least_sum (slice_index_or rows i []) box) (greatest_sum (slice_index_or rows i []) box) room → SpreadWithin w (slice_index_or rows i []) box → pos w ≤ℤ room → RowStays rows ends i box
calm-stays n rows ends i box w room all o h spread k =
    row-stays rows ends i (slice_index_or rows i []) box (0, pos 0) refl
    (λ t inside.
    let a : ℤ = (slice_index_or (slice_index_or rows i []) t (0, pos 0)).1 in
    let here : Interval = interval_at box (slice_index_or (slice_index_or rows i []) t (0, pos 0)).0 in
    let size = product-spread (slice_index_or (slice_index_or rows i []) t (0, pos 0)).1 (interval_at box (slice_index_or (slice_index_or rows i []) t (0, pos 0)).0) (ordered box (slice_index_or (slice_index_or rows i []) t (0, pos 0)).0 o) in
    let small : (pos (unsigned_abs (slice_index_or (slice_index_or rows i []) t (0, pos 0)).1) *ℤ ((interval_at box (slice_index_or (slice_index_or rows i []) t (0, pos 0)).0).high -ℤ (interval_at box (slice_index_or (slice_index_or rows i []) t (0, pos 0)).0).low)) ≤ℤ room = omega (arith, ints, size, spread t inside, k) in
    term-stays n rows ends i (slice_index_or rows i []) t (0, pos 0) box _ room refl all inside o h refl small)

-- ---- all rows

pub settled-rows : (m : IntegerModel) (ends : List Ends) (box : Box) → is_empty box ≡ false → ((i : ℕ) → i < length m.rows → RowStays (rows_of m) ends i box) → IsSettled m ends box
settled-rows m ends box o h step s = same-left box step.column _ o (h step.row s.row step.column step.side)

-- ---- calls one after another

pub still-as : (P : Type 0) (before now : Engine) (b : Bool) → b ≡ true → IsStill P before (Ok b) now → IsStill P before (Ok true) now
still-as P before now b e h = subst (λ (v : Bool). IsStill P before (Ok v) now) e h

pub column-still : (m : IntegerModel) (ends : List Ends) (first next last : Engine) (i j : ℕ) (r : Result Bool AllocError) → Follows first next → IsTightened m ends next r last → IsStill (Leaves (rows_of m) ends (record { row = i; column = j; side = Upper }) (box_in first)) first (Ok true) next → IsStill (Leaves (rows_of m) ends (record { row = i; column = j; side = Lower }) (box_in next)) next r last → IsStill (ColumnStays (rows_of m) ends i j (box_in first)) first r last
column-still m ends first next last i j (Err e) f t h k = tt
column-still m ends first next last i j (Ok false) f t h k = tt
column-still m ends first next last i j (Ok true) f t h k =
    λ (same : length last.trail.items ≡ length first.trail.items).
    let up = grows first next f in
    let more = grows next last t.follows in
    let early : length next.trail.items ≡ length first.trail.items = omega (arith, up, more) in
    let late : length last.trail.items ≡ length next.trail.items = omega (arith, early) in
    let upper = h early in
    let lower = k late in
    (sides upper.0 (subst (Leaves (rows_of m) ends (record { row = i; column = j; side = Lower })) (no-change first next f early) lower.0), lower.1 ∙ upper.1)
  where
    sides : Leaves (rows_of m) ends (record { row = i; column = j; side = Upper }) (box_in first) → Leaves (rows_of m) ends (record { row = i; column = j; side = Lower }) (box_in first) → ColumnStays (rows_of m) ends i j (box_in first)
    sides a b Lower = b
    sides a b Upper = a

-- ---- the rows of a queue

pub record IsNext (xs rest : List ℕ) (n row count : ℕ) : Type 0 where
  pub later : rest ≡ drop (n + 1) xs
  pub is_row : row ≡ n
  pub inside : n < count

heads : {a b : ℕ} {xs ys : List ℕ} → a ∷ xs ≡ b ∷ ys → (a ≡ b) × (xs ≡ ys)
heads e = (cc, cc)

pub next-row : (xs rest : List ℕ) (n row count : ℕ) → drop n xs ≡ row ∷ rest → length xs ≡ count → ((k : ℕ) → k < count → slice_index_or xs k 0 ≡ k) → IsNext xs rest n row count
next-row xs rest n row count e c order =
    let inside : n < count = omega (arith, ap length e, length-drop n xs, c) in
    let within : n < length xs = omega (arith, inside, c) in
    let parts = heads (sym (drop-cons xs n 0 within) ∙ e) in
    record {
      later = rw add-one (sym parts.1);
      is_row = sym parts.0 ∙ order n inside;
      inside = inside;
    }

-- ---- where no step is taken

no_steps : (steps : List Step) → length steps ≡ 0 → steps ≡ []
no_steps [] e = refl
no_steps (step ∷ steps) e = absurd (omega arith)

some_none : {b : Box} → Some b ≡ None → ⊥
some_none e = cc

pub none-occupied : (m : IntegerModel) (ends : List Ends) (before now : Engine) (is_occupied : Bool) (t : Tightens m ends before is_occupied now) → length t.taken ≡ 0 → is_occupied ≡ true
none-occupied m ends before now true t e = refl
none-occupied m ends before now false t e = absurd (some_none (sym (ap (λ (s : List Step). tightened_by (rows_of m) ends s (box_in before)) (no_steps t.taken e)) ∙ t.leads))

pub at-rest : (m : IntegerModel) (ends : List Ends) (box : Box) (before now : Engine) (b : Bool) → b ≡ true → IsAtRest m ends before (Ok b) now → length now.trail.items ≡ length before.trail.items → box_in before ≡ box → IsSettled m ends box
at-rest m ends box before now b e h still same = subst (IsSettled m ends) same (subst (λ (v : Bool). IsAtRest m ends before (Ok v) now) e h still)
