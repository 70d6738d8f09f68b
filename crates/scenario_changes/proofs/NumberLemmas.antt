-- The numbers of a scenario, one place after another.
use Rattle.std.specs.Prelude.{◌≡◌, ℕ, zero, suc, ◌+◌, ◌<◌, true, false, List, [], ◌∷◌, ◌++◌, length, map, drop, slice_get, slice_index_or, Option, Some, None, unwrap_or, refl}
use Rattle.std.proofs.Common.{arith, ap, sym, ◌∙◌, subst, append_assoc}
use Rattle.std.proofs.lemmas.List.{drop_more, length-map}
use Rattle.std.proofs.lemmas.Option.{get_or_from_slice_get}
use Rattle.int_model.specs.Limits.{IsSide}
use Rattle.int_model.specs.Ends.{ends_of, is_removable, RhsFits}
use Rattle.int_model.specs.Models.{IntegerModel}
use Rattle.int_model.specs.declared.model.Row.{Row}
use Rattle.int_model.specs.declared.model.Rhs.{Rhs}
use Rattle.int_model.specs.declared.model.Rhs.TheVariants.{Value, Inf, MinusInf}
use Rattle.scenario_changes.specs.Changes.{Change, changed, shape_of, AreSides, IsChange, no_change, rhs_exceeds, may_have}
use Rattle.scenario_changes.specs.Problems.{ends_of_rows}
use Rattle.scenario_changes.proofs.ChangeLemmas.{no_change-good}

-- a list that is made item by item: done so far, and the rest of the whole
pub one-more : {A : Type 0} (done new rest left whole : List A) (y z : A) → done ++ rest ≡ whole → rest ≡ z ∷ left → y ≡ z → new ≡ done ++ y ∷ [] → new ++ left ≡ whole
one-more done new rest left whole y z before is same made =
    ap (λ ys. ys ++ left) made ∙ append_assoc done (y ∷ []) left ∙ ap (λ x. done ++ x ∷ left) same ∙ sym (ap (λ ys. done ++ ys) is) ∙ before

pub at-place : {X : Type 0} (xs : List X) (i : ℕ) (x : X) → i < length xs → slice_get xs i ≡ Some x → drop i xs ≡ x ∷ drop (i + 1) xs
at-place xs i x h at = drop_more xs i x h ∙ ap (λ y. y ∷ drop (i + 1) xs) (get_or_from_slice_get xs i x x at)

-- the first of what is left
pub peel-changed : {X A : Type 0} (f : X → A) (xs : List X) (cs : List (Option A)) (i : ℕ) (x : X) (d : Option A) → i < length xs → i < length cs → slice_get xs i ≡ Some x → changed (map f (drop i xs)) (drop i cs) ≡ unwrap_or (slice_index_or cs i d) (f x) ∷ changed (map f (drop (i + 1) xs)) (drop (i + 1) cs)
peel-changed f xs cs i x d h k at =
    ap (λ ys. changed (map f ys) (drop i cs)) (at-place xs i x h at) ∙ ap (λ ds. changed (f x ∷ map f (drop (i + 1) xs)) ds) (drop_more cs i d k)

pub peel-ends : (rows : List Row) (cs : List (Option Rhs)) (i : ℕ) (row : Row) (d : Option Rhs) → i < length rows → i < length cs → slice_get rows i ≡ Some row → ends_of_rows (drop i rows) (changed (map (λ (r : Row). Value r.rhs) (drop i rows)) (drop i cs)) ≡ ends_of row (unwrap_or (slice_index_or cs i d) (Value row.rhs)) ∷ ends_of_rows (drop (i + 1) rows) (changed (map (λ (r : Row). Value r.rhs) (drop (i + 1) rows)) (drop (i + 1) cs))
peel-ends rows cs i row d h k at =
    ap (λ (rs : List Row). ends_of_rows rs (changed (map (λ (r : Row). Value r.rhs) rs) (drop i cs))) (at-place rows i row h at)
    ∙ ap (λ (ds : List (Option Rhs)). ends_of_rows (row ∷ drop (i + 1) rows) (changed (Value row.rhs ∷ map (λ (r : Row). Value r.rhs) (drop (i + 1) rows)) ds)) (drop_more cs i d k)

-- ---- right-hand sides

-- a right-hand side that a row of this shape can have
pub record IsSideOf (row : Row) (v : Option Rhs) : Type 0 where
  pub small : rhs_exceeds v ≡ false
  pub allowed : may_have (shape_of row) v ≡ true

same-item : (x y : Row) → Some x ≡ Some y → x ≡ y
same-item x y e = cc

pub side-at : (rows : List Row) (vs : List (Option Rhs)) (i : ℕ) (row : Row) (d : Option Rhs) → AreSides (map shape_of rows) vs → i < length vs → slice_get rows i ≡ Some row → IsSideOf row (slice_index_or vs i d)
side-at [] vs i row d s h at = absurd (cc)
side-at (r ∷ rows) [] i row d s h at = absurd (omega arith)
side-at (r ∷ rows) (v ∷ vs) zero row d s h at =
    subst (λ (x : Row). IsSideOf x v) (same-item r row at) (record { small = s.0; allowed = s.1 })
side-at (r ∷ rows) (v ∷ vs) (suc i) row d s h at = side-at rows vs i row d s.2 (omega arith) at

pub record CanStand (row : Row) (b : Rhs) : Type 0 where
  pub removable : is_removable row b ≡ true
  pub small : RhsFits b

infinite-allowed : (row : Row) (b : Rhs) → may_have (shape_of row) (Some b) ≡ true → is_removable row b ≡ true
infinite-allowed row b e = e

pub can-stand : (row : Row) (v : Option Rhs) → IsSide row.rhs → IsSideOf row v → CanStand row (unwrap_or v (Value row.rhs))
can-stand row None h s = record { removable = refl; small = h }
can-stand row (Some (Value b)) h s = record { removable = refl; small = grind (arith, s.small) }
can-stand row (Some Inf) h s = record { removable = infinite-allowed row Inf s.allowed; small = tt }
can-stand row (Some MinusInf) h s = record { removable = infinite-allowed row MinusInf s.allowed; small = tt }

-- ---- a scenario without changes

pub base-good : (m : IntegerModel) (n k : ℕ) (base : Change) → n ≡ length m.columns → k ≡ length m.rows → base ≡ no_change n k → IsChange (length m.columns) (map shape_of m.rows) base
base-good m n k base a b e =
    let count : k ≡ length (map shape_of m.rows) = b ∙ sym (length-map m.rows shape_of) in
    let good : IsChange (length m.columns) (map shape_of m.rows) (no_change (length m.columns) (length (map shape_of m.rows))) = no_change-good (length m.columns) (map shape_of m.rows) in
    subst (IsChange (length m.columns) (map shape_of m.rows)) (sym (e ∙ ap (λ (c : ℕ). no_change c k) a ∙ ap (λ (c : ℕ). no_change (length m.columns) c) count)) good

pub stands-at : (rows : List Row) (vs : List (Option Rhs)) (i : ℕ) (row : Row) (d : Option Rhs) (b : Rhs) → AreSides (map shape_of rows) vs → i < length vs → slice_get rows i ≡ Some row → IsSide row.rhs → b ≡ unwrap_or (slice_index_or vs i d) (Value row.rhs) → CanStand row b
stands-at rows vs i row d b s h at small e = subst (CanStand row) (sym e) (can-stand row (slice_index_or vs i d) small (side-at rows vs i row d s h at))
