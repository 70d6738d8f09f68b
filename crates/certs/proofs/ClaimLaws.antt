-- Laws of the order of levels, and of the claims of a run.
use Rattle.std.specs.Prelude.{◌≡◌, ◌⊎◌, ℕ, zero, suc, ℤ, ◌≤ℤ◌, Bool, true, false, cond, int_le, IsTrue, IfSome, List, [], ◌∷◌, slice_get, slice_index_or, filter_map, Option, Some, None, refl}
use Rattle.std.proofs.Common.{arith, ap, ◌∙◌, subst, inl, inr}
use Rattle.std.proofs.lemmas.Int.{ints}
use Rattle.std.proofs.lemmas.Option.{slice_get_within, get_or_from_slice_get}
use Rattle.int_model.specs.Programs.{Program, Feasible, value}
use Rattle.scenario_changes.specs.Problems.{Problem, IsWithin, AreWithin}
use Rattle.scenario_changes.specs.Answers.{HasValue, RightAnswer}
use Rattle.scenario_changes.specs.declared.answer.Answer.TheVariants.{Optimal, Limit}
use Rattle.certs.specs.Levels.{AtMost, level_le, greater_level, lesser_level, least_level}
use Rattle.certs.specs.Laws.{Orders}
use Rattle.certs.specs.Trees.{Place, IsTree, end_levels}
use Rattle.certs.specs.Claims.{EndsFrom, bound_of, claim_of}
use Rattle.certs.specs.declared.level.Level.{Level}
use Rattle.certs.specs.declared.level.Level.TheVariants.{Value, Inf}
use Rattle.certs.specs.declared.tree.Node.{Node}
use Rattle.certs.proofs.TreeLaws.{AllWithin, AtMost-below, AtMost-greater, ends-bound}

-- each program of a problem within the limits is within them
pub all_within : (p : Problem) → AreWithin p → AllWithin p
all_within p w k s e =
    subst (λ (t : Program). IsWithin p.columns p.rows t) (get_or_from_slice_get p.scenarios k s s e) (w.programs k s (slice_get_within p.scenarios k s e))

-- ---- the order

level_le-true : (a b : Level) → ((v : ℤ) → AtMost b v → AtMost a v) → IsTrue (level_le a b)
level_le-true (Value a) (Value b) h = let below : a ≤ℤ b = h b (omega (arith, ints)) in grind (arith, ints, below)
level_le-true (Value a) Inf h = refl
level_le-true Inf (Value b) h = absurd (h b (omega (arith, ints)))
level_le-true Inf Inf h = refl

-- of two levels one is at most the other
level_le-total : (a b : Level) → level_le a b ≡ false → IsTrue (level_le b a)
level_le-total (Value a) (Value b) e = grind (arith, ints, e)
level_le-total (Value a) Inf e = absurd (cc)
level_le-total Inf (Value b) e = refl
level_le-total Inf Inf e = absurd (cc)

greater-parts : (a b : Level) (v : ℤ) → AtMost (greater_level a b) v → AtMost a v × AtMost b v
greater-parts a b v = by_test (level_le a b) refl
  where
    by_test : (t : Bool) → level_le a b ≡ t → AtMost (cond t b a) v → AtMost a v × AtMost b v
    by_test true e h = (AtMost-below a b v e h, h)
    by_test false e h = (h, AtMost-below b a v (level_le-total a b e) h)

lesser-part : (a b : Level) (v : ℤ) → AtMost (lesser_level a b) v → AtMost a v ⊎ AtMost b v
lesser-part a b v = by_test (level_le a b)
  where
    by_test : (t : Bool) → AtMost (cond t a b) v → AtMost a v ⊎ AtMost b v
    by_test true h = inl h
    by_test false h = inr h

part-lesser : (a b : Level) (v : ℤ) → AtMost a v ⊎ AtMost b v → AtMost (lesser_level a b) v
part-lesser a b v = by_test (level_le a b) refl
  where
    by_test : (t : Bool) → level_le a b ≡ t → AtMost a v ⊎ AtMost b v → AtMost (cond t a b) v
    by_test true e h = elim h [ inl k ↦ k | inr k ↦ AtMost-below a b v e k ]
    by_test false e h = elim h [ inl k ↦ AtMost-below b a v (level_le-total a b e) k | inr k ↦ k ]

pub orders : (a b : Level) → Orders a b
orders a b = record {
  at_most = (λ e v h. AtMost-below a b v e h, level_le-true a b);
  greater = λ v. (greater-parts a b v, λ h. AtMost-greater a b v h.0 h.1);
  lesser = λ v. (lesser-part a b v, part-lesser a b v);
}

-- ---- the least level over the ends

le-trans : (a b c : Level) → IsTrue (level_le a b) → IsTrue (level_le b c) → IsTrue (level_le a c)
le-trans a b c e g = level_le-true a c (λ v h. AtMost-below a b v e (AtMost-below b c v g h))

le-refl : (a : Level) → IsTrue (level_le a a)
le-refl a = level_le-true a a (λ v h. h)

lesser-left : (a b : Level) → IsTrue (level_le (lesser_level a b) a)
lesser-left a b = level_le-true (lesser_level a b) a (λ v h. part-lesser a b v (inl h))

lesser-right : (a b : Level) → IsTrue (level_le (lesser_level a b) b)
lesser-right a b = level_le-true (lesser_level a b) b (λ v h. part-lesser a b v (inr h))

-- the least of the levels that f finds is at most each of them
least-found : {X : Type 0} (f : X → Option Level) (xs : List X) (n : ℕ) (x : X) (l : Level) → slice_get xs n ≡ Some x → f x ≡ Some l → IsTrue (level_le (least_level (filter_map f xs)) l)
least-found f [] n x l e g = absurd (cc)
least-found {X} f (y ∷ xs) n x l e g = by_head (f y) refl n e (λ m d. least-found f xs m x l d g)
  where
    by_head : (o : Option Level) → f y ≡ o → (n : ℕ) → slice_get (y ∷ xs) n ≡ Some x → ((m : ℕ) → slice_get xs m ≡ Some x → IsTrue (level_le (least_level (filter_map f xs)) l)) → IsTrue (level_le (least_level (filter_map f (y ∷ xs))) l)
    by_head None q zero d more = let same : y ≡ x = cc in let none : f y ≡ Some l = ap f same ∙ g in absurd (cc)
    by_head None q (suc m) d more = rw q (more m d)
    by_head (Some a) q zero d more =
        let same : y ≡ x = cc in
        let own : f y ≡ Some l = ap f same ∙ g in
        let level : a ≡ l = cc in
        rw q (subst (λ (b : Level). IsTrue (level_le (lesser_level a (least_level (filter_map f xs))) b)) level (lesser-left a (least_level (filter_map f xs))))
    by_head (Some a) q (suc m) d more =
        rw q (le-trans (lesser_level a (least_level (filter_map f xs))) (least_level (filter_map f xs)) l (lesser-right a (least_level (filter_map f xs))) (more m d))

pub ends-from-bound : (p : Problem) (placed : List (Node × Place)) (k : ℕ) → EndsFrom p placed k (bound_of p placed k)
ends-from-bound p placed k n node place l e g =
    least-found (λ (z : Node × Place). slice_index_or (end_levels p z.1 z.0) k None) placed n (node, place) l e g

-- ---- claims

claim_right : (s : Program) (best : Option (List ℤ × ℤ)) (l : Level) → IfSome best (λ (b : List ℤ × ℤ). HasValue s b.0 b.1) → ((x : List ℤ) → Feasible s x → AtMost l (value s x)) → RightAnswer s (claim_of best l)
claim_right s None Inf h below = below
claim_right s None (Value b) h below = (below, tt)
claim_right s (Some (x, v)) Inf h below = absurd (below x h.0)
claim_right s (Some (x, v)) (Value b) h below = by_test (int_le v b) refl
  where
    by_test : (t : Bool) → int_le v b ≡ t → RightAnswer s (cond t (Optimal x v) (Limit (Some (x, v)) b))
    by_test true e = (h, λ y f. (let low : b ≤ℤ value s y = below y f in let top : v ≤ℤ b = omega (arith, ints, e) in omega (arith, ints, low, top)))
    by_test false e = (below, (h, omega (arith, ints, e)))

pub run_right : (p : Problem) (placed : List (Node × Place)) → AllWithin p → IsTree p placed → (k : ℕ) (s : Program) → slice_get p.scenarios k ≡ Some s → (best : Option (List ℤ × ℤ)) → IfSome best (λ (b : List ℤ × ℤ). HasValue s b.0 b.1) → RightAnswer s (claim_of best (bound_of p placed k))
run_right p placed limits tree k s found best h =
    claim_right s best (bound_of p placed k) h (λ x f. ends-bound p limits placed tree k s found (bound_of p placed k) (ends-from-bound p placed k) x f)
