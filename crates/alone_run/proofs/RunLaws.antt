-- What the end of a run allows to claim.
use Rattle.std.specs.Prelude.{◌≡◌, ◌⊎◌, ◌<◌, ◌≤◌, ℕ, zero, suc, ◌+◌, ℤ, true, false, Bool, cond, int_le, List, [], ◌∷◌, ◌++◌, length, map, filter_map, slice_get, slice_index_or, Option, Some, None, IfSome, IsTrue, MatchOption, refl}
use Rattle.std.proofs.Common.{arith, ap, sym, ◌∙◌, subst, inl, inr}
use Rattle.std.proofs.lemmas.Option.{slice_get_within, get_or_from_slice_get}
use Rattle.int_model.specs.Programs.{Program}
use Rattle.scenario_changes.specs.Problems.{Problem, AreWithin, program_at}
use Rattle.scenario_changes.specs.Problems as problems
use Rattle.scenario_changes.specs.Answers.{HasValue, RightAnswer}
use Rattle.scenario_changes.specs.declared.answer.Answer.{Answer}
use Rattle.scenario_changes.specs.declared.answer.Answer.TheVariants.{Infeasible, Optimal, Limit}
use Rattle.certs.specs.Levels.{level_le, least_level}
use Rattle.certs.specs.Trees.{Place, end_levels}
use Rattle.certs.specs.Claims.{ClaimHolds, EndsFrom, claimed_level, bound_of, claim_of}
use Rattle.certs.specs.declared.tree.Node.{Node}
use Rattle.certs.specs.declared.level.Level.{Level}
use Rattle.certs.specs.declared.level.Level.TheVariants.{Value, Inf}
use Rattle.certs.proofs.ClaimLaws.{all_within, ends-from-bound, run_right}
use Rattle.bb_core.specs.Coverage.{Slot, Mark, Closed, Open, Held, Covers, placed_of}
use Rattle.bb_core.proofs.ListWrites.{some_same, append-get}
use Rattle.finder.specs.Kept.{place_at}
use Rattle.finder.specs.Found.{Found, IsSound, scenario_count, program_of}
use Rattle.open_pool.specs.Pooled.{Pooled, nodes_of, IsFull, IsStopped}
use Rattle.alone_run.specs.Turns.{IsNoWorse}
use Rattle.alone_run.specs.Runs.{AreAbove, with_value, best_of, best_level, point_of, IsLimit, ReachedFrom, IsClaimed, IsRun}
use Rattle.alone_run.specs.Steps.{AreClaims, AreClosed, IsOver}
use Rattle.alone_run.proofs.CodeOrder.{le_self, le_trans, below_both}
use Rattle.alone_run.proofs.BestLaws.{best_value, best_falls}

-- ---- claims

point_is : (best : Option (List ℤ × ℤ)) (l : Level) → point_of (claim_of best l) ≡ best
point_is None Inf = refl
point_is None (Value b) = refl
point_is (Some (x, v)) Inf = refl
point_is (Some (x, v)) (Value b) = by_test (int_le v b)
  where
    by_test : (t : Bool) → point_of (cond t (Optimal x v) (Limit (Some (x, v)) b)) ≡ Some (x, v)
    by_test true = refl
    by_test false = refl

claim_below : (best : Option (List ℤ × ℤ)) (l : Level) → IsTrue (level_le (claimed_level (claim_of best l)) l)
claim_below None Inf = refl
claim_below None (Value b) = le_self (Value b)
claim_below (Some (x, v)) Inf = refl
claim_below (Some (x, v)) (Value b) = by_test (int_le v b) refl
  where
    by_test : (t : Bool) → int_le v b ≡ t → IsTrue (level_le (claimed_level (cond t (Optimal x v) (Limit (Some (x, v)) b))) (Value b))
    by_test true e = e
    by_test false e = le_self (Value b)

no_limit : (best : Option (List ℤ × ℤ)) (l : Level) → IsTrue (level_le (best_level best) l) → IsLimit (claim_of best l) → ⊥
no_limit None Inf h g = g
no_limit None (Value b) h g = absurd (cc)
no_limit (Some (x, v)) Inf h g = g
no_limit (Some (x, v)) (Value b) h g = by_test (int_le v b) h g
  where
    by_test : (t : Bool) → IsTrue t → IsLimit (cond t (Optimal x v) (Limit (Some (x, v)) b)) → ⊥
    by_test true e k = k
    by_test false e k = absurd (cc)

holds : (s : Program) (a : Answer) → RightAnswer s a → ClaimHolds s a
holds s Infeasible h = tt
holds s (Optimal x v) h = h.0
holds s (Limit best b) h = h.1

least_above : {X : Type 0} (f : X → Option Level) (b : Level) (xs : List X) → ((n : ℕ) (x : X) (l : Level) → slice_get xs n ≡ Some x → f x ≡ Some l → IsTrue (level_le b l)) → IsTrue (level_le b (least_level (filter_map f xs)))
least_above f Inf [] h = refl
least_above f (Value v) [] h = refl
least_above {X} f b (x ∷ xs) h = by_head (f x) refl (least_above f b xs (λ n y l e g. h (suc n) y l e g))
  where
    by_head : (o : Option Level) → f x ≡ o → IsTrue (level_le b (least_level (filter_map f xs))) → IsTrue (level_le b (least_level (filter_map f (x ∷ xs))))
    by_head None q rest = rw q rest
    by_head (Some l) q rest = rw q (below_both b l (least_level (filter_map f xs)) (h 0 x l refl q) rest)

-- ---- slots and their nodes

nodes_are : (slots : List Slot) → map (λ (e : Node × Place). e.0) (placed_of slots) ≡ nodes_of slots
nodes_are [] = refl
nodes_are (t ∷ slots) = ap (λ ns. t.node ∷ ns) (nodes_are slots)

slot_of : (slots : List Slot) (n : ℕ) (node : Node) (place : Place) → slice_get (placed_of slots) n ≡ Some (node, place) → (t : Slot) × (slice_get slots n ≡ Some t) × (t.node ≡ node) × (t.place ≡ place)
slot_of [] n node place e = absurd (cc)
slot_of (t ∷ slots) zero node place e = let same : (t.node, t.place) ≡ (node, place) = some_same e in (t, refl, ap (λ (z : Node × Place). z.0) same, ap (λ (z : Node × Place). z.1) same)
slot_of (t ∷ slots) (suc n) node place e = slot_of slots n node place e

length_placed : (slots : List Slot) → length (placed_of slots) ≡ length slots
length_placed [] = refl
length_placed (t ∷ slots) = ap suc (length_placed slots)

length_nodes : (slots : List Slot) → length (nodes_of slots) ≡ length slots
length_nodes [] = refl
length_nodes (t ∷ slots) = ap suc (length_nodes slots)

-- ---- the run

-- what is known at the end: f is the finder and q the pool, and first and begun are those of the start
pub record IsEnd (p : Problem) (begun : Pooled) (first : Found) (q : Pooled) (f : Found) (answers : List Answer) : Type 0 where
  pub limits : AreWithin p
  pub covered : Covers p q.slots q.caps
  pub many : length q.caps ≡ length p.scenarios
  pub within : length q.slots ≤ q.nodes
  pub nodes : q.nodes ≡ begun.nodes
  pub grown : length begun.slots ≤ length q.slots
  pub problem : problems.problem f.problem ≡ p
  pub sound : IsSound f
  pub first_sound : IsSound first
  pub worse : IsNoWorse first f
  pub caps : AreAbove f q.caps
  pub over : AreClosed q.slots ⊎ (IsStopped begun ⊎ IsFull p q.nodes (length q.slots))
  pub claims : AreClaims p q f answers

module _ (p : Problem) (begun : Pooled) (first : Found) (q : Pooled) (f : Found) (answers : List Answer) (h : IsEnd p begun first q f answers) where
  below_answers : (k : ℕ) (a : Answer) → slice_get answers k ≡ Some a → k < length p.scenarios
  below_answers k a e = omega (arith, slice_get_within answers k a e, h.claims.count)

  below_finder : (k : ℕ) → k < length p.scenarios → k < scenario_count f.problem
  below_finder k lt = subst (λ (r : Problem). k < length r.scenarios) (sym h.problem) lt

  -- a closed end has at least the best value
  closed_end : (k : ℕ) → k < length p.scenarios → (n : ℕ) (t : Slot) (l : Level) → slice_get q.slots n ≡ Some t → t.mark ≡ Closed → slice_index_or (end_levels p t.place t.node) k None ≡ Some l → IsTrue (level_le (best_level (best_of f k)) l)
  closed_end k lt n t l e m g =
      le_trans (best_level (best_of f k)) (slice_index_or q.caps k Inf) l (h.caps k (omega (arith, h.many, lt))) (h.covered.closed n t e m k l g)

  best_right : (k : ℕ) → k < length p.scenarios → IfSome (best_of f k) (λ (b : List ℤ × ℤ). HasValue (program_at p k) b.0 b.1)
  best_right k lt =
      let own = best_value f h.sound k (below_finder k lt) in
      subst (λ (r : Problem). IfSome (best_of f k) (λ (b : List ℤ × ℤ). HasValue (program_at r k) b.0 b.1)) h.problem own

  module _ (k : ℕ) (a : Answer) (e : slice_get answers k ≡ Some a) where
    lt : k < length p.scenarios
    lt = below_answers k a e

    is : a ≡ claim_of (best_of f k) (bound_of p (placed_of q.slots) k)
    is = h.claims.each k a e

    point : point_of a ≡ best_of f k
    point = ap point_of is ∙ point_is (best_of f k) (bound_of p (placed_of q.slots) k)

    right : (s : Program) → slice_get p.scenarios k ≡ Some s → RightAnswer s a
    right s found =
        let same : program_at p k ≡ s = get_or_from_slice_get p.scenarios k s _ found in
        let best : IfSome (best_of f k) (λ (b : List ℤ × ℤ). HasValue s b.0 b.1) = subst (λ (r : Program). IfSome (best_of f k) (λ (b : List ℤ × ℤ). HasValue r b.0 b.1)) same (best_right k lt) in
        subst (RightAnswer s) (sym is) (run_right p (placed_of q.slots) (all_within p h.limits) h.covered.tree k s found (best_of f k) best)

    reached : ReachedFrom p (placed_of q.slots) k (best_level (point_of a))
    reached n node place l g rest end =
        let t = slot_of q.slots n node place g in
        let level : slice_index_or (end_levels p t.0.place t.0.node) k None ≡ Some l = ap (λ (r : Place). slice_index_or (end_levels p r t.0.node) k None) t.3 ∙ (ap (λ (r : Node). slice_index_or (end_levels p place r) k None) t.2 ∙ end) in
        let closed : t.0.mark ≡ Closed = by_mark t.0.mark t.0.mark refl (λ c. rest (sym t.2 ∙ h.covered.unsettled n t.0 t.1 c)) in
        subst (λ (b : Option (List ℤ × ℤ)). IsTrue (level_le (best_level b) l)) (sym point) (closed_end k lt n t.0 l t.1 closed level)
      where
        by_mark : (m w : Mark) → m ≡ w → ((m ≡ Closed → ⊥) → ⊥) → m ≡ Closed
        by_mark m Closed q stays = q
        by_mark m Open q stays = absurd (stays (λ c. (let w : Open ≡ Closed = sym q ∙ c in absurd (cc))))
        by_mark m (Held b) q stays = absurd (stays (λ c. (let w : Held b ≡ Closed = sym q ∙ c in absurd (cc))))

    limit : IsLimit a → IsStopped begun ⊎ IsFull p begun.nodes (length (placed_of q.slots))
    limit g = elim h.over [
      | inl closed ↦ absurd (no_limit (best_of f k) (bound_of p (placed_of q.slots) k) (least_above (λ (z : Node × Place). slice_index_or (end_levels p z.1 z.0) k None) (best_level (best_of f k)) (placed_of q.slots) (λ n z l d end. (let t = slot_of q.slots n z.0 z.1 d in
          let level : slice_index_or (end_levels p t.0.place t.0.node) k None ≡ Some l = ap (λ (r : Place). slice_index_or (end_levels p r t.0.node) k None) t.3 ∙ (ap (λ (r : Node). slice_index_or (end_levels p z.1 r) k None) t.2 ∙ end) in
          closed_end k lt n t.0 l t.1 (closed n t.0 t.1) level))) (subst IsLimit is g))
      | inr more ↦ (elim more [
        | inl s ↦ inl s
        | inr full ↦ inr (record { places = omega (arith, full.places, h.nodes, length_placed q.slots); points = omega (arith, full.points, h.nodes) })
      ])
    ]

    claimed : IsClaimed p begun first (placed_of q.slots) k a
    claimed = record {
      claim = is ∙ ap (λ (b : Option (List ℤ × ℤ)). claim_of b (bound_of p (placed_of q.slots) k)) (sym point);
      right = right;
      better = subst (λ (b : Option (List ℤ × ℤ)). IsTrue (level_le (best_level b) (best_level (best_of first k)))) (sym point) (best_falls first f h.first_sound h.sound h.worse k (subst (λ r. k < scenario_count r) h.worse.same.problem (below_finder k lt)));
      reached = reached;
      limit = limit;
    }

    levels : EndsFrom p (placed_of q.slots) k (claimed_level a)
    levels n node place l g end =
        le_trans (claimed_level a) (bound_of p (placed_of q.slots) k) l
        (subst (λ (b : Answer). IsTrue (level_le (claimed_level b) (bound_of p (placed_of q.slots) k))) (sym is) (claim_below (best_of f k) (bound_of p (placed_of q.slots) k)))
        (ends-from-bound p (placed_of q.slots) k n node place l g end)

  pub is_run : IsRun p begun first answers (nodes_of q.slots)
  is_run = record {
    placed = placed_of q.slots;
    nodes_are = nodes_are q.slots;
    tree = h.covered.tree;
    within = omega (arith, length_nodes q.slots, h.within, h.nodes);
    grown = omega (arith, length_nodes q.slots, h.grown);
    accepted = record {
      placed = placed_of q.slots;
      nodes_are = nodes_are q.slots;
      tree = h.covered.tree;
      count = h.claims.count;
      levels = levels;
      claims = λ k s a found e. holds s a (right k a e s found);
    };
    count = h.claims.count;
    claims = claimed;
  }

-- ---- a claim more

claim_is : {X : Type 0} (x : X → List ℤ) (v : X → ℤ) (s : Program) (kept : Option (List ℤ)) (b : Level) (a : Answer) (best : Option X) → MatchOption best (kept ≡ None) (λ r. kept ≡ Some (x r)) → MatchOption best (Unit {0}) (λ r. HasValue s (x r) (v r)) → MatchOption best (a ≡ claim_of None b) (λ r. a ≡ claim_of (Some (x r, v r)) b) → a ≡ claim_of (with_value s kept) b
claim_is x v s kept b a None p q e = e ∙ ap (λ (o : Option (List ℤ)). claim_of (with_value s o) b) (sym p)
claim_is x v s kept b a (Some r) p q e =
    e ∙ (ap (λ (z : ℤ). claim_of (Some (x r, z)) b) (sym q.1) ∙ ap (λ (o : Option (List ℤ)). claim_of (with_value s o) b) (sym p))

pub claims_more : {X : Type 0} (x : X → List ℤ) (v : X → ℤ) (p : Problem) (q : Pooled) (f : Found) (k : ℕ) (a : Answer) (b : Level) (best : Option X) → MatchOption best ((place_at f.points k).point ≡ None) (λ r. (place_at f.points k).point ≡ Some (x r)) → MatchOption best (Unit {0}) (λ r. HasValue (program_of f.problem k) (x r) (v r)) → MatchOption best (a ≡ claim_of None b) (λ r. a ≡ claim_of (Some (x r, v r)) b) → b ≡ bound_of p (placed_of q.slots) k → a ≡ claim_of (best_of f k) (bound_of p (placed_of q.slots) k)
claims_more x v p q f k a b best at_k has is e =
    claim_is x v (program_of f.problem k) (place_at f.points k).point b a best at_k has is ∙ ap (claim_of (best_of f k)) e

-- the list with that claim at its end
pub each_more : (p : Problem) (q : Pooled) (f : Found) (answers : List Answer) (s : ℕ) (a : Answer) → length answers ≡ s → ((k : ℕ) (c : Answer) → slice_get answers k ≡ Some c → c ≡ claim_of (best_of f k) (bound_of p (placed_of q.slots) k)) → a ≡ claim_of (best_of f s) (bound_of p (placed_of q.slots) s) → (k : ℕ) (c : Answer) → slice_get (answers ++ a ∷ []) k ≡ Some c → c ≡ claim_of (best_of f k) (bound_of p (placed_of q.slots) k)
each_more p q f answers s a many each is k c e = elim (append-get answers (a ∷ []) k c e) [
  | inl old ↦ each k c old
  | inr new ↦ last new.0 new.1 new.2
]
  where
    last : (j : ℕ) → k ≡ length answers + j → slice_get (a ∷ []) j ≡ Some c → c ≡ claim_of (best_of f k) (bound_of p (placed_of q.slots) k)
    last zero d g =
        let here : s ≡ k = omega (arith, d, many) in
        subst (λ (m : ℕ). c ≡ claim_of (best_of f m) (bound_of p (placed_of q.slots) m)) here (sym (some_same g) ∙ is)
    last (suc j) d g = absurd (cc)

-- the last step began with a pool that is stopped where the first one is
pub over_from : (p : Problem) (first before now : Pooled) → now.problem ≡ p → before.stopped ≡ first.stopped → before.halted ≡ first.halted → IsOver before now → AreClosed now.slots ⊎ (IsStopped first ⊎ IsFull p now.nodes (length now.slots))
over_from p first before now same e d h = elim h.over [
  | inl closed ↦ inl closed
  | inr more ↦ (elim more [
    | inl s ↦ inr (inl (record { stopped = sym e ∙ s.stopped; halted = sym d ∙ s.halted }))
    | inr full ↦ inr (inr (subst (λ (r : Problem). IsFull r now.nodes (length now.slots)) same full))
  ])
]
