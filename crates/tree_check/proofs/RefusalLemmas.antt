-- A log that is refused isn't accepted: the places of a tree follow from its nodes.
use Rattle.std.specs.Prelude.{◌≡◌, ℕ, zero, suc, ◌<◌, ◌≤◌, List, [], ◌∷◌, ◌++◌, length, map, take, slice_get, slice_index_or, true, false, Some, None, flat_map, refl}
use Rattle.std.proofs.Common.{arith, ap, sym, ◌∙◌, subst, inl, inr}
use Rattle.int_model.specs.Programs.{Program}
use Rattle.scenario_changes.specs.Problems.{Problem, program_at}
use Rattle.scenario_changes.specs.declared.answer.Answer.{Answer}
use Rattle.scenario_changes.specs.declared.answer.Answer.TheVariants.{Infeasible, Optimal, Limit}
use Rattle.certs.specs.Levels.{level_le}
use Rattle.certs.specs.Trees.{Place, arrivals, handed, is_valid, IsTree}
use Rattle.certs.specs.Claims.{Accepted, ClaimHolds, claimed_level}
use Rattle.certs.specs.declared.tree.Node.{Node}
use Rattle.tree_log.specs.declared.file.LogFile.{LogFile}
use Rattle.tree_check.specs.Checks.{BoundHolds, HasCounts, IsFirstBelow, IsRefused, PointHolds, Stands}
use Rattle.tree_check.specs.Fronts.{IsFirstWrong, IsFront}
use Rattle.tree_check.specs.declared.checking.CheckError.{CheckError}
use Rattle.tree_check.specs.declared.checking.CheckError.TheVariants.{Shape, Level as Below, PointWrong, ClaimWrong, Memory}
use Rattle.tree_check.proofs.WalkLemmas.{get_below, get_there, take_next, take_length, take_whole, map_length}

front_of : (p : Problem) (placed : List (Node × Place)) → IsTree p placed → IsFront p (length placed) placed
front_of p placed t = record { arrival = λ n node place e. (t.right n node place e).arrival; valid = λ n node place e. (t.right n node place e).valid }

get_map : {X Y : Type 0} (f : X → Y) (xs : List X) (n : ℕ) (x : X) → slice_get xs n ≡ Some x → slice_get (map f xs) n ≡ Some (f x)
get_map f [] n x e = absurd (cc)
get_map f (y ∷ xs) zero x e = let q : y ≡ x = cc in ap (λ z. Some (f z)) q
get_map f (y ∷ xs) (suc n) x e = get_map f xs n x e

get_take : {X : Type 0} (xs : List X) (m n : ℕ) → n < m → slice_get (take m xs) n ≡ slice_get xs n
get_take xs zero n h = absurd (omega arith)
get_take [] (suc m) n h = refl
get_take (x ∷ xs) (suc m) zero h = refl
get_take (x ∷ xs) (suc m) (suc n) h = get_take xs m n (omega arith)

arrivals_by : (p : Problem) (a b : List (Node × Place)) (n : ℕ) → take n a ≡ take n b → arrivals p a n ≡ arrivals p b n
arrivals_by p a b zero e = refl
arrivals_by p a b (suc n) e = ap (flat_map (handed p (suc n))) e

-- two right fronts agree as far as their nodes do
fronts_same : (p : Problem) (c d : ℕ) (a b : List (Node × Place)) → IsFront p c a → IsFront p d b → (m : ℕ) → m ≤ length a → m ≤ length b → ((n : ℕ) → n < m → slice_get (map (λ (e : Node × Place). e.0) a) n ≡ slice_get (map (λ (e : Node × Place). e.0) b) n) → take m a ≡ take m b
fronts_same p c d a b f g zero h k same = refl
fronts_same p c d a b f g (suc m) h k same =
    let before : take m a ≡ take m b = fronts_same p c d a b f g m (omega arith) (omega arith) (λ n l. same n (omega arith)) in
    let x = get_there a m (omega arith) in
    let y = get_there b m (omega arith) in
    let nodes : Some x.0.0 ≡ Some y.0.0 = sym (get_map (λ (e : Node × Place). e.0) a m x.0 x.1) ∙ same m (omega arith) ∙ get_map (λ (e : Node × Place). e.0) b m y.0 y.1 in
    let node : x.0.0 ≡ y.0.0 = cc in
    let places : x.0.1 ∷ [] ≡ y.0.1 ∷ [] = sym (f.arrival m x.0.0 x.0.1 x.1) ∙ arrivals_by p a b m before ∙ g.arrival m y.0.0 y.0.1 y.1 in
    let place : x.0.1 ≡ y.0.1 = cc in
    let pair : x.0 ≡ y.0 = ap (λ (n : Node). (n, x.0.1)) node ∙ ap (λ (q : Place). (y.0.0, q)) place in
    sym (take_next a m x.0 x.1) ∙ ap (λ (xs : List (Node × Place)). xs ++ x.0 ∷ []) before ∙ ap (λ (e : Node × Place). take m b ++ e ∷ []) pair ∙ take_next b m y.0 y.1

wrong_not : (p : Problem) (answers : List Answer) (nodes : List Node) (n : ℕ) → IsFirstWrong p nodes n → Accepted p answers nodes → ⊥
wrong_not p answers nodes n w a =
    let below : n < length nodes = get_below nodes n w.node w.here in
    let long : length w.placed ≡ n = sym (map_length (λ (e : Node × Place). e.0) w.placed) ∙ ap length w.before ∙ take_length nodes n (omega (arith, below)) in
    let whole : length a.placed ≡ length nodes = sym (map_length (λ (e : Node × Place). e.0) a.placed) ∙ ap length a.nodes_are in
    let same : take n w.placed ≡ take n a.placed = fronts_same p (length nodes) (length a.placed) w.placed a.placed w.front (front_of p a.placed a.tree) n (omega (arith, long)) (omega (arith, below, whole)) (λ m l. ap (λ (xs : List Node). slice_get xs m) w.before ∙ get_take nodes n m l ∙ ap (λ (xs : List Node). slice_get xs m) (sym a.nodes_are)) in
    let x = get_there a.placed n (omega (arith, below, whole)) in
    let right = a.tree.right n x.0.0 x.0.1 x.1 in
    let node : Some x.0.0 ≡ Some w.node = sym (get_map (λ (e : Node × Place). e.0) a.placed n x.0 x.1) ∙ ap (λ (xs : List Node). slice_get xs n) a.nodes_are ∙ w.here in
    let is : x.0.0 ≡ w.node = cc in
    let here : arrivals p w.placed n ≡ x.0.1 ∷ [] = arrivals_by p w.placed a.placed n same ∙ right.arrival in
    let valid : is_valid p (length nodes) n x.0.1 w.node ≡ true = subst (λ (k : Node). is_valid p (length nodes) n x.0.1 k ≡ true) is (subst (λ (c : ℕ). is_valid p c n x.0.1 x.0.0 ≡ true) whole right.valid) in
    let w2 : false ≡ true = sym (w.wrong x.0.1 here) ∙ valid in absurd (cc)

below_not : (p : Problem) (log : LogFile) (placed : List (Node × Place)) (n k : ℕ) → Stands p log placed → IsFirstBelow p log.answers placed n k → Accepted p log.answers log.tree → ⊥
below_not p log placed n k s b a =
    let long : length placed ≡ length log.tree = sym (map_length (λ (e : Node × Place). e.0) placed) ∙ ap length s.nodes_are in
    let whole : length a.placed ≡ length log.tree = sym (map_length (λ (e : Node × Place). e.0) a.placed) ∙ ap length a.nodes_are in
    let all : take (length log.tree) placed ≡ take (length log.tree) a.placed = fronts_same p (length placed) (length a.placed) placed a.placed (front_of p placed s.tree) (front_of p a.placed a.tree) (length log.tree) (omega (arith, long)) (omega (arith, whole)) (λ m l. ap (λ (xs : List Node). slice_get xs m) (s.nodes_are ∙ sym a.nodes_are)) in
    let same : placed ≡ a.placed = sym (take_whole placed (length log.tree) (omega (arith, long))) ∙ all ∙ take_whole a.placed (length log.tree) (omega (arith, whole)) in
    let here : slice_get a.placed n ≡ Some (b.end.node, b.end.place) = ap (λ (xs : List (Node × Place)). slice_get xs n) (sym same) ∙ b.end.here in
    let reach : level_le (claimed_level b.claim) b.level ≡ true = a.levels k b.claim b.claimed n b.end.node b.end.place b.level here b.end.level in
    let w : false ≡ true = sym b.below ∙ reach in absurd (cc)

program_here : (ss : List Program) (k : ℕ) (d s : Program) → slice_get ss k ≡ Some s → slice_index_or ss k d ≡ s
program_here [] k d s e = absurd (cc)
program_here (t ∷ ss) zero d s e = cc
program_here (t ∷ ss) (suc k) d s e = program_here ss k d s e

point_of_claim : (p : Problem) (k : ℕ) (a : Answer) → ClaimHolds (program_at p k) a → PointHolds p k a
point_of_claim p k Infeasible h = tt
point_of_claim p k (Optimal x v) h = h
point_of_claim p k (Limit None b) h = tt
point_of_claim p k (Limit (Some (x, v)) b) h = h.0

bound_of_claim : (s : Program) (a : Answer) → ClaimHolds s a → BoundHolds a
bound_of_claim s Infeasible h = tt
bound_of_claim s (Optimal x v) h = tt
bound_of_claim s (Limit None b) h = tt
bound_of_claim s (Limit (Some (x, v)) b) h = h.1

claim_at : (p : Problem) (answers : List Answer) (nodes : List Node) (k : ℕ) (c : Answer) → Accepted p answers nodes → slice_get answers k ≡ Some c → ClaimHolds (program_at p k) c
claim_at p answers nodes k c a e =
    let long : k < length p.scenarios = omega (arith, get_below answers k c e, a.count) in
    let there = get_there p.scenarios k long in
    subst (λ (t : Program). ClaimHolds t c) (sym (program_here p.scenarios k _ there.0 there.1)) (a.claims k there.0 c there.1 e)

pub refused_not_accepted : (p : Problem) (log : LogFile) (e : CheckError) → IsRefused p log e → (e ≡ Memory → ⊥) → HasCounts p log → Accepted p log.answers log.tree → ⊥
refused_not_accepted p log (Shape n) (inl r) m h a = r.1 h
refused_not_accepted p log (Shape n) (inr r) m h a = wrong_not p log.answers log.tree n r.1 a
refused_not_accepted p log (Below n k) r m h a = below_not p log r.0 n k r.1 r.2 a
refused_not_accepted p log (PointWrong k) r m h a = r.3.fails (point_of_claim p k r.3.claim (claim_at p log.answers log.tree k r.3.claim a r.3.here))
refused_not_accepted p log (ClaimWrong k) r m h a = r.4.fails (bound_of_claim (program_at p k) r.4.claim (claim_at p log.answers log.tree k r.4.claim a r.4.here))
refused_not_accepted p log Memory r m h a = m refl
