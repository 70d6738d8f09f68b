-- The answers of a run fit a report.
use Rattle.std.specs.Prelude.{◌≡◌, ℕ, zero, suc, ◌+◌, ◌<◌, ◌≤◌, ◌^◌, ℤ, unsigned_abs, List, [], ◌∷◌, length, slice_get, All, Option, Some, None, IfSome, IfOk, Result, Ok, Err, int_le, Bool, true, false, cond, refl}
use Rattle.std.proofs.Common.{arith, ap, sym, ◌∙◌, subst}
use Rattle.std.proofs.lemmas.List.Elements.{All-nil, All-cons}
use Rattle.int_model.specs.Programs.{Program, Feasible, value}
use Rattle.int_model.proofs.BoxLaws.{length-InBox}
use Rattle.int_model.proofs.LimitLaws.{limits-fit}
use Rattle.scenario_changes.specs.Answers.{HasValue, RightAnswer}
use Rattle.scenario_changes.specs.Problems.{Problem, Scenarios, IsWithin, AreWithin, problem}
use Rattle.scenario_changes.specs.declared.answer.Answer.{Answer}
use Rattle.scenario_changes.specs.declared.answer.Answer.TheVariants.{Infeasible, Optimal, Limit}
use Rattle.certs.specs.Levels.{LevelFits}
use Rattle.certs.specs.Trees.{Place}
use Rattle.certs.specs.Claims.{bound_of, claim_of}
use Rattle.certs.specs.declared.level.Level.{Level}
use Rattle.certs.specs.declared.level.Level.TheVariants.{Value, Inf}
use Rattle.certs.proofs.ClaimLaws.{all_within}
use Rattle.certs.proofs.LimitLaws.{bound-fits}
use Rattle.certs.proofs.TreeLaws.{slice_get-some}
use Rattle.scen_report.specs.Reports.{Fits}
use Rattle.finder.specs.Found.{Found}
use Rattle.open_pool.specs.Pooled.{Pooled, begun}
use Rattle.crew.specs.Crews.{IsCrewRun}
use Rattle.scenopt.specs.Answered.{IsSolved}
use Rattle.certs.specs.declared.tree.Node.{Node}
use Rattle.alone_run.specs.Runs.{IsRun, point_of}

-- what a crew's run ends with, of one finder or more, is what a run of one worker ends with
pub crew_is_solved : (p : Scenarios) (nodes : ℕ) (finders : List Found) (answers : List Answer) (tree : List Node) → 0 < length finders → IsCrewRun (problem p) (begun (problem p) nodes) finders answers tree → IsSolved p nodes answers tree
crew_is_solved p nodes [] answers tree some h = absurd (omega (arith, some))
crew_is_solved p nodes (f ∷ finders) answers tree some h = record { finder = f; run = h 0 f some }

pub if_ok : {T E : Type 0} (r : Result T E) (P Q : T → Type 0) → ((t : T) → P t → Q t) → IfOk r P → IfOk r Q
if_ok (Ok t) P Q f h = f t h
if_ok (Err e) P Q f h = tt

-- a point with its value, in a program within the limits
record FitsHere (columns : ℕ) (x : List ℤ) (v : ℤ) : Type 0 where
  value : unsigned_abs v ≤ 2 ^ 60
  point : length x ≡ columns

fits_here : (columns rows : ℕ) (s : Program) (x : List ℤ) (v : ℤ) → IsWithin columns rows s → HasValue s x v → FitsHere columns x v
fits_here columns rows s x v w h = record {
  value = subst (λ (z : ℤ). unsigned_abs z ≤ 2 ^ 60) h.1 (limits-fit s w.limits x h.0.within).value;
  point = (let long : length s.bounds ≡ columns = w.shape.bounds in let own : length s.bounds ≡ length x = length-InBox s.bounds x h.0.within in omega (arith, long, own));
}

-- the level that a limit claims is the bound
bound_here : (best : Option (List ℤ × ℤ)) (own : Option (List ℤ × ℤ)) (l : Level) (b : ℤ) → LevelFits l → Limit best b ≡ claim_of own l → unsigned_abs b ≤ 2 ^ 60
bound_here best None Inf b f e = absurd (cc)
bound_here best None (Value c) b f e = let same : c ≡ b = cc in subst (λ (z : ℤ). unsigned_abs z ≤ 2 ^ 60) same f
bound_here best (Some (x, v)) Inf b f e = absurd (cc)
bound_here best (Some (x, v)) (Value c) b f e = by_test (int_le v c) e
  where
    by_test : (t : Bool) → Limit best b ≡ cond t (Optimal x v) (Limit (Some (x, v)) c) → unsigned_abs b ≤ 2 ^ 60
    by_test true q = absurd (cc)
    by_test false q = let same : c ≡ b = cc in subst (λ (z : ℤ). unsigned_abs z ≤ 2 ^ 60) same f

answer_fits : (columns rows : ℕ) (s : Program) (a : Answer) (l : Level) → IsWithin columns rows s → RightAnswer s a → LevelFits l → a ≡ claim_of (point_of a) l → Fits columns a
answer_fits columns rows s Infeasible l w r f e = record { value = tt; bound = tt; point = tt }
answer_fits columns rows s (Optimal x v) l w r f e = let h : FitsHere columns x v = fits_here columns rows s x v w r.0 in record { value = h.value; bound = h.value; point = h.point }
answer_fits columns rows s (Limit None b) l w r f e = record { value = tt; bound = bound_here None None l b f e; point = tt }
answer_fits columns rows s (Limit (Some (x, v)) b) l w r f e =
    let h : FitsHere columns x v = fits_here columns rows s x v w r.1.0 in
    record { value = h.value; bound = bound_here (Some (x, v)) (Some (x, v)) l b f e; point = h.point }

all_fit : (columns : ℕ) (answers : List Answer) → ((k : ℕ) (a : Answer) → slice_get answers k ≡ Some a → Fits columns a) → All (Fits columns) answers
all_fit columns [] h = All-nil (Fits columns)
all_fit columns (a ∷ answers) h = All-cons (Fits columns) a answers (h 0 a refl) (all_fit columns answers (λ k b e. h (suc k) b e))

pub run_fits : (p : Problem) (q : Pooled) (f : Found) (answers : List Answer) (nodes : List Node) → AreWithin p → IsRun p q f answers nodes → All (Fits p.columns) answers
run_fits p q f answers nodes within r = all_fit p.columns answers (λ k a e.
    let long : k < length p.scenarios = omega (arith, below answers k a e, r.count) in
    let s = slice_get-some p.scenarios k long in
    answer_fits p.columns p.rows s.0 a (bound_of p r.placed k) (all_within p within k s.0 s.1) ((r.claims k a e).right s.0 s.1) (bound-fits p r.placed (all_within p within) r.tree k s.0 s.1) (r.claims k a e).claim)
  where
    below : (xs : List Answer) (k : ℕ) (a : Answer) → slice_get xs k ≡ Some a → k < length xs
    below [] k a e = absurd (cc)
    below (x ∷ xs) zero a e = omega arith
    below (x ∷ xs) (suc k) a e = let h : k < length xs = below xs k a e in omega arith
