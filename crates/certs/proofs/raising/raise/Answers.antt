use Rattle.std.proofs.Common.{arith, ◌≡◌, ◌≤◌, ◌<◌, ◌++◌, ◌∷◌, [], length, slice_index_or, Some, None, sym, ap, ◌∙◌, List, Option, Vec, Global, vec_capacity, Bor}
use Rattle.certs.specs.Levels.{greater_level}
use Rattle.certs.specs.Trees.{of_live}
use Rattle.certs.specs.declared.level.Level.{Level}
use Rattle.certs.specs.declared.verdict.Verdict.{Verdict}
use Rattle.certs.proofs.LevelLists.{length_live}
use Rattle.scenario_changes.specs.Problems.{problem}
use Rattle.certs.proofs.RaiseLaws.{judged_here, length_zero, none_next, some_next, raise_short, raise_missing, raise_bad}
use Rattle.certs.proofs.raising.raise.Goals.{in-None, in-Some+in-Some-split_first+in-Some-judge}
use Rattle.certs.proofs.raising.raise.Goals as goal

pub returns-then-k-len-clause-no : goal.returns-then-k-len-clause-no
returns-then-k-len-clause-no c =
    let long : length (of_live c.args.live 0 c.args.levels.now) ≤ c.loop-k.k = omega (arith, length_live c.args.live 0 c.args.levels.now) in
    λ _. raise_short _ _ _ _ _ _ _ _ c.loop-k.invariant.so_far (omega arith) long

pub returns-in-None-split_first-clause-no : goal.returns-in-None-split_first-clause-no
returns-in-None-split_first-clause-no c =
    let long : c.loop-k.k < length (of_live c.args.live 0 c.args.levels.now) = omega (arith, length_live c.args.live 0 c.args.levels.now) in
    let here : slice_index_or (of_live c.args.live 0 c.args.levels.now) c.loop-k.k None ≡ Some c.in-Some.level = sym c.in-Some.ensures in
    λ _. raise_missing _ _ _ _ _ c.loop-k.k _ _ c.in-Some.level c.loop-k.invariant.so_far (omega arith) long here (length_zero c.loop-k.rest.now c.in-None-split_first.ensures.cases)

pub returns-in-None-judge-clause-no : goal.returns-in-None-judge-clause-no
returns-in-None-judge-clause-no c =
    let long : c.loop-k.k < length (of_live c.args.live 0 c.args.levels.now) = omega (arith, length_live c.args.live 0 c.args.levels.now) in
    let here : slice_index_or (of_live c.args.live 0 c.args.levels.now) c.loop-k.k None ≡ Some c.in-Some.level = sym c.in-Some.ensures in
    λ _. raise_bad _ _ _ _ _ c.loop-k.k _ c.in-Some-split_first.verdict.now _ c.in-Some-split_first.others.now c.in-Some.level c.loop-k.invariant.so_far (omega arith) long here c.in-Some-split_first.ensures.cases.0 (λ s f. sym c.in-None-judge.is ∙ c.judge.ensures.level ∙ judged_here (problem c.args.problem.now) c.loop-k.k s c.args.bounds.now c.args.cert.now c.in-Some-split_first.verdict.now f)

pub loop-k-preserved : goal.loop-k-preserved
loop-k-preserved c =
    let long : c.loop-k.k < length (of_live c.args.live 0 c.args.levels.now) = omega (arith, length_live c.args.live 0 c.args.levels.now) in
    let few : c.loop-k.k < length (problem c.args.problem.now).scenarios = omega arith in
    elim c.match-live_level.branch [
      | in-None w ↦ record {
        so_far =
            let none : slice_index_or (of_live c.args.live 0 c.args.levels.now) c.loop-k.k None ≡ None = sym c.live_level.ensures ∙ w.in-None.is in
            none_next _ _ _ _ _ c.loop-k.k c.loop-k.out.items _ c.loop-k.rest.now c.match-live_level.rest.now c.loop-k.invariant.so_far few long none (ap (λ (v : Vec (Option Level) Global). v.items) w.out-is ∙ w.push_reserved.ensures.items) (ap (λ (r : Bor (List Verdict)). r.now) w.rest-is);
        room = ap (λ (v : Vec (Option Level) Global). vec_capacity v) w.out-is ∙ w.push_reserved.ensures.capacity ∙ c.loop-k.invariant.room;
        scratch = ap length w.scratch-is ∙ c.loop-k.invariant.scratch;
      }
      | in-Some+in-Some-split_first+in-Some-judge w ↦ record {
        so_far =
            let here : slice_index_or (of_live c.args.live 0 c.args.levels.now) c.loop-k.k None ≡ Some w.in-Some.level = sym c.live_level.ensures ∙ w.in-Some.is in
            let rest : c.loop-k.rest.now ≡ w.in-Some-split_first.verdict.now ∷ c.match-live_level.rest.now = w.in-Some-split_first.ensures.cases.0 ∙ ap (λ (r : Bor (List Verdict)). w.in-Some-split_first.verdict.now ∷ r.now) (sym w.rest-is) in
            let new : c.match-live_level.out.items ≡ c.loop-k.out.items ++ Some (greater_level w.in-Some.level w.in-Some-judge.more) ∷ [] = ap (λ (v : Vec (Option Level) Global). v.items) w.out-is ∙ w.push_reserved-in-Some-judge.ensures.items ∙ ap (λ (l : Level). c.loop-k.out.items ++ Some l ∷ []) w.greater_level.ensures in
            some_next _ _ _ _ _ c.loop-k.k c.loop-k.out.items _ w.in-Some-split_first.verdict.now c.loop-k.rest.now c.match-live_level.rest.now w.in-Some.level w.in-Some-judge.more c.loop-k.invariant.so_far few long here (λ s f. sym w.in-Some-judge.is ∙ w.judge.ensures.level ∙ judged_here (problem c.args.problem.now) c.loop-k.k s c.args.bounds.now c.args.cert.now w.in-Some-split_first.verdict.now f) new rest;
        room = ap (λ (v : Vec (Option Level) Global). vec_capacity v) w.out-is ∙ w.push_reserved-in-Some-judge.ensures.capacity ∙ c.loop-k.invariant.room;
        scratch = ap length w.scratch-is ∙ w.judge.ensures.count;
      }
    ]
