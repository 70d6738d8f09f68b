use Rattle.std.proofs.Common.{arith, ◌↔◌, ◌∙◌, ℕ, List, Option, None, IsTrue, Contains, length, slice_index_or, sym, ap, subst}
use Rattle.std.specs.Arc.{arc_value}
use Rattle.scenario_changes.specs.Problems.{problem}
use Rattle.certs.specs.declared.level.Level.{Level}
use Rattle.bb_core.specs.Shared.{outcome_of, work_of}
use Rattle.node_work.specs.Branches.{IsSplit}
use Rattle.node_work.specs.Stayers.{undercuts, AreStayers}
use Rattle.node_work.proofs.LawfulLaws.{close_lawful, split_lawful}
use Rattle.node_work.proofs.OutcomeLaws.{valid_by, stays_as}
use Rattle.node_work.proofs.StayLaws.{stayers_open, stayers_have, stayers_live, are_stayers}
use Rattle.node_work.proofs.deciding.outcome.Goals as goal

pub stayers-stay-requires-clause-cuts : goal.stayers-stay-requires-clause-cuts
stayers-stay-requires-clause-cuts c =
    let valid = valid_by (problem c.args.problem.now) (work_of c.args.work.now) c.args.probe.now.cert c.args.probe.now.verdicts c.args.probe.now.found.items c.raise_levels-is_valid.result c.raise_levels-is_valid.new.out.items c.requires.good c.iter-members.ensures.set c.requires.live c.requires.levels c.raise_levels-is_valid.ensures.yes c.raise_levels-is_valid.ensures.no in
    c.requires.count ∙ sym (c.raise_levels-is_valid.ensures.many valid.is_true) ∙ sym (ap length c.deref-2.ensures.value)

pub returns-then-is_empty-clause-lawful : goal.returns-then-is_empty-clause-lawful
returns-then-is_empty-clause-lawful c = λ count l.
    let valid = valid_by (problem c.args.problem.now) (work_of c.args.work.now) c.args.probe.now.cert c.args.probe.now.verdicts c.args.probe.now.found.items c.raise_levels-is_valid.result c.raise_levels-is_valid.new.out.items c.requires.good c.iter-members.ensures.set c.requires.live c.requires.levels c.raise_levels-is_valid.ensures.yes c.raise_levels-is_valid.ensures.no in
    close_lawful (problem c.args.problem.now) count (work_of c.args.work.now) c.args.probe.now.cert c.args.probe.now.verdicts c.raise_levels-is_valid.new.out.items valid.is_raised

pub split-requires-clause-count : goal.split-requires-clause-count
split-requires-clause-count c =
    let valid = valid_by (problem c.args.problem.now) (work_of c.args.work.now) c.args.probe.now.cert c.args.probe.now.verdicts c.args.probe.now.found.items c.raise_levels-is_valid.result c.raise_levels-is_valid.new.out.items c.requires.good c.iter-members.ensures.set c.requires.live c.requires.levels c.raise_levels-is_valid.ensures.yes c.raise_levels-is_valid.ensures.no in
    ap length c.deref-3.ensures.value ∙ c.raise_levels-is_valid.ensures.many valid.is_true ∙ sym c.requires.levels

pub split-requires-clause-open : goal.split-requires-clause-open
split-requires-clause-open c =
    let valid = valid_by (problem c.args.problem.now) (work_of c.args.work.now) c.args.probe.now.cert c.args.probe.now.verdicts c.args.probe.now.found.items c.raise_levels-is_valid.result c.raise_levels-is_valid.new.out.items c.requires.good c.iter-members.ensures.set c.requires.live c.requires.levels c.raise_levels-is_valid.ensures.yes c.raise_levels-is_valid.ensures.no in
    let members : (k : ℕ) → Contains c.stayers-stay.result k ↔ IsTrue (undercuts c.args.cuts.now c.raise_levels-is_valid.new.out.items k) = subst (λ (rs : List (Option Level)). (k : ℕ) → Contains c.stayers-stay.result k ↔ IsTrue (undercuts c.args.cuts.now rs k)) c.deref-2.ensures.value c.stayers-stay.ensures in
    stayers_open (problem c.args.problem.now) (arc_value c.args.work.now.bounds) c.args.probe.now.cert c.args.probe.now.found.items c.args.cuts.now c.requires.cuts c.args.work.now.live (arc_value c.args.work.now.levels) c.raise_levels-is_valid.new.out.items c.stayers-stay.result c.requires.levels valid.from members

pub split-requires-clause-stay : goal.split-requires-clause-stay
split-requires-clause-stay c = λ k e q.
    let members : (k : ℕ) → Contains c.stayers-stay.result k ↔ IsTrue (undercuts c.args.cuts.now c.raise_levels-is_valid.new.out.items k) = subst (λ (rs : List (Option Level)). (k : ℕ) → Contains c.stayers-stay.result k ↔ IsTrue (undercuts c.args.cuts.now rs k)) c.deref-2.ensures.value c.stayers-stay.ensures in
    stayers_have (problem c.args.problem.now) (arc_value c.args.work.now.bounds) c.args.probe.now.cert c.args.probe.now.found.items c.args.cuts.now c.requires.cuts c.raise_levels-is_valid.new.out.items c.stayers-stay.result members k e (ap (λ (rs : List (Option Level)). slice_index_or rs k None) (sym c.deref-3.ensures.value) ∙ q)

pub returns-clause-lawful : goal.returns-clause-lawful
returns-clause-lawful c = λ count l.
    let valid = valid_by (problem c.args.problem.now) (work_of c.args.work.now) c.args.probe.now.cert c.args.probe.now.verdicts c.args.probe.now.found.items c.raise_levels-is_valid.result c.raise_levels-is_valid.new.out.items c.requires.good c.iter-members.ensures.set c.requires.live c.requires.levels c.raise_levels-is_valid.ensures.yes c.raise_levels-is_valid.ensures.no in
    let members : (k : ℕ) → Contains c.stayers-stay.result k ↔ IsTrue (undercuts c.args.cuts.now c.raise_levels-is_valid.new.out.items k) = subst (λ (rs : List (Option Level)). (k : ℕ) → Contains c.stayers-stay.result k ↔ IsTrue (undercuts c.args.cuts.now rs k)) c.deref-2.ensures.value c.stayers-stay.ensures in
    let made : IsSplit (problem c.args.problem.now) (arc_value c.args.work.now.bounds) c.args.probe.now.cert c.stayers-stay.result c.raise_levels-is_valid.new.out.items (outcome_of c.in_ok-outcome.outcome) = subst (λ (rs : List (Option Level)). IsSplit (problem c.args.problem.now) (arc_value c.args.work.now.bounds) c.args.probe.now.cert c.stayers-stay.result rs (outcome_of c.in_ok-outcome.outcome)) c.deref-3.ensures.value c.in_ok-outcome.ensures in
    split_lawful (problem c.args.problem.now) count (work_of c.args.work.now) c.args.probe.now.cert c.args.probe.now.verdicts c.raise_levels-is_valid.new.out.items valid.is_raised c.stayers-stay.result (outcome_of c.in_ok-outcome.outcome) (record {
      rising = c.rising.ensures;
      live = stayers_live (problem c.args.problem.now) (arc_value c.args.work.now.bounds) c.args.probe.now.cert c.args.probe.now.found.items c.args.cuts.now c.requires.cuts c.args.work.now.live (arc_value c.args.work.now.levels) c.raise_levels-is_valid.new.out.items c.stayers-stay.result c.requires.levels valid.from members;
      node = l;
    }) made

pub returns-clause-stay : goal.returns-clause-stay
returns-clause-stay c =
    let valid = valid_by (problem c.args.problem.now) (work_of c.args.work.now) c.args.probe.now.cert c.args.probe.now.verdicts c.args.probe.now.found.items c.raise_levels-is_valid.result c.raise_levels-is_valid.new.out.items c.requires.good c.iter-members.ensures.set c.requires.live c.requires.levels c.raise_levels-is_valid.ensures.yes c.raise_levels-is_valid.ensures.no in
    let members : (k : ℕ) → Contains c.stayers-stay.result k ↔ IsTrue (undercuts c.args.cuts.now c.raise_levels-is_valid.new.out.items k) = subst (λ (rs : List (Option Level)). (k : ℕ) → Contains c.stayers-stay.result k ↔ IsTrue (undercuts c.args.cuts.now rs k)) c.deref-2.ensures.value c.stayers-stay.ensures in
    let made : IsSplit (problem c.args.problem.now) (arc_value c.args.work.now.bounds) c.args.probe.now.cert c.stayers-stay.result c.raise_levels-is_valid.new.out.items (outcome_of c.in_ok-outcome.outcome) = subst (λ (rs : List (Option Level)). IsSplit (problem c.args.problem.now) (arc_value c.args.work.now.bounds) c.args.probe.now.cert c.stayers-stay.result rs (outcome_of c.in_ok-outcome.outcome)) c.deref-3.ensures.value c.in_ok-outcome.ensures in
    subst (λ (ks : List ℕ). AreStayers (problem c.args.problem.now) (work_of c.args.work.now) c.args.probe.now.cert c.args.probe.now.verdicts c.args.cuts.now ks) (sym (stays_as (problem c.args.problem.now) (arc_value c.args.work.now.bounds) c.args.probe.now.cert c.stayers-stay.result c.raise_levels-is_valid.new.out.items c.in_ok-outcome.outcome made)) (are_stayers (problem c.args.problem.now) (work_of c.args.work.now) c.args.probe.now.cert c.args.probe.now.verdicts c.args.cuts.now c.raise_levels-is_valid.new.out.items c.stayers-stay.result valid.is_raised.raised_to members)

pub stayers-stay-requires-clause-few : goal.stayers-stay-requires-clause-few
stayers-stay-requires-clause-few c =
    let valid = valid_by (problem c.args.problem.now) (work_of c.args.work.now) c.args.probe.now.cert c.args.probe.now.verdicts c.args.probe.now.found.items c.raise_levels-is_valid.result c.raise_levels-is_valid.new.out.items c.requires.good c.iter-members.ensures.set c.requires.live c.requires.levels c.raise_levels-is_valid.ensures.yes c.raise_levels-is_valid.ensures.no in
    omega (arith, ap length c.deref-2.ensures.value, c.raise_levels-is_valid.ensures.many valid.is_true, c.count.ensures.limits.few_scenarios)

pub split-requires-clause-few : goal.split-requires-clause-few
split-requires-clause-few c =
    let valid = valid_by (problem c.args.problem.now) (work_of c.args.work.now) c.args.probe.now.cert c.args.probe.now.verdicts c.args.probe.now.found.items c.raise_levels-is_valid.result c.raise_levels-is_valid.new.out.items c.requires.good c.iter-members.ensures.set c.requires.live c.requires.levels c.raise_levels-is_valid.ensures.yes c.raise_levels-is_valid.ensures.no in
    omega (arith, ap length c.deref-3.ensures.value, c.raise_levels-is_valid.ensures.many valid.is_true, c.count.ensures.limits.few_scenarios)
