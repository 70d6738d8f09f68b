use Rattle.std.proofs.Common.{◌<◌, sym, ap, subst}
use Rattle.int_model.specs.Programs.{Feasible}
use Rattle.scenario_changes.specs.Problems.{Scenarios}
use Rattle.incumbent_words.specs.Rule.{code_at}
use Rattle.finder.specs.Found.{scenario_count, program_of, IsOwn}
use Rattle.finder.proofs.PointLemmas.{feasible-columns, feasible-small}
use Rattle.finder.proofs.finder.Finder.best.Goals as goal

in_range : (c : goal.In-Some) → c.args.s < scenario_count c.self.inside.problem.now
in_range c = subst (λ (p : Scenarios). c.args.s < scenario_count p) (sym (ap (λ f. f.problem) c.self.view_is)) c.requires

feasible : (c : goal.In-Some) → Feasible (program_of c.self.inside.problem.now c.args.s) c.in-Some.x.now
feasible c = (subst (IsOwn (program_of c.self.inside.problem.now c.args.s) (code_at c.self.inside.seat.view.offers c.args.s)) c.in-Some.ensures (c.self.invariant.own c.args.s (in_range c))).0

pub value-requires-clause-columns : goal.value-requires-clause-columns
value-requires-clause-columns c = feasible-columns c.self.inside.problem.now c.args.s c.in-Some.x.now c.self.invariant.limits (in_range c) (feasible c)

pub value-requires-clause-bounds : goal.value-requires-clause-bounds
value-requires-clause-bounds c = feasible-small c.self.inside.problem.now c.args.s c.in-Some.x.now c.self.invariant.limits (in_range c) (feasible c)
