use Rattle.std.proofs.Common.{◌≡◌}
use Rattle.std.specs.Prelude.{replicate}
use Rattle.certs.specs.declared.level.Level.TheVariants.{Inf}
use Rattle.core_machine.proofs.state.no_views.Given as goal

abbrev pub invariant-loop-actor : goal.invariant-loop-actor
invariant-loop-actor l = l.views.items ≡ replicate l._actor (replicate l.count Inf)
