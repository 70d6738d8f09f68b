use Rattle.std.proofs.Common.{Some, sym, subst, map, string_bytes}
use Rattle.command_line.specs.Orders.{order_of}
use Rattle.command_line.specs.declared.command.Command.{Command}
use Rattle.scenopt.specs.Runs.{Follows}
use Rattle.scenopt.proofs.DeliveryLemmas.{completes_as, proves_as}
use Rattle.scenopt.proofs.run.quiet_main.Goals as goal

pub returns-in-Solve-clause-complete : goal.returns-in-Solve-clause-complete
returns-in-Solve-clause-complete g c =
    completes_as (map string_bytes c.args.words.now) (Some (order_of c.in-Ok.command)) _ _ _ c.in-Ok.ensures.means c.in-Ok.ensures.ranges
    (subst (λ (k : Command). Follows (Some (order_of k)) (g.D.Desk.view c.args.desk.now) (g.D.Desk.view c.solve.new.desk) c.solve.result) (sym c.in-Solve.is) c.solve.ensures)

pub returns-in-Solve-clause-proof : goal.returns-in-Solve-clause-proof
returns-in-Solve-clause-proof g c =
    proves_as (map string_bytes c.args.words.now) (Some (order_of c.in-Ok.command)) _ _ _ c.in-Ok.ensures.means c.in-Ok.ensures.ranges
    (subst (λ (k : Command). Follows (Some (order_of k)) (g.D.Desk.view c.args.desk.now) (g.D.Desk.view c.solve.new.desk) c.solve.result) (sym c.in-Solve.is) c.solve.ensures)

pub returns-in-Check-clause-complete : goal.returns-in-Check-clause-complete
returns-in-Check-clause-complete g c =
    completes_as (map string_bytes c.args.words.now) (Some (order_of c.in-Ok.command)) _ _ _ c.in-Ok.ensures.means c.in-Ok.ensures.ranges
    (subst (λ (k : Command). Follows (Some (order_of k)) (g.D.Desk.view c.args.desk.now) (g.D.Desk.view c.check.new.desk) c.check.result) (sym c.in-Check.is) c.check.ensures)

pub returns-in-Gen-clause-complete : goal.returns-in-Gen-clause-complete
returns-in-Gen-clause-complete g c =
    completes_as (map string_bytes c.args.words.now) (Some (order_of c.in-Ok.command)) _ _ _ c.in-Ok.ensures.means c.in-Ok.ensures.ranges
    (subst (λ (k : Command). Follows (Some (order_of k)) (g.D.Desk.view c.args.desk.now) (g.D.Desk.view c.generate.new.desk) c.generate.result) (sym c.in-Gen.is) c.generate.ensures)
