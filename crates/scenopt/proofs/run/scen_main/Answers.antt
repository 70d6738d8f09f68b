use Rattle.std.proofs.Common.{Some, sym, subst, map, string_bytes}
use Rattle.command_line.specs.Orders.{order_of}
use Rattle.command_line.specs.declared.command.Command.{Command}
use Rattle.scenopt.specs.Runs.{Follows}
use Rattle.scenopt.proofs.DeliveryLemmas.{completes_as, proves_as}
use Rattle.scenopt.proofs.run.scen_main.Goals as goal

pub returns-in-Ok-Solve-clause-complete : goal.returns-in-Ok-Solve-clause-complete
returns-in-Ok-Solve-clause-complete g c =
    completes_as (map string_bytes c.args.words.now) (Some (order_of c.in-Ok-Solve.field-0)) _ _ _ c.in-Ok-Solve.ensures.means c.in-Ok-Solve.ensures.ranges
    (subst (λ (k : Command). Follows (Some (order_of k)) (g.D.Desk.view c.args.desk.now) (g.D.Desk.view c.solve_together.new.desk) c.solve_together.result) (sym c.in-Ok-Solve.field-0-is) c.solve_together.ensures)

pub returns-in-Ok-Solve-clause-proof : goal.returns-in-Ok-Solve-clause-proof
returns-in-Ok-Solve-clause-proof g c =
    proves_as (map string_bytes c.args.words.now) (Some (order_of c.in-Ok-Solve.field-0)) _ _ _ c.in-Ok-Solve.ensures.means c.in-Ok-Solve.ensures.ranges
    (subst (λ (k : Command). Follows (Some (order_of k)) (g.D.Desk.view c.args.desk.now) (g.D.Desk.view c.solve_together.new.desk) c.solve_together.result) (sym c.in-Ok-Solve.field-0-is) c.solve_together.ensures)
