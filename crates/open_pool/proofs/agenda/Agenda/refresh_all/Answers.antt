use Rattle.std.proofs.Common.{◌∙◌}
use Rattle.open_pool.proofs.AgendaChanges.{refreshed-more}
use Rattle.open_pool.proofs.agenda.Agenda.refresh_all.Goals as goal

pub loop-n-preserved : goal.loop-n-preserved
loop-n-preserved c = record {
  refreshed = refreshed-more c.args.slots.now c.args.node c.args.count c.loop-n.n c.args.self.now.firsts.items c.loop-n.self.firsts.items c.refresh-in-loop-n.new.self.firsts.items c.loop-n.invariant.refreshed c.refresh-in-loop-n.ensures.block c.refresh-in-loop-n.ensures.others;
  many = c.refresh-in-loop-n.ensures.many ∙ c.loop-n.invariant.many;
}
