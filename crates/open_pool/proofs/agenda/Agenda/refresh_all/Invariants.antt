use Rattle.std.proofs.Common.{◌≡◌, ℕ, length}
use Rattle.open_pool.specs.Agenda.{IsRefreshed}
use Rattle.open_pool.proofs.agenda.Agenda.refresh_all.Given as goal

abbrev pub invariant-loop-n : goal.invariant-loop-n
invariant-loop-n l = record {
  refreshed : (k : ℕ) → IsRefreshed l.slots l.node l.count l.n l.fn.self.firsts.items l.self.firsts.items k;
  many : length l.self.firsts.items ≡ length l.fn.self.firsts.items;
}
