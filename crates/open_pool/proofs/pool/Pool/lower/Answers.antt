use Rattle.scenario_changes.specs.Problems as problems
use Rattle.std.proofs.Common.{arith, ◌≡◌, ◌<◌, false, length, slice_index_or, sym, ◌∙◌, ap, to_z, of_z, w64}
use Rattle.std.proofs.lemmas.List.{length-set}
use Rattle.certs.specs.Levels.{level_le}
use Rattle.certs.specs.declared.level.Level.{Level}
use Rattle.certs.specs.declared.level.Level.TheVariants.{Value, Inf}
use Rattle.open_pool.proofs.PoolLaws.{Covers-cap, index-any}
use Rattle.open_pool.proofs.pool.Pool.lower.Goals as goal

pub invariant_of-self : goal.invariant_of-self
invariant_of-self c =
    let many : c.args.s < length (problems.problem c.self.inside.problem.now).scenarios = rw (← c.self.view_is) at c.requires in
    let new : Level = Value (to_z w64 (of_z w64 c.args.value)) in
    let here : slice_index_or c.self.inside.caps.items c.args.s Inf ≡ c.index.result.now = index-any c.self.inside.caps.items c.args.s Inf c.index.result.now (omega (arith, many, c.self.invariant.caps)) ∙ sym c.index.ensures in
    let above : level_le (slice_index_or c.self.inside.caps.items c.args.s Inf) new ≡ false = ap (λ (l : Level). level_le l new) here ∙ sym c.is_at_most.ensures ∙ c.if-not-is_at_most.true in
    record {
      right = c.self.invariant.right;
      covered = Covers-cap _ _ _ c.args.s new c.self.invariant.covered above;
      caps = length-set c.self.inside.caps.items c.args.s new ∙ c.self.invariant.caps;
      many = c.self.invariant.many;
      ends = c.self.invariant.ends;
      few = c.self.invariant.few;
      within = c.self.invariant.within;
      room = c.self.invariant.room;
      spare = c.self.invariant.spare;
      spare_room = c.self.invariant.spare_room;
      firsts = c.self.invariant.firsts;
      blocks = c.self.invariant.blocks;
      scratch = c.self.invariant.scratch;
      wide = c.self.invariant.wide;
      full = c.self.invariant.full;
    }
