use Rattle.std.proofs.Common.{arith, ◌≡◌, ◌-◌, ◌∙◌}
use Rattle.open_pool.proofs.LevelLists.{least_none, least_step}
use Rattle.open_pool.proofs.levels.least_of.Goals as goal

pub loop-k-init : goal.loop-k-init
loop-k-init c = record { below = omega arith; so_far = least_none c.args.live c.args.levels.now c.len-k.result (omega arith) }

pub loop-k-preserved : goal.loop-k-preserved
loop-k-preserved c = record {
  below = omega (arith, c.loop-k.invariant.below);
  so_far = c.lesser-least.ensures ∙ least_step c.args.live c.args.levels.now (c.loop-k.k - 1) c.loop-k.k c.live_level.result c.loop-k.least (omega arith) (omega (arith, c.loop-k.invariant.below)) c.live_level.ensures c.loop-k.invariant.so_far;
}

pub returns : goal.returns
returns c = let done : c.loop-k.k ≡ 0 = omega arith in rw done at c.loop-k.invariant.so_far
