use Rattle.std.proofs.Common.{ℕ, ◌<◌, length}
use Rattle.std.specs.Prelude.{All}
use Rattle.std.proofs.lemmas.List.Elements.{All-push, All-same}
use Rattle.std.proofs.lemmas.List.Sorted.{All-permutation}
use Rattle.dive.specs.declared.ranking.Keyed.{Keyed}
use Rattle.dive.proofs.ranking.ranked.Goals as goal

pub loop-item-preserved : goal.loop-item-preserved
loop-item-preserved c =
    let sorted : All (λ (k : Keyed). k.column < length c.args.keys.now) c.deref-item-items.result.now = All-same (λ (k : Keyed). k.column < length c.args.keys.now) c.deref-item-items.result.now c.sort_unstable.new.self.items c.deref-item-items.ensures.value (All-permutation (λ (k : Keyed). k.column < length c.args.keys.now) c.loop-column.keyed.items c.sort_unstable.new.self.items c.sort_unstable.ensures.permutation c.loop-column.invariant) in
    All-same (λ (j : ℕ). j < length c.args.keys.now) _ _ c.in_ok-push-2.ensures.items (All-push (λ (j : ℕ). j < length c.args.keys.now) c.loop-item.order.items _ c.loop-item.invariant (sorted c.loop-item.item-index _ c.loop-item-test.true))
