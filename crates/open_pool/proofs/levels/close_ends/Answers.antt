use Rattle.std.proofs.Common.{arith, ◌≡◌, ◌<◌, slice_index_or, None, length, ap, ◌∙◌, Option}
use Rattle.std.specs.Prelude.{slice_set}
use Rattle.std.proofs.lemmas.List.{length-set}
use borrow.Author.Count.{below_more}
use Rattle.certs.specs.Trees.{dropped}
use Rattle.certs.specs.declared.level.Level.{Level}
use Rattle.certs.specs.declared.level.Level.TheVariants.{Inf}
use Rattle.open_pool.specs.Marks.{lesser_than}
use Rattle.open_pool.proofs.LevelLists.{index_set_here, index_set_other}
use Rattle.open_pool.proofs.levels.close_ends.Goals as goal

pub loop-k-preserved : goal.loop-k-preserved
loop-k-preserved c =
    let below : c.loop-k.k < length c.loop-k.ends = omega (arith, c.loop-k.invariant.len, c.requires.ends) in
    let new : c.lesser.result ≡ lesser_than (slice_index_or (dropped c.args.stay 0 c.args.raised.now) c.loop-k.k None) (slice_index_or c.args.ends.now c.loop-k.k Inf) =
    c.lesser.ensures ∙ ap (λ (o : Option Level). lesser_than o c.level_at-least.result) c.dropped_level-level.ensures ∙ ap (λ (l : Level). lesser_than (slice_index_or (dropped c.args.stay 0 c.args.raised.now) c.loop-k.k None) l) (c.level_at-least.ensures ∙ c.loop-k.invariant.rest c.loop-k.k (omega arith)) in
    record {
      len = length-set c.loop-k.ends c.loop-k.k c.lesser.result ∙ c.loop-k.invariant.len;
      done = below_more (λ m. slice_index_or (slice_set c.loop-k.ends c.loop-k.k c.lesser.result) m Inf ≡ lesser_than (slice_index_or (dropped c.args.stay 0 c.args.raised.now) m None) (slice_index_or c.args.ends.now m Inf)) c.loop-k.k
          (λ m l. index_set_other c.loop-k.ends c.loop-k.k m c.lesser.result Inf (λ e. absurd (omega arith)) ∙ c.loop-k.invariant.done m l)
          (index_set_here c.loop-k.ends c.loop-k.k c.lesser.result Inf below ∙ new);
      rest = λ m l. index_set_other c.loop-k.ends c.loop-k.k m c.lesser.result Inf (λ e. absurd (omega arith)) ∙ c.loop-k.invariant.rest m (omega arith);
    }
