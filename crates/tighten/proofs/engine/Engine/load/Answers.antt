use Rattle.std.proofs.Common.{arith, ◌≡◌, ◌∙◌, ap, sym, subst, pos, ℕ, ℤ, List, [], length}
use Rattle.std.specs.Prelude.{slice_index_or}
use Rattle.activity.specs.Sums.{SpreadWithin}
use Rattle.tighten.specs.Steps.{rows_of}
use Rattle.tighten.proofs.EngineLemmas.{loaded-from, refilled}
use Rattle.tighten.proofs.StepLemmas.{sides-of}
use Rattle.tighten.proofs.engine.Engine.load.Goals as goal

pub returns-clause-loaded : goal.returns-clause-loaded
returns-clause-loaded c =
    let least_count : length c.take.new.least ≡ length c.args.self.now.least.items = c.take.auto.least ∙ ap length c.deref_mut.ensures.value in
    let most_count : length c.take.new.most ≡ length c.args.self.now.most.items = c.take.auto.most ∙ ap length c.deref_mut-2.ensures.value in
    let least_is = refilled c.args.self.now.least c.take.new.least least_count in
    let most_is = refilled c.args.self.now.most c.take.new.most most_count in
    let spread_count : length c.take.new.spread ≡ length c.args.self.now.spread.items = c.take.auto.spread ∙ ap length c.deref_mut-3.ensures.value in
    let spread_is = refilled c.args.self.now.spread c.take.new.spread spread_count in
    loaded-from c.args.model.now _ c.args.bounds.now
    (record {
      lows = ap length c.copy_from_slice.ensures.items ∙ c.lows.ensures.count ∙ c.requires.columns;
      highs = ap length c.copy_from_slice-2.ensures.items ∙ c.highs.ensures.count ∙ c.requires.columns;
      least = ap length least_is ∙ least_count ∙ c.requires.sized.least;
      most = ap length most_is ∙ most_count ∙ c.requires.sized.most;
      spread = ap length spread_is ∙ spread_count ∙ c.requires.sized.spread;
      queue = c.fill.ensures.queue;
      waits = c.fill.ensures.count ∙ c.requires.sized.waits;
      few = rw c.clear-2.ensures.items (omega arith);
      room = omega (arith, c.clear-2.ensures.capacity, c.requires.sized.room);
    })
    (rw (c.copy_from_slice.ensures.items, c.copy_from_slice-2.ensures.items, c.lows.ensures.value, c.highs.ensures.value) (sides-of c.args.bounds.now))
    c.requires.occupied
    (rw c.copy_from_slice.ensures.items c.lows.ensures.bounds)
    (rw c.copy_from_slice-2.ensures.items c.highs.ensures.bounds)
    (λ i. ap (λ (xs : List ℤ). slice_index_or xs i (pos 0)) least_is ∙ c.take.ensures.least i)
    (λ i. ap (λ (xs : List ℤ). slice_index_or xs i (pos 0)) most_is ∙ c.take.ensures.most i)
    (λ i. subst (λ (xs : List ℕ). SpreadWithin (slice_index_or xs i 0) (slice_index_or (rows_of c.args.model.now) i []) c.args.bounds.now) (sym spread_is) (c.take.ensures.spread i))
    c.clear.ensures.items

pub returns-clause-bounds : goal.returns-clause-bounds
returns-clause-bounds c =
    rw (c.copy_from_slice.ensures.items, c.copy_from_slice-2.ensures.items, c.lows.ensures.value, c.highs.ensures.value) (sides-of c.args.bounds.now)
