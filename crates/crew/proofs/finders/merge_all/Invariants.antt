use Rattle.std.proofs.Common.{◌∷◌, vec_len, All}
use Rattle.finder.specs.Found.{Found}
use Rattle.crew.specs.Crews.{IsOf, IsAsGood, HaveAll}
use Rattle.crew.proofs.finders.merge_all.Given as goal

abbrev pub invariant-loop-other : goal.invariant-loop-other
invariant-loop-other l = record {
  of : IsOf l.words l.problem l.all;
  rest : All (IsOf l.words l.problem) l.rest.items;
  have : HaveAll l.fn.finders.items → HaveAll (l.all ∷ l.rest.items);
  best : (f : Found) → All (IsAsGood f) (l.all ∷ l.rest.items) → All (IsAsGood f) l.fn.finders.items;
}

abbrev pub decreases-loop-other : goal.decreases-loop-other
decreases-loop-other l = vec_len l.rest
