use Rattle.std.proofs.lemmas.Bool.Decides.{Decides-int_eq}
use Rattle.std.proofs.lemmas.Slice.Eq.{slice_eq-Decides}
use Rattle.open_pool.proofs.boxes.are_same.Goals as goal

pub returns-clause-yes : goal.returns-clause-yes
returns-clause-yes c = (slice_eq-Decides Decides-int_eq _ _ _ c.eq.ensures).0

pub returns-clause-no : goal.returns-clause-no
returns-clause-no c = (slice_eq-Decides Decides-int_eq _ _ _ c.eq.ensures).1
