use Rattle.mps_reader.proofs.DraftLemmas.{new_agrees}
use Rattle.mps_reader.proofs.draft.Draft.new.Goals as goal

pub returns : goal.returns
returns c = new_agrees _ c.new.ensures c.new-2.ensures.items c.new-2.ensures.names c.new-2.ensures.kept c.new-2.ensures.objective c.new-3.ensures.items c.new-3.ensures.names c.new-3.ensures.part c.new-3.ensures.current c.new-3.ensures.entries c.new-4.ensures c.new-5.ensures c.new-6.ensures
