use Rattle.mps_reader.proofs.FaultLemmas.{if_ok}
use Rattle.mps_reader.proofs.DraftLemmas.{header_line}
use Rattle.mps_reader.proofs.draft.Draft.take_line.Goals as goal

pub returns-then-is_header-clause-ok : goal.returns-then-is_header-clause-ok
returns-then-is_header-clause-ok c =
    if_ok c.take_header.result _ _ (λ progress entered. λ ls l is a. header_line c.args.self.now c.take_header.new.self progress ls l _ c.args.is_header c.if-is_header.true is a (entered ls l) c.take_header.ensures.same) c.take_header.ensures.ok
