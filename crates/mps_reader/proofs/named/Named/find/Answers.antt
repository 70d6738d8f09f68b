use Rattle.std.proofs.Common.{◌∙◌, sym}
use Rattle.mps_reader.proofs.NamedLemmas.{found_by_text, place_by_text}
use Rattle.mps_reader.proofs.named.Named.find.Goals as goal

pub returns-clause-place : goal.returns-clause-place
returns-clause-place g c = c.get_index_of.ensures.index ∙ sym (place_by_text c.args.name.now c.args.self.now.names.keys)

pub returns-clause-found : goal.returns-clause-found
returns-clause-found g c = c.get_index_of.ensures.found ∙ sym (found_by_text c.args.name.now c.args.self.now.names.keys)
