use Rattle.changes_reader.proofs.NameLaws.{name-meaning}
use Rattle.changes_reader.proofs.laws.means_its_own.Goals as goal

pub returns : goal.returns
returns c = name-meaning
