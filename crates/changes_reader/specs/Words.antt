-- Words and names of lines.
use Rattle.std.specs.Prelude.{◌≡◌, ◌<◌, ℕ, false, List, length, codes}
use Rattle.std.specs.List.{list_any}
pub use Rattle.num_text.specs.Words.{is_one_of}
pub use Rattle.changes_reader.specs.Kinds.{words}
use Rattle.scenario_changes.specs.Changes.{is_break}
use Rattle.changes_reader.specs.declared.line.Word.{Word}
use Rattle.changes_reader.specs.declared.line.Word.TheVariants.{Scenarios, Scenario, Name, Obj, Lb, Ub, Rhs}

abbrev pub text_of : Word → List ℕ
text_of Scenarios = codes "scenarios"
text_of Scenario = codes "scenario"
text_of Name = codes "name"
text_of Obj = codes "obj"
text_of Lb = codes "lb"
text_of Ub = codes "ub"
text_of Rhs = codes "rhs"

-- a field of a line: it has bytes, and none of them is a blank or a line feed
pub record IsField (text : List ℕ) : Type 0 where
  pub some : 0 < length text
  pub whole : list_any is_break text ≡ false
