-- The text of a proof log: lines of words, of the claims on the scenarios and of the nodes of a search tree.
use Rattle.std.specs.Prelude.{ℕ, ℤ, List, [], ◌∷◌, ◌++◌, length, map, flat_map, codes, decimal, Some, None}
use Rattle.num_text.specs.NumberText.{integer_text}
use Rattle.num_text.specs.Words.{line}
use Rattle.tighten.specs.declared.step.Step.{Step}
use Rattle.tighten.specs.declared.step.RowEnd.{RowEnd}
use Rattle.tighten.specs.declared.step.RowEnd.TheVariants.{Lower, Upper}
use Rattle.dual_bounds.specs.Vectors.{Entry, Multipliers}
use Rattle.scenario_changes.specs.declared.answer.Answer.{Answer}
use Rattle.scenario_changes.specs.declared.answer.Answer.TheVariants.{Infeasible, Optimal, Limit}
use Rattle.certs.specs.declared.cert.Cert.{Cert}
use Rattle.certs.specs.declared.verdict.Verdict.{Verdict}
use Rattle.certs.specs.declared.verdict.Verdict.TheVariants.{Empty, Misses, Farkas, Bound, Point}
use Rattle.certs.specs.declared.tree.Node.{Node}
use Rattle.certs.specs.declared.tree.Node.TheVariants.{Rest, Leaf, Split}
use Rattle.tree_log.specs.declared.file.LogFile.{LogFile}

-- ---- claims

-- what is claimed of a scenario: a value stands before the bound, and both before the point
unfoldable pub claim_words : Answer → List (List ℕ)
claim_words Infeasible = codes "infeasible" ∷ []
claim_words (Optimal x v) = codes "optimal" ∷ integer_text v ∷ map integer_text x
claim_words (Limit None b) = codes "limit" ∷ codes "none" ∷ integer_text b ∷ []
claim_words (Limit (Some (x, v)) b) = codes "limit" ∷ integer_text v ∷ integer_text b ∷ map integer_text x

unfoldable pub claim_line : Answer → List ℕ
claim_line a = line (codes "claim" ∷ claim_words a)

-- ---- certificates

abbrev pub end_word : RowEnd → List ℕ
end_word Lower = codes "L"
end_word Upper = codes "U"

abbrev pub step_words : Step → List (List ℕ)
step_words step = decimal step.row ∷ decimal step.column ∷ end_word step.side ∷ []

unfoldable pub steps_line : List Step → List ℕ
steps_line steps = line (codes "steps" ∷ decimal (length steps) ∷ flat_map step_words steps)

abbrev pub entry_words : Entry → List (List ℕ)
entry_words (i, y) = decimal i ∷ integer_text y ∷ []

unfoldable pub vector_line : Multipliers → List ℕ
vector_line v = line (codes "vector" ∷ decimal v.scale ∷ decimal (length v.entries) ∷ flat_map entry_words v.entries)

unfoldable pub verdict_word : Verdict → List ℕ
verdict_word Empty = codes "e"
verdict_word (Misses i) = codes "m" ++ decimal i
verdict_word (Farkas k) = codes "f" ++ decimal k
verdict_word (Bound k) = codes "b" ++ decimal k
verdict_word Point = codes "p"

unfoldable pub verdicts_line : List Verdict → List ℕ
verdicts_line verdicts = line (codes "verdicts" ∷ map verdict_word verdicts)

abbrev pub cert_lines : Cert → List Verdict → List ℕ
cert_lines cert verdicts = steps_line cert.steps ++ flat_map vector_line cert.vectors ++ verdicts_line verdicts

-- ---- nodes

unfoldable pub split_line : ℕ → ℕ → ℤ → List ℕ
split_line child column v = line (codes "split" ∷ decimal child ∷ decimal column ∷ integer_text v ∷ [])

-- the scenarios that stay at a split
unfoldable pub stay_line : List ℕ → List ℕ
stay_line stay = line (codes "stay" ∷ map decimal stay)

unfoldable pub node_lines : Node → List ℕ
node_lines Rest = line (codes "rest" ∷ [])
node_lines (Leaf cert verdicts) = line (codes "leaf" ∷ []) ++ cert_lines cert verdicts
node_lines (Split cert verdicts stay child column v) =
    split_line child column v ++ stay_line stay ++ cert_lines cert verdicts

-- ---- the whole

unfoldable pub first_line : List ℕ
first_line = line (codes "scenlog" ∷ codes "1" ∷ [])

-- the counts of scenarios, columns, rows and nodes
unfoldable pub size_line : LogFile → List ℕ
size_line f = line (codes "size" ∷ decimal (length f.answers) ∷ decimal f.columns ∷ decimal f.rows ∷ decimal (length f.tree) ∷ [])

unfoldable pub last_line : List ℕ
last_line = line (codes "end" ∷ [])

unfoldable pub log_text : LogFile → List ℕ
log_text f = first_line ++ size_line f ++ flat_map claim_line f.answers ++ flat_map node_lines f.tree ++ last_line
