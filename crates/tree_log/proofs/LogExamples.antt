-- Worked logs, by computing.
use Rattle.std.proofs.Common.{◌≡◌, ℕ, pos, negsuc, List, [], ◌∷◌, ◌++◌, None, Some, refl, codes, true, false}
use Rattle.std.specs.Prelude.{flat_map}
use Rattle.std.specs.Fmt.{digits}
use Rattle.tighten.specs.declared.step.RowEnd.TheVariants.{Lower, Upper}
use Rattle.scenario_changes.specs.declared.answer.Answer.TheVariants.{Infeasible, Optimal, Limit}
use Rattle.certs.specs.declared.cert.Cert.{Cert}
use Rattle.certs.specs.declared.verdict.Verdict.TheVariants.{Empty, Misses, Farkas, Bound, Point}
use Rattle.certs.specs.declared.tree.Node.TheVariants.{Rest, Leaf, Split}
use Rattle.tree_log.specs.LogText.{claim_words, claim_line, steps_line, vector_line, verdict_word, verdicts_line, split_line, stay_line, node_lines, first_line, size_line, last_line, log_text}
use Rattle.tree_log.specs.HasText.{has_text, entry_has_text, vector_has_text, stay_has_text, verdict_has_text}
use Rattle.tree_log.specs.Logs.{whole_lines}
use Rattle.tree_log.specs.declared.file.LogFile.{LogFile}

abbrev lines : List (List ℕ) → List ℕ
lines ls = flat_map (λ l. l ++ 10 ∷ []) ls

-- two steps, half of a multiplier of -3, and a multiplier of -2
abbrev two_vectors : Cert
two_vectors = record {
  steps = record { row = 0; column = 0; side = Upper } ∷ record { row = 0; column = 1; side = Upper } ∷ [];
  vectors = record { scale = 2; entries = (0, negsuc 2) ∷ [] } ∷ record { scale = 1; entries = (0, negsuc 1) ∷ [] } ∷ [];
}

-- four scenarios and one leaf
abbrev four : LogFile
four = record {
  columns = 2;
  rows = 1;
  answers = Optimal (pos 1 ∷ pos 2 ∷ []) (negsuc 6) ∷ Optimal (pos 0 ∷ pos 2 ∷ []) (negsuc 3) ∷ Optimal (pos 2 ∷ pos 0 ∷ []) (negsuc 9) ∷ Infeasible ∷ [];
  tree = Leaf two_vectors (Bound 0 ∷ Bound 0 ∷ Bound 1 ∷ Empty ∷ []) ∷ [];
}

four-text : log_text four ≡ lines (codes "scenlog 1" ∷ codes "size 4 2 1 1" ∷ codes "claim optimal -7 1 2" ∷ codes "claim optimal -4 0 2" ∷ codes "claim optimal -10 2 0" ∷ codes "claim infeasible" ∷ codes "leaf" ∷ codes "steps 2 0 0 U 0 1 U" ∷ codes "vector 2 1 0 -3" ∷ codes "vector 1 1 0 -2" ∷ codes "verdicts b0 b0 b1 e" ∷ codes "end" ∷ [])
unfolding digits claim_words claim_line steps_line vector_line verdict_word verdicts_line split_line stay_line node_lines first_line size_line last_line log_text
four-text = refl

four-has_text : has_text four ≡ true
four-has_text = refl

abbrev empty_cert : Cert
empty_cert = record { steps = []; vectors = [] }

-- a split, whose number of the first child stands before the column, a leaf and a node without a record;
-- a limit's value stands before its bound
abbrev halted : LogFile
halted = record {
  columns = 2;
  rows = 3;
  answers = Limit None (negsuc 8) ∷ Limit (Some (pos 3 ∷ negsuc 0 ∷ [], pos 5)) (negsuc 1) ∷ [];
  tree = Split empty_cert (Point ∷ Farkas 7 ∷ []) (0 ∷ 1 ∷ []) 1 0 (negsuc 3) ∷ Rest ∷ Leaf (record { steps = record { row = 2; column = 1; side = Lower } ∷ []; vectors = record { scale = 0; entries = [] } ∷ [] }) (Misses 2 ∷ []) ∷ [];
}

halted-text : log_text halted ≡ lines (codes "scenlog 1" ∷ codes "size 2 2 3 3" ∷ codes "claim limit none -9" ∷ codes "claim limit 5 -2 3 -1" ∷ codes "split 1 0 -4" ∷ codes "stay 0 1" ∷ codes "steps 0" ∷ codes "verdicts p f7" ∷ codes "rest" ∷ codes "leaf" ∷ codes "steps 1 2 1 L" ∷ codes "vector 0 0" ∷ codes "verdicts m2" ∷ codes "end" ∷ [])
unfolding digits claim_words claim_line steps_line vector_line verdict_word verdicts_line split_line stay_line node_lines first_line size_line last_line log_text
halted-text = refl

halted-has_text : has_text halted ≡ true
halted-has_text = refl

-- a log without columns
abbrev bare : LogFile
bare = record { columns = 0; rows = 1; answers = Optimal [] (pos 0) ∷ []; tree = Leaf empty_cert (Point ∷ []) ∷ [] }

bare-text : log_text bare ≡ lines (codes "scenlog 1" ∷ codes "size 1 0 1 1" ∷ codes "claim optimal 0" ∷ codes "leaf" ∷ codes "steps 0" ∷ codes "verdicts p" ∷ codes "end" ∷ [])
unfolding digits claim_words claim_line steps_line vector_line verdict_word verdicts_line split_line stay_line node_lines first_line size_line last_line log_text
bare-text = refl

-- a multiplier is at most 2^40 and never 0, and rows lie below their count
greatest_entry : entry_has_text 1 (0, negsuc 1099511627775) ≡ true
greatest_entry = refl

too_great_entry : entry_has_text 1 (0, pos 1099511627777) ≡ false
too_great_entry = refl

zero_entry : entry_has_text 1 (0, pos 0) ≡ false
zero_entry = refl

row_past_end : entry_has_text 1 (1, pos 3) ≡ false
row_past_end = refl

-- the rows of a vector rise, so none stands twice
row_twice : vector_has_text 2 (record { scale = 1; entries = (1, pos 1) ∷ (1, pos 2) ∷ [] }) ≡ false
row_twice = refl

-- scenarios that stay rise, and there is one
scenario_twice : stay_has_text 3 (1 ∷ 1 ∷ []) ≡ false
scenario_twice = refl

falling_scenarios : stay_has_text 3 (1 ∷ 0 ∷ []) ≡ false
falling_scenarios = refl

no_scenario : stay_has_text 3 [] ≡ false
no_scenario = refl

-- a vector's number has one digit
great_vector : verdict_has_text 1 (Bound 10) ≡ false
great_vector = refl

-- a last child is no node where the count is two; with three nodes it is
missing_child : has_text (record halted { tree = Split empty_cert (Point ∷ []) (0 ∷ []) 1 0 (pos 0) ∷ Rest ∷ [] }) ≡ false
missing_child = refl

-- a verdict is wanted, and no more than scenarios
no_verdict : has_text (record bare { tree = Leaf empty_cert [] ∷ [] }) ≡ false
no_verdict = refl

two_verdicts : has_text (record bare { tree = Leaf empty_cert (Point ∷ Point ∷ []) ∷ [] }) ≡ false
two_verdicts = refl

-- a point has a number for each column
short_point : has_text (record four { columns = 3 }) ≡ false
short_point = refl

-- bytes behind the last line feed are no line
open_line : whole_lines (codes "rest" ++ 10 ∷ codes "end") ≡ codes "rest" ∷ []
open_line = refl

closed_line : whole_lines (codes "rest" ++ 10 ∷ codes "end" ++ 10 ∷ []) ≡ codes "rest" ∷ codes "end" ∷ []
closed_line = refl
