-- The text of a log is the text of its lines.
use Rattle.std.proofs.Common.{◌≡◌, ◌∙◌, ap, sym, refl, ℕ, true, nat_lt, nat_le, List, [], ◌∷◌, ◌++◌, length, map, append_assoc}
use Rattle.std.specs.Prelude.{codes, flat_map}
use Rattle.std.specs.List.{list_all}
use Rattle.std.proofs.lemmas.List.{append-nil}
use Rattle.std.proofs.lemmas.List.Folds.{flat_map-map}
use Rattle.std.proofs.lemmas.List.Splits.{join_with_byte-slice_split}
use Rattle.std.proofs.lemmas.Grind.{flat_map-append}
use Rattle.num_text.specs.Words.{line}
use Rattle.scenario_changes.specs.declared.answer.Answer.{Answer}
use Rattle.certs.specs.declared.cert.Cert.{Cert}
use Rattle.certs.specs.declared.verdict.Verdict.{Verdict}
use Rattle.certs.specs.declared.tree.Node.{Node}
use Rattle.certs.specs.declared.tree.Node.TheVariants.{Rest, Leaf, Split}
use Rattle.tree_log.specs.LogText.{claim_line, steps_line, vector_line, verdicts_line, cert_lines, split_line, stay_line, node_lines, first_line, size_line, last_line, log_text}
use Rattle.tree_log.specs.HasText.{answer_has_text, node_has_text, has_text}
use Rattle.tree_log.specs.LineWords.{words_of}
use Rattle.tree_log.specs.declared.file.LogFile.{LogFile}
use Rattle.tree_log.specs.declared.draft.Counts.{Counts}
use Rattle.tree_log.proofs.WordLaws.{all, lt_true, le_true}
use Rattle.tree_log.proofs.CertLineLaws.{vector_words}
use Rattle.tree_log.proofs.DraftLaws.{first_words, size_words, claim_line_words, steps_words, verdicts_words, head_words, stay_words, cert_words, node_words, last_words, front_words, IsBody}
use Rattle.tree_log.proofs.Runs.{fed}

both_parts : (a b c d : List ℕ) → a ≡ b → c ≡ d → a ++ c ≡ b ++ d
both_parts a b c d e f = rw (e, f) refl

pub cert_text : (cert : Cert) (verdicts : List Verdict) → flat_map line (cert_words cert verdicts) ≡ cert_lines cert verdicts
unfolding steps_line vector_line verdicts_line
cert_text cert verdicts =
    ap (λ (l : List ℕ). line (steps_words cert.steps) ++ l)
    (flat_map-append line (map vector_words cert.vectors) (verdicts_words verdicts ∷ [])
    ∙ both_parts _ _ _ _ (flat_map-map line vector_words cert.vectors) (append-nil (line (verdicts_words verdicts))))
    ∙ sym (append_assoc (line (steps_words cert.steps)) (flat_map (λ v. line (vector_words v)) cert.vectors) (line (verdicts_words verdicts)))

pub node_text : (n : Node) → flat_map line (node_words n) ≡ node_lines n
unfolding node_lines split_line stay_line
node_text Rest = append-nil (line (codes "rest" ∷ []))
node_text (Leaf cert verdicts) = ap (λ (l : List ℕ). line (codes "leaf" ∷ []) ++ l) (cert_text cert verdicts)
node_text (Split cert verdicts stay child column v) = ap (λ (l : List ℕ). line (head_words child column v) ++ (line (stay_words stay) ++ l)) (cert_text cert verdicts)
    ∙ sym (append_assoc (line (head_words child column v)) (line (stay_words stay)) (cert_lines cert verdicts))

pub nodes_text : (nodes : List Node) → flat_map line (flat_map node_words nodes) ≡ flat_map node_lines nodes
nodes_text [] = refl
nodes_text (n ∷ nodes) = flat_map-append line (node_words n) (flat_map node_words nodes) ∙ both_parts _ _ _ _ (node_text n) (nodes_text nodes)

pub claims_text : (answers : List Answer) → flat_map line (map claim_line_words answers) ≡ flat_map claim_line answers
unfolding claim_line
claims_text answers = flat_map-map line claim_line_words answers

abbrev pub file_made : Counts → List Answer → List Node → LogFile
file_made k answers nodes = record { columns = k.columns; rows = k.rows; answers = answers; tree = nodes }

size_text : (k : Counts) (answers : List Answer) (nodes : List Node) → length answers ≡ k.scenarios → length nodes ≡ k.nodes → line (size_words k) ≡ size_line (file_made k answers nodes)
unfolding size_line
size_text k answers nodes e f = rw (e, f) refl

regroup : (a b c d e : List ℕ) → a ++ (b ++ ((c ++ d) ++ e)) ≡ (((a ++ b) ++ c) ++ d) ++ e
regroup a b c d e = simp append_assoc

pub log_lines : (k : Counts) (answers : List Answer) (nodes : List Node) → length answers ≡ k.scenarios → length nodes ≡ k.nodes → flat_map line (front_words k answers nodes ++ last_words ∷ []) ≡ log_text (file_made k answers nodes)
unfolding log_text first_line last_line
log_lines k answers nodes e f =
    ap (λ (l : List ℕ). line first_words ++ l)
    (both_parts _ _ _ _ (size_text k answers nodes e f)
    (flat_map-append line (map claim_line_words answers ++ flat_map node_words nodes) (last_words ∷ [])
    ∙ both_parts _ _ _ _ (flat_map-append line (map claim_line_words answers) (flat_map node_words nodes) ∙ both_parts _ _ _ _ (claims_text answers) (nodes_text nodes)) (append-nil (line last_words))))
    ∙ regroup (line first_words) (size_line (file_made k answers nodes)) (flat_map claim_line answers) (flat_map node_lines nodes) (line last_words)

pub file_fits : (k : Counts) (answers : List Answer) (nodes : List Node) → IsBody k answers nodes → length answers ≡ k.scenarios → length nodes ≡ k.nodes → has_text (file_made k answers nodes) ≡ true
file_fits k answers nodes h e f =
    rw (e, f) (
    all _ (list_all (node_has_text k.scenarios k.columns k.rows k.nodes) nodes)
    (all _ (list_all (answer_has_text k.columns) answers)
    (all _ (nat_le k.nodes 100001)
    (all _ (nat_lt 0 k.nodes)
    (all _ (nat_le k.rows 1000)
    (all _ (nat_le k.columns 1000)
    (all (nat_lt 0 k.scenarios) (nat_le k.scenarios 64) (lt_true 0 k.scenarios h.counts.scenarios) (le_true k.scenarios 64 h.counts.few_scenarios))
    (le_true k.columns 1000 h.counts.columns)) (le_true k.rows 1000 h.counts.rows)) (lt_true 0 k.nodes h.counts.nodes)) (le_true k.nodes 100001 h.counts.few_nodes)) h.claims) h.tree)

-- ---- lines and their words

pub line_words : (l : List ℕ) → line (words_of l) ≡ l ++ 10 ∷ []
line_words l = ap (λ (j : List ℕ). j ++ 10 ∷ []) (join_with_byte-slice_split 32 l)

pub fed_words : (ls : List (List ℕ)) → flat_map line (map words_of ls) ≡ fed ls
fed_words [] = refl
fed_words (l ∷ ls) = both_parts _ _ _ _ (line_words l) (fed_words ls)
