-- The words of a log's lines hold no space and no line feed.
use Rattle.std.proofs.Common.{◌≡◌, ◌∙◌, ap, sym, refl, ℕ, suc, ◌<◌, ◌≤◌, ◌^◌, ℤ, unsigned_abs, true, ◌&&◌, not, nat_lt, nat_le, List, [], ◌∷◌, ◌++◌, length, map, Some, None, arith}
use Rattle.std.specs.Prelude.{decimal, codes, flat_map}
use Rattle.std.specs.List.{list_all}
use Rattle.num_text.specs.Words.{line}
use Rattle.num_text.specs.NumberText.{integer_text}
use Rattle.tighten.specs.declared.step.Step.{Step}
use Rattle.tighten.specs.declared.step.RowEnd.{RowEnd}
use Rattle.tighten.specs.declared.step.RowEnd.TheVariants.{Lower, Upper}
use Rattle.dual_bounds.specs.Vectors.{Entry, Multipliers}
use Rattle.scenario_changes.specs.declared.answer.Answer.{Answer}
use Rattle.scenario_changes.specs.declared.answer.Answer.TheVariants.{Infeasible, Optimal, Limit}
use Rattle.certs.specs.Trees.{is_rising}
use Rattle.certs.specs.declared.cert.Cert.{Cert}
use Rattle.certs.specs.declared.verdict.Verdict.{Verdict}
use Rattle.certs.specs.declared.verdict.Verdict.TheVariants.{Empty, Misses, Farkas, Bound, Point}
use Rattle.certs.specs.declared.tree.Node.{Node}
use Rattle.certs.specs.declared.tree.Node.TheVariants.{Rest, Leaf, Split}
use Rattle.tree_log.specs.LogText.{claim_words, end_word, step_words, entry_words, verdict_word, log_text}
use Rattle.tree_log.specs.Logs.{whole_lines}
use Rattle.tree_log.specs.LineWords.{words_of}
use Rattle.tree_log.specs.HasText.{is_within, point_has_text, answer_has_text, step_has_text, entry_has_text, vector_has_text, verdict_has_text, cert_has_text, stay_has_text, node_has_text, has_text}
use Rattle.tree_log.specs.declared.file.LogFile.{LogFile}
use Rattle.tree_log.proofs.WordLaws.{both, lt_test, le_test, within_abs}
use Rattle.tree_log.proofs.CertLineLaws.{vector_words}
use Rattle.tree_log.proofs.DraftLaws.{claim_line_words, steps_words, verdicts_words, stay_words, cert_words, node_words, last_words}
use Rattle.tree_log.proofs.FileRuns.{counts_in, file_words, CertParts, cert_parts, FileParts, file_parts}
use Rattle.tree_log.proofs.LogTextLaws.{log_lines}
use Rattle.tree_log.proofs.TextCuts.{ArePast, AllPast, IsLine, AreLines, past_by, integer_past, decimal_past, all_past_map, all_past_flat, are_lines_append, are_lines_map, are_lines_flat, joined_lines, lines_back, all_words_back}

number_past : (most : ℕ) (z : ℤ) → most ≤ 2 ^ 60 → is_within most z ≡ true → ArePast (integer_text z)
number_past most z small h =
    let limit : unsigned_abs z ≤ most = within_abs most z h in
    integer_past z (omega arith)

count_past : (limit n : ℕ) → limit ≤ 2 ^ 60 → nat_lt n limit ≡ true → ArePast (decimal n)
count_past limit n small h =
    let below : n < limit = lt_test n limit h in
    decimal_past n (omega arith)

-- ---- claims

point_past : (columns : ℕ) (x : List ℤ) → point_has_text columns x ≡ true → AllPast (map integer_text x)
point_past columns x h = all_past_map integer_text (is_within 1000000) (λ z i. number_past 1000000 z (omega arith) i) x (both _ (list_all (is_within 1000000) x) h).1

claim_line_is : (columns : ℕ) (a : Answer) → answer_has_text columns a ≡ true → IsLine (claim_line_words a)
unfolding claim_words
claim_line_is columns Infeasible h = (past_by (codes "claim") refl, (past_by (codes "infeasible") refl, tt))
claim_line_is columns (Optimal x v) h =
    let parts = both (point_has_text columns x) (is_within (2 ^ 60) v) h in
    (past_by (codes "claim") refl, (past_by (codes "optimal") refl, (number_past (2 ^ 60) v (omega arith) parts.1, point_past columns x parts.0)))
claim_line_is columns (Limit None b) h = (past_by (codes "claim") refl, (past_by (codes "limit") refl, (past_by (codes "none") refl, (number_past (2 ^ 60) b (omega arith) h, tt))))
claim_line_is columns (Limit (Some (x, v)) b) h =
    let parts = both (point_has_text columns x && is_within (2 ^ 60) v) (is_within (2 ^ 60) b) h in
    let more = both (point_has_text columns x) (is_within (2 ^ 60) v) parts.0 in
    (past_by (codes "claim") refl, (past_by (codes "limit") refl, (number_past (2 ^ 60) v (omega arith) more.1, (number_past (2 ^ 60) b (omega arith) parts.1, point_past columns x more.0))))

-- ---- certificates

end_past : (s : RowEnd) → ArePast (end_word s)
end_past Lower = past_by (codes "L") refl
end_past Upper = past_by (codes "U") refl

step_past : (columns rows : ℕ) → columns ≤ 1000 → rows ≤ 1000 → (step : Step) → step_has_text columns rows step ≡ true → AllPast (step_words step)
step_past columns rows hc hr step h =
    let parts = both (nat_lt step.row rows) (nat_lt step.column columns) h in
    (count_past rows step.row (omega arith) parts.0, (count_past columns step.column (omega arith) parts.1, (end_past step.side, tt)))

steps_line_is : (columns rows : ℕ) (steps : List Step) → columns ≤ 1000 → rows ≤ 1000 → length steps ≤ 128 → list_all (step_has_text columns rows) steps ≡ true → IsLine (steps_words steps)
steps_line_is columns rows steps hc hr few h = (past_by (codes "steps") refl, (decimal_past (length steps) (omega arith), all_past_flat step_words (step_has_text columns rows) (step_past columns rows hc hr) steps h))

entry_past : (rows : ℕ) → rows ≤ 1000 → (entry : Entry) → entry_has_text rows entry ≡ true → AllPast (entry_words entry)
entry_past rows hr (i, y) h =
    let parts = both (nat_lt i rows && is_within (2 ^ 40) y) (not (is_within 0 y)) h in
    let more = both (nat_lt i rows) (is_within (2 ^ 40) y) parts.0 in
    (count_past rows i (omega arith) more.0, (number_past (2 ^ 40) y (omega arith) more.1, tt))

vector_line_is : (rows : ℕ) → rows ≤ 1000 → (v : Multipliers) → vector_has_text rows v ≡ true → IsLine (vector_words v)
vector_line_is rows hr v h =
    let one = both ((nat_le v.scale (2 ^ 20) && nat_le (length v.entries) 128) && list_all (entry_has_text rows) v.entries) (is_rising (map (λ (e : Entry). e.0) v.entries)) h in
    let two = both (nat_le v.scale (2 ^ 20) && nat_le (length v.entries) 128) (list_all (entry_has_text rows) v.entries) one.0 in
    let three = both (nat_le v.scale (2 ^ 20)) (nat_le (length v.entries) 128) two.0 in
    let scale : v.scale ≤ 2 ^ 20 = le_test v.scale (2 ^ 20) three.0 in
    let few : length v.entries ≤ 128 = le_test (length v.entries) 128 three.1 in
    (past_by (codes "vector") refl, (decimal_past v.scale (omega arith), (decimal_past (length v.entries) (omega arith), all_past_flat entry_words (entry_has_text rows) (entry_past rows hr) v.entries two.1)))

verdict_past : (rows : ℕ) → rows ≤ 1000 → (v : Verdict) → verdict_has_text rows v ≡ true → ArePast (verdict_word v)
unfolding verdict_word
verdict_past rows hr Empty h = past_by (codes "e") refl
verdict_past rows hr (Misses i) h = (omega arith, count_past rows i (omega arith) h)
verdict_past rows hr (Farkas n) h = (omega arith, count_past 10 n (omega arith) h)
verdict_past rows hr (Bound n) h = (omega arith, count_past 10 n (omega arith) h)
verdict_past rows hr Point h = past_by (codes "p") refl

cert_lines_are : (scenarios columns rows : ℕ) (cert : Cert) (verdicts : List Verdict) → columns ≤ 1000 → rows ≤ 1000 → cert_has_text scenarios columns rows cert verdicts ≡ true → AreLines (cert_words cert verdicts)
cert_lines_are scenarios columns rows cert verdicts hc hr h =
    let c : CertParts scenarios columns rows cert verdicts = cert_parts scenarios columns rows cert verdicts h in
    let last : AreLines (verdicts_words verdicts ∷ []) = ((past_by (codes "verdicts") refl, all_past_map verdict_word (verdict_has_text rows) (verdict_past rows hr) verdicts c.verdicts_fit), tt) in (steps_line_is columns rows cert.steps hc hr c.few_steps c.steps, are_lines_append (map vector_words cert.vectors) (verdicts_words verdicts ∷ []) (are_lines_map vector_words (vector_has_text rows) (vector_line_is rows hr) cert.vectors c.vectors) last)

-- ---- nodes

stay_line_is : (scenarios : ℕ) (stay : List ℕ) → scenarios ≤ 64 → stay_has_text scenarios stay ≡ true → IsLine (stay_words stay)
stay_line_is scenarios stay hs h = (past_by (codes "stay") refl, all_past_map decimal (λ k. nat_lt k scenarios) (λ k i. count_past scenarios k (omega arith) i) stay (both _ (list_all (λ k. nat_lt k scenarios) stay) h).1)

node_lines_are : (scenarios columns rows nodes : ℕ) → scenarios ≤ 64 → columns ≤ 1000 → rows ≤ 1000 → nodes ≤ 100001 → (n : Node) → node_has_text scenarios columns rows nodes n ≡ true → AreLines (node_words n)
node_lines_are scenarios columns rows nodes hs hc hr hn Rest h = ((past_by (codes "rest") refl, tt), tt)
node_lines_are scenarios columns rows nodes hs hc hr hn (Leaf cert verdicts) h = ((past_by (codes "leaf") refl, tt), cert_lines_are scenarios columns rows cert verdicts hc hr h)
node_lines_are scenarios columns rows nodes hs hc hr hn (Split cert verdicts stay child column v) h =
    let a = nat_lt 0 child in
    let b = nat_lt (suc child) nodes in
    let c = nat_lt column columns in
    let d = is_within 1000000 v in
    let e = stay_has_text scenarios stay in
    let f = cert_has_text scenarios columns rows cert verdicts in
    let one = both ((((a && b) && c) && d) && e) f h in
    let two = both (((a && b) && c) && d) e one.0 in
    let three = both ((a && b) && c) d two.0 in
    let four = both (a && b) c three.0 in
    let five = both a b four.0 in
    let below : suc child < nodes = lt_test (suc child) nodes five.1 in ((past_by (codes "split") refl, (decimal_past child (omega arith), (count_past columns column (omega arith) four.1, (number_past 1000000 v (omega arith) three.1, tt)))), (stay_line_is scenarios stay hs two.1, cert_lines_are scenarios columns rows cert verdicts hc hr one.1))

-- ---- the whole

pub file_lines : (f : LogFile) → has_text f ≡ true → AreLines (file_words f)
file_lines f h =
    let parts : FileParts f = file_parts f h in
    let k = parts.counts in
    let claims : AreLines (map claim_line_words f.answers) = are_lines_map claim_line_words (answer_has_text f.columns) (claim_line_is f.columns) f.answers parts.claims in
    let nodes : AreLines (flat_map node_words f.tree) = are_lines_flat node_words (node_has_text (length f.answers) f.columns f.rows (length f.tree)) (node_lines_are (length f.answers) f.columns f.rows (length f.tree) k.few_scenarios k.columns k.rows k.few_nodes) f.tree parts.tree_fits in
    let last : AreLines (last_words ∷ []) = ((past_by (codes "end") refl, tt), tt) in ((past_by (codes "scenlog") refl, (past_by (codes "1") refl, tt)), ((past_by (codes "size") refl, (decimal_past (length f.answers) (omega (arith, k.few_scenarios)), (decimal_past f.columns (omega (arith, k.columns)), (decimal_past f.rows (omega (arith, k.rows)), (decimal_past (length f.tree) (omega (arith, k.few_nodes)), tt))))), are_lines_append (map claim_line_words f.answers ++ flat_map node_words f.tree) (last_words ∷ []) (are_lines_append (map claim_line_words f.answers) (flat_map node_words f.tree) claims nodes) last))

pub file_text : (f : LogFile) → log_text f ≡ flat_map line (file_words f)
file_text f = sym (log_lines (counts_in f) f.answers f.tree refl refl)

pub log_whole_lines : (f : LogFile) → has_text f ≡ true → whole_lines (log_text f) ≡ joined_lines (file_words f)
log_whole_lines f h = ap whole_lines (file_text f) ∙ lines_back (file_words f) (file_lines f h)

pub log_words : (f : LogFile) → has_text f ≡ true → map words_of (whole_lines (log_text f)) ≡ file_words f
log_words f h = ap (map words_of) (log_whole_lines f h) ∙ all_words_back (file_words f) (file_lines f h)
