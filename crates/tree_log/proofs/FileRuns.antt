-- The lines of a log are taken one after another.
use Rattle.std.proofs.Common.{◌≡◌, ◌∙◌, ap, sym, refl, ℕ, suc, ◌+◌, ◌<◌, ◌≤◌, Bool, true, false, ◌&&◌, cond, nat_lt, nat_le, List, [], ◌∷◌, ◌++◌, length, map, Option, Some, None, arith, append_assoc}
use Rattle.std.specs.Prelude.{option_and_then, decimal, codes, flat_map}
use Rattle.std.specs.List.{list_all}
use Rattle.std.proofs.lemmas.List.{append-nil}
use Rattle.num_text.specs.NumberText.{integer_text}
use Rattle.tighten.specs.declared.step.Step.{Step}
use Rattle.dual_bounds.specs.Vectors.{Multipliers}
use Rattle.scenario_changes.specs.declared.answer.Answer.{Answer}
use Rattle.certs.specs.declared.cert.Cert.{Cert}
use Rattle.certs.specs.declared.verdict.Verdict.{Verdict}
use Rattle.certs.specs.declared.tree.Node.{Node}
use Rattle.certs.specs.declared.tree.Node.TheVariants.{Rest, Leaf, Split}
use Rattle.tree_log.specs.HasText.{is_within, answer_has_text, step_has_text, vector_has_text, verdict_has_text, cert_has_text, stay_has_text, node_has_text, has_text}
use Rattle.tree_log.specs.LogText.{entry_words, verdict_word}
use Rattle.tree_log.specs.LineWords as line
use Rattle.tree_log.specs.declared.file.LogFile.{LogFile}
use Rattle.tree_log.specs.declared.node_lines.SplitHead.{SplitHead}
use Rattle.tree_log.specs.declared.draft.Counts.{Counts}
use Rattle.tree_log.specs.declared.draft.SplitPart.{SplitPart}
use Rattle.tree_log.specs.declared.draft.Part.{Part}
use Rattle.tree_log.specs.declared.draft.Part.TheVariants as part
use Rattle.tree_log.specs.Drafts.{Begun, nothing, size_of, node_taken, between_taken, node_of, taken, run}
use Rattle.tree_log.proofs.WordLaws.{both, lt_test, lt_true, lt_false, le_test}
use Rattle.tree_log.proofs.CertLineLaws.{vector_words}
use Rattle.tree_log.proofs.DraftLaws.{Line, first_words, size_words, claim_line_words, steps_words, verdicts_words, head_words, stay_words, cert_words, node_words, body_words, last_words, front_words, AreCounts, IsHead, length_more}
use Rattle.tree_log.proofs.AgainLaws.{map_is, claim_again, steps_line_again, vector_again, some_verdicts_again, stay_again, head_again, size_again}

abbrev pub at : Counts → List Answer → List Node → Part → Begun
at k answers nodes p = record { counts = k; answers = answers; nodes = nodes; part = p }

step_run : (b c : Begun) (ws : Line) (wss : List Line) → taken b ws ≡ Some c → run b (ws ∷ wss) ≡ run c wss
step_run b c ws wss e = ap (option_and_then (λ (d : Begun). run d wss)) e

if_true : {X : Type 0} (b : Bool) (o p : X) → b ≡ true → cond b o p ≡ o
if_true b o p e = ap (λ t. cond t o p) e

if_false : {X : Type 0} (b : Bool) (o p : X) → b ≡ false → cond b o p ≡ p
if_false b o p e = ap (λ t. cond t o p) e

-- ---- claims

claims_run : (k : Counts) (answers more : List Answer) (wss : List Line) → list_all (answer_has_text k.columns) more ≡ true → length answers + length more ≤ k.scenarios → run (at k answers [] part.Between) (map claim_line_words more ++ wss) ≡ run (at k (answers ++ more) [] part.Between) wss
claims_run k answers [] wss h few = ap (λ (l : List Answer). run (at k l [] part.Between) wss) (sym (append-nil answers))
claims_run k answers (a ∷ more) wss h few =
    let parts = both (answer_has_text k.columns a) (list_all (answer_has_text k.columns) more) h in
    let took : taken (at k answers [] part.Between) (claim_line_words a) ≡ Some (at k (answers ++ a ∷ []) [] part.Between) =
    if_true (nat_lt (length answers) k.scenarios) _ _ (lt_true (length answers) k.scenarios (omega arith))
    ∙ map_is (λ (c : Answer). at k (answers ++ c ∷ []) [] part.Between) (line.claim_of k.columns (claim_line_words a)) a (claim_again k.columns a parts.0) in
    step_run (at k answers [] part.Between) (at k (answers ++ a ∷ []) [] part.Between) (claim_line_words a) (map claim_line_words more ++ wss) took
    ∙ claims_run k (answers ++ a ∷ []) more wss parts.1 (omega (arith, length_more answers a, few))
    ∙ ap (λ (l : List Answer). run (at k l [] part.Between) wss) (append_assoc answers (a ∷ []) more)

-- ---- certificates

-- a node may follow
record MayFollow (k : Counts) (answers : List Answer) (nodes : List Node) : Type 0 where
  counts : AreCounts k
  full : length answers ≡ k.scenarios
  room : length nodes < k.nodes

to_node : (k : Counts) (answers : List Answer) (nodes : List Node) (ws : Line) → MayFollow k answers nodes → between_taken k answers nodes ws ≡ node_taken k answers nodes ws
to_node k answers nodes ws m =
    if_false (nat_lt (length answers) k.scenarios) _ _ (lt_false (length answers) k.scenarios (omega (arith, m.full)))
    ∙ if_true (nat_lt (length nodes) k.nodes) _ _ (lt_true (length nodes) k.nodes m.room)

vectors_run : (k : Counts) (answers : List Answer) (nodes : List Node) (split : Option SplitPart) (steps : List Step) (vectors more : List Multipliers) (wss : List Line) → k.rows ≤ 1000 → list_all (vector_has_text k.rows) more ≡ true → length vectors + length more ≤ 2 → run (at k answers nodes (part.Vectors split steps vectors)) (map vector_words more ++ wss) ≡ run (at k answers nodes (part.Vectors split steps (vectors ++ more))) wss
vectors_run k answers nodes split steps vectors [] wss hr h few = ap (λ (l : List Multipliers). run (at k answers nodes (part.Vectors split steps l)) wss) (sym (append-nil vectors))
vectors_run k answers nodes split steps vectors (v ∷ more) wss hr h few =
    let parts = both (vector_has_text k.rows v) (list_all (vector_has_text k.rows) more) h in
    let took : taken (at k answers nodes (part.Vectors split steps vectors)) (vector_words v) ≡ Some (at k answers nodes (part.Vectors split steps (vectors ++ v ∷ []))) =
    if_true (nat_lt (length vectors) 2) _ _ (lt_true (length vectors) 2 (omega arith))
    ∙ map_is (λ (u : Multipliers). at k answers nodes (part.Vectors split steps (vectors ++ u ∷ []))) (line.counted_vector k.rows (decimal v.scale ∷ decimal (length v.entries) ∷ flat_map entry_words v.entries)) v (vector_again k.rows v hr parts.0) in
    step_run (at k answers nodes (part.Vectors split steps vectors)) (at k answers nodes (part.Vectors split steps (vectors ++ v ∷ []))) (vector_words v) (map vector_words more ++ wss) took
    ∙ vectors_run k answers nodes split steps (vectors ++ v ∷ []) more wss hr parts.1 (omega (arith, length_more vectors v, few))
    ∙ ap (λ (l : List Multipliers). run (at k answers nodes (part.Vectors split steps l)) wss) (append_assoc vectors (v ∷ []) more)

-- what is known of a certificate that has text
pub record CertParts (scenarios columns rows : ℕ) (cert : Cert) (verdicts : List Verdict) : Type 0 where
  pub few_steps : length cert.steps ≤ 128
  pub steps : list_all (step_has_text columns rows) cert.steps ≡ true
  pub few_vectors : length cert.vectors ≤ 2
  pub vectors : list_all (vector_has_text rows) cert.vectors ≡ true
  pub some : nat_lt 0 (length verdicts) ≡ true
  pub few : nat_le (length verdicts) scenarios ≡ true
  pub verdicts_fit : list_all (verdict_has_text rows) verdicts ≡ true

pub cert_parts : (scenarios columns rows : ℕ) (cert : Cert) (verdicts : List Verdict) → cert_has_text scenarios columns rows cert verdicts ≡ true → CertParts scenarios columns rows cert verdicts
cert_parts scenarios columns rows cert verdicts h =
    let a = nat_le (length cert.steps) 128 in
    let b = list_all (step_has_text columns rows) cert.steps in
    let c = nat_le (length cert.vectors) 2 in
    let d = list_all (vector_has_text rows) cert.vectors in
    let e = nat_lt 0 (length verdicts) in
    let f = nat_le (length verdicts) scenarios in
    let g = list_all (verdict_has_text rows) verdicts in
    let one = both (((((a && b) && c) && d) && e) && f) g h in
    let two = both ((((a && b) && c) && d) && e) f one.0 in
    let three = both (((a && b) && c) && d) e two.0 in
    let four = both ((a && b) && c) d three.0 in
    let five = both (a && b) c four.0 in
    let six = both a b five.0 in
    record { few_steps = le_test (length cert.steps) 128 six.0; steps = six.1; few_vectors = le_test (length cert.vectors) 2 five.1; vectors = four.1; some = three.1; few = two.1; verdicts_fit = one.1 }

cert_run : (k : Counts) (answers : List Answer) (nodes : List Node) (split : Option SplitPart) (cert : Cert) (verdicts : List Verdict) (wss : List Line) → AreCounts k → cert_has_text k.scenarios k.columns k.rows cert verdicts ≡ true → run (at k answers nodes (part.Steps split)) (cert_words cert verdicts ++ wss) ≡ run (at k answers (nodes ++ node_of split cert.steps cert.vectors verdicts ∷ []) part.Between) wss
cert_run k answers nodes split cert verdicts wss counts h =
    let c : CertParts k.scenarios k.columns k.rows cert verdicts = cert_parts k.scenarios k.columns k.rows cert verdicts h in
    let steps : taken (at k answers nodes (part.Steps split)) (steps_words cert.steps) ≡ Some (at k answers nodes (part.Vectors split cert.steps [])) =
    map_is (λ (s : List Step). at k answers nodes (part.Vectors split s [])) (line.steps_of k.columns k.rows (steps_words cert.steps)) cert.steps (steps_line_again k.columns k.rows cert.steps counts.columns counts.rows c.few_steps c.steps) in
    let last : taken (at k answers nodes (part.Vectors split cert.steps cert.vectors)) (verdicts_words verdicts) ≡ Some (at k answers (nodes ++ node_of split cert.steps cert.vectors verdicts ∷ []) part.Between) =
    map_is (λ (vs : List Verdict). at k answers (nodes ++ node_of split cert.steps cert.vectors vs ∷ []) part.Between) (line.some_verdicts k.scenarios k.rows (map verdict_word verdicts)) verdicts (some_verdicts_again k.scenarios k.rows verdicts counts.rows c.some c.few c.verdicts_fit) in
    step_run (at k answers nodes (part.Steps split)) (at k answers nodes (part.Vectors split cert.steps [])) (steps_words cert.steps) ((map vector_words cert.vectors ++ verdicts_words verdicts ∷ []) ++ wss) steps
    ∙ ap (run (at k answers nodes (part.Vectors split cert.steps []))) (append_assoc (map vector_words cert.vectors) (verdicts_words verdicts ∷ []) wss)
    ∙ vectors_run k answers nodes split cert.steps [] cert.vectors (verdicts_words verdicts ∷ wss) counts.rows c.vectors (omega (arith, c.few_vectors))
    ∙ step_run (at k answers nodes (part.Vectors split cert.steps cert.vectors)) (at k answers (nodes ++ node_of split cert.steps cert.vectors verdicts ∷ []) part.Between) (verdicts_words verdicts) wss last

-- ---- nodes

split_run : (k : Counts) (answers : List Answer) (nodes : List Node) (s : SplitPart) (cert : Cert) (verdicts : List Verdict) (wss : List Line) → MayFollow k answers nodes → IsHead k s.head → stay_has_text k.scenarios s.stay ≡ true → cert_has_text k.scenarios k.columns k.rows cert verdicts ≡ true → run (at k answers nodes part.Between) (head_words s.head.child s.head.column s.head.value ∷ stay_words s.stay ∷ (cert_words cert verdicts ++ wss)) ≡ run (at k answers (nodes ++ node_of (Some s) cert.steps cert.vectors verdicts ∷ []) part.Between) wss
split_run k answers nodes s cert verdicts wss m head stay h =
    let one : taken (at k answers nodes part.Between) (head_words s.head.child s.head.column s.head.value) ≡ Some (at k answers nodes (part.Stay s.head)) =
    to_node k answers nodes (head_words s.head.child s.head.column s.head.value) m
    ∙ map_is (λ (t : SplitHead). at k answers nodes (part.Stay t)) (line.heads_of k.columns k.nodes (decimal s.head.child ∷ decimal s.head.column ∷ integer_text s.head.value ∷ [])) s.head (head_again k s.head m.counts.columns m.counts.few_nodes head) in
    let two : taken (at k answers nodes (part.Stay s.head)) (stay_words s.stay) ≡ Some (at k answers nodes (part.Steps (Some s))) =
    map_is (λ (t : List ℕ). at k answers nodes (part.Steps (Some (record { head = s.head; stay = t })))) (line.stay_of k.scenarios (stay_words s.stay)) s.stay (stay_again k.scenarios s.stay m.counts.few_scenarios stay) in
    step_run (at k answers nodes part.Between) (at k answers nodes (part.Stay s.head)) (head_words s.head.child s.head.column s.head.value) (stay_words s.stay ∷ (cert_words cert verdicts ++ wss)) one
    ∙ step_run (at k answers nodes (part.Stay s.head)) (at k answers nodes (part.Steps (Some s))) (stay_words s.stay) (cert_words cert verdicts ++ wss) two
    ∙ cert_run k answers nodes (Some s) cert verdicts wss m.counts h

node_run : (k : Counts) (answers : List Answer) (nodes : List Node) (n : Node) (wss : List Line) → MayFollow k answers nodes → node_has_text k.scenarios k.columns k.rows k.nodes n ≡ true → run (at k answers nodes part.Between) (node_words n ++ wss) ≡ run (at k answers (nodes ++ n ∷ []) part.Between) wss
node_run k answers nodes Rest wss m h = step_run (at k answers nodes part.Between) (at k answers (nodes ++ Rest ∷ []) part.Between) (codes "rest" ∷ []) wss (to_node k answers nodes (codes "rest" ∷ []) m)
node_run k answers nodes (Leaf cert verdicts) wss m h =
    step_run (at k answers nodes part.Between) (at k answers nodes (part.Steps None)) (codes "leaf" ∷ []) (cert_words cert verdicts ++ wss) (to_node k answers nodes (codes "leaf" ∷ []) m)
    ∙ cert_run k answers nodes None cert verdicts wss m.counts h
node_run k answers nodes (Split cert verdicts stay child column v) wss m h =
    let a = nat_lt 0 child in
    let b = nat_lt (suc child) k.nodes in
    let c = nat_lt column k.columns in
    let d = is_within 1000000 v in
    let e = stay_has_text k.scenarios stay in
    let f = cert_has_text k.scenarios k.columns k.rows cert verdicts in
    let one = both ((((a && b) && c) && d) && e) f h in
    let two = both (((a && b) && c) && d) e one.0 in
    let three = both ((a && b) && c) d two.0 in
    let four = both (a && b) c three.0 in
    let five = both a b four.0 in
    split_run k answers nodes (record { head = record { child = child; column = column; value = v }; stay = stay }) cert verdicts wss m (record { some = five.0; below = five.1; column = four.1; value = three.1 }) two.1 one.1

nodes_run : (k : Counts) (answers : List Answer) (nodes more : List Node) (wss : List Line) → AreCounts k → length answers ≡ k.scenarios → list_all (node_has_text k.scenarios k.columns k.rows k.nodes) more ≡ true → length nodes + length more ≤ k.nodes → run (at k answers nodes part.Between) (flat_map node_words more ++ wss) ≡ run (at k answers (nodes ++ more) part.Between) wss
nodes_run k answers nodes [] wss counts full h few = ap (λ (l : List Node). run (at k answers l part.Between) wss) (sym (append-nil nodes))
nodes_run k answers nodes (n ∷ more) wss counts full h few =
    let parts = both (node_has_text k.scenarios k.columns k.rows k.nodes n) (list_all (node_has_text k.scenarios k.columns k.rows k.nodes) more) h in
    ap (run (at k answers nodes part.Between)) (append_assoc (node_words n) (flat_map node_words more) wss)
    ∙ node_run k answers nodes n (flat_map node_words more ++ wss) (record { counts = counts; full = full; room = omega arith }) parts.0
    ∙ nodes_run k answers (nodes ++ n ∷ []) more wss counts full parts.1 (omega (arith, length_more nodes n, few))
    ∙ ap (λ (l : List Node). run (at k answers l part.Between) wss) (append_assoc nodes (n ∷ []) more)

-- ---- the whole

abbrev pub counts_in : LogFile → Counts
counts_in f = record { scenarios = length f.answers; columns = f.columns; rows = f.rows; nodes = length f.tree }

abbrev pub file_words : LogFile → List Line
file_words f = front_words (counts_in f) f.answers f.tree ++ last_words ∷ []

pub record FileParts (f : LogFile) : Type 0 where
  pub counts : AreCounts (counts_in f)
  pub claims : list_all (answer_has_text f.columns) f.answers ≡ true
  pub tree_fits : list_all (node_has_text (length f.answers) f.columns f.rows (length f.tree)) f.tree ≡ true

pub file_parts : (f : LogFile) → has_text f ≡ true → FileParts f
file_parts x h =
    let a = nat_lt 0 (length x.answers) in
    let b = nat_le (length x.answers) 64 in
    let c = nat_le x.columns 1000 in
    let d = nat_le x.rows 1000 in
    let e = nat_lt 0 (length x.tree) in
    let f = nat_le (length x.tree) 100001 in
    let g = list_all (answer_has_text x.columns) x.answers in
    let i = list_all (node_has_text (length x.answers) x.columns x.rows (length x.tree)) x.tree in
    let one = both ((((((a && b) && c) && d) && e) && f) && g) i h in
    let two = both (((((a && b) && c) && d) && e) && f) g one.0 in
    let three = both ((((a && b) && c) && d) && e) f two.0 in
    let four = both (((a && b) && c) && d) e three.0 in
    let five = both ((a && b) && c) d four.0 in
    let six = both (a && b) c five.0 in
    let seven = both a b six.0 in
    record {
      counts = record { scenarios = lt_test 0 (length x.answers) seven.0; few_scenarios = le_test (length x.answers) 64 seven.1; columns = le_test x.columns 1000 six.1; rows = le_test x.rows 1000 five.1; nodes = lt_test 0 (length x.tree) four.1; few_nodes = le_test (length x.tree) 100001 three.1 };
      claims = two.1;
      tree_fits = one.1;
    }

pub file_run : (f : LogFile) → has_text f ≡ true → run nothing (file_words f) ≡ Some (at (counts_in f) f.answers f.tree part.Ended)
file_run f h =
    let k = counts_in f in
    let parts : FileParts f = file_parts f h in
    let size : taken (at nothing.counts [] [] part.Counts) (size_words (counts_in f)) ≡ Some (at (counts_in f) [] [] part.Between) =
    map_is (λ (n : Counts). at n [] [] part.Between) (size_of (size_words (counts_in f))) (counts_in f) (size_again (counts_in f) parts.counts) in
    let last : taken (at (counts_in f) f.answers f.tree part.Between) last_words ≡ Some (at (counts_in f) f.answers f.tree part.Ended) =
    if_false (nat_lt (length f.answers) (length f.answers)) _ _ (lt_false (length f.answers) (length f.answers) (omega arith))
    ∙ if_false (nat_lt (length f.tree) (length f.tree)) _ _ (lt_false (length f.tree) (length f.tree) (omega arith)) in
    step_run nothing (at nothing.counts [] [] part.Counts) first_words (size_words (counts_in f) ∷ (body_words f.answers f.tree ++ last_words ∷ [])) refl
    ∙ step_run (at nothing.counts [] [] part.Counts) (at (counts_in f) [] [] part.Between) (size_words (counts_in f)) (body_words f.answers f.tree ++ last_words ∷ []) size
    ∙ ap (run (at (counts_in f) [] [] part.Between)) (append_assoc (map claim_line_words f.answers) (flat_map node_words f.tree) (last_words ∷ []))
    ∙ claims_run (counts_in f) [] f.answers (flat_map node_words f.tree ++ last_words ∷ []) parts.claims (omega arith)
    ∙ nodes_run (counts_in f) f.answers [] f.tree (last_words ∷ []) parts.counts refl parts.tree_fits (omega arith)
    ∙ step_run (at (counts_in f) f.answers f.tree part.Between) (at (counts_in f) f.answers f.tree part.Ended) last_words [] last
