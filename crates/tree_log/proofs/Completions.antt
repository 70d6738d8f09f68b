-- Each draft that lines made is the beginning of a log.
use Rattle.std.proofs.Common.{◌≡◌, ◌∙◌, ap, sym, refl, subst, ℕ, zero, suc, ◌-◌, ◌<◌, Bool, true, nat_lt, List, [], ◌∷◌, ◌++◌, length, map, Option, Some, arith, inl, inr, append_assoc, length-append}
use Rattle.std.specs.Prelude.{codes, flat_map}
use Rattle.std.specs.List.{list_all}
use Rattle.std.proofs.lemmas.List.{append-nil, map-append}
use Rattle.std.proofs.lemmas.Grind.{flat_map-append}
use Rattle.tighten.specs.declared.step.Step.{Step}
use Rattle.dual_bounds.specs.Vectors.{Multipliers}
use Rattle.scenario_changes.specs.declared.answer.Answer.{Answer}
use Rattle.scenario_changes.specs.declared.answer.Answer.TheVariants.{Infeasible}
use Rattle.certs.specs.declared.verdict.Verdict.{Verdict}
use Rattle.certs.specs.declared.verdict.Verdict.TheVariants.{Empty}
use Rattle.certs.specs.declared.tree.Node.{Node}
use Rattle.certs.specs.declared.tree.Node.TheVariants.{Rest}
use Rattle.tree_log.specs.HasText.{answer_has_text, node_has_text, has_text}
use Rattle.tree_log.specs.LogText.{verdict_word}
use Rattle.tree_log.specs.declared.file.LogFile.{LogFile}
use Rattle.tree_log.specs.declared.node_lines.SplitHead.{SplitHead}
use Rattle.tree_log.specs.declared.draft.Counts.{Counts}
use Rattle.tree_log.specs.declared.draft.SplitPart.{SplitPart}
use Rattle.tree_log.specs.declared.draft.Part.{Part}
use Rattle.tree_log.specs.declared.draft.Part.TheVariants as part
use Rattle.tree_log.specs.Drafts.{node_of}
use Rattle.tree_log.proofs.WordLaws.{all, both, lt_true}
use Rattle.tree_log.proofs.CertLineLaws.{vector_words, VerdictLine}
use Rattle.tree_log.proofs.DraftLaws.{Line, first_words, size_words, claim_line_words, steps_words, verdicts_words, head_words, stay_words, node_words, last_words, front_words, opened, lines_at, IsBody, IsOpen, IsHead, IsSplit, IsRecord, Fits, front_node}
use Rattle.tree_log.proofs.StepLaws.{body_more, node_fits, node_lines, tail_more}
use Rattle.tree_log.proofs.LogTextLaws.{file_made, file_fits}
use Rattle.tree_log.proofs.FileRuns.{counts_in, file_words}

-- a log that begins with these lines
pub record IsBeginning (lines : List Line) : Type 0 where
  pub whole : LogFile
  pub fits : has_text whole ≡ true
  pub more : List Line
  pub front : file_words whole ≡ lines ++ more

-- the same element several times
abbrev repeated : {X : Type 0} → X → ℕ → List X
repeated x zero = []
repeated x (suc n) = x ∷ repeated x n

length_repeated : {X : Type 0} (x : X) (n : ℕ) → length (repeated x n) ≡ n
length_repeated x zero = refl
length_repeated x (suc n) = ap suc (length_repeated x n)

all_repeated : {X : Type 0} (p : X → Bool) (x : X) (n : ℕ) → p x ≡ true → list_all p (repeated x n) ≡ true
all_repeated p x zero h = refl
all_repeated p x (suc n) h = all (p x) (list_all p (repeated x n)) h (all_repeated p x n h)

all_append : {X : Type 0} (p : X → Bool) (xs ys : List X) → list_all p xs ≡ true → list_all p ys ≡ true → list_all p (xs ++ ys) ≡ true
all_append p [] ys h i = i
all_append p (x ∷ xs) ys h i =
    let parts = both (p x) (list_all p xs) h in
    all (p x) (list_all p (xs ++ ys)) parts.0 (all_append p xs ys parts.1 i)

-- the counts of a made file are those that its draft has
same_counts : (k : Counts) (answers : List Answer) (nodes : List Node) → length answers ≡ k.scenarios → length nodes ≡ k.nodes → counts_in (file_made k answers nodes) ≡ k
same_counts k answers nodes e f = rw (e, f) refl

file_is : (k : Counts) (answers : List Answer) (nodes : List Node) → length answers ≡ k.scenarios → length nodes ≡ k.nodes → file_words (file_made k answers nodes) ≡ front_words k answers nodes ++ last_words ∷ []
file_is k answers nodes e f = ap (λ (c : Counts). front_words c answers nodes ++ last_words ∷ []) (same_counts k answers nodes e f)

ended_begins : (k : Counts) (answers : List Answer) (nodes : List Node) → IsBody k answers nodes → length answers ≡ k.scenarios → length nodes ≡ k.nodes → IsBeginning (front_words k answers nodes ++ last_words ∷ [])
ended_begins k answers nodes h e f = record {
  whole = file_made k answers nodes;
  fits = file_fits k answers nodes h e f;
  more = [];
  front = file_is k answers nodes e f ∙ sym (append-nil (front_words k answers nodes ++ last_words ∷ []));
}

front_nodes : (k : Counts) (answers : List Answer) (nodes more : List Node) → front_words k answers (nodes ++ more) ≡ front_words k answers nodes ++ flat_map node_words more
front_nodes k answers nodes more =
    ap (λ (l : List Line). first_words ∷ size_words k ∷ (map claim_line_words answers ++ l)) (flat_map-append node_words nodes more)
    ∙ ap (λ (l : List Line). first_words ∷ size_words k ∷ l) (sym (append_assoc (map claim_line_words answers) (flat_map node_words nodes) (flat_map node_words more)))

front_claims : (k : Counts) (answers more : List Answer) → front_words k (answers ++ more) [] ≡ front_words k answers [] ++ map claim_line_words more
front_claims k answers more =
    ap (λ (l : List Line). first_words ∷ size_words k ∷ l) (append-nil (map claim_line_words (answers ++ more)) ∙ map-append claim_line_words answers more ∙ ap (λ (l : List Line). l ++ map claim_line_words more) (sym (append-nil (map claim_line_words answers))))

-- what begins a longer beginning
shorter : (a b : List Line) → IsBeginning (a ++ b) → IsBeginning a
shorter a b h = record { whole = h.whole; fits = h.fits; more = b ++ h.more; front = h.front ∙ append_assoc a b h.more }

-- the nodes that are missing
full_begins : (k : Counts) (answers : List Answer) (nodes : List Node) → IsBody k answers nodes → length answers ≡ k.scenarios → IsBeginning (front_words k answers nodes)
full_begins k answers nodes h full =
    let missing = repeated Rest (k.nodes - length nodes) in
    let size : length (nodes ++ missing) ≡ k.nodes = length-append nodes missing ∙ omega (arith, length_repeated Rest (k.nodes - length nodes), h.few_nodes) in
    let body : IsBody k answers (nodes ++ missing) = record {
      counts = h.counts;
      claims = h.claims;
      tree = all_append (node_has_text k.scenarios k.columns k.rows k.nodes) nodes missing h.tree (all_repeated (node_has_text k.scenarios k.columns k.rows k.nodes) Rest (k.nodes - length nodes) refl);
      few_claims = h.few_claims;
      few_nodes = omega (arith, size);
      order = inl full;
    } in
    shorter (front_words k answers nodes) (flat_map node_words missing)
    (subst IsBeginning (front_nodes k answers nodes missing) (shorter (front_words k answers (nodes ++ missing)) (last_words ∷ []) (ended_begins k answers (nodes ++ missing) body full size)))

-- the claims that are missing
body_begins : (k : Counts) (answers : List Answer) (nodes : List Node) → IsBody k answers nodes → IsBeginning (front_words k answers nodes)
body_begins k answers nodes h = elim h.order [
  | inl full ↦ full_begins k answers nodes h full
  | inr none ↦ subst (λ (l : List Node). IsBeginning (front_words k answers l)) (sym none) (claims_begin k answers nodes h)
]
  where
    claims_begin : (k : Counts) (answers : List Answer) (nodes : List Node) → IsBody k answers nodes → IsBeginning (front_words k answers [])
    claims_begin k answers nodes h =
        let missing = repeated Infeasible (k.scenarios - length answers) in
        let size : length (answers ++ missing) ≡ k.scenarios = length-append answers missing ∙ omega (arith, length_repeated Infeasible (k.scenarios - length answers), h.few_claims) in
        let body : IsBody k (answers ++ missing) [] = record {
          counts = h.counts;
          claims = all_append (answer_has_text k.columns) answers missing h.claims (all_repeated (answer_has_text k.columns) Infeasible (k.scenarios - length answers) refl);
          tree = refl;
          few_claims = omega (arith, size);
          few_nodes = omega arith;
          order = inr refl;
        } in
        shorter (front_words k answers []) (map claim_line_words missing)
        (subst IsBeginning (front_claims k answers missing) (full_begins k (answers ++ missing) [] body size))

verdict_line : (scenarios rows : ℕ) → 0 < scenarios → VerdictLine scenarios rows (codes "e" ∷ []) (Empty ∷ [])
unfolding verdict_word
verdict_line scenarios rows h = record { words = refl; some = omega arith; few = omega arith; fit = refl }

-- the rest of a node
node_begins : (k : Counts) (answers : List Answer) (nodes : List Node) (split : Option SplitPart) (steps : List Step) (vectors : List Multipliers) → IsOpen k answers nodes → IsRecord k split steps vectors → IsBeginning (front_words k answers nodes ++ (opened split ++ steps_words steps ∷ map vector_words vectors))
node_begins k answers nodes split steps vectors h r =
    let verdicts : List Verdict = Empty ∷ [] in
    let line : VerdictLine k.scenarios k.rows (codes "e" ∷ []) verdicts = verdict_line k.scenarios k.rows h.body.counts.scenarios in
    let node = node_of split steps vectors verdicts in
    let body : IsBody k answers (nodes ++ node ∷ []) = body_more k answers nodes node h (node_fits k split steps vectors (codes "e" ∷ []) verdicts r line) in
    shorter (front_words k answers nodes ++ (opened split ++ steps_words steps ∷ map vector_words vectors)) (verdicts_words verdicts ∷ [])
    (subst IsBeginning (front_node k answers nodes node ∙ ap (λ (l : List Line). front_words k answers nodes ++ l) (node_lines split steps vectors verdicts) ∙ tail_more (front_words k answers nodes) (opened split) (map vector_words vectors) (steps_words steps) (verdicts_words verdicts)) (body_begins k answers (nodes ++ node ∷ []) body))

steps_begin : (k : Counts) (answers : List Answer) (nodes : List Node) (split : Option SplitPart) → IsOpen k answers nodes → IsSplit k split → IsBeginning (front_words k answers nodes ++ opened split)
steps_begin k answers nodes split h s =
    shorter (front_words k answers nodes ++ opened split) (steps_words [] ∷ [])
    (subst IsBeginning (sym (append_assoc (front_words k answers nodes) (opened split) (steps_words [] ∷ []))) (node_begins k answers nodes split [] [] h (record { split = s; few_steps = omega arith; steps = refl; few_vectors = omega arith; vectors = refl })))

stay_begins : (k : Counts) (answers : List Answer) (nodes : List Node) (s : SplitHead) → IsOpen k answers nodes → IsHead k s → IsBeginning (front_words k answers nodes ++ head_words s.child s.column s.value ∷ [])
stay_begins k answers nodes s h head =
    let first : nat_lt 0 k.scenarios ≡ true = lt_true 0 k.scenarios h.body.counts.scenarios in
    shorter (front_words k answers nodes ++ head_words s.child s.column s.value ∷ []) (stay_words (0 ∷ []) ∷ [])
    (subst IsBeginning (sym (append_assoc (front_words k answers nodes) (head_words s.child s.column s.value ∷ []) (stay_words (0 ∷ []) ∷ [])))
    (steps_begin k answers nodes (Some (record { head = s; stay = 0 ∷ [] })) h (head, all (nat_lt 0 k.scenarios) true first refl)))

-- any log
least : Counts
least = record { scenarios = 1; columns = 0; rows = 0; nodes = 1 }

nothing_begins : IsBeginning (first_words ∷ [])
unfolding least
nothing_begins = shorter (first_words ∷ []) (size_words least ∷ []) (body_begins least [] [] (record {
  counts = record { scenarios = omega arith; few_scenarios = omega arith; columns = omega arith; rows = omega arith; nodes = omega arith; few_nodes = omega arith };
  claims = refl;
  tree = refl;
  few_claims = omega arith;
  few_nodes = omega arith;
  order = inr refl;
}))

pub part_begins : (k : Counts) (answers : List Answer) (nodes : List Node) (p : Part) → Fits k answers nodes p → IsBeginning (lines_at k answers nodes p)
part_begins k answers nodes part.First h = shorter [] (first_words ∷ []) nothing_begins
part_begins k answers nodes part.Counts h = nothing_begins
part_begins k answers nodes part.Between h = body_begins k answers nodes h
part_begins k answers nodes (part.Stay s) h = stay_begins k answers nodes s h.0 h.1
part_begins k answers nodes (part.Steps split) h = steps_begin k answers nodes split h.0 h.1
part_begins k answers nodes (part.Vectors split steps vectors) h = node_begins k answers nodes split steps vectors h.0 h.1
part_begins k answers nodes part.Ended h = ended_begins k answers nodes h.0 h.1 h.2
