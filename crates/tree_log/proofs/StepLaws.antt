-- A line that is taken is the next line of the log that is begun.
use Rattle.std.proofs.Common.{◌≡◌, ◌∙◌, ap, sym, refl, subst, ℕ, suc, ◌<◌, ◌≤◌, Bool, true, false, cond, nat_lt, nat_le, List, [], ◌∷◌, ◌++◌, length, map, Option, Some, None, arith, inl, inr, ◌⊎◌, append_assoc}
use Rattle.std.specs.Prelude.{option_map, codes, bytes_eq}
use Rattle.std.specs.List.{list_all}
use Rattle.std.proofs.lemmas.List.{append-nil, map-append}
use Rattle.tighten.specs.declared.step.Step.{Step}
use Rattle.dual_bounds.specs.Vectors.{Multipliers}
use Rattle.scenario_changes.specs.declared.answer.Answer.{Answer}
use Rattle.certs.specs.declared.verdict.Verdict.{Verdict}
use Rattle.certs.specs.declared.tree.Node.{Node}
use Rattle.certs.specs.declared.tree.Node.TheVariants.{Rest}
use Rattle.tree_log.specs.HasText.{is_within, answer_has_text, step_has_text, vector_has_text, verdict_has_text, cert_has_text, stay_has_text, node_has_text}
use Rattle.tree_log.specs.LineWords as line
use Rattle.tree_log.specs.declared.node_lines.SplitHead.{SplitHead}
use Rattle.tree_log.specs.declared.draft.Counts.{Counts}
use Rattle.tree_log.specs.declared.draft.SplitPart.{SplitPart}
use Rattle.tree_log.specs.declared.draft.Part.{Part}
use Rattle.tree_log.specs.declared.draft.Part.TheVariants as part
use Rattle.tree_log.specs.Drafts.{Begun, first_of, last_of, size_of, node_taken, between_taken, node_of, vector_added, vector_taken, part_taken, taken, run}
use Rattle.tree_log.proofs.WordLaws.{bind_some, map_some, some_same, kept, all, lt_test, lt_true, le_true, not_lt, word_is, none_left-some}
use Rattle.tree_log.proofs.LineLaws.{claim_read}
use Rattle.tree_log.proofs.CertLineLaws.{vector_words, StepLine, steps_line_read, VectorLine, vector_read, VerdictLine, some_verdicts_read, stay_line_read, HeadLine, heads_read}
use Rattle.tree_log.proofs.DraftLaws.{Line, first_words, size_words, steps_words, verdicts_words, head_words, stay_words, node_words, front_words, opened, lines_at, lines_of, AreCounts, IsBody, IsOpen, IsHead, IsSplit, IsRecord, Fits, IsMade, first_read, last_read, size_read, more_holds, length_more, front_node, front_claim}

branch : {X : Type 0} (b : Bool) (o p : Option X) (x : X) → cond b o p ≡ Some x → ((b ≡ true) × (o ≡ Some x)) ⊎ ((b ≡ false) × (p ≡ Some x))
branch true o p x e = inl (refl, e)
branch false o p x e = inr (refl, e)

pub body_more : (k : Counts) (answers : List Answer) (nodes : List Node) (n : Node) → IsOpen k answers nodes → node_has_text k.scenarios k.columns k.rows k.nodes n ≡ true → IsBody k answers (nodes ++ n ∷ [])
body_more k answers nodes n h fit = record {
  counts = h.body.counts;
  claims = h.body.claims;
  tree = more_holds (node_has_text k.scenarios k.columns k.rows k.nodes) nodes n h.body.tree fit;
  few_claims = h.body.few_claims;
  few_nodes = omega (arith, length_more nodes n, h.room);
  order = inl h.claims;
}

-- ---- claims

no_nodes : (k : Counts) (answers : List Answer) (nodes : List Node) → IsBody k answers nodes → length answers < k.scenarios → nodes ≡ []
no_nodes k answers nodes h less = elim h.order [ inl full ↦ absurd (omega (arith, full)) | inr none ↦ none ]

claim_made : (k : Counts) (answers : List Answer) (nodes : List Node) (ws : Line) (a : Answer) → IsBody k answers nodes → length answers < k.scenarios → line.claim_of k.columns ws ≡ Some a → IsMade (front_words k answers nodes) ws (record { counts = k; answers = answers ++ a ∷ []; nodes = nodes; part = part.Between })
claim_made k answers nodes ws a h less e =
    let none = no_nodes k answers nodes h less in
    let read = claim_read k.columns ws a e in
    record {
      lines = subst (λ (ns : List Node). front_words k (answers ++ a ∷ []) ns ≡ front_words k answers ns ++ ws ∷ []) (sym none) (front_claim k answers a ∙ ap (λ (w : Line). front_words k answers [] ++ w ∷ []) (sym read.0));
      fits = record {
        counts = h.counts;
        claims = more_holds (answer_has_text k.columns) answers a h.claims read.1;
        tree = h.tree;
        few_claims = omega (arith, length_more answers a, less);
        few_nodes = h.few_nodes;
        order = inr none;
      };
    }

-- ---- the first lines of nodes

rest_made : (k : Counts) (answers : List Answer) (nodes : List Node) (ws : Line) (u : Unit {0}) → IsOpen k answers nodes → line.none_left ws ≡ Some u → IsMade (front_words k answers nodes) (codes "rest" ∷ ws) (record { counts = k; answers = answers; nodes = nodes ++ Rest ∷ []; part = part.Between })
rest_made k answers nodes ws u h e = record {
  lines = front_node k answers nodes Rest ∙ ap (λ (l : Line). front_words k answers nodes ++ (codes "rest" ∷ l) ∷ []) (sym (none_left-some ws u e));
  fits = body_more k answers nodes Rest h refl;
}

leaf_made : (k : Counts) (answers : List Answer) (nodes : List Node) (ws : Line) (u : Unit {0}) → IsOpen k answers nodes → line.none_left ws ≡ Some u → IsMade (front_words k answers nodes) (codes "leaf" ∷ ws) (record { counts = k; answers = answers; nodes = nodes; part = part.Steps None })
leaf_made k answers nodes ws u h e = record {
  lines = ap (λ (l : Line). front_words k answers nodes ++ (codes "leaf" ∷ l) ∷ []) (sym (none_left-some ws u e));
  fits = (h, tt);
}

head_made : (k : Counts) (answers : List Answer) (nodes : List Node) (ws : Line) (s : SplitHead) → IsOpen k answers nodes → line.heads_of k.columns k.nodes ws ≡ Some s → IsMade (front_words k answers nodes) (codes "split" ∷ ws) (record { counts = k; answers = answers; nodes = nodes; part = part.Stay s })
head_made k answers nodes ws s h e =
    let read : HeadLine k.columns k.nodes ws s = heads_read k.columns k.nodes ws s h.body.counts.columns h.body.counts.few_nodes e in
    record {
      lines = ap (λ (l : Line). front_words k answers nodes ++ (codes "split" ∷ l) ∷ []) (sym read.words);
      fits = (h, record { some = read.some; below = read.below; column = read.column; value = read.value });
    }

-- the same at a word that is known
at_word : (before : List Line) (ws : Line) (c : Begun) (w word : List ℕ) → w ≡ word → IsMade before (word ∷ ws) c → IsMade before (w ∷ ws) c
at_word before ws c w word e h = subst (λ (v : List ℕ). IsMade before (v ∷ ws) c) (sym e) h

node_made : (k : Counts) (answers : List Answer) (nodes : List Node) (ws : Line) (c : Begun) → IsOpen k answers nodes → node_taken k answers nodes ws ≡ Some c → IsMade (front_words k answers nodes) ws c
node_made k answers nodes [] c h e = absurd (cc)
node_made k answers nodes (w ∷ ws) c h e = elim (branch (bytes_eq w (codes "rest")) (option_map _ (line.none_left ws)) _ c e) [
  | inl one ↦
      let read = map_some _ (line.none_left ws) c one.1 in
      subst (IsMade (front_words k answers nodes) (w ∷ ws)) read.2 (at_word (front_words k answers nodes) ws _ w (codes "rest") (word_is w (codes "rest") one.0) (rest_made k answers nodes ws read.0 h read.1))
  | inr more ↦ elim (branch (bytes_eq w (codes "leaf")) (option_map _ (line.none_left ws)) _ c more.1) [
    | inl two ↦
        let read = map_some _ (line.none_left ws) c two.1 in
        subst (IsMade (front_words k answers nodes) (w ∷ ws)) read.2 (at_word (front_words k answers nodes) ws _ w (codes "leaf") (word_is w (codes "leaf") two.0) (leaf_made k answers nodes ws read.0 h read.1))
    | inr last ↦
        let three = kept (bytes_eq w (codes "split")) _ c last.1 in
        let read = map_some _ (line.heads_of k.columns k.nodes ws) c three.1 in
        subst (IsMade (front_words k answers nodes) (w ∷ ws)) read.2 (at_word (front_words k answers nodes) ws _ w (codes "split") (word_is w (codes "split") three.0) (head_made k answers nodes ws read.0 h read.1))
  ]
]

end_made : (k : Counts) (answers : List Answer) (nodes : List Node) (ws : Line) (u : Unit {0}) → IsBody k answers nodes → k.scenarios ≤ length answers → k.nodes ≤ length nodes → last_of ws ≡ Some u → IsMade (front_words k answers nodes) ws (record { counts = k; answers = answers; nodes = nodes; part = part.Ended })
end_made k answers nodes ws u h claims tree e = record {
  lines = ap (λ (l : Line). front_words k answers nodes ++ l ∷ []) (sym (last_read ws u e));
  fits = (h, omega (arith, h.few_claims, claims), omega (arith, h.few_nodes, tree));
}

between_made : (k : Counts) (answers : List Answer) (nodes : List Node) (ws : Line) (c : Begun) → IsBody k answers nodes → between_taken k answers nodes ws ≡ Some c → IsMade (front_words k answers nodes) ws c
between_made k answers nodes ws c h e = elim (branch (nat_lt (length answers) k.scenarios) _ _ c e) [
  | inl one ↦
      let read = map_some _ (line.claim_of k.columns ws) c one.1 in
      subst (IsMade (front_words k answers nodes) ws) read.2 (claim_made k answers nodes ws read.0 h (lt_test (length answers) k.scenarios one.0) read.1)
  | inr more ↦
      let full : k.scenarios ≤ length answers = not_lt (length answers) k.scenarios more.0 in
      elim (branch (nat_lt (length nodes) k.nodes) _ _ c more.1) [
        | inl two ↦ node_made k answers nodes ws c (record { body = h; claims = omega (arith, h.few_claims, full); room = lt_test (length nodes) k.nodes two.0 }) two.1
        | inr last ↦
            let read = map_some _ (last_of ws) c last.1 in
            subst (IsMade (front_words k answers nodes) ws) read.2 (end_made k answers nodes ws read.0 h full (not_lt (length nodes) k.nodes last.0) read.1)
      ]
]

-- ---- certificates

pub tail_more : (a b c : List Line) (s w : Line) → a ++ (b ++ (s ∷ (c ++ w ∷ []))) ≡ (a ++ (b ++ s ∷ c)) ++ w ∷ []
tail_more a b c s w = sym (append_assoc a (b ++ s ∷ c) (w ∷ []) ∙ ap (λ (l : List Line). a ++ l) (append_assoc b (s ∷ c) (w ∷ [])))

vector_made : (k : Counts) (answers : List Answer) (nodes : List Node) (split : Option SplitPart) (steps : List Step) (vectors : List Multipliers) (ws : Line) (v : Multipliers) → IsOpen k answers nodes → IsRecord k split steps vectors → length vectors < 2 → line.counted_vector k.rows ws ≡ Some v → IsMade (front_words k answers nodes ++ (opened split ++ steps_words steps ∷ map vector_words vectors)) (codes "vector" ∷ ws) (record { counts = k; answers = answers; nodes = nodes; part = part.Vectors split steps (vectors ++ v ∷ []) })
vector_made k answers nodes split steps vectors ws v h r few e =
    let read : VectorLine k.rows (codes "vector" ∷ ws) v = vector_read k.rows ws v h.body.counts.rows e in
    record {
      lines = ap (λ (l : List Line). front_words k answers nodes ++ (opened split ++ steps_words steps ∷ l)) (map-append vector_words vectors (v ∷ []))
          ∙ tail_more (front_words k answers nodes) (opened split) (map vector_words vectors) (steps_words steps) (vector_words v)
          ∙ ap (λ (l : Line). (front_words k answers nodes ++ (opened split ++ steps_words steps ∷ map vector_words vectors)) ++ l ∷ []) (sym read.words);
      fits = (
        h,
        record {
          split = r.split;
          few_steps = r.few_steps;
          steps = r.steps;
          few_vectors = omega (arith, length_more vectors v, few);
          vectors = more_holds (vector_has_text k.rows) vectors v r.vectors read.fit;
        },
      );
    }

cert_fits : (k : Counts) (split : Option SplitPart) (steps : List Step) (vectors : List Multipliers) (ws : Line) (vs : List Verdict) → IsRecord k split steps vectors → VerdictLine k.scenarios k.rows ws vs → cert_has_text k.scenarios k.columns k.rows (record { steps = steps; vectors = vectors }) vs ≡ true
cert_fits k split steps vectors ws vs r v =
    all _ (list_all (verdict_has_text k.rows) vs)
    (all _ (nat_le (length vs) k.scenarios)
    (all _ (nat_lt 0 (length vs))
    (all _ (list_all (vector_has_text k.rows) vectors)
    (all _ (nat_le (length vectors) 2)
    (all (nat_le (length steps) 128) (list_all (step_has_text k.columns k.rows) steps) (le_true (length steps) 128 r.few_steps) r.steps)
    (le_true (length vectors) 2 r.few_vectors)) r.vectors) (lt_true 0 (length vs) v.some)) (le_true (length vs) k.scenarios v.few)) v.fit

pub node_fits : (k : Counts) (split : Option SplitPart) (steps : List Step) (vectors : List Multipliers) (ws : Line) (vs : List Verdict) → IsRecord k split steps vectors → VerdictLine k.scenarios k.rows ws vs → node_has_text k.scenarios k.columns k.rows k.nodes (node_of split steps vectors vs) ≡ true
node_fits k None steps vectors ws vs r v = cert_fits k None steps vectors ws vs r v
node_fits k (Some s) steps vectors ws vs r v =
    all _ (cert_has_text k.scenarios k.columns k.rows (record { steps = steps; vectors = vectors }) vs)
    (all _ (stay_has_text k.scenarios s.stay)
    (all _ (is_within 1000000 s.head.value)
    (all _ (nat_lt s.head.column k.columns)
    (all (nat_lt 0 s.head.child) (nat_lt (suc s.head.child) k.nodes) r.split.0.some r.split.0.below) r.split.0.column) r.split.0.value) r.split.1) (cert_fits k (Some s) steps vectors ws vs r v)

pub node_lines : (split : Option SplitPart) (steps : List Step) (vectors : List Multipliers) (vs : List Verdict) → node_words (node_of split steps vectors vs) ≡ opened split ++ (steps_words steps ∷ (map vector_words vectors ++ verdicts_words vs ∷ []))
node_lines None steps vectors vs = refl
node_lines (Some s) steps vectors vs = refl

verdicts_made : (k : Counts) (answers : List Answer) (nodes : List Node) (split : Option SplitPart) (steps : List Step) (vectors : List Multipliers) (ws : Line) (vs : List Verdict) → IsOpen k answers nodes → IsRecord k split steps vectors → line.some_verdicts k.scenarios k.rows ws ≡ Some vs → IsMade (front_words k answers nodes ++ (opened split ++ steps_words steps ∷ map vector_words vectors)) (codes "verdicts" ∷ ws) (record { counts = k; answers = answers; nodes = nodes ++ node_of split steps vectors vs ∷ []; part = part.Between })
verdicts_made k answers nodes split steps vectors ws vs h r e =
    let read : VerdictLine k.scenarios k.rows ws vs = some_verdicts_read k.scenarios k.rows ws vs h.body.counts.rows e in
    record {
      lines = front_node k answers nodes (node_of split steps vectors vs)
          ∙ ap (λ (l : List Line). front_words k answers nodes ++ l) (node_lines split steps vectors vs)
          ∙ tail_more (front_words k answers nodes) (opened split) (map vector_words vectors) (steps_words steps) (verdicts_words vs)
          ∙ ap (λ (l : Line). (front_words k answers nodes ++ (opened split ++ steps_words steps ∷ map vector_words vectors)) ++ (codes "verdicts" ∷ l) ∷ []) (sym read.words);
      fits = body_more k answers nodes (node_of split steps vectors vs) h (node_fits k split steps vectors ws vs r read);
    }

record_made : (k : Counts) (answers : List Answer) (nodes : List Node) (split : Option SplitPart) (steps : List Step) (vectors : List Multipliers) (ws : Line) (c : Begun) → IsOpen k answers nodes → IsRecord k split steps vectors → vector_taken k answers nodes split steps vectors ws ≡ Some c → IsMade (front_words k answers nodes ++ (opened split ++ steps_words steps ∷ map vector_words vectors)) ws c
record_made k answers nodes split steps vectors [] c h r e = absurd (cc)
record_made k answers nodes split steps vectors (w ∷ ws) c h r e = elim (branch (bytes_eq w (codes "vector")) (vector_added k answers nodes split steps vectors ws) _ c e) [
  | inl one ↦
      let few = kept (nat_lt (length vectors) 2) _ c one.1 in
      let read = map_some _ (line.counted_vector k.rows ws) c few.1 in
      subst (IsMade (front_words k answers nodes ++ (opened split ++ steps_words steps ∷ map vector_words vectors)) (w ∷ ws)) read.2 (at_word (front_words k answers nodes ++ (opened split ++ steps_words steps ∷ map vector_words vectors)) ws _ w (codes "vector") (word_is w (codes "vector") one.0) (vector_made k answers nodes split steps vectors ws read.0 h r (lt_test (length vectors) 2 few.0) read.1))
  | inr more ↦
      let two = kept (bytes_eq w (codes "verdicts")) _ c more.1 in
      let read = map_some _ (line.some_verdicts k.scenarios k.rows ws) c two.1 in
      subst (IsMade (front_words k answers nodes ++ (opened split ++ steps_words steps ∷ map vector_words vectors)) (w ∷ ws)) read.2 (at_word (front_words k answers nodes ++ (opened split ++ steps_words steps ∷ map vector_words vectors)) ws _ w (codes "verdicts") (word_is w (codes "verdicts") two.0) (verdicts_made k answers nodes split steps vectors ws read.0 h r read.1))
]

stay_made : (k : Counts) (answers : List Answer) (nodes : List Node) (s : SplitHead) (ws : Line) (stay : List ℕ) → IsOpen k answers nodes → IsHead k s → line.stay_of k.scenarios ws ≡ Some stay → IsMade (front_words k answers nodes ++ head_words s.child s.column s.value ∷ []) ws (record { counts = k; answers = answers; nodes = nodes; part = part.Steps (Some (record { head = s; stay = stay })) })
stay_made k answers nodes s ws stay h head e =
    let read = stay_line_read k.scenarios ws stay e in
    record {
      lines = sym (append_assoc (front_words k answers nodes) (head_words s.child s.column s.value ∷ []) (stay_words stay ∷ [])) ∙ ap (λ (l : Line). (front_words k answers nodes ++ head_words s.child s.column s.value ∷ []) ++ l ∷ []) (sym read.0);
      fits = (h, (head, read.1));
    }

steps_made : (k : Counts) (answers : List Answer) (nodes : List Node) (split : Option SplitPart) (ws : Line) (steps : List Step) → IsOpen k answers nodes → IsSplit k split → line.steps_of k.columns k.rows ws ≡ Some steps → IsMade (front_words k answers nodes ++ opened split) ws (record { counts = k; answers = answers; nodes = nodes; part = part.Vectors split steps [] })
steps_made k answers nodes split ws steps h s e =
    let read : StepLine k.columns k.rows ws steps = steps_line_read k.columns k.rows ws steps h.body.counts.columns h.body.counts.rows e in
    record {
      lines = sym (append_assoc (front_words k answers nodes) (opened split) (steps_words steps ∷ [])) ∙ ap (λ (l : Line). (front_words k answers nodes ++ opened split) ++ l ∷ []) (sym read.words);
      fits = (h, record { split = s; few_steps = read.few; steps = read.fit; few_vectors = omega arith; vectors = refl });
    }

-- ---- any line

counts_made : (k n : Counts) (answers : List Answer) (nodes : List Node) (ws : Line) → answers ≡ [] → nodes ≡ [] → ws ≡ size_words n → AreCounts n → IsMade (first_words ∷ []) ws (record { counts = n; answers = answers; nodes = nodes; part = part.Between })
counts_made k n answers nodes ws e f words h =
    let start : IsMade (first_words ∷ []) ws (record { counts = n; answers = []; nodes = []; part = part.Between }) = record {
      lines = ap (λ (l : Line). first_words ∷ l ∷ []) (sym words);
      fits = record { counts = h; claims = refl; tree = refl; few_claims = omega arith; few_nodes = omega arith; order = inr refl };
    } in
    subst (λ (xs : List Answer). IsMade (first_words ∷ []) ws (record { counts = n; answers = xs; nodes = nodes; part = part.Between })) (sym e)
    (subst (λ (ns : List Node). IsMade (first_words ∷ []) ws (record { counts = n; answers = []; nodes = ns; part = part.Between })) (sym f) start)

part_made : (k : Counts) (answers : List Answer) (nodes : List Node) (p : Part) (ws : Line) (c : Begun) → Fits k answers nodes p → part_taken k answers nodes p ws ≡ Some c → IsMade (lines_at k answers nodes p) ws c
part_made k answers nodes part.First ws c h e =
    let read = map_some _ (first_of ws) c e in
    subst (IsMade [] ws) read.2 (record { lines = ap (λ (l : Line). l ∷ []) (sym (first_read ws read.0 read.1)); fits = h })
part_made k answers nodes part.Counts ws c h e =
    let read = map_some _ (size_of ws) c e in
    let size = size_read ws read.0 read.1 in
    subst (IsMade (first_words ∷ []) ws) read.2 (counts_made k read.0 answers nodes ws h.0 h.1 size.0 size.1)
part_made k answers nodes part.Between ws c h e = between_made k answers nodes ws c h e
part_made k answers nodes (part.Stay s) ws c h e =
    let read = map_some _ (line.stay_of k.scenarios ws) c e in
    subst (IsMade (front_words k answers nodes ++ head_words s.child s.column s.value ∷ []) ws) read.2 (stay_made k answers nodes s ws read.0 h.0 h.1 read.1)
part_made k answers nodes (part.Steps split) ws c h e =
    let read = map_some _ (line.steps_of k.columns k.rows ws) c e in
    subst (IsMade (front_words k answers nodes ++ opened split) ws) read.2 (steps_made k answers nodes split ws read.0 h.0 h.1 read.1)
part_made k answers nodes (part.Vectors split steps vectors) ws c h e = record_made k answers nodes split steps vectors ws c h.0 h.1 e
part_made k answers nodes part.Ended ws c h e = absurd (cc)

-- many lines made this draft
pub record AreMade (before more : List Line) (c : Begun) : Type 0 where
  pub lines : lines_of c ≡ before ++ more
  pub fits : Fits c.counts c.answers c.nodes c.part

pub run_made : (b : Begun) (wss : List Line) (c : Begun) → Fits b.counts b.answers b.nodes b.part → run b wss ≡ Some c → AreMade (lines_of b) wss c
run_made b [] c h e = subst (AreMade (lines_of b) []) (some_same b c e) (record { lines = sym (append-nil (lines_of b)); fits = h })
run_made b (ws ∷ wss) c h e =
    let step = bind_some (λ (d : Begun). run d wss) (taken b ws) c e in
    let one : IsMade (lines_of b) ws step.0 = part_made b.counts b.answers b.nodes b.part ws step.0 h step.1 in
    let rest : AreMade (lines_of step.0) wss c = run_made step.0 wss c one.fits step.2 in
    record { lines = rest.lines ∙ ap (λ (l : List Line). l ++ wss) one.lines ∙ append_assoc (lines_of b) (ws ∷ []) wss; fits = rest.fits }
