-- The lines that made a draft are the lines of the log that it begins.
use Rattle.std.proofs.Common.{◌≡◌, ◌∙◌, ap, sym, refl, subst, ℕ, suc, ◌<◌, ◌≤◌, ℤ, Bool, true, nat_lt, nat_eq, List, [], ◌∷◌, ◌++◌, length, map, Option, Some, None, arith, ◌⊎◌, append_assoc, length-append}
use Rattle.std.specs.Prelude.{option_and_then, decimal, codes, flat_map}
use Rattle.std.specs.List.{list_all}
use Rattle.std.proofs.lemmas.List.{append-nil, map-append}
use Rattle.std.proofs.lemmas.Grind.{flat_map-append}
use Rattle.num_text.specs.NumberText.{integer_text}
use Rattle.tighten.specs.declared.step.Step.{Step}
use Rattle.dual_bounds.specs.Vectors.{Multipliers}
use Rattle.scenario_changes.specs.declared.answer.Answer.{Answer}
use Rattle.certs.specs.declared.cert.Cert.{Cert}
use Rattle.certs.specs.declared.verdict.Verdict.{Verdict}
use Rattle.certs.specs.declared.tree.Node.{Node}
use Rattle.certs.specs.declared.tree.Node.TheVariants.{Rest, Leaf, Split}
use Rattle.tree_log.specs.LogText.{claim_words, step_words, verdict_word}
use Rattle.tree_log.specs.HasText.{is_within, answer_has_text, step_has_text, vector_has_text, stay_has_text, node_has_text}
use Rattle.tree_log.specs.LineWords as line
use Rattle.tree_log.specs.declared.node_lines.SplitHead.{SplitHead}
use Rattle.tree_log.specs.declared.draft.Counts.{Counts}
use Rattle.tree_log.specs.declared.draft.SplitPart.{SplitPart}
use Rattle.tree_log.specs.declared.draft.Part.{Part}
use Rattle.tree_log.specs.declared.draft.Part.TheVariants as part
use Rattle.tree_log.specs.Drafts.{Begun, first_of, last_of, counts_of, four_of, size_of}
use Rattle.tree_log.proofs.WordLaws.{bind_some, some_same, dropped, both, all, positive, behind_some, none_left-some, below_of-only}
use Rattle.tree_log.proofs.LineLaws.{two_words}
use Rattle.tree_log.proofs.CertLineLaws.{vector_words}

-- ---- lines as words

abbrev pub Line : Type 0
Line = List (List ℕ)

abbrev pub first_words : Line
first_words = codes "scenlog" ∷ codes "1" ∷ []

abbrev pub size_words : Counts → Line
size_words k = codes "size" ∷ decimal k.scenarios ∷ decimal k.columns ∷ decimal k.rows ∷ decimal k.nodes ∷ []

abbrev pub claim_line_words : Answer → Line
claim_line_words a = codes "claim" ∷ claim_words a

abbrev pub steps_words : List Step → Line
steps_words steps = codes "steps" ∷ decimal (length steps) ∷ flat_map step_words steps

abbrev pub verdicts_words : List Verdict → Line
verdicts_words verdicts = codes "verdicts" ∷ map verdict_word verdicts

abbrev pub head_words : ℕ → ℕ → ℤ → Line
head_words child column v = codes "split" ∷ decimal child ∷ decimal column ∷ integer_text v ∷ []

abbrev pub stay_words : List ℕ → Line
stay_words stay = codes "stay" ∷ map decimal stay

abbrev pub cert_words : Cert → List Verdict → List Line
cert_words cert verdicts = steps_words cert.steps ∷ (map vector_words cert.vectors ++ verdicts_words verdicts ∷ [])

abbrev pub node_words : Node → List Line
node_words Rest = (codes "rest" ∷ []) ∷ []
node_words (Leaf cert verdicts) = (codes "leaf" ∷ []) ∷ cert_words cert verdicts
node_words (Split cert verdicts stay child column v) = head_words child column v ∷ stay_words stay ∷ cert_words cert verdicts

abbrev pub last_words : Line
last_words = codes "end" ∷ []

abbrev pub body_words : List Answer → List Node → List Line
body_words answers nodes = map claim_line_words answers ++ flat_map node_words nodes

abbrev pub front_words : Counts → List Answer → List Node → List Line
front_words k answers nodes = first_words ∷ size_words k ∷ body_words answers nodes

-- the lines of a node before its steps
abbrev pub opened : Option SplitPart → List Line
opened None = (codes "leaf" ∷ []) ∷ []
opened (Some s) = head_words s.head.child s.head.column s.head.value ∷ stay_words s.stay ∷ []

-- the lines that made a draft
abbrev pub lines_at : Counts → List Answer → List Node → Part → List Line
lines_at k answers nodes part.First = []
lines_at k answers nodes part.Counts = first_words ∷ []
lines_at k answers nodes part.Between = front_words k answers nodes
lines_at k answers nodes (part.Stay h) = front_words k answers nodes ++ head_words h.child h.column h.value ∷ []
lines_at k answers nodes (part.Steps split) = front_words k answers nodes ++ opened split
lines_at k answers nodes (part.Vectors split steps vectors) = front_words k answers nodes ++ (opened split ++ steps_words steps ∷ map vector_words vectors)
lines_at k answers nodes part.Ended = front_words k answers nodes ++ last_words ∷ []

abbrev pub lines_of : Begun → List Line
lines_of b = lines_at b.counts b.answers b.nodes b.part

-- ---- drafts that can be made

pub record AreCounts (k : Counts) : Type 0 where
  pub scenarios : 0 < k.scenarios
  pub few_scenarios : k.scenarios ≤ 64
  pub columns : k.columns ≤ 1000
  pub rows : k.rows ≤ 1000
  pub nodes : 0 < k.nodes
  pub few_nodes : k.nodes ≤ 100001

pub record IsBody (k : Counts) (answers : List Answer) (nodes : List Node) : Type 0 where
  pub counts : AreCounts k
  pub claims : list_all (answer_has_text k.columns) answers ≡ true
  pub tree : list_all (node_has_text k.scenarios k.columns k.rows k.nodes) nodes ≡ true
  pub few_claims : length answers ≤ k.scenarios
  pub few_nodes : length nodes ≤ k.nodes
  pub order : (length answers ≡ k.scenarios) ⊎ (nodes ≡ [])

-- all claims are there, and a node is still to come
pub record IsOpen (k : Counts) (answers : List Answer) (nodes : List Node) : Type 0 where
  pub body : IsBody k answers nodes
  pub claims : length answers ≡ k.scenarios
  pub room : length nodes < k.nodes

pub record IsHead (k : Counts) (h : SplitHead) : Type 0 where
  pub some : nat_lt 0 h.child ≡ true
  pub below : nat_lt (suc h.child) k.nodes ≡ true
  pub column : nat_lt h.column k.columns ≡ true
  pub value : is_within 1000000 h.value ≡ true

abbrev pub IsSplit : Counts → Option SplitPart → Type 0
IsSplit k None = Unit {0}
IsSplit k (Some s) = IsHead k s.head × (stay_has_text k.scenarios s.stay ≡ true)

pub record IsRecord (k : Counts) (s : Option SplitPart) (ts : List Step) (vs : List Multipliers) : Type 0 where
  pub split : IsSplit k s
  pub few_steps : length ts ≤ 128
  pub steps : list_all (step_has_text k.columns k.rows) ts ≡ true
  pub few_vectors : length vs ≤ 2
  pub vectors : list_all (vector_has_text k.rows) vs ≡ true

abbrev pub Fits : Counts → List Answer → List Node → Part → Type 0
Fits k answers nodes part.First = (answers ≡ []) × (nodes ≡ [])
Fits k answers nodes part.Counts = (answers ≡ []) × (nodes ≡ [])
Fits k answers nodes part.Between = IsBody k answers nodes
Fits k answers nodes (part.Stay h) = IsOpen k answers nodes × IsHead k h
Fits k answers nodes (part.Steps split) = IsOpen k answers nodes × IsSplit k split
Fits k answers nodes (part.Vectors split steps vectors) = IsOpen k answers nodes × IsRecord k split steps vectors
Fits k answers nodes part.Ended = IsBody k answers nodes × (length answers ≡ k.scenarios) × (length nodes ≡ k.nodes)

-- one line more made this draft
pub record IsMade (before : List Line) (ws : Line) (c : Begun) : Type 0 where
  pub lines : lines_of c ≡ before ++ ws ∷ []
  pub fits : Fits c.counts c.answers c.nodes c.part

-- ---- the first two lines

pub first_read : (ws : Line) (u : Unit {0}) → first_of ws ≡ Some u → ws ≡ first_words
first_read ws u e =
    let one = bind_some (λ (vs : Line). option_and_then line.none_left (line.behind (codes "1") vs)) (line.behind (codes "scenlog") ws) u e in
    let two = bind_some line.none_left (line.behind (codes "1") one.0) u one.2 in
    behind_some (codes "scenlog") ws one.0 one.1 ∙ ap (λ (l : Line). codes "scenlog" ∷ l) (behind_some (codes "1") one.0 two.0 two.1 ∙ ap (λ (l : Line). codes "1" ∷ l) (none_left-some two.0 u two.2))

pub last_read : (ws : Line) (u : Unit {0}) → last_of ws ≡ Some u → ws ≡ last_words
last_read ws u e =
    let one = bind_some line.none_left (line.behind (codes "end") ws) u e in
    behind_some (codes "end") ws one.0 one.1 ∙ ap (λ (l : Line). codes "end" ∷ l) (none_left-some one.0 u one.2)

record CountsRead (ws : Line) (k : Counts) : Type 0 where
  words : codes "size" ∷ ws ≡ size_words k
  fit : AreCounts k

counts_read : (a b c d : List ℕ) (k : Counts) → counts_of a b c d ≡ Some k → CountsRead (a ∷ b ∷ c ∷ d ∷ []) k
counts_read a b c d k e =
    let one = bind_some _ (line.below_of 65 a) k e in
    let two = bind_some _ (line.below_of 1001 b) k one.2 in
    let three = bind_some _ (line.below_of 1001 c) k two.2 in
    let four = bind_some _ (line.below_of 100002 d) k three.2 in
    let five = dropped (nat_eq one.0 0) _ k four.2 in
    let six = dropped (nat_eq four.0 0) (Some (record { scenarios = one.0; columns = two.0; rows = three.0; nodes = four.0 })) k five.1 in
    let s = below_of-only 65 one.0 a (omega arith) one.1 in
    let m = below_of-only 1001 two.0 b (omega arith) two.1 in
    let r = below_of-only 1001 three.0 c (omega arith) three.1 in
    let n = below_of-only 100002 four.0 d (omega arith) four.1 in
    subst (CountsRead (a ∷ b ∷ c ∷ d ∷ [])) (some_same (record { scenarios = one.0; columns = two.0; rows = three.0; nodes = four.0 }) k six.1)
    (record {
      words = ap (λ (l : Line). codes "size" ∷ l) (two_words a (decimal one.0) _ _ s.1 (two_words b (decimal two.0) _ _ m.1 (two_words c (decimal three.0) _ _ r.1 (two_words d (decimal four.0) [] [] n.1 refl))));
      fit = record { scenarios = positive one.0 five.0; few_scenarios = omega (arith, s.0); columns = omega (arith, m.0); rows = omega (arith, r.0); nodes = positive four.0 six.0; few_nodes = omega (arith, n.0) };
    })

four_read : (ws : Line) (k : Counts) → four_of ws ≡ Some k → CountsRead ws k
four_read [] k e = absurd (cc)
four_read (a ∷ []) k e = absurd (cc)
four_read (a ∷ b ∷ []) k e = absurd (cc)
four_read (a ∷ b ∷ c ∷ []) k e = absurd (cc)
four_read (a ∷ b ∷ c ∷ d ∷ []) k e = counts_read a b c d k e
four_read (a ∷ b ∷ c ∷ d ∷ f ∷ ws) k e = absurd (cc)

pub size_read : (ws : Line) (k : Counts) → size_of ws ≡ Some k → (ws ≡ size_words k) × AreCounts k
size_read ws k e =
    let one = bind_some four_of (line.behind (codes "size") ws) k e in
    let read : CountsRead one.0 k = four_read one.0 k one.2 in
    (behind_some (codes "size") ws one.0 one.1 ∙ read.words, read.fit)

-- ---- lists that grow

pub more_holds : {X : Type 0} (p : X → Bool) (xs : List X) (x : X) → list_all p xs ≡ true → p x ≡ true → list_all p (xs ++ x ∷ []) ≡ true
more_holds p [] x h k = all (p x) true k refl
more_holds p (y ∷ xs) x h k =
    let parts = both (p y) (list_all p xs) h in
    all (p y) (list_all p (xs ++ x ∷ [])) parts.0 (more_holds p xs x parts.1 k)

pub length_more : {X : Type 0} (xs : List X) (x : X) → length (xs ++ x ∷ []) ≡ suc (length xs)
length_more xs x = length-append xs (x ∷ []) ∙ omega arith

pub front_node : (k : Counts) (answers : List Answer) (nodes : List Node) (n : Node) → front_words k answers (nodes ++ n ∷ []) ≡ front_words k answers nodes ++ node_words n
front_node k answers nodes n =
    ap (λ (l : List Line). first_words ∷ size_words k ∷ (map claim_line_words answers ++ l)) (flat_map-append node_words nodes (n ∷ []) ∙ ap (λ (l : List Line). flat_map node_words nodes ++ l) (append-nil (node_words n)))
    ∙ ap (λ (l : List Line). first_words ∷ size_words k ∷ l) (sym (append_assoc (map claim_line_words answers) (flat_map node_words nodes) (node_words n)))

pub front_claim : (k : Counts) (answers : List Answer) (a : Answer) → front_words k (answers ++ a ∷ []) [] ≡ front_words k answers [] ++ claim_line_words a ∷ []
front_claim k answers a =
    ap (λ (l : List Line). first_words ∷ size_words k ∷ l) (append-nil (map claim_line_words (answers ++ a ∷ [])) ∙ map-append claim_line_words answers (a ∷ []) ∙ ap (λ (l : List Line). l ++ claim_line_words a ∷ []) (sym (append-nil (map claim_line_words answers))))
