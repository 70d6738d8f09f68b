-- What was read of a log so far, and what a further line makes of it.
use Rattle.std.specs.Prelude.{◌≡◌, ℕ, nat_lt, nat_eq, if◌then◌else◌, List, [], ◌∷◌, ◌++◌, length, codes, bytes_eq, Option, Some, None, option_map, option_and_then, Result, Ok, Err}
use Rattle.tighten.specs.declared.step.Step.{Step}
use Rattle.dual_bounds.specs.Vectors.{Multipliers}
use Rattle.scenario_changes.specs.declared.answer.Answer.{Answer}
use Rattle.certs.specs.declared.verdict.Verdict.{Verdict}
use Rattle.certs.specs.declared.tree.Node.{Node}
use Rattle.certs.specs.declared.tree.Node.TheVariants.{Rest, Leaf, Split}
use Rattle.tree_log.specs.LineWords.{below_of, behind, none_left, claim_of, heads_of, stay_of, steps_of, counted_vector, some_verdicts}
use Rattle.tree_log.specs.declared.file.LogFile.{LogFile}
use Rattle.tree_log.specs.declared.fault.Fault.{Fault}
use Rattle.tree_log.specs.declared.fault.Fault.TheVariants.{Spelling, Memory}
use Rattle.tree_log.specs.declared.draft.Counts.{Counts}
use Rattle.tree_log.specs.declared.draft.SplitPart.{SplitPart}
use Rattle.tree_log.specs.declared.draft.Part.{Part}
use Rattle.tree_log.specs.declared.draft.Part.TheVariants as part
use Rattle.tree_log.specs.declared.draft.Draft.{Draft}

-- the counts, the claims and the nodes that were read, and what the next line has to be
pub record Begun : Type 0 where
  pub counts : Counts
  pub answers : List Answer
  pub nodes : List Node
  pub part : Part

abbrev pub draft_of : Draft → Begun
draft_of d = record { counts = d.counts; answers = d.answers.items; nodes = d.tree.items; part = d.part }

abbrev pub nothing : Begun
nothing = record { counts = record { scenarios = 0; columns = 0; rows = 0; nodes = 0 }; answers = []; nodes = []; part = part.First }

abbrev pub Takes : Option Begun → Result Draft Fault → Type 0
Takes o (Ok d) = o ≡ Some (draft_of d)
Takes o (Err Spelling) = o ≡ None
Takes o (Err Memory) = Unit {0}

-- ---- the first two lines and the last

abbrev pub first_of : List (List ℕ) → Option (Unit {0})
first_of ws = option_and_then (λ vs. option_and_then none_left (behind (codes "1") vs)) (behind (codes "scenlog") ws)

abbrev pub last_of : List (List ℕ) → Option (Unit {0})
last_of ws = option_and_then none_left (behind (codes "end") ws)

abbrev pub counts_of : List ℕ → List ℕ → List ℕ → List ℕ → Option Counts
counts_of scenarios columns rows nodes =
    option_and_then (λ s. option_and_then (λ c. option_and_then (λ r. option_and_then (λ n. if nat_eq s 0 then None else if nat_eq n 0 then None else Some (record { scenarios = s; columns = c; rows = r; nodes = n })) (below_of 100002 nodes)) (below_of 1001 rows)) (below_of 1001 columns)) (below_of 65 scenarios)

abbrev pub four_of : List (List ℕ) → Option Counts
four_of (s ∷ c ∷ r ∷ n ∷ []) = counts_of s c r n
four_of _ = None

abbrev pub size_of : List (List ℕ) → Option Counts
size_of ws = option_and_then four_of (behind (codes "size") ws)

-- ---- a line more

abbrev pub node_begun : Counts → List Answer → List Node → List ℕ → List (List ℕ) → Option Begun
node_begun k answers nodes word ws =
    if bytes_eq word (codes "rest") then option_map (λ u. record { counts = k; answers = answers; nodes = nodes ++ Rest ∷ []; part = part.Between }) (none_left ws) else
    if bytes_eq word (codes "leaf") then option_map (λ u. record { counts = k; answers = answers; nodes = nodes; part = part.Steps None }) (none_left ws) else
    if bytes_eq word (codes "split") then option_map (λ h. record { counts = k; answers = answers; nodes = nodes; part = part.Stay h }) (heads_of k.columns k.nodes ws) else None

abbrev pub node_taken : Counts → List Answer → List Node → List (List ℕ) → Option Begun
node_taken k answers nodes [] = None
node_taken k answers nodes (word ∷ ws) = node_begun k answers nodes word ws

abbrev pub between_taken : Counts → List Answer → List Node → List (List ℕ) → Option Begun
between_taken k answers nodes ws =
    if nat_lt (length answers) k.scenarios then option_map (λ a. record { counts = k; answers = answers ++ a ∷ []; nodes = nodes; part = part.Between }) (claim_of k.columns ws) else
    if nat_lt (length nodes) k.nodes then node_taken k answers nodes ws else
    option_map (λ u. record { counts = k; answers = answers; nodes = nodes; part = part.Ended }) (last_of ws)

abbrev pub node_of : Option SplitPart → List Step → List Multipliers → List Verdict → Node
node_of None steps vectors verdicts = Leaf (record { steps = steps; vectors = vectors }) verdicts
node_of (Some s) steps vectors verdicts = Split (record { steps = steps; vectors = vectors }) verdicts s.stay s.head.child s.head.column s.head.value

abbrev pub vector_added : Counts → List Answer → List Node → Option SplitPart → List Step → List Multipliers → List (List ℕ) → Option Begun
vector_added k answers nodes split steps vectors ws =
    if nat_lt (length vectors) 2 then option_map (λ v. record { counts = k; answers = answers; nodes = nodes; part = part.Vectors split steps (vectors ++ v ∷ []) }) (counted_vector k.rows ws) else None

abbrev pub record_taken : Counts → List Answer → List Node → Option SplitPart → List Step → List Multipliers → List ℕ → List (List ℕ) → Option Begun
record_taken k answers nodes split steps vectors word ws =
    if bytes_eq word (codes "vector") then vector_added k answers nodes split steps vectors ws else
    if bytes_eq word (codes "verdicts") then option_map (λ vs. record { counts = k; answers = answers; nodes = nodes ++ node_of split steps vectors vs ∷ []; part = part.Between }) (some_verdicts k.scenarios k.rows ws) else None

abbrev pub vector_taken : Counts → List Answer → List Node → Option SplitPart → List Step → List Multipliers → List (List ℕ) → Option Begun
vector_taken k answers nodes split steps vectors [] = None
vector_taken k answers nodes split steps vectors (word ∷ ws) = record_taken k answers nodes split steps vectors word ws

abbrev pub part_taken : Counts → List Answer → List Node → Part → List (List ℕ) → Option Begun
part_taken k answers nodes part.First ws = option_map (λ u. record { counts = k; answers = answers; nodes = nodes; part = part.Counts }) (first_of ws)
part_taken k answers nodes part.Counts ws = option_map (λ n. record { counts = n; answers = answers; nodes = nodes; part = part.Between }) (size_of ws)
part_taken k answers nodes part.Between ws = between_taken k answers nodes ws
part_taken k answers nodes (part.Stay h) ws = option_map (λ stay. record { counts = k; answers = answers; nodes = nodes; part = part.Steps (Some (record { head = h; stay = stay })) }) (stay_of k.scenarios ws)
part_taken k answers nodes (part.Steps split) ws = option_map (λ steps. record { counts = k; answers = answers; nodes = nodes; part = part.Vectors split steps [] }) (steps_of k.columns k.rows ws)
part_taken k answers nodes (part.Vectors split steps vectors) ws = vector_taken k answers nodes split steps vectors ws
part_taken k answers nodes part.Ended ws = None

abbrev pub taken : Begun → List (List ℕ) → Option Begun
taken b ws = part_taken b.counts b.answers b.nodes b.part ws

-- ---- many lines

-- the words of several lines
abbrev pub run : Begun → List (List (List ℕ)) → Option Begun
run b [] = Some b
run b (ws ∷ wss) = option_and_then (λ c. run c wss) (taken b ws)

-- the log of a draft whose last line was read
abbrev pub ended : Begun → Part → Option LogFile
ended b part.Ended = Some (record { columns = b.counts.columns; rows = b.counts.rows; answers = b.answers; tree = b.nodes })
ended b _ = None

-- the log that was read, where its last line was and nothing stands behind it
abbrev pub finished : Begun → List ℕ → Option LogFile
finished b (x ∷ rest) = None
finished b [] = ended b b.part
