-- The log that a command leaves shows its answers.
use Rattle.std.proofs.Common.{◌≡◌, ◌∙◌, ap, sym, subst, refl, ℕ, suc, ◌+◌, ◌<◌, ◌≤◌, ◌^◌, List, [], ◌∷◌, length, map, Option, Some, None, option_map, ◌⊎◌, inl, inr, arith, Bool, true, false, cond}
use Rattle.std.specs.Prelude.{slice_get, bytes_eq, unwrap_or, IsTrue}
use Rattle.std.specs.FinMap as map
use Rattle.desk.specs.Desk.{View, Files, bytes_of}
use Rattle.desk.proofs.Puts.{get_insert-bytes_eq}
use Rattle.int_model.specs.Models.{IntegerModel}
use Rattle.scenario_changes.specs.Answers.{RightAnswer}
use Rattle.scenario_changes.specs.Changes.{Change}
use Rattle.scenario_changes.specs.Problems.{Problem, Scenarios, problem, program_at}
use Rattle.scenario_changes.specs.declared.answer.Answer.{Answer}
use Rattle.certs.specs.Trees.{Place, IsTree}
use Rattle.certs.specs.declared.tree.Node.{Node}
use Rattle.certs.proofs.TreeLaws.{slice_get-some}
use Rattle.std.proofs.lemmas.Option.{slice_get_within, get_or_from_slice_get}
use Rattle.tree_log.specs.HasText.{has_text}
use Rattle.tree_log.specs.LogText.{log_text}
use Rattle.tree_log.specs.Logs.{file_of}
use Rattle.tree_log.specs.declared.file.LogFile.{LogFile}
use Rattle.tree_log.proofs.LengthLaws.{log_short}
use Rattle.tree_log.proofs.WordLaws.{word_is, word_same}
use Rattle.tree_check.specs.Checks.{HasCounts, IsAccepted}
use Rattle.command_line.specs.Words.{Inputs, Order, solve, check, generate}
use Rattle.scenopt.specs.Files.{HasBytes, HasModel, HasChanges, HasProblem, HasLog, Shows}
use Rattle.scenopt.specs.Endings.{Tells, Lacks, Stops, StopsAtInput, Prints, refused}
use Rattle.scenopt.specs.Answered.{IsSolved, log_of, status_of}
use Rattle.scenopt.specs.Runs.{Reports, Solves, IsProof, Follows}
use Rattle.scenopt.specs.Complete.{IsApart, LeavesProof}
use Rattle.scenopt.proofs.CompleteLemmas.{AreAllInRange}
use Rattle.scenopt.specs.declared.input.Input.{Input}
use Rattle.scenopt.specs.declared.input.Input.TheVariants.{Model, Changes, Log}
use Rattle.scenopt.specs.declared.status.Status.{Status}
use Rattle.scenopt.specs.declared.status.Status.TheVariants as status

-- ---- files after one was written

bytes_after : (m : Files) (name text q : List ℕ) → bytes_of (map.insert m name text) q ≡ cond (bytes_eq q name) text (bytes_of m q)
bytes_after m name text q = ap (λ (o : Option (List ℕ)). unwrap_or o []) (get_insert-bytes_eq m name text q) ∙ by_test (bytes_eq q name)
  where
    by_test : (b : Bool) → unwrap_or (cond b (Some text) (map.get m q)) [] ≡ cond b text (bytes_of m q)
    by_test true = refl
    by_test false = refl

own_bytes : (m : Files) (name text : List ℕ) → bytes_of (map.insert m name text) name ≡ text
own_bytes m name text = bytes_after m name text name ∙ ap (λ (b : Bool). cond b text (bytes_of m name)) (word_same name)

other_bytes : (m : Files) (name text q : List ℕ) → (q ≡ name → ⊥) → bytes_of (map.insert m name text) q ≡ bytes_of m q
other_bytes m name text q other = bytes_after m name text q ∙ by_test (bytes_eq q name) refl
  where
    by_test : (b : Bool) → bytes_eq q name ≡ b → cond b text (bytes_of m q) ≡ bytes_of m q
    by_test true e = absurd (other (word_is q name e))
    by_test false e = refl

kept_bytes : (m : Files) (name text : List ℕ) (input : Input) (q bytes : List ℕ) → (q ≡ name → ⊥) → HasBytes (Some m) input q bytes → HasBytes (Some (map.insert m name text)) input q bytes
kept_bytes m name text input q bytes other h = record { told = h.told ∙ sym (other_bytes m name text q other); fits = h.fits }

kept_model : (m : Files) (name text q : List ℕ) (p : IntegerModel) → (q ≡ name → ⊥) → HasModel (Some m) q p → HasModel (Some (map.insert m name text)) q p
kept_model m name text q p other h = record { bytes = h.bytes; has = kept_bytes m name text Model q h.bytes other h.has; is = h.is }

kept_changes : (m : Files) (name text : List ℕ) (file : Option (List ℕ)) (p : IntegerModel) (c : List Change) → (file ≡ Some name → ⊥) → HasChanges (Some m) file p c → HasChanges (Some (map.insert m name text)) file p c
kept_changes m name text None p c other h = h
kept_changes m name text (Some q) p c other (bytes, has, more) = (bytes, kept_bytes m name text Changes q bytes (λ e. other (ap Some e)) has, more)

kept_problem : (m : Files) (name text : List ℕ) (inputs : Inputs) (p : Scenarios) → IsApart inputs name → HasProblem (Some m) inputs p → HasProblem (Some (map.insert m name text)) inputs p
kept_problem m name text inputs p apart h = record {
  model = kept_model m name text inputs.model p.model apart.model h.model;
  changes = kept_changes m name text inputs.changes p.model p.changes apart.changes h.changes;
}

-- ---- the log of a run

length_map : {X Y : Type 0} (f : X → Y) (xs : List X) → length (map f xs) ≡ length xs
length_map f [] = refl
length_map f (x ∷ xs) = ap suc (length_map f xs)

run_is_accepted : (p : Scenarios) (nodes : ℕ) (answers : List Answer) (tree : List Node) → nodes ≤ 100001 → IsSolved p nodes answers tree → IsAccepted (problem p) (file_of p answers tree) answers
run_is_accepted p nodes answers tree few is =
    let long : length tree ≡ length is.run.placed = ap length (sym is.run.nodes_are) ∙ length_map (λ (e : Node × Place). e.0) is.run.placed in
    let counts : HasCounts (problem p) (file_of p answers tree) = record { columns = refl; rows = refl; scenarios = is.run.count; some = omega (arith, long, is.run.tree.some); few = omega (arith, is.run.within, few) } in
    record {
      counts = counts;
      same = refl;
      accepted = is.run.accepted;
      right = λ k a e. (let s = slice_get-some (problem p).scenarios k (omega (arith, slice_get_within answers k a e, is.run.count)) in subst (λ z. RightAnswer z a) (sym (get_or_from_slice_get (problem p).scenarios k s.0 _ s.1)) ((is.run.claims k a e).right s.0 s.1));
    }

shows_log : (m : Files) (name : List ℕ) (p : Scenarios) (nodes : ℕ) (answers : List Answer) (tree : List Node) → nodes ≤ 100001 → IsSolved p nodes answers tree → IsTrue (has_text (file_of p answers tree)) → Shows (Some (map.insert m name (log_of p answers tree))) name p
shows_log m name p nodes answers tree few is text = record {
  file = file_of p answers tree;
  read = record {
    bytes = log_of p answers tree;
    has = record { told = sym (own_bytes m name (log_of p answers tree)); fits = log_short (file_of p answers tree) text };
    is = record { fits = text; text = refl };
  };
  accepted = run_is_accepted p nodes answers tree few is;
}

-- ---- a run that printed all

abbrev PrintedAll : Status → Type 0
PrintedAll r = (r ≡ status.Done) ⊎ (r ≡ status.Limit)

other_status : (r s : Status) → r ≡ s → (s ≡ status.Done → ⊥) → (s ≡ status.Limit → ⊥) → PrintedAll r → ⊥
other_status r s e not_done not_limit (inl done) = not_done (sym e ∙ done)
other_status r s e not_done not_limit (inr limit) = not_limit (sym e ∙ limit)

not_fault : (r : Status) → r ≡ status.WriteFault → PrintedAll r → ⊥
not_fault r e = other_status r status.WriteFault e (λ d. absurd (cc)) (λ d. absurd (cc))

not_memory : (r : Status) → r ≡ status.Memory → PrintedAll r → ⊥
not_memory r e = other_status r status.Memory e (λ d. absurd (cc)) (λ d. absurd (cc))

not_read : (r : Status) → r ≡ status.ReadFault → PrintedAll r → ⊥
not_read r e = other_status r status.ReadFault e (λ d. absurd (cc)) (λ d. absurd (cc))

not_refused : (r : Status) (input : Input) → r ≡ refused input → PrintedAll r → ⊥
not_refused r Model e = other_status r status.ModelRefused e (λ d. absurd (cc)) (λ d. absurd (cc))
not_refused r Changes e = other_status r status.ChangesRefused e (λ d. absurd (cc)) (λ d. absurd (cc))
not_refused r Log e = other_status r status.LogRefused e (λ d. absurd (cc)) (λ d. absurd (cc))

stopped_short : (input : Input) (file : Option (List ℕ)) (IsWhy : List ℕ → Type 0) (names : List (List ℕ)) (old new : View) (r : Status) → Stops input file IsWhy names old new r → PrintedAll r → ⊥
stopped_short input file IsWhy names old new r (inl (asked, inl (message, why, inl told))) = not_refused r input told.0
stopped_short input file IsWhy names old new r (inl (asked, inl (message, why, inr (inl failed)))) = not_fault r failed.0
stopped_short input file IsWhy names old new r (inl (asked, inl (message, why, inr (inr lost)))) = not_memory r lost.0
stopped_short input file IsWhy names old new r (inl (asked, inr misses)) = not_read r misses.status
stopped_short input file IsWhy names old new r (inr (lacks, asked)) = not_memory r lacks.status

solve_leaves : (inputs : Inputs) (nodes : ℕ) (file : Option (List ℕ)) (old new : View) (r : Status) → nodes ≤ 100001 → Solves inputs nodes file old new r → (m : Files) (log : List ℕ) → old.files ≡ Some m → file ≡ Some log → IsApart inputs log → PrintedAll r → IsProof new.files inputs log
solve_leaves inputs nodes None old new r few h m log e named apart all = absurd (cc)
solve_leaves inputs nodes (Some name) old new r few (inl ((input, stop), same)) m log e named apart all = absurd (stopped_short input _ _ _ old new r stop all)
solve_leaves inputs nodes (Some name) old new r few (inr (p, has, asked, inr lacks)) m log e named apart all = absurd (not_memory r lacks.lacks.status all)
solve_leaves inputs nodes (Some name) old new r few (inr (p, has, asked, inl (answers, tree, is, text, inr lost))) m log e named apart all = absurd (not_fault r lost.status all)
solve_leaves inputs nodes (Some name) old new r few (inr (p, has, asked, inl (answers, tree, is, text, inl (written, prints)))) m log e named apart all =
    let same : name ≡ log = cc in
    let files : new.files ≡ Some (map.insert m log (log_of p answers tree)) = written ∙ (ap (option_map (λ t. map.insert t name (log_of p answers tree))) e ∙ ap (λ (n : List ℕ). Some (map.insert m n (log_of p answers tree))) same) in
    let own : HasProblem (Some m) inputs p = subst (λ (f : Option Files). HasProblem f inputs p) e has in
    subst (λ (f : Option Files). IsProof f inputs log) (sym files) (record {
      of = p;
      posed = kept_problem m log (log_of p answers tree) inputs p apart own;
      shown = shows_log m log p nodes answers tree few is text;
    })

pub leaves_proof : (o : Option Order) (old new : View) (r : Status) → AreAllInRange o → Follows o old new r → LeavesProof o old new r
leaves_proof None old new r few h = tt
leaves_proof (Some (solve inputs options)) old new r few h = λ m log e named apart all. solve_leaves inputs options.nodes options.log old new r few.3 h m log e named apart all
leaves_proof (Some (check inputs log)) old new r few h = tt
leaves_proof (Some (generate seed columns rows scenarios)) old new r few h = tt
