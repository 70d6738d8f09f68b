-- How a command's outcome follows from those of its steps.
use Rattle.std.proofs.Common.{◌≡◌, ◌∙◌, ap, sym, subst, ℕ, List, [], ◌∷◌, Option, Some, None, ◌⊎◌, ◌≤◌, inl, inr, All, arith, length, take, option_map}
use Rattle.std.specs.FinMap as map
use Rattle.desk.specs.Causes.{Rose}
use Rattle.desk.specs.Desk.{View, Files}
use Rattle.scenario_changes.specs.Problems.{Scenarios}
use Rattle.scenario_changes.specs.declared.answer.Answer.{Answer}
use Rattle.certs.specs.declared.tree.Node.{Node}
use Rattle.scenario_changes.specs.declared.answer.Answer.TheVariants.{Infeasible, Optimal, Limit}
use Rattle.scen_report.specs.Reports.{Fits, report_text}
use Rattle.tree_log.specs.Laws.{BoundFits, IsReadable}
use Rattle.std.proofs.lemmas.Option.{slice_get_within, get_or_from_slice_get}
use Rattle.tree_log.specs.Logs.{file_of}
use Rattle.command_line.specs.Words.{Inputs, Order, command_of}
use Rattle.scenopt.specs.Messages.{unwritable_log, accepted}
use Rattle.scenopt.specs.Files.{HasProblem, Shows, names_of, names_to}
use Rattle.scenopt.specs.Endings.{AddsNames, WritesFront, Tries, Prints, Stays, Fetches, OnlyWarns}
use Rattle.scenopt.specs.Answered.{IsSolved, log_of, status_of}
use Rattle.scenopt.specs.Runs.{IsUntouched, Keeps, LacksAll, LosesLog, IsLoggable, IsReadableIf, IsTold, Reports, Solves, IsProof, Checks, Follows, Runs}
use Rattle.scenopt.specs.Complete.{IsComplete, Completes, LeavesProof, Proves}
use Rattle.scenopt.proofs.CompleteLemmas.{AreAllInRange, completes}
use Rattle.scenopt.proofs.LogLemmas.{leaves_proof}
use Rattle.scenopt.specs.declared.input.Input.TheVariants.{Changes, Log}
use Rattle.scenopt.specs.declared.status.Status.{Status}
use Rattle.scenopt.specs.declared.status.Status.TheVariants as status
use Rattle.scenopt.proofs.RunLemmas.{names_kept, rose_since, tries_since, lacks_since, prints_since, writes_since, front_written_since, fetches_after, stays_after}

-- ---- a report

-- without a log
pub told_alone : (p : Scenarios) (answers : List Answer) (tree : List Node) (old new : View) (r : Status) → Prints (status_of answers) (report_text p answers) old new r → new.files ≡ old.files → IsTold p answers tree None old new r
told_alone p answers tree old new r prints files = inl (tt, inl (files, prints))

-- with a log that was written before
pub told_after : (p : Scenarios) (name : List ℕ) (answers : List Answer) (tree : List Node) (old mid new : View) (r : Status) → IsReadable p answers tree × Keeps name (log_of p answers tree) old mid → Prints (status_of answers) (report_text p answers) mid new r → new.files ≡ mid.files → IsTold p answers tree (Some name) old new r
told_after p name answers tree old mid new r (readable, keeps) prints files =
    inl (readable, inl (files ∙ keeps.written, prints_since (status_of answers) (report_text p answers) old mid new r keeps.printed keeps.warned keeps.faults prints))

-- with a log that could not be written
pub log_lost : (p : Scenarios) (name : List ℕ) (answers : List Answer) (tree : List Node) (old new : View) (r : Status) → (IsReadable p answers tree × LosesLog (Some name) (log_of p answers tree) old new r) ⊎ LacksAll old new r → IsTold p answers tree (Some name) old new r
log_lost p name answers tree old new r (inl (readable, lost)) = inl (readable, inr lost)
log_lost p name answers tree old new r (inr lacks) = inr lacks

-- a put that failed, and what was said of it
pub log_is_lost : (name bytes log : List ℕ) (old mid new : View) (r : Status) → bytes ≡ log → (mid.files ≡ old.files) ⊎ ((n : ℕ) × (mid.files ≡ option_map (λ m. map.insert m name (take n bytes)) old.files)) → mid.printed ≡ old.printed → mid.warned ≡ old.warned → (old.write_faults ≤ mid.write_faults) × Rose old.write_faults mid.write_faults → r ≡ status.WriteFault → Tries unwritable_log mid new → OnlyWarns mid new → LosesLog (Some name) log old new r
log_is_lost name bytes log old mid new r e files printed warned cause is tries only =
    let front : WritesFront (Some name) log old mid = subst (λ (b : List ℕ). WritesFront (Some name) b old mid) e files in
    record {
      status = is;
      rose = omega (arith, cause.1, only.write_faults);
      written = front_written_to name log old mid new only.files front;
      printed = only.printed ∙ printed;
      warned = tries_since unwritable_log old mid new warned cause.0 tries;
    }
  where
    front_written_to : (n t : List ℕ) (a b d : View) → d.files ≡ b.files → WritesFront (Some n) t a b → WritesFront (Some n) t a d
    front_written_to n t a b d q (inl same) = inl (q ∙ same)
    front_written_to n t a b d q (inr (k, h)) = inr (k, q ∙ h)

pub for_log : (p : Scenarios) (answers : List Answer) (tree : List Node) (log : Option (List ℕ)) (named : Option (List ℕ)) (old new : View) (r : Status) → log ≡ named → IsTold p answers tree named old new r → IsTold p answers tree log old new r
for_log p answers tree log named old new r e h = subst (λ (l : Option (List ℕ)). IsTold p answers tree l old new r) (sym e) h

-- ---- the log of a run can be read again

bound_fits : (columns : ℕ) (a : Answer) → Fits columns a → BoundFits a
bound_fits columns Infeasible f = tt
bound_fits columns (Optimal x v) f = tt
bound_fits columns (Limit best b) f = f.bound

run_is_loggable : (p : Scenarios) (nodes : ℕ) (answers : List Answer) (tree : List Node) (log : Option (List ℕ)) → nodes ≤ 100001 → IsSolved p nodes answers tree → All (Fits (length p.model.columns)) answers → IsReadableIf log p answers tree → IsLoggable log (file_of p answers tree)
run_is_loggable p nodes answers tree None few is fits readable = tt
run_is_loggable p nodes answers tree (Some name) few is fits readable =
    readable is.run.accepted (λ k a e. bound_fits (length p.model.columns) a (subst (Fits (length p.model.columns)) (get_or_from_slice_get answers k a a e) (fits k a (slice_get_within answers k a e)))) (omega (arith, few, is.run.within))

-- what a run ended with was told
pub reported : (p : Scenarios) (nodes : ℕ) (answers : List Answer) (tree : List Node) (log : Option (List ℕ)) (old new : View) (r : Status) → nodes ≤ 100001 → IsSolved p nodes answers tree → All (Fits (length p.model.columns)) answers → IsTold p answers tree log old new r → Reports p nodes log old new r
reported p nodes answers tree log old new r few is fits (inl (readable, delivered)) = inl (answers, tree, is, run_is_loggable p nodes answers tree log few is fits readable, delivered)
reported p nodes answers tree log old new r few is fits (inr lacks) = inr lacks

-- ---- since an earlier moment

loses_since : (file : Option (List ℕ)) (log : List ℕ) (old mid new : View) (r : Status) → Stays old mid → mid.warned ≡ old.warned → LosesLog file log mid new r → LosesLog file log old new r
loses_since file log old mid new r s w h = record {
  status = h.status;
  rose = rose_since old.write_faults mid.write_faults new.write_faults s.write_faults h.rose;
  written = front_written_since file log old mid new s.files h.written;
  printed = h.printed ∙ s.printed;
  warned = tries_since unwritable_log old mid new w s.write_faults h.warned;
}

lacks_all_since : (old mid new : View) (r : Status) → Stays old mid → mid.warned ≡ old.warned → LacksAll mid new r → LacksAll old new r
lacks_all_since old mid new r s w h = record {
  lacks = lacks_since old mid new r w s.write_faults h.lacks;
  untouched = record { files = h.untouched.files ∙ s.files; printed = h.untouched.printed ∙ s.printed };
}

reports_since : (p : Scenarios) (nodes : ℕ) (log : Option (List ℕ)) (old mid new : View) (r : Status) → Stays old mid → mid.warned ≡ old.warned → Reports p nodes log mid new r → Reports p nodes log old new r
reports_since p nodes log old mid new r s w (inr lacks) = inr (lacks_all_since old mid new r s w lacks)
reports_since p nodes log old mid new r s w (inl (answers, tree, is, text, inl (written, prints))) =
    inl (answers, tree, is, text, inl (writes_since log (log_of p answers tree) old mid new s.files written, prints_since (status_of answers) (report_text p answers) old mid new r s.printed w s.write_faults prints))
reports_since p nodes log old mid new r s w (inl (answers, tree, is, text, inr lost)) =
    inl (answers, tree, is, text, inr (loses_since log (log_of p answers tree) old mid new r s w lost))

-- ---- the commands

pub untouched_by : (old new : View) → Stays old new → IsUntouched old new
untouched_by old new s = record { files = s.files; printed = s.printed }

-- a problem that was read is reported on
pub solved_by : (inputs : Inputs) (nodes : ℕ) (log : Option (List ℕ)) (p : Scenarios) (old mid new : View) (r : Status) → HasProblem old.files inputs p → Fetches (names_to inputs None Changes) old mid → Stays old mid → Reports p nodes log mid new r → new.fetched ≡ mid.fetched → Solves inputs nodes log old new r
solved_by inputs nodes log p old mid new r has f s told same =
    inr (p, has, names_kept old mid new (names_to inputs None Changes) f.asked same, reports_since p nodes log old mid new r s f.warned told)

-- a log that was read and checked is accepted
pub accepted_by : (inputs : Inputs) (log : List ℕ) (p : Scenarios) (old mid next new : View) (r : Status) → HasProblem old.files inputs p → Fetches (names_to inputs None Changes) old mid → Stays old mid → Shows mid.files log p → Fetches (log ∷ []) mid next → Stays mid next → Prints status.Done accepted next new r → new.files ≡ next.files → new.fetched ≡ next.fetched → Checks inputs log old new r
accepted_by inputs log p old mid next new r has f s shows g t prints files same =
    let both : Fetches (names_to inputs (Some log) Log) old next = fetches_after (inputs.model ∷ names_of inputs.changes) (log ∷ []) old mid next f g in
    let stays : Stays old next = stays_after old mid next s t in
    inr (
      record { of = p; posed = has; shown = subst (λ (files : Option Files). Shows files log p) s.files shows },
      names_kept old next new (names_to inputs (Some log) Log) both.asked same,
      files ∙ stays.files,
      prints_since status.Done accepted old next new r stays.printed both.warned stays.write_faults prints,
    )

-- ---- the program

-- what follows from the command that the words are
pub runs_as : (words : List (List ℕ)) (o : Option Order) (old new : View) (r : Status) → command_of words ≡ o → Follows o old new r → Runs words old new r
runs_as words o old new r e h = subst (λ (k : Option Order). Follows k old new r) (sym e) h

pub completes_as : (words : List (List ℕ)) (o : Option Order) (old new : View) (r : Status) → command_of words ≡ o → AreAllInRange o → Follows o old new r → Completes words old new r
completes_as words o old new r e range h = subst (λ (k : Option Order). IsComplete k old new r) (sym e) (completes o old new r range h)

pub proves_as : (words : List (List ℕ)) (o : Option Order) (old new : View) (r : Status) → command_of words ≡ o → AreAllInRange o → Follows o old new r → Proves words old new r
proves_as words o old new r e range h = subst (λ (k : Option Order). LeavesProof k old new r) (sym e) (leaves_proof o old new r range h)
