-- Where nothing is in the way of an answer, it comes.
use Rattle.std.proofs.Common.{◌≡◌, ◌∙◌, ap, sym, subst, refl, ℕ, suc, ◌+◌, ◌<◌, ◌≤◌, ◌*◌, List, [], ◌∷◌, length, take, Option, Some, None, Result, Ok, Err, ◌⊎◌, inl, inr, arith, Bool, true, false, cond, ◌||◌}
use Rattle.std.specs.Prelude.{slice_get}
use Rattle.std.proofs.lemmas.List.{length-take-le}
use Rattle.std.specs.List.{list_any}
use Rattle.desk.specs.Desk.{View, Files, bytes_of}
use Rattle.int_model.specs.Boxes.{volume}
use Rattle.int_model.specs.Models.{IntegerModel}
use Rattle.mps_reader.specs.MpsModels.{model_of}
use Rattle.scenario_changes.specs.Changes.{Change}
use Rattle.scenario_changes.specs.Problems.{Problem, Scenarios, problem, root_box}
use Rattle.scenario_changes.specs.declared.answer.Answer.{Answer}
use Rattle.scenario_changes.specs.declared.answer.Answer.TheVariants as answer
use Rattle.certs.specs.declared.tree.Node.{Node}
use Rattle.changes_reader.specs.ChangesText.{changes_of}
use Rattle.alone_run.specs.Runs.{IsLimit}
use Rattle.made_problems.specs.Made.{IsMade}
use Rattle.made_problems.specs.Laws.{IsAccepted as AreAccepted}
use Rattle.made_problems.proofs.Acceptance.{both_accepted}
use Rattle.tree_log.specs.LogText.{log_text}
use Rattle.tree_log.specs.Logs.{IsLogOf, whole_lines}
use Rattle.tree_log.specs.Readings.{IsReading}
use Rattle.tree_log.specs.declared.file.LogFile.{LogFile}
use Rattle.tree_log.specs.declared.fault.LogKind.{LogKind}
use Rattle.tree_log.specs.declared.fault.LogKind.TheVariants.{Spelling, NoEnd}
use Rattle.tree_log.specs.declared.fault.LogError.TheVariants.{Line}
use Rattle.tree_check.specs.Checks.{IsAccepted}
use Rattle.tree_check.specs.declared.checking.CheckError.{CheckError}
use Rattle.tree_log.proofs.RoundTrip.{text_tells}
use Rattle.tree_check.proofs.RefusalLemmas.{refused_not_accepted}
use Rattle.command_line.specs.Orders.{AreInRange}
use Rattle.command_line.specs.Words.{Inputs, Order, solve, check, generate}
use Rattle.scenopt.specs.Messages.{check_text, accepted}
use Rattle.scenopt.specs.Files.{limit, HasBytes, IsTooLong, HasModel, HasChanges, HasProblem, Shows}
use Rattle.scenopt.specs.Endings.{IsModelRefusal, IsChangesRefusal, IsLogRefusal, IsNoProof, Stops, StopsAtInput, Prints}
use Rattle.scenopt.specs.Answered.{IsSolved, is_limit, status_of, most_nodes}
use Rattle.scenopt.specs.Runs.{Reports, Solves, Checks, Sums, Generates, IsProof, Follows}
use Rattle.scenopt.specs.Complete.{HasNoFault, Succeeds, Decides, IsComplete}
use Rattle.scenopt.specs.declared.input.Input.{Input}
use Rattle.scenopt.specs.declared.input.Input.TheVariants.{Model, Changes, Log}
use Rattle.scenopt.specs.declared.status.Status.{Status}
use Rattle.scenopt.specs.declared.status.Status.TheVariants as status

-- ---- files that are told mean one thing

same_bytes : (files : Option Files) (m : Files) (input : Input) (name a b : List ℕ) → files ≡ Some m → HasBytes files input name a → HasBytes files input name b → a ≡ b
same_bytes None m input name a b e h g = absurd (cc)
same_bytes (Some t) m input name a b e h g = h.told ∙ sym g.told

not_too_long : (files : Option Files) (m : Files) (input : Input) (name bytes : List ℕ) → files ≡ Some m → HasBytes files input name bytes → IsTooLong files input name → ⊥
not_too_long None m input name bytes e h g = absurd (cc)
not_too_long (Some t) m input name bytes e h g = let same : length bytes ≡ length (bytes_of t name) = ap length h.told in absurd (omega (arith, same, h.fits, g))

ok_same : {T E : Type 0} (r : Result T E) (a b : T) → r ≡ Ok a → r ≡ Ok b → a ≡ b
ok_same r a b e g = let both : ◌≡◌ {A = Result _ _} (Ok a) (Ok b) = sym e ∙ g in cc

ok_not_err : {T E : Type 0} (r : Result T E) (a : T) (e : E) → r ≡ Ok a → r ≡ Err e → ⊥
ok_not_err r a e h g = absurd (let both : ◌≡◌ {A = Result _ _} (Ok a) (Err e) = sym h ∙ g in cc)

same_model : (files : Option Files) (m : Files) (name : List ℕ) (a b : IntegerModel) → files ≡ Some m → HasModel files name a → HasModel files name b → a ≡ b
same_model files m name a b e h g =
    let bytes : h.bytes ≡ g.bytes = same_bytes files m Model name h.bytes g.bytes e h.has g.has in
    ok_same (model_of g.bytes) a b (sym (ap model_of bytes) ∙ h.is) g.is

same_changes : (files : Option Files) (m : Files) (name : Option (List ℕ)) (p : IntegerModel) (a b : List Change) → files ≡ Some m → HasChanges files name p a → HasChanges files name p b → a ≡ b
same_changes files m None p a b e h g = h ∙ sym g
same_changes files m (Some name) p a b e (x, hx, (s, rs, is)) (y, hy, (t, rt, it)) =
    let bytes : x ≡ y = same_bytes files m Changes name x y e hx hy in
    let sets : s ≡ t = ok_same (changes_of p y) s t (sym (ap (changes_of p) bytes) ∙ rs) rt in
    is ∙ (ap (λ z. z.scenarios) sets ∙ sym it)

-- two problems are one where their models and changes are
same_parts : (p q : Scenarios) → p.model ≡ q.model → p.changes ≡ q.changes → p ≡ q
same_parts p q e g = ap (λ (m : IntegerModel). with_changes m p.changes) e ∙ ap (with_changes q.model) g
  where
    with_changes : IntegerModel → List Change → Scenarios
    with_changes m c = record { model = m; changes = c }

same_problem : (files : Option Files) (m : Files) (inputs : Inputs) (p q : Scenarios) → files ≡ Some m → HasProblem files inputs p → HasProblem files inputs q → p ≡ q
same_problem files m inputs p q e h g =
    let model : p.model ≡ q.model = same_model files m inputs.model p.model q.model e h.model g.model in
    same_parts p q model (same_changes files m inputs.changes q.model p.changes q.changes e (subst (λ (x : IntegerModel). HasChanges files inputs.changes x p.changes) model h.changes) g.changes)

-- ---- nothing is refused

model_passes : (files : Option Files) (m : Files) (name : List ℕ) (p : IntegerModel) (message : List ℕ) → files ≡ Some m → HasModel files name p → IsModelRefusal files name message → ⊥
model_passes files m name p message e h (inl long) = not_too_long files m Model name h.bytes e h.has long.0
model_passes files m name p message e h (inr (bytes, has, (line, kind, reading, is))) =
    let same : h.bytes ≡ bytes = same_bytes files m Model name h.bytes bytes e h.has has in
    ok_not_err (model_of bytes) p (line, kind) (sym (ap model_of same) ∙ h.is) reading

changes_pass : (files : Option Files) (m : Files) (name : Option (List ℕ)) (p : IntegerModel) (c : List Change) (message : List ℕ) → files ≡ Some m → HasChanges files name p c → IsChangesRefusal files name p message → ⊥
changes_pass files m None p c message e h why = absurd why
changes_pass files m (Some name) p c message e (x, hx, (s, rs, is)) (inl long) = not_too_long files m Changes name x e hx long.0
changes_pass files m (Some name) p c message e (x, hx, (s, rs, is)) (inr (bytes, has, (line, kind, reading, told))) =
    let same : x ≡ bytes = same_bytes files m Changes name x bytes e hx has in
    ok_not_err (changes_of p bytes) s (line, kind) (sym (ap (changes_of p) same) ∙ rs) reading

-- the bytes are a log, so they are not refused as none
log_reads : (f : LogFile) (bytes : List ℕ) (line : ℕ) (kind : LogKind) → IsLogOf f bytes → IsReading bytes (Err (Line line kind)) → ⊥
log_reads f bytes line Spelling is h =
    let n : ℕ = h.place in
    let same : whole_lines bytes ≡ whole_lines (log_text f) = ap whole_lines is.text in
    let long : length (take (suc n) (whole_lines bytes)) ≡ suc n = length-take-le (suc n) (whole_lines bytes) (omega (arith, h.misspelled.there)) in
    h.misspelled.here (record { whole = f; fits = is.fits; front = ap (λ (k : ℕ). take k (whole_lines (log_text f))) long ∙ ap (take (suc n)) (sym same) })
log_reads f bytes line NoEnd is h = h.missing.open_end f is

log_passes : (p : Scenarios) (f : LogFile) (bytes message : List ℕ) → IsLogOf f bytes → IsAccepted (problem p) f f.answers → IsNoProof p bytes message → ⊥
unfolding check_text
log_passes p f bytes message is shown (inl (line, kind, reading, told)) = log_reads f bytes line kind is reading
log_passes p f bytes message is shown (inr (g, other, (e, why, text))) =
    let same : f ≡ g = text_tells f g is.fits other.fits (sym is.text ∙ other.text) in
    let own : IsAccepted (problem p) g g.answers = subst (λ (z : LogFile). IsAccepted (problem p) z z.answers) same shown in
    refused_not_accepted (problem p) g e why (λ memory. absurd (let none : ◌≡◌ {A = Option (List ℕ)} None (Some message) = ap check_text (sym memory) ∙ text in cc)) own.counts own.accepted

-- ---- how a run ends then

stop_is_memory : (input : Input) (file : Option (List ℕ)) (IsWhy : List ℕ → Type 0) (names : List (List ℕ)) (old new : View) (r : Status) → ((message : List ℕ) → IsWhy message → ⊥) → HasNoFault old new → Stops input file IsWhy names old new r → r ≡ status.Memory
stop_is_memory input file IsWhy names old new r passes safe (inl (asked, inl (message, why, tells))) = absurd (passes message why)
stop_is_memory input file IsWhy names old new r passes safe (inl (asked, inr misses)) = absurd (safe.fetches misses.rose)
stop_is_memory input file IsWhy names old new r passes safe (inr (lacks, asked)) = lacks.status

prints_all : (s : Status) (text : List ℕ) (old new : View) (r : Status) → HasNoFault old new → Prints s text old new r → (r ≡ s) ⊎ (r ≡ status.Memory)
prints_all s text old new r safe (inl (is, all, warned)) = inl is
prints_all s text old new r safe (inr (inl (is, rose, front, warned))) = absurd (safe.writes rose)
prints_all s text old new r safe (inr (inr (lacks, printed))) = inr lacks.status

any_found : (answers : List Answer) → list_any is_limit answers ≡ true → (k : ℕ) × (a : Answer) × (slice_get answers k ≡ Some a) × (is_limit a ≡ true)
any_found [] h = absurd (cc)
any_found (a ∷ answers) h = by_test (is_limit a) refl h (λ g. any_found answers g)
  where
    by_test : (b : Bool) → is_limit a ≡ b → b || list_any is_limit answers ≡ true → (list_any is_limit answers ≡ true → (k : ℕ) × (c : Answer) × (slice_get answers k ≡ Some c) × (is_limit c ≡ true)) → (k : ℕ) × (c : Answer) × (slice_get (a ∷ answers) k ≡ Some c) × (is_limit c ≡ true)
    by_test true e g more = (0, a, refl, e)
    by_test false e g more = let d = more g in (suc d.0, d.1, d.2, d.3)

limit_is : (a : Answer) → is_limit a ≡ true → IsLimit a
limit_is answer.Infeasible h = absurd (cc)
limit_is (answer.Optimal x v) h = absurd (cc)
limit_is (answer.Limit best b) h = tt

-- a run from the root has a limit only where the nodes are too few for a whole tree
limit_has_cause : (p : Scenarios) (nodes : ℕ) (answers : List Answer) (tree : List Node) → IsSolved p nodes answers tree → list_any is_limit answers ≡ true → nodes + 1 < 2 * volume (root_box (problem p).scenarios)
limit_has_cause p nodes answers tree is h =
    let a = any_found answers h in
    elim ((is.run.claims a.0 a.1 a.2).limit (limit_is a.1 a.3)) [
      | inl stopped ↦ absurd (let no : false ≡ true = stopped.stopped in cc)
      | inr full ↦ full.points
    ]

solved_decides : (p : Scenarios) (nodes : ℕ) (answers : List Answer) (tree : List Node) (r : Status) → IsSolved p nodes answers tree → (r ≡ status_of answers) ⊎ (r ≡ status.Memory) → Decides (problem p) nodes r
solved_decides p nodes answers tree r is (inr memory) = inl (inr memory)
solved_decides p nodes answers tree r is (inl e) = by_test (list_any is_limit answers) refl e
  where
    by_test : (b : Bool) → list_any is_limit answers ≡ b → r ≡ cond b status.Limit status.Done → Decides (problem p) nodes r
    by_test true h g = inr (g, limit_has_cause p nodes answers tree is h)
    by_test false h g = inl (inl g)

-- ---- the commands

-- the model and the changes stop no command
texts_pass : (inputs : Inputs) (log : Option (List ℕ)) (old new : View) (r : Status) (m : Files) (p : Scenarios) → old.files ≡ Some m → HasProblem old.files inputs p → HasNoFault old new → ((message : List ℕ) → IsLogRefusal old.files log p message → ⊥) → StopsAtInput inputs log old new r → r ≡ status.Memory
texts_pass inputs log old new r m p e has safe passes (Model, stop) =
    stop_is_memory Model _ _ _ old new r (λ message why. model_passes old.files m inputs.model p.model message e has.model why) safe stop
texts_pass inputs log old new r m p e has safe passes (Changes, stop) =
    stop_is_memory Changes _ _ _ old new r (λ message why. (let same : why.0 ≡ p.model = same_model old.files m inputs.model why.0 p.model e why.1 has.model in changes_pass old.files m inputs.changes p.model p.changes message e has.changes (subst (λ (x : IntegerModel). IsChangesRefusal old.files inputs.changes x message) same why.2))) safe stop
texts_pass inputs log old new r m p e has safe passes (Log, stop) =
    stop_is_memory Log _ _ _ old new r (λ message why. (let same : why.0 ≡ p = same_problem old.files m inputs why.0 p e why.1 has in passes message (subst (λ (x : Scenarios). IsLogRefusal old.files log x message) same why.2))) safe stop

solve_completes : (inputs : Inputs) (nodes : ℕ) (log : Option (List ℕ)) (old new : View) (r : Status) → Solves inputs nodes log old new r → (m : Files) (p : Scenarios) → old.files ≡ Some m → HasProblem old.files inputs p → HasNoFault old new → Decides (problem p) nodes r
solve_completes inputs nodes log old new r (inl (stop, same)) m p e has safe = inl (inr (texts_pass inputs None old new r m p e has safe (λ message why. why) stop))
solve_completes inputs nodes log old new r (inr (q, own, asked, reports)) m p e has safe =
    let same : q ≡ p = same_problem old.files m inputs q p e own has in
    subst (λ (x : Scenarios). Decides (problem x) nodes r) same (by_report reports)
  where
    by_report : Reports q nodes log old new r → Decides (problem q) nodes r
    by_report (inr lacks) = inl (inr lacks.lacks.status)
    by_report (inl (answers, tree, is, text, inl (written, prints))) = solved_decides q nodes answers tree r is (prints_all _ _ old new r safe prints)
    by_report (inl (answers, tree, is, text, inr lost)) = absurd (safe.writes lost.rose)

-- no log that shows right answers is refused
shown_passes : (files : Option Files) (m : Files) (log : List ℕ) (p : Scenarios) (message : List ℕ) → files ≡ Some m → Shows files log p → IsLogRefusal files (Some log) p message → ⊥
shown_passes files m log p message e h (inl long) = not_too_long files m Log log h.read.bytes e h.read.has long.0
shown_passes files m log p message e h (inr (bytes, has, why)) =
    let same : h.read.bytes ≡ bytes = same_bytes files m Log log h.read.bytes bytes e h.read.has has in
    log_passes p h.file bytes message (subst (IsLogOf h.file) same h.read.is) h.accepted why

check_completes : (inputs : Inputs) (log : List ℕ) (old new : View) (r : Status) → Checks inputs log old new r → (m : Files) → old.files ≡ Some m → IsProof old.files inputs log → HasNoFault old new → Succeeds r
check_completes inputs log old new r (inl (stop, same)) m e h safe =
    inr (texts_pass inputs (Some log) old new r m h.of e h.posed safe (λ message why. shown_passes old.files m log h.of message e h.shown why) stop)
check_completes inputs log old new r (inr (own, asked, files, prints)) m e h safe = prints_all status.Done accepted old new r safe prints

-- there is the problem of the made texts
made_problem : (seed columns rows scenarios : ℕ) → AreInRange (generate seed columns rows scenarios) → (p : Scenarios) × IsMade seed columns rows scenarios p
made_problem seed columns rows scenarios range =
    let a : AreAccepted seed columns rows scenarios = both_accepted seed columns rows scenarios range.0 range.1 range.2 range.3 in
    (record { model = a.model; changes = a.changes.scenarios }, record { set = a.changes; has_model = a.has_model; has_changes = a.has_changes; changes = refl; named = a.named; counted = a.counted })

-- the numbers of a command, where there is one, lie in their ranges
abbrev pub AreAllInRange : Option Order → Type 0
AreAllInRange None = Unit {0}
AreAllInRange (Some o) = AreInRange o

generate_completes : (seed columns rows scenarios : ℕ) (old new : View) (r : Status) → AreInRange (generate seed columns rows scenarios) → Generates seed columns rows scenarios old new r → HasNoFault old new → (p : Scenarios) × IsMade seed columns rows scenarios p × Decides (problem p) most_nodes r
generate_completes seed columns rows scenarios old new r range h safe = by_sum h.sums
  where
    by_sum : Sums seed columns rows scenarios old new r → (p : Scenarios) × IsMade seed columns rows scenarios p × Decides (problem p) most_nodes r
    by_sum (inr lacks) = let made = made_problem seed columns rows scenarios range in (made.0, made.1, inl (inr lacks.0.status))
    by_sum (inl (q, own, (answers, tree, is, prints))) = (q, own, solved_decides q most_nodes answers tree r is (prints_all _ _ old new r safe prints))

pub completes : (o : Option Order) (old new : View) (r : Status) → AreAllInRange o → Follows o old new r → IsComplete o old new r
completes None old new r range h = tt
completes (Some (solve inputs options)) old new r range h = λ m p e has safe. solve_completes inputs options.nodes options.log old new r h m p e has safe
completes (Some (check inputs log)) old new r range h = λ m e proof safe. check_completes inputs log old new r h m e proof safe
completes (Some (generate seed columns rows scenarios)) old new r range h = λ safe. generate_completes seed columns rows scenarios old new r range h safe
