-- How the steps of a run add up.
use Rattle.std.proofs.Common.{◌≡◌, ◌∙◌, ap, sym, subst, ℕ, suc, ◌+◌, ◌≤◌, List, [], ◌∷◌, ◌++◌, length, take, Option, Some, None, option_map, Result, Ok, Err, Vec, ◌⊎◌, inl, inr, refl, arith, append_assoc}
use Rattle.std.proofs.lemmas.List.{take_all, append-nil}
use Rattle.std.specs.declared.alloc.Global.{Global}
use Rattle.std.specs.declared.alloc.AllocError.{AllocError}
use Rattle.std.specs.Option.{IsSome}
use Rattle.std.specs.Result.{IfOk, IfErr, IsErrAnd, MatchResult}
use Rattle.std.specs.FinMap as map
use Rattle.desk.specs.Causes.{Rose}
use Rattle.desk.specs.Desk.{View, Files, Appends, WriteHasCause}
use Rattle.desk.specs.declared.DeskError.{DeskError}
use Rattle.desk.specs.declared.DeskError.TheVariants.{Failed, Memory}
use Rattle.int_model.specs.Models.{IntegerModel}
use Rattle.scenario_changes.specs.Changes.{Change}
use Rattle.scenario_changes.specs.Problems.{Scenarios}
use Rattle.command_line.specs.Words.{Inputs}
use Rattle.scenopt.specs.Messages.{unreadable, unwritable, unwritable_log, out_of_memory}
use Rattle.scenopt.specs.Files.{HasModel, HasChanges, HasProblem, name_of, names_of, names_to}
use Rattle.scenopt.specs.Endings.{refused, Adds, AddsFront, Tries, AddsNames, Writes, WritesFront, IsChangesRefusal, IsLogRefusal, IsRefusal, Tells, Refuses, Misses, Lacks, Stops, StopsAtInput, Prints, Stays, Fetches, OnlyWarns}
use Rattle.scenopt.specs.declared.input.Input.{Input}
use Rattle.scenopt.specs.declared.input.Input.TheVariants.{Model, Changes, Log}
use Rattle.scenopt.specs.declared.status.Status.{Status}

-- a count that rose since a later moment rose since an earlier one
pub rose_since : (a b c : ℕ) → a ≤ b → Rose b c → Rose a c
rose_since a b c h r = omega (arith, h, r)

-- ---- texts

adds_since : (old mid new : Option (List ℕ)) (text : List ℕ) → mid ≡ old → Adds mid new text → Adds old new text
adds_since old mid new text e a = a ∙ ap (option_map (λ told. told ++ text)) e

pub front_since : (old mid new : Option (List ℕ)) (text : List ℕ) → mid ≡ old → AddsFront mid new text → AddsFront old new text
front_since old mid new text e a = (a.0, a.1 ∙ ap (option_map (λ told. told ++ take a.0 text)) e)

-- ---- names

pub names_none : (v : Option (List (List ℕ))) → v ≡ option_map (λ told. told ++ []) v
names_none None = refl
names_none (Some told) = ap Some (sym (append-nil told))

names_after-lists : (old : Option (List (List ℕ))) (names more : List (List ℕ)) → option_map (λ told. told ++ more) (option_map (λ told. told ++ names) old) ≡ option_map (λ told. told ++ (names ++ more)) old
names_after-lists None names more = refl
names_after-lists (Some told) names more = ap Some (append_assoc told names more)

names_after : (old mid new : View) (names more : List (List ℕ)) → AddsNames old mid names → AddsNames mid new more → AddsNames old new (names ++ more)
names_after old mid new names more a b = b ∙ ap (option_map (λ told. told ++ more)) a ∙ names_after-lists old.fetched names more

pub names_kept : (old mid new : View) (names : List (List ℕ)) → AddsNames old mid names → new.fetched ≡ mid.fetched → AddsNames old new names
names_kept old mid new names a e = e ∙ a

-- ---- steps

pub tells_since : (s : Status) (message : List ℕ) (old mid new : View) (r : Status) → mid.warned ≡ old.warned → old.write_faults ≤ mid.write_faults → Tells s message mid new r → Tells s message old new r
tells_since s message old mid new r w f (inl told) = inl (told.0, adds_since old.warned mid.warned new.warned message w told.1)
tells_since s message old mid new r w f (inr (inl failed)) = inr (inl (failed.0, rose_since old.write_faults mid.write_faults new.write_faults f failed.1, front_since old.warned mid.warned new.warned message w failed.2))
tells_since s message old mid new r w f (inr (inr lost)) = inr (inr (lost.0, lost.1 ∙ w))

pub tries_since : (message : List ℕ) (old mid new : View) → mid.warned ≡ old.warned → old.write_faults ≤ mid.write_faults → Tries message mid new → Tries message old new
tries_since message old mid new w f (inl told) = inl (adds_since old.warned mid.warned new.warned message w told)
tries_since message old mid new w f (inr (inl failed)) = inr (inl (rose_since old.write_faults mid.write_faults new.write_faults f failed.0, front_since old.warned mid.warned new.warned message w failed.1))
tries_since message old mid new w f (inr (inr lost)) = inr (inr (lost ∙ w))

-- what a warning leaves, whatever it answered
pub tried_by : (message : List ℕ) (old new : View) (r : Result (Unit {0}) DeskError) → Appends old.warned new.warned message r → WriteHasCause old.write_faults new.write_faults r → Tries message old new
tried_by message old new (Ok u) a h = inl a
tried_by message old new (Err Failed) a h = inr (inl (h.1, a))
tried_by message old new (Err Memory) a h = inr (inr a)

-- memory was wanting at a fetch, before its name was noted or behind that
pub fetch_lacking : (input : Input) (file : Option (List ℕ)) (IsWhy : List ℕ → Type 0) (name : List ℕ) (old mid new : View) (r : Status) → ((mid.fetched ≡ old.fetched) ⊎ AddsNames old mid (name ∷ [])) → mid.warned ≡ old.warned → old.write_faults ≤ mid.write_faults → OnlyWarns mid new → Lacks mid new r → Stops input file IsWhy (name ∷ []) old new r
fetch_lacking input file IsWhy name old mid new r (inl same) w f only l =
    inr (record { status = l.status; warned = tries_since out_of_memory old mid new w f l.warned }, (0, (only.fetched ∙ same) ∙ names_none old.fetched))
fetch_lacking input file IsWhy name old mid new r (inr asked) w f only l =
    inr (record { status = l.status; warned = tries_since out_of_memory old mid new w f l.warned }, (1, names_kept old mid new (name ∷ []) asked only.fetched))

-- a text that was fetched is refused
pub stops_refused : (input : Input) (file : Option (List ℕ)) (IsWhy : List ℕ → Type 0) (names : List (List ℕ)) (old mid new : View) (message : List ℕ) (r : Status) → Fetches names old mid → Stays old mid → OnlyWarns mid new → IsWhy message → Tells (refused input) message mid new r → Stops input file IsWhy names old new r
stops_refused input file IsWhy names old mid new message r f s w why t =
    inl (names_kept old mid new names f.asked w.fetched, inl (message, why, tells_since (refused input) message old mid new r f.warned s.write_faults t))

-- memory was wanting once these names were asked for
pub stops_lacking : (input : Input) (file : Option (List ℕ)) (IsWhy : List ℕ → Type 0) (names : List (List ℕ)) (old mid new : View) (r : Status) → Fetches names old mid → Stays old mid → OnlyWarns mid new → Lacks mid new r → Stops input file IsWhy names old new r
stops_lacking input file IsWhy names old mid new r f s w l =
    inr (record { status = l.status; warned = tries_since out_of_memory old mid new f.warned s.write_faults l.warned }, (length names, names_kept old mid new (take (length names) names) (rw (take_all (length names) names (omega arith)) f.asked) w.fetched))

-- another reason of the same message
pub stops_more : (input : Input) (file : Option (List ℕ)) (P Q : List ℕ → Type 0) (names : List (List ℕ)) (old new : View) (r : Status) → ((message : List ℕ) → P message → Q message) → Stops input file P names old new r → Stops input file Q names old new r
stops_more input file P Q names old new r h (inl (asked, inl (message, why, tells))) = inl (asked, inl (message, h message why, tells))
stops_more input file P Q names old new r h (inl (asked, inr misses)) = inl (asked, inr misses)
stops_more input file P Q names old new r h (inr lacks) = inr lacks

taken_after : (names more : List (List ℕ)) (n : ℕ) → take (length names + n) (names ++ more) ≡ names ++ take n more
taken_after [] more n =
    let none : 0 + n ≡ n = omega arith in
    ap (λ k. take k more) none
taken_after (name ∷ names) more n =
    let one : suc (length names) + n ≡ suc (length names + n) = omega arith in
    ap (λ k. take k (name ∷ (names ++ more))) one ∙ ap (λ l. name ∷ l) (taken_after names more n)

-- a stop behind names that were asked for before
pub stops_after : (input : Input) (file : Option (List ℕ)) (IsWhy : List ℕ → Type 0) (names more : List (List ℕ)) (old mid new : View) (r : Status) → Fetches names old mid → Stays old mid → Stops input file IsWhy more mid new r → Stops input file IsWhy (names ++ more) old new r
stops_after input file IsWhy names more old mid new r f s (inl (asked, inl (message, why, tells))) =
    inl (names_after old mid new names more f.asked asked, inl (message, why, tells_since (refused input) message old mid new r f.warned s.write_faults tells))
stops_after input file IsWhy names more old mid new r f s (inl (asked, inr misses)) =
    inl (names_after old mid new names more f.asked asked, inr (record { named = misses.named; status = misses.status; rose = rose_since old.fetch_faults mid.fetch_faults new.fetch_faults s.fetch_faults misses.rose; warned = tries_since (unreadable input) old mid new f.warned s.write_faults misses.warned }))
stops_after input file IsWhy names more old mid new r f s (inr (lacks, (n, asked))) =
    inr (record { status = lacks.status; warned = tries_since out_of_memory old mid new f.warned s.write_faults lacks.warned }, (length names + n, rw (taken_after names more n) (names_after old mid new names (take n more) f.asked asked)))

pub fetches_after : (names more : List (List ℕ)) (old mid new : View) → Fetches names old mid → Fetches more mid new → Fetches (names ++ more) old new
fetches_after names more old mid new f g = record { asked = names_after old mid new names more f.asked g.asked; warned = g.warned ∙ f.warned }

pub stays_after : (old mid new : View) → Stays old mid → Stays mid new → Stays old new
stays_after old mid new s t = record {
  files = t.files ∙ s.files;
  printed = t.printed ∙ s.printed;
  fetch_faults = omega (arith, s.fetch_faults, t.fetch_faults);
  write_faults = omega (arith, s.write_faults, t.write_faults);
}

pub warns_stays : (old new : View) → OnlyWarns old new → Stays old new
warns_stays old new w = record { files = w.files; printed = w.printed; fetch_faults = omega (arith, w.fetch_faults); write_faults = w.write_faults }

-- a refusal whose message perhaps found no memory
pub refused_by : (input : Input) (file : Option (List ℕ)) (IsWhy : List ℕ → Type 0) (names : List (List ℕ)) (old mid new : View) (message : Result (Vec ℕ Global) AllocError) (text : List ℕ) (r : Status) → Fetches names old mid → Stays old mid → OnlyWarns mid new → IsWhy text → IfOk message (λ m. m.items ≡ text) → MatchResult message (λ m. Tells (refused input) m.items mid new r) (λ _. Lacks mid new r) → Stops input file IsWhy names old new r
refused_by input file IsWhy names old mid new (Ok m) text r f s w why is tells = stops_refused input file IsWhy names old mid new text r f s w why (subst (λ (t : List ℕ). Tells (refused input) t mid new r) is tells)
refused_by input file IsWhy names old mid new (Err e) text r f s w why is lacks = stops_lacking input file IsWhy names old mid new r f s w lacks

-- the same, where what is known of the message is that it tells the reason
pub refused_for : (input : Input) (file : Option (List ℕ)) (IsWhy : List ℕ → Type 0) (names : List (List ℕ)) (old mid new : View) (message : Result (Vec ℕ Global) AllocError) (r : Status) → Fetches names old mid → Stays old mid → OnlyWarns mid new → IfOk message (λ m. IsWhy m.items) → MatchResult message (λ m. Tells (refused input) m.items mid new r) (λ _. Lacks mid new r) → Stops input file IsWhy names old new r
refused_for input file IsWhy names old mid new (Ok m) r f s w why tells = stops_refused input file IsWhy names old mid new m.items r f s w why tells
refused_for input file IsWhy names old mid new (Err e) r f s w why lacks = stops_lacking input file IsWhy names old mid new r f s w lacks

-- ---- changes

pub named_changes : (files : Option Files) (name : Option (List ℕ)) (n : List ℕ) (m : IntegerModel) (old new : View) (r : Status) → name ≡ Some n → Stops Changes (Some n) (IsChangesRefusal files (Some n) m) (n ∷ []) old new r → Stops Changes name (IsChangesRefusal files name m) (names_of name) old new r
named_changes files name n m old new r e s = subst (λ (o : Option (List ℕ)). Stops Changes o (IsChangesRefusal files o m) (names_of o) old new r) (sym e) s

-- the changes of a command stopped it, behind a model that was read
pub stops_at_changes : (inputs : Inputs) (m : IntegerModel) (old mid new : View) (r : Status) → HasModel old.files inputs.model m → Fetches (inputs.model ∷ []) old mid → Stays old mid → Stops Changes inputs.changes (IsChangesRefusal mid.files inputs.changes m) (names_of inputs.changes) mid new r → StopsAtInput inputs None old new r
stops_at_changes inputs m old mid new r has f s stop =
    (Changes, stops_more Changes inputs.changes (IsChangesRefusal mid.files inputs.changes m) (IsRefusal old.files inputs None Changes) (names_to inputs None Changes) old new r (λ message why. (m, has, subst (λ (files : Option Files). IsChangesRefusal files inputs.changes m message) s.files why)) (stops_after Changes inputs.changes (IsChangesRefusal mid.files inputs.changes m) (inputs.model ∷ []) (names_of inputs.changes) old mid new r f s stop))

-- the problem of a model and changes that were read
pub posed : (inputs : Inputs) (m : IntegerModel) (scenarios : List Change) (p : Scenarios) (old mid new : View) → HasModel old.files inputs.model m → Fetches (inputs.model ∷ []) old mid → Stays old mid → HasChanges mid.files inputs.changes m scenarios → Fetches (names_of inputs.changes) mid new → p ≡ record { model = m; changes = scenarios } → HasProblem old.files inputs p × Fetches (names_to inputs None Changes) old new
posed inputs m scenarios p old mid new has f s changes g is =
    let own : HasChanges old.files inputs.changes m scenarios = subst (λ (files : Option Files). HasChanges files inputs.changes m scenarios) s.files changes in
    (subst (λ (q : Scenarios). HasProblem old.files inputs q) (sym is) (record { model = has; changes = own }), fetches_after (inputs.model ∷ []) (names_of inputs.changes) old mid new f g)

-- memory was wanting once both texts were read
pub lacks_problem : (inputs : Inputs) (old mid next new : View) (r : Status) → Fetches (inputs.model ∷ []) old mid → Fetches (names_of inputs.changes) mid next → Stays old mid → Stays mid next → OnlyWarns next new → Lacks next new r → StopsAtInput inputs None old new r
lacks_problem inputs old mid next new r f g s t w l =
    (Changes, stops_lacking Changes inputs.changes (IsRefusal old.files inputs None Changes) (names_to inputs None Changes) old next new r (fetches_after (inputs.model ∷ []) (names_of inputs.changes) old mid next f g) (stays_after old mid next s t) w l)

-- what an error of this status means
pub err_as : {T : Type 0} (r : Result T Status) (s : Status) (P : Status → Type 0) → IsErrAnd r (λ t. t ≡ s) → P s → IfErr r P
err_as (Ok t) s P e p = tt
err_as (Err t) s P e p = subst P (sym e) p

-- ---- a log

not_missing : (file : Option (List ℕ)) → file ≡ None → IsSome file → ⊥
not_missing None e h = absurd (cc)
not_missing (Some name) e h = absurd (cc)

-- a command that reads a log stops before that as one that reads none
pub stops_before : (inputs : Inputs) (log : List ℕ) (old new : View) (r : Status) → StopsAtInput inputs None old new r → StopsAtInput inputs (Some log) old new r
stops_before inputs log old new r (Model, stop) = (Model, stop)
stops_before inputs log old new r (Changes, stop) = (Changes, stop)
stops_before inputs log old new r (Log, inl (asked, inl (message, (p, has, why), tells))) = absurd why
stops_before inputs log old new r (Log, inl (asked, inr misses)) = absurd (not_missing (name_of inputs None Log) refl misses.named)
stops_before inputs log old new r (Log, inr (lacks, (n, asked))) =
    let all : (inputs.model ∷ names_of inputs.changes) ++ [] ≡ inputs.model ∷ names_of inputs.changes = append-nil (inputs.model ∷ names_of inputs.changes) in
    (Changes, inr (lacks, (n, subst (λ (names : List (List ℕ)). AddsNames old new (take n names)) all asked)))

-- the log stopped a command, behind the problem that was read
pub stops_at_log : (inputs : Inputs) (p : Scenarios) (log : List ℕ) (old mid new : View) (r : Status) → HasProblem old.files inputs p → Fetches (names_to inputs None Changes) old mid → Stays old mid → Stops Log (Some log) (IsLogRefusal mid.files (Some log) p) (log ∷ []) mid new r → StopsAtInput inputs (Some log) old new r
stops_at_log inputs p log old mid new r has f s stop =
    (Log, stops_more Log (Some log) (IsLogRefusal mid.files (Some log) p) (IsRefusal old.files inputs (Some log) Log) (names_to inputs (Some log) Log) old new r (λ message why. (p, has, subst (λ (files : Option Files). IsLogRefusal files (Some log) p message) s.files why)) (stops_after Log (Some log) (IsLogRefusal mid.files (Some log) p) (inputs.model ∷ names_of inputs.changes) (log ∷ []) old mid new r f s stop))

-- ---- what is written and printed

pub lacks_since : (old mid new : View) (r : Status) → mid.warned ≡ old.warned → old.write_faults ≤ mid.write_faults → Lacks mid new r → Lacks old new r
lacks_since old mid new r w f l = record { status = l.status; warned = tries_since out_of_memory old mid new w f l.warned }

pub prints_since : (s : Status) (text : List ℕ) (old mid new : View) (r : Status) → mid.printed ≡ old.printed → mid.warned ≡ old.warned → old.write_faults ≤ mid.write_faults → Prints s text mid new r → Prints s text old new r
prints_since s text old mid new r p w f (inl (is, all, warned)) = inl (is, adds_since old.printed mid.printed new.printed text p all, warned ∙ w)
prints_since s text old mid new r p w f (inr (inl (is, rose, front, warned))) = inr (inl (is, rose_since old.write_faults mid.write_faults new.write_faults f rose, front_since old.printed mid.printed new.printed text p front, tries_since unwritable old mid new w f warned))
prints_since s text old mid new r p w f (inr (inr (lacks, printed))) = inr (inr (lacks_since old mid new r w f lacks, printed ∙ p))

pub prints_as : (s t : Status) (x y : List ℕ) (old new : View) (r : Status) → s ≡ t → x ≡ y → Prints s x old new r → Prints t y old new r
prints_as s t x y old new r e d h = subst (λ (u : Status). Prints u y old new r) e (subst (λ (z : List ℕ). Prints s z old new r) d h)

pub writes_since : (file : Option (List ℕ)) (text : List ℕ) (old mid new : View) → mid.files ≡ old.files → Writes file text mid new → Writes file text old new
writes_since None text old mid new e h = h ∙ e
writes_since (Some name) text old mid new e h = subst (λ (files : Option Files). new.files ≡ option_map (λ m. map.insert m name text) files) e h

pub front_written_since : (file : Option (List ℕ)) (text : List ℕ) (old mid new : View) → mid.files ≡ old.files → WritesFront file text mid new → WritesFront file text old new
front_written_since None text old mid new e h = absurd h
front_written_since (Some name) text old mid new e (inl same) = inl (same ∙ e)
front_written_since (Some name) text old mid new e (inr (n, h)) = inr (n, subst (λ (files : Option Files). new.files ≡ option_map (λ m. map.insert m name (take n text)) files) e h)
