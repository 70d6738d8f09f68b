-- Two logs differ in their texts, and each is read as the one that it is.
use Rattle.std.proofs.Common.{◌≡◌, ◌∙◌, ap, sym, ℕ, suc, ◌<◌, true, List, length, take, map, Result, Ok, Err, arith}
use Rattle.std.proofs.lemmas.List.{length-take-le}
use Rattle.tree_log.specs.HasText.{has_text}
use Rattle.tree_log.specs.LogText.{log_text}
use Rattle.tree_log.specs.Logs.{whole_lines, IsLogOf, BeginsLog}
use Rattle.tree_log.specs.LineWords.{words_of}
use Rattle.tree_log.specs.Drafts.{Begun, nothing, run}
use Rattle.tree_log.specs.Readings.{IsReading, IsReadAs}
use Rattle.tree_log.specs.declared.file.LogFile.{LogFile}
use Rattle.tree_log.specs.declared.fault.LogError.{LogError}
use Rattle.tree_log.specs.declared.fault.LogError.TheVariants.{Line, Memory}
use Rattle.tree_log.specs.declared.fault.LogKind.TheVariants.{Spelling, NoEnd}
use Rattle.tree_log.specs.declared.draft.Part.TheVariants as part
use Rattle.tree_log.proofs.WordLaws.{some_same}
use Rattle.tree_log.proofs.LogTextLaws.{file_made}
use Rattle.tree_log.proofs.FileRuns.{at, counts_in, file_words, file_run}
use Rattle.tree_log.proofs.FileLines.{log_words}

-- the log of a draft
file_of_draft : Begun → LogFile
file_of_draft b = file_made b.counts b.answers b.nodes

pub text_tells : (f g : LogFile) → has_text f ≡ true → has_text g ≡ true → log_text f ≡ log_text g → f ≡ g
unfolding file_of_draft
text_tells f g h i e =
    let words : file_words f ≡ file_words g = sym (log_words f h) ∙ ap (λ (t : List ℕ). map words_of (whole_lines t)) e ∙ log_words g i in
    let drafts : at (counts_in f) f.answers f.tree part.Ended ≡ at (counts_in g) g.answers g.tree part.Ended =
    some_same (at (counts_in f) f.answers f.tree part.Ended) (at (counts_in g) g.answers g.tree part.Ended) (sym (file_run f h) ∙ ap (run nothing) words ∙ file_run g i) in
    ap file_of_draft drafts

-- the first lines of a log begin one
log_begins : (bytes : List ℕ) (n : ℕ) (f : LogFile) → IsLogOf f bytes → n < length (whole_lines bytes) → BeginsLog (take (suc n) (whole_lines bytes))
log_begins bytes n f log there =
    let long : length (take (suc n) (whole_lines bytes)) ≡ suc n = length-take-le (suc n) (whole_lines bytes) (omega arith) in
    record {
      whole = f;
      fits = log.fits;
      front = ap (λ (m : ℕ). take m (whole_lines (log_text f))) long ∙ ap (λ (t : List ℕ). take (suc n) (whole_lines t)) (sym log.text);
    }

pub read_again : (bytes : List ℕ) (r : Result LogFile LogError) (f : LogFile) → IsReading bytes r → IsLogOf f bytes → IsReadAs f r
read_again bytes (Ok g) f h log = text_tells g f h.fits log.fits (sym h.text ∙ log.text)
read_again bytes (Err (Line n Spelling)) f h log = h.misspelled.here (log_begins bytes h.place f log h.misspelled.there)
read_again bytes (Err (Line n NoEnd)) f h log = h.missing.open_end f log
read_again bytes (Err Memory) f h log = tt
