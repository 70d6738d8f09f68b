-- What the reading of a text answers, by the lines that were taken.
use Rattle.std.proofs.Common.{◌≡◌, ◌∙◌, ap, sym, refl, subst, ℕ, suc, ◌+◌, List, [], ◌∷◌, ◌++◌, length, take, drop, map, Option, Some, None, arith, append_assoc, length-append}
use Rattle.std.specs.Prelude.{flat_map, option_and_then}
use Rattle.std.specs.List.{join_with_byte}
use Rattle.std.proofs.lemmas.List.{append-nil, map-append, take-append-drop}
use Rattle.std.proofs.lemmas.List.Splits.{join_with_byte-slice_split}
use Rattle.num_text.specs.Words.{line}
use Rattle.tree_log.specs.HasText.{has_text}
use Rattle.tree_log.specs.LogText.{log_text}
use Rattle.tree_log.specs.Logs.{whole_lines, IsLogOf, BeginsLog}
use Rattle.tree_log.specs.LineWords.{words_of}
use Rattle.tree_log.specs.Drafts.{Begun, nothing, taken, run, finished, ended}
use Rattle.tree_log.specs.Readings.{IsSpelling, IsNoEnd}
use Rattle.tree_log.specs.declared.file.LogFile.{LogFile}
use Rattle.tree_log.specs.declared.draft.Part.{Part}
use Rattle.tree_log.specs.declared.draft.Part.TheVariants as part
use Rattle.tree_log.proofs.WordLaws.{some_same}
use Rattle.tree_log.proofs.DraftLaws.{lines_at, Fits}
use Rattle.tree_log.proofs.StepLaws.{AreMade, run_made}
use Rattle.tree_log.proofs.LogTextLaws.{file_made, log_lines, file_fits, fed_words}
use Rattle.tree_log.proofs.FileRuns.{at, counts_in, file_words, file_run}
use Rattle.tree_log.proofs.TextCuts.{joined_lines}
use Rattle.tree_log.proofs.FileLines.{file_text, log_whole_lines, log_words}
use Rattle.tree_log.proofs.Completions.{IsBeginning, part_begins}
use Rattle.tree_log.proofs.Runs.{Reached, fed, run-append}

-- the draft that the lines before the rest made
pub made : (bytes rest : List ℕ) (n : ℕ) (b : Begun) (h : Reached bytes rest n b) → AreMade [] (map words_of h.front) b
made bytes rest n b h = run_made nothing (map words_of h.front) b (refl, refl) h.ran

record IsEnded (b : Begun) (rest : List ℕ) (f : LogFile) : Type 0 where
  none : rest ≡ []
  last : b.part ≡ part.Ended
  file : f ≡ file_made b.counts b.answers b.nodes

ended_part : (b : Begun) (p : Part) (f : LogFile) → ended b p ≡ Some f → (p ≡ part.Ended) × (f ≡ file_made b.counts b.answers b.nodes)
ended_part b part.First f e = absurd (cc)
ended_part b part.Counts f e = absurd (cc)
ended_part b part.Between f e = absurd (cc)
ended_part b (part.Stay h) f e = absurd (cc)
ended_part b (part.Steps s) f e = absurd (cc)
ended_part b (part.Vectors s steps vectors) f e = absurd (cc)
ended_part b part.Ended f e = (refl, sym (some_same (file_made b.counts b.answers b.nodes) f e))

is_ended : (b : Begun) (rest : List ℕ) (f : LogFile) → finished b rest ≡ Some f → IsEnded b rest f
is_ended b (x ∷ rest) f e = absurd (cc)
is_ended b [] f e =
    let h = ended_part b b.part f e in
    record { none = refl; last = h.0; file = h.1 }

pub ended_well : (bytes rest : List ℕ) (n : ℕ) (b : Begun) (f : LogFile) → Reached bytes rest n b → finished b rest ≡ Some f → IsLogOf f bytes
ended_well bytes rest n b f h e =
    let end = is_ended b rest f e in
    let lines : AreMade [] (map words_of h.front) b = made bytes rest n b h in
    let fits : Fits b.counts b.answers b.nodes part.Ended = subst (Fits b.counts b.answers b.nodes) end.last lines.fits in
    let words : lines_at b.counts b.answers b.nodes part.Ended ≡ map words_of h.front = ap (lines_at b.counts b.answers b.nodes) (sym end.last) ∙ lines.lines in
    let text : log_text (file_made b.counts b.answers b.nodes) ≡ fed h.front = sym (log_lines b.counts b.answers b.nodes fits.1 fits.2) ∙ ap (flat_map line) words ∙ fed_words h.front in
    record {
      fits = ap has_text end.file ∙ file_fits b.counts b.answers b.nodes fits.0 fits.1 fits.2;
      text = h.text ∙ ap (λ (r : List ℕ). fed h.front ++ r) end.none ∙ append-nil (fed h.front) ∙ sym text ∙ ap log_text (sym end.file);
    }

-- ---- lines that begin a log

same_length : (ls xs : List (List ℕ)) → take (length ls) (ls ++ xs) ≡ ls
same_length [] xs = refl
same_length (l ∷ ls) xs = ap (λ (r : List (List ℕ)). l ∷ r) (same_length ls xs)

words_joined : (ls : List (List ℕ)) → joined_lines (map words_of ls) ≡ ls
words_joined [] = refl
words_joined (l ∷ ls) = rw (join_with_byte-slice_split 32 l, words_joined ls) refl

begins_log : (ls : List (List ℕ)) → IsBeginning (map words_of ls) → BeginsLog ls
begins_log ls h =
    let lines : whole_lines (log_text h.whole) ≡ ls ++ joined_lines h.more =
    log_whole_lines h.whole h.fits ∙ ap joined_lines h.front ∙ map-append (join_with_byte 32) (map words_of ls) h.more
    ∙ ap (λ (r : List (List ℕ)). r ++ joined_lines h.more) (words_joined ls) in
    record { whole = h.whole; fits = h.fits; front = ap (take (length ls)) lines ∙ same_length ls (joined_lines h.more) }

-- the lines that were taken begin a log
front_begins : (bytes rest : List ℕ) (n : ℕ) (b : Begun) (h : Reached bytes rest n b) → BeginsLog h.front
front_begins bytes rest n b h =
    let lines : AreMade [] (map words_of h.front) b = made bytes rest n b h in
    begins_log h.front (subst IsBeginning lines.lines (part_begins b.counts b.answers b.nodes b.part lines.fits))

-- no log has a line that isn't taken
no_log : (front : List (List ℕ)) (text : List ℕ) (b : Begun) → run nothing (map words_of front) ≡ Some b → taken b (words_of text) ≡ None → BeginsLog (front ++ text ∷ []) → ⊥
no_log front text b ran none h =
    let lines = front ++ text ∷ [] in
    let whole = whole_lines (log_text h.whole) in
    let rest = map words_of (drop (length (front ++ text ∷ [])) (whole_lines (log_text h.whole))) in
    let all : whole_lines (log_text h.whole) ≡ (front ++ text ∷ []) ++ drop (length (front ++ text ∷ [])) (whole_lines (log_text h.whole)) =
    sym (take-append-drop (length (front ++ text ∷ [])) (whole_lines (log_text h.whole)))
    ∙ ap (λ (l : List (List ℕ)). l ++ drop (length (front ++ text ∷ [])) (whole_lines (log_text h.whole))) h.front in
    let words : file_words h.whole ≡ map words_of front ++ words_of text ∷ rest =
    sym (log_words h.whole h.fits) ∙ ap (map words_of) (all ∙ append_assoc front (text ∷ []) (drop (length (front ++ text ∷ [])) (whole_lines (log_text h.whole))))
    ∙ map-append words_of front (text ∷ drop (length (front ++ text ∷ [])) (whole_lines (log_text h.whole))) in
    let stops : run nothing (file_words h.whole) ≡ None =
    ap (run nothing) words ∙ run-append nothing (map words_of front) (words_of text ∷ rest)
    ∙ ap (option_and_then (λ (c : Begun). run c (words_of text ∷ rest))) ran
    ∙ ap (option_and_then (λ (c : Begun). run c rest)) none in
    let wrong : ◌≡◌ {A = Option Begun} None (Some (at (counts_in h.whole) h.whole.answers h.whole.tree part.Ended)) = sym stops ∙ file_run h.whole h.fits in
    absurd (cc)

pub not_taken : (bytes rest text behind : List ℕ) (n : ℕ) (b : Begun) → Reached bytes rest n b → whole_lines rest ≡ text ∷ whole_lines behind → taken b (words_of text) ≡ None → IsSpelling bytes (n + 1)
not_taken bytes rest text behind n b h lines e =
    let whole : whole_lines bytes ≡ h.front ++ text ∷ whole_lines behind = h.lines ∙ ap (λ (l : List (List ℕ)). h.front ++ l) lines in
    let longer : whole_lines bytes ≡ (h.front ++ text ∷ []) ++ whole_lines behind = whole ∙ sym (append_assoc h.front (text ∷ []) (whole_lines behind)) in
    let long : length (h.front ++ text ∷ []) ≡ suc n = length-append h.front (text ∷ []) ∙ omega (arith, h.count) in
    let before : take n (whole_lines bytes) ≡ h.front = ap (λ (m : ℕ). take m (whole_lines bytes)) (sym h.count) ∙ ap (take (length h.front)) whole ∙ same_length h.front (text ∷ whole_lines behind) in
    let here : take (suc n) (whole_lines bytes) ≡ h.front ++ text ∷ [] = ap (λ (m : ℕ). take m (whole_lines bytes)) (sym long) ∙ ap (take (length (h.front ++ text ∷ []))) longer ∙ same_length (h.front ++ text ∷ []) (whole_lines behind) in
    record {
      place = n;
      counted = omega arith;
      misspelled = record {
        there = omega (arith, ap length whole, length-append h.front (text ∷ whole_lines behind), h.count);
        before = subst BeginsLog (sym before) (front_begins bytes rest n b h);
        here = λ begun. no_log h.front text b h.ran e (subst BeginsLog here begun);
      };
    }

-- ---- the end

nothing_more : (xs ys : List ℕ) → xs ≡ xs ++ ys → ys ≡ []
nothing_more xs [] e = refl
nothing_more xs (y ∷ ys) e = absurd (omega (arith, ap length e, length-append xs (y ∷ ys)))

no_whole_log : (bytes rest : List ℕ) (n : ℕ) (b : Begun) → Reached bytes rest n b → whole_lines rest ≡ [] → finished b rest ≡ None → (f : LogFile) → IsLogOf f bytes → ⊥
no_whole_log bytes rest n b h none e f log =
    let lines : whole_lines bytes ≡ h.front = h.lines ∙ ap (λ (l : List (List ℕ)). h.front ++ l) none ∙ append-nil h.front in
    let words : map words_of h.front ≡ file_words f = ap (map words_of) (sym lines ∙ ap whole_lines log.text) ∙ log_words f log.fits in
    let text : bytes ≡ fed h.front = log.text ∙ file_text f ∙ ap (flat_map line) (sym words) ∙ fed_words h.front in
    let last : rest ≡ [] = nothing_more (fed h.front) rest (sym text ∙ h.text) in
    let same : b ≡ at (counts_in f) f.answers f.tree part.Ended = some_same b (at (counts_in f) f.answers f.tree part.Ended) (sym h.ran ∙ ap (run nothing) words ∙ file_run f log.fits) in
    let unfinished : finished (at (counts_in f) f.answers f.tree part.Ended) [] ≡ None = ap (λ (c : Begun). finished c []) (sym same) ∙ ap (finished b) (sym last) ∙ e in
    let wrong : ◌≡◌ {A = Option LogFile} (Some (file_made (counts_in f) f.answers f.tree)) None = unfinished in
    absurd (cc)

pub not_ended : (bytes rest : List ℕ) (n : ℕ) (b : Begun) → Reached bytes rest n b → whole_lines rest ≡ [] → finished b rest ≡ None → IsNoEnd bytes (n + 1)
not_ended bytes rest n b h none e =
    let lines : whole_lines bytes ≡ h.front = h.lines ∙ ap (λ (l : List (List ℕ)). h.front ++ l) none ∙ append-nil h.front in
    record {
      counted = omega (arith, ap length lines, h.count);
      missing = record {
        begun = subst BeginsLog (sym lines) (front_begins bytes rest n b h);
        open_end = no_whole_log bytes rest n b h none e;
      };
    }
