-- What the rest of a text makes, line by line.
use Rattle.std.proofs.Common.{◌≡◌, ◌∙◌, ap, sym, subst, ℕ, ◌+◌, Bool, true, false, cond, List, [], ◌∷◌, ◌++◌, length, Option, Some, None, Result, Ok, Err, refl, arith, append-nil, ◌≤◌}
use Rattle.std.specs.Prelude.{filter, unwrap_or, slice_index_or, if◌then◌else◌, bytes_eq, codes}
use Rattle.std.specs.List.{enumerate_from}
use Rattle.num_text.specs.Lines.{lines_of, fields_of}
use Rattle.mps_reader.specs.MpsLines.{Line, is_read, is_header, header_after, under_headers, headers_of, last_of, column_names}
use Rattle.mps_reader.specs.MpsRules.{line_kind, direction_words}
use Rattle.mps_reader.specs.MpsModels.{model_of, model_of_lines, model_from, by_kind, at_its_end, is_end, end_kind}
use Rattle.mps_reader.specs.Drafts.{Agrees, IsLineBehind, section_behind, HasParts}
use Rattle.mps_reader.specs.Readings.{IsReading, lines_behind}
use Rattle.std.specs.Result.{IfOk, IfErr}
use Rattle.std.proofs.lemmas.Bool.{and_parts}
use Rattle.std.proofs.lemmas.Slice.Eq.{bytes_eq-Decides}
use Rattle.mps_reader.specs.Openings.{direction_of}
use Rattle.mps_reader.specs.declared.rows.Rows.{Rows}
use Rattle.mps_reader.specs.Faults.{IsFault}
use Rattle.mps_reader.specs.Endings.{IsRefusedWith, error_at, IsErrorOf, IsErrorAt}
use Rattle.mps_reader.specs.Tables.{texts_of}
use Rattle.mps_reader.specs.ColumnStates.{ColumnsAgree}
use Rattle.mps_reader.specs.declared.columns.Columns.{Columns}
use Rattle.mps_reader.specs.declared.fault.Fault.{Fault}
use Rattle.mps_reader.specs.declared.fault.Fault.TheVariants as fault
use Rattle.mps_reader.specs.declared.MpsError.{MpsError}
use Rattle.mps_reader.specs.declared.MpsError.TheVariants as refused
use Rattle.mps_reader.specs.declared.draft.Draft.{Draft}
use Rattle.mps_reader.specs.declared.MpsKind.{MpsKind}
use Rattle.mps_reader.specs.declared.MpsKind.TheVariants.{NoEnd}
use Rattle.int_model.specs.Models.{IntegerModel}
use Rattle.mps_reader.proofs.OpeningLemmas.{headers_of-header, headers_of-data, direction_words-append}
use Rattle.mps_reader.proofs.BoundLemmas.{last_of-push}

-- the line that bytes make behind these lines
abbrev pub line_at : List Line → ℕ → List ℕ → Line
line_at earlier number bytes = record { number = number; section = header_after (section_behind earlier) bytes; header = is_header bytes; fields = fields_of bytes }

pub line_made : (b : Bool) (earlier : List Line) (number : ℕ) (bytes : List ℕ) (words : List (List ℕ)) → b ≡ is_header bytes → words ≡ fields_of bytes → IsLineBehind b earlier (line_at earlier number bytes) words
line_made b earlier number bytes words h e = record { kind = sym h; section = ap (λ c. if c then slice_index_or (fields_of bytes) 0 [] else section_behind earlier) (sym h); fields = sym e }

section_b : (b : Bool) (earlier : List Line) (l : Line) → l.header ≡ b → l.section ≡ (if b then slice_index_or l.fields 0 [] else section_behind earlier) → section_behind (earlier ++ l ∷ []) ≡ l.section
section_b true earlier l h s = ap (λ hs. unwrap_or (last_of hs) []) (headers_of-header earlier l h) ∙ ap (λ o. unwrap_or o []) (last_of-push (headers_of earlier) l.section)
section_b false earlier l h s = ap (λ hs. unwrap_or (last_of hs) []) (headers_of-data earlier l h) ∙ sym s

section_then : (earlier : List Line) (number : ℕ) (bytes : List ℕ) → section_behind (earlier ++ line_at earlier number bytes ∷ []) ≡ header_after (section_behind earlier) bytes
section_then earlier number bytes = section_b (is_header bytes) earlier (line_at earlier number bytes) refl refl

module _ (d : Draft) (number : ℕ) (x : List ℕ) (rest next : List (List ℕ)) (bytes : List ℕ) (split : rest ≡ x ∷ next) (r : IsReading d number rest bytes) where
  counted_next : (number + 1) + length next ≡ length (lines_of bytes)
  counted_next = omega (arith, r.counted, ap length split)

  behind : (b : Bool) → is_read x ≡ b → lines_behind (section_behind r.earlier) (number + 1) rest ≡ under_headers (section_behind r.earlier) (cond b ((number + 1, x) ∷ filter (λ (l : ℕ × List ℕ). is_read l.1) (enumerate_from (number + 1 + 1) next)) (filter (λ (l : ℕ × List ℕ). is_read l.1) (enumerate_from (number + 1 + 1) next)))
  behind b e =
      ap (λ ls. lines_behind (section_behind r.earlier) (number + 1) ls) split
      ∙ ap (λ c. under_headers (section_behind r.earlier) (cond c ((number + 1, x) ∷ filter (λ (l : ℕ × List ℕ). is_read l.1) (enumerate_from (number + 1 + 1) next)) (filter (λ (l : ℕ × List ℕ). is_read l.1) (enumerate_from (number + 1 + 1) next)))) e

  -- a line that isn't read
  pub reading_skips : is_read x ≡ false → IsReading d (number + 1) next bytes
  reading_skips skip = record {
    counted = counted_next;
    earlier = r.earlier;
    agrees = r.agrees;
    same = r.same ∙ ap (model_from (length (lines_of bytes) + 1) r.earlier) (behind false skip);
  }

  l : Line
  l = line_at r.earlier (number + 1) x

  made : is_read x ≡ true → model_of bytes ≡ by_kind r.earlier (line_at r.earlier (number + 1) x) (line_kind r.earlier (line_at r.earlier (number + 1) x)) (model_from (length (lines_of bytes) + 1) (r.earlier ++ line_at r.earlier (number + 1) x ∷ []) (lines_behind (header_after (section_behind r.earlier) x) (number + 1 + 1) next))
  made read = r.same ∙ ap (model_from (length (lines_of bytes) + 1) r.earlier) (behind true read)

  -- a line that is refused
  pub reading_refused : (kind : MpsKind) → is_read x ≡ true → line_kind r.earlier (line_at r.earlier (number + 1) x) ≡ Some kind → model_of bytes ≡ Err (number + 1, kind)
  reading_refused kind read bad = made read ∙ ap (λ k. by_kind r.earlier (line_at r.earlier (number + 1) x) k (model_from (length (lines_of bytes) + 1) (r.earlier ++ line_at r.earlier (number + 1) x ∷ []) (lines_behind (header_after (section_behind r.earlier) x) (number + 1 + 1) next))) bad

  good_made : is_read x ≡ true → line_kind r.earlier (line_at r.earlier (number + 1) x) ≡ None → model_of bytes ≡ (if is_end (line_at r.earlier (number + 1) x) then at_its_end r.earlier (line_at r.earlier (number + 1) x) (end_kind r.earlier (column_names r.earlier)) else model_from (length (lines_of bytes) + 1) (r.earlier ++ line_at r.earlier (number + 1) x ∷ []) (lines_behind (header_after (section_behind r.earlier) x) (number + 1 + 1) next))
  good_made read good = made read ∙ ap (λ k. by_kind r.earlier (line_at r.earlier (number + 1) x) k (model_from (length (lines_of bytes) + 1) (r.earlier ++ line_at r.earlier (number + 1) x ∷ []) (lines_behind (header_after (section_behind r.earlier) x) (number + 1 + 1) next))) good

  -- the end of the text
  pub reading_ends : is_read x ≡ true → line_kind r.earlier (line_at r.earlier (number + 1) x) ≡ None → is_end (line_at r.earlier (number + 1) x) ≡ true → model_of bytes ≡ at_its_end r.earlier (line_at r.earlier (number + 1) x) (end_kind r.earlier (column_names r.earlier))
  reading_ends read good ends = good_made read good ∙ ap (λ b. if b then at_its_end r.earlier (line_at r.earlier (number + 1) x) (end_kind r.earlier (column_names r.earlier)) else model_from (length (lines_of bytes) + 1) (r.earlier ++ line_at r.earlier (number + 1) x ∷ []) (lines_behind (header_after (section_behind r.earlier) x) (number + 1 + 1) next)) ends

  -- another good line
  pub reading_goes_on : (new : Draft) → is_read x ≡ true → line_kind r.earlier (line_at r.earlier (number + 1) x) ≡ None → is_end (line_at r.earlier (number + 1) x) ≡ false → Agrees new (r.earlier ++ line_at r.earlier (number + 1) x ∷ []) → IsReading new (number + 1) next bytes
  reading_goes_on new read good more agrees = record {
    counted = counted_next;
    earlier = r.earlier ++ line_at r.earlier (number + 1) x ∷ [];
    agrees = agrees;
    same = good_made read good
        ∙ ap (λ b. if b then at_its_end r.earlier (line_at r.earlier (number + 1) x) (end_kind r.earlier (column_names r.earlier)) else model_from (length (lines_of bytes) + 1) (r.earlier ++ line_at r.earlier (number + 1) x ∷ []) (lines_behind (header_after (section_behind r.earlier) x) (number + 1 + 1) next)) more
        ∙ ap (λ s. model_from (length (lines_of bytes) + 1) (r.earlier ++ line_at r.earlier (number + 1) x ∷ []) (lines_behind s (number + 1 + 1) next)) (sym (section_then r.earlier (number + 1) x));
  }

-- no line is left
pub reading_over : (d : Draft) (number : ℕ) (rest : List (List ℕ)) (bytes : List ℕ) → rest ≡ [] → IsReading d number rest bytes → model_of bytes ≡ Err (number + 1, NoEnd)
reading_over d number rest bytes none r =
    let last : length (lines_of bytes) ≡ number = omega (arith, sym r.counted, ap length none) in
    r.same ∙ ap (λ ls. model_from (length (lines_of bytes) + 1) r.earlier (lines_behind (section_behind r.earlier) (number + 1) ls)) none ∙ ap (λ n. no_end (n + 1)) last
  where
    no_end : ℕ → Result IntegerModel (ℕ × MpsKind)
    no_end n = Err (n, NoEnd)

-- ---- what is answered

pair_is : (r s : ℕ × MpsKind) (m : Result IntegerModel (ℕ × MpsKind)) → m ≡ Err r → m ≡ Err s → r ≡ s
pair_is r s m e f = cc

pub refused_from : (line : ℕ) (kind : MpsKind) (f : Fault) (x : MpsError) → x ≡ error_at line f → IsFault f (Some kind) → IsRefusedWith (line, kind) (Err x)
refused_from line kind (fault.Refused k) x e h = subst (λ (y : MpsError). IsRefusedWith (line, kind) (Err y)) (sym e) (refl, sym (some_kind kind k h))
  where
    some_kind : (k kind : MpsKind) → Some k ≡ Some kind → k ≡ kind
    some_kind k kind e = cc
refused_from line kind fault.Memory x e h = subst (λ (y : MpsError). IsRefusedWith (line, kind) (Err y)) (sym e) tt

-- a line that can't be taken
pub refused_there : (line : ℕ) (f : Fault) (x : MpsError) (o : Option MpsKind) (r : ℕ × MpsKind) (m : Result IntegerModel (ℕ × MpsKind)) → x ≡ error_at line f → IsFault f o → ((kind : MpsKind) → o ≡ Some kind → m ≡ Err (line, kind)) → m ≡ Err r → IsRefusedWith r (Err x)
refused_there line (fault.Refused k) x o r m e h makes is =
    subst (λ (s : ℕ × MpsKind). IsRefusedWith s (Err x)) (pair_is (line, k) r m (makes k h) is) (refused_from line k (fault.Refused k) x e refl)
refused_there line fault.Memory x o r m e h makes is = subst (λ (y : MpsError). IsRefusedWith r (Err y)) (sym e) tt

-- the end of the text
ended_b : (o : Option MpsKind) (earlier : List Line) (l : Line) (r : ℕ × MpsKind) (result : Result IntegerModel MpsError) → ((kind : MpsKind) → o ≡ Some kind → IsRefusedWith (l.number, kind) result) → at_its_end earlier l o ≡ Err r → IsRefusedWith r result
ended_b None earlier l r result refuses is = absurd (no_model (model_of_lines earlier) r is)
  where
    no_model : (m : IntegerModel) (r : ℕ × MpsKind) → Ok m ≡ Err r → ⊥
    no_model m r e = cc
ended_b (Some kind) earlier l r result refuses is = subst (λ (s : ℕ × MpsKind). IsRefusedWith s result) (pair_is (l.number, kind) r (Err (l.number, kind)) refl is) (refuses kind refl)

pub refused_at_end : (earlier : List Line) (l : Line) (r : ℕ × MpsKind) (result : Result IntegerModel MpsError) (m : Result IntegerModel (ℕ × MpsKind)) → m ≡ at_its_end earlier l (end_kind earlier (column_names earlier)) → ((kind : MpsKind) → end_kind earlier (column_names earlier) ≡ Some kind → IsRefusedWith (l.number, kind) result) → m ≡ Err r → IsRefusedWith r result
refused_at_end earlier l r result m ends refuses is = ended_b (end_kind earlier (column_names earlier)) earlier l r result refuses (sym ends ∙ is)

-- the columns are those before the end's line
pub columns_before : (old new : Columns) (ls : List Line) → new ≡ old → ColumnsAgree (texts_of old.table.names.keys) old.table.items.items ls → ColumnsAgree (texts_of new.table.names.keys) new.table.items.items ls
columns_before old new ls e a = subst (λ (c : Columns). ColumnsAgree (texts_of c.table.names.keys) c.table.items.items ls) (sym e) a

-- the model of the lines before the end's
accepted_b : (o : Option MpsKind) (earlier : List Line) (l : Line) (result : Result IntegerModel MpsError) → ((kind : MpsKind) → o ≡ Some kind → IsRefusedWith (l.number, kind) result) → IfOk result (λ m. m ≡ model_of_lines earlier) → IfOk result (λ m. at_its_end earlier l o ≡ Ok m)
accepted_b o earlier l (Err e) refuses is = tt
accepted_b None earlier l (Ok m) refuses is = ap (λ (n : IntegerModel). ok_model n) (sym is)
  where
    ok_model : IntegerModel → Result IntegerModel (ℕ × MpsKind)
    ok_model n = Ok n
accepted_b (Some kind) earlier l (Ok m) refuses is = absurd (refuses kind refl)

pub accepted_at_end : (earlier : List Line) (l : Line) (result : Result IntegerModel MpsError) (m : Result IntegerModel (ℕ × MpsKind)) → m ≡ at_its_end earlier l (end_kind earlier (column_names earlier)) → ((kind : MpsKind) → end_kind earlier (column_names earlier) ≡ Some kind → IsRefusedWith (l.number, kind) result) → IfOk result (λ n. n ≡ model_of_lines earlier) → IfOk result (λ n. m ≡ Ok n)
accepted_at_end earlier l result m ends refuses is = subst (λ (r : Result IntegerModel (ℕ × MpsKind)). IfOk result (λ n. r ≡ Ok n)) (sym ends) (accepted_b (end_kind earlier (column_names earlier)) earlier l result refuses is)

-- the end's line gives no direction
end_word : (l : Line) → is_end l ≡ true → direction_words (l ∷ []) ≡ []
end_word l e =
    let parts = and_parts l.header (bytes_eq l.section (codes "ENDATA")) e in
    let at : l.section ≡ codes "ENDATA" = (bytes_eq-Decides l.section (codes "ENDATA")).0 parts.1 in
    rw at refl

pub parts_before : (old new : Draft) (earlier : List Line) (l : Line) → new.rows ≡ old.rows → new.columns ≡ old.columns → is_end l ≡ true → Agrees old earlier → Agrees new (earlier ++ l ∷ []) → HasParts new earlier
parts_before old new earlier l rows columns ends a b =
    subst (λ (r : Rows). HasParts (record new { rows = r }) earlier) (sym rows)
    (subst (λ (c : Columns). HasParts (record new { rows = old.rows; columns = c }) earlier) (sym columns) (record {
      roles = a.roles;
      sides = a.sides;
      ranges = a.ranges;
      called = a.heads.called;
      bounds = a.bounds;
      numbers = a.numbers;
      direction = b.opening.direction ∙ ap direction_of (direction_words-append earlier (l ∷ []) ∙ ap (λ r. direction_words earlier ++ r) (end_word l ends) ∙ append-nil (direction_words earlier));
      few_rows = subst (λ (n : ℕ). n ≤ 1000) a.ready.kept old.rows.few;
    }))

-- ---- errors

pub error_there : (line : ℕ) (f : Fault) (x : MpsError) (o : Option MpsKind) (m : Result IntegerModel (ℕ × MpsKind)) → x ≡ error_at line f → IsFault f o → ((kind : MpsKind) → o ≡ Some kind → m ≡ Err (line, kind)) → IsErrorOf m x
error_there line (fault.Refused k) x o m e h makes = subst (λ (y : MpsError). IsErrorOf m y) (sym e) (makes k h)
error_there line fault.Memory x o m e h makes = subst (λ (y : MpsError). IsErrorOf m y) (sym e) tt

pub error_from : (line : ℕ) (f : Fault) (x : MpsError) (o : Option MpsKind) → x ≡ error_at line f → IsFault f o → IsErrorAt line o x
error_from line (fault.Refused k) x o e h = subst (λ (y : MpsError). IsErrorAt line o y) (sym e) (refl, h)
error_from line fault.Memory x o e h = subst (λ (y : MpsError). IsErrorAt line o y) (sym e) tt

end_refused : (earlier : List Line) (l : Line) (o : Option MpsKind) (kind : MpsKind) → o ≡ Some kind → at_its_end earlier l o ≡ Err (l.number, kind)
end_refused earlier l o kind e = ap (at_its_end earlier l) e

error_b : (earlier : List Line) (l : Line) (m : Result IntegerModel (ℕ × MpsKind)) (error : MpsError) → m ≡ at_its_end earlier l (end_kind earlier (column_names earlier)) → IsErrorAt l.number (end_kind earlier (column_names earlier)) error → IsErrorOf m error
error_b earlier l m (refused.Line line kind) ends h = ends ∙ end_refused earlier l (end_kind earlier (column_names earlier)) kind h.1 ∙ ap (λ n. refused_text n kind) (sym h.0)
  where
    refused_text : ℕ → MpsKind → Result IntegerModel (ℕ × MpsKind)
    refused_text n kind = Err (n, kind)
error_b earlier l m refused.Memory ends h = tt

pub error_at_end : (earlier : List Line) (l : Line) (m : Result IntegerModel (ℕ × MpsKind)) (result : Result IntegerModel MpsError) → m ≡ at_its_end earlier l (end_kind earlier (column_names earlier)) → IfErr result (λ error. IsErrorAt l.number (end_kind earlier (column_names earlier)) error) → IfErr result (λ error. IsErrorOf m error)
error_at_end earlier l m (Ok model) ends h = tt
error_at_end earlier l m (Err error) ends h = error_b earlier l m error ends h
