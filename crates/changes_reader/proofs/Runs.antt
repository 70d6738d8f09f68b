-- Changes that are made line by line.
use Rattle.std.proofs.Common.{◌≡◌, ◌∙◌, ap, sym, ℕ, ◌+◌, Bool, true, false, if◌then◌else◌, List, [], ◌∷◌, length, map, Option, None, Result, Ok, Err, refl}
use Rattle.std.specs.Prelude.{bytes_eq, codes, slice_index_or}
use Rattle.num_text.specs.Lines.{fields_of}
use Rattle.num_text.specs.Words.{is_read}
use Rattle.int_model.specs.Models.{IntegerModel}
use Rattle.scenario_changes.specs.Changes.{Change, ChangeSet, Fits, shape_of}
use Rattle.scenario_changes.specs.declared.change.RowShape.{RowShape}
use Rattle.changes_reader.specs.ChangesText.{Line, read_from, unless_refused, changes_of_lines, changes_of}
use Rattle.changes_reader.specs.Kinds.{line_kind}
use Rattle.changes_reader.specs.Takings.{taken, taken_words}
use Rattle.changes_reader.specs.Takings.{Takes}
use Rattle.changes_reader.specs.Readings.{IsReading}
use Rattle.changes_reader.specs.Faults.{error_at}
use Rattle.changes_reader.specs.declared.ChangesKind.{ChangesKind}
use Rattle.changes_reader.specs.declared.fault.Fault.{Fault}
use Rattle.changes_reader.specs.declared.fault.Fault.TheVariants.{Refused, Memory}

-- the changes behind lines, of which the first is the text's first or not, or the first refusal
abbrev pub run : IntegerModel → Bool → ChangeSet → List Line → Result ChangeSet (ℕ × ChangesKind)
run m first c [] = Ok c
run m first c (l ∷ ls) = unless_refused (line_kind m first (length c.scenarios) l.fields) l.number (run m false (taken m c l.fields) ls)

pub line_skipped : (n : ℕ) (line : List ℕ) (lines : List (List ℕ)) → is_read line ≡ false → read_from n (line ∷ lines) ≡ read_from (n + 1) lines
line_skipped n line lines e = rw e refl

pub line_read : (n : ℕ) (line : List ℕ) (lines : List (List ℕ)) → is_read line ≡ true → read_from n (line ∷ lines) ≡ record { number = n; fields = fields_of line } ∷ read_from (n + 1) lines
line_read n line lines e = rw e refl

fits_if : (m : IntegerModel) (b : Bool) (c d : ChangeSet) → Fits c m → Fits d m → Fits (if b then c else d) m
fits_if m true c d f g = f
fits_if m false c d f g = g

kept_fits : (m : IntegerModel) (c d : ChangeSet) → d.columns ≡ c.columns → d.rows ≡ c.rows → Fits c m → Fits d m
kept_fits m c d e g f = record { columns = e ∙ f.columns; rows = g ∙ f.rows }

-- a line keeps the columns and the shapes of the rows
words_fit : (m : IntegerModel) (c : ChangeSet) (word one two : List ℕ) → Fits c m → Fits (taken_words m c word one two) m
words_fit m c word one two f =
    fits_if m (bytes_eq word (codes "scenarios")) _ _ (kept_fits m c _ refl refl f)
    (fits_if m (bytes_eq word (codes "scenario")) _ _ (kept_fits m c _ refl refl f)
    (fits_if m (bytes_eq word (codes "name")) _ _ (kept_fits m c _ refl refl f)
    (fits_if m (bytes_eq word (codes "rhs")) _ _ (kept_fits m c _ refl refl f)
    (fits_if m (bytes_eq word (codes "obj")) _ _ (kept_fits m c _ refl refl f)
    (fits_if m (bytes_eq word (codes "lb")) _ _ (kept_fits m c _ refl refl f) (kept_fits m c _ refl refl f))))))

pub taken_fits : (m : IntegerModel) (c : ChangeSet) (fields : List (List ℕ)) → Fits c m → Fits (taken m c fields) m
taken_fits m c fields f = words_fit m c (slice_index_or fields 0 []) (slice_index_or fields 1 []) (slice_index_or fields 2 []) f

-- what is left to run from a line on that is read
unrolled : (m : IntegerModel) (first : Bool) (c : ChangeSet) (n : ℕ) (line : List ℕ) (more lines fields : List (List ℕ)) (whole : Result ChangeSet (ℕ × ChangesKind)) → lines ≡ line ∷ more → is_read line ≡ true → fields ≡ fields_of line → whole ≡ run m first c (read_from n lines) → whole ≡ unless_refused (line_kind m first (length c.scenarios) fields) n (run m false (taken m c fields) (read_from (n + 1) more))
unrolled m first c n line more lines fields whole e read f w =
    w ∙ ap (λ (ls : List (List ℕ)). run m first c (read_from n ls)) e
    ∙ ap (run m first c) (line_read n line more read)
    ∙ ap (λ (fs : List (List ℕ)). unless_refused (line_kind m first (length c.scenarios) fs) n (run m false (taken m c fs) (read_from (n + 1) more))) (sym f)

pub one_skipped : (m : IntegerModel) (first : Bool) (c : ChangeSet) (n : ℕ) (line : List ℕ) (more lines : List (List ℕ)) (whole : Result ChangeSet (ℕ × ChangesKind)) → lines ≡ line ∷ more → is_read line ≡ false → whole ≡ run m first c (read_from n lines) → whole ≡ run m first c (read_from (n + 1) more)
one_skipped m first c n line more lines whole e read w =
    w ∙ ap (λ (ls : List (List ℕ)). run m first c (read_from n ls)) e ∙ ap (run m first c) (line_skipped n line more read)

pub one_taken : (m : IntegerModel) (first : Bool) (c new : ChangeSet) (n : ℕ) (line : List ℕ) (more lines fields : List (List ℕ)) (whole : Result ChangeSet (ℕ × ChangesKind)) → lines ≡ line ∷ more → is_read line ≡ true → fields ≡ fields_of line → line_kind m first (length c.scenarios) fields ≡ None → new ≡ taken m c fields → whole ≡ run m first c (read_from n lines) → whole ≡ run m false new (read_from (n + 1) more)
one_taken m first c new n line more lines fields whole e read f good made w =
    unrolled m first c n line more lines fields whole e read f w
    ∙ ap (λ (k : Option ChangesKind). unless_refused k n (run m false (taken m c fields) (read_from (n + 1) more))) good
    ∙ ap (λ (d : ChangeSet). run m false d (read_from (n + 1) more)) (sym made)

pub one_refused : (m : IntegerModel) (bytes : List ℕ) (first : Bool) (c new wanted : ChangeSet) (n : ℕ) (line : List ℕ) (more lines fields : List (List ℕ)) (fault : Fault) → lines ≡ line ∷ more → is_read line ≡ true → fields ≡ fields_of line → Takes (line_kind m first (length c.scenarios) fields) new wanted (Err fault) → changes_of m bytes ≡ run m first c (read_from n lines) → IsReading m bytes (Err (error_at n fault))
one_refused m bytes first c new wanted n line more lines fields (Refused kind) e read f bad w =
    unrolled m first c n line more lines fields (changes_of m bytes) e read f w
    ∙ ap (λ (k : Option ChangesKind). unless_refused k n (run m false (taken m c fields) (read_from (n + 1) more))) bad
one_refused m bytes first c new wanted n line more lines fields Memory e read f bad w = tt

abbrev set_of : ℕ → List RowShape → List Change → ℕ → ChangeSet
set_of columns rows scenarios selected = record { columns = columns; rows = rows; scenarios = scenarios; selected = selected }

pub begun : (m : IntegerModel) (c : ChangeSet) → Fits c m → c.scenarios ≡ [] → c.selected ≡ 0 → c ≡ changes_of_lines m []
begun m c f e g =
    ap (λ (x : ℕ). set_of x c.rows c.scenarios c.selected) f.columns
    ∙ ap (λ (x : List RowShape). set_of (length m.columns) x c.scenarios c.selected) f.rows
    ∙ ap (λ (x : List Change). set_of (length m.columns) (map shape_of m.rows) x c.selected) e
    ∙ ap (λ (x : ℕ). set_of (length m.columns) (map shape_of m.rows) [] x) g
