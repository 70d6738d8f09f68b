-- Lines of a model text that are accepted.
use Rattle.std.proofs.Common.{◌≡◌, ◌∙◌, ap, refl, ℕ, ◌+◌, true, false, List, [], ◌∷◌, ◌++◌, filter, codes, None, Result, append-nil}
use Rattle.std.specs.List.{list_all, join_with_byte, enumerate_from}
use Rattle.std.proofs.lemmas.List.Elements.{filter-append}
use Rattle.num_text.specs.Lines.{lines_of, fields_of}
use Rattle.num_text.specs.Words.{line, is_read}
use Rattle.int_model.specs.Models.{IntegerModel}
use Rattle.mps_reader.specs.MpsLines.{Line, is_header, under_headers, is_data_of, data_of}
use Rattle.mps_reader.specs.MpsRules.{line_kind}
use Rattle.mps_reader.specs.MpsModels.{model_from, is_end}
use Rattle.mps_reader.specs.declared.MpsKind.{MpsKind}
use Rattle.model_gen.specs.Texts.{data_line}
use Rattle.made_problems.proofs.LineTexts.{is_word, line_first, spaced_first, joined_fields, spaced_read, spaced_fields}
use Rattle.std.specs.Str.{bytes_eq}
use Rattle.made_problems.proofs.Triples.{Moves, Leads}

-- where a reader of a model stands: the next line's number, the last header's name and the lines before
pub record Place : Type 0 where
  pub number : ℕ
  pub section : List ℕ
  pub earlier : List Line

-- the text behind a place; last is one more than the number of lines of the whole text
abbrev pub run : ℕ → Place → List ℕ → Result IntegerModel (ℕ × MpsKind)
run last p bytes = model_from last p.earlier (under_headers p.section (filter (λ (l : ℕ × List ℕ). is_read l.1) (enumerate_from p.number (lines_of bytes))))

-- a line of data, and a header of a section
abbrev pub data_at : Place → List (List ℕ) → Line
data_at p fields = record { number = p.number; section = p.section; header = false; fields = fields }

abbrev pub header_at : Place → List ℕ → List (List ℕ) → Line
header_at p section more = record { number = p.number; section = section; header = true; fields = section ∷ more }

-- the place behind a line
abbrev pub behind : Place → Line → Place
behind p l = record { number = p.number + 1; section = l.section; earlier = p.earlier ++ l ∷ [] }

read_data : (section bare : List ℕ) (n : ℕ) (more fields : List (List ℕ)) → is_read bare ≡ true → is_header bare ≡ false → fields_of bare ≡ fields → under_headers section (filter (λ (l : ℕ × List ℕ). is_read l.1) (enumerate_from n (bare ∷ more))) ≡ record { number = n; section = section; header = false; fields = fields } ∷ under_headers section (filter (λ (l : ℕ × List ℕ). is_read l.1) (enumerate_from (n + 1) more))
read_data section bare n more fields h e f = rw (h, e, f) refl

read_header : (section bare name : List ℕ) (n : ℕ) (more fields : List (List ℕ)) → is_read bare ≡ true → is_header bare ≡ true → fields_of bare ≡ name ∷ fields → under_headers section (filter (λ (l : ℕ × List ℕ). is_read l.1) (enumerate_from n (bare ∷ more))) ≡ record { number = n; section = name; header = true; fields = name ∷ fields } ∷ under_headers name (filter (λ (l : ℕ × List ℕ). is_read l.1) (enumerate_from (n + 1) more))
read_header section bare name n more fields h e f = rw (h, e, f) refl

accepted_first : (last : ℕ) (earlier : List Line) (l : Line) (ls : List Line) → line_kind earlier l ≡ None → is_end l ≡ false → model_from last earlier (l ∷ ls) ≡ model_from last (earlier ++ l ∷ []) ls
accepted_first last earlier l ls h e = rw (h, e) refl

-- a line of data that has no kind of refusal
pub data_moves : (last : ℕ) (p : Place) (w : List ℕ) (ws : List (List ℕ)) → list_all is_word (w ∷ ws) ≡ true → line_kind p.earlier (data_at p (w ∷ ws)) ≡ None → Moves (run last) p (data_line (w ∷ ws)) (behind p (data_at p (w ∷ ws)))
data_moves last p w ws h kind rest =
    ap (λ ls. model_from last p.earlier (under_headers p.section (filter (λ (l : ℕ × List ℕ). is_read l.1) (enumerate_from p.number ls)))) (spaced_first (w ∷ ws) rest h)
    ∙ ap (model_from last p.earlier) (read_data p.section (32 ∷ join_with_byte 32 (w ∷ ws)) p.number (lines_of rest) (w ∷ ws) (spaced_read w ws h) refl (spaced_fields w ws h))
    ∙ accepted_first last p.earlier (data_at p (w ∷ ws)) (under_headers p.section (filter (λ (l : ℕ × List ℕ). is_read l.1) (enumerate_from (p.number + 1) (lines_of rest)))) kind refl

-- a header that has none and isn't the end's
pub header_moves : (last : ℕ) (p : Place) (w : List ℕ) (ws : List (List ℕ)) → list_all is_word (w ∷ ws) ≡ true → is_read (join_with_byte 32 (w ∷ ws)) ≡ true → is_header (join_with_byte 32 (w ∷ ws)) ≡ true → line_kind p.earlier (header_at p w ws) ≡ None → is_end (header_at p w ws) ≡ false → Moves (run last) p (line (w ∷ ws)) (behind p (header_at p w ws))
header_moves last p w ws h read header kind other rest =
    ap (λ ls. model_from last p.earlier (under_headers p.section (filter (λ (l : ℕ × List ℕ). is_read l.1) (enumerate_from p.number ls)))) (line_first (w ∷ ws) rest h)
    ∙ ap (model_from last p.earlier) (read_header p.section (join_with_byte 32 (w ∷ ws)) w p.number (lines_of rest) ws read header (joined_fields w ws h))
    ∙ accepted_first last p.earlier (header_at p w ws) (under_headers w (filter (λ (l : ℕ × List ℕ). is_read l.1) (enumerate_from (p.number + 1) (lines_of rest)))) kind other

-- ---- the lines of a section behind one more line

pub same_section : (section : List ℕ) (earlier : List Line) (l : Line) → is_data_of section l ≡ false → data_of section (earlier ++ l ∷ []) ≡ data_of section earlier
same_section section earlier l h = filter-append (is_data_of section) earlier (l ∷ []) ∙ rw h (append-nil (data_of section earlier))

pub grown_section : (section : List ℕ) (earlier : List Line) (l : Line) → is_data_of section l ≡ true → data_of section (earlier ++ l ∷ []) ≡ data_of section earlier ++ l ∷ []
grown_section section earlier l h = filter-append (is_data_of section) earlier (l ∷ []) ∙ rw h refl

-- ---- places in a section

pub record IsIn (section : List ℕ) (P : List Line → Type 0) (p : Place) : Type 0 where
  pub under : p.section ≡ section
  pub before : P p.earlier

-- a line of data in a section, of which what stood before it tells that it is accepted
pub data_leads : (last : ℕ) (section : List ℕ) (P Q : List Line → Type 0) (w : List ℕ) (ws : List (List ℕ)) → list_all is_word (w ∷ ws) ≡ true → ((n : ℕ) (earlier : List Line) → P earlier → (line_kind earlier (record { number = n; section = section; header = false; fields = w ∷ ws }) ≡ None) × Q (earlier ++ record { number = n; section = section; header = false; fields = w ∷ ws } ∷ [])) → Leads (run last) (IsIn section P) (data_line (w ∷ ws)) (IsIn section Q)
data_leads last section P Q w ws words step p at =
    let here : Place = record { number = p.number; section = section; earlier = p.earlier } in
    let next = step p.number p.earlier at.before in
    (behind here (data_at here (w ∷ ws)), record { under = refl; before = next.1 }, rw (at.under) (data_moves last here w ws words next.0))

-- a header of a section
pub header_leads : (last : ℕ) (section name : List ℕ) (P Q : List Line → Type 0) (ws : List (List ℕ)) → list_all is_word (name ∷ ws) ≡ true → is_read (join_with_byte 32 (name ∷ ws)) ≡ true → is_header (join_with_byte 32 (name ∷ ws)) ≡ true → bytes_eq name (codes "ENDATA") ≡ false → ((n : ℕ) (earlier : List Line) → P earlier → (line_kind earlier (record { number = n; section = name; header = true; fields = name ∷ ws }) ≡ None) × Q (earlier ++ record { number = n; section = name; header = true; fields = name ∷ ws } ∷ [])) → Leads (run last) (IsIn section P) (line (name ∷ ws)) (IsIn name Q)
header_leads last section name P Q ws words read header other step p at =
    let next = step p.number p.earlier at.before in
    (behind p (header_at p name ws), record { under = refl; before = next.1 }, header_moves last p name ws words read header next.0 other)
