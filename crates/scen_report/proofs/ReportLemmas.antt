-- The lines of a point.
use Rattle.std.proofs.Common.{◌≡◌, ◌∙◌, ap, sym, ℕ, suc, ◌+◌, ◌<◌, ℤ, pos, List, ◌++◌, ◌∷◌, [], length, get_or, drop, slice_get, Option, Some, None, ◌≤◌, refl, arith, add-one, drop-cons, append_assoc}
use Rattle.std.proofs.lemmas.Option.{get_or_from_slice_get, slice_get_within}
use Rattle.std.proofs.lemmas.List.{append-nil, drop_all}
use Rattle.int_model.specs.declared.model.Column.{Column}
use Rattle.int_model.specs.declared.model.Direction.{Direction}
use Rattle.scenario_changes.specs.Problems.{Scenarios}
use Rattle.scenario_changes.specs.declared.answer.Answer.{Answer}
use Rattle.scen_report.specs.Reports.{text_line, value_text, column_line, point_lines, lines_of_point, scenario_lines, lines_from, head_lines, report_text}

point_lines-drop : (cs : List Column) (x : List ℤ) (j : ℕ) (c : Column) → j < length cs → j < length x → point_lines (drop j cs) (drop j x) ≡ column_line (get_or cs j c).name (get_or x j (pos 0)) ++ point_lines (drop (j + 1) cs) (drop (j + 1) x)
point_lines-drop cs x j c h k = rw (add-one, drop-cons cs j c, drop-cons x j (pos 0)) refl

-- one line more
pub point_lines-more : (cs : List Column) (x : List ℤ) (j : ℕ) (c : Column) (start out new : List ℕ) → slice_get cs j ≡ Some c → j < length x → start ++ point_lines cs x ≡ out ++ point_lines (drop j cs) (drop j x) → new ≡ out ++ column_line c.name (get_or x j (pos 0)) → start ++ point_lines cs x ≡ new ++ point_lines (drop (j + 1) cs) (drop (j + 1) x)
point_lines-more cs x j c start out new at h before after =
    let rest = point_lines (drop (j + 1) cs) (drop (j + 1) x) in
    before
    ∙ ap (λ l. out ++ l) (point_lines-drop cs x j c (slice_get_within cs j c at) h)
    ∙ ap (λ (d : Column). out ++ (column_line d.name (get_or x j (pos 0)) ++ rest)) (get_or_from_slice_get cs j c c at)
    ∙ sym (append_assoc out (column_line c.name (get_or x j (pos 0))) rest)
    ∙ ap (λ l. l ++ rest) (sym after)

-- without a point there are no lines
pub point_lines-none : (cs : List Column) → point_lines cs [] ≡ []
point_lines-none [] = refl
point_lines-none (c ∷ cs) = refl

pub appended_thrice : (o a b c n m k : List ℕ) → n ≡ o ++ a → m ≡ n ++ b → k ≡ m ++ c → k ≡ o ++ (a ++ b ++ c)
appended_thrice o a b c n m k e f g = g ∙ ap (λ l. l ++ c) (f ∙ ap (λ l. l ++ b) e ∙ append_assoc o a b) ∙ append_assoc o (a ++ b) c

pub appended_none : (o a b n : List ℕ) → n ≡ o ++ a → b ≡ [] → n ≡ o ++ (a ++ b)
appended_none o a b n e f = e ∙ ap (λ l. o ++ l) (sym (append-nil a) ∙ ap (λ l. a ++ l) (sym f))

pub appended_twice : (o a b n m : List ℕ) → n ≡ o ++ a → m ≡ n ++ b → m ≡ o ++ (a ++ b)
appended_twice o a b n m e f = f ∙ ap (λ l. l ++ b) e ∙ append_assoc o a b

pub appended_four : (o a b c d n m k l : List ℕ) → n ≡ o ++ a → m ≡ n ++ b → k ≡ m ++ c → l ≡ k ++ d → l ≡ o ++ (a ++ b ++ c ++ d)
appended_four o a b c d n m k l e f g h = h ∙ ap (λ z. z ++ d) (appended_thrice o a b c n m k e f g) ∙ append_assoc o (a ++ b ++ c) d

-- the same line by another name of its text
pub line_same : (o w t u n : List ℕ) → n ≡ o ++ text_line w t → t ≡ u → n ≡ o ++ text_line w u
line_same o w t u n e f = e ∙ ap (λ z. o ++ text_line w z) f

pub value_same : (o w : List ℕ) (d e : Direction) (v u : Option ℤ) (n : List ℕ) → n ≡ o ++ text_line w (value_text d v) → d ≡ e → v ≡ u → n ≡ o ++ text_line w (value_text e u)
value_same o w d e v u n f g h = f ∙ ap (λ z. o ++ text_line w (value_text d z)) h ∙ ap (λ c. o ++ text_line w (value_text c u)) g

pub points_same : (o n : List ℕ) (cs : List Column) (x : List ℤ) (p : Option (List ℤ)) → n ≡ o ++ point_lines cs x → p ≡ Some x → n ≡ o ++ lines_of_point cs p
points_same o n cs x p e f = e ∙ ap (λ q. o ++ lines_of_point cs q) (sym f)

pub points_none : (n : List ℕ) (cs : List Column) (p : Option (List ℤ)) → p ≡ None → n ≡ n ++ lines_of_point cs p
points_none n cs p e = sym (ap (λ q. n ++ lines_of_point cs q) e ∙ append-nil n)

-- ---- scenario after scenario

pub lines_begun : (p : Scenarios) (answers : List Answer) (out : List ℕ) → out ≡ [] ++ head_lines p → report_text p answers ≡ out ++ lines_from p 0 (drop 0 answers)
lines_begun p answers out e = ap (λ h. h ++ lines_from p 0 answers) (sym e)

lines_from-drop : (p : Scenarios) (answers : List Answer) (s : ℕ) (a : Answer) → s < length answers → lines_from p s (drop s answers) ≡ scenario_lines p s (get_or answers s a) ++ lines_from p (s + 1) (drop (s + 1) answers)
lines_from-drop p answers s a h =
    let next : suc s ≡ s + 1 = omega arith in
    rw (drop-cons answers s a) (ap (λ k. scenario_lines p s (get_or answers s a) ++ lines_from p (s + 1) (drop k answers)) next)

pub lines_more : (p : Scenarios) (answers : List Answer) (s : ℕ) (a : Answer) (report out new : List ℕ) → s < length answers → a ≡ get_or answers s a → report ≡ out ++ lines_from p s (drop s answers) → new ≡ out ++ scenario_lines p s a → report ≡ new ++ lines_from p (s + 1) (drop (s + 1) answers)
lines_more p answers s a report out new h is before after =
    let rest = lines_from p (s + 1) (drop (s + 1) answers) in
    before
    ∙ ap (λ l. out ++ l) (lines_from-drop p answers s a h)
    ∙ ap (λ b. out ++ (scenario_lines p s b ++ rest)) (sym is)
    ∙ sym (append_assoc out (scenario_lines p s a) rest)
    ∙ ap (λ l. l ++ rest) (sym after)

pub lines_ended : (p : Scenarios) (answers : List Answer) (s : ℕ) (report out : List ℕ) → length answers ≤ s → report ≡ out ++ lines_from p s (drop s answers) → out ≡ report
lines_ended p answers s report out h e = sym (e ∙ ap (λ l. out ++ lines_from p s l) (drop_all s answers h) ∙ append-nil out)
