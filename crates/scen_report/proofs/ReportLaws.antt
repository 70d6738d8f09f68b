-- A report says which answers it is of.
use Rattle.std.proofs.Common.{◌≡◌, ◌∙◌, ap, sym, subst, ℕ, zero, suc, ◌+◌, ◌-◌, ◌<◌, ◌≤◌, ◌^◌, ℤ, pos, negsuc, neg_ℤ, Bool, true, false, ◌&&◌, List, [], ◌∷◌, ◌++◌, length, drop, get_or, Option, Some, None, refl, arith, rules, nat_lt, unsigned_abs, append_assoc}
use Rattle.std.specs.List.{list_all, enumerate_from, All}
use Rattle.std.specs.Prelude.{codes, decimal, zip, flat_map, IfSome, unwrap_or}
use Rattle.std.specs.Char.{is_ascii_digit}
use Rattle.std.proofs.lemmas.Bool.Decides.{nat_tests}
use Rattle.std.proofs.lemmas.Int.{ints}
use Rattle.std.specs.Int.Signed.{mag}
use Rattle.std.proofs.lemmas.Fmt.{digits_decimal, signed_decimal_injective}
use Rattle.std.proofs.lemmas.List.{append_cancel_left}
use Rattle.std.proofs.lemmas.Str.Parse.{IsNumeralModel, IsDigitsTest, FoldsDigits, numerals_by_fold}
use Rattle.std.proofs.Math.Nat.{mul_comm}
use Rattle.num_text.specs.NumberText.{digits_after, integer_text}
use Rattle.int_model.specs.Models.{IntegerModel, minimized}
use Rattle.int_model.specs.declared.model.Column.{Column}
use Rattle.int_model.specs.declared.model.Direction.{Direction}
use Rattle.int_model.specs.declared.model.Direction.TheVariants.{Min, Max}
use Rattle.scenario_changes.specs.Problems.{Scenarios, name_at}
use Rattle.scenario_changes.specs.declared.answer.Answer.{Answer}
use Rattle.scenario_changes.specs.declared.answer.Answer.TheVariants.{Infeasible, Optimal, Limit}
use Rattle.scen_report.specs.Reports.{status_word, value_of, bound_of, point_of, IsValue, Fits, text_line, infinite, value_text, column_line, point_lines, lines_of_point, answer_lines, scenario_lines, lines_from, head_lines, report_text}
use Rattle.scen_report.specs.Laws.{IsReportable}

-- ---- texts without a line feed

-- each byte is one that words and numbers have, so no line feed
abbrev ArePast : List ℕ → Type 0
ArePast [] = Unit {0}
ArePast (b ∷ t) = (10 < b) × ArePast t

and_parts : (x y : Bool) → (x && y) ≡ true → (x ≡ true) × (y ≡ true)
and_parts true true e = (refl, refl)
and_parts true false e = absurd (cc)
and_parts false y e = absurd (cc)

past : (b : ℕ) → nat_lt 10 b ≡ true → 10 < b
past b h = grind (arith, nat_tests)

-- the same by computing
past_by : (t : List ℕ) → list_all (nat_lt 10) t ≡ true → ArePast t
past_by [] h = tt
past_by (b ∷ t) h =
    let split = and_parts (nat_lt 10 b) (list_all (nat_lt 10) t) h in
    (past b split.0, past_by t split.1)

-- texts without line feeds end where the first line feeds stand
cut_feed : (t u r s : List ℕ) → ArePast t → ArePast u → t ++ 10 ∷ r ≡ u ++ 10 ∷ s → (t ≡ u) × (r ≡ s)
cut_feed [] [] r s h k e = (refl, ap (drop 1) e)
cut_feed [] (b ∷ u) r s h k e =
    let same : 10 ≡ b = ap (λ l. get_or l 0 0) e in
    absurd (omega (arith, k.0, same))
cut_feed (b ∷ t) [] r s h k e =
    let same : b ≡ 10 = ap (λ l. get_or l 0 0) e in
    absurd (omega (arith, h.0, same))
cut_feed (b ∷ t) (c ∷ u) r s h k e =
    let rest = cut_feed t u r s h.1 k.1 (ap (drop 1) e) in
    let first : b ≡ c = ap (λ l. get_or l 0 0) e in
    (rw (first, rest.0) refl, rest.1)

text_line-shape : (word t r : List ℕ) → text_line word t ++ r ≡ word ++ (32 ∷ (t ++ 10 ∷ r))
unfolding text_line
text_line-shape word t r = append_assoc (word ++ 32 ∷ t) (10 ∷ []) r ∙ append_assoc word (32 ∷ t) (10 ∷ r)

-- the same of two lines with one word
cut_line : (word t u r s : List ℕ) → ArePast t → ArePast u → text_line word t ++ r ≡ text_line word u ++ s → (t ≡ u) × (r ≡ s)
cut_line word t u r s h k e = cut_feed t u r s h k (ap (drop 1) (append_cancel_left word (32 ∷ (t ++ 10 ∷ r)) (32 ∷ (u ++ 10 ∷ s)) (sym (text_line-shape word t r) ∙ e ∙ text_line-shape word u s)))

column_line-shape : (name r : List ℕ) (z : ℤ) → column_line name z ++ r ≡ codes "ScenNX" ++ (32 ∷ (name ++ (32 ∷ (integer_text z ++ 10 ∷ r))))
unfolding column_line
column_line-shape name r z =
    append_assoc (codes "ScenNX" ++ 32 ∷ (name ++ 32 ∷ integer_text z)) (10 ∷ []) r
    ∙ append_assoc (codes "ScenNX") (32 ∷ (name ++ 32 ∷ integer_text z)) (10 ∷ r)
    ∙ ap (λ l. codes "ScenNX" ++ 32 ∷ l) (append_assoc name (32 ∷ integer_text z) (10 ∷ r))

-- ---- numbers

abbrev IsAllDigits : List ℕ → Type 0
IsAllDigits text = list_all is_ascii_digit text ≡ true

-- std's lemmas on numerals speak of our digits
own : IsNumeralModel IsAllDigits (digits_after 0)
own = numerals_by_fold IsAllDigits own_digits digits_after own_fold
  where
    own_digits : IsDigitsTest IsAllDigits
    own_digits = search rules

    own_fold : FoldsDigits digits_after
    own_fold = record { empty = λ n. refl; more = λ n c cs h. ap (λ m. digits_after (m + (c - 48)) cs) (mul_comm 10 n) }

-- digits or a minus
abbrev AreNumeral : List ℕ → Type 0
AreNumeral [] = Unit {0}
AreNumeral (b ∷ t) = (44 < b) × (b < 58) × AreNumeral t

digit_range : (b : ℕ) → is_ascii_digit b ≡ true → (44 < b) × (b < 58)
digit_range b h = grind (arith, nat_tests)

digits_numeral : (t : List ℕ) → list_all is_ascii_digit t ≡ true → AreNumeral t
digits_numeral [] h = tt
digits_numeral (b ∷ t) h =
    let split = and_parts (is_ascii_digit b) (list_all is_ascii_digit t) h in
    let range = digit_range b split.0 in
    (range.0, range.1, digits_numeral t split.1)

decimal_numeral : (n : ℕ) → n < 2 ^ 64 → AreNumeral (decimal n)
decimal_numeral n h = digits_numeral (decimal n) (digits_decimal own n h)

integer_numeral : (z : ℤ) → unsigned_abs z < 2 ^ 63 → AreNumeral (integer_text z)
integer_numeral (pos n) h = decimal_numeral n (omega arith)
integer_numeral (negsuc n) h = (omega arith, omega arith, decimal_numeral (suc n) (omega arith))

numeral_past : (t : List ℕ) → AreNumeral t → ArePast t
numeral_past [] h = tt
numeral_past (b ∷ t) h = (omega (arith, h.0), numeral_past t h.2)

integer_past : (z : ℤ) → unsigned_abs z < 2 ^ 63 → ArePast (integer_text z)
integer_past z h = numeral_past (integer_text z) (integer_numeral z h)

mag_abs : (z : ℤ) → mag z ≤ unsigned_abs z
mag_abs (pos n) = omega arith
mag_abs (negsuc n) = omega arith

number_same : (y z : ℤ) → unsigned_abs y < 2 ^ 63 → unsigned_abs z < 2 ^ 63 → integer_text y ≡ integer_text z → y ≡ z
number_same y z h k e = signed_decimal_injective y z (omega (arith, mag_abs y, h)) (omega (arith, mag_abs z, k)) e

-- 32 bits fit 64
wide : (z : ℤ) → unsigned_abs z ≤ 2 ^ 31 → unsigned_abs z < 2 ^ 63
wide z h = omega (arith, h)

-- ---- values

minimized_abs : (d : Direction) (z : ℤ) → unsigned_abs (minimized d z) ≡ unsigned_abs z
minimized_abs Min z = refl
minimized_abs Max z = omega (arith, ints)

minimized_same : (d : Direction) (y z : ℤ) → minimized d y ≡ minimized d z → y ≡ z
minimized_same Min y z e = e
minimized_same Max y z e = omega (arith, ints, e)

small : (d : Direction) (z : ℤ) → IsValue z → unsigned_abs (minimized d z) < 2 ^ 63
small d z h = omega (arith, minimized_abs d z, h)

infinite_past : (d : Direction) → ArePast (infinite d)
infinite_past Min = past_by (infinite Min) refl
infinite_past Max = past_by (infinite Max) refl

value_past : (d : Direction) (v : Option ℤ) → IfSome v IsValue → ArePast (value_text d v)
value_past d None h = infinite_past d
value_past d (Some z) h = integer_past (minimized d z) (small d z h)

-- no number is written as what stands for no value: the letter `i` is no part of a number
infinite_other : (d : Direction) (t : List ℕ) → AreNumeral t → infinite d ≡ t → ⊥
infinite_other Min [] h e = absurd (cc)
infinite_other Min (b ∷ t) h e =
    let first : 105 ≡ b = ap (λ l. get_or l 0 0) e in
    absurd (omega (arith, first, h.1))
infinite_other Max [] h e = absurd (cc)
infinite_other Max (b ∷ []) h e = absurd (cc)
infinite_other Max (b ∷ c ∷ t) h e =
    let second : 105 ≡ c = ap (λ l. get_or l 1 0) e in
    absurd (omega (arith, second, h.2.1))

value_same : (d : Direction) (v w : Option ℤ) → IfSome v IsValue → IfSome w IsValue → value_text d v ≡ value_text d w → v ≡ w
value_same d None None h k e = refl
value_same d None (Some z) h k e = absurd (infinite_other d _ (integer_numeral (minimized d z) (small d z k)) e)
value_same d (Some z) None h k e = absurd (infinite_other d _ (integer_numeral (minimized d z) (small d z h)) (sym e))
value_same d (Some y) (Some z) h k e = ap Some (minimized_same d y z (number_same (minimized d y) (minimized d z) (small d y h) (small d z k) e))

-- ---- points

-- 32 bits
abbrev AreSmall : List ℤ → Type 0
AreSmall [] = Unit {0}
AreSmall (z ∷ x) = (unsigned_abs z ≤ 2 ^ 31) × AreSmall x

all_small : (x : List ℤ) → All (λ z. unsigned_abs z ≤ 2 ^ 31) x → AreSmall x
all_small [] h = tt
all_small (z ∷ x) h = (h 0 z (omega arith), all_small x (λ k d l. h (suc k) d (omega arith)))

cut_column : (name r s : List ℕ) (y z : ℤ) → unsigned_abs y ≤ 2 ^ 31 → unsigned_abs z ≤ 2 ^ 31 → column_line name y ++ r ≡ column_line name z ++ s → (y ≡ z) × (r ≡ s)
cut_column name r s y z h k e =
    let shaped = sym (column_line-shape name r y) ∙ e ∙ column_line-shape name s z in
    let named = ap (drop 1) (append_cancel_left (codes "ScenNX") (32 ∷ (name ++ (32 ∷ (integer_text y ++ 10 ∷ r)))) (32 ∷ (name ++ (32 ∷ (integer_text z ++ 10 ∷ s)))) shaped) in
    let numbers = ap (drop 1) (append_cancel_left name (32 ∷ (integer_text y ++ 10 ∷ r)) (32 ∷ (integer_text z ++ 10 ∷ s)) named) in
    let cut = cut_feed (integer_text y) (integer_text z) r s (integer_past y (wide y h)) (integer_past z (wide z k)) numbers in
    (number_same y z (wide y h) (wide z k) cut.0, cut.1)

cut_point : (cs : List Column) (x y : List ℤ) (r s : List ℕ) → length x ≡ length cs → length y ≡ length cs → AreSmall x → AreSmall y → point_lines cs x ++ r ≡ point_lines cs y ++ s → (x ≡ y) × (r ≡ s)
cut_point [] [] [] r s h k xs ys e = (refl, e)
cut_point [] [] (z ∷ y) r s h k xs ys e = absurd (omega (arith, k))
cut_point [] (z ∷ x) y r s h k xs ys e = absurd (omega (arith, h))
cut_point (c ∷ cs) [] y r s h k xs ys e = absurd (omega (arith, h))
cut_point (c ∷ cs) (z ∷ x) [] r s h k xs ys e = absurd (omega (arith, k))
cut_point (c ∷ cs) (v ∷ x) (z ∷ y) r s h k xs ys e =
    let first = cut_column c.name (point_lines cs x ++ r) (point_lines cs y ++ s) v z xs.0 ys.0 (sym (append_assoc (column_line c.name v) (point_lines cs x) r) ∙ e ∙ append_assoc (column_line c.name z) (point_lines cs y) s) in
    let rest = cut_point cs x y r s (omega (arith, h)) (omega (arith, k)) xs.1 ys.1 first.1 in
    (rw (first.0, rest.0) refl, rest.1)

-- a point stands where a value does
abbrev Stand : Option ℤ → Option (List ℤ) → Type 0
Stand None None = Unit {0}
Stand None (Some x) = ⊥
Stand (Some v) None = ⊥
Stand (Some v) (Some x) = Unit {0}

stand : (a : Answer) → Stand (value_of a) (point_of a)
stand Infeasible = tt
stand (Optimal x v) = tt
stand (Limit None b) = tt
stand (Limit (Some (x, v)) b) = tt

abbrev IsPoint : List Column → Option (List ℤ) → Type 0
IsPoint cs p = IfSome p (λ x. length x ≡ length cs) × IfSome p (All (λ z. unsigned_abs z ≤ 2 ^ 31))

cut_lines_of_point : (cs : List Column) (v : Option ℤ) (p q : Option (List ℤ)) (r s : List ℕ) → Stand v p → Stand v q → IsPoint cs p → IsPoint cs q → lines_of_point cs p ++ r ≡ lines_of_point cs q ++ s → (p ≡ q) × (r ≡ s)
cut_lines_of_point cs None None None r s i j h k e = (refl, e)
cut_lines_of_point cs None None (Some y) r s i j h k e = absurd j
cut_lines_of_point cs None (Some x) q r s i j h k e = absurd i
cut_lines_of_point cs (Some v) None q r s i j h k e = absurd i
cut_lines_of_point cs (Some v) (Some x) None r s i j h k e = absurd j
cut_lines_of_point cs (Some v) (Some x) (Some y) r s i j h k e =
    let cut = cut_point cs x y r s h.0 k.0 (all_small x h.1) (all_small y k.1) e in
    (ap Some cut.0, cut.1)

-- ---- answers

status_past : (a : Answer) → ArePast (status_word a)
status_past Infeasible = past_by (codes "infeasible") refl
status_past (Optimal x v) = past_by (codes "optimal") refl
status_past (Limit best b) = past_by (codes "limit") refl

some_same : {X : Type 0} (x y : X) → Some x ≡ Some y → x ≡ y
some_same x y e = cc

answer_same : (a b : Answer) → status_word a ≡ status_word b → value_of a ≡ value_of b → bound_of a ≡ bound_of b → point_of a ≡ point_of b → a ≡ b
answer_same Infeasible Infeasible s v b p = refl
answer_same Infeasible (Optimal y w) s v b p = absurd (cc)
answer_same Infeasible (Limit best c) s v b p = absurd (cc)
answer_same (Optimal x u) Infeasible s v b p = absurd (cc)
answer_same (Optimal x u) (Optimal y w) s v b p = rw (some_same x y p, some_same u w v) refl
answer_same (Optimal x u) (Limit best c) s v b p = absurd (other (ap (λ l. get_or l 0 0) s))
  where
    other : ◌≡◌ {A = ℕ} 111 108 → ⊥
    other e = omega (arith, e)
answer_same (Limit best c) Infeasible s v b p = absurd (cc)
answer_same (Limit best c) (Optimal y w) s v b p = absurd (other (ap (λ l. get_or l 0 0) s))
  where
    other : ◌≡◌ {A = ℕ} 108 111 → ⊥
    other e = omega (arith, e)
answer_same (Limit None c) (Limit None d) s v b p = ap (λ z. Limit None z) (some_same c d b)
answer_same (Limit None c) (Limit (Some (y, w)) d) s v b p = absurd (cc)
answer_same (Limit (Some (x, u)) c) (Limit None d) s v b p = absurd (cc)
answer_same (Limit (Some (x, u)) c) (Limit (Some (y, w)) d) s v b p = rw (some_same x y p, some_same u w v, some_same c d b) refl

answer_lines-shape : (m : IntegerModel) (a : Answer) (r : List ℕ) → answer_lines m a ++ r ≡ text_line (codes "Status") (status_word a) ++ (text_line (codes "ScenNObjVal") (value_text m.direction (value_of a)) ++ (text_line (codes "ScenNObjBound") (value_text m.direction (bound_of a)) ++ (lines_of_point m.columns (point_of a) ++ r)))
unfolding answer_lines
answer_lines-shape m a r =
    let status = text_line (codes "Status") (status_word a) in
    let value = text_line (codes "ScenNObjVal") (value_text m.direction (value_of a)) in
    let bound = text_line (codes "ScenNObjBound") (value_text m.direction (bound_of a)) in
    let points = lines_of_point m.columns (point_of a) in
    append_assoc (status ++ value ++ bound) points r ∙ append_assoc (status ++ value) bound (points ++ r) ∙ append_assoc status value (bound ++ (points ++ r))

cut_answer : (m : IntegerModel) (a b : Answer) (r s : List ℕ) → IsReportable (length m.columns) a → IsReportable (length m.columns) b → answer_lines m a ++ r ≡ answer_lines m b ++ s → (a ≡ b) × (r ≡ s)
cut_answer m a b r s h k e =
    let d = m.direction in
    let status = cut_line (codes "Status") (status_word a) (status_word b) _ _ (status_past a) (status_past b) (sym (answer_lines-shape m a r) ∙ e ∙ answer_lines-shape m b s) in
    let value = cut_line (codes "ScenNObjVal") (value_text d (value_of a)) (value_text d (value_of b)) _ _ (value_past d (value_of a) h.fits.value) (value_past d (value_of b) k.fits.value) status.1 in
    let bound = cut_line (codes "ScenNObjBound") (value_text d (bound_of a)) (value_text d (bound_of b)) _ _ (value_past d (bound_of a) h.fits.bound) (value_past d (bound_of b) k.fits.bound) value.1 in
    let values : value_of a ≡ value_of b = value_same d (value_of a) (value_of b) h.fits.value k.fits.value value.0 in
    let bounds : bound_of a ≡ bound_of b = value_same d (bound_of a) (bound_of b) h.fits.bound k.fits.bound bound.0 in
    let points = cut_lines_of_point m.columns (value_of b) (point_of a) (point_of b) r s (subst (λ v. Stand v (point_of a)) values (stand a)) (stand b) (h.fits.point, h.numbers) (k.fits.point, k.numbers) bound.1 in
    (answer_same a b status.0 values bounds points.0, points.1)

-- ---- scenarios

scenario_lines-shape : (p : Scenarios) (k : ℕ) (a : Answer) (r : List ℕ) → scenario_lines p k a ++ r ≡ text_line (codes "ScenarioNumber") (decimal k) ++ (text_line (codes "ScenNName") (unwrap_or (name_at p k) (codes "-")) ++ (answer_lines p.model a ++ r))
unfolding scenario_lines
scenario_lines-shape p k a r =
    let number = text_line (codes "ScenarioNumber") (decimal k) in
    let name = text_line (codes "ScenNName") (unwrap_or (name_at p k) (codes "-")) in
    append_assoc (number ++ name) (answer_lines p.model a) r ∙ append_assoc number name (answer_lines p.model a ++ r)

cut_scenario : (p : Scenarios) (k : ℕ) (a b : Answer) (r s : List ℕ) → IsReportable (length p.model.columns) a → IsReportable (length p.model.columns) b → scenario_lines p k a ++ r ≡ scenario_lines p k b ++ s → (a ≡ b) × (r ≡ s)
cut_scenario p k a b r s h i e =
    let number = text_line (codes "ScenarioNumber") (decimal k) in
    let name = text_line (codes "ScenNName") (unwrap_or (name_at p k) (codes "-")) in
    let shaped = sym (scenario_lines-shape p k a r) ∙ e ∙ scenario_lines-shape p k b s in
    cut_answer p.model a b r s h i (append_cancel_left name (answer_lines p.model a ++ r) (answer_lines p.model b ++ s) (append_cancel_left number (name ++ (answer_lines p.model a ++ r)) (name ++ (answer_lines p.model b ++ s)) shaped))

-- a scenario has some text
scenario_some : (p : Scenarios) (k : ℕ) (a : Answer) (r : List ℕ) → scenario_lines p k a ++ r ≡ [] → ⊥
scenario_some p k a r e = none (sym (scenario_lines-shape p k a r ∙ text_line-shape _ _ _) ∙ e)
  where
    none : {b : ℕ} {l : List ℕ} → b ∷ l ≡ [] → ⊥
    none e = absurd (cc)

lines-tell : (p : Scenarios) (k : ℕ) (a b : List Answer) → All (IsReportable (length p.model.columns)) a → All (IsReportable (length p.model.columns)) b → lines_from p k a ≡ lines_from p k b → a ≡ b
lines-tell p k [] [] h i e = refl
lines-tell p k [] (y ∷ b) h i e = absurd (scenario_some p k y (lines_from p (k + 1) b) (sym e))
lines-tell p k (x ∷ a) [] h i e = absurd (scenario_some p k x (lines_from p (k + 1) a) e)
lines-tell p k (x ∷ a) (y ∷ b) h i e =
    let first = cut_scenario p k x y (lines_from p (k + 1) a) (lines_from p (k + 1) b) (h 0 x (omega arith)) (i 0 y (omega arith)) e in
    let rest = lines-tell p (k + 1) a b (λ j d l. h (suc j) d (omega arith)) (λ j d l. i (suc j) d (omega arith)) first.1 in
    rw (first.0, rest) refl

pub report-tells : (p : Scenarios) (a b : List Answer) → All (IsReportable (length p.model.columns)) a → All (IsReportable (length p.model.columns)) b → report_text p a ≡ report_text p b → a ≡ b
report-tells p a b h i e = lines-tell p 0 a b h i (append_cancel_left (head_lines p) (lines_from p 0 a) (lines_from p 0 b) e)
