-- Numbers that were taken keep their limits.
use Rattle.std.proofs.Common.{◌≡◌, ◌∙◌, sym, subst, ℕ, ℤ, pos, ◌≤◌, Bool, true, false, ◌||◌, nat_lt, unsigned_abs, List, [], ◌∷◌, Option, Some, None, Result, Ok, Err, refl, arith}
use Rattle.std.specs.Prelude.{if◌then◌else◌, codes, bytes_eq}
use Rattle.std.proofs.lemmas.Bool.{true≢false, ltb-false}
use Rattle.num_text.specs.NumberText.{number_of}
use Rattle.num_text.specs.declared.number.NumberError.{NumberError}
use Rattle.num_text.specs.declared.number.NumberError.TheVariants as number
use Rattle.mps_reader.specs.MpsLines.{Line, field, takes_value, bound_text, is_one_of}
use Rattle.mps_reader.specs.MpsRules.{number_kind, result_kind}
use Rattle.mps_reader.specs.MpsModels.{number_or_zero, ok_or_zero, low_set, high_set}
use Rattle.mps_reader.specs.ColumnBounds.{last_setting}
use Rattle.mps_reader.specs.ColumnStates.{IsLimited}
use Rattle.mps_reader.specs.declared.MpsKind.TheVariants.{Magnitude}

within_b : (b : Bool) → (if b then Some Magnitude else None) ≡ None → b ≡ false
within_b true e = absurd (cc)
within_b false e = refl

result_limit : (most : ℕ) (r : Result ℤ NumberError) → result_kind most r ≡ None → unsigned_abs (ok_or_zero r) ≤ most
result_limit most (Ok z) e = ltb-false most (unsigned_abs z) (within_b (nat_lt most (unsigned_abs z)) e)
result_limit most (Err number.NotNumber) e = absurd (cc)
result_limit most (Err number.Fraction) e = absurd (cc)
result_limit most (Err number.TooWide) e = absurd (cc)

pub number_limit : (most : ℕ) (text : List ℕ) → number_kind most text ≡ None → unsigned_abs (number_or_zero text) ≤ most
number_limit most text e = result_limit most (number_of text) e

-- ---- bounds

pub unset_limit : (o : Option (Option ℤ)) → o ≡ None → IsLimited o
unset_limit o e = λ s at. absurd (clash s (sym e ∙ at))
  where
    clash : (s : Option ℤ) → None ≡ Some s → ⊥
    clash s e = cc

pub later_limit : (o p : Option (Option ℤ)) → IsLimited o → IsLimited p → IsLimited (last_setting o p)
later_limit o None a b = a
later_limit o (Some s) a b = b

set_limit : (a b c : Bool) (v w : ℤ) → (a ≡ true → unsigned_abs v ≤ 1000000) → unsigned_abs w ≤ 1000000 → IsLimited (if a then Some (Some v) else if b then Some None else if c then Some (Some w) else None)
set_limit true b c v w limit other = λ s e z f. let same : v ≡ z = cc in subst (λ (x : ℤ). unsigned_abs x ≤ 1000000) same (limit refl)
set_limit false true c v w limit other = λ s e z f. absurd (cc)
set_limit false false true v w limit other = λ s e z f. let same : w ≡ z = cc in subst (λ (x : ℤ). unsigned_abs x ≤ 1000000) same other
set_limit false false false v w limit other = λ s e. absurd (cc)

low_b : (lo up fx li ui : Bool) → (lo || (fx || (li || false))) ≡ true → (lo || (up || (fx || (li || (ui || false))))) ≡ true
low_b true up fx li ui e = refl
low_b false true fx li ui e = refl
low_b false false true li ui e = refl
low_b false false false true ui e = refl
low_b false false false false ui e = absurd (true≢false (sym e))

high_b : (lo up fx li ui : Bool) → (up || (fx || (ui || false))) ≡ true → (lo || (up || (fx || (li || (ui || false))))) ≡ true
high_b true up fx li ui e = refl
high_b false true fx li ui e = refl
high_b false false true li ui e = refl
high_b false false false true ui e = refl
high_b false false false false true e = refl
high_b false false false false false e = absurd (true≢false (sym e))

abbrev names_it : Line → List ℕ → Bool
names_it l word = bytes_eq (field 0 l) word

pub low_limited : (l : Line) → (takes_value (field 0 l) ≡ true → unsigned_abs (number_or_zero (bound_text l)) ≤ 1000000) → IsLimited (low_set l)
low_limited l limit = set_limit (is_one_of (codes "LO" ∷ codes "FX" ∷ codes "LI" ∷ []) (field 0 l)) (is_one_of (codes "FR" ∷ codes "MI" ∷ []) (field 0 l)) (bytes_eq (field 0 l) (codes "BV")) (number_or_zero (bound_text l)) (pos 0)
    (λ e. limit (low_b (names_it l (codes "LO")) (names_it l (codes "UP")) (names_it l (codes "FX")) (names_it l (codes "LI")) (names_it l (codes "UI")) e)) (omega arith)

pub high_limited : (l : Line) → (takes_value (field 0 l) ≡ true → unsigned_abs (number_or_zero (bound_text l)) ≤ 1000000) → IsLimited (high_set l)
high_limited l limit = set_limit (is_one_of (codes "UP" ∷ codes "FX" ∷ codes "UI" ∷ []) (field 0 l)) (is_one_of (codes "FR" ∷ codes "PL" ∷ []) (field 0 l)) (bytes_eq (field 0 l) (codes "BV")) (number_or_zero (bound_text l)) (pos 1)
    (λ e. limit (high_b (names_it l (codes "LO")) (names_it l (codes "UP")) (names_it l (codes "FX")) (names_it l (codes "LI")) (names_it l (codes "UI")) e)) (omega arith)
