-- The spreads of rows, one term of a column after another.
use Rattle.std.specs.Prelude.{◌≡◌, ◌≢◌, ℕ, ◌+◌, ◌*◌, ◌<◌, ◌≤◌, ℤ, unsigned_abs, bit_or, nat_eq, Bool, true, false, List, length, take, slice_index_or, slice_set, refl}
use Rattle.std.proofs.Common.{arith, ap, sym, ◌∙◌, subst}
use Rattle.std.proofs.lemmas.List.{get_or-set_same, get_or-set_other}
use Rattle.std.proofs.lemmas.Bool.Decides.{nat_tests}
use Rattle.std.proofs.lemmas.Nat.{le_or_l, le_or_r}
use Rattle.int_model.specs.Programs.{Terms, AreTerms}
use Rattle.int_model.specs.RowSums.{coefficient}
use Rattle.tighten.proofs.SumLists.{own_term, other_term}

pub record IsWidened (ts : Terms) (k : ℕ) (old now : List ℕ) (width : ℕ) : Type 0 where
  pub grown : (i : ℕ) → slice_index_or old i 0 ≤ slice_index_or now i 0
  pub wide : (i : ℕ) → unsigned_abs (coefficient i (take k ts)) * width ≤ slice_index_or now i 0

-- the number of the term's row is raised to the term's spread
pub widen-step : (n : ℕ) (ts : Terms) (k : ℕ) (d : ℕ × ℤ) (old now : List ℕ) (width w : ℕ) → AreTerms 0 n ts → k < length ts → (slice_index_or ts k d).0 < length now → ((i : ℕ) → slice_index_or old i 0 ≤ slice_index_or now i 0) → ((i : ℕ) → unsigned_abs (coefficient i (take k ts)) * width ≤ slice_index_or now i 0) → w ≡ unsigned_abs (slice_index_or ts k d).1 * width → IsWidened ts (k + 1) old (slice_set now (slice_index_or ts k d).0 (bit_or (slice_index_or now (slice_index_or ts k d).0 0) w)) width
widen-step n ts k d old now width w all inside place grown wide is = record {
  grown = λ i. grown_at i (nat_eq (slice_index_or ts k d).0 i) refl;
  wide = λ i. wide_at i (nat_eq (slice_index_or ts k d).0 i) refl;
}
  where
    here : slice_index_or (slice_set now (slice_index_or ts k d).0 (bit_or (slice_index_or now (slice_index_or ts k d).0 0) w)) (slice_index_or ts k d).0 0 ≡ bit_or (slice_index_or now (slice_index_or ts k d).0 0) w
    here = get_or-set_same now (slice_index_or ts k d).0 _ 0 place

    grown_at : (i : ℕ) (b : Bool) → nat_eq (slice_index_or ts k d).0 i ≡ b → slice_index_or old i 0 ≤ slice_index_or (slice_set now (slice_index_or ts k d).0 (bit_or (slice_index_or now (slice_index_or ts k d).0 0) w)) i 0
    grown_at i true e =
        let same : (slice_index_or ts k d).0 ≡ i = grind (arith, nat_tests) in
        subst (λ (r : ℕ). slice_index_or old r 0 ≤ slice_index_or (slice_set now (slice_index_or ts k d).0 (bit_or (slice_index_or now (slice_index_or ts k d).0 0) w)) r 0) same
        (omega (arith, here, grown (slice_index_or ts k d).0, le_or_l (slice_index_or now (slice_index_or ts k d).0 0) w))
    grown_at i false e =
        let other : i ≢ (slice_index_or ts k d).0 = grind (arith, nat_tests) in
        omega (arith, get_or-set_other now (slice_index_or ts k d).0 i (bit_or (slice_index_or now (slice_index_or ts k d).0 0) w) 0 other, grown i)

    wide_at : (i : ℕ) (b : Bool) → nat_eq (slice_index_or ts k d).0 i ≡ b → unsigned_abs (coefficient i (take (k + 1) ts)) * width ≤ slice_index_or (slice_set now (slice_index_or ts k d).0 (bit_or (slice_index_or now (slice_index_or ts k d).0 0) w)) i 0
    wide_at i true e =
        let same : (slice_index_or ts k d).0 ≡ i = grind (arith, nat_tests) in
        let own : unsigned_abs (coefficient (slice_index_or ts k d).0 (take (k + 1) ts)) * width ≡ w = ap (λ (a : ℤ). unsigned_abs a * width) (own_term n ts k d all inside) ∙ sym is in
        subst (λ (r : ℕ). unsigned_abs (coefficient r (take (k + 1) ts)) * width ≤ slice_index_or (slice_set now (slice_index_or ts k d).0 (bit_or (slice_index_or now (slice_index_or ts k d).0 0) w)) r 0) same
        (omega (arith, here, own, le_or_r (slice_index_or now (slice_index_or ts k d).0 0) w))
    wide_at i false e =
        let other : i ≢ (slice_index_or ts k d).0 = grind (arith, nat_tests) in
        omega (arith, get_or-set_other now (slice_index_or ts k d).0 i (bit_or (slice_index_or now (slice_index_or ts k d).0 0) w) 0 other, wide i, ap (λ (a : ℤ). unsigned_abs a * width) (other_term ts k i d inside e))
