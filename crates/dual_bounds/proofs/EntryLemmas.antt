-- Terms by row and entries, side by side.
use Rattle.std.specs.Prelude.{◌≡◌, ℕ, zero, suc, ◌+◌, ◌<◌, ◌≤◌, ℤ, pos, ◌+ℤ◌, ◌*ℤ◌, List, [], ◌∷◌, length, slice_index_or, drop, true, false, cond, nat_eq, Option, Some, None, is_some, unwrap_or, refl}
use Rattle.std.proofs.Common.{arith, ap, ◌∙◌, drop_of_length-le}
use Rattle.std.proofs.lemmas.Bool.Decides.{nat_tests}
use Rattle.std.proofs.lemmas.Int.{ints}
use Rattle.std.proofs.Math.Seq.{drop-cons}
use Rattle.int_model.specs.Limits.{IsEntry}
use Rattle.int_model.specs.Programs.{Terms, AreTerms}
use Rattle.int_model.specs.RowSums.{coefficient}
use Rattle.int_model.specs.declared.model.Ends.{Ends}
use Rattle.dual_bounds.specs.Vectors.{Entry, AreEntries, RowsBelow, side, counted, end_sum}
use Rattle.dual_bounds.specs.Counting.{IsMultiplier}

-- ---- a column's terms, which are beside their rows

pub term-miss : (r : ℕ) (t : ℕ × ℤ) (ts : Terms) → nat_eq t.0 r ≡ false → coefficient r (t ∷ ts) ≡ coefficient r ts
term-miss r t ts e = rw e (omega (arith, ints))

pub term-hit : (r : ℕ) (t : ℕ × ℤ) (ts : Terms) → nat_eq t.0 r ≡ true → coefficient r (t ∷ ts) ≡ t.1 +ℤ coefficient r ts
term-hit r t ts e = rw e refl

pub no-row : (r least n : ℕ) (ts : Terms) → AreTerms least n ts → r < least → coefficient r ts ≡ pos 0
no-row r least n [] all h = refl
no-row r least n (t ∷ ts) all h =
    let e : nat_eq t.0 r ≡ false = grind (arith, nat_tests, all.0) in
    term-miss r t ts e ∙ no-row r (t.0 + 1) n ts all.4 (omega (arith, all.0))

-- what holds of a term at its place, and of those behind it
pub record IsTerm (n : ℕ) (t : ℕ × ℤ) (later : Terms) : Type 0 where
  pub entry : IsEntry t.1
  pub rest : AreTerms (t.0 + 1) n later

pub term-at : (least n : ℕ) (ts : Terms) (k : ℕ) (d : ℕ × ℤ) → AreTerms least n ts → k < length ts → IsTerm n (slice_index_or ts k d) (drop (suc k) ts)
term-at least n [] k d all h = absurd (omega arith)
term-at least n (t ∷ ts) zero d all h = record { entry = all.2; rest = all.4 }
term-at least n (t ∷ ts) (suc k) d all h = term-at (t.0 + 1) n ts k d all.4 (omega arith)

-- the coefficient of the row that stands at a place
pub coefficient-here : (n : ℕ) (ts : Terms) (k r : ℕ) (d : ℕ × ℤ) → AreTerms 0 n ts → k < length ts → (slice_index_or ts k d).0 ≡ r → coefficient r (drop k ts) ≡ (slice_index_or ts k d).1
coefficient-here n ts k r d all h same =
    let t : ℕ × ℤ = slice_index_or ts k d in
    let e : nat_eq t.0 r ≡ true = grind (arith, nat_tests, same) in
    let rest : coefficient r (drop (suc k) ts) ≡ pos 0 = no-row r (t.0 + 1) n (drop (suc k) ts) (term-at 0 n ts k d all h).rest (omega (arith, same)) in
    ap (coefficient r) (drop-cons ts k d h) ∙ term-hit r t (drop (suc k) ts) e ∙ omega (arith, ints, rest)

pub coefficient-past : (ts : Terms) (k r : ℕ) → length ts ≤ k → coefficient r (drop k ts) ≡ pos 0
coefficient-past ts k r h = ap (coefficient r) (drop_of_length-le ts h)

-- ---- entries

pub record IsEntryAt (e : Entry) (later : List Entry) : Type 0 where
  pub multiplier : IsMultiplier e.1
  pub rest : AreEntries (e.0 + 1) later

pub entry-at : (least : ℕ) (es : List Entry) (k : ℕ) (d : Entry) → AreEntries least es → k < length es → IsEntryAt (slice_index_or es k d) (drop (suc k) es)
entry-at least [] k d all h = absurd (omega arith)
entry-at least (e ∷ es) zero d all h = record { multiplier = all.1; rest = all.3 }
entry-at least (e ∷ es) (suc k) d all h = entry-at (e.0 + 1) es k d all.3 (omega arith)

pub row-at : (n : ℕ) (es : List Entry) (k : ℕ) (d : Entry) → RowsBelow n es → k < length es → (slice_index_or es k d).0 < n
row-at n [] k d all h = absurd (omega arith)
row-at n (e ∷ es) zero d all h = all.0
row-at n (e ∷ es) (suc k) d all h = row-at n es k d all.1 (omega arith)

-- ---- one entry more in the sum of the multipliers times the ends

end-step : (ends : List Ends) (e : Entry) (es : List Entry) → end_sum ends (counted ends (e ∷ es)) ≡ e.1 *ℤ unwrap_or (side ends e) (pos 0) +ℤ end_sum ends (counted ends es)
end-step ends e es = by_side (side ends e) refl
  where
    by_side : (o : Option ℤ) → side ends e ≡ o → end_sum ends (cond (is_some o) (e ∷ counted ends es) (counted ends es)) ≡ e.1 *ℤ unwrap_or o (pos 0) +ℤ end_sum ends (counted ends es)
    by_side None h = omega (arith, ints)
    by_side (Some w) h = rw h refl

pub end-more : (ends : List Ends) (es : List Entry) (k : ℕ) (d : Entry) (whole s r t : ℤ) → k < length es → whole ≡ s +ℤ end_sum ends (counted ends (drop k es)) → r ≡ (slice_index_or es k d).1 *ℤ unwrap_or (side ends (slice_index_or es k d)) (pos 0) → t ≡ s +ℤ r → whole ≡ t +ℤ end_sum ends (counted ends (drop (suc k) es))
end-more ends es k d whole s r t h before is after =
    let step : end_sum ends (counted ends (drop k es)) ≡ (slice_index_or es k d).1 *ℤ unwrap_or (side ends (slice_index_or es k d)) (pos 0) +ℤ end_sum ends (counted ends (drop (suc k) es)) = ap (λ (xs : List Entry). end_sum ends (counted ends xs)) (drop-cons es k d h) ∙ end-step ends (slice_index_or es k d) (drop (suc k) es) in
    omega (arith, ints, before, is, after, step)

pub end-none : (ends : List Ends) (es : List Entry) (k : ℕ) → length es ≤ k → end_sum ends (counted ends (drop k es)) ≡ pos 0
end-none ends es k h = ap (λ (xs : List Entry). end_sum ends (counted ends xs)) (drop_of_length-le es h)
