-- The shares of columns, one term of a row after another and one entry after another.
use Rattle.std.specs.Prelude.{◌≡◌, ◌≢◌, ℕ, zero, suc, ◌+◌, ◌^◌, ◌<◌, ◌≤◌, ℤ, pos, ◌+ℤ◌, ◌*ℤ◌, unsigned_abs, List, [], ◌∷◌, length, map, replicate, slice_get, slice_index_or, slice_set, drop, Bool, true, false, cond, nat_eq, Option, Some, None, is_some, refl}
use Rattle.std.proofs.Common.{arith, ap, sym, ◌∙◌, subst, drop_of_length-le}
use Rattle.std.proofs.lemmas.List.{get_or-map, get_or-set_same, get_or-set_other}
use Rattle.std.proofs.lemmas.Option.{get_or_from_slice_get, slice_get_within}
use Rattle.std.proofs.lemmas.Bool.Decides.{nat_tests}
use Rattle.std.proofs.lemmas.Int.{ints}
use Rattle.std.proofs.Math.Seq.{drop-cons}
use Rattle.int_model.specs.Programs.{Terms, AreTerms}
use Rattle.int_model.specs.RowSums.{coefficient}
use Rattle.int_model.specs.declared.model.Ends.{Ends}
use Rattle.int_model.specs.declared.model.Row.{Row}
use Rattle.dual_bounds.specs.Vectors.{Entry, side, counted, share}
use Rattle.dual_bounds.specs.Counting.{IsMultiplier, counting}
use Rattle.dual_bounds.proofs.EntryLemmas.{term-at, term-hit, term-miss, no-row, coefficient-here, coefficient-past}
use Rattle.dual_bounds.proofs.ProductLemmas.{product-limit}

pub terms-in : (least n m : ℕ) (ts : Terms) → AreTerms least n ts → n ≤ m → AreTerms least m ts
terms-in least n m [] all h = tt
terms-in least n m (t ∷ ts) all h = (all.0, omega (arith, all.1, h), all.2, all.3, terms-in (t.0 + 1) n m ts all.4 h)

pub column-in : (least n : ℕ) (ts : Terms) (k : ℕ) (d : ℕ × ℤ) → AreTerms least n ts → k < length ts → (slice_index_or ts k d).0 < n
column-in least n [] k d all h = absurd (omega arith)
column-in least n (t ∷ ts) zero d all h = all.1
column-in least n (t ∷ ts) (suc k) d all h = column-in (t.0 + 1) n ts k d all.4 (omega arith)

coefficient-limit : (least n : ℕ) (ts : Terms) (j : ℕ) → AreTerms least n ts → unsigned_abs (coefficient j ts) ≤ 10 ^ 9
coefficient-limit least n [] j all = omega (arith, ints)
coefficient-limit least n (t ∷ ts) j all = at (coefficient-limit (t.0 + 1) n ts j all.4) (nat_eq t.0 j) refl
  where
    at : unsigned_abs (coefficient j ts) ≤ 10 ^ 9 → (b : Bool) → nat_eq t.0 j ≡ b → unsigned_abs (coefficient j (t ∷ ts)) ≤ 10 ^ 9
    at rest true e =
        let same : t.0 ≡ j = grind (arith, nat_tests) in
        omega (arith, ints, term-hit j t ts e, no-row j (t.0 + 1) n ts all.4 (omega (arith, same)), all.2)
    at rest false e = omega (arith, ints, term-miss j t ts e, rest)

pub share-limit : (n : ℕ) (ts : Terms) (j : ℕ) (m : ℤ) → AreTerms 0 n ts → IsMultiplier m → unsigned_abs (m *ℤ coefficient j ts) ≤ 2 ^ 70
share-limit n ts j m all h = omega (arith, product-limit m (coefficient j ts) (2 ^ 40) (10 ^ 9) h (coefficient-limit 0 n ts j all))

none_of : (m : ℤ) → m *ℤ pos 0 ≡ pos 0
none_of m = omega (arith, ints)

-- what the shares are once the terms from k on are added
abbrev pub IsAdded : Terms → ℤ → ℕ → List ℤ → List ℤ → Type 0
IsAdded ts m k old now = (j : ℕ) → slice_index_or old j (pos 0) +ℤ m *ℤ coefficient j ts ≡ slice_index_or now j (pos 0) +ℤ m *ℤ coefficient j (drop k ts)

-- the share of the term's column is within the limit before the term is added
pub now-limit : (n : ℕ) (ts : Terms) (k : ℕ) (d : ℕ × ℤ) (m : ℤ) (old now : List ℤ) → AreTerms 0 n ts → k < length ts → IsMultiplier m → IsAdded ts m k old now → unsigned_abs (slice_index_or old (slice_index_or ts k d).0 (pos 0)) ≤ 2 ^ 77 → unsigned_abs (slice_index_or now (slice_index_or ts k d).0 (pos 0)) ≤ 2 ^ 77 + 2 ^ 71
now-limit n ts k d m old now all h small added old_small =
    let whole = share-limit n ts (slice_index_or ts k d).0 m all small in
    let part : unsigned_abs (m *ℤ (slice_index_or ts k d).1) ≤ 2 ^ 70 = omega (arith, product-limit m (slice_index_or ts k d).1 (2 ^ 40) (10 ^ 9) small (term-at 0 n ts k d all h).entry) in
    omega (arith, ints, old_small, whole, part, added (slice_index_or ts k d).0, ap (λ (z : ℤ). m *ℤ z) (coefficient-here n ts k (slice_index_or ts k d).0 d all h refl))

-- the share of the term's column, with the term
pub own-share : (n : ℕ) (ts : Terms) (k : ℕ) (d : ℕ × ℤ) (m : ℤ) (old now : List ℤ) (w : ℤ) → AreTerms 0 n ts → k < length ts → IsAdded ts m k old now → w ≡ slice_index_or now (slice_index_or ts k d).0 (pos 0) +ℤ m *ℤ (slice_index_or ts k d).1 → w ≡ slice_index_or old (slice_index_or ts k d).0 (pos 0) +ℤ m *ℤ coefficient (slice_index_or ts k d).0 ts
own-share n ts k d m old now w all h added is =
    omega (arith, ints, is, added (slice_index_or ts k d).0, ap (λ (z : ℤ). m *ℤ z) (coefficient-here n ts k (slice_index_or ts k d).0 d all h refl))

pub add-step : (n : ℕ) (ts : Terms) (k : ℕ) (d : ℕ × ℤ) (m : ℤ) (old now : List ℤ) (w : ℤ) → AreTerms 0 n ts → k < length ts → (slice_index_or ts k d).0 < length now → IsAdded ts m k old now → w ≡ slice_index_or now (slice_index_or ts k d).0 (pos 0) +ℤ m *ℤ (slice_index_or ts k d).1 → IsAdded ts m (suc k) old (slice_set now (slice_index_or ts k d).0 w)
add-step n ts k d m old now w all h place added is j = at (nat_eq (slice_index_or ts k d).0 j) refl
  where
    at : (b : Bool) → nat_eq (slice_index_or ts k d).0 j ≡ b → slice_index_or old j (pos 0) +ℤ m *ℤ coefficient j ts ≡ slice_index_or (slice_set now (slice_index_or ts k d).0 w) j (pos 0) +ℤ m *ℤ coefficient j (drop (suc k) ts)
    at true e =
        let same : (slice_index_or ts k d).0 ≡ j = grind (arith, nat_tests) in
        let none : coefficient (slice_index_or ts k d).0 (drop (suc k) ts) ≡ pos 0 = no-row (slice_index_or ts k d).0 ((slice_index_or ts k d).0 + 1) n (drop (suc k) ts) (term-at 0 n ts k d all h).rest (omega arith) in
        let set : slice_index_or (slice_set now (slice_index_or ts k d).0 w) (slice_index_or ts k d).0 (pos 0) ≡ w = get_or-set_same now (slice_index_or ts k d).0 w (pos 0) place in
        subst (λ (r : ℕ). slice_index_or old r (pos 0) +ℤ m *ℤ coefficient r ts ≡ slice_index_or (slice_set now (slice_index_or ts k d).0 w) r (pos 0) +ℤ m *ℤ coefficient r (drop (suc k) ts)) same
        (omega (arith, ints, set, own-share n ts k d m old now w all h added is, ap (λ (z : ℤ). m *ℤ z) none, none_of m))
    at false e =
        let other : j ≢ (slice_index_or ts k d).0 = grind (arith, nat_tests) in
        let rest : coefficient j (drop k ts) ≡ coefficient j (drop (suc k) ts) = ap (coefficient j) (drop-cons ts k d h) ∙ term-miss j (slice_index_or ts k d) (drop (suc k) ts) e in
        omega (arith, ints, get_or-set_other now (slice_index_or ts k d).0 j w (pos 0) other, added j, ap (λ (z : ℤ). m *ℤ z) rest)

-- narrow shares stay so where a narrow one is put
pub small-set : (now : List ℤ) (place : ℕ) (w : ℤ) → ((j : ℕ) → unsigned_abs (slice_index_or now j (pos 0)) ≤ 2 ^ 62) → place < length now → unsigned_abs w ≤ 2 ^ 62 → (j : ℕ) → unsigned_abs (slice_index_or (slice_set now place w) j (pos 0)) ≤ 2 ^ 62
small-set now place w small h fits j = at (nat_eq place j) refl
  where
    at : (b : Bool) → nat_eq place j ≡ b → unsigned_abs (slice_index_or (slice_set now place w) j (pos 0)) ≤ 2 ^ 62
    at true e =
        let same : place ≡ j = grind (arith, nat_tests) in
        subst (λ (r : ℕ). unsigned_abs (slice_index_or (slice_set now place w) r (pos 0)) ≤ 2 ^ 62) same (rw (get_or-set_same now place w (pos 0) h) fits)
    at false e =
        let other : j ≢ place = grind (arith, nat_tests) in
        rw (get_or-set_other now place j w (pos 0) other) (small j)

pub added-all : (ts : Terms) (k : ℕ) (m : ℤ) (old now : List ℤ) → length ts ≤ k → IsAdded ts m k old now → (j : ℕ) → slice_index_or now j (pos 0) ≡ slice_index_or old j (pos 0) +ℤ m *ℤ coefficient j ts
added-all ts k m old now h added j =
    omega (arith, ints, added j, ap (λ (z : ℤ). m *ℤ z) (coefficient-past ts k j h), none_of m)

-- ---- one entry more

share-step : (rows : List Terms) (ends : List Ends) (e : Entry) (es : List Entry) (j : ℕ) → share rows (counted ends (e ∷ es)) j ≡ counting ends e *ℤ coefficient j (slice_index_or rows e.0 []) +ℤ share rows (counted ends es) j
share-step rows ends e es j = by_side (side ends e)
  where
    by_side : (o : Option ℤ) → share rows (cond (is_some o) (e ∷ counted ends es) (counted ends es)) j ≡ cond (is_some o) e.1 (pos 0) *ℤ coefficient j (slice_index_or rows e.0 []) +ℤ share rows (counted ends es) j
    by_side None = omega (arith, ints)
    by_side (Some w) = refl

pub share-more : (rows : List Terms) (ends : List Ends) (es : List Entry) (k : ℕ) (d : Entry) (row : Terms) (m : ℤ) (j : ℕ) (old now : List ℤ) → k < length es → slice_index_or rows (slice_index_or es k d).0 [] ≡ row → m ≡ counting ends (slice_index_or es k d) → share rows (counted ends es) j ≡ slice_index_or old j (pos 0) +ℤ share rows (counted ends (drop k es)) j → slice_index_or now j (pos 0) ≡ slice_index_or old j (pos 0) +ℤ m *ℤ coefficient j row → share rows (counted ends es) j ≡ slice_index_or now j (pos 0) +ℤ share rows (counted ends (drop (suc k) es)) j
share-more rows ends es k d row m j old now h at is before after =
    let step : share rows (counted ends (drop k es)) j ≡ counting ends (slice_index_or es k d) *ℤ coefficient j (slice_index_or rows (slice_index_or es k d).0 []) +ℤ share rows (counted ends (drop (suc k) es)) j = ap (λ (xs : List Entry). share rows (counted ends xs) j) (drop-cons es k d h) ∙ share-step rows ends (slice_index_or es k d) (drop (suc k) es) j in
    let here : counting ends (slice_index_or es k d) *ℤ coefficient j (slice_index_or rows (slice_index_or es k d).0 []) ≡ m *ℤ coefficient j row = ap (λ (z : ℤ). z *ℤ coefficient j (slice_index_or rows (slice_index_or es k d).0 [])) (sym is) ∙ ap (λ (ts : Terms). m *ℤ coefficient j ts) at in
    omega (arith, ints, before, after, step, here)

-- the same where each entry counts
pub share-more_all : (rows : List Terms) (es : List Entry) (k : ℕ) (d : Entry) (row : Terms) (j : ℕ) (old now : List ℤ) → k < length es → slice_index_or rows (slice_index_or es k d).0 [] ≡ row → share rows es j ≡ slice_index_or old j (pos 0) +ℤ share rows (drop k es) j → slice_index_or now j (pos 0) ≡ slice_index_or old j (pos 0) +ℤ (slice_index_or es k d).1 *ℤ coefficient j row → share rows es j ≡ slice_index_or now j (pos 0) +ℤ share rows (drop (suc k) es) j
share-more_all rows es k d row j old now h at before after =
    let step : share rows (drop k es) j ≡ (slice_index_or es k d).1 *ℤ coefficient j (slice_index_or rows (slice_index_or es k d).0 []) +ℤ share rows (drop (suc k) es) j = ap (λ (xs : List Entry). share rows xs j) (drop-cons es k d h) in
    let here : (slice_index_or es k d).1 *ℤ coefficient j (slice_index_or rows (slice_index_or es k d).0 []) ≡ (slice_index_or es k d).1 *ℤ coefficient j row = ap (λ (ts : Terms). (slice_index_or es k d).1 *ℤ coefficient j ts) at in
    omega (arith, ints, before, after, step, here)

pub share-all : (rows : List Terms) (ends : List Ends) (es : List Entry) (k j : ℕ) → length es ≤ k → share rows (counted ends (drop k es)) j ≡ pos 0
share-all rows ends es k j h = ap (λ (xs : List Entry). share rows (counted ends xs) j) (drop_of_length-le es h)

-- the terms of a model's row
pub terms-of : (rows : List Row) (i : ℕ) (r : Row) → slice_get rows i ≡ Some r → slice_index_or (map (λ (q : Row). q.terms) rows) i [] ≡ r.terms
terms-of rows i r at = get_or-map (λ (q : Row). q.terms) rows i r [] (slice_get_within rows i r at) ∙ ap (λ (q : Row). q.terms) (get_or_from_slice_get rows i r r at)

pub zero-at : (n j : ℕ) → slice_index_or (replicate n (pos 0)) j (pos 0) ≡ pos 0
zero-at zero j = refl
zero-at (suc n) zero = refl
zero-at (suc n) (suc j) = zero-at n j
