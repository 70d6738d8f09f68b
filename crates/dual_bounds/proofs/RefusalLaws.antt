-- What is refused: exactly the parts that break a limit.
use Rattle.std.proofs.Common.{◌≡◌, ℕ, ◌+◌, ◌^◌, ◌≤◌, ℤ, pos, unsigned_abs, List, [], ◌∷◌, length, Bool, true, false, nat_lt, Option, Some, None, refl, arith}
use Rattle.std.specs.Prelude.{◌≢◌, ◌||◌, if◌then◌else◌}
use Rattle.std.specs.Ordering.{int_eq}
use Rattle.std.proofs.lemmas.Bool.{false_from_ne_true, le-ltb, both_ways}
use Rattle.std.proofs.lemmas.Bool.Decides.{nat_tests, Decides-int_eq}
use Rattle.dual_bounds.specs.Vectors.{Entry, AreEntries, KeepsLimits}
use Rattle.dual_bounds.specs.Refusals.{is_bad, entries_refusal, refusal}
use Rattle.dual_bounds.specs.declared.vector.VectorError.{VectorError}
use Rattle.dual_bounds.specs.declared.vector.VectorError.TheVariants.{BadScale, TooMany, BadEntry}

or_none : (a b : Bool) → (a || b) ≡ false → (a ≡ false) × (b ≡ false)
or_none true b e = absurd (cc)
or_none false b e = (refl, e)

few : (limit n : ℕ) → nat_lt limit n ≡ false → n ≤ limit
few limit n e = grind (arith, nat_tests)

if_none : (b : Bool) (e : VectorError) (o : Option VectorError) → (if b then Some e else o) ≡ None → (b ≡ false) × (o ≡ None)
if_none true e o h = absurd (cc)
if_none false e o h = (refl, h)

none_if : (b : Bool) (e : VectorError) (o : Option VectorError) → b ≡ false → o ≡ None → (if b then Some e else o) ≡ None
none_if b e o h k = rw h k

not-zero : (z : ℤ) → int_eq z (pos 0) ≡ false → z ≢ pos 0
not-zero z e same = absurd (both_ways (int_eq z (pos 0)) e ((Decides-int_eq z (pos 0)).1 same))

-- an entry that isn't bad
record IsGood (least : ℕ) (e : Entry) : Type 0 where
  pub row : least ≤ e.0
  pub limit : unsigned_abs e.1 ≤ 2 ^ 40
  pub other : e.1 ≢ pos 0

good : (least : ℕ) (e : Entry) → is_bad least e ≡ false → IsGood least e
good least e h =
    let a = or_none (nat_lt e.0 least || nat_lt (2 ^ 40) (unsigned_abs e.1)) (int_eq e.1 (pos 0)) h in
    let b = or_none (nat_lt e.0 least) (nat_lt (2 ^ 40) (unsigned_abs e.1)) a.0 in
    record {
      row = few e.0 least b.0;
      limit = few (2 ^ 40) (unsigned_abs e.1) b.1;
      other = not-zero e.1 a.1;
    }

not-bad : (least : ℕ) (e : Entry) → least ≤ e.0 → unsigned_abs e.1 ≤ 2 ^ 40 → e.1 ≢ pos 0 → is_bad least e ≡ false
not-bad least e row limit other =
    let a : nat_lt e.0 least ≡ false = le-ltb e.0 least row in
    let b : nat_lt (2 ^ 40) (unsigned_abs e.1) ≡ false = le-ltb (2 ^ 40) (unsigned_abs e.1) limit in
    let c : int_eq e.1 (pos 0) ≡ false = false_from_ne_true (int_eq e.1 (pos 0)) (λ h. other ((Decides-int_eq e.1 (pos 0)).0 h)) in
    rw (a, b, c) refl

entries-kept : (place least : ℕ) (es : List Entry) → entries_refusal place least es ≡ None → AreEntries least es
entries-kept place least [] h = tt
entries-kept place least (e ∷ es) h =
    let a = if_none (is_bad least e) (BadEntry place) (entries_refusal (place + 1) (e.0 + 1) es) h in
    let g = good least e a.0 in
    (g.row, g.limit, g.other, entries-kept (place + 1) (e.0 + 1) es a.1)

kept-entries : (place least : ℕ) (es : List Entry) → AreEntries least es → entries_refusal place least es ≡ None
kept-entries place least [] h = refl
kept-entries place least (e ∷ es) h =
    none_if (is_bad least e) (BadEntry place) (entries_refusal (place + 1) (e.0 + 1) es) (not-bad least e h.0 h.1 h.2) (kept-entries (place + 1) (e.0 + 1) es h.3)

pub unrefused-keeps : (scale : ℕ) (es : List Entry) → refusal scale es ≡ None → KeepsLimits (record { scale = scale; entries = es })
unrefused-keeps scale es h =
    let a = if_none (nat_lt (2 ^ 20) scale) BadScale (if nat_lt 128 (length es) then Some TooMany else entries_refusal 0 0 es) h in
    let b = if_none (nat_lt 128 (length es)) TooMany (entries_refusal 0 0 es) a.1 in
    record {
      scale = few (2 ^ 20) scale a.0;
      few = few 128 (length es) b.0;
      entries = entries-kept 0 0 es b.1;
    }

pub keeps-unrefused : (scale : ℕ) (es : List Entry) → KeepsLimits (record { scale = scale; entries = es }) → refusal scale es ≡ None
keeps-unrefused scale es k =
    none_if (nat_lt (2 ^ 20) scale) BadScale (if nat_lt 128 (length es) then Some TooMany else entries_refusal 0 0 es) (le-ltb (2 ^ 20) scale k.scale)
    (none_if (nat_lt 128 (length es)) TooMany (entries_refusal 0 0 es) (le-ltb 128 (length es) k.few) (kept-entries 0 0 es k.entries))
