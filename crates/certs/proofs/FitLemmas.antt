-- Vectors whose rows are a model's.
use Rattle.std.specs.Prelude.{◌≡◌, ◌<◌, ◌&&◌, ℕ, zero, suc, Bool, true, false, List, [], ◌∷◌, nat_lt, slice_get, Some, refl}
use Rattle.std.specs.List.{list_all}
use Rattle.std.proofs.Common.{arith, ap, ◌∙◌}
use Rattle.std.proofs.lemmas.Bool.{and_parts}
use Rattle.std.proofs.lemmas.Bool.Decides.{nat_tests}
use Rattle.dual_bounds.specs.Vectors.{Entry, Multipliers, RowsBelow}
use Rattle.certs.specs.Trees.{vector_within}
use Rattle.certs.specs.Verdicts.{AllRowsBelow}

-- one element that fails the test
pub list_all-not : {X : Type 0} (p : X → Bool) (xs : List X) (k : ℕ) (x : X) → slice_get xs k ≡ Some x → p x ≡ false → false ≡ list_all p xs
list_all-not p [] k x e f = absurd (cc)
list_all-not p (y ∷ xs) zero x e f =
    let same : y ≡ x = cc in
    let own : p y ≡ false = ap p same ∙ f in rw own refl
list_all-not p (y ∷ xs) (suc k) x e f = by_head (p y) (list_all-not p xs k x e f)
  where
    by_head : (b : Bool) → false ≡ list_all p xs → false ≡ (b && list_all p xs)
    by_head true r = r
    by_head false r = refl

rows-below : (n : ℕ) (entries : List Entry) → list_all (λ (e : Entry). nat_lt e.0 n) entries ≡ true → RowsBelow n entries
rows-below n [] e = tt
rows-below n (f ∷ entries) e =
    let t = and_parts (nat_lt f.0 n) (list_all (λ (z : Entry). nat_lt z.0 n) entries) e in
    let row : f.0 < n = grind (arith, nat_tests, t.0) in
    (row, rows-below n entries t.1)

pub vectors-within : (n : ℕ) (vectors : List Multipliers) → list_all (vector_within n) vectors ≡ true → AllRowsBelow n vectors
vectors-within n [] e = tt
vectors-within n (v ∷ vectors) e =
    let t = and_parts (vector_within n v) (list_all (vector_within n) vectors) e in
    (rows-below n v.entries t.0, vectors-within n vectors t.1)
