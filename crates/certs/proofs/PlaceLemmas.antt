-- The vectors of places that are all taken.
use Rattle.std.specs.Prelude.{◌≡◌, ℕ, zero, suc, ◌<◌, ◌≤◌, List, [], ◌∷◌, ◌++◌, length, slice_get, Option, Some, None, refl}
use Rattle.std.proofs.Common.{arith, ap, ◌∙◌}
use Rattle.smallvec.specs.SmallVec.{SmallVec}
use Rattle.dual_bounds.specs.Vectors.{Multipliers}
use Rattle.certs.specs.Places.{held, AreTaken, IsHeld}

pub length-held : (places : List (Option Multipliers)) → AreTaken places → length (held places) ≡ length places
length-held [] h = refl
length-held (None ∷ places) h = absurd h
length-held (Some v ∷ places) h = ap suc (length-held places h)

pub held-push : (places : List (Option Multipliers)) (v : Multipliers) → AreTaken places → held (places ++ Some v ∷ []) ≡ held places ++ v ∷ []
held-push [] v h = refl
held-push (None ∷ places) v h = absurd h
held-push (Some w ∷ places) v h = ap (λ (vs : List Multipliers). w ∷ vs) (held-push places v h)

taken-push : (places : List (Option Multipliers)) (v : Multipliers) → AreTaken places → AreTaken (places ++ Some v ∷ [])
taken-push [] v h = tt
taken-push (None ∷ places) v h = absurd h
taken-push (Some w ∷ places) v h = taken-push places v h

length-push : (places : List (Option Multipliers)) (o : Option Multipliers) → length (places ++ o ∷ []) ≡ suc (length places)
length-push [] o = refl
length-push (p ∷ places) o = ap suc (length-push places o)

pub pushed : (v w : SmallVec (Option Multipliers)) (x : Multipliers) → IsHeld v → length (held v.items) < 2 → w.items ≡ v.items ++ Some x ∷ [] → w.capacity ≡ v.capacity → IsHeld w
pushed v w x h few e c = record {
  few = omega (arith, few, length-held v.items h.taken, ap length e, length-push v.items (Some x));
  taken = rw e (taken-push v.items x h.taken);
  room = c ∙ h.room;
}

pub held-past : (places : List (Option Multipliers)) (k : ℕ) → AreTaken places → length places ≤ k → slice_get (held places) k ≡ None
held-past [] k h e = refl
held-past (None ∷ places) k h e = absurd h
held-past (Some w ∷ places) zero h e = absurd (omega arith)
held-past (Some w ∷ places) (suc k) h e = held-past places k h (omega arith)
