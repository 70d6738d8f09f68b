-- Fields of a known number, one by one.
use Rattle.std.proofs.Common.{◌≡◌, ◌∙◌, ap, ◌≤◌, ◌<◌, ℕ, List, [], ◌∷◌, map, length, get_or, Bor, refl, arith}
use Rattle.std.specs.Prelude.{slice_index_or}
use Rattle.mps_reader.specs.MpsLines.{Line, field}

pub fields2 : (fs : List (Bor (List ℕ))) (d e : Bor (List ℕ)) → 2 ≤ length fs → length fs < 3 → map (λ f. f.now) fs ≡ (get_or fs 0 d).now ∷ (get_or fs 1 e).now ∷ []
fields2 [] d e h k = absurd (omega arith)
fields2 (a ∷ []) d e h k = absurd (omega arith)
fields2 (a ∷ b ∷ []) d e h k = refl
fields2 (a ∷ b ∷ x ∷ fs) d e h k = absurd (omega arith)

pub fields3 : (fs : List (Bor (List ℕ))) (d e f : Bor (List ℕ)) → 3 ≤ length fs → length fs < 4 → map (λ f. f.now) fs ≡ (get_or fs 0 d).now ∷ (get_or fs 1 e).now ∷ (get_or fs 2 f).now ∷ []
fields3 [] d e f h k = absurd (omega arith)
fields3 (a ∷ []) d e f h k = absurd (omega arith)
fields3 (a ∷ b ∷ []) d e f h k = absurd (omega arith)
fields3 (a ∷ b ∷ x ∷ []) d e f h k = refl
fields3 (a ∷ b ∷ x ∷ y ∷ fs) d e f h k = absurd (omega arith)

pub fields4 : (fs : List (Bor (List ℕ))) (d e f g : Bor (List ℕ)) → 4 ≤ length fs → length fs < 5 → map (λ f. f.now) fs ≡ (get_or fs 0 d).now ∷ (get_or fs 1 e).now ∷ (get_or fs 2 f).now ∷ (get_or fs 3 g).now ∷ []
fields4 [] d e f g h k = absurd (omega arith)
fields4 (a ∷ []) d e f g h k = absurd (omega arith)
fields4 (a ∷ b ∷ []) d e f g h k = absurd (omega arith)
fields4 (a ∷ b ∷ x ∷ []) d e f g h k = absurd (omega arith)
fields4 (a ∷ b ∷ x ∷ y ∷ []) d e f g h k = refl
fields4 (a ∷ b ∷ x ∷ y ∷ z ∷ fs) d e f g h k = absurd (omega arith)

pub fields5 : (fs : List (Bor (List ℕ))) (d e f g i : Bor (List ℕ)) → 5 ≤ length fs → length fs < 6 → map (λ f. f.now) fs ≡ (get_or fs 0 d).now ∷ (get_or fs 1 e).now ∷ (get_or fs 2 f).now ∷ (get_or fs 3 g).now ∷ (get_or fs 4 i).now ∷ []
fields5 [] d e f g i h k = absurd (omega arith)
fields5 (a ∷ []) d e f g i h k = absurd (omega arith)
fields5 (a ∷ b ∷ []) d e f g i h k = absurd (omega arith)
fields5 (a ∷ b ∷ x ∷ []) d e f g i h k = absurd (omega arith)
fields5 (a ∷ b ∷ x ∷ y ∷ []) d e f g i h k = absurd (omega arith)
fields5 (a ∷ b ∷ x ∷ y ∷ z ∷ []) d e f g i h k = refl
fields5 (a ∷ b ∷ x ∷ y ∷ z ∷ w ∷ fs) d e f g i h k = absurd (omega arith)

pub first_of_two : (l : Line) (fs : List (Bor (List ℕ))) (d : Bor (List ℕ)) → l.fields ≡ map (λ f. f.now) fs → 2 ≤ length fs → length fs < 3 → field 0 l ≡ (get_or fs 0 d).now
first_of_two l fs d f h k = ap (λ words. slice_index_or words 0 []) (f ∙ fields2 fs d d h k)

pub second_of_two : (l : Line) (fs : List (Bor (List ℕ))) (d : Bor (List ℕ)) → l.fields ≡ map (λ f. f.now) fs → 2 ≤ length fs → length fs < 3 → field 1 l ≡ (get_or fs 1 d).now
second_of_two l fs d f h k = ap (λ words. slice_index_or words 1 []) (f ∙ fields2 fs d d h k)
