-- What a row leaves of an interval, by the numbers that the code takes.
use Rattle.std.specs.Prelude.{◌≡◌, ℕ, zero, suc, ◌*◌, ◌^◌, ◌≤◌, ℤ, pos, negsuc, ◌+ℤ◌, ◌-ℤ◌, ◌*ℤ◌, neg_ℤ, ◌≤ℤ◌, unsigned_abs, Some, refl}
use Rattle.std.proofs.Common.{arith, ap, ◌∙◌, subst, FitsSigned, w64}
use Rattle.std.proofs.Math.Nat.{mul-le-mul}
use Rattle.std.proofs.lemmas.Int.{ints, clamps, unsigned_abs-mul, fits_signed_from_abs}
use Rattle.std.specs.Int.{int_div_euclid, int_min, int_max}
use Rattle.int_model.specs.Limits.{IsBound, IsEntry}
use Rattle.int_model.specs.Boxes.{Interval}
use Rattle.int_model.specs.RowSums.{least_product}
use Rattle.int_model.proofs.IntegerLaws.{neg-mul, div-above, div-below}
use Rattle.activity.proofs.ProductLemmas.{ends-above, ends-below}
use Rattle.tighten.proofs.SumChanges.{mul-sub}
use Rattle.tighten.specs.Cuts.{IsCut, interval}
use Rattle.tighten.specs.Replay.{narrowed}
use Rattle.tighten.specs.Steps.{IsLeft}
use Rattle.tighten.specs.declared.narrowing.Narrowing.{Narrowing}

-- ---- the product of a coefficient and a width

pub spread-limit : (a l h : ℤ) → IsEntry a → IsBound l → IsBound h → unsigned_abs (pos (unsigned_abs a) *ℤ (h -ℤ l)) ≤ 2 * 10 ^ 15
spread-limit a l h ha hl hh =
    let width : unsigned_abs (h -ℤ l) ≤ 2 * 10 ^ 6 = omega (arith, ints, hl, hh) in
    let size : unsigned_abs (pos (unsigned_abs a)) ≤ 10 ^ 9 = omega (arith, ints, ha) in
    rw unsigned_abs-mul (mul-le-mul size width)

pub spread-fits : (a l h : ℤ) → IsEntry a → IsBound l → IsBound h → FitsSigned w64 (pos (unsigned_abs a) *ℤ (h -ℤ l))
spread-fits a l h ha hl hh = fits_signed_from_abs w64 _ (omega (arith, spread-limit a l h ha hl hh))

-- ---- an interval that a row leaves alone

wide_high : (n : ℕ) (s l h : ℤ) → l ≤ℤ h → (pos (suc n) *ℤ (h -ℤ l)) ≤ℤ s → h ≤ℤ int_div_euclid (s +ℤ least_product (pos (suc n)) (interval l h)) (pos (suc n))
wide_high n s l h o k =
    div-above n (s +ℤ least_product (pos (suc n)) (interval l h)) h (omega (arith, ints, k, mul-sub (pos (suc n)) h l, (ends-above (pos (suc n)) (interval l h) (omega (arith, ints)) o).least))

wide_low : (n : ℕ) (s l h : ℤ) → l ≤ℤ h → (pos (suc n) *ℤ (h -ℤ l)) ≤ℤ s → int_div_euclid (s +ℤ least_product (negsuc n) (interval l h)) (negsuc n) ≤ℤ l
wide_low n s l h o k =
    let turned : negsuc n *ℤ (h -ℤ l) ≡ neg_ℤ (pos (suc n) *ℤ (h -ℤ l)) = neg-mul (pos (suc n)) (h -ℤ l) in
    let parts : negsuc n *ℤ (h -ℤ l) ≡ negsuc n *ℤ h -ℤ negsuc n *ℤ l = mul-sub (negsuc n) h l in
    div-below n (s +ℤ least_product (negsuc n) (interval l h)) l (omega (arith, ints, k, turned, parts, (ends-below (negsuc n) (interval l h) (omega (arith, ints)) o).least))

cut_none : (a s l h : ℤ) → l ≤ℤ h → (pos (unsigned_abs a) *ℤ (h -ℤ l)) ≤ℤ s → narrowed a (s +ℤ least_product a (interval l h)) (interval l h) ≡ interval l h
cut_none (pos zero) s l h o k = refl
cut_none (pos (suc n)) s l h o k =
    let q : ℤ = int_div_euclid (s +ℤ least_product (pos (suc n)) (interval l h)) (pos (suc n)) in
    let same : int_min h q ≡ h = omega (arith, ints, clamps, wide_high n s l h o k) in
    ap (interval l) same
cut_none (negsuc n) s l h o k =
    let q : ℤ = int_div_euclid (s +ℤ least_product (negsuc n) (interval l h)) (negsuc n) in
    let same : int_max l q ≡ l = omega (arith, ints, clamps, wide_low n s l h o k) in
    ap (λ (z : ℤ). interval z h) same

pub cut-none : (a s l h w : ℤ) → l ≤ℤ h → w ≡ pos (unsigned_abs a) *ℤ (h -ℤ l) → w ≤ℤ s → narrowed a (s +ℤ least_product a (interval l h)) (interval l h) ≡ interval l h
cut-none a s l h w o e k = cut_none a s l h o (subst (λ (z : ℤ). z ≤ℤ s) e k)

-- the part that is left, by its ends
pub cut-left : (i k : Interval) (first last : ℤ) (r : Narrowing) → IsLeft i (Some (first, last)) → IsCut (interval first last) k r → IsCut i k r
cut-left i k first last r e cut =
    let same : interval first last ≡ i = ap (λ (z : ℤ). interval z last) e.0 ∙ ap (interval i.low) e.1 in
    subst (λ (v : Interval). IsCut v k r) same cut
