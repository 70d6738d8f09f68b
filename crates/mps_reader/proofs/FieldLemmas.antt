-- The fields of a line have bytes.
use Rattle.std.proofs.Common.{◌≡◌, ◌<◌, ap, ℕ, List, [], ◌∷◌, map, length, Bor, arith}
use Rattle.std.specs.List.{filter, All, slice_split}
use Rattle.std.proofs.lemmas.List.Elements.{All-cons}
use Rattle.num_text.specs.Lines.{fields_of, is_blank, is_nonempty}

abbrev HasBytes : Bor (List ℕ) → Type 0
HasBytes f = 0 < length f.now

kept_have_bytes : (pieces : List (List ℕ)) (fs : List (Bor (List ℕ))) → map (λ f. f.now) fs ≡ filter is_nonempty pieces → All HasBytes fs
kept_have_bytes pieces [] e = λ k d h. absurd (omega arith)
kept_have_bytes [] (f ∷ fs) e = absurd (cc)
kept_have_bytes ([] ∷ pieces) (f ∷ fs) e = kept_have_bytes pieces (f ∷ fs) e
kept_have_bytes ((b ∷ bytes) ∷ pieces) (f ∷ fs) e =
    let here : f.now ≡ b ∷ bytes = cc in
    let rest : map (λ f. f.now) fs ≡ filter is_nonempty pieces = cc in
    All-cons HasBytes f fs (omega (arith, ap length here)) (kept_have_bytes pieces fs rest)

pub fields_have_bytes : (line : List ℕ) (fs : List (Bor (List ℕ))) → map (λ f. f.now) fs ≡ fields_of line → All (λ f. 0 < length f.now) fs
fields_have_bytes line fs e = kept_have_bytes (slice_split is_blank line) fs e
