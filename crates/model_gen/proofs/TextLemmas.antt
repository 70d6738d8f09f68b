-- Texts made of one piece for each number.
use Rattle.std.proofs.Common.{◌≡◌, ◌∙◌, ap, sym, ℕ, suc, ◌+◌, ◌≤◌, List, [], ◌∷◌, ◌++◌, arith}
use Rattle.std.specs.Prelude.{flat_map}
use Rattle.std.specs.List.{range_with_len}
use Rattle.std.proofs.lemmas.List.{append-nil, flat_map_more}
use Rattle.model_gen.specs.Texts.{for_each}
use Rattle.model_gen.proofs.DrawLemmas.{range_more}

pub each_begun : (text : ℕ → List ℕ) (out : List ℕ) → out ≡ out ++ for_each 0 text
each_begun text out = sym (append-nil out)

pub each_more : (text : ℕ → List ℕ) (n : ℕ) (start out new : List ℕ) → out ≡ start ++ for_each n text → new ≡ out ++ text n → new ≡ start ++ for_each (n + 1) text
each_more text n start out new before after =
    let next : suc n ≡ n + 1 = omega arith in
    let place : 0 + n ≡ n = omega arith in
    after
    ∙ ap (λ l. l ++ text n) before
    ∙ flat_map_more text start (range_with_len 0 n) n
    ∙ ap (λ l. start ++ flat_map text l) (ap (λ k. range_with_len 0 n ++ k ∷ []) (sym place) ∙ sym (range_more 0 n) ∙ ap (range_with_len 0) next)

pub each_ended : (text : ℕ → List ℕ) (k n : ℕ) (start out : List ℕ) → k ≤ n → n ≤ k → out ≡ start ++ for_each k text → out ≡ start ++ for_each n text
each_ended text k n start out g h e =
    let same : k ≡ n = omega arith in
    e ∙ ap (λ m. start ++ for_each m text) same
