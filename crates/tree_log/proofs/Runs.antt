-- The lines that were taken, one after another.
use Rattle.std.proofs.Common.{◌≡◌, ◌∙◌, ap, sym, refl, ℕ, ◌+◌, ◌≤◌, List, [], ◌∷◌, ◌++◌, length, map, Some, None, arith, append_assoc, length-append}
use Rattle.std.specs.Prelude.{flat_map, option_and_then}
use Rattle.std.proofs.lemmas.List.{append-nil, map-append}
use Rattle.std.proofs.lemmas.Grind.{flat_map-append}
use Rattle.tree_log.specs.Logs.{whole_lines}
use Rattle.tree_log.specs.LineWords.{words_of}
use Rattle.tree_log.specs.Drafts.{Begun, nothing, taken, run}

-- lines with their line feeds
abbrev pub fed : List (List ℕ) → List ℕ
fed ls = flat_map (λ l. l ++ 10 ∷ []) ls

-- the lines before the rest of a text made this draft
pub record Reached (bytes rest : List ℕ) (line : ℕ) (b : Begun) : Type 0 where
  pub front : List (List ℕ)
  pub lines : whole_lines bytes ≡ front ++ whole_lines rest
  pub count : length front ≡ line
  pub text : bytes ≡ fed front ++ rest
  pub ran : run nothing (map words_of front) ≡ Some b
  pub room : line + length rest ≤ length bytes

pub run-append : (b : Begun) (xs ys : List (List (List ℕ))) → run b (xs ++ ys) ≡ option_and_then (λ c. run c ys) (run b xs)
run-append b [] ys = refl
run-append b (ws ∷ xs) ys = elim (taken b ws) as (λ o. option_and_then (λ c. run c (xs ++ ys)) o ≡ option_and_then (λ c. run c ys) (option_and_then (λ c. run c xs) o)) [ None ↦ refl | Some c ↦ run-append c xs ys ]

pub reached_start : (bytes : List ℕ) → Reached bytes bytes 0 nothing
reached_start bytes = record { front = []; lines = refl; count = refl; text = refl; ran = refl; room = omega arith }

one_more : (b c : Begun) (xs : List (List (List ℕ))) (ws : List (List ℕ)) → run nothing xs ≡ Some b → taken b ws ≡ Some c → run nothing (xs ++ ws ∷ []) ≡ Some c
one_more b c xs ws e f = run-append nothing xs (ws ∷ []) ∙ rw (e, f) refl

fed_more : (front : List (List ℕ)) (text rest behind : List ℕ) → rest ≡ text ++ 10 ∷ behind → fed front ++ rest ≡ fed (front ++ text ∷ []) ++ behind
fed_more front text rest behind e =
    ap (λ r. fed front ++ r) (e ∙ sym (append_assoc text (10 ∷ []) behind))
    ∙ sym (append_assoc (fed front) (text ++ 10 ∷ []) behind)
    ∙ ap (λ l. l ++ behind) (ap (λ l. fed front ++ l) (sym (append-nil (text ++ 10 ∷ []))) ∙ sym (flat_map-append (λ (l : List ℕ). l ++ 10 ∷ []) front (text ∷ [])))

pub reached_more : (bytes rest text behind : List ℕ) (line : ℕ) (b c : Begun) → Reached bytes rest line b → whole_lines rest ≡ text ∷ whole_lines behind → rest ≡ text ++ 10 ∷ behind → taken b (words_of text) ≡ Some c → Reached bytes behind (line + 1) c
reached_more bytes rest text behind line b c h lines whole t = record {
  front = h.front ++ text ∷ [];
  lines = h.lines ∙ ap (λ l. h.front ++ l) lines ∙ sym (append_assoc h.front (text ∷ []) (whole_lines behind));
  count = length-append h.front (text ∷ []) ∙ omega (arith, h.count);
  text = h.text ∙ fed_more h.front text rest behind whole;
  ran = ap (run nothing) (map-append words_of h.front (text ∷ [])) ∙ one_more b c (map words_of h.front) (words_of text) h.ran t;
  room = omega (arith, h.room, ap length whole, length-append text (10 ∷ behind));
}
