-- What is read of a line is what the line is the text of.
use Rattle.std.proofs.Common.{◌≡◌, ◌∙◌, ap, sym, refl, subst, ℕ, ◌^◌, ℤ, Bool, true, false, ◌&&◌, cond, nat_eq, List, [], ◌∷◌, ◌++◌, length, map, Option, Some, None, arith, inl, inr, ◌⊎◌, append_assoc}
use Rattle.std.specs.Prelude.{option_and_then, option_map, codes, bytes_eq}
use Rattle.std.specs.List.{list_all}
use Rattle.std.proofs.lemmas.List.{append-nil}
use Rattle.std.proofs.lemmas.Bool.Decides.{nat_tests}
use Rattle.num_text.specs.NumberText.{integer_text}
use Rattle.scenario_changes.specs.declared.answer.Answer.{Answer}
use Rattle.scenario_changes.specs.declared.answer.Answer.TheVariants.{Infeasible, Optimal, Limit}
use Rattle.tree_log.specs.LogText.{claim_words}
use Rattle.tree_log.specs.HasText.{is_within, point_has_text, answer_has_text}
use Rattle.tree_log.specs.LineWords as line
use Rattle.tree_log.proofs.WordLaws.{bind_some, map_some, some_same, kept, all, eq_test, word_is, behind_some, within_of-only, abs_within}

pub choose : {X : Type 0} (b : Bool) (o p : Option X) (x : X) → cond b o p ≡ Some x → ((b ≡ true) × (o ≡ Some x)) ⊎ (p ≡ Some x)
choose true o p x e = inl (refl, e)
choose false o p x e = inr e

pub counted_some : {X : Type 0} (n : ℕ) (xs ys : List X) → line.counted n xs ≡ Some ys → (length xs ≡ n) × (xs ≡ ys)
counted_some n xs ys e =
    let h = kept (nat_eq (length xs) n) (Some xs) ys e in
    (eq_test (length xs) n h.0, some_same xs ys h.1)

pub two_words : (v w : List ℕ) (x y : List (List ℕ)) → v ≡ w → x ≡ y → v ∷ x ≡ w ∷ y
two_words v w x y e f = rw (e, f) refl

-- ---- points and claims

record Numbers (zs out : List ℤ) (ws : List (List ℕ)) : Type 0 where
  more : List ℤ
  front : out ≡ zs ++ more
  words : ws ≡ map integer_text more
  fit : list_all (is_within 1000000) more ≡ true

numbers_read : (zs : List ℤ) (ws : List (List ℕ)) (out : List ℤ) → line.integers_after 1000000 zs ws ≡ Some out → Numbers zs out ws
numbers_read zs [] out e = record { more = []; front = sym (some_same zs out e) ∙ sym (append-nil zs); words = refl; fit = refl }
numbers_read zs (w ∷ ws) out e =
    let read = bind_some (λ (z : ℤ). line.integers_after 1000000 (zs ++ z ∷ []) ws) (line.within_of 1000000 w) out e in
    let rest : Numbers (zs ++ read.0 ∷ []) out ws = numbers_read (zs ++ read.0 ∷ []) ws out read.2 in
    let word = within_of-only 1000000 read.0 w (omega arith) read.1 in
    record {
      more = read.0 ∷ rest.more;
      front = rest.front ∙ append_assoc zs (read.0 ∷ []) rest.more;
      words = two_words w (integer_text read.0) ws (map integer_text rest.more) word.1 rest.words;
      fit = all (is_within 1000000 read.0) (list_all (is_within 1000000) rest.more) (abs_within 1000000 read.0 word.0) rest.fit;
    }

point_read : (columns : ℕ) (ws : List (List ℕ)) (x : List ℤ) → line.point_of columns ws ≡ Some x → (ws ≡ map integer_text x) × (point_has_text columns x ≡ true)
point_read columns ws x e =
    let read = bind_some (line.counted columns) (line.integers_after 1000000 [] ws) x e in
    let count = counted_some columns read.0 x read.2 in
    let numbers : Numbers [] read.0 ws = numbers_read [] ws read.0 read.1 in
    let same : x ≡ numbers.more = sym count.1 ∙ numbers.front in
    let long : length x ≡ columns = ap length (sym count.1) ∙ count.0 in
    let fits : list_all (is_within 1000000) x ≡ true = ap (list_all (is_within 1000000)) same ∙ numbers.fit in
    (numbers.words ∙ ap (map integer_text) (sym same), all (nat_eq (length x) columns) (list_all (is_within 1000000) x) (rw long (same_test columns)) fits)
  where
    same_test : (n : ℕ) → nat_eq n n ≡ true
    same_test n = grind (arith, nat_tests)

value_read : (w : List ℕ) (v : ℤ) → line.within_of (2 ^ 60) w ≡ Some v → (w ≡ integer_text v) × (is_within (2 ^ 60) v ≡ true)
value_read w v e =
    let read = within_of-only (2 ^ 60) v w (omega arith) e in
    (read.1, abs_within (2 ^ 60) v read.0)

IsClaim : ℕ → List (List ℕ) → Answer → Type 0
unfolding claim_words
IsClaim columns ws a = (ws ≡ claim_words a) × (answer_has_text columns a ≡ true)

infeasible_read : (columns : ℕ) (ws : List (List ℕ)) (a : Answer) → line.infeasible_of ws ≡ Some a → IsClaim columns (codes "infeasible" ∷ ws) a
unfolding IsClaim claim_words
infeasible_read columns [] a e = rw (← some_same Infeasible a e) (refl, refl)
infeasible_read columns (w ∷ ws) a e = absurd (cc)

optimal_read : (columns : ℕ) (ws : List (List ℕ)) (a : Answer) → line.optimal_of columns ws ≡ Some a → IsClaim columns (codes "optimal" ∷ ws) a
unfolding IsClaim claim_words
optimal_read columns [] a e = absurd (cc)
optimal_read columns (w ∷ ws) a e =
    let value = bind_some (λ (v : ℤ). option_map (λ (x : List ℤ). Optimal x v) (line.point_of columns ws)) (line.within_of (2 ^ 60) w) a e in
    let point = map_some (λ (x : List ℤ). Optimal x value.0) (line.point_of columns ws) a value.2 in
    let first = value_read w value.0 value.1 in
    let numbers = point_read columns ws point.0 point.1 in
    subst (IsClaim columns (codes "optimal" ∷ w ∷ ws)) point.2
    (ap (λ l. codes "optimal" ∷ l) (two_words w (integer_text value.0) ws (map integer_text point.0) first.0 numbers.0), all (point_has_text columns point.0) (is_within (2 ^ 60) value.0) numbers.1 first.1)

bound_read : (columns : ℕ) (ws : List (List ℕ)) (a : Answer) → line.bound_of ws ≡ Some a → IsClaim columns (codes "limit" ∷ codes "none" ∷ ws) a
unfolding IsClaim claim_words
bound_read columns [] a e = absurd (cc)
bound_read columns (w ∷ v ∷ ws) a e = absurd (cc)
bound_read columns (w ∷ []) a e =
    let bound = map_some (λ (b : ℤ). Limit None b) (line.within_of (2 ^ 60) w) a e in
    let first = value_read w bound.0 bound.1 in
    subst (IsClaim columns (codes "limit" ∷ codes "none" ∷ w ∷ [])) bound.2
    (ap (λ l. codes "limit" ∷ codes "none" ∷ l ∷ []) first.0, first.1)

found_read : (columns : ℕ) (value : List ℕ) (ws : List (List ℕ)) (a : Answer) → line.found_of columns value ws ≡ Some a → IsClaim columns (codes "limit" ∷ value ∷ ws) a
unfolding IsClaim claim_words
found_read columns value [] a e = absurd (cc)
found_read columns value (w ∷ ws) a e =
    let one = bind_some (λ (v : ℤ). option_and_then (λ (b : ℤ). option_map (λ (x : List ℤ). Limit (Some (x, v)) b) (line.point_of columns ws)) (line.within_of (2 ^ 60) w)) (line.within_of (2 ^ 60) value) a e in
    let two = bind_some (λ (b : ℤ). option_map (λ (x : List ℤ). Limit (Some (x, one.0)) b) (line.point_of columns ws)) (line.within_of (2 ^ 60) w) a one.2 in
    let point = map_some (λ (x : List ℤ). Limit (Some (x, one.0)) two.0) (line.point_of columns ws) a two.2 in
    let first = value_read value one.0 one.1 in
    let second = value_read w two.0 two.1 in
    let numbers = point_read columns ws point.0 point.1 in
    subst (IsClaim columns (codes "limit" ∷ value ∷ w ∷ ws)) point.2 (
      ap (λ l. codes "limit" ∷ l) (two_words value (integer_text one.0) (w ∷ ws) (integer_text two.0 ∷ map integer_text point.0) first.0 (two_words w (integer_text two.0) ws (map integer_text point.0) second.0 numbers.0)),
      all (point_has_text columns point.0 && is_within (2 ^ 60) one.0) (is_within (2 ^ 60) two.0) (all (point_has_text columns point.0) (is_within (2 ^ 60) one.0) numbers.1 first.1) second.1,
    )

limit_read : (columns : ℕ) (ws : List (List ℕ)) (a : Answer) → line.limit_of columns ws ≡ Some a → IsClaim columns (codes "limit" ∷ ws) a
limit_read columns [] a e = absurd (cc)
limit_read columns (w ∷ ws) a e = elim (choose (bytes_eq w (codes "none")) (line.bound_of ws) (line.found_of columns w ws) a e) [
  | inl none ↦ rw (word_is w (codes "none") none.0) (bound_read columns ws a none.1)
  | inr some ↦ found_read columns w ws a some
]

answer_read : (columns : ℕ) (ws : List (List ℕ)) (a : Answer) → line.answer_of columns ws ≡ Some a → IsClaim columns ws a
answer_read columns [] a e = absurd (cc)
answer_read columns (w ∷ ws) a e = elim (choose (bytes_eq w (codes "infeasible")) (line.infeasible_of ws) _ a e) [
  | inl one ↦ rw (word_is w (codes "infeasible") one.0) (infeasible_read columns ws a one.1)
  | inr more ↦ elim (choose (bytes_eq w (codes "optimal")) (line.optimal_of columns ws) _ a more) [
    | inl two ↦ rw (word_is w (codes "optimal") two.0) (optimal_read columns ws a two.1)
    | inr last ↦
        let three = kept (bytes_eq w (codes "limit")) (line.limit_of columns ws) a last in
        rw (word_is w (codes "limit") three.0) (limit_read columns ws a three.1)
  ]
]

pub claim_read : (columns : ℕ) (ws : List (List ℕ)) (a : Answer) → line.claim_of columns ws ≡ Some a → (ws ≡ codes "claim" ∷ claim_words a) × (answer_has_text columns a ≡ true)
unfolding IsClaim
claim_read columns ws a e =
    let words = bind_some (line.answer_of columns) (line.behind (codes "claim") ws) a e in
    let read = answer_read columns words.0 a words.2 in
    (behind_some (codes "claim") ws words.0 words.1 ∙ ap (λ l. codes "claim" ∷ l) read.0, read.1)
