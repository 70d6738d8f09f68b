-- What rows become, one after another.
use Rattle.std.proofs.Common.{◌≡◌, ◌∙◌, ap, sym, ℕ, ℤ, Bool, true, false, cond, ◌+◌, ◌-◌, length, get_or, take, drop, pos, neg_ℤ, ◌≤◌, unsigned_abs, FitsSigned, w64, List, [], ◌∷◌, ◌++◌, Option, Some, None, refl, arith, append-nil}
use Rattle.std.specs.Prelude.{filter_map, unwrap_or}
use Rattle.std.specs.List.{cons_option}
use Rattle.std.specs.Option.{ForSome}
use Rattle.std.proofs.lemmas.Int.{ints}
use Rattle.num_text.specs.Words.{last_of}
use Rattle.std.proofs.lemmas.List.{take_all}
use Rattle.mps_reader.specs.MpsLines.{Line}
use Rattle.mps_reader.specs.MpsModels.{cost_of, is_not_zero}
use Rattle.mps_reader.specs.EndedColumns.{costs_from}
use Rattle.mps_reader.specs.MadeRows.{row_made, row_with}
use Rattle.mps_reader.specs.declared.row_draft.RowRole.TheVariants.{Kept}
use Rattle.mps_reader.specs.declared.row_draft.RowDraft.{RowDraft}
use Rattle.int_model.specs.declared.model.Row.{Row}
use Rattle.int_model.specs.declared.model.RowSense.{RowSense}
use Rattle.mps_reader.proofs.OpeningLemmas.{filter_map-append}
use Rattle.mps_reader.proofs.BoundLemmas.{last_of-push}

module _ {X Y : Type 0} (f : X → Option Y) (xs : List X) (x : X) where
  pub none_made : f x ≡ None → filter_map f (xs ++ x ∷ []) ≡ filter_map f xs
  none_made e = filter_map-append f xs (x ∷ []) ∙ ap (λ o. filter_map f xs ++ cons_option o []) e ∙ append-nil (filter_map f xs)

  pub one_made : (y : Y) → f x ≡ Some y → filter_map f (xs ++ x ∷ []) ≡ filter_map f xs ++ y ∷ []
  one_made y e = filter_map-append f xs (x ∷ []) ∙ ap (λ o. filter_map f xs ++ cons_option o []) e

  pub last_made : (y : Y) → f x ≡ Some y → last_of (filter_map f (xs ++ x ∷ [])) ≡ Some y
  last_made y e = ap last_of (one_made y e) ∙ last_of-push (filter_map f xs) y

pub fits_negated : (o : Option ℤ) → ForSome o (λ z. unsigned_abs z ≤ 1000000000000000000) → FitsSigned w64 (neg_ℤ (unwrap_or o (pos 0)))
fits_negated None h = omega (arith, ints)
fits_negated (Some z) h = let limit : unsigned_abs z ≤ 1000000000000000000 = h z refl in omega (arith, ints, limit)

pub kept_row : (x : RowDraft) (sense : RowSense) (rhs : ℤ) (terms : List (ℕ × ℤ)) → x.role ≡ Kept sense → rhs ≡ unwrap_or x.rhs (pos 0) → terms ≡ x.terms.items → row_made x ≡ Some (record { name = x.name; sense = sense; rhs = rhs; range = x.range; terms = terms })
kept_row x sense rhs terms role r t =
    ap (λ o. row_with o x) role
    ∙ ap (λ z. Some (record { name = x.name; sense = sense; rhs = z; range = x.range; terms = x.terms.items })) (sym r)
    ∙ ap (λ ts. Some (record { name = x.name; sense = sense; rhs = rhs; range = x.range; terms = ts })) (sym t)

pub row_pushed : (old new : List Row) (ys : List RowDraft) (x : RowDraft) (y : Row) → new ≡ old ++ y ∷ [] → old ≡ filter_map row_made ys → row_made x ≡ Some y → new ≡ filter_map row_made (ys ++ x ∷ [])
row_pushed old new ys x y pushed same e = pushed ∙ ap (λ r. r ++ y ∷ []) same ∙ sym (one_made row_made ys x y e)

-- ---- costs

heads_b : (b : Bool) (k : ℕ) (z : ℤ) (rest : List (ℕ × ℤ)) (t : ℕ × ℤ) (cs : List (ℕ × ℤ)) → (t ∷ cs ≡ rest → k + 1 ≤ t.0) → t ∷ cs ≡ cond b ((k, z) ∷ rest) rest → k ≤ t.0
heads_b true k z rest t cs above e = let same : t ≡ (k, z) = cc in let first : t.0 ≡ k = ap (λ (p : ℕ × ℤ). p.0) same in omega (arith, first)
heads_b false k z rest t cs above e = let h : k + 1 ≤ t.0 = above e in omega (arith, h)

heads_above : (k : ℕ) (ls : List Line) (names : List (List ℕ)) (t : ℕ × ℤ) (cs : List (ℕ × ℤ)) → t ∷ cs ≡ costs_from k ls names → k ≤ t.0
heads_above k ls [] t cs e = absurd (cc)
heads_above k ls (n ∷ names) t cs e = heads_b (is_not_zero (cost_of ls n)) k (cost_of ls n) (costs_from (k + 1) ls names) t cs (λ f. heads_above (k + 1) ls names t cs f) e

head_b : (b : Bool) (k : ℕ) (z : ℤ) (rest : List (ℕ × ℤ)) (t : ℕ × ℤ) (cs : List (ℕ × ℤ)) → (t ∷ cs ≡ rest → k + 1 ≤ t.0) → t.0 ≡ k → t ∷ cs ≡ cond b ((k, z) ∷ rest) rest → (t.1 ≡ z) × (cs ≡ rest)
head_b true k z rest t cs above first e = let same : t ≡ (k, z) = cc in let others : cs ≡ rest = cc in (ap (λ (p : ℕ × ℤ). p.1) same, others)
head_b false k z rest t cs above first e = let h : k + 1 ≤ t.0 = above e in absurd (omega (arith, h, first))

pub cost_head : (costs : List (ℕ × ℤ)) (k : ℕ) (ls : List Line) (name : List ℕ) (names : List (List ℕ)) (d : ℕ × ℤ) → 1 ≤ length costs → (get_or costs 0 d).0 ≡ k → costs ≡ costs_from k ls (name ∷ names) → ((get_or costs 0 d).1 ≡ cost_of ls name) × (take (length costs - 1) (drop 1 costs) ≡ costs_from (k + 1) ls names)
cost_head [] k ls name names d h first e = absurd (omega arith)
cost_head (t ∷ cs) k ls name names d h first e =
    let p = head_b (is_not_zero (cost_of ls name)) k (cost_of ls name) (costs_from (k + 1) ls names) t cs (λ f. heads_above (k + 1) ls names t cs f) first e in
    let all : length (t ∷ cs) - 1 ≡ length cs = omega arith in
    (p.0, ap (λ n. take n cs) all ∙ take_all (length cs) cs (omega arith) ∙ p.1)
