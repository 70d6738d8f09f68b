-- One term more, and one row more, under the columns.
use Rattle.std.proofs.Common.{◌≡◌, ◌≢◌, ◌∙◌, ap, sym, ℕ, suc, ◌+◌, ◌<◌, ◌==◌, ℤ, true, false, List, [], ◌∷◌, ◌++◌, length, get_or, set, take, Vec, refl, inl, inr, get_or-set_same, get_or-set_other, append_assoc, arith, add-zero, length-take}
use Rattle.std.specs.declared.alloc.Global.{Global}
use Rattle.std.specs.List.{All}
use Rattle.std.proofs.lemmas.List.{take_more, append-nil, get_or_default}
use Rattle.std.proofs.lemmas.List.Elements.{filter_map-append, All-nil, All-cons}
use Rattle.std.proofs.lemmas.Bool.Decides.{eqb_tells}
use Rattle.int_model.specs.Programs.{Terms, AreTerms}
use Rattle.int_model.specs.ByColumn.{column_term, column_part, column_terms}

part_more : (j i k : ℕ) (ts : List (ℕ × ℤ)) (d : ℕ × ℤ) → k < length ts → column_part j i (take (k + 1) ts) ≡ column_part j i (take k ts) ++ column_part j i (get_or ts k d ∷ [])
part_more j i k ts d h = ap (column_part j i) (take_more ts k d h) ∙ filter_map-append (column_term j i) (take k ts) (get_or ts k d ∷ [])

here : (j i : ℕ) (t : ℕ × ℤ) → (t.0 == j) ≡ true → column_part j i (t ∷ []) ≡ (i, t.1) ∷ []
here j i t e = rw e refl

elsewhere : (j i : ℕ) (t : ℕ × ℤ) → (t.0 == j) ≡ false → column_part j i (t ∷ []) ≡ []
elsewhere j i t e = rw e refl

-- the table after one more term
pub term_put : (before table : List (Vec (ℕ × ℤ) Global)) (ts : List (ℕ × ℤ)) (i k j : ℕ) (t : ℕ × ℤ) (v d e : Vec (ℕ × ℤ) Global) → k < length ts → t ≡ get_or ts k t → t.0 < length table → length before ≡ length table → ((c : ℕ) (f : Vec (ℕ × ℤ) Global) → c < length table → (get_or table c f).items ≡ (get_or before c f).items ++ column_part c i (take k ts)) → v.items ≡ (get_or table t.0 e).items ++ (i, t.1) ∷ [] → j < length table → (get_or (set table t.0 v) j d).items ≡ (get_or before j d).items ++ column_part j i (take (k + 1) ts)
term_put before table ts i k j t v d e h is inside same_length so_far pushed within =
    elim (eqb_tells t.0 j) [
      | inl same ↦
          rw (← same.1) (rw get_or-set_same (pushed ∙ ap (λ l. l ++ (i, t.1) ∷ []) (so_far t.0 e inside) ∙ append_assoc (get_or before t.0 e).items (column_part t.0 i (take k ts)) ((i, t.1) ∷ []) ∙ same_default ∙ ap (λ l. (get_or before t.0 d).items ++ l) (ap (λ l. column_part t.0 i (take k ts) ++ l) (sym (here t.0 i t (rw (← same.1) at same.0)) ∙ ap (λ q. column_part t.0 i (q ∷ [])) is) ∙ sym (part_more t.0 i k ts t h))))
      | inr other ↦
          let apart : j ≢ t.0 = λ q. other.1 (sym q) in
          rw get_or-set_other (so_far j d within ∙ ap (λ l. (get_or before j d).items ++ l) (sym (append-nil (column_part j i (take k ts))) ∙ ap (λ l. column_part j i (take k ts) ++ l) (sym (elsewhere j i t other.0) ∙ ap (λ q. column_part j i (q ∷ [])) is) ∙ sym (part_more j i k ts t h)))
    ]
  where
    same_default : (get_or before t.0 e).items ++ (column_part t.0 i (take k ts) ++ (i, t.1) ∷ []) ≡ (get_or before t.0 d).items ++ (column_part t.0 i (take k ts) ++ (i, t.1) ∷ [])
    same_default = ap (λ (w : Vec (ℕ × ℤ) Global). w.items ++ (column_part t.0 i (take k ts) ++ (i, t.1) ∷ [])) (get_or_default before t.0 e d (omega arith))

-- the terms in the rows up to one more
pub terms-append : (j i : ℕ) (rows more : List Terms) → column_terms j i (rows ++ more) ≡ column_terms j i rows ++ column_terms j (i + length rows) more
terms-append j i [] more = rw add-zero refl
terms-append j i (r ∷ rows) more =
    let next : i + 1 + length rows ≡ i + suc (length rows) = omega arith in
    ap (λ l. column_part j i r ++ l) (terms-append j (i + 1) rows more)
    ∙ sym (append_assoc (column_part j i r) (column_terms j (i + 1) rows) (column_terms j (i + 1 + length rows) more))
    ∙ ap (λ n. (column_part j i r ++ column_terms j (i + 1) rows) ++ column_terms j n more) next

pub terms_more : (j k : ℕ) (rows : List Terms) (d : Terms) → k < length rows → column_terms j 0 (take (k + 1) rows) ≡ column_terms j 0 (take k rows) ++ column_part j k (get_or rows k d)
terms_more j k rows d h =
    let here_is : 0 + length (take k rows) ≡ k = simp length-take (omega arith) in
    ap (column_terms j 0) (take_more rows k d h)
    ∙ terms-append j 0 (take k rows) (get_or rows k d ∷ [])
    ∙ ap (λ n. column_terms j 0 (take k rows) ++ (column_part j n (get_or rows k d) ++ [])) here_is
    ∙ ap (λ l. column_terms j 0 (take k rows) ++ l) (append-nil (column_part j k (get_or rows k d)))

-- a column after one more row
pub row_put : (rows : List Terms) (j i : ℕ) (row read old new : Terms) → i < length rows → read ≡ get_or rows i row → old ≡ column_terms j 0 (take i rows) → new ≡ old ++ column_part j i read → new ≡ column_terms j 0 (take (i + 1) rows)
row_put rows j i row read old new h is so_far pushed =
    pushed
    ∙ ap (λ (ts : Terms). ts ++ column_part j i read) so_far
    ∙ ap (λ (ts : Terms). column_terms j 0 (take i rows) ++ column_part j i ts) is
    ∙ sym (terms_more j i rows row h)

pub terms_below : (least n : ℕ) (ts : List (ℕ × ℤ)) → AreTerms least n ts → All (λ t. t.0 < n) ts
terms_below least n [] h = All-nil (λ t. t.0 < n)
terms_below least n (t ∷ ts) h = All-cons (λ t. t.0 < n) t ts h.1 (terms_below (t.0 + 1) n ts h.4)
