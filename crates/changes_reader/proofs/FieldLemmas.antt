-- The fields of a line of a text.
use Rattle.std.proofs.Common.{◌≡◌, sym, subst, ℕ, Bool, cond, true, false, ◌||◌, List, [], ◌∷◌, map, filter, Bor, refl, arith, inl, inr}
use Rattle.std.specs.List.{slice_split, onto_first, list_any, All}
use Rattle.std.proofs.lemmas.List.Elements.{All-cons}
use Rattle.std.proofs.lemmas.Bool.{cases_Bool}
use Rattle.num_text.specs.Lines.{is_blank, is_line_feed, is_nonempty, without_last_empty, lines_of, fields_of}
use Rattle.scenario_changes.specs.Changes.{is_break}
use Rattle.changes_reader.specs.Words.{IsField}

or-parts : (a b : Bool) → (a || b) ≡ false → (a ≡ false) × (b ≡ false)
or-parts true b e = absurd (cc)
or-parts false b e = (refl, e)

-- no byte passes the test
pub record Lacks (p : ℕ → Bool) (bytes : List ℕ) : Type 0 where
  pub none : list_any p bytes ≡ false

lacks_nil : (p : ℕ → Bool) → Lacks p []
lacks_nil p = record { none = refl }

lacks_cons : (p : ℕ → Bool) (b : ℕ) (bytes : List ℕ) → p b ≡ false → Lacks p bytes → Lacks p (b ∷ bytes)
lacks_cons p b bytes e l = record { none = rw e l.none }

abbrev pub AllLack : (ℕ → Bool) → List (List ℕ) → Type 0
AllLack p [] = Unit {0}
AllLack p (x ∷ xs) = Lacks p x × AllLack p xs

onto_lacks : (p : ℕ → Bool) (b : ℕ) (pieces : List (List ℕ)) → p b ≡ false → AllLack p pieces → AllLack p (onto_first b pieces)
onto_lacks p b [] e l = (lacks_cons p b [] e (lacks_nil p), tt)
onto_lacks p b (x ∷ xs) e l = (lacks_cons p b x e l.0, l.1)

-- the pieces lack the byte at which the text was split
pieces_lack : (p : ℕ → Bool) (bytes : List ℕ) → AllLack p (slice_split p bytes)
pieces_lack p [] = (lacks_nil p, tt)
pieces_lack p (b ∷ bytes) =
    elim (cases_Bool (p b)) [
      | inl e ↦ rw e (lacks_nil p, pieces_lack p bytes)
      | inr e ↦ rw e (onto_lacks p b (slice_split p bytes) e (pieces_lack p bytes))
    ]

-- and what the text lacks
pieces_lack_more : (p q : ℕ → Bool) (bytes : List ℕ) → Lacks q bytes → AllLack q (slice_split p bytes)
pieces_lack_more p q [] l = (lacks_nil q, tt)
pieces_lack_more p q (b ∷ bytes) l =
    let parts = or-parts (q b) (list_any q bytes) l.none in
    let rest : AllLack q (slice_split p bytes) = pieces_lack_more p q bytes (record { none = parts.1 }) in
    elim (p b) as (λ t. AllLack q (cond t ([] ∷ slice_split p bytes) (onto_first b (slice_split p bytes)))) [
      | true ↦ (lacks_nil q, rest)
      | false ↦ onto_lacks q b (slice_split p bytes) parts.0 rest
    ]

kept_lack : (p : ℕ → Bool) (xs : List (List ℕ)) → AllLack p xs → AllLack p (filter is_nonempty xs)
kept_lack p [] l = tt
kept_lack p ([] ∷ xs) l = kept_lack p xs l.1
kept_lack p ((b ∷ bytes) ∷ xs) l = (l.0, kept_lack p xs l.1)

front_lacks : (p : ℕ → Bool) (xs : List (List ℕ)) → AllLack p xs → AllLack p (without_last_empty xs)
front_lacks p [] l = tt
front_lacks p (x ∷ []) l = kept_lack p (x ∷ []) l
front_lacks p (x ∷ y ∷ xs) l = (l.0, front_lacks p (y ∷ xs) l.1)

pub lines_lack : (bytes : List ℕ) → AllLack is_line_feed (lines_of bytes)
lines_lack bytes = front_lacks is_line_feed (slice_split is_line_feed bytes) (pieces_lack is_line_feed bytes)

-- ---- fields

breaks : (bytes : List ℕ) → Lacks is_blank bytes → Lacks is_line_feed bytes → list_any is_break bytes ≡ false
breaks [] l k = refl
breaks (b ∷ bytes) l k =
    let one = or-parts (is_blank b) (list_any is_blank bytes) l.none in
    let two = or-parts (is_line_feed b) (list_any is_line_feed bytes) k.none in
    let here : is_break b ≡ false = grind (arith, one.0, two.0) in
    rw here (breaks bytes (record { none = one.1 }) (record { none = two.1 }))

are_fields : (xs : List (List ℕ)) (fields : List (Bor (List ℕ))) → map (λ f. f.now) fields ≡ filter is_nonempty xs → AllLack is_blank xs → AllLack is_line_feed xs → All (λ (f : Bor (List ℕ)). IsField f.now) fields
are_fields [] [] e l k = λ i d h. absurd (omega arith)
are_fields [] (f ∷ fields) e l k = absurd (cc)
are_fields ([] ∷ xs) fields e l k = are_fields xs fields e l.1 k.1
are_fields ((b ∷ bytes) ∷ xs) [] e l k = absurd (cc)
are_fields ((b ∷ bytes) ∷ xs) (f ∷ fields) e l k =
    let here : f.now ≡ b ∷ bytes = cc in
    let rest : map (λ f. f.now) fields ≡ filter is_nonempty xs = cc in
    let good : IsField (b ∷ bytes) = record { some = omega arith; whole = breaks (b ∷ bytes) l.0 k.0 } in
    All-cons (λ (f : Bor (List ℕ)). IsField f.now) f fields (subst IsField (sym here) good) (are_fields xs fields rest l.1 k.1)

pub all_fields : (line : List ℕ) (fields : List (Bor (List ℕ))) → map (λ f. f.now) fields ≡ fields_of line → Lacks is_line_feed line → All (λ (f : Bor (List ℕ)). IsField f.now) fields
all_fields line fields e l = are_fields (slice_split is_blank line) fields e (pieces_lack is_blank line) (pieces_lack_more is_blank is_line_feed line l)

pub first_lacks : (p : ℕ → Bool) (line : List ℕ) (more lines : List (List ℕ)) → lines ≡ line ∷ more → AllLack p lines → Lacks p line × AllLack p more
first_lacks p line more lines e l = subst (AllLack p) e l
