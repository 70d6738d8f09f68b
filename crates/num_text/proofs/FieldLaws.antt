-- The fields of a line.
use Rattle.std.proofs.Common.{◌≡◌, ℕ, cond, true, false, not, ◌||◌, List, [], ◌∷◌, filter, refl}
use Rattle.std.specs.List.{slice_split, onto_first, list_any}
use Rattle.num_text.specs.Lines.{is_blank, is_nonempty, fields_of}

-- a byte that isn't blank makes a field
first_is_kept : (b : ℕ) (parts : List (List ℕ)) → is_nonempty (filter is_nonempty (onto_first b parts)) ≡ true
first_is_kept b [] = refl
first_is_kept b (part ∷ parts) = refl

-- a line has a field where some byte isn't blank
pub is_nonempty-fields_of : (line : List ℕ) → is_nonempty (fields_of line) ≡ list_any (λ b. not (is_blank b)) line
is_nonempty-fields_of [] = refl
is_nonempty-fields_of (b ∷ line) =
    elim (is_blank b) as (λ t. is_nonempty (filter is_nonempty (cond t ([] ∷ slice_split is_blank line) (onto_first b (slice_split is_blank line)))) ≡ (not t || list_any (λ b. not (is_blank b)) line)) [
      | true ↦ is_nonempty-fields_of line
      | false ↦ first_is_kept b (slice_split is_blank line)
    ]
