-- Examples of the definitions, each with a neighbouring reading that it rules out.
use Rattle.std.proofs.Common.{◌≡◌, ℕ, suc, zero, ◌-◌, ◌^◌, [], ◌∷◌, Some, Err, refl, ◌∙◌, ap, arith, unwrap_or, lit≤}
use Rattle.std.specs.Cmp.Lexicographic.{slice_cmp, nat_list_cmp_total}
use Rattle.std.specs.FinMap.{empty, insert, get-empty, get-insert}
use Rattle.std.specs.Ordering.{nat_cmp}
use Rattle.desk.specs.Causes.{Rose, next_count}
use Rattle.desk.specs.Desk.{Files, bytes_of, IsFetched, NotesName, Appends, FetchHasCause}
use Rattle.desk.specs.declared.FetchError.TheVariants as fetching
use Rattle.desk.specs.declared.DeskError.TheVariants as writing

rises : Rose 4 5
rises = lit≤ tt

does_not_stay : Rose 4 4 → ⊥
does_not_stay h = omega (arith, h)

stays_at_the_last_value : Rose (2 ^ 64 - 1) (2 ^ 64 - 1)
stays_at_the_last_value = lit≤ tt

calls_count_from_one : next_count 0 ≡ 1
calls_count_from_one = refl

a_count_does_not_wrap : next_count (2 ^ 64 - 1) ≡ 2 ^ 64 - 1
a_count_does_not_wrap = refl

-- one file, of the name 1
one_file : Files
one_file = insert empty (1 ∷ []) (5 ∷ 6 ∷ [])

a_missing_file_is_empty : bytes_of one_file (2 ∷ []) ≡ []
unfolding one_file
a_missing_file_is_empty = ap (λ o. unwrap_or o []) (get-insert nat_list_cmp_total empty (1 ∷ []) (5 ∷ 6 ∷ []) (2 ∷ []) ∙ get-empty (slice_cmp nat_cmp) (2 ∷ []))

a_file_of_just_so_many_bytes_is_not_too_long : IsFetched (5 ∷ 6 ∷ []) 2 (Err fetching.TooLong) → ⊥
a_file_of_just_so_many_bytes_is_not_too_long h = omega (arith, h)

-- A failed fetch is noted as well.
a_failure_notes_the_name : NotesName {T = ℕ} (Some []) (Some []) (1 ∷ []) (Err fetching.Failed) → ⊥
a_failure_notes_the_name h = cc

no_failure_without_a_fault : FetchHasCause {T = ℕ} 3 3 (Err fetching.Failed) → ⊥
no_failure_without_a_fault h = omega (arith, h.1)

a_front_is_kept : Appends (Some (1 ∷ [])) (Some (1 ∷ 5 ∷ [])) (5 ∷ 6 ∷ []) (Err writing.Failed)
a_front_is_kept = (1, refl)

-- A fault keeps no other part of the bytes than a front.
a_back_is_not_kept : Appends (Some []) (Some (6 ∷ [])) (5 ∷ 6 ∷ []) (Err writing.Failed) → ⊥
a_back_is_not_kept (zero, e) = cc
a_back_is_not_kept (suc n, e) = cc

want_of_memory_appends_nothing : Appends (Some []) (Some (5 ∷ [])) (5 ∷ 6 ∷ []) (Err writing.Memory) → ⊥
want_of_memory_appends_nothing h = cc
