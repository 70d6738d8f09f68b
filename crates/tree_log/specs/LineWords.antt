-- What the words of a line say.
use Rattle.std.specs.Prelude.{ℕ, ◌+◌, ◌-◌, ◌^◌, ℤ, pos, negsuc, unsigned_abs, Bool, ◌&&◌, nat_lt, nat_le, nat_eq, min, if◌then◌else◌, List, [], ◌∷◌, ◌++◌, length, codes, bytes_eq, Option, Some, None, Result, Ok, Err, option_map, option_and_then}
use Rattle.std.specs.List.{slice_split}
use Rattle.num_text.specs.NumberText.{number_of, is_canonical}
use Rattle.num_text.specs.declared.number.NumberError.{NumberError}
use Rattle.tree_log.specs.declared.node_lines.SplitHead.{SplitHead}
use Rattle.tighten.specs.declared.step.Step.{Step}
use Rattle.tighten.specs.declared.step.RowEnd.{RowEnd}
use Rattle.tighten.specs.declared.step.RowEnd.TheVariants.{Lower, Upper}
use Rattle.dual_bounds.specs.Vectors.{Entry, Multipliers}
use Rattle.dual_bounds.specs.Refusals.{refusal}
use Rattle.dual_bounds.specs.declared.vector.VectorError.{VectorError}
use Rattle.scenario_changes.specs.declared.answer.Answer.{Answer}
use Rattle.scenario_changes.specs.declared.answer.Answer.TheVariants.{Infeasible, Optimal, Limit}
use Rattle.certs.specs.declared.verdict.Verdict.{Verdict}
use Rattle.certs.specs.declared.verdict.Verdict.TheVariants.{Empty, Misses, Farkas, Bound, Point}

-- ---- words

abbrev pub is_space : ℕ → Bool
is_space b = nat_eq b 32

abbrev pub words_of : List ℕ → List (List ℕ)
words_of bytes = slice_split is_space bytes

-- the words of what is left of a line, where anything is
abbrev pub words_left : Option (List ℕ) → List (List ℕ)
words_left None = []
words_left (Some bytes) = words_of bytes

-- the words behind this one, where it is the first
abbrev pub behind : List ℕ → List (List ℕ) → Option (List (List ℕ))
behind word [] = None
behind word (w ∷ ws) = if bytes_eq w word then Some ws else None

abbrev pub none_left : List (List ℕ) → Option (Unit {0})
none_left [] = Some tt
none_left (w ∷ ws) = None

-- ---- numbers

abbrev pub number_ok : Result ℤ NumberError → Option ℤ
number_ok (Ok z) = Some z
number_ok (Err e) = None

-- the number whose decimal text this is
abbrev pub integer_of : List ℕ → Option ℤ
integer_of text = if is_canonical text then number_ok (number_of text) else None

abbrev pub below : ℕ → ℤ → Option ℕ
below limit (pos n) = if nat_lt n limit then Some n else None
below limit (negsuc n) = None

abbrev pub below_of : ℕ → List ℕ → Option ℕ
below_of limit text = option_and_then (below limit) (integer_of text)

abbrev pub within : ℕ → ℤ → Option ℤ
within most z = if nat_le (unsigned_abs z) most then Some z else None

abbrev pub within_of : ℕ → List ℕ → Option ℤ
within_of most text = option_and_then (within most) (integer_of text)

-- numbers within ± a limit, behind those that were read
abbrev pub integers_after : ℕ → List ℤ → List (List ℕ) → Option (List ℤ)
integers_after most zs [] = Some zs
integers_after most zs (w ∷ ws) = option_and_then (λ z. integers_after most (zs ++ z ∷ []) ws) (within_of most w)

abbrev pub counted : {X : Type 0} → ℕ → List X → Option (List X)
counted count xs = if nat_eq (length xs) count then Some xs else None

-- ---- claims

-- a number for each column
abbrev pub point_of : ℕ → List (List ℕ) → Option (List ℤ)
point_of columns ws = option_and_then (counted columns) (integers_after 1000000 [] ws)

abbrev pub optimal_of : ℕ → List (List ℕ) → Option Answer
optimal_of columns [] = None
optimal_of columns (value ∷ ws) = option_and_then (λ v. option_map (λ x. Optimal x v) (point_of columns ws)) (within_of (2 ^ 60) value)

-- a bound alone
abbrev pub bound_of : List (List ℕ) → Option Answer
bound_of [] = None
bound_of (bound ∷ []) = option_map (λ b. Limit None b) (within_of (2 ^ 60) bound)
bound_of (bound ∷ w ∷ ws) = None

abbrev pub found_of : ℕ → List ℕ → List (List ℕ) → Option Answer
found_of columns value [] = None
found_of columns value (bound ∷ ws) =
    option_and_then (λ v. option_and_then (λ b. option_map (λ x. Limit (Some (x, v)) b) (point_of columns ws)) (within_of (2 ^ 60) bound)) (within_of (2 ^ 60) value)

abbrev pub limit_of : ℕ → List (List ℕ) → Option Answer
limit_of columns [] = None
limit_of columns (word ∷ ws) = if bytes_eq word (codes "none") then bound_of ws else found_of columns word ws

abbrev pub infeasible_of : List (List ℕ) → Option Answer
infeasible_of [] = Some Infeasible
infeasible_of (w ∷ ws) = None

abbrev pub answer_of : ℕ → List (List ℕ) → Option Answer
answer_of columns [] = None
answer_of columns (word ∷ ws) =
    if bytes_eq word (codes "infeasible") then infeasible_of ws else
    if bytes_eq word (codes "optimal") then optimal_of columns ws else
    if bytes_eq word (codes "limit") then limit_of columns ws else None

abbrev pub claim_of : ℕ → List (List ℕ) → Option Answer
claim_of columns ws = option_and_then (answer_of columns) (behind (codes "claim") ws)

-- ---- certificates

abbrev pub end_of : List ℕ → Option RowEnd
end_of word = if bytes_eq word (codes "L") then Some Lower else if bytes_eq word (codes "U") then Some Upper else None

abbrev pub step_of : ℕ → ℕ → List ℕ → List ℕ → List ℕ → Option Step
step_of columns rows row column side =
    option_and_then (λ i. option_and_then (λ j. option_map (λ s. record { row = i; column = j; side = s }) (end_of side)) (below_of columns column)) (below_of rows row)

-- steps behind those that were read
abbrev pub steps_after : ℕ → ℕ → List Step → List (List ℕ) → Option (List Step)
steps_after columns rows steps [] = Some steps
steps_after columns rows steps (i ∷ []) = None
steps_after columns rows steps (i ∷ j ∷ []) = None
steps_after columns rows steps (i ∷ j ∷ s ∷ ws) = option_and_then (λ step. steps_after columns rows (steps ++ step ∷ []) ws) (step_of columns rows i j s)

abbrev pub counted_steps : ℕ → ℕ → List (List ℕ) → Option (List Step)
counted_steps columns rows [] = None
counted_steps columns rows (count ∷ ws) =
    option_and_then (λ n. option_and_then (counted n) (steps_after columns rows [] ws)) (below_of 129 count)

abbrev pub steps_of : ℕ → ℕ → List (List ℕ) → Option (List Step)
steps_of columns rows ws = option_and_then (counted_steps columns rows) (behind (codes "steps") ws)

abbrev pub entry_of : ℕ → List ℕ → List ℕ → Option Entry
entry_of rows row multiplier = option_and_then (λ i. option_map (λ y. (i, y)) (within_of (2 ^ 40) multiplier)) (below_of rows row)

-- entries behind those that were read
abbrev pub entries_after : ℕ → List Entry → List (List ℕ) → Option (List Entry)
entries_after rows entries [] = Some entries
entries_after rows entries (i ∷ []) = None
entries_after rows entries (i ∷ y ∷ ws) = option_and_then (λ e. entries_after rows (entries ++ e ∷ []) ws) (entry_of rows i y)

-- the vector of these parts, where nothing is wrong with them
abbrev pub unrefused : ℕ → List Entry → Option VectorError → Option Multipliers
unrefused scale entries None = Some (record { scale = scale; entries = entries })
unrefused scale entries (Some e) = None

abbrev pub multipliers_of : ℕ → List Entry → Option Multipliers
multipliers_of scale entries = unrefused scale entries (refusal scale entries)

abbrev pub entries_read : ℕ → ℕ → ℕ → List (List ℕ) → Option Multipliers
entries_read rows scale count ws = option_and_then (multipliers_of scale) (option_and_then (counted count) (entries_after rows [] ws))

abbrev pub counted_vector : ℕ → List (List ℕ) → Option Multipliers
counted_vector rows [] = None
counted_vector rows (scale ∷ []) = None
counted_vector rows (scale ∷ count ∷ ws) =
    option_and_then (λ d. option_and_then (λ n. entries_read rows d n ws) (below_of 129 count)) (below_of 1048577 scale)

abbrev pub numbered : ℕ → ℕ → List ℕ → Option Verdict
numbered rows letter number =
    if nat_eq letter 109 then option_map Misses (below_of rows number) else
    if nat_eq letter 102 then option_map Farkas (below_of 10 number) else
    if nat_eq letter 98 then option_map Bound (below_of 10 number) else None

abbrev pub numbered_of : ℕ → List ℕ → Option Verdict
numbered_of rows [] = None
numbered_of rows (letter ∷ number) = numbered rows letter number

abbrev pub verdict_of : ℕ → List ℕ → Option Verdict
verdict_of rows word =
    if bytes_eq word (codes "e") then Some Empty else
    if bytes_eq word (codes "p") then Some Point else numbered_of rows word

-- verdicts behind those that were read
abbrev pub verdicts_after : ℕ → List Verdict → List (List ℕ) → Option (List Verdict)
verdicts_after rows verdicts [] = Some verdicts
verdicts_after rows verdicts (w ∷ ws) = option_and_then (λ v. verdicts_after rows (verdicts ++ v ∷ []) ws) (verdict_of rows w)

abbrev pub some_up_to : {X : Type 0} → ℕ → List X → Option (List X)
some_up_to most xs = if nat_lt 0 (length xs) && nat_le (length xs) most then Some xs else None

abbrev pub some_verdicts : ℕ → ℕ → List (List ℕ) → Option (List Verdict)
some_verdicts scenarios rows ws = option_and_then (some_up_to scenarios) (verdicts_after rows [] ws)

-- ---- nodes

-- numbers of scenarios that rise from a least one on, behind those that were read
abbrev pub stay_after : ℕ → ℕ → List ℕ → List (List ℕ) → Option (List ℕ)
stay_after scenarios least stay [] = Some stay
stay_after scenarios least stay (w ∷ ws) =
    option_and_then (λ k. if nat_lt k least then None else stay_after scenarios (k + 1) (stay ++ k ∷ []) ws) (below_of (min scenarios 64) w)

abbrev pub some_of : {X : Type 0} → List X → Option (List X)
some_of [] = None
some_of (x ∷ xs) = Some (x ∷ xs)

abbrev pub some_stay : ℕ → List (List ℕ) → Option (List ℕ)
some_stay scenarios ws = option_and_then some_of (stay_after scenarios 0 [] ws)

abbrev pub stay_of : ℕ → List (List ℕ) → Option (List ℕ)
stay_of scenarios ws = option_and_then (some_stay scenarios) (behind (codes "stay") ws)

-- the root is no child
abbrev pub head_at : ℕ → ℕ → ℤ → Option SplitHead
head_at child column value = if nat_eq child 0 then None else Some (record { child = child; column = column; value = value })

-- a first child that has another node behind it, a column and a value
abbrev pub head_of : ℕ → ℕ → List ℕ → List ℕ → List ℕ → Option SplitHead
head_of columns nodes child column value =
    option_and_then (λ k. option_and_then (λ j. option_and_then (λ v. head_at k j v) (within_of 1000000 value)) (below_of columns column)) (below_of (nodes - 1) child)

abbrev pub heads_of : ℕ → ℕ → List (List ℕ) → Option SplitHead
heads_of columns nodes (child ∷ column ∷ value ∷ []) = head_of columns nodes child column value
heads_of columns nodes _ = None
