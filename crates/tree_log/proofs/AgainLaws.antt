-- What is written on a line is read again.
use Rattle.std.proofs.Common.{◌≡◌, ◌∙◌, ap, sym, refl, ℕ, suc, ◌+◌, ◌-◌, ◌<◌, ◌≤◌, ◌^◌, ℤ, pos, negsuc, unsigned_abs, Bool, true, false, ◌&&◌, not, cond, nat_lt, nat_le, nat_eq, min, List, [], ◌∷◌, ◌++◌, length, map, Option, Some, None, arith, append_assoc}
use Rattle.std.specs.Prelude.{option_and_then, option_map, decimal, codes, bytes_eq, flat_map}
use Rattle.std.specs.List.{list_all}
use Rattle.std.proofs.lemmas.List.{append-nil}
use Rattle.std.proofs.lemmas.Bool.Decides.{nat_tests}
use Rattle.num_text.specs.NumberText.{integer_text}
use Rattle.tighten.specs.declared.step.Step.{Step}
use Rattle.tighten.specs.declared.step.RowEnd.{RowEnd}
use Rattle.tighten.specs.declared.step.RowEnd.TheVariants.{Lower, Upper}
use Rattle.dual_bounds.specs.Vectors.{Entry, Multipliers}
use Rattle.dual_bounds.specs.Refusals.{refusal, entries_refusal, is_bad}
use Rattle.dual_bounds.specs.declared.vector.VectorError.TheVariants.{BadScale, TooMany, BadEntry}
use Rattle.scenario_changes.specs.declared.answer.Answer.{Answer}
use Rattle.scenario_changes.specs.declared.answer.Answer.TheVariants.{Infeasible, Optimal, Limit}
use Rattle.certs.specs.Trees.{is_rising}
use Rattle.certs.specs.declared.verdict.Verdict.{Verdict}
use Rattle.certs.specs.declared.verdict.Verdict.TheVariants.{Empty, Misses, Farkas, Bound, Point}
use Rattle.tree_log.specs.LogText.{claim_words, end_word, step_words, entry_words, verdict_word}
use Rattle.tree_log.specs.HasText.{is_within, point_has_text, answer_has_text, step_has_text, entry_has_text, vector_has_text, verdict_has_text, stay_has_text}
use Rattle.tree_log.specs.LineWords as line
use Rattle.tree_log.specs.declared.node_lines.SplitHead.{SplitHead}
use Rattle.tree_log.specs.declared.draft.Counts.{Counts}
use Rattle.tree_log.specs.Drafts.{size_of}
use Rattle.tree_log.proofs.WordLaws.{both, all, lt_test, lt_false, le_test, eq_true, not_zero, word_is, below_of-text, within_of-text, within_abs, integer_of-text}
use Rattle.tree_log.proofs.DraftLaws.{claim_line_words, steps_words, stay_words, size_words, AreCounts, IsHead}

pub bind_is : {X Y : Type 0} (f : X → Option Y) (o : Option X) (x : X) (p : Option Y) → o ≡ Some x → f x ≡ p → option_and_then f o ≡ p
bind_is f o x p e h = ap (option_and_then f) e ∙ h

pub map_is : {X Y : Type 0} (f : X → Y) (o : Option X) (x : X) → o ≡ Some x → option_map f o ≡ Some (f x)
map_is f o x e = ap (option_map f) e

counted_is : {X : Type 0} (n : ℕ) (xs : List X) → length xs ≡ n → line.counted n xs ≡ Some xs
counted_is n xs e = ap (λ t. cond t (Some xs) None) (eq_true (length xs) n e)

eq_is : (a b : ℕ) → nat_eq a b ≡ true → a ≡ b
eq_is a b h = grind (arith, nat_tests)

-- ---- claims

numbers_again : (zs more : List ℤ) → list_all (is_within 1000000) more ≡ true → line.integers_after 1000000 zs (map integer_text more) ≡ Some (zs ++ more)
numbers_again zs [] h = ap Some (sym (append-nil zs))
numbers_again zs (z ∷ more) h =
    let parts = both (is_within 1000000 z) (list_all (is_within 1000000) more) h in
    bind_is (λ (y : ℤ). line.integers_after 1000000 (zs ++ y ∷ []) (map integer_text more)) (line.within_of 1000000 (integer_text z)) z (Some (zs ++ z ∷ more))
    (within_of-text 1000000 z (within_abs 1000000 z parts.0) (omega arith))
    (numbers_again (zs ++ z ∷ []) more parts.1 ∙ ap Some (append_assoc zs (z ∷ []) more))

point_again : (columns : ℕ) (x : List ℤ) → point_has_text columns x ≡ true → line.point_of columns (map integer_text x) ≡ Some x
point_again columns x h =
    let parts = both (nat_eq (length x) columns) (list_all (is_within 1000000) x) h in
    bind_is (line.counted columns) (line.integers_after 1000000 [] (map integer_text x)) x (Some x) (numbers_again [] x parts.1) (counted_is columns x (eq_is (length x) columns parts.0))

value_again : (v : ℤ) → is_within (2 ^ 60) v ≡ true → line.within_of (2 ^ 60) (integer_text v) ≡ Some v
value_again v h = within_of-text (2 ^ 60) v (within_abs (2 ^ 60) v h) (omega arith)

-- a number isn't spelled as what stands for no point
text_other : (v : ℤ) → unsigned_abs v < 2 ^ 63 → integer_text v ≡ codes "none" → ⊥
text_other v h e =
    let read : line.integer_of (codes "none") ≡ Some v = ap line.integer_of (sym e) ∙ integer_of-text v h in
    let wrong : ◌≡◌ {A = Option ℤ} None (Some v) = none_read ∙ read in
    absurd (cc)
  where
    none_read : ◌≡◌ {A = Option ℤ} None (line.integer_of (codes "none"))
    none_read = refl

false_by : (b : Bool) → (b ≡ true → ⊥) → b ≡ false
false_by true h = absurd (h refl)
false_by false h = refl

not_none : (v : ℤ) → is_within (2 ^ 60) v ≡ true → bytes_eq (integer_text v) (codes "none") ≡ false
not_none v h =
    let limit : unsigned_abs v ≤ 2 ^ 60 = within_abs (2 ^ 60) v h in
    false_by (bytes_eq (integer_text v) (codes "none")) (λ e. text_other v (omega arith) (word_is (integer_text v) (codes "none") e))

optimal_again : (columns : ℕ) (x : List ℤ) (v : ℤ) → point_has_text columns x ≡ true → is_within (2 ^ 60) v ≡ true → line.optimal_of columns (integer_text v ∷ map integer_text x) ≡ Some (Optimal x v)
optimal_again columns x v h i =
    bind_is (λ (u : ℤ). option_map (λ (y : List ℤ). Optimal y u) (line.point_of columns (map integer_text x))) (line.within_of (2 ^ 60) (integer_text v)) v (Some (Optimal x v)) (value_again v i)
    (map_is (λ (y : List ℤ). Optimal y v) (line.point_of columns (map integer_text x)) x (point_again columns x h))

bound_again : (b : ℤ) → is_within (2 ^ 60) b ≡ true → line.bound_of (integer_text b ∷ []) ≡ Some (Limit None b)
bound_again b h = map_is (λ (z : ℤ). Limit None z) (line.within_of (2 ^ 60) (integer_text b)) b (value_again b h)

found_again : (columns : ℕ) (x : List ℤ) (v b : ℤ) → point_has_text columns x ≡ true → is_within (2 ^ 60) v ≡ true → is_within (2 ^ 60) b ≡ true → line.found_of columns (integer_text v) (integer_text b ∷ map integer_text x) ≡ Some (Limit (Some (x, v)) b)
found_again columns x v b h i j =
    bind_is (λ (u : ℤ). option_and_then (λ (c : ℤ). option_map (λ (y : List ℤ). Limit (Some (y, u)) c) (line.point_of columns (map integer_text x))) (line.within_of (2 ^ 60) (integer_text b))) (line.within_of (2 ^ 60) (integer_text v)) v (Some (Limit (Some (x, v)) b)) (value_again v i)
    (bind_is (λ (c : ℤ). option_map (λ (y : List ℤ). Limit (Some (y, v)) c) (line.point_of columns (map integer_text x))) (line.within_of (2 ^ 60) (integer_text b)) b (Some (Limit (Some (x, v)) b)) (value_again b j)
    (map_is (λ (y : List ℤ). Limit (Some (y, v)) b) (line.point_of columns (map integer_text x)) x (point_again columns x h)))

limit_again : (columns : ℕ) (x : List ℤ) (v b : ℤ) → point_has_text columns x ≡ true → is_within (2 ^ 60) v ≡ true → is_within (2 ^ 60) b ≡ true → line.limit_of columns (integer_text v ∷ integer_text b ∷ map integer_text x) ≡ Some (Limit (Some (x, v)) b)
limit_again columns x v b h i j =
    ap (λ t. cond t (line.bound_of (integer_text b ∷ map integer_text x)) (line.found_of columns (integer_text v) (integer_text b ∷ map integer_text x))) (not_none v i)
    ∙ found_again columns x v b h i j

pub claim_again : (columns : ℕ) (a : Answer) → answer_has_text columns a ≡ true → line.claim_of columns (claim_line_words a) ≡ Some a
unfolding claim_words
claim_again columns Infeasible h = refl
claim_again columns (Optimal x v) h =
    let parts = both (point_has_text columns x) (is_within (2 ^ 60) v) h in
    optimal_again columns x v parts.0 parts.1
claim_again columns (Limit None b) h = bound_again b h
claim_again columns (Limit (Some (x, v)) b) h =
    let parts = both (point_has_text columns x && is_within (2 ^ 60) v) (is_within (2 ^ 60) b) h in
    let more = both (point_has_text columns x) (is_within (2 ^ 60) v) parts.0 in
    limit_again columns x v b more.0 more.1 parts.1

-- ---- certificates

end_again : (s : RowEnd) → line.end_of (end_word s) ≡ Some s
end_again Lower = refl
end_again Upper = refl

step_again : (columns rows : ℕ) (step : Step) → columns ≤ 1000 → rows ≤ 1000 → step_has_text columns rows step ≡ true → line.step_of columns rows (decimal step.row) (decimal step.column) (end_word step.side) ≡ Some step
step_again columns rows step hc hr h =
    let parts = both (nat_lt step.row rows) (nat_lt step.column columns) h in
    bind_is (λ (r : ℕ). option_and_then (λ (c : ℕ). option_map (λ (t : RowEnd). record { row = r; column = c; side = t }) (line.end_of (end_word step.side))) (line.below_of columns (decimal step.column))) (line.below_of rows (decimal step.row)) step.row (Some step) (below_of-text rows step.row (lt_test step.row rows parts.0) (omega arith))
    (bind_is (λ (c : ℕ). option_map (λ (t : RowEnd). record { row = step.row; column = c; side = t }) (line.end_of (end_word step.side))) (line.below_of columns (decimal step.column)) step.column (Some step) (below_of-text columns step.column (lt_test step.column columns parts.1) (omega arith))
    (map_is (λ (t : RowEnd). record { row = step.row; column = step.column; side = t }) (line.end_of (end_word step.side)) step.side (end_again step.side)))

steps_again : (columns rows : ℕ) (steps more : List Step) → columns ≤ 1000 → rows ≤ 1000 → list_all (step_has_text columns rows) more ≡ true → line.steps_after columns rows steps (flat_map step_words more) ≡ Some (steps ++ more)
steps_again columns rows steps [] hc hr h = ap Some (sym (append-nil steps))
steps_again columns rows steps (s ∷ more) hc hr h =
    let parts = both (step_has_text columns rows s) (list_all (step_has_text columns rows) more) h in
    bind_is (λ (t : Step). line.steps_after columns rows (steps ++ t ∷ []) (flat_map step_words more)) (line.step_of columns rows (decimal s.row) (decimal s.column) (end_word s.side)) s (Some (steps ++ s ∷ more)) (step_again columns rows s hc hr parts.0)
    (steps_again columns rows (steps ++ s ∷ []) more hc hr parts.1 ∙ ap Some (append_assoc steps (s ∷ []) more))

pub steps_line_again : (columns rows : ℕ) (steps : List Step) → columns ≤ 1000 → rows ≤ 1000 → length steps ≤ 128 → list_all (step_has_text columns rows) steps ≡ true → line.steps_of columns rows (steps_words steps) ≡ Some steps
steps_line_again columns rows steps hc hr few h =
    bind_is (λ (n : ℕ). option_and_then (line.counted n) (line.steps_after columns rows [] (flat_map step_words steps))) (line.below_of 129 (decimal (length steps))) (length steps) (Some steps) (below_of-text 129 (length steps) (omega arith) (omega arith))
    (bind_is (line.counted (length steps)) (line.steps_after columns rows [] (flat_map step_words steps)) steps (Some steps) (steps_again columns rows [] steps hc hr h) (counted_is (length steps) steps refl))

entry_again : (rows i : ℕ) (y : ℤ) → rows ≤ 1000 → entry_has_text rows (i, y) ≡ true → line.entry_of rows (decimal i) (integer_text y) ≡ Some (i, y)
entry_again rows i y hr h =
    let parts = both (nat_lt i rows && is_within (2 ^ 40) y) (not (is_within 0 y)) h in
    let more = both (nat_lt i rows) (is_within (2 ^ 40) y) parts.0 in
    bind_is (λ (r : ℕ). option_map (λ (z : ℤ). (r, z)) (line.within_of (2 ^ 40) (integer_text y))) (line.below_of rows (decimal i)) i (Some (i, y)) (below_of-text rows i (lt_test i rows more.0) (omega arith))
    (map_is (λ (z : ℤ). (i, z)) (line.within_of (2 ^ 40) (integer_text y)) y (within_of-text (2 ^ 40) y (within_abs (2 ^ 40) y more.1) (omega arith)))

entries_again : (rows : ℕ) (entries more : List Entry) → rows ≤ 1000 → list_all (entry_has_text rows) more ≡ true → line.entries_after rows entries (flat_map entry_words more) ≡ Some (entries ++ more)
entries_again rows entries [] hr h = ap Some (sym (append-nil entries))
entries_again rows entries ((i, y) ∷ more) hr h =
    let parts = both (entry_has_text rows (i, y)) (list_all (entry_has_text rows) more) h in
    bind_is (λ (t : Entry). line.entries_after rows (entries ++ t ∷ []) (flat_map entry_words more)) (line.entry_of rows (decimal i) (integer_text y)) (i, y) (Some (entries ++ (i, y) ∷ more)) (entry_again rows i y hr parts.0)
    (entries_again rows (entries ++ (i, y) ∷ []) more hr parts.1 ∙ ap Some (append_assoc entries ((i, y) ∷ []) more))

-- an entry within its limits isn't bad
not_bad : (rows least i : ℕ) (y : ℤ) → least ≤ i → entry_has_text rows (i, y) ≡ true → is_bad least (i, y) ≡ false
not_bad rows least i y l h =
    let parts = both (nat_lt i rows && is_within (2 ^ 40) y) (not (is_within 0 y)) h in
    let more = both (nat_lt i rows) (is_within (2 ^ 40) y) parts.0 in
    small least i y l (within_abs (2 ^ 40) y more.1) parts.1
  where
    small : (least i : ℕ) (y : ℤ) → least ≤ i → unsigned_abs y ≤ 2 ^ 40 → not (is_within 0 y) ≡ true → is_bad least (i, y) ≡ false
    small least i (pos n) l a b = grind (arith, nat_tests)
    small least i (negsuc n) l a b = grind (arith, nat_tests)

abbrev Starts : ℕ → List Entry → Type 0
Starts least [] = Unit {0}
Starts least (e ∷ entries) = least ≤ e.0

entries_fine : (rows place least : ℕ) (entries : List Entry) → Starts least entries → list_all (entry_has_text rows) entries ≡ true → is_rising (map (λ (e : Entry). e.0) entries) ≡ true → entries_refusal place least entries ≡ None
entries_fine rows place least [] s h r = refl
entries_fine rows place least ((i, y) ∷ []) s h r =
    let parts = both (entry_has_text rows (i, y)) true h in
    ap (λ t. cond t (Some (BadEntry place)) None) (not_bad rows least i y s parts.0)
entries_fine rows place least ((i, y) ∷ (j, z) ∷ entries) s h r =
    let parts = both (entry_has_text rows (i, y)) (list_all (entry_has_text rows) ((j, z) ∷ entries)) h in
    let order = both (nat_lt i j) (is_rising (j ∷ map (λ (e : Entry). e.0) entries)) r in
    let above : i < j = lt_test i j order.0 in
    ap (λ t. cond t (Some (BadEntry place)) (entries_refusal (place + 1) (i + 1) ((j, z) ∷ entries))) (not_bad rows least i y s parts.0)
    ∙ entries_fine rows (place + 1) (i + 1) ((j, z) ∷ entries) (omega arith) parts.1 order.1

starts : (entries : List Entry) → Starts 0 entries
starts [] = tt
starts (e ∷ entries) = omega arith

pub vector_again : (rows : ℕ) (v : Multipliers) → rows ≤ 1000 → vector_has_text rows v ≡ true → line.counted_vector rows (decimal v.scale ∷ decimal (length v.entries) ∷ flat_map entry_words v.entries) ≡ Some v
vector_again rows v hr h =
    let one = both ((nat_le v.scale (2 ^ 20) && nat_le (length v.entries) 128) && list_all (entry_has_text rows) v.entries) (is_rising (map (λ (e : Entry). e.0) v.entries)) h in
    let two = both (nat_le v.scale (2 ^ 20) && nat_le (length v.entries) 128) (list_all (entry_has_text rows) v.entries) one.0 in
    let three = both (nat_le v.scale (2 ^ 20)) (nat_le (length v.entries) 128) two.0 in
    let scale : v.scale ≤ 2 ^ 20 = le_test v.scale (2 ^ 20) three.0 in
    let few : length v.entries ≤ 128 = le_test (length v.entries) 128 three.1 in
    let fine : refusal v.scale v.entries ≡ None =
    ap (λ t. cond t (Some BadScale) (cond (nat_lt 128 (length v.entries)) (Some TooMany) (entries_refusal 0 0 v.entries))) (lt_false (2 ^ 20) v.scale scale)
    ∙ ap (λ t. cond t (Some TooMany) (entries_refusal 0 0 v.entries)) (lt_false 128 (length v.entries) few)
    ∙ entries_fine rows 0 0 v.entries (starts v.entries) two.1 one.1 in
    bind_is (λ (d : ℕ). option_and_then (λ (n : ℕ). line.entries_read rows d n (flat_map entry_words v.entries)) (line.below_of 129 (decimal (length v.entries)))) (line.below_of 1048577 (decimal v.scale)) v.scale (Some v) (below_of-text 1048577 v.scale (omega arith) (omega arith))
    (bind_is (λ (n : ℕ). line.entries_read rows v.scale n (flat_map entry_words v.entries)) (line.below_of 129 (decimal (length v.entries))) (length v.entries) (Some v) (below_of-text 129 (length v.entries) (omega arith) (omega arith))
    (bind_is (line.multipliers_of v.scale) (option_and_then (line.counted (length v.entries)) (line.entries_after rows [] (flat_map entry_words v.entries))) v.entries (Some v)
    (bind_is (line.counted (length v.entries)) (line.entries_after rows [] (flat_map entry_words v.entries)) v.entries (Some v.entries) (entries_again rows [] v.entries hr two.1) (counted_is (length v.entries) v.entries refl))
    (ap (line.unrefused v.scale v.entries) fine)))

verdict_again : (rows : ℕ) (v : Verdict) → rows ≤ 1000 → verdict_has_text rows v ≡ true → line.verdict_of rows (verdict_word v) ≡ Some v
unfolding verdict_word
verdict_again rows Empty hr h = refl
verdict_again rows (Misses i) hr h = map_is Misses (line.below_of rows (decimal i)) i (below_of-text rows i (lt_test i rows h) (omega arith))
verdict_again rows (Farkas n) hr h = map_is Farkas (line.below_of 10 (decimal n)) n (below_of-text 10 n (lt_test n 10 h) (omega arith))
verdict_again rows (Bound n) hr h = map_is Bound (line.below_of 10 (decimal n)) n (below_of-text 10 n (lt_test n 10 h) (omega arith))
verdict_again rows Point hr h = refl

verdicts_again : (rows : ℕ) (verdicts more : List Verdict) → rows ≤ 1000 → list_all (verdict_has_text rows) more ≡ true → line.verdicts_after rows verdicts (map verdict_word more) ≡ Some (verdicts ++ more)
verdicts_again rows verdicts [] hr h = ap Some (sym (append-nil verdicts))
verdicts_again rows verdicts (v ∷ more) hr h =
    let parts = both (verdict_has_text rows v) (list_all (verdict_has_text rows) more) h in
    bind_is (λ (t : Verdict). line.verdicts_after rows (verdicts ++ t ∷ []) (map verdict_word more)) (line.verdict_of rows (verdict_word v)) v (Some (verdicts ++ v ∷ more)) (verdict_again rows v hr parts.0)
    (verdicts_again rows (verdicts ++ v ∷ []) more hr parts.1 ∙ ap Some (append_assoc verdicts (v ∷ []) more))

pub some_verdicts_again : (scenarios rows : ℕ) (verdicts : List Verdict) → rows ≤ 1000 → nat_lt 0 (length verdicts) ≡ true → nat_le (length verdicts) scenarios ≡ true → list_all (verdict_has_text rows) verdicts ≡ true → line.some_verdicts scenarios rows (map verdict_word verdicts) ≡ Some verdicts
some_verdicts_again scenarios rows verdicts hr some few h =
    bind_is (line.some_up_to scenarios) (line.verdicts_after rows [] (map verdict_word verdicts)) verdicts (Some verdicts) (verdicts_again rows [] verdicts hr h)
    (ap (λ t. cond t (Some verdicts) None) (all (nat_lt 0 (length verdicts)) (nat_le (length verdicts) scenarios) some few))

-- ---- splits

abbrev Begins : ℕ → List ℕ → Type 0
Begins least [] = Unit {0}
Begins least (k ∷ ks) = least ≤ k

stay_read_again : (scenarios least : ℕ) (stay more : List ℕ) → scenarios ≤ 64 → Begins least more → is_rising more ≡ true → list_all (λ k. nat_lt k scenarios) more ≡ true → line.stay_after scenarios least stay (map decimal more) ≡ Some (stay ++ more)
stay_read_again scenarios least stay [] hs b r h = ap Some (sym (append-nil stay))
stay_read_again scenarios least stay (k ∷ more) hs b r h =
    let parts = both (nat_lt k scenarios) (list_all (λ k. nat_lt k scenarios) more) h in
    let below : k < scenarios = lt_test k scenarios parts.0 in
    let rest = after_first k more r in
    bind_is (λ (j : ℕ). cond (nat_lt j least) None (line.stay_after scenarios (j + 1) (stay ++ j ∷ []) (map decimal more))) (line.below_of (min scenarios 64) (decimal k)) k (Some (stay ++ k ∷ more)) (below_of-text (min scenarios 64) k (omega arith) (omega arith))
    (ap (λ t. cond t None (line.stay_after scenarios (k + 1) (stay ++ k ∷ []) (map decimal more))) (lt_false k least b)
    ∙ stay_read_again scenarios (k + 1) (stay ++ k ∷ []) more hs rest.0 rest.1 parts.1 ∙ ap Some (append_assoc stay (k ∷ []) more))
  where
    after_first : (k : ℕ) (more : List ℕ) → is_rising (k ∷ more) ≡ true → Begins (k + 1) more × (is_rising more ≡ true)
    after_first k [] r = (tt, refl)
    after_first k (j ∷ more) r =
        let order = both (nat_lt k j) (is_rising (j ∷ more)) r in
        let above : k < j = lt_test k j order.0 in
        (omega arith, order.1)

some_of-is : (xs : List ℕ) → nat_lt 0 (length xs) ≡ true → line.some_of xs ≡ Some xs
some_of-is [] h = absurd (cc)
some_of-is (x ∷ xs) h = refl

begins : (xs : List ℕ) → Begins 0 xs
begins [] = tt
begins (x ∷ xs) = omega arith

pub stay_again : (scenarios : ℕ) (stay : List ℕ) → scenarios ≤ 64 → stay_has_text scenarios stay ≡ true → line.stay_of scenarios (stay_words stay) ≡ Some stay
stay_again scenarios stay hs h =
    let one = both (nat_lt 0 (length stay) && is_rising stay) (list_all (λ k. nat_lt k scenarios) stay) h in
    let two = both (nat_lt 0 (length stay)) (is_rising stay) one.0 in
    bind_is line.some_of (line.stay_after scenarios 0 [] (map decimal stay)) stay (Some stay) (stay_read_again scenarios 0 [] stay hs (begins stay) two.1 one.1) (some_of-is stay two.0)

pub head_again : (k : Counts) (h : SplitHead) → k.columns ≤ 1000 → k.nodes ≤ 100001 → IsHead k h → line.heads_of k.columns k.nodes (decimal h.child ∷ decimal h.column ∷ integer_text h.value ∷ []) ≡ Some h
head_again k h hc hn s =
    let below : suc h.child < k.nodes = lt_test (suc h.child) k.nodes s.below in
    bind_is (λ (n : ℕ). option_and_then (λ (j : ℕ). option_and_then (λ (v : ℤ). line.head_at n j v) (line.within_of 1000000 (integer_text h.value))) (line.below_of k.columns (decimal h.column))) (line.below_of (k.nodes - 1) (decimal h.child)) h.child (Some h) (below_of-text (k.nodes - 1) h.child (omega arith) (omega arith))
    (bind_is (λ (j : ℕ). option_and_then (λ (v : ℤ). line.head_at h.child j v) (line.within_of 1000000 (integer_text h.value))) (line.below_of k.columns (decimal h.column)) h.column (Some h) (below_of-text k.columns h.column (lt_test h.column k.columns s.column) (omega arith))
    (bind_is (λ (v : ℤ). line.head_at h.child h.column v) (line.within_of 1000000 (integer_text h.value)) h.value (Some h) (within_of-text 1000000 h.value (within_abs 1000000 h.value s.value) (omega arith))
    (ap (λ t. cond t None (Some h)) (not_zero h.child (lt_test 0 h.child s.some)))))

pub size_again : (k : Counts) → AreCounts k → size_of (size_words k) ≡ Some k
size_again k h =
    bind_is _ (line.below_of 65 (decimal k.scenarios)) k.scenarios (Some k) (below_of-text 65 k.scenarios (omega (arith, h.few_scenarios)) (omega arith))
    (bind_is _ (line.below_of 1001 (decimal k.columns)) k.columns (Some k) (below_of-text 1001 k.columns (omega (arith, h.columns)) (omega arith))
    (bind_is _ (line.below_of 1001 (decimal k.rows)) k.rows (Some k) (below_of-text 1001 k.rows (omega (arith, h.rows)) (omega arith))
    (bind_is _ (line.below_of 100002 (decimal k.nodes)) k.nodes (Some k) (below_of-text 100002 k.nodes (omega (arith, h.few_nodes)) (omega arith))
    (ap (λ t. cond t None (cond (nat_eq k.nodes 0) None (Some k))) (not_zero k.scenarios h.scenarios) ∙ ap (λ t. cond t None (Some k)) (not_zero k.nodes h.nodes)))))
