-- What is read of the lines of a certificate and of a split is what these lines are the text of.
use Rattle.std.proofs.Common.{◌≡◌, ◌∙◌, ap, sym, refl, subst, ℕ, suc, ◌+◌, ◌-◌, ◌<◌, ◌≤◌, ◌^◌, ℤ, pos, negsuc, Bool, true, false, ◌&&◌, not, cond, nat_lt, nat_le, nat_eq, min, List, [], ◌∷◌, ◌++◌, length, map, Option, Some, None, arith, inl, inr, append_assoc}
use Rattle.std.specs.Prelude.{option_and_then, option_map, decimal, codes, bytes_eq, flat_map}
use Rattle.std.specs.List.{list_all}
use Rattle.std.proofs.lemmas.List.{append-nil}
use Rattle.std.proofs.lemmas.Bool.Decides.{nat_tests}
use Rattle.num_text.specs.NumberText.{integer_text}
use Rattle.tighten.specs.declared.step.Step.{Step}
use Rattle.tighten.specs.declared.step.RowEnd.{RowEnd}
use Rattle.tighten.specs.declared.step.RowEnd.TheVariants.{Lower, Upper}
use Rattle.dual_bounds.specs.Vectors.{Entry, Multipliers}
use Rattle.dual_bounds.specs.Refusals.{refusal, entries_refusal, is_bad}
use Rattle.dual_bounds.specs.declared.vector.VectorError.{VectorError}
use Rattle.dual_bounds.specs.declared.vector.VectorError.TheVariants.{BadScale, TooMany, BadEntry}
use Rattle.certs.specs.Trees.{is_rising}
use Rattle.certs.specs.declared.verdict.Verdict.{Verdict}
use Rattle.certs.specs.declared.verdict.Verdict.TheVariants.{Empty, Misses, Farkas, Bound, Point}
use Rattle.tree_log.specs.LogText.{end_word, step_words, entry_words, verdict_word}
use Rattle.tree_log.specs.HasText.{is_within, step_has_text, entry_has_text, vector_has_text, verdict_has_text, stay_has_text}
use Rattle.tree_log.specs.LineWords as line
use Rattle.tree_log.specs.declared.node_lines.SplitHead.{SplitHead}
use Rattle.tree_log.proofs.WordLaws.{bind_some, map_some, some_same, kept, dropped, both, all, lt_test, lt_true, le_test, le_true, eq_test, not_lt, positive, word_is, behind_some, below_of-only, within_of-only, abs_within}
use Rattle.tree_log.proofs.LineLaws.{choose, counted_some, two_words}

-- ---- steps

end_read : (word : List ℕ) (s : RowEnd) → line.end_of word ≡ Some s → word ≡ end_word s
end_read word s e = elim (choose (bytes_eq word (codes "L")) (Some Lower) _ s e) [
  | inl one ↦ word_is word (codes "L") one.0 ∙ ap end_word (some_same Lower s one.1)
  | inr more ↦
      let two = kept (bytes_eq word (codes "U")) (Some Upper) s more in
      word_is word (codes "U") two.0 ∙ ap end_word (some_same Upper s two.1)
]

record StepRead (columns rows : ℕ) (i j s : List ℕ) (step : Step) : Type 0 where
  row : i ≡ decimal step.row
  column : j ≡ decimal step.column
  side : s ≡ end_word step.side
  fit : step_has_text columns rows step ≡ true

step_read : (columns rows : ℕ) (i j s : List ℕ) (step : Step) → columns ≤ 1000 → rows ≤ 1000 → line.step_of columns rows i j s ≡ Some step → StepRead columns rows i j s step
step_read columns rows i j s step hc hr e =
    let one = bind_some (λ (r : ℕ). option_and_then (λ (c : ℕ). option_map (λ (t : RowEnd). record { row = r; column = c; side = t }) (line.end_of s)) (line.below_of columns j)) (line.below_of rows i) step e in
    let two = bind_some (λ (c : ℕ). option_map (λ (t : RowEnd). record { row = one.0; column = c; side = t }) (line.end_of s)) (line.below_of columns j) step one.2 in
    let three = map_some (λ (t : RowEnd). record { row = one.0; column = two.0; side = t }) (line.end_of s) step two.2 in
    let row = below_of-only rows one.0 i (omega arith) one.1 in
    let column = below_of-only columns two.0 j (omega arith) two.1 in
    subst (StepRead columns rows i j s) three.2
    (record { row = row.1; column = column.1; side = end_read s three.0 three.1; fit = all (nat_lt one.0 rows) (nat_lt two.0 columns) (lt_true one.0 rows row.0) (lt_true two.0 columns column.0) })

record StepsRead (columns rows : ℕ) (steps out : List Step) (ws : List (List ℕ)) : Type 0 where
  more : List Step
  front : out ≡ steps ++ more
  words : ws ≡ flat_map step_words more
  fit : list_all (step_has_text columns rows) more ≡ true

three_words : (a b c d e f : List ℕ) (x y : List (List ℕ)) → a ≡ d → b ≡ e → c ≡ f → x ≡ y → a ∷ b ∷ c ∷ x ≡ d ∷ e ∷ f ∷ y
three_words a b c d e f x y h i j k = two_words a d (b ∷ c ∷ x) (e ∷ f ∷ y) h (two_words b e (c ∷ x) (f ∷ y) i (two_words c f x y j k))

steps_read : (columns rows : ℕ) (steps : List Step) (ws : List (List ℕ)) (out : List Step) → columns ≤ 1000 → rows ≤ 1000 → line.steps_after columns rows steps ws ≡ Some out → StepsRead columns rows steps out ws
steps_read columns rows steps [] out hc hr e = record { more = []; front = sym (some_same steps out e) ∙ sym (append-nil steps); words = refl; fit = refl }
steps_read columns rows steps (i ∷ []) out hc hr e = absurd (cc)
steps_read columns rows steps (i ∷ j ∷ []) out hc hr e = absurd (cc)
steps_read columns rows steps (i ∷ j ∷ s ∷ ws) out hc hr e =
    let read = bind_some (λ (t : Step). line.steps_after columns rows (steps ++ t ∷ []) ws) (line.step_of columns rows i j s) out e in
    let step : StepRead columns rows i j s read.0 = step_read columns rows i j s read.0 hc hr read.1 in
    let rest : StepsRead columns rows (steps ++ read.0 ∷ []) out ws = steps_read columns rows (steps ++ read.0 ∷ []) ws out hc hr read.2 in
    record {
      more = read.0 ∷ rest.more;
      front = rest.front ∙ append_assoc steps (read.0 ∷ []) rest.more;
      words = three_words i j s _ _ _ ws (flat_map step_words rest.more) step.row step.column step.side rest.words;
      fit = all (step_has_text columns rows read.0) (list_all (step_has_text columns rows) rest.more) step.fit rest.fit;
    }

pub record StepLine (columns rows : ℕ) (ws : List (List ℕ)) (steps : List Step) : Type 0 where
  pub words : ws ≡ codes "steps" ∷ decimal (length steps) ∷ flat_map step_words steps
  pub few : length steps ≤ 128
  pub fit : list_all (step_has_text columns rows) steps ≡ true

counted_steps_read : (columns rows : ℕ) (ws : List (List ℕ)) (steps : List Step) → columns ≤ 1000 → rows ≤ 1000 → line.counted_steps columns rows ws ≡ Some steps → StepLine columns rows (codes "steps" ∷ ws) steps
counted_steps_read columns rows [] steps hc hr e = absurd (cc)
counted_steps_read columns rows (w ∷ ws) steps hc hr e =
    let one = bind_some (λ (n : ℕ). option_and_then (line.counted n) (line.steps_after columns rows [] ws)) (line.below_of 129 w) steps e in
    let two = bind_some (line.counted one.0) (line.steps_after columns rows [] ws) steps one.2 in
    let count = below_of-only 129 one.0 w (omega arith) one.1 in
    let same = counted_some one.0 two.0 steps two.2 in
    let rest : StepsRead columns rows [] two.0 ws = steps_read columns rows [] ws two.0 hc hr two.1 in
    let are : steps ≡ rest.more = sym same.1 ∙ rest.front in
    let long : one.0 ≡ length steps = sym same.0 ∙ ap length same.1 in
    record {
      words = ap (λ l. codes "steps" ∷ l) (two_words w (decimal (length steps)) ws (flat_map step_words steps) (count.1 ∙ ap decimal long) (rest.words ∙ ap (flat_map step_words) (sym are)));
      few = omega (arith, long, count.0);
      fit = ap (list_all (step_has_text columns rows)) are ∙ rest.fit;
    }

pub steps_line_read : (columns rows : ℕ) (ws : List (List ℕ)) (steps : List Step) → columns ≤ 1000 → rows ≤ 1000 → line.steps_of columns rows ws ≡ Some steps → StepLine columns rows ws steps
steps_line_read columns rows ws steps hc hr e =
    let words = bind_some (line.counted_steps columns rows) (line.behind (codes "steps") ws) steps e in
    subst (λ (l : List (List ℕ)). StepLine columns rows l steps) (sym (behind_some (codes "steps") ws words.0 words.1)) (counted_steps_read columns rows words.0 steps hc hr words.2)

-- ---- vectors

record EntryRead (rows : ℕ) (i y : List ℕ) (entry : Entry) : Type 0 where
  row : i ≡ decimal entry.0
  multiplier : y ≡ integer_text entry.1
  below : nat_lt entry.0 rows ≡ true
  limit : is_within (2 ^ 40) entry.1 ≡ true

entry_read : (rows : ℕ) (i y : List ℕ) (entry : Entry) → rows ≤ 1000 → line.entry_of rows i y ≡ Some entry → EntryRead rows i y entry
entry_read rows i y entry hr e =
    let one = bind_some (λ (r : ℕ). option_map (λ (z : ℤ). (r, z)) (line.within_of (2 ^ 40) y)) (line.below_of rows i) entry e in
    let two = map_some (λ (z : ℤ). (one.0, z)) (line.within_of (2 ^ 40) y) entry one.2 in
    let row = below_of-only rows one.0 i (omega arith) one.1 in
    let multiplier = within_of-only (2 ^ 40) two.0 y (omega arith) two.1 in
    subst (EntryRead rows i y) two.2
    (record { row = row.1; multiplier = multiplier.1; below = lt_true one.0 rows row.0; limit = abs_within (2 ^ 40) two.0 multiplier.0 })

-- what is known of an entry before the vector is made
abbrev may_stand : ℕ → Entry → Bool
may_stand rows (i, y) = nat_lt i rows && is_within (2 ^ 40) y

record EntriesRead (rows : ℕ) (entries out : List Entry) (ws : List (List ℕ)) : Type 0 where
  more : List Entry
  front : out ≡ entries ++ more
  words : ws ≡ flat_map entry_words more
  fit : list_all (may_stand rows) more ≡ true

entries_read : (rows : ℕ) (entries : List Entry) (ws : List (List ℕ)) (out : List Entry) → rows ≤ 1000 → line.entries_after rows entries ws ≡ Some out → EntriesRead rows entries out ws
entries_read rows entries [] out hr e = record { more = []; front = sym (some_same entries out e) ∙ sym (append-nil entries); words = refl; fit = refl }
entries_read rows entries (i ∷ []) out hr e = absurd (cc)
entries_read rows entries (i ∷ y ∷ ws) out hr e =
    let read = bind_some (λ (t : Entry). line.entries_after rows (entries ++ t ∷ []) ws) (line.entry_of rows i y) out e in
    let entry : EntryRead rows i y read.0 = entry_read rows i y read.0 hr read.1 in
    let rest : EntriesRead rows (entries ++ read.0 ∷ []) out ws = entries_read rows (entries ++ read.0 ∷ []) ws out hr read.2 in
    record {
      more = read.0 ∷ rest.more;
      front = rest.front ∙ append_assoc entries (read.0 ∷ []) rest.more;
      words = two_words i (decimal read.0.0) (y ∷ ws) (integer_text read.0.1 ∷ flat_map entry_words rest.more) entry.row (two_words y (integer_text read.0.1) ws (flat_map entry_words rest.more) entry.multiplier rest.words);
      fit = all (may_stand rows read.0) (list_all (may_stand rows) rest.more) (all (nat_lt read.0.0 rows) (is_within (2 ^ 40) read.0.1) entry.below entry.limit) rest.fit;
    }

-- an entry that isn't bad
record Good (least : ℕ) (i : ℕ) (y : ℤ) : Type 0 where
  rises : least ≤ i
  some : not (is_within 0 y) ≡ true

good : (least i : ℕ) (y : ℤ) → is_bad least (i, y) ≡ false → Good least i y
good least i (pos n) h = record { rises = grind (arith, nat_tests); some = grind (arith, nat_tests) }
good least i (negsuc n) h = record { rises = grind (arith, nat_tests); some = refl }

record GoodEntries (rows least : ℕ) (entries : List Entry) : Type 0 where
  rising : is_rising (map (λ (e : Entry). e.0) entries) ≡ true
  fit : list_all (entry_has_text rows) entries ≡ true

passed : {X : Type 0} (b : Bool) (x : X) (o : Option X) → cond b (Some x) o ≡ None → (b ≡ false) × (o ≡ None)
passed true x o e = absurd (cc)
passed false x o e = (refl, e)

entry_fits : (rows least i : ℕ) (y : ℤ) → may_stand rows (i, y) ≡ true → Good least i y → entry_has_text rows (i, y) ≡ true
entry_fits rows least i y h g =
    all (may_stand rows (i, y)) (not (is_within 0 y)) h g.some

good_entries : (rows place least : ℕ) (entries : List Entry) → list_all (may_stand rows) entries ≡ true → entries_refusal place least entries ≡ None → GoodEntries rows least entries
good_entries rows place least [] h e = record { rising = refl; fit = refl }
good_entries rows place least ((i, y) ∷ []) h e =
    let here = passed (is_bad least (i, y)) (BadEntry place) None e in
    let may = both (may_stand rows (i, y)) true h in
    record { rising = refl; fit = all (entry_has_text rows (i, y)) true (entry_fits rows least i y may.0 (good least i y here.0)) refl }
good_entries rows place least ((i, y) ∷ (j, z) ∷ entries) h e =
    let here = passed (is_bad least (i, y)) (BadEntry place) (entries_refusal (place + 1) (i + 1) ((j, z) ∷ entries)) e in
    let next = passed (is_bad (i + 1) (j, z)) (BadEntry (place + 1)) (entries_refusal (place + 1 + 1) (j + 1) entries) here.1 in
    let may = both (may_stand rows (i, y)) (list_all (may_stand rows) ((j, z) ∷ entries)) h in
    let rest : GoodEntries rows (i + 1) ((j, z) ∷ entries) = good_entries rows (place + 1) (i + 1) ((j, z) ∷ entries) may.1 here.1 in
    let above : i < j = omega (arith, (good (i + 1) j z next.0).rises) in
    record {
      rising = all (nat_lt i j) (is_rising (j ∷ map (λ (e : Entry). e.0) entries)) (lt_true i j above) rest.rising;
      fit = all (entry_has_text rows (i, y)) (list_all (entry_has_text rows) ((j, z) ∷ entries)) (entry_fits rows least i y may.0 (good least i y here.0)) rest.fit;
    }

unrefused_some : (scale : ℕ) (entries : List Entry) (o : Option VectorError) (v : Multipliers) → line.unrefused scale entries o ≡ Some v → (o ≡ None) × (record { scale = scale; entries = entries } ≡ v)
unrefused_some scale entries None v e = (refl, some_same (record { scale = scale; entries = entries }) v e)
unrefused_some scale entries (Some x) v e = absurd (cc)

-- nothing is wrong with the parts of a vector
record NotRefused (scale : ℕ) (entries : List Entry) : Type 0 where
  small : scale ≤ 2 ^ 20
  few : length entries ≤ 128
  good : entries_refusal 0 0 entries ≡ None

not_refused : (scale : ℕ) (entries : List Entry) → refusal scale entries ≡ None → NotRefused scale entries
not_refused scale entries e =
    let one = passed (nat_lt (2 ^ 20) scale) BadScale (cond (nat_lt 128 (length entries)) (Some TooMany) (entries_refusal 0 0 entries)) e in
    let two = passed (nat_lt 128 (length entries)) TooMany (entries_refusal 0 0 entries) one.1 in
    record { small = not_lt (2 ^ 20) scale one.0; few = not_lt 128 (length entries) two.0; good = two.1 }

abbrev pub vector_words : Multipliers → List (List ℕ)
vector_words v = codes "vector" ∷ decimal v.scale ∷ decimal (length v.entries) ∷ flat_map entry_words v.entries

pub record VectorLine (rows : ℕ) (ws : List (List ℕ)) (v : Multipliers) : Type 0 where
  pub words : ws ≡ vector_words v
  pub fit : vector_has_text rows v ≡ true

pub vector_read : (rows : ℕ) (ws : List (List ℕ)) (v : Multipliers) → rows ≤ 1000 → line.counted_vector rows ws ≡ Some v → VectorLine rows (codes "vector" ∷ ws) v
vector_read rows [] v hr e = absurd (cc)
vector_read rows (w ∷ []) v hr e = absurd (cc)
vector_read rows (w ∷ u ∷ ws) v hr e =
    let one = bind_some (λ (d : ℕ). option_and_then (λ (n : ℕ). line.entries_read rows d n ws) (line.below_of 129 u)) (line.below_of 1048577 w) v e in
    let two = bind_some (λ (n : ℕ). line.entries_read rows one.0 n ws) (line.below_of 129 u) v one.2 in
    let three = bind_some (line.multipliers_of one.0) (option_and_then (line.counted two.0) (line.entries_after rows [] ws)) v two.2 in
    let four = bind_some (line.counted two.0) (line.entries_after rows [] ws) three.0 three.1 in
    let scale = below_of-only 1048577 one.0 w (omega arith) one.1 in
    let count = below_of-only 129 two.0 u (omega arith) two.1 in
    let same = counted_some two.0 four.0 three.0 four.2 in
    let read : EntriesRead rows [] four.0 ws = entries_read rows [] ws four.0 hr four.1 in
    let are : three.0 ≡ read.more = sym same.1 ∙ read.front in
    let may : list_all (may_stand rows) three.0 ≡ true = ap (list_all (may_stand rows)) are ∙ read.fit in
    let made = unrefused_some one.0 three.0 (refusal one.0 three.0) v three.2 in
    let right = not_refused one.0 three.0 made.0 in
    let entries = good_entries rows 0 0 three.0 may right.good in
    let long : two.0 ≡ length three.0 = sym same.0 ∙ ap length same.1 in
    subst (VectorLine rows (codes "vector" ∷ w ∷ u ∷ ws)) made.1
    (record {
      words = ap (λ l. codes "vector" ∷ l) (two_words w (decimal one.0) (u ∷ ws) (decimal (length three.0) ∷ flat_map entry_words three.0) scale.1 (two_words u (decimal (length three.0)) ws (flat_map entry_words three.0) (count.1 ∙ ap decimal long) (read.words ∙ ap (flat_map entry_words) (sym are))));
      fit = all ((nat_le one.0 (2 ^ 20) && nat_le (length three.0) 128) && list_all (entry_has_text rows) three.0) (is_rising (map (λ (e : Entry). e.0) three.0)) (all (nat_le one.0 (2 ^ 20) && nat_le (length three.0) 128) (list_all (entry_has_text rows) three.0) (all (nat_le one.0 (2 ^ 20)) (nat_le (length three.0) 128) (le_true one.0 (2 ^ 20) right.small) (le_true (length three.0) 128 right.few)) entries.fit) entries.rising;
    })

-- ---- verdicts

abbrev pub IsVerdict : ℕ → List ℕ → Verdict → Type 0
IsVerdict rows w v = (w ≡ verdict_word v) × (verdict_has_text rows v ≡ true)

lettered : (rows limit letter code : ℕ) (number : List ℕ) (n : ℕ) → letter ≡ code → limit ≤ 1000 → line.below_of limit number ≡ Some n → (letter ∷ number ≡ code ∷ decimal n) × (nat_lt n limit ≡ true)
lettered rows limit letter code number n e h f =
    let read = below_of-only limit n number (omega arith) f in
    (rw (e, read.1) refl, lt_true n limit read.0)

numbered_read : (rows letter : ℕ) (number : List ℕ) (v : Verdict) → rows ≤ 1000 → line.numbered rows letter number ≡ Some v → IsVerdict rows (letter ∷ number) v
unfolding verdict_word
numbered_read rows letter number v hr e = elim (choose (nat_eq letter 109) (option_map Misses (line.below_of rows number)) _ v e) [
  | inl one ↦
      let read = map_some Misses (line.below_of rows number) v one.1 in
      subst (IsVerdict rows (letter ∷ number)) read.2 (lettered rows rows letter 109 number read.0 (eq_test letter 109 one.0) hr read.1)
  | inr more ↦ elim (choose (nat_eq letter 102) (option_map Farkas (line.below_of 10 number)) _ v more) [
    | inl two ↦
        let read = map_some Farkas (line.below_of 10 number) v two.1 in
        subst (IsVerdict rows (letter ∷ number)) read.2 (lettered rows 10 letter 102 number read.0 (eq_test letter 102 two.0) (omega arith) read.1)
    | inr last ↦
        let three = kept (nat_eq letter 98) (option_map Bound (line.below_of 10 number)) v last in
        let read = map_some Bound (line.below_of 10 number) v three.1 in
        subst (IsVerdict rows (letter ∷ number)) read.2 (lettered rows 10 letter 98 number read.0 (eq_test letter 98 three.0) (omega arith) read.1)
  ]
]

numbered_of-read : (rows : ℕ) (w : List ℕ) (v : Verdict) → rows ≤ 1000 → line.numbered_of rows w ≡ Some v → IsVerdict rows w v
numbered_of-read rows [] v hr e = absurd (cc)
numbered_of-read rows (letter ∷ number) v hr e = numbered_read rows letter number v hr e

verdict_read : (rows : ℕ) (w : List ℕ) (v : Verdict) → rows ≤ 1000 → line.verdict_of rows w ≡ Some v → IsVerdict rows w v
unfolding verdict_word
verdict_read rows w v hr e = elim (choose (bytes_eq w (codes "e")) (Some Empty) _ v e) [
  | inl one ↦ subst (IsVerdict rows w) (some_same Empty v one.1) (word_is w (codes "e") one.0, refl)
  | inr more ↦ elim (choose (bytes_eq w (codes "p")) (Some Point) _ v more) [
    | inl two ↦ subst (IsVerdict rows w) (some_same Point v two.1) (word_is w (codes "p") two.0, refl)
    | inr last ↦ numbered_of-read rows w v hr last
  ]
]

record VerdictsRead (rows : ℕ) (verdicts out : List Verdict) (ws : List (List ℕ)) : Type 0 where
  more : List Verdict
  front : out ≡ verdicts ++ more
  words : ws ≡ map verdict_word more
  fit : list_all (verdict_has_text rows) more ≡ true

verdicts_read : (rows : ℕ) (verdicts : List Verdict) (ws : List (List ℕ)) (out : List Verdict) → rows ≤ 1000 → line.verdicts_after rows verdicts ws ≡ Some out → VerdictsRead rows verdicts out ws
verdicts_read rows verdicts [] out hr e = record { more = []; front = sym (some_same verdicts out e) ∙ sym (append-nil verdicts); words = refl; fit = refl }
verdicts_read rows verdicts (w ∷ ws) out hr e =
    let read = bind_some (λ (t : Verdict). line.verdicts_after rows (verdicts ++ t ∷ []) ws) (line.verdict_of rows w) out e in
    let verdict : IsVerdict rows w read.0 = verdict_read rows w read.0 hr read.1 in
    let rest : VerdictsRead rows (verdicts ++ read.0 ∷ []) out ws = verdicts_read rows (verdicts ++ read.0 ∷ []) ws out hr read.2 in
    record {
      more = read.0 ∷ rest.more;
      front = rest.front ∙ append_assoc verdicts (read.0 ∷ []) rest.more;
      words = two_words w (verdict_word read.0) ws (map verdict_word rest.more) verdict.0 rest.words;
      fit = all (verdict_has_text rows read.0) (list_all (verdict_has_text rows) rest.more) verdict.1 rest.fit;
    }

pub record VerdictLine (scenarios rows : ℕ) (ws : List (List ℕ)) (verdicts : List Verdict) : Type 0 where
  pub words : ws ≡ map verdict_word verdicts
  pub some : 0 < length verdicts
  pub few : length verdicts ≤ scenarios
  pub fit : list_all (verdict_has_text rows) verdicts ≡ true

pub some_verdicts_read : (scenarios rows : ℕ) (ws : List (List ℕ)) (verdicts : List Verdict) → rows ≤ 1000 → line.some_verdicts scenarios rows ws ≡ Some verdicts → VerdictLine scenarios rows ws verdicts
some_verdicts_read scenarios rows ws verdicts hr e =
    let one = bind_some (line.some_up_to scenarios) (line.verdicts_after rows [] ws) verdicts e in
    let two = kept (nat_lt 0 (length one.0) && nat_le (length one.0) scenarios) (Some one.0) verdicts one.2 in
    let same : one.0 ≡ verdicts = some_same one.0 verdicts two.1 in
    let size = both (nat_lt 0 (length one.0)) (nat_le (length one.0) scenarios) two.0 in
    let rest : VerdictsRead rows [] one.0 ws = verdicts_read rows [] ws one.0 hr one.1 in
    subst (VerdictLine scenarios rows ws) same
    (record { words = rest.words ∙ ap (map verdict_word) (sym rest.front); some = lt_test 0 (length one.0) size.0; few = le_test (length one.0) scenarios size.1; fit = ap (list_all (verdict_has_text rows)) rest.front ∙ rest.fit })

-- ---- splits

-- rising from a least number on
abbrev RisesFrom : ℕ → List ℕ → Type 0
RisesFrom least [] = Unit {0}
RisesFrom least (k ∷ ks) = (least ≤ k) × RisesFrom (k + 1) ks

rises : (least : ℕ) (ks : List ℕ) → RisesFrom least ks → is_rising ks ≡ true
rises least [] h = refl
rises least (k ∷ []) h = refl
rises least (k ∷ j ∷ ks) h = all (nat_lt k j) (is_rising (j ∷ ks)) (lt_true k j (omega (arith, h.1.0))) (rises (k + 1) (j ∷ ks) h.1)

record StayRead (scenarios least : ℕ) (stay out : List ℕ) (ws : List (List ℕ)) : Type 0 where
  more : List ℕ
  front : out ≡ stay ++ more
  words : ws ≡ map decimal more
  rising : RisesFrom least more
  fit : list_all (λ k. nat_lt k scenarios) more ≡ true

stay_read : (scenarios least : ℕ) (stay : List ℕ) (ws : List (List ℕ)) (out : List ℕ) → line.stay_after scenarios least stay ws ≡ Some out → StayRead scenarios least stay out ws
stay_read scenarios least stay [] out e = record { more = []; front = sym (some_same stay out e) ∙ sym (append-nil stay); words = refl; rising = tt; fit = refl }
stay_read scenarios least stay (w ∷ ws) out e =
    let read = bind_some (λ (k : ℕ). cond (nat_lt k least) None (line.stay_after scenarios (k + 1) (stay ++ k ∷ []) ws)) (line.below_of (min scenarios 64) w) out e in
    let next = dropped (nat_lt read.0 least) (line.stay_after scenarios (read.0 + 1) (stay ++ read.0 ∷ []) ws) out read.2 in
    let number = below_of-only (min scenarios 64) read.0 w (omega arith) read.1 in
    let rest : StayRead scenarios (read.0 + 1) (stay ++ read.0 ∷ []) out ws = stay_read scenarios (read.0 + 1) (stay ++ read.0 ∷ []) ws out next.1 in
    record {
      more = read.0 ∷ rest.more;
      front = rest.front ∙ append_assoc stay (read.0 ∷ []) rest.more;
      words = two_words w (decimal read.0) ws (map decimal rest.more) number.1 rest.words;
      rising = (not_lt read.0 least next.0, rest.rising);
      fit = all (nat_lt read.0 scenarios) (list_all (λ k. nat_lt k scenarios) rest.more) (lt_true read.0 scenarios (omega (arith, number.0))) rest.fit;
    }

some_of-some : {X : Type 0} (xs ys : List X) → line.some_of xs ≡ Some ys → (xs ≡ ys) × (0 < length ys)
some_of-some [] ys e = absurd (cc)
some_of-some (x ∷ xs) ys e =
    let same = some_same (x ∷ xs) ys e in
    (same, rw (← same) (omega arith))

pub stay_line_read : (scenarios : ℕ) (ws : List (List ℕ)) (stay : List ℕ) → line.stay_of scenarios ws ≡ Some stay → (ws ≡ codes "stay" ∷ map decimal stay) × (stay_has_text scenarios stay ≡ true)
stay_line_read scenarios ws stay e =
    let words = bind_some (line.some_stay scenarios) (line.behind (codes "stay") ws) stay e in
    let one = bind_some line.some_of (line.stay_after scenarios 0 [] words.0) stay words.2 in
    let same = some_of-some one.0 stay one.2 in
    let rest : StayRead scenarios 0 [] one.0 words.0 = stay_read scenarios 0 [] words.0 one.0 one.1 in
    let are : stay ≡ rest.more = sym same.0 ∙ rest.front in (
      behind_some (codes "stay") ws words.0 words.1 ∙ ap (λ l. codes "stay" ∷ l) (rest.words ∙ ap (map decimal) (sym are)),
      all (nat_lt 0 (length stay) && is_rising stay) (list_all (λ k. nat_lt k scenarios) stay) (all (nat_lt 0 (length stay)) (is_rising stay) (lt_true 0 (length stay) same.1) (ap is_rising are ∙ rises 0 rest.more rest.rising)) (ap (list_all (λ k. nat_lt k scenarios)) are ∙ rest.fit),
    )

pub record HeadLine (columns nodes : ℕ) (ws : List (List ℕ)) (h : SplitHead) : Type 0 where
  pub words : ws ≡ decimal h.child ∷ decimal h.column ∷ integer_text h.value ∷ []
  pub some : nat_lt 0 h.child ≡ true
  pub below : nat_lt (suc h.child) nodes ≡ true
  pub column : nat_lt h.column columns ≡ true
  pub value : is_within 1000000 h.value ≡ true

head_read : (columns nodes : ℕ) (child column value : List ℕ) (h : SplitHead) → columns ≤ 1000 → nodes ≤ 100001 → line.head_of columns nodes child column value ≡ Some h → HeadLine columns nodes (child ∷ column ∷ value ∷ []) h
head_read columns nodes child column value h hc hn e =
    let one = bind_some (λ (k : ℕ). option_and_then (λ (j : ℕ). option_and_then (λ (v : ℤ). line.head_at k j v) (line.within_of 1000000 value)) (line.below_of columns column)) (line.below_of (nodes - 1) child) h e in
    let two = bind_some (λ (j : ℕ). option_and_then (λ (v : ℤ). line.head_at one.0 j v) (line.within_of 1000000 value)) (line.below_of columns column) h one.2 in
    let three = bind_some (λ (v : ℤ). line.head_at one.0 two.0 v) (line.within_of 1000000 value) h two.2 in
    let four = dropped (nat_eq one.0 0) (Some (record { child = one.0; column = two.0; value = three.0 })) h three.2 in
    let first = below_of-only (nodes - 1) one.0 child (omega arith) one.1 in
    let second = below_of-only columns two.0 column (omega arith) two.1 in
    let third = within_of-only 1000000 three.0 value (omega arith) three.1 in
    subst (HeadLine columns nodes (child ∷ column ∷ value ∷ [])) (some_same (record { child = one.0; column = two.0; value = three.0 }) h four.1)
    (record {
      words = two_words child (decimal one.0) (column ∷ value ∷ []) _ first.1 (two_words column (decimal two.0) (value ∷ []) _ second.1 (two_words value (integer_text three.0) [] [] third.1 refl));
      some = lt_true 0 one.0 (positive one.0 four.0);
      below = lt_true (suc one.0) nodes (omega (arith, first.0));
      column = lt_true two.0 columns second.0;
      value = abs_within 1000000 three.0 third.0;
    })

pub heads_read : (columns nodes : ℕ) (ws : List (List ℕ)) (h : SplitHead) → columns ≤ 1000 → nodes ≤ 100001 → line.heads_of columns nodes ws ≡ Some h → HeadLine columns nodes ws h
heads_read columns nodes [] h hc hn e = absurd (cc)
heads_read columns nodes (a ∷ []) h hc hn e = absurd (cc)
heads_read columns nodes (a ∷ b ∷ []) h hc hn e = absurd (cc)
heads_read columns nodes (a ∷ b ∷ c ∷ []) h hc hn e = head_read columns nodes a b c h hc hn e
heads_read columns nodes (a ∷ b ∷ c ∷ d ∷ ws) h hc hn e = absurd (cc)
