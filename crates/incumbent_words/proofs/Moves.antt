-- Each step keeps the rule.
use Rattle.std.proofs.Common.{◌≡◌, ◌≢◌, ℕ, zero, suc, ◌+◌, ◌<◌, ◌≤◌, min, List, [], ◌∷◌, ◌++◌, length, get_or, set, Bool, true, false, cond, true≢false, refl, sym, ap, ◌∙◌, subst, inl, inr, ⊎_elim, arith, length-set, eq-eqb, ne_eqb}
use Rattle.std.proofs.lemmas.List.{append-nil, get_or-set_same, get_or-set_other, get_or_default}
use Rattle.std.proofs.Math.ListN.{get_or-eq_default}
use mathlib.Core.Option.{none, some, some-injective, some-ne-none}
use native.Mathlib.Decide.{ℕ_discrete, dec_le}
use lib.ListN.{get_elem?}
use Rattle.atomic_table.specs.Table.{Me, step, keeps, Allows, Splits, Joins}
use Rattle.atomic_table.proofs.Lists.{at_set, at_snoc, set_else}
use Rattle.incumbent_words.specs.declared.view.View.{View}
use Rattle.incumbent_words.specs.Codes.{no_value, IsCode}
use Rattle.incumbent_words.specs.Rule.{code_at, times, OnceBelow, total_of, least_offer, weight, count_in, numbered, Fits, Keeps, Holds, none_for, looked, offered, one_more, member_of, note_of, least_of, either_leads, joined, spent, HasAll, IsNote, IsSameButCaps, Looked, Offered}

-- codes

pub code-le : (c : ℕ) → IsCode c → c ≤ no_value
code-le c (inl e) = omega arith
code-le c (inr h) = omega arith

pub code-min : (a b : ℕ) → IsCode a → IsCode b → IsCode (min a b)
code-min a b p q = elim (dec_le a b) [ yes h ↦ (let e : min a b ≡ a = omega arith in subst IsCode (sym e) p) | no h ↦ (let e : min a b ≡ b = omega arith in subst IsCode (sym e) q) ]

pub code_at-none : (n s : ℕ) → code_at (none_for n) s ≡ no_value
code_at-none zero s = refl
code_at-none (suc n) zero = refl
code_at-none (suc n) (suc s) = code_at-none n s

pub code_at-least : (xs ys : List ℕ) (s : ℕ) → length xs ≡ length ys → code_at (least_of xs ys) s ≡ min (code_at xs s) (code_at ys s)
code_at-least [] [] s e = refl
code_at-least [] (y ∷ ys) s e = absurd (omega arith)
code_at-least (x ∷ xs) [] s e = absurd (omega arith)
code_at-least (x ∷ xs) (y ∷ ys) zero e = refl
code_at-least (x ∷ xs) (y ∷ ys) (suc s) e = code_at-least xs ys s (omega arith)

pub length-least : (xs ys : List ℕ) → length xs ≡ length ys → length (least_of xs ys) ≡ length xs
length-least [] ys e = refl
length-least (x ∷ xs) [] e = absurd (omega arith)
length-least (x ∷ xs) (y ∷ ys) e = ap suc (length-least xs ys (omega arith))

-- totals

pub total-set : (f : View → ℕ) (l : List View) (id : ℕ) (v w : View) → get_elem? l id ≡ some v → total_of f (set l id w) + f v ≡ total_of f l + f w
total-set f [] id v w e = absurd (some-ne-none v (sym e))
total-set f (x ∷ xs) zero v w e = let is : f x ≡ f v = ap f (some-injective x v e) in omega arith
total-set f (x ∷ xs) (suc id) v w e = let r = total-set f xs id v w e in omega arith

pub total-snoc : (f : View → ℕ) (l : List View) (w : View) → total_of f (l ++ w ∷ []) ≡ total_of f l + f w
total-snoc f [] w = omega arith
total-snoc f (x ∷ xs) w = let r = total-snoc f xs w in omega arith

pub total-member : (f : View → ℕ) (l : List View) (k : ℕ) (v : View) → get_elem? l k ≡ some v → f v ≤ total_of f l
total-member f [] k v e = absurd (some-ne-none v (sym e))
total-member f (x ∷ xs) zero v e = let is : f x ≡ f v = ap f (some-injective x v e) in omega arith
total-member f (x ∷ xs) (suc k) v e = let r = total-member f xs k v e in omega arith

pub total-none : (f : View → ℕ) (l : List View) → ((k : ℕ) (v : View) → get_elem? l k ≡ some v → f v ≡ 0) → total_of f l ≡ 0
total-none f [] h = refl
total-none f (x ∷ xs) h = let a = h 0 x refl in let r = total-none f xs (λ k v e. h (suc k) v e) in omega arith

-- the least offer

pub least-le : (s : ℕ) (l : List View) → least_offer s l ≤ no_value
least-le s [] = omega arith
least-le s (x ∷ xs) = let r = least-le s xs in omega arith

pub least-member : (s : ℕ) (l : List View) (k : ℕ) (v : View) → get_elem? l k ≡ some v → least_offer s l ≤ code_at v.offers s
least-member s [] k v e = absurd (some-ne-none v (sym e))
least-member s (x ∷ xs) zero v e = let is : code_at x.offers s ≡ code_at v.offers s = ap (λ (u : View). code_at u.offers s) (some-injective x v e) in omega arith
least-member s (x ∷ xs) (suc k) v e = let r = least-member s xs k v e in omega arith

pub least-swap : (s : ℕ) (l : List View) (id : ℕ) (v w : View) → get_elem? l id ≡ some v → min (least_offer s (set l id w)) (code_at v.offers s) ≡ min (least_offer s l) (code_at w.offers s)
least-swap s [] id v w e = absurd (some-ne-none v (sym e))
least-swap s (x ∷ xs) zero v w e = let is : code_at x.offers s ≡ code_at v.offers s = ap (λ (u : View). code_at u.offers s) (some-injective x v e) in omega arith
least-swap s (x ∷ xs) (suc id) v w e = let r = least-swap s xs id v w e in omega arith

pub least-set : (s : ℕ) (l : List View) (id : ℕ) (v w : View) → get_elem? l id ≡ some v → code_at w.offers s ≤ code_at v.offers s → least_offer s (set l id w) ≡ min (code_at w.offers s) (least_offer s l)
least-set s [] id v w e le = absurd (some-ne-none v (sym e))
least-set s (x ∷ xs) zero v w e le = let is : code_at x.offers s ≡ code_at v.offers s = ap (λ (u : View). code_at u.offers s) (some-injective x v e) in omega arith
least-set s (x ∷ xs) (suc id) v w e le = let r = least-set s xs id v w e le in omega arith

pub least-snoc : (s : ℕ) (l : List View) (w : View) → least_offer s (l ++ w ∷ []) ≡ min (least_offer s l) (code_at w.offers s)
least-snoc s [] w = omega arith
least-snoc s (x ∷ xs) w = let r = least-snoc s xs w in omega arith

pub least-none : (s : ℕ) (l : List View) → ((k : ℕ) (v : View) → get_elem? l k ≡ some v → code_at v.offers s ≡ no_value) → least_offer s l ≡ no_value
least-none s [] h = refl
least-none s (x ∷ xs) h = let a = h 0 x refl in let r = least-none s xs (λ k v e. h (suc k) v e) in omega arith

-- numbers

pub times-append : (x : ℕ) (xs ys : List ℕ) → times x (xs ++ ys) ≡ times x xs + times x ys
times-append x [] ys = omega arith
times-append x (y ∷ xs) ys = let r = times-append x xs ys in omega arith

pub times-never : (xs : List ℕ) → ((x : ℕ) → times x xs ≡ 0) → xs ≡ []
times-never [] h = refl
times-never (y ∷ ys) h = let t : times y (y ∷ ys) ≡ 1 + times y ys = ap (λ (b : Bool). cond b 1 0 + times y ys) (eq-eqb y y refl) in let z = h y in absurd (omega (arith, sym t ∙ z))

-- the seat with the count

module _ (n : ℕ) (words : List ℕ) (views : List View) (kept : Keeps n words views) (id : ℕ) (v : View) (at : get_elem? views id ≡ some v) where
  -- any other seat, once the seat id is put aside
  elsewhere : (f : View → ℕ) → f spent ≡ 0 → (k : ℕ) (u : View) → get_elem? (set views id spent) k ≡ some u → f u + f v ≤ total_of f views
  elsewhere f z k u e = let a = total-set f views id v spent at in let b = total-member f (set views id spent) k u e in omega arith

  pub follower : v.leads ≡ true → (k : ℕ) (u : View) → get_elem? (set views id spent) k ≡ some u → u.leads ≡ false
  follower leads k u e = by_leads u.leads refl
    where
      by_leads : (b : Bool) → u.leads ≡ b → u.leads ≡ false
      by_leads false is = is
      by_leads true is =
          let a : weight u ≡ 1 = ap (λ (b : Bool). cond b 1 0) is in
          let c : weight v ≡ 1 = ap (λ (b : Bool). cond b 1 0) leads in
          let le = elsewhere weight refl k u e in let one = kept.leader in absurd (omega arith)

  pub counts : v.leads ≡ true → total_of count_in views ≡ v.count
  counts leads =
      let none_else : total_of count_in (set views id spent) ≡ 0 = total-none count_in (set views id spent) (λ k u e. ⊎_elim (λ (t : (k ≡ id) × (spent ≡ u)). ap count_in (sym t.1)) (λ (t : (k ≢ id) × (get_elem? views k ≡ some u)). (kept.each k u t.1).follows (follower leads k u e)) (at_set views id k spent u e)) in
      let a = total-set count_in views id v spent at in omega arith

  pub idle_others : HasAll v → (k : ℕ) (u : View) → get_elem? (set views id spent) k ≡ some u → u.numbers ≡ []
  idle_others all k u e =
      times-never u.numbers (λ x.
      let c = counts all.0 in
      let le = elsewhere (numbered x) refl k u e in
      let once = kept.numbers x in
      let mine = all.1 x in
      elim (dec_le (suc x) v.count) [ yes h ↦ (let one : total_of (numbered x) views ≡ 1 = once.0 (omega arith) in let m = mine (omega arith) in omega arith) | no h ↦ (let none_yet : total_of (numbered x) views ≡ 0 = once.1 (omega arith) in omega arith) ])

  -- the word is the own offer of a seat that has the count and all numbers
  pub own : HasAll v → (s : ℕ) → s < n → code_at words s ≡ code_at v.offers s
  own all s lt =
      let others : least_offer s (set views id spent) ≡ no_value = least-none s (set views id spent) (λ k u e. ⊎_elim (λ (t : (k ≡ id) × (spent ≡ u)). ap (λ (w : View). code_at w.offers s) (sym t.1)) (λ (t : (k ≢ id) × (get_elem? views k ≡ some u)). (kept.each k u t.1).idle (idle_others all k u e) s lt) (at_set views id k spent u e)) in
      let swap = least-swap s views id v spent at in
      let word = kept.least s lt in
      let mine = least-member s views id v at in
      let code = code-le (code_at v.offers s) ((kept.each id v at).codes s lt) in
      omega arith

-- a word falls, or stays

module _ (n : ℕ) (words : List ℕ) (views : List View) (kept : Keeps n words views) (id : ℕ) (v : View) (at : get_elem? views id ≡ some v) (i x : ℕ) (lt : i < n) where
  word_at : (s : ℕ) → Dec (s ≡ i) → (s ≡ i → code_at (set words i x) s ≡ x) × (s ≢ i → code_at (set words i x) s ≡ code_at words s)
  word_at s d =
      let wide = kept.wide in
      ((λ e. subst (λ (j : ℕ). code_at (set words i x) j ≡ x) (sym e) (get_or-set_same words i x no_value (omega arith))), λ ne. get_or-set_other words i s x no_value ne)

  lowered : x ≤ code_at words i → (s : ℕ) → code_at (set words i x) s ≤ code_at words s
  lowered le s = elim (ℕ_discrete s i) [ yes e ↦ (let is = (word_at s (yes e)).0 e in let same : code_at words s ≡ code_at words i = ap (code_at words) e in omega arith) | no ne ↦ (let is = (word_at s (no ne)).1 ne in omega arith) ]

  pub moves : (w : View) → IsCode x → x ≤ code_at words i → Fits n (set words i x) w
      → w.numbers ≡ v.numbers → w.leads ≡ v.leads → w.count ≡ v.count
      → code_at w.offers i ≤ code_at v.offers i → min (code_at w.offers i) (code_at words i) ≡ x → ((s : ℕ) → s ≢ i → code_at w.offers s ≡ code_at v.offers s)
      → Keeps n (set words i x) (set views id w)
  moves w code le fits numbers leads count less is others = record {
    wide = length-set words i x ∙ kept.wide;
    codes = λ s h. elim (ℕ_discrete s i) [ yes e ↦ subst IsCode (sym ((word_at s (yes e)).0 e)) code | no ne ↦ subst IsCode (sym ((word_at s (no ne)).1 ne)) (kept.codes s h) ];
    least = λ s h.
        let word = kept.least s h in
        elim (ℕ_discrete s i) [
          | yes e ↦ (
              let here = (word_at s (yes e)).0 e in
              let o : code_at w.offers s ≡ code_at w.offers i = ap (code_at w.offers) e in
              let p : code_at v.offers s ≡ code_at v.offers i = ap (code_at v.offers) e in
              let q : code_at words s ≡ code_at words i = ap (code_at words) e in
              let now = least-set s views id v w at (omega arith) in omega arith)
          | no ne ↦ (
              let there = (word_at s (no ne)).1 ne in
              let o = others s ne in
              let now = least-set s views id v w at (omega arith) in
              let m = least-member s views id v at in omega arith)
        ];
    each = λ k u e. ⊎_elim
        (λ (t : (k ≡ id) × (w ≡ u)). subst (Fits n (set words i x)) t.1 fits)
        (λ (t : (k ≢ id) × (get_elem? views k ≡ some u)). let f = kept.each k u t.1 in record { above = λ s h. (let a = f.above s h in let b = lowered le s in omega arith); below = f.below; codes = f.codes; idle = f.idle; follows = f.follows })
        (at_set views id k w u e);
    leader = let t = total-set weight views id v w at in let same : weight w ≡ weight v = ap (λ (b : Bool). cond b 1 0) leads in let one = kept.leader in omega arith;
    numbers = λ y.
        let t = total-set count_in views id v w at in let same : count_in w ≡ count_in v = count in
        let u = total-set (numbered y) views id v w at in let also : numbered y w ≡ numbered y v = ap (times y) numbers in
        let once = kept.numbers y in
        ((λ h. (let r = once.0 (omega arith) in omega arith)), λ h. (let r = once.1 (omega arith) in omega arith));
  }

-- the word as a step finds it
found_at : (words : List ℕ) (i n : ℕ) → length words ≡ n → i < n → code_at words i ≡ get_or words i 0
found_at words i n e lt = get_or_default words i no_value 0 (omega arith)

pub looks : (n slots id : ℕ) (me : Me (Unit {0}) View) (i : ℕ) → i < n → i < length me.0.caps → Allows (Holds n) slots id me i (λ k. k) (Looked (step slots i 0 0 none) me)
looks n slots id me i lt wide s kept homes at small =
    let v = me.0 in
    let x : ℕ = get_or s.words i 0 in
    let is : code_at s.words i ≡ x = found_at s.words i n kept.wide lt in
    let f = kept.each id v at in
    let above = f.above i lt in
    let below = f.below i lt in
    let w : View = looked v i x in
    let here : code_at w.caps i ≡ x = get_or-set_same v.caps i x no_value wide in
    let code : IsCode x = subst IsCode is (kept.codes i lt) in
    let fits : Fits n (set s.words i x) w = record {
      above = λ j h. elim (ℕ_discrete j i) [
        | yes e ↦ (let a = (word_at n s.words s.views kept id v at i x lt j (yes e)).0 e in let c : code_at w.caps j ≡ code_at w.caps i = ap (code_at w.caps) e in omega arith)
        | no ne ↦ (let a = (word_at n s.words s.views kept id v at i x lt j (no ne)).1 ne in let c : code_at w.caps j ≡ code_at v.caps j = get_or-set_other v.caps i j x no_value ne in let b = f.above j h in omega arith)
      ];
      below = λ j h. elim (ℕ_discrete j i) [
        | yes e ↦ (let c : code_at w.caps j ≡ code_at w.caps i = ap (code_at w.caps) e in let o : code_at v.offers j ≡ code_at v.offers i = ap (code_at v.offers) e in omega arith)
        | no ne ↦ (let c : code_at w.caps j ≡ code_at v.caps j = get_or-set_other v.caps i j x no_value ne in let b = f.below j h in omega arith)
      ];
      codes = f.codes;
      idle = f.idle;
      follows = f.follows;
    } in (
      w,
      keeps,
      tt,
      moves n s.words s.views kept id v at i x lt w code (omega arith) fits refl refl refl (omega arith) (omega arith) (λ j ne. refl),
      (refl, omega arith, omega arith, code, λ all. sym is ∙ own n s.words s.views kept id v at all i lt),
    )

pub offers : (n slots id : ℕ) (me : Me (Unit {0}) View) (i k : ℕ) → i < n → i < length me.0.caps → i < length me.0.offers → me.0.numbers ≢ [] → IsCode k → Allows (Holds n) slots id me i (λ m. min m k) (Offered (step slots i k 0 none) me)
offers n slots id me i k lt wide wide' some_number good s kept homes at small =
    let v = me.0 in
    let y : ℕ = get_or s.words i 0 in
    let is : code_at s.words i ≡ y = found_at s.words i n kept.wide lt in
    let x : ℕ = min y k in
    let f = kept.each id v at in
    let above = f.above i lt in
    let below = f.below i lt in
    let o : ℕ = code_at v.offers i in
    let w : View = offered v i y k in
    let here : code_at w.caps i ≡ x = get_or-set_same v.caps i x no_value wide in
    let mine : code_at w.offers i ≡ min o k = get_or-set_same v.offers i (min o k) no_value wide' in
    let code : IsCode y = subst IsCode is (kept.codes i lt) in
    let fits : Fits n (set s.words i x) w = record {
      above = λ j h. elim (ℕ_discrete j i) [
        | yes e ↦ (let a = (word_at n s.words s.views kept id v at i x lt j (yes e)).0 e in let c : code_at w.caps j ≡ code_at w.caps i = ap (code_at w.caps) e in omega arith)
        | no ne ↦ (let a = (word_at n s.words s.views kept id v at i x lt j (no ne)).1 ne in let c : code_at w.caps j ≡ code_at v.caps j = get_or-set_other v.caps i j x no_value ne in let b = f.above j h in omega arith)
      ];
      below = λ j h. elim (ℕ_discrete j i) [
        | yes e ↦ (let c : code_at w.caps j ≡ code_at w.caps i = ap (code_at w.caps) e in let d : code_at w.offers j ≡ code_at w.offers i = ap (code_at w.offers) e in omega arith)
        | no ne ↦ (let c : code_at w.caps j ≡ code_at v.caps j = get_or-set_other v.caps i j x no_value ne in let d : code_at w.offers j ≡ code_at v.offers j = get_or-set_other v.offers i j (min o k) no_value ne in let b = f.below j h in omega arith)
      ];
      codes = λ j h. elim (ℕ_discrete j i) [
        | yes e ↦ subst IsCode (sym (ap (code_at w.offers) e ∙ mine)) (code-min o k (f.codes i lt) good)
        | no ne ↦ subst IsCode (sym (get_or-set_other v.offers i j (min o k) no_value ne)) (f.codes j h)
      ];
      idle = λ empty. absurd (some_number empty);
      follows = f.follows;
    } in (
      w,
      keeps,
      tt,
      moves n s.words s.views kept id v at i x lt w (code-min y k code good) (omega arith) fits refl refl refl (omega arith) (omega arith) (λ j ne. get_or-set_other v.offers i j (min o k) no_value ne),
      (refl, omega arith, omega arith, code),
    )

-- a seat is cut in two

cuts : (n : ℕ) (words : List ℕ) (views : List View) → Keeps n words views → (id : ℕ) (v v' w : View) → get_elem? views id ≡ some v
    → Fits n words v' → Fits n words w → ((s : ℕ) → code_at v'.offers s ≡ code_at v.offers s) → ((s : ℕ) → s < n → code_at w.offers s ≡ no_value)
    → weight v' ≡ weight v → weight w ≡ 0
    → ((x : ℕ) → OnceBelow x (total_of count_in views) (total_of (numbered x) views) → OnceBelow x (total_of count_in (set views id v' ++ w ∷ [])) (total_of (numbered x) (set views id v' ++ w ∷ [])))
    → Keeps n words (set views id v' ++ w ∷ [])
cuts n words views kept id v v' w at fits' fits same without lead nobody numbers = record {
  wide = kept.wide;
  codes = kept.codes;
  least = λ s h.
      let word = kept.least s h in
      let o = same s in
      let q = without s h in
      let m = least-member s views id v at in
      let le = least-le s views in
      let a = least-set s views id v v' at (omega arith) in
      let b = least-snoc s (set views id v') w in omega arith;
  each = λ k u e. ⊎_elim
      (λ (there : get_elem? (set views id v') k ≡ some u). ⊎_elim
      (λ (t : (k ≡ id) × (v' ≡ u)). subst (Fits n words) t.1 fits')
      (λ (t : (k ≢ id) × (get_elem? views k ≡ some u)). kept.each k u t.1)
      (at_set views id k v' u there))
      (λ (new : w ≡ u). subst (Fits n words) new fits)
      (at_snoc (set views id v') w u k e);
  leader = let a = total-set weight views id v v' at in let b = total-snoc weight (set views id v') w in let one = kept.leader in omega arith;
  numbers = λ x. numbers x (kept.numbers x);
}

-- a seat with the same caps and no offer
fits-new : (n : ℕ) (words : List ℕ) (v w : View) → Fits n words v → w.caps ≡ v.caps → w.offers ≡ none_for (length v.caps) → w.count ≡ 0 → Fits n words w
fits-new n words v w f caps offers count =
    let without : (s : ℕ) → code_at w.offers s ≡ no_value = λ s. ap (λ (l : List ℕ). code_at l s) offers ∙ code_at-none (length v.caps) s in
    let same : (s : ℕ) → code_at w.caps s ≡ code_at v.caps s = λ s. ap (λ (l : List ℕ). code_at l s) caps in
    record {
      above = λ s h. (let a = f.above s h in let b = same s in omega arith);
      below = λ s h. (let a = f.below s h in let b = same s in let c = without s in let d = code-le (code_at v.offers s) (f.codes s h) in omega arith);
      codes = λ s h. inl (without s);
      idle = λ _ s h. without s;
      follows = λ _. count;
    }

pub members : (n id : ℕ) (v : View) → v.leads ≡ true → Splits (Holds n) id v (one_more v) (member_of v)
members n id v leads s kept at =
    let f = kept.each id v at in
    let mine : total_of count_in s.views ≡ v.count = counts n s.words s.views kept id v at leads in
    let more : Fits n s.words (one_more v) = record { above = f.above; below = f.below; codes = f.codes; idle = f.idle; follows = λ empty. absurd (true≢false (sym leads ∙ empty)) } in
    let new : Fits n s.words (member_of v) = fits-new n s.words v (member_of v) f refl refl refl in
    cuts n s.words s.views kept id v (one_more v) (member_of v) at more new (λ _. refl) (λ j _. code_at-none (length v.caps) j) refl refl
    (λ x once.
    let a = total-set count_in s.views id v (one_more v) at in
    let b = total-snoc count_in (set s.views id (one_more v)) (member_of v) in
    let c = total-set (numbered x) s.views id v (one_more v) at in
    let d = total-snoc (numbered x) (set s.views id (one_more v)) (member_of v) in
    elim (ℕ_discrete x v.count) [
      | yes e ↦ (
          let t : numbered x (member_of v) ≡ 1 = ap (λ (b : Bool). cond b 1 0 + 0) (eq-eqb x v.count e) in
          let z = once.1 (omega arith) in
          ((λ h. omega arith), λ h. absurd (omega arith)))
      | no ne ↦ (
          let t : numbered x (member_of v) ≡ 0 = ap (λ (b : Bool). cond b 1 0 + 0) (ne_eqb x v.count ne) in
          ((λ h. (let z = once.0 (omega arith) in omega arith)), λ h. (let z = once.1 (omega arith) in omega arith)))
    ])

pub notes : (n id : ℕ) (v : View) → Splits (Holds n) id v v (note_of v)
notes n id v s kept at =
    let f = kept.each id v at in
    let new : Fits n s.words (note_of v) = fits-new n s.words v (note_of v) f refl refl refl in
    cuts n s.words s.views kept id v v (note_of v) at f new (λ _. refl) (λ j _. code_at-none (length v.caps) j) refl refl
    (λ x once.
    let a = total-set count_in s.views id v v at in
    let b = total-snoc count_in (set s.views id v) (note_of v) in
    let c = total-set (numbered x) s.views id v v at in
    let d = total-snoc (numbered x) (set s.views id v) (note_of v) in
    ((λ h. (let z = once.0 (omega arith) in omega arith)), λ h. (let z = once.1 (omega arith) in omega arith)))

-- two seats are put together

both_nil : (xs ys : List ℕ) → xs ++ ys ≡ [] → (xs ≡ []) × (ys ≡ [])
both_nil [] ys e = (refl, e)
both_nil (x ∷ xs) ys e = absurd (cc)

weigh-either : (v w : View) → weight v + weight w ≤ 1 → weight (joined v w) ≡ weight v + weight w
weigh-either v w le = by_cases v.leads w.leads le
  where
    by_cases : (a b : Bool) → cond a 1 0 + cond b 1 0 ≤ 1 → cond (either_leads a b) 1 0 ≡ cond a 1 0 + cond b 1 0
    by_cases true true h = absurd (omega arith)
    by_cases true false h = refl
    by_cases false b h = omega arith

neither : (a b : Bool) → either_leads a b ≡ false → (a ≡ false) × (b ≡ false)
neither true b e = absurd (true≢false e)
neither false b e = (refl, e)

pub joins : (n id other : ℕ) (v w : View) → length v.caps ≡ length w.caps → length v.offers ≡ length w.offers → Joins (Holds n) id v other w (joined v w) spent
joins n id other v w wide wide' s kept at apart there =
    let views = s.views in
    let b : View = joined v w in
    let one : List View = set views id b in
    let two : List View = set one other spent in
    let at_other : get_elem? views other ≡ some w = ⊎_elim (λ (t : (other ≡ id) × (b ≡ w)). absurd (apart t.0)) (λ (t : (other ≢ id) × (get_elem? views other ≡ some w)). t.1) (at_set views id other b w there) in
    let f = kept.each id v at in
    let g = kept.each other w at_other in
    let totals : (h : View → ℕ) → h spent ≡ 0 → total_of h two + (h w + h v) ≡ total_of h views + h b = λ h z. (let p = total-set h views id v b at in let q = total-set h one other w spent there in omega arith) in
    let caps : (j : ℕ) → code_at b.caps j ≡ min (code_at v.caps j) (code_at w.caps j) = λ j. code_at-least v.caps w.caps j wide in
    let own_of : (j : ℕ) → code_at b.offers j ≡ min (code_at v.offers j) (code_at w.offers j) = λ j. code_at-least v.offers w.offers j wide' in
    let fits : Fits n s.words b = record {
      above = λ j h. (let a = f.above j h in let c = g.above j h in let d = caps j in omega arith);
      below = λ j h. (let a = f.below j h in let c = g.below j h in let d = caps j in let e = own_of j in omega arith);
      codes = λ j h. subst IsCode (sym (own_of j)) (code-min _ _ (f.codes j h) (g.codes j h));
      idle = λ nil j h. (let t = both_nil v.numbers w.numbers nil in let a = f.idle t.0 j h in let c = g.idle t.1 j h in let e = own_of j in omega arith);
      follows = λ empty. (let t = neither v.leads w.leads empty in let a = f.follows t.0 in let c = g.follows t.1 in omega arith);
    } in
    let away : Fits n s.words spent = record {
      above = λ j h. code-le _ (kept.codes j h);
      below = λ j h. omega arith;
      codes = λ j h. inl refl;
      idle = λ _ j h. refl;
      follows = λ _. refl;
    } in record {
      wide = kept.wide;
      codes = kept.codes;
      least = λ j h.
          let word = kept.least j h in
          let o = own_of j in
          let p = least-swap j views id v b at in
          let q = least-swap j one other w spent there in
          let l = least-le j one in
          let mv = least-member j views id v at in
          let mw = least-member j views other w at_other in
          let mb = least-member j two id b (set_else one other id spent (λ e. apart (sym e)) ∙ at_b views id v b at) in omega arith;
      each = λ k u e. ⊎_elim
          (λ (t : (k ≡ other) × (spent ≡ u)). subst (Fits n s.words) t.1 away)
          (λ (r : (k ≢ other) × (get_elem? one k ≡ some u)). ⊎_elim
          (λ (t : (k ≡ id) × (b ≡ u)). subst (Fits n s.words) t.1 fits)
          (λ (t : (k ≢ id) × (get_elem? views k ≡ some u)). kept.each k u t.1)
          (at_set views id k b u r.1))
          (at_set one other k spent u e);
      leader =
          let t = totals weight refl in
          let a = total-set weight views id v spent at in
          let c = total-member weight (set views id spent) other w (set_else views id other spent apart ∙ at_other) in
          let l = kept.leader in
          let e = weigh-either v w (omega arith) in omega arith;
      numbers = λ x.
          let t = totals count_in refl in
          let u = totals (numbered x) refl in
          let e = times-append x v.numbers w.numbers in
          let once = kept.numbers x in
          ((λ h. (let z = once.0 (omega arith) in omega arith)), λ h. (let z = once.1 (omega arith) in omega arith));
    }
  where
    at_b : (l : List View) (i : ℕ) (v b : View) → get_elem? l i ≡ some v → get_elem? (set l i b) i ≡ some b
    at_b [] i v b e = absurd (some-ne-none v (sym e))
    at_b (x ∷ xs) zero v b e = refl
    at_b (x ∷ xs) (suc i) v b e = at_b xs i v b e

-- a list of codes, each lowered

pub least-by_index : (zs xs ys : List ℕ) → length zs ≡ length xs → length xs ≡ length ys → ((k : ℕ) → k < length xs → get_or zs k 0 ≡ min (get_or xs k 0) (get_or ys k 0)) → zs ≡ least_of xs ys
least-by_index [] [] ys e f h = refl
least-by_index [] (x ∷ xs) ys e f h = absurd (omega arith)
least-by_index (z ∷ zs) [] ys e f h = absurd (omega arith)
least-by_index (z ∷ zs) (x ∷ xs) [] e f h = absurd (omega arith)
least-by_index (z ∷ zs) (x ∷ xs) (y ∷ ys) e f h =
    let head : z ≡ min x y = h 0 (omega arith) in
    let rest = least-by_index zs xs ys (omega arith) (omega arith) (λ k lt. h (suc k) (omega arith)) in
    λ i. head i ∷ rest i

-- a note is taken in

least-with_none : (xs : List ℕ) (n : ℕ) → length xs ≡ n → ((s : ℕ) → code_at xs s ≤ no_value) → least_of xs (none_for n) ≡ xs
least-with_none [] n e h = refl
least-with_none (x ∷ xs) zero e h = absurd (omega arith)
least-with_none (x ∷ xs) (suc n) e h =
    let head : min x no_value ≡ x = omega (arith, h 0) in
    let rest = least-with_none xs n (omega arith) (λ s. h (suc s)) in λ i. head i ∷ rest i

-- where each code is one, no code is above that of none
pub codes-le : (xs : List ℕ) (n : ℕ) → length xs ≡ n → ((s : ℕ) → s < n → IsCode (code_at xs s)) → (s : ℕ) → code_at xs s ≤ no_value
codes-le xs n e h s = elim (dec_le (suc s) n) [ yes lt ↦ code-le (code_at xs s) (h s lt) | no ge ↦ (let d : code_at xs s ≡ no_value = get_or-eq_default xs no_value {n = s} (omega arith) in omega arith) ]

pub note-offers : (v w : View) → length v.offers ≡ length w.caps → ((s : ℕ) → code_at v.offers s ≤ no_value) → IsNote w → (joined v w).offers ≡ v.offers
note-offers v w e h note = ap (least_of v.offers) note.offers ∙ least-with_none v.offers (length w.caps) e h

pub note-all : (v w : View) → IsNote w → HasAll v → HasAll (joined v w)
note-all v w note all = (
  ap (λ (b : Bool). either_leads b w.leads) all.0,
  λ x lt. let none_more = note.count in let mine = all.1 x (omega arith) in let t = times-append x v.numbers w.numbers in omega arith,
)

-- a note changes caps alone
pub note-same : (v w : View) → length v.offers ≡ length w.caps → ((s : ℕ) → code_at v.offers s ≤ no_value) → IsNote w → IsSameButCaps v (joined v w)
note-same v w e h note = record {
  offers = note-offers v w e h note;
  numbers = ap (λ (l : List ℕ). v.numbers ++ l) note.numbers ∙ append-nil v.numbers;
  leads = ap (either_leads v.leads) note.leads ∙ leads_alone v.leads;
  count = (let none = note.count in omega arith);
}
  where
    leads_alone : (b : Bool) → either_leads b false ≡ b
    leads_alone true = refl
    leads_alone false = refl

-- two notes are a note
pub note-note : (v w : View) → IsNote v → IsNote w → length v.caps ≡ length w.caps → IsNote (joined v w)
note-note v w a b e = record {
  offers =
      let n : ℕ = length v.caps in
      (λ i. least_of (a.offers i) (b.offers i)) ∙ (ap (λ (m : ℕ). least_of (none_for n) (none_for m)) (sym e) ∙ (least-with_none (none_for n) n (length-none n) (λ s. (let c = code_at-none n s in omega arith)) ∙ ap none_for (sym (length-least v.caps w.caps e))));
  numbers = (λ i. a.numbers i ++ b.numbers i);
  leads = ap (λ (x : Bool). either_leads x w.leads) a.leads ∙ b.leads;
  count = (let p = a.count in let q = b.count in omega arith);
}
  where
    length-none : (n : ℕ) → length (none_for n) ≡ n
    length-none zero = refl
    length-none (suc n) = ap suc (length-none n)

-- what stands at a place
pub read_at : (l : List ℕ) (i x : ℕ) → get_elem? l i ≡ some x → code_at l i ≡ x
read_at [] i x e = absurd (some-ne-none x (sym e))
read_at (y ∷ ys) zero x e = some-injective y x e
read_at (y ∷ ys) (suc i) x e = read_at ys i x e
