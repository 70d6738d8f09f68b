-- The scenarios that remain, one after another.
use Rattle.std.specs.Prelude.{◌≡◌, ℕ, suc, ◌+◌, ◌<◌, ◌≤◌, List, [], ◌∷◌, ◌++◌, length, map, false, nat_lt, ◌==◌, Option, Some, None, All, refl, ◌⊎◌}
use Rattle.std.proofs.Common.{arith, ap, sym, ◌∙◌, subst, inl, inr}
use Rattle.std.proofs.lemmas.Bool.Decides.{nat_tests}
use Rattle.std.proofs.lemmas.List.Elements.{All-push}
use Rattle.int_model.specs.Boxes.{Box}
use Rattle.scenario_changes.specs.Problems.{Problem, program_at}
use Rattle.certs.specs.Trees.{stayer_box}
use Rattle.certs.specs.declared.cert.Cert.{Cert}
use Rattle.live_sets.specs.Members.{with_member, IsLiveList}
use Rattle.live_sets.proofs.RisingLists.{In, Rises, in_rising, rises_lower}
use Rattle.node_work.specs.Probes.{with_box, remaining, scenarios_of, boxes_of}
use Rattle.node_work.specs.Refusals.{IsPart, HaveParts}
use Rattle.node_work.proofs.LiveLists.{rises_from_zero}
use Rattle.node_work.proofs.RefusalLaws.{parts_more, parts_none}

-- ---- sets

member_last : (s : ℕ) (xs : List ℕ) → ((x : ℕ) → In xs x → x < s) → with_member s xs ≡ xs ++ s ∷ []
member_last s [] h = refl
member_last s (x ∷ xs) h =
    let less : x < s = h x (inl refl) in
    let above : nat_lt s x ≡ false = grind (arith, nat_tests) in
    let other : (s == x) ≡ false = grind (arith, nat_tests) in
    rw (above, other) (ap (λ (ys : List ℕ). x ∷ ys) (member_last s xs (λ y i. h y (inr i))))

in_push : (xs : List ℕ) (s x : ℕ) → In (xs ++ s ∷ []) x → In xs x ⊎ (s ≡ x)
in_push [] s x (inl e) = inr e
in_push [] s x (inr i) = absurd i
in_push (y ∷ xs) s x (inl e) = inl (inl e)
in_push (y ∷ xs) s x (inr i) = elim (in_push xs s x i) [ inl j ↦ inl (inr j) | inr e ↦ inr e ]

-- each of the one list is below each of the other, which rises
pub record IsBefore (xs rest : List ℕ) : Type 0 where
  pub before : (a b : ℕ) → In xs a → In rest b → a < b
  pub rises : Rises 0 rest

pub before_none : (xs rest : List ℕ) → xs ≡ [] → IsLiveList rest → IsBefore xs rest
before_none xs rest e set = record { before = λ a b i j. absurd (subst (λ (ys : List ℕ). In ys a) e i); rises = rises_from_zero rest set.rising }

before_next : (xs : List ℕ) (s : ℕ) (next : List ℕ) → IsBefore xs (s ∷ next) → IsBefore xs next
before_next xs s next h = record { before = λ a b i j. h.before a b i (inr j); rises = rises_lower 0 (s + 1) next (omega arith) h.rises.1 }

before_push : (xs : List ℕ) (s : ℕ) (next : List ℕ) → IsBefore xs (s ∷ next) → IsBefore (xs ++ s ∷ []) next
before_push xs s next h = record {
  before = λ a b i j. elim (in_push xs s a i) [
    | inl k ↦ h.before a b k (inr j)
    | inr e ↦ (let m : s + 1 ≤ b = in_rising (s + 1) b next h.rises.1 j in omega (arith, m, e))
  ];
  rises = rises_lower 0 (s + 1) next (omega arith) h.rises.1;
}

-- one member of a list whose members are all below a number
pub all_here : (n : ℕ) (all before : List ℕ) (s : ℕ) (next : List ℕ) → all ≡ before ++ s ∷ next → All (λ (x : ℕ). x < n) all → s < n
all_here n all before s next e h = in_place before (subst (λ (xs : List ℕ). All (λ (x : ℕ). x < n) xs) e h)
  where
    in_place : (xs : List ℕ) → All (λ (x : ℕ). x < n) (xs ++ s ∷ next) → s < n
    in_place [] g = g 0 0 (omega arith)
    in_place (x ∷ xs) g = in_place xs (λ k d l. g (suc k) d (omega arith))

-- ---- what remains

box_append : (k : ℕ) (o : Option Box) (xs ys : List (ℕ × Box)) → with_box k o (xs ++ ys) ≡ with_box k o xs ++ ys
box_append k None xs ys = refl
box_append k (Some part) xs ys = refl

map_push : {X Y : Type 0} (f : X → Y) (xs : List X) (x : X) → map f (xs ++ x ∷ []) ≡ map f xs ++ f x ∷ []
map_push f [] x = refl
map_push f (y ∷ xs) x = ap (λ zs. f y ∷ zs) (map_push f xs x)

nothing_more : {X : Type 0} (xs : List X) → xs ++ [] ≡ xs
nothing_more [] = refl
nothing_more (x ∷ xs) = ap (λ ys. x ∷ ys) (nothing_more xs)

module _ (p : Problem) (box : Box) (cert : Cert) where
  remaining_more : (ks : List ℕ) (k : ℕ) → remaining p box cert (ks ++ k ∷ []) ≡ remaining p box cert ks ++ with_box k (stayer_box p box cert (program_at p k)) []
  remaining_more [] k = refl
  remaining_more (j ∷ ks) k =
      ap (with_box j (stayer_box p box cert (program_at p j))) (remaining_more ks k)
      ∙ box_append j (stayer_box p box cert (program_at p j)) (remaining p box cert ks) (with_box k (stayer_box p box cert (program_at p k)) [])

  -- so far these remain
  pub record RemainSoFar (columns : ℕ) (ks rest : List ℕ) (scenarios : List ℕ) (boxes : List Box) : Type 0 where
    pub scenarios_are : scenarios ≡ scenarios_of (remaining p box cert ks)
    pub boxes_are : boxes ≡ boxes_of (remaining p box cert ks)
    pub count : length boxes ≡ length scenarios
    pub before : IsBefore scenarios rest
    pub below : All (λ (s : ℕ). s < length p.scenarios) scenarios
    pub wide : All (λ (b : Box). length b ≡ columns) boxes
    pub parts : HaveParts p scenarios boxes

  pub remain_first : (columns : ℕ) (rest scenarios : List ℕ) (boxes : List Box) → scenarios ≡ [] → boxes ≡ [] → IsLiveList rest → RemainSoFar columns [] rest scenarios boxes
  remain_first columns rest scenarios boxes e f set = record {
    scenarios_are = e;
    boxes_are = f;
    count = ap length f ∙ sym (ap length e);
    before = before_none scenarios rest e set;
    below = λ k d l. absurd (let n : length scenarios ≡ 0 = ap length e in omega (arith, l, n));
    wide = λ k d l. absurd (let n : length boxes ≡ 0 = ap length f in omega (arith, l, n));
    parts = parts_none p scenarios boxes e;
  }

  pub remain_skip : (columns : ℕ) (ks rest next scenarios : List ℕ) (boxes : List Box) (k : ℕ) → RemainSoFar columns ks rest scenarios boxes → rest ≡ k ∷ next → stayer_box p box cert (program_at p k) ≡ None → RemainSoFar columns (ks ++ k ∷ []) next scenarios boxes
  remain_skip columns ks rest next scenarios boxes k h e none =
      let same : remaining p box cert (ks ++ k ∷ []) ≡ remaining p box cert ks = remaining_more ks k ∙ ap (λ (o : Option Box). remaining p box cert ks ++ with_box k o []) none ∙ nothing_more (remaining p box cert ks) in
      record {
        scenarios_are = h.scenarios_are ∙ ap scenarios_of (sym same);
        boxes_are = h.boxes_are ∙ ap boxes_of (sym same);
        count = h.count;
        before = before_next scenarios k next (subst (λ (xs : List ℕ). IsBefore scenarios xs) e h.before);
        below = h.below;
        wide = h.wide;
        parts = h.parts;
      }

  length_push : {X : Type 0} (xs : List X) (x : X) → length (xs ++ x ∷ []) ≡ suc (length xs)
  length_push [] x = refl
  length_push (y ∷ xs) x = ap suc (length_push xs x)

  pub remain_keep : (columns : ℕ) (ks rest next scenarios new : List ℕ) (boxes now : List Box) (k : ℕ) (part : Box) → RemainSoFar columns ks rest scenarios boxes → rest ≡ k ∷ next → stayer_box p box cert (program_at p k) ≡ Some part → k < length p.scenarios → length part ≡ columns → IsPart p k part → new ≡ with_member k scenarios → now ≡ boxes ++ part ∷ [] → RemainSoFar columns (ks ++ k ∷ []) next new now
  remain_keep columns ks rest next scenarios new boxes now k part h e some below n is f g =
      let before : IsBefore scenarios (k ∷ next) = subst (λ (xs : List ℕ). IsBefore scenarios xs) e h.before in
      let last : new ≡ scenarios ++ k ∷ [] = f ∙ member_last k scenarios (λ x i. before.before x k i (inl refl)) in
      let more : remaining p box cert (ks ++ k ∷ []) ≡ remaining p box cert ks ++ (k, part) ∷ [] = remaining_more ks k ∙ ap (λ (o : Option Box). remaining p box cert ks ++ with_box k o []) some in
      record {
        scenarios_are = last ∙ ap (λ (xs : List ℕ). xs ++ k ∷ []) h.scenarios_are ∙ sym (map_push (λ (t : ℕ × Box). t.0) (remaining p box cert ks) (k, part)) ∙ ap scenarios_of (sym more);
        boxes_are = g ∙ ap (λ (xs : List Box). xs ++ part ∷ []) h.boxes_are ∙ sym (map_push (λ (t : ℕ × Box). t.1) (remaining p box cert ks) (k, part)) ∙ ap boxes_of (sym more);
        count = ap length g ∙ length_push boxes part ∙ ap suc h.count ∙ sym (length_push scenarios k) ∙ sym (ap length last);
        before = subst (λ (xs : List ℕ). IsBefore xs next) (sym last) (before_push scenarios k next before);
        below = subst (λ (xs : List ℕ). All (λ (s : ℕ). s < length p.scenarios) xs) (sym last) (All-push (λ (s : ℕ). s < length p.scenarios) scenarios k h.below below);
        wide = subst (λ (xs : List Box). All (λ (b : Box). length b ≡ columns) xs) (sym g) (All-push (λ (b : Box). length b ≡ columns) boxes part h.wide n);
        parts = subst (λ (xs : List ℕ). HaveParts p xs now) (sym last) (subst (λ (bs : List Box). HaveParts p (scenarios ++ k ∷ []) bs) (sym g) (parts_more p scenarios boxes k part h.count h.parts is));
      }
