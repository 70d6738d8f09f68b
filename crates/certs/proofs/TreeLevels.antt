-- The level of a node is at most the value of each feasible point of its box.
use Rattle.std.specs.Prelude.{◌≡◌, ℕ, zero, suc, ◌+◌, ◌<◌, ℤ, List, [], ◌∷◌, ◌++◌, length, take, slice_get, slice_index_or, flat_map, Bool, true, false, cond, nat_eq, Option, Some, None, option_map, map, refl, ◌⊎◌}
use Rattle.std.specs.List.{list_any}
use Rattle.std.proofs.Common.{arith, ap, sym, ◌∙◌, subst, inl, inr}
use Rattle.std.proofs.lemmas.Int.{ints}
use Rattle.int_model.specs.Boxes.{Box, InBox, below_cut, above_cut}
use Rattle.int_model.specs.Programs.{Program, Feasible, value}
use Rattle.scenario_changes.specs.Problems.{Problem, root_box}
use Rattle.certs.specs.Verdicts.{judged, start_level}
use Rattle.certs.specs.Levels.{AtMost, greater_level}
use Rattle.certs.specs.Trees.{Place, root_place, raised, kept, two_places, children, handed_on, handed, is_valid, IsTree}
use Rattle.certs.specs.declared.cert.Cert.{Cert}
use Rattle.certs.specs.declared.level.Level.{Level}
use Rattle.certs.specs.declared.verdict.Verdict.{Verdict}
use Rattle.certs.specs.declared.tree.Node.{Node}
use Rattle.certs.specs.declared.tree.Node.TheVariants.{Rest, Leaf, Split}
use Rattle.int_model.proofs.BoxLaws.{length-InBox, below_cut-points, above_cut-points}
use Rattle.int_model.proofs.VolumeLaws.{HasPoints}
use Rattle.certs.proofs.BoxParts.{Inside, PartOf}
use Rattle.certs.proofs.LevelLaws.{judged-le}
use Rattle.certs.proofs.TreeCounts.{IsGood, all_good, stayers_hull-part, take-get, Inside-length}
use Rattle.certs.proofs.TreeLaws.{AllWithin, AtMost-greater, kept_at, split_facts, option_map_some, option_and_then_is, start-below, in_root}

Inside-InBox : (a b : Box) (x : List ℤ) → Inside a b → InBox a x → InBox b x
Inside-InBox [] [] x h g = g
Inside-InBox [] (k ∷ b) x h g = absurd h
Inside-InBox (i ∷ a) [] x h g = absurd h
Inside-InBox (i ∷ a) (k ∷ b) [] h g = absurd g
Inside-InBox (i ∷ a) (k ∷ b) (v ∷ x) h g = (omega (arith, ints, h.0.low, g.0), omega (arith, ints, h.0.high, g.1), Inside-InBox a b x h.1 g.2)

InBox-HasPoints : (box : Box) (x : List ℤ) → InBox box x → HasPoints box
InBox-HasPoints [] x h = tt
InBox-HasPoints (i ∷ box) [] h = absurd h
InBox-HasPoints (i ∷ box) (v ∷ x) h = (omega (arith, ints, h.0, h.1), InBox-HasPoints box x h.2)

-- where f turns a list into one element, it turns one of its elements into that
pub flat_map-source : {X Y : Type 0} (f : X → List Y) (xs : List X) (y : Y) → flat_map f xs ≡ y ∷ [] → (i : ℕ) × (e : X) × (slice_get xs i ≡ Some e) × (f e ≡ y ∷ [])
flat_map-source f [] y h = absurd (cc)
flat_map-source {X} {Y} f (x ∷ xs) y h = by_head (f x) refl h (λ q. flat_map-source f xs y q)
  where
    by_head : (ys : List Y) → f x ≡ ys → ys ++ flat_map f xs ≡ y ∷ [] → (flat_map f xs ≡ y ∷ [] → (i : ℕ) × (e : X) × (slice_get xs i ≡ Some e) × (f e ≡ y ∷ [])) → (i : ℕ) × (e : X) × (slice_get (x ∷ xs) i ≡ Some e) × (f e ≡ y ∷ [])
    by_head [] g q more = let r = more q in (suc r.0, r.1, r.2, r.3)
    by_head (a ∷ ys) g q more =
        let t : ys ++ flat_map f xs ≡ [] = cc in
        let u : a ≡ y = cc in
        (0, x, refl, g ∙ only ys a (flat_map f xs) t u)
      where
        only : (ys : List Y) (a : Y) (zs : List Y) → ys ++ zs ≡ [] → a ≡ y → a ∷ ys ≡ y ∷ []
        only [] a zs t u = ap (λ b. b ∷ []) u
        only (b ∷ bs) a zs t u = absurd (cc)

some_same : {X : Type 0} {a b : X} → ◌≡◌ {A = Option X} (Some a) (Some b) → a ≡ b
some_same e = cc

-- a raised level comes of a level and a valid verdict
pub raised-from : (box : Box) (cert : Cert) (ss : List Program) (ls : List (Option Level)) (vs : List Verdict) (rs : List (Option Level)) (k : ℕ) (s : Program) (r : Level) → raised box cert ss ls vs ≡ Some rs → slice_get ss k ≡ Some s → slice_index_or rs k None ≡ Some r → (v : Verdict) × (l : Level) × (m : Level) × (slice_index_or ls k None ≡ Some l) × (judged s box cert v ≡ Some m) × (r ≡ greater_level l m)
raised-from box cert [] ls vs rs k s r e p q = absurd (cc)
raised-from box cert (t ∷ ss) [] vs rs k s r e p q = absurd (cc)
raised-from box cert (t ∷ ss) (None ∷ ls) vs rs zero s r e p q =
    let m = option_map_some (λ (rest : List (Option Level)). None ∷ rest) (raised box cert ss ls vs) rs e in
    let none : ◌≡◌ {A = Option Level} None (Some r) = ap (λ (xs : List (Option Level)). slice_index_or xs zero None) m.2 ∙ q in absurd (cc)
raised-from box cert (t ∷ ss) (None ∷ ls) vs rs (suc k) s r e p q =
    let m = option_map_some (λ (rest : List (Option Level)). None ∷ rest) (raised box cert ss ls vs) rs e in
    raised-from box cert ss ls vs m.0 k s r m.1 p (ap (λ (xs : List (Option Level)). slice_index_or xs (suc k) None) m.2 ∙ q)
raised-from box cert (t ∷ ss) (Some o ∷ ls) [] rs k s r e p q = absurd (cc)
raised-from box cert (t ∷ ss) (Some o ∷ ls) (v ∷ vs) rs zero s r e p q =
    let j = option_and_then_is (λ (m : Level). option_map (λ (rest : List (Option Level)). Some (greater_level o m) ∷ rest) (raised box cert ss ls vs)) (judged t box cert v) rs e in
    let m = option_map_some (λ (rest : List (Option Level)). Some (greater_level o j.0) ∷ rest) (raised box cert ss ls vs) rs j.2 in
    let same : t ≡ s = cc in
    let own : judged s box cert v ≡ Some j.0 = subst (λ (z : Program). judged z box cert v ≡ Some j.0) same j.1 in
    let level : ◌≡◌ {A = Option Level} (Some (greater_level o j.0)) (Some r) = ap (λ (xs : List (Option Level)). slice_index_or xs zero None) m.2 ∙ q in
    (v, o, j.0, refl, own, some_same (sym level))
raised-from box cert (t ∷ ss) (Some o ∷ ls) (v ∷ vs) rs (suc k) s r e p q =
    let j = option_and_then_is (λ (m : Level). option_map (λ (rest : List (Option Level)). Some (greater_level o m) ∷ rest) (raised box cert ss ls vs)) (judged t box cert v) rs e in
    let m = option_map_some (λ (rest : List (Option Level)). Some (greater_level o j.0) ∷ rest) (raised box cert ss ls vs) rs j.2 in
    raised-from box cert ss ls vs m.0 k s r m.1 p (ap (λ (xs : List (Option Level)). slice_index_or xs (suc k) None) m.2 ∙ q)

-- a place that is handed on is one of the two
pub one_of_two : (n child : ℕ) (low high q : Place) → handed_on n child (Some (low, high)) ≡ q ∷ [] → (low ≡ q) ⊎ (high ≡ q)
one_of_two n child low high q e = by_test (nat_eq n child) (nat_eq n (suc child)) e
  where
    by_test : (a b : Bool) → cond a (low ∷ []) (cond b (high ∷ []) []) ≡ q ∷ [] → (low ≡ q) ⊎ (high ≡ q)
    by_test true b g = inl (let u : low ≡ q = cc in u)
    by_test false true g = inr (let u : high ≡ q = cc in u)
    by_test false false g = absurd (cc)

pub kept-from : (stay : List ℕ) (ls : List (Option Level)) (k : ℕ) (l : Level) → slice_index_or (kept stay 0 ls) k None ≡ Some l → slice_index_or ls k None ≡ Some l
kept-from stay ls k l e = by_test (list_any (nat_eq (0 + k)) stay) (sym (kept_at stay 0 ls k) ∙ e)
  where
    by_test : (b : Bool) → cond b (slice_index_or ls k None) None ≡ Some l → slice_index_or ls k None ≡ Some l
    by_test true g = g
    by_test false g = absurd (cc)

module _ (p : Problem) (limits : AllWithin p) (placed : List (Node × Place)) (tree : IsTree p placed) (k : ℕ) (s : Program) (found : slice_get p.scenarios k ≡ Some s) (x : List ℤ) (f : Feasible s x) where
  root_good : IsGood p.columns (root_place p)
  root_good =
      let i : InBox (root_box p.scenarios) x = in_root p limits placed tree k s found x f p.scenarios limits found in
      record { long = length-InBox (root_box p.scenarios) x i ∙ sym (length-InBox s.bounds x f.within) ∙ (limits k s found).shape.bounds; points = InBox-HasPoints (root_box p.scenarios) x i }

  start_is : (ss : List Program) (j : ℕ) (l : Level) → slice_get ss j ≡ Some s → slice_index_or (map (λ (t : Program). Some (start_level (root_box p.scenarios) t)) ss) j None ≡ Some l → start_level (root_box p.scenarios) s ≡ l
  start_is [] j l e g = absurd (cc)
  start_is (t ∷ ss) zero l e g = let u : t ≡ s = some_same e in ap (start_level (root_box p.scenarios)) (sym u) ∙ some_same g
  start_is (t ∷ ss) (suc j) l e g = start_is ss j l e g

  -- at a place that a split hands on, where the split's own level is at most the value
  from_split : (count n m : ℕ) (place q : Place) (node : Node) → IsGood p.columns place → is_valid p count m place node ≡ true → handed p n (node, place) ≡ q ∷ [] → InBox q.box x → (l : Level) → slice_index_or q.levels k None ≡ Some l
      → (InBox place.box x → (a : Level) → slice_index_or place.levels k None ≡ Some a → AtMost a (value s x)) → AtMost l (value s x)
  from_split count n m place q Rest good valid e i l g own = absurd (cc)
  from_split count n m place q (Leaf cert verdicts) good valid e i l g own = absurd (cc)
  from_split count n m place q (Split cert verdicts stay child column v) good valid e i l g own =
      let t = split_facts p count m place cert verdicts stay child column v valid in
      let low : Place = record { box = below_cut t.within column v; levels = kept stay 0 t.levels } in
      let high : Place = record { box = above_cut t.within column v; levels = kept stay 0 t.levels } in
      let two : children p place cert verdicts stay column v ≡ Some (low, high) = ap (λ (o : Option Box). two_places stay column v o (raised place.box cert p.scenarios place.levels verdicts)) t.hull_is ∙ ap (λ (o : Option (List (Option Level))). two_places stay column v (Some t.within) o) t.raised_to in
      let part : PartOf t.within place.box = stayers_hull-part p limits place.box good.long cert stay t.within t.hull_is in
      let long : column < length t.within = omega (arith, Inside-length t.within place.box part.inside, good.long, t.column_below) in
      let level_is : slice_index_or (kept stay 0 t.levels) k None ≡ Some l = (elim (one_of_two n child low high q (ap (handed_on n child) (sym two) ∙ e)) [ inl u ↦ ap (λ (z : Place). slice_index_or z.levels k None) u ∙ g | inr u ↦ ap (λ (z : Place). slice_index_or z.levels k None) u ∙ g ]) in
      let within : InBox t.within x = (elim (one_of_two n child low high q (ap (handed_on n child) (sym two) ∙ e)) [
        | inl u ↦ ((below_cut-points t.within x column v long).0 (subst (λ (z : Place). InBox z.box x) (sym u) i)).0
        | inr u ↦ ((above_cut-points t.within x column v long).0 (subst (λ (z : Place). InBox z.box x) (sym u) i)).0
      ]) in
      let inside : InBox place.box x = Inside-InBox t.within place.box x part.inside within in
      let r = raised-from place.box cert p.scenarios place.levels verdicts t.levels k s l t.raised_to found (kept-from stay t.levels k l level_is) in
      let level : AtMost (greater_level r.1 r.2) (value s x) = AtMost-greater r.1 r.2 (value s x) (own inside r.1 r.3) (judged-le p.columns p.rows s place.box cert r.0 r.2 x (record { within = limits k s found; feasible = f; inside = inside }) r.4) in
      subst (λ (a : Level). AtMost a (value s x)) (sym {b = greater_level r.1 r.2} r.5) level

  level_below : (d n : ℕ) → n < d → (node : Node) (q : Place) → slice_get placed n ≡ Some (node, q) → InBox q.box x → (l : Level) → slice_index_or q.levels k None ≡ Some l → AtMost l (value s x)
  level_below zero n h node q e i l g = absurd (omega arith)
  level_below (suc d) zero h node q e i l g =
      let first : root_place p ∷ [] ≡ q ∷ [] = (tree.right 0 node q e).arrival in
      let same : root_place p ≡ q = cc in
      let start : start_level (root_box p.scenarios) s ≡ l = start_is p.scenarios k l found (ap (λ (z : Place). slice_index_or z.levels k None) same ∙ g) in
      subst (λ (a : Level). AtMost a (value s x)) start (start-below p limits placed tree k s found x f)
  level_below (suc d) (suc n) h node q e i l g =
      let r = flat_map-source (handed p (suc n)) (take (suc n) placed) q (tree.right (suc n) node q e).arrival in
      let t = take-get placed (suc n) r.0 r.1 r.2 in
      let good : IsGood p.columns r.1.1 = all_good p limits placed tree root_good (suc r.0) r.0 (omega arith) r.1.0 r.1.1 t.0 in
      from_split (length placed) (suc n) r.0 r.1.1 q r.1.0 good (tree.right r.0 r.1.0 r.1.1 t.0).valid r.3 i l g (λ j a b. level_below d r.0 (omega (arith, t.1)) r.1.0 r.1.1 t.0 j a b)

  pub place-below : (n : ℕ) (node : Node) (q : Place) → slice_get placed n ≡ Some (node, q) → InBox q.box x → (l : Level) → slice_index_or q.levels k None ≡ Some l → AtMost l (value s x)
  place-below n node q e i l g = level_below (suc n) n (omega arith) node q e i l g
