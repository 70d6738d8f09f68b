-- The tests on a settlement, put together.
use Rattle.std.specs.Prelude.{◌≡◌, ℕ, suc, ◌+◌, ◌<◌, ℤ, List, [], ◌∷◌, length, Bool, true, false, ◌&&◌, nat_lt, Option, Some, None, is_some, unwrap_or, option_map, refl}
use Rattle.std.specs.List.{list_all}
use Rattle.std.proofs.Common.{arith, ap, sym, ◌∙◌, subst}
use Rattle.std.proofs.lemmas.Bool.{and_parts, and_from}
use Rattle.std.proofs.lemmas.Bool.Decides.{nat_tests}
use Rattle.int_model.specs.Boxes.{Box, below_cut, above_cut}
use Rattle.scenario_changes.specs.Problems.{Problem}
use Rattle.certs.specs.Trees.{Place, raised, cert_fits, is_live, is_rising, stayers_hull, splits_inside, kept, dropped, end_levels, two_places}
use Rattle.bb_core.specs.Settlements.{Work, Settlement, Close, Branch, place_of, recorded}
use Rattle.certs.specs.Trees.{of_live}
use Rattle.bb_core.specs.Coverage.{ReachesCaps, Slot, slot_at, MaySettle}
use Rattle.certs.specs.declared.cert.Cert.{Cert}
use Rattle.certs.specs.declared.verdict.Verdict.{Verdict}
use Rattle.certs.specs.declared.level.Level.{Level}
use Rattle.certs.proofs.TreeLaws.{is_some-is, option_map_some, option_and_then_is}
use Rattle.int_model.specs.Programs.{Program}
use Rattle.certs.specs.Levels.{greater_level}
use Rattle.certs.specs.Verdicts.{judged}
use Rattle.open_pool.specs.Marks.{claimed}
use Rattle.open_pool.proofs.PoolLaws.{slot-found, slot-got}
use Rattle.open_pool.proofs.LevelLists.{same_length_kept}
use Rattle.open_pool.specs.Judged.{IsRaised, IsBranched, IsHullSplit, Passes}

dropped_by_none : (k : ℕ) (ls : List (Option Level)) → dropped [] k ls ≡ ls
dropped_by_none k [] = refl
dropped_by_none k (l ∷ ls) = ap (λ (xs : List (Option Level)). l ∷ xs) (dropped_by_none (suc k) ls)

some_same : {X : Type 0} {a b : X} → ◌≡◌ {A = Option X} (Some a) (Some b) → a ≡ b
some_same e = cc

pub raised_same : (p : Problem) (w : Work) (cert : Cert) (verdicts : List Verdict) (rs qs : List (Option Level)) → IsRaised p w cert verdicts rs → IsRaised p w cert verdicts qs → rs ≡ qs
raised_same p w cert verdicts rs qs a b = some_same (sym a.raised_to ∙ b.raised_to)

-- ---- a settlement that closes

pub pass_close : (p : Problem) (caps : List Level) (count : ℕ) (w : Work) (cert : Cert) (verdicts : List Verdict) (rs : List (Option Level)) → IsRaised p w cert verdicts rs → ReachesCaps caps (dropped [] 0 rs) → Passes p caps count (record { work = w; cert = cert; verdicts = verdicts; outcome = Close })
pass_close p caps count w cert verdicts rs h g = record {
  lawful = record { valid = and_from (cert_fits p cert) (is_some (raised w.bounds cert p.scenarios (place_of w).levels verdicts)) h.fits (ap (λ (o : Option (List (Option Level))). is_some o) h.raised_to); children_are = tt };
  closes =
      let e : dropped [] 0 rs ≡ unwrap_or (raised w.bounds cert p.scenarios (place_of w).levels verdicts) [] = dropped_by_none 0 rs ∙ ap (λ (o : Option (List (Option Level))). unwrap_or o []) (sym h.raised_to) in
      subst (λ (xs : List (Option Level)). ReachesCaps caps xs) e g;
}

pub close_raised : (p : Problem) (caps : List Level) (count : ℕ) (w : Work) (cert : Cert) (verdicts : List Verdict) → Passes p caps count (record { work = w; cert = cert; verdicts = verdicts; outcome = Close }) → (rs : List (Option Level)) × IsRaised p w cert verdicts rs × ReachesCaps caps (dropped [] 0 rs)
close_raised p caps count w cert verdicts h =
    let t = and_parts (cert_fits p cert) (is_some (raised w.bounds cert p.scenarios (place_of w).levels verdicts)) h.lawful.valid in
    let r = is_some-is (raised w.bounds cert p.scenarios (place_of w).levels verdicts) t.1 in
    let e : unwrap_or (raised w.bounds cert p.scenarios (place_of w).levels verdicts) [] ≡ dropped [] 0 r.0 = ap (λ (o : Option (List (Option Level))). unwrap_or o []) r.1 ∙ sym (dropped_by_none 0 r.0) in
    (r.0, record { fits = t.0; raised_to = r.1 }, subst (λ (xs : List (Option Level)). ReachesCaps caps xs) e h.closes)

-- ---- a settlement that splits

-- the parts of a test of eight
pub record Eight (a b c d f g h i : Bool) : Type 0 where
  pub one : a ≡ true
  pub two : b ≡ true
  pub three : c ≡ true
  pub four : d ≡ true
  pub five : f ≡ true
  pub six : g ≡ true
  pub seven : h ≡ true
  pub last : i ≡ true

all_eight : (a b c d f g h i : Bool) → a && b && c && d && f && g && h && i ≡ true → Eight a b c d f g h i
all_eight a b c d f g h i e =
    let t = and_parts (a && b && c && d && f && g && h) i e in
    let u = and_parts (a && b && c && d && f && g) h t.0 in
    let v = and_parts (a && b && c && d && f) g u.0 in
    let w = and_parts (a && b && c && d) f v.0 in
    let y = and_parts (a && b && c) d w.0 in
    let z = and_parts (a && b) c y.0 in
    let x = and_parts a b z.0 in
    record { one = x.0; two = x.1; three = z.1; four = y.1; five = w.1; six = v.1; seven = u.1; last = t.1 }

from_eight : (a b c d f g h i : Bool) → Eight a b c d f g h i → a && b && c && d && f && g && h && i ≡ true
from_eight a b c d f g h i e =
    and_from (a && b && c && d && f && g && h) i (and_from (a && b && c && d && f && g) h (and_from (a && b && c && d && f) g (and_from (a && b && c && d) f (and_from (a && b && c) d (and_from (a && b) c (and_from a b e.one e.two) e.three) e.four) e.five) e.six) e.seven) e.last

module _ (p : Problem) (caps : List Level) (count : ℕ) (w : Work) (cert : Cert) (verdicts : List Verdict) (stay : List ℕ) (column : ℕ) (v : ℤ) (left right : Box) (left_levels right_levels : List Level) where
  abbrev branching : Settlement
  branching = record { work = w; cert = cert; verdicts = verdicts; outcome = Branch stay column v left right left_levels right_levels }

  pub pass_branch : (rs : List (Option Level)) → IsRaised p w cert verdicts rs → IsBranched p w cert rs stay column v left right left_levels right_levels → is_rising stay ≡ true → w.node < count → ReachesCaps caps (dropped stay 0 rs) → Passes p caps count branching
  pass_branch rs h b rising below g = record {
    lawful = record {
      valid = from_eight (cert_fits p cert) (is_some (raised w.bounds cert p.scenarios (place_of w).levels verdicts)) (is_rising stay) (list_all (is_live (place_of w).levels) stay) (nat_lt column p.columns) (splits_inside (stayers_hull p w.bounds cert stay) column v) (nat_lt w.node count) (nat_lt (suc count) (count + 2)) (record {
        one = h.fits;
        two = ap (λ (o : Option (List (Option Level))). is_some o) h.raised_to;
        three = rising;
        four = b.live;
        five = let l : column < p.columns = b.below in grind (arith, nat_tests);
        six = ap (λ (o : Option Box). splits_inside o column v) b.hull.hull_is ∙ b.hull.inside;
        seven = grind (arith, nat_tests);
        last = grind (arith, nat_tests);
      });
      children_are =
          let low : Place = record { box = left; levels = of_live stay 0 left_levels } in
          let high : Place = record { box = right; levels = of_live stay 0 right_levels } in
          let both : two_places stay column v (stayers_hull p w.bounds cert stay) (raised w.bounds cert p.scenarios (place_of w).levels verdicts) ≡ two_places stay column v (Some b.hull.within) (Some rs) = ap (λ (o : Option Box). two_places stay column v o (raised w.bounds cert p.scenarios (place_of w).levels verdicts)) b.hull.hull_is ∙ ap (λ (o : Option (List (Option Level))). two_places stay column v (Some b.hull.within) o) h.raised_to in
          both ∙ named b.hull.within rs left right (of_live stay 0 left_levels) (of_live stay 0 right_levels) b.hull.left_is b.hull.right_is b.left_kept b.right_kept;
    };
    closes =
        let e : dropped stay 0 rs ≡ unwrap_or (option_map (dropped stay 0) (raised w.bounds cert p.scenarios (place_of w).levels verdicts)) [] = ap (λ (o : Option (List (Option Level))). unwrap_or (option_map (dropped stay 0) o) []) (sym h.raised_to) in
        subst (λ (xs : List (Option Level)). ReachesCaps caps xs) e g;
  }
    where
      place_option : Place → Place → Option (Place × Place)
      place_option a b = Some (a, b)

      named : (h : Box) (rs : List (Option Level)) (l r : Box) (ls qs : List (Option Level)) → l ≡ below_cut h column v → r ≡ above_cut h column v → ls ≡ kept stay 0 rs → qs ≡ kept stay 0 rs → two_places stay column v (Some h) (Some rs) ≡ Some (record { box = l; levels = ls }, record { box = r; levels = qs })
      named h rs l r ls qs a b c d = rw (a, b, c, d) refl

  pub branch_parts : Passes p caps count branching → (rs : List (Option Level)) × IsRaised p w cert verdicts rs × IsBranched p w cert rs stay column v left right left_levels right_levels × ReachesCaps caps (dropped stay 0 rs)
  branch_parts h =
      let t = all_eight (cert_fits p cert) (is_some (raised w.bounds cert p.scenarios (place_of w).levels verdicts)) (is_rising stay) (list_all (is_live (place_of w).levels) stay) (nat_lt column p.columns) (splits_inside (stayers_hull p w.bounds cert stay) column v) (nat_lt w.node count) (nat_lt (suc count) (count + 2)) h.lawful.valid in
      let r = is_some-is (raised w.bounds cert p.scenarios (place_of w).levels verdicts) t.two in
      let f = inside_some (stayers_hull p w.bounds cert stay) t.six in
      let both : two_places stay column v (Some f.0) (Some r.0) ≡ Some (record { box = left; levels = of_live stay 0 left_levels }, record { box = right; levels = of_live stay 0 right_levels }) =
      sym (ap (λ (o : Option Box). two_places stay column v o (raised w.bounds cert p.scenarios (place_of w).levels verdicts)) f.1 ∙ ap (λ (o : Option (List (Option Level))). two_places stay column v (Some f.0) o) r.1) ∙ h.lawful.children_are in
      let pair : ◌≡◌ {A = Place × Place} (record { box = below_cut f.0 column v; levels = kept stay 0 r.0 }, record { box = above_cut f.0 column v; levels = kept stay 0 r.0 }) (record { box = left; levels = of_live stay 0 left_levels }, record { box = right; levels = of_live stay 0 right_levels }) = some_same both in
      let e : unwrap_or (option_map (dropped stay 0) (raised w.bounds cert p.scenarios (place_of w).levels verdicts)) [] ≡ dropped stay 0 r.0 = ap (λ (o : Option (List (Option Level))). unwrap_or (option_map (dropped stay 0) o) []) r.1 in (
        r.0,
        record { fits = t.one; raised_to = r.1 },
        record {
          live = t.four;
          below = grind (arith, nat_tests, t.five);
          hull = record {
            within = f.0;
            hull_is = f.1;
            inside = sym (ap (λ (o : Option Box). splits_inside o column v) f.1) ∙ t.six;
            left_is = sym (ap (λ (q : Place × Place). q.0.box) pair);
            right_is = sym (ap (λ (q : Place × Place). q.1.box) pair);
          };
          left_kept = sym (ap (λ (q : Place × Place). q.0.levels) pair);
          right_kept = sym (ap (λ (q : Place × Place). q.1.levels) pair);
        },
        subst (λ (xs : List (Option Level)). ReachesCaps caps xs) e h.closes,
      )
    where
      inside_some : (o : Option Box) → splits_inside o column v ≡ true → (h : Box) × (o ≡ Some h)
      inside_some None e = absurd (cc)
      inside_some (Some h) e = (h, refl)

  -- a split is passed only where its stayers and children are right
  pub not_raised : ((rs : List (Option Level)) → IsRaised p w cert verdicts rs → ⊥) → Passes p caps count branching → ⊥
  not_raised g h = let t = branch_parts h in g t.0 t.1

  pub not_branched : (rs : List (Option Level)) → IsRaised p w cert verdicts rs → (IsBranched p w cert rs stay column v left right left_levels right_levels → ⊥) → Passes p caps count branching → ⊥
  not_branched rs r g h =
      let t = branch_parts h in
      g (subst (λ (xs : List (Option Level)). IsBranched p w cert xs stay column v left right left_levels right_levels) (raised_same p w cert verdicts t.0 rs t.1 r) t.2)

  pub not_reached : (rs : List (Option Level)) → IsRaised p w cert verdicts rs → (ReachesCaps caps (dropped stay 0 rs) → ⊥) → Passes p caps count branching → ⊥
  not_reached rs r g h =
      let t = branch_parts h in
      g (subst (λ (xs : List (Option Level)). ReachesCaps caps (dropped stay 0 xs)) (raised_same p w cert verdicts t.0 rs t.1 r) t.3)

pub not_closed_raised : (p : Problem) (caps : List Level) (count : ℕ) (w : Work) (cert : Cert) (verdicts : List Verdict) → ((rs : List (Option Level)) → IsRaised p w cert verdicts rs → ⊥) → Passes p caps count (record { work = w; cert = cert; verdicts = verdicts; outcome = Close }) → ⊥
not_closed_raised p caps count w cert verdicts g h = let t = close_raised p caps count w cert verdicts h in g t.0 t.1

pub not_closed_reached : (p : Problem) (caps : List Level) (count : ℕ) (w : Work) (cert : Cert) (verdicts : List Verdict) (rs : List (Option Level)) → IsRaised p w cert verdicts rs → (ReachesCaps caps (dropped [] 0 rs) → ⊥) → Passes p caps count (record { work = w; cert = cert; verdicts = verdicts; outcome = Close }) → ⊥
not_closed_reached p caps count w cert verdicts rs r g h =
    let t = close_raised p caps count w cert verdicts h in
    g (subst (λ (xs : List (Option Level)). ReachesCaps caps (dropped [] 0 xs)) (raised_same p w cert verdicts t.0 rs t.1 r) t.2)

pub no_hull : (p : Problem) (box : Box) (cert : Cert) (stay : List ℕ) (column : ℕ) (v : ℤ) (left right : Box) → stayers_hull p box cert stay ≡ None → IsHullSplit p box cert stay column v left right → ⊥
no_hull p box cert stay column v left right e h = let w : None ≡ Some h.within = sym e ∙ h.hull_is in absurd (cc)

pub hull_same : (p : Problem) (box : Box) (cert : Cert) (stay : List ℕ) (column : ℕ) (v : ℤ) (left right hull : Box) → stayers_hull p box cert stay ≡ Some hull → (h : IsHullSplit p box cert stay column v left right) → h.within ≡ hull
hull_same p box cert stay column v left right hull e h = some_same (sym h.hull_is ∙ e)

pub not_inside : (p : Problem) (box : Box) (cert : Cert) (stay : List ℕ) (column : ℕ) (v : ℤ) (left right hull : Box) → stayers_hull p box cert stay ≡ Some hull → splits_inside (Some hull) column v ≡ false → IsHullSplit p box cert stay column v left right → ⊥
not_inside p box cert stay column v left right hull e f h =
    let w : true ≡ false = sym h.inside ∙ ap (λ (b : Box). splits_inside (Some b) column v) (hull_same p box cert stay column v left right hull e h) ∙ f in absurd (cc)

pub not_cut : (p : Problem) (box : Box) (cert : Cert) (stay : List ℕ) (column : ℕ) (v : ℤ) (left right hull : Box) → stayers_hull p box cert stay ≡ Some hull → (left ≡ below_cut hull column v → right ≡ above_cut hull column v → ⊥) → IsHullSplit p box cert stay column v left right → ⊥
not_cut p box cert stay column v left right hull e f h =
    let q : h.within ≡ hull = hull_same p box cert stay column v left right hull e h in
    f (h.left_is ∙ ap (λ (b : Box). below_cut b column v) q) (h.right_is ∙ ap (λ (b : Box). above_cut b column v) q)

-- ---- a settlement of a pool

pub may_settle : (p : Problem) (slots : List Slot) (caps : List Level) (s : Settlement) → s.work.node < length slots → (slot_at slots s.work.node).mark ≡ claimed → (slot_at slots s.work.node).place ≡ place_of s.work → Passes p caps (length slots) s → MaySettle p slots caps claimed s
may_settle p slots caps s l m e h = record {
  held = record { slot = slot_at slots s.work.node; found = slot-found slots s.work.node l; marked = m };
  its_work = e;
  lawful = h.lawful;
  closes = h.closes;
}

pub settle_passes : (p : Problem) (slots : List Slot) (caps : List Level) (s : Settlement) → MaySettle p slots caps claimed s → Passes p caps (length slots) s
settle_passes p slots caps s h = record { lawful = h.lawful; closes = h.closes }

pub settle_below : (p : Problem) (slots : List Slot) (caps : List Level) (s : Settlement) → MaySettle p slots caps claimed s → s.work.node < length slots
settle_below p slots caps s h = (slot-got slots s.work.node h.held.slot h.held.found).0

pub settle_claimed : (p : Problem) (slots : List Slot) (caps : List Level) (s : Settlement) → MaySettle p slots caps claimed s → (slot_at slots s.work.node).mark ≡ claimed
settle_claimed p slots caps s h = ap (λ (t : Slot). t.mark) (slot-got slots s.work.node h.held.slot h.held.found).1 ∙ h.held.marked

pub settle_place : (p : Problem) (slots : List Slot) (caps : List Level) (s : Settlement) → MaySettle p slots caps claimed s → (slot_at slots s.work.node).place ≡ place_of s.work
settle_place p slots caps s h = ap (λ (t : Slot). t.place) (slot-got slots s.work.node h.held.slot h.held.found).1 ∙ h.its_work

pub length_raised : (box : Box) (cert : Cert) (ss : List Program) (ls : List (Option Level)) (vs : List Verdict) (rs : List (Option Level)) → raised box cert ss ls vs ≡ Some rs → length rs ≡ length ss
length_raised box cert [] ls [] rs e = let w : [] ≡ rs = cc in ap length (sym w)
length_raised box cert [] ls (v ∷ vs) rs e = absurd (cc)
length_raised box cert (s ∷ ss) [] vs rs e = absurd (cc)
length_raised box cert (s ∷ ss) (None ∷ ls) vs rs e =
    let m = option_map_some (λ (rest : List (Option Level)). None ∷ rest) (raised box cert ss ls vs) rs e in
    ap length (sym m.2) ∙ ap suc (length_raised box cert ss ls vs m.0 m.1)
length_raised box cert (s ∷ ss) (Some l ∷ ls) [] rs e = absurd (cc)
length_raised box cert (s ∷ ss) (Some l ∷ ls) (v ∷ vs) rs e =
    let g : Level → Option (List (Option Level)) = λ m. option_map (λ (rest : List (Option Level)). Some (greater_level l m) ∷ rest) (raised box cert ss ls vs) in
    let j = option_and_then_is g (judged s box cert v) rs e in
    let m = option_map_some (λ (rest : List (Option Level)). Some (greater_level l j.0) ∷ rest) (raised box cert ss ls vs) rs j.2 in
    ap length (sym m.2) ∙ ap suc (length_raised box cert ss ls vs m.0 m.1)

pub child_lengths : (p : Problem) (slots : List Slot) (caps : List Level) (w : Work) (cert : Cert) (verdicts : List Verdict) (stay : List ℕ) (column : ℕ) (v : ℤ) (left right : Box) (left_levels right_levels : List Level) → MaySettle p slots caps claimed (record { work = w; cert = cert; verdicts = verdicts; outcome = Branch stay column v left right left_levels right_levels }) → (length left_levels ≡ length p.scenarios) × (length right_levels ≡ length p.scenarios)
child_lengths p slots caps w cert verdicts stay column v left right left_levels right_levels h =
    let t = branch_parts p caps (length slots) w cert verdicts stay column v left right left_levels right_levels (record { lawful = h.lawful; closes = h.closes }) in
    let many : length t.0 ≡ length p.scenarios = length_raised w.bounds cert p.scenarios (place_of w).levels verdicts t.0 t.1.raised_to in
    (same_length_kept stay stay left_levels t.0 t.2.left_kept ∙ many, same_length_kept stay stay right_levels t.0 t.2.right_kept ∙ many)

-- ---- the levels of the ends that a settlement closes

pub close_ends_are : (p : Problem) (count : ℕ) (w : Work) (cert : Cert) (verdicts : List Verdict) (rs : List (Option Level)) → IsRaised p w cert verdicts rs → end_levels p (place_of w) (recorded count cert verdicts Close) ≡ dropped [] 0 rs
close_ends_are p count w cert verdicts rs h = ap (λ (o : Option (List (Option Level))). unwrap_or o []) h.raised_to ∙ sym (dropped_by_none 0 rs)

pub branch_ends_are : (p : Problem) (count : ℕ) (w : Work) (cert : Cert) (verdicts : List Verdict) (rs : List (Option Level)) (stay : List ℕ) (column : ℕ) (v : ℤ) (left right : Box) (ls qs : List Level) → IsRaised p w cert verdicts rs → end_levels p (place_of w) (recorded count cert verdicts (Branch stay column v left right ls qs)) ≡ dropped stay 0 rs
branch_ends_are p count w cert verdicts rs stay column v left right ls qs h = ap (λ (o : Option (List (Option Level))). unwrap_or (option_map (dropped stay 0) o) []) h.raised_to
