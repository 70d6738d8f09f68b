-- The hull of the stayers' replays, one stayer at a time.
use Rattle.std.specs.Prelude.{◌≡◌, ℕ, zero, suc, ◌+◌, ◌<◌, ◌≤◌, ℤ, List, [], ◌∷◌, ◌++◌, length, slice_get, slice_index_or, Bool, true, false, ◌||◌, not, cond, is_some, Option, Some, None, option_and_then, refl}
use Rattle.std.specs.Int.{int_min, int_max}
use Rattle.std.specs.List.{list_all}
use Rattle.std.proofs.Common.{arith, ap, sym, ◌∙◌, append_assoc, ◌&&◌}
use Rattle.std.proofs.lemmas.Bool.{and_from, and_parts}
use Rattle.std.proofs.lemmas.Int.{ints}
use Rattle.int_model.specs.Boxes.{Box, Interval, is_empty, hull, hull_of}
use Rattle.int_model.specs.Programs.{Program}
use Rattle.int_model.specs.RowSums.{row_misses}
use Rattle.int_model.proofs.VolumeLaws.{HasPoints, points-not_empty, not_empty-points}
use Rattle.tighten.specs.Replay.{replay}
use Rattle.scenario_changes.specs.Problems.{Problem, program_at, IsWithin}
use Rattle.certs.specs.Verdicts.{row_level}
use Rattle.certs.specs.Trees.{some_row_misses, unmissed, both_boxes, stayer_box, stayer_boxes, hull_of_all, stayers_hull}
use Rattle.certs.specs.declared.cert.Cert.{Cert}
use Rattle.certs.specs.declared.level.Level.{Level}
use Rattle.certs.specs.declared.level.Level.TheVariants.{Inf}
use Rattle.certs.proofs.TreeLaws.{stayer_box-is}
use Rattle.certs.proofs.BoxParts.{replay-part}

-- ---- rows that miss

pub is_missed : (s : Program) (i : ℕ) (box : Box) → Some Inf ≡ row_level s i box → row_misses s i box ≡ true
is_missed s i box e = by_test (row_misses s i box) refl e
  where
    by_test : (b : Bool) → row_misses s i box ≡ b → ◌≡◌ {A = Option Level} (Some Inf) (cond b (Some Inf) None) → row_misses s i box ≡ true
    by_test true q r = q
    by_test false q r = absurd (cc)

pub not_missed : (s : Program) (i : ℕ) (box : Box) → None ≡ row_level s i box → row_misses s i box ≡ false
not_missed s i box e = by_test (row_misses s i box) refl e
  where
    by_test : (b : Bool) → row_misses s i box ≡ b → ◌≡◌ {A = Option Level} None (cond b (Some Inf) None) → row_misses s i box ≡ false
    by_test true q r = absurd (cc)
    by_test false q r = q

less : (a b : ℕ) → a < suc b → (a ≡ b → ⊥) → a < b
less zero zero h f = absurd (f refl)
less zero (suc b) h f = omega arith
less (suc a) zero h f = absurd (omega arith)
less (suc a) (suc b) h f = let w : a < b = less a b (omega arith) (λ e. f (ap suc e)) in omega arith

misses_first : (s : Program) (n i : ℕ) (box : Box) → i < suc n → row_misses s i box ≡ true → (i < n → true ≡ some_row_misses s n box) → (b : Bool) → row_misses s n box ≡ b → true ≡ b || some_row_misses s n box
misses_first s n i box l e more true q = refl
misses_first s n i box l e more false q = more (less i n l (λ f. let w : true ≡ false = sym e ∙ ap (λ (m : ℕ). row_misses s m box) f ∙ q in absurd (cc)))

pub some_misses : (s : Program) (n i : ℕ) (box : Box) → i < n → row_misses s i box ≡ true → true ≡ some_row_misses s n box
some_misses s zero i box l e = absurd (omega arith)
some_misses s (suc n) i box l e = misses_first s n i box l e (λ m. some_misses s n i box m e) (row_misses s n box) refl

pub none_misses : (s : Program) (i : ℕ) (box : Box) → row_misses s i box ≡ false → some_row_misses s i box ≡ false → some_row_misses s (i + 1) box ≡ false
none_misses s i box e g =
    let n : i + 1 ≡ suc i = omega arith in
    ap (λ (m : ℕ). some_row_misses s m box) n ∙ ap (λ (b : Bool). b || some_row_misses s i box) e ∙ g

-- ---- one stayer

pub stays_empty : (p : Problem) (box : Box) (cert : Cert) (s : Program) → replay s cert.steps box ≡ None → stayer_box p box cert s ≡ None
stays_empty p box cert s e = ap (option_and_then (unmissed s p.rows)) e

pub stays_missed : (p : Problem) (box : Box) (cert : Cert) (s : Program) (part : Box) → replay s cert.steps box ≡ Some part → some_row_misses s p.rows part ≡ true → stayer_box p box cert s ≡ None
stays_missed p box cert s part e m = ap (option_and_then (unmissed s p.rows)) e ∙ ap (λ (b : Bool). cond b None (Some part)) m

pub stays_in : (p : Problem) (box : Box) (cert : Cert) (s : Program) (part : Box) → replay s cert.steps box ≡ Some part → some_row_misses s p.rows part ≡ false → stayer_box p box cert s ≡ Some part
stays_in p box cert s part e m = ap (option_and_then (unmissed s p.rows)) e ∙ ap (λ (b : Bool). cond b None (Some part)) m

-- a stayer's box isn't empty
pub stays_occupied : (p : Problem) (box : Box) (cert : Cert) (s : Program) (part : Box) (columns rows : ℕ) → IsWithin columns rows s → length box ≡ columns → stayer_box p box cert s ≡ Some part → is_empty part ≡ false
stays_occupied p box cert s part columns rows w l e = points-not_empty part (replay-part columns s cert.steps box part l w.shape.bounds (stayer_box-is p box cert s part e)).points

-- ---- hulls

min_assoc : (a b c : ℤ) → int_min (int_min a b) c ≡ int_min a (int_min b c)
min_assoc a b c = grind (arith, ints)

max_assoc : (a b c : ℤ) → int_max (int_max a b) c ≡ int_max a (int_max b c)
max_assoc a b c = grind (arith, ints)

interval_of : ℤ → ℤ → Interval
interval_of low high = record { low = low; high = high }

hull_assoc : (a b c : Box) → hull (hull a b) c ≡ hull a (hull b c)
unfolding interval_of
hull_assoc [] b c = refl
hull_assoc (i ∷ a) [] c = refl
hull_assoc (i ∷ a) (k ∷ b) [] = refl
hull_assoc (i ∷ a) (k ∷ b) (l ∷ c) =
    ap (λ (box : Box). interval_of (int_min (int_min i.low k.low) l.low) (int_max (int_max i.high k.high) l.high) ∷ box) (hull_assoc a b c)
    ∙ ap (λ (z : ℤ). interval_of z (int_max (int_max i.high k.high) l.high) ∷ hull a (hull b c)) (min_assoc i.low k.low l.low)
    ∙ ap (λ (z : ℤ). interval_of (int_min i.low (int_min k.low l.low)) z ∷ hull a (hull b c)) (max_assoc i.high k.high l.high)

hull_last : (first : Box) (boxes : List Box) (box : Box) → hull_of first (boxes ++ box ∷ []) ≡ hull (hull_of first boxes) box
hull_last first [] box = refl
hull_last first (b ∷ boxes) box = ap (λ (c : Box). hull first c) (hull_last b boxes box) ∙ sym (hull_assoc first (hull_of b boxes) box)

hull_after : (boxes : List Box) (box h : Box) → hull_of_all boxes ≡ Some h → hull_of_all (boxes ++ box ∷ []) ≡ Some (hull h box)
hull_after [] box h e = absurd (cc)
hull_after (b ∷ boxes) box h e =
    let w : hull_of b boxes ≡ h = cc in
    ap (λ (c : Box). Some c) (hull_last b boxes box ∙ ap (λ (c : Box). hull c box) w)

-- ---- all stayers

module _ (p : Problem) (box : Box) (cert : Cert) where
  -- the box of scenario k
  abbrev pub box_at : ℕ → Option Box
  box_at k = option_and_then (stayer_box p box cert) (slice_get p.scenarios k)

  get_program : (ss : List Program) (k : ℕ) (d : Program) → k < length ss → slice_get ss k ≡ Some (slice_index_or ss k d)
  get_program [] k d l = absurd (omega arith)
  get_program (s ∷ ss) zero d l = refl
  get_program (s ∷ ss) (suc k) d l = get_program ss k d (omega arith)

  pub box_here : (k : ℕ) (o : Option Box) → k < length p.scenarios → stayer_box p box cert (program_at p k) ≡ o → box_at k ≡ o
  box_here k o l e = ap (option_and_then (stayer_box p box cert)) (get_program p.scenarios k _ l) ∙ e

  get_past : (ss : List Program) (k : ℕ) → length ss ≤ k → slice_get ss k ≡ None
  get_past [] k l = refl
  get_past (s ∷ ss) zero l = absurd (omega arith)
  get_past (s ∷ ss) (suc k) l = get_past ss k (omega arith)

  pub box_past : (k : ℕ) → length p.scenarios ≤ k → box_at k ≡ None
  box_past k l = ap (option_and_then (stayer_box p box cert)) (get_past p.scenarios k l)

  boxes_more : (j k : ℕ) (ks : List ℕ) (boxes : List Box) (b : Box) → ((ts : List Box) → stayer_boxes p box cert ks ≡ Some ts → stayer_boxes p box cert (ks ++ k ∷ []) ≡ Some (ts ++ b ∷ [])) → (o : Option Box) (q : Option (List Box)) → box_at j ≡ o → stayer_boxes p box cert ks ≡ q → both_boxes o q ≡ Some boxes → stayer_boxes p box cert ((j ∷ ks) ++ k ∷ []) ≡ Some (boxes ++ b ∷ [])
  boxes_more j k ks boxes b more None q a c d = absurd (cc)
  boxes_more j k ks boxes b more (Some t) None a c d = absurd (cc)
  boxes_more j k ks boxes b more (Some t) (Some ts) a c d =
      let w : t ∷ ts ≡ boxes = cc in
      ap (λ (o : Option Box). both_boxes o (stayer_boxes p box cert (ks ++ k ∷ []))) a ∙ ap (both_boxes (Some t)) (more ts c) ∙ ap (λ (bs : List Box). Some (bs ++ b ∷ [])) w

  boxes_after : (ks : List ℕ) (k : ℕ) (boxes : List Box) (b : Box) → stayer_boxes p box cert ks ≡ Some boxes → box_at k ≡ Some b → stayer_boxes p box cert (ks ++ k ∷ []) ≡ Some (boxes ++ b ∷ [])
  boxes_after [] k boxes b e g =
      let w : [] ≡ boxes = cc in
      ap (λ (o : Option Box). both_boxes o (Some [])) g ∙ ap (λ (bs : List Box). Some (bs ++ b ∷ [])) w
  boxes_after (j ∷ ks) k boxes b e g = boxes_more j k ks boxes b (λ ts c. boxes_after ks k ts b c g) (box_at j) (stayer_boxes p box cert ks) refl refl e

  none_after : (ks : List ℕ) (k : ℕ) (rest : List ℕ) → box_at k ≡ None → stayer_boxes p box cert (ks ++ k ∷ rest) ≡ None
  none_after [] k rest e = ap (λ (o : Option Box). both_boxes o (stayer_boxes p box cert rest)) e
  none_after (j ∷ ks) k rest e = ap (both_boxes (box_at j)) (none_after ks k rest e) ∙ none_of (box_at j)
    where
      none_of : (o : Option Box) → both_boxes o None ≡ None
      none_of None = refl
      none_of (Some b) = refl

  -- no hull where a stayer has no box
  pub no_hull_after : (ks : List ℕ) (k : ℕ) (rest : List ℕ) → box_at k ≡ None → stayers_hull p box cert (ks ++ k ∷ rest) ≡ None
  no_hull_after ks k rest e = ap (option_and_then hull_of_all) (none_after ks k rest e)

  -- so far there was no stayer, or the hull is that of those so far
  abbrev pub HullSoFar : List ℕ → Bool → Box → Type 0
  HullSoFar ks true h = (stayers_hull p box cert ks ≡ Some h) × (is_empty h ≡ false)
  HullSoFar ks false h = ks ≡ []

  pub so_far_begun : (ks : List ℕ) (b : Bool) (h : Box) → b ≡ true → HullSoFar ks b h → (stayers_hull p box cert ks ≡ Some h) × (is_empty h ≡ false)
  so_far_begun ks true h e s = s
  so_far_begun ks false h e s = absurd (cc)

  pub so_far_none : (ks : List ℕ) (b : Bool) (h : Box) → b ≡ false → HullSoFar ks b h → ks ≡ []
  so_far_none ks true h e s = absurd (cc)
  so_far_none ks false h e s = s

  pub so_far_next : (ks : List ℕ) (b : Bool) (h : Box) → b ≡ true → (stayers_hull p box cert ks ≡ Some h) × (is_empty h ≡ false) → HullSoFar ks b h
  so_far_next ks true h e s = s
  so_far_next ks false h e s = absurd (cc)

  pub hull_first : (ks : List ℕ) (k : ℕ) (b : Box) → ks ≡ [] → box_at k ≡ Some b → stayers_hull p box cert (ks ++ k ∷ []) ≡ Some b
  hull_first ks k b e g = ap (λ (js : List ℕ). stayers_hull p box cert (js ++ k ∷ [])) e ∙ ap (λ (o : Option Box). option_and_then hull_of_all (both_boxes o (Some []))) g

  pub hull_next : (ks : List ℕ) (k : ℕ) (h b : Box) → stayers_hull p box cert ks ≡ Some h → box_at k ≡ Some b → stayers_hull p box cert (ks ++ k ∷ []) ≡ Some (hull h b)
  hull_next ks k h b e g = by_boxes (stayer_boxes p box cert ks) refl e
    where
      by_boxes : (o : Option (List Box)) → stayer_boxes p box cert ks ≡ o → option_and_then hull_of_all o ≡ Some h → stayers_hull p box cert (ks ++ k ∷ []) ≡ Some (hull h b)
      by_boxes None a c = absurd (cc)
      by_boxes (Some boxes) a c = ap (option_and_then hull_of_all) (boxes_after ks k boxes b a g) ∙ hull_after boxes b h c

-- ---- occupied hulls

pub hull_occupied : (a b : Box) → length a ≡ length b → is_empty a ≡ false → is_empty b ≡ false → is_empty (hull a b) ≡ false
hull_occupied a b l e g = points-not_empty (hull a b) (hull_points a b l (not_empty-points a e) (not_empty-points b g))
  where
    hull_points : (a b : Box) → length a ≡ length b → HasPoints a → HasPoints b → HasPoints (hull a b)
    hull_points [] b l h k = h
    hull_points (i ∷ a) [] l h k = absurd (omega arith)
    hull_points (i ∷ a) (j ∷ b) l h k = (grind (arith, ints, h.0, k.0), hull_points a b (omega arith) h.1 k.1)

-- ---- a loop over the stayers, which has gone through `before`

pub go_on : {X : Type 0} (before rest next all : List X) (x : X) → before ++ rest ≡ all → rest ≡ x ∷ next → (before ++ x ∷ []) ++ next ≡ all
go_on {X} before rest next all x e g = append_assoc before (x ∷ []) next ∙ ap (λ (xs : List X). before ++ xs) (sym g) ∙ e

pub split_at : {X : Type 0} (before rest next all : List X) (x : X) → before ++ rest ≡ all → rest ≡ x ∷ next → all ≡ before ++ x ∷ next
split_at {X} before rest next all x e g = sym e ∙ ap (λ (xs : List X). before ++ xs) g

pub all_stops : {X : Type 0} (f : X → Bool) (before : List X) (x : X) (rest : List X) → f x ≡ false → false ≡ list_all f (before ++ x ∷ rest)
all_stops f [] x rest e = sym (ap (λ (b : Bool). b && list_all f rest) e)
all_stops f (y ∷ before) x rest e = and_no (f y) (list_all f (before ++ x ∷ rest)) (all_stops f before x rest e)
  where
    and_no : (a b : Bool) → false ≡ b → false ≡ a && b
    and_no true b e = e
    and_no false b e = refl

pub all_goes_on : {X : Type 0} (f : X → Bool) (before : List X) (x : X) → list_all f before ≡ true → f x ≡ true → list_all f (before ++ x ∷ []) ≡ true
all_goes_on f [] x h e = and_from (f x) true e refl
all_goes_on f (y ∷ before) x h e = let t = and_parts (f y) (list_all f before) h in and_from (f y) (list_all f (before ++ x ∷ [])) t.0 (all_goes_on f before x t.1 e)

pub is_none_is : {X : Type 0} (o : Option X) (b : Bool) → is_some o ≡ not b → b ≡ true → o ≡ None
is_none_is None b h e = refl
is_none_is (Some x) true h e = absurd (cc)
is_none_is (Some x) false h e = absurd (cc)
