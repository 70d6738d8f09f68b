-- An accepted list of claims is a list of right answers.
use Rattle.std.specs.Prelude.{◌≡◌, ℕ, zero, suc, ◌+◌, ◌<◌, ◌≤◌, ℤ, List, [], ◌∷◌, ◌++◌, length, take, slice_get, slice_index_or, slice_set, flat_map, Bool, true, false, ◌&&◌, ◌||◌, cond, IsTrue, nat_eq, nat_lt, Option, Some, None, IsSomeAnd, option_and_then, option_map, unwrap_or, is_some, map, refl, ◌⊎◌}
use Rattle.std.specs.List.{list_any, list_all}
use Rattle.std.proofs.Common.{arith, ap, sym, ◌∙◌, subst, length-set, inl, inr}
use Rattle.std.proofs.lemmas.Bool.{and_parts}
use Rattle.std.proofs.lemmas.Bool.Decides.{nat_tests}
use Rattle.std.proofs.lemmas.Int.{ints, by_lt_z}
use Rattle.int_model.specs.Integers.{int_at}
use Rattle.int_model.specs.Boxes.{Interval, Box, InBox, is_empty, meet, hull, hull_of, below_cut, above_cut}
use Rattle.int_model.specs.Programs.{Program, Feasible, value}
use Rattle.tighten.specs.Replay.{replay, tightened, tightened_by}
use Rattle.certs.specs.Levels.{AtMost, level_le, greater_level}
use Rattle.scenario_changes.specs.Answers.{RightAnswer}
use Rattle.scenario_changes.specs.Problems.{Problem, IsWithin, root_box}
use Rattle.certs.specs.Verdicts.{judged, start_level}
use Rattle.certs.specs.Laws.{IsUnderEnd}
use Rattle.certs.specs.Trees.{Place, root_place, raised, kept, dropped, unmissed, some_row_misses, both_boxes, stayer_box, stayer_boxes, hull_of_all, stayers_hull, two_places, children, handed_on, handed, arrivals, splits_inside, is_rising, is_live, cert_fits, is_valid, IsTree, end_levels}
use Rattle.certs.specs.Claims.{claimed_level, ClaimHolds, EndsFrom, Accepted}
use Rattle.tighten.specs.declared.step.Step.{Step}
use Rattle.certs.specs.declared.cert.Cert.{Cert}
use Rattle.certs.specs.declared.tree.Node.{Node}
use Rattle.certs.specs.declared.tree.Node.TheVariants.{Rest, Leaf, Split}
use Rattle.certs.specs.declared.level.Level.{Level}
use Rattle.certs.specs.declared.level.Level.TheVariants.{Value, Inf}
use Rattle.certs.specs.declared.verdict.Verdict.{Verdict}
use Rattle.scenario_changes.specs.declared.answer.Answer.{Answer}
use Rattle.scenario_changes.specs.declared.answer.Answer.TheVariants.{Infeasible, Optimal, Limit}
use Rattle.int_model.proofs.BoxLaws.{InBox-hull_left, InBox-hull_right, length-InBox, below_cut-points, above_cut-points}
use Rattle.tighten.proofs.ReplayLaws.{replay-keeps}
use Rattle.certs.proofs.LevelLaws.{judged-le, start-le}

-- each program of the problem is within the limits
abbrev pub AllWithin : Problem → Type 0
AllWithin p = (k : ℕ) (s : Program) → slice_get p.scenarios k ≡ Some s → IsWithin p.columns p.rows s

-- ---- lists

-- an element of a list that f turns into one element is that element, where f turns the list into one
pub append-none : {Y : Type 0} (ys zs : List Y) → ys ++ zs ≡ [] → zs ≡ []
append-none [] zs e = e
append-none (y ∷ ys) zs e = absurd (cc)

-- a list of one element put together of two has an element in one of them alone
append-one : {Y : Type 0} (ys zs : List Y) (z : Y) → ys ++ zs ≡ z ∷ [] → (zs ≡ z ∷ []) ⊎ (zs ≡ [])
append-one [] zs z e = inl e
append-one (y ∷ ys) zs z e = let t : ys ++ zs ≡ [] = cc in inr (append-none ys zs t)

flat_map-none : {X Y : Type 0} (f : X → List Y) (xs : List X) (n : ℕ) (e : X) (y : Y) → slice_get xs n ≡ Some e → f e ≡ y ∷ [] → flat_map f xs ≡ [] → ⊥
flat_map-none f [] n e y p q r = absurd (cc)
flat_map-none f (x ∷ xs) zero e y p q r =
    let t : f x ≡ y ∷ [] = cc in
    let u : (y ∷ []) ++ flat_map f xs ≡ [] = rw t at r in absurd (cc)
flat_map-none f (x ∷ xs) (suc n) e y p q r = flat_map-none f xs n e y p q (append-none (f x) (flat_map f xs) r)

flat_map-one : {X Y : Type 0} (f : X → List Y) (xs : List X) (n : ℕ) (e : X) (y z : Y) → slice_get xs n ≡ Some e → f e ≡ y ∷ [] → flat_map f xs ≡ z ∷ [] → y ≡ z
flat_map-one f [] n e y z p q r = absurd (cc)
flat_map-one f (x ∷ xs) zero e y z p q r =
    let t : f x ≡ y ∷ [] = cc in
    let u : (y ∷ []) ++ flat_map f xs ≡ z ∷ [] = rw t at r in cc
flat_map-one f (x ∷ xs) (suc n) e y z p q r =
    elim (append-one (f x) (flat_map f xs) z r) [ inl u ↦ flat_map-one f xs n e y z p q u | inr u ↦ absurd (flat_map-none f xs n e y p q u) ]

slice_get-take : {X : Type 0} (xs : List X) (m n : ℕ) (x : X) → n < m → slice_get xs n ≡ Some x → slice_get (take m xs) n ≡ Some x
slice_get-take xs zero n x h e = absurd (omega arith)
slice_get-take [] (suc m) n x h e = absurd (cc)
slice_get-take (y ∷ xs) (suc m) zero x h e = e
slice_get-take (y ∷ xs) (suc m) (suc n) x h e = slice_get-take xs m n x (omega arith) e

pub slice_get-some : {X : Type 0} (xs : List X) (n : ℕ) → n < length xs → (x : X) × (slice_get xs n ≡ Some x)
slice_get-some [] n h = absurd (omega arith)
slice_get-some (x ∷ xs) zero h = (x, refl)
slice_get-some (x ∷ xs) (suc n) h = slice_get-some xs n (omega arith)

slice_get-below : {X : Type 0} (xs : List X) (n : ℕ) (x : X) → slice_get xs n ≡ Some x → n < length xs
slice_get-below [] n x e = absurd (cc)
slice_get-below (y ∷ xs) zero x e = omega arith
slice_get-below (y ∷ xs) (suc n) x e = let h : n < length xs = slice_get-below xs n x e in omega arith

pub option_map_some : {A B : Type 0} (f : A → B) (o : Option A) (y : B) → option_map f o ≡ Some y → (x : A) × (o ≡ Some x) × (f x ≡ y)
option_map_some f None y e = absurd (cc)
option_map_some f (Some x) y e = (x, refl, cc)

pub option_and_then_is : {A B : Type 0} (f : A → Option B) (o : Option A) (y : B) → option_and_then f o ≡ Some y → (x : A) × (o ≡ Some x) × (f x ≡ Some y)
option_and_then_is f None y e = absurd (cc)
option_and_then_is f (Some x) y e = (x, refl, e)

-- ---- levels

pub AtMost-greater : (a b : Level) (v : ℤ) → AtMost a v → AtMost b v → AtMost (greater_level a b) v
AtMost-greater a b v h k = by_test (level_le a b)
  where
    by_test : (t : Bool) → AtMost (cond t b a) v
    by_test true = k
    by_test false = h

-- a level below one that is at most the value is so too
pub AtMost-below : (a b : Level) (v : ℤ) → IsTrue (level_le a b) → AtMost b v → AtMost a v
AtMost-below (Value a) (Value b) v e h = omega (arith, ints, e, h)
AtMost-below (Value a) Inf v e h = absurd h
AtMost-below Inf (Value b) v e h = absurd (cc)
AtMost-below Inf Inf v e h = h

-- ---- verdicts of a node

-- the raised level of a live scenario is that of its verdict and its own
pub raised_at : (box : Box) (cert : Cert) (ss : List Program) (ls : List (Option Level)) (vs : List Verdict) (rs : List (Option Level)) (k : ℕ) (s : Program) (l : Level) → raised box cert ss ls vs ≡ Some rs → slice_get ss k ≡ Some s → slice_index_or ls k None ≡ Some l → (v : Verdict) × (m : Level) × (judged s box cert v ≡ Some m) × (slice_index_or rs k None ≡ Some (greater_level l m))
raised_at box cert [] ls vs rs k s l e p q = absurd (cc)
raised_at box cert (t ∷ ss) [] vs rs k s l e p q = absurd (cc)
raised_at box cert (t ∷ ss) (None ∷ ls) vs rs zero s l e p q = absurd (cc)
raised_at box cert (t ∷ ss) (None ∷ ls) vs rs (suc k) s l e p q =
    let m = option_map_some (λ (rest : List (Option Level)). None ∷ rest) (raised box cert ss ls vs) rs e in
    let h = raised_at box cert ss ls vs m.0 k s l m.1 p q in
    let r : slice_index_or rs (suc k) None ≡ slice_index_or m.0 k None = ap (λ (xs : List (Option Level)). slice_index_or xs (suc k) None) (sym m.2) in
    (h.0, h.1, h.2, r ∙ h.3)
raised_at box cert (t ∷ ss) (Some o ∷ ls) [] rs k s l e p q = absurd (cc)
raised_at box cert (t ∷ ss) (Some o ∷ ls) (v ∷ vs) rs k s l e p q =
    let g : Level → Option (List (Option Level)) = λ m. option_map (λ (rest : List (Option Level)). Some (greater_level o m) ∷ rest) (raised box cert ss ls vs) in
    let j = option_and_then_is g (judged t box cert v) rs e in
    let m = option_map_some (λ (rest : List (Option Level)). Some (greater_level o j.0) ∷ rest) (raised box cert ss ls vs) rs j.2 in
    by_place k p q j m (λ i a b. raised_at box cert ss ls vs m.0 i s l m.1 a b)
  where
    by_place : (k : ℕ) → slice_get (t ∷ ss) k ≡ Some s → slice_index_or (Some o ∷ ls) k None ≡ Some l
        → (j : (x : Level) × (judged t box cert v ≡ Some x) × (option_map (λ (rest : List (Option Level)). Some (greater_level o x) ∷ rest) (raised box cert ss ls vs) ≡ Some rs))
        → (m : (x : List (Option Level)) × (raised box cert ss ls vs ≡ Some x) × (Some (greater_level o j.0) ∷ x ≡ rs))
        → ((i : ℕ) → slice_get ss i ≡ Some s → slice_index_or ls i None ≡ Some l → (w : Verdict) × (x : Level) × (judged s box cert w ≡ Some x) × (slice_index_or m.0 i None ≡ Some (greater_level l x)))
        → (w : Verdict) × (x : Level) × (judged s box cert w ≡ Some x) × (slice_index_or rs k None ≡ Some (greater_level l x))
    by_place zero p q j m more =
        let same : t ≡ s = cc in
        let level : o ≡ l = cc in
        let own : judged s box cert v ≡ Some j.0 = subst (λ (z : Program). judged z box cert v ≡ Some j.0) same j.1 in
        let first : slice_index_or rs zero None ≡ Some (greater_level o j.0) = ap (λ (xs : List (Option Level)). slice_index_or xs zero None) (sym m.2) in
        let last : Some (greater_level o j.0) ≡ Some (greater_level l j.0) = ap (λ (z : Level). Some (greater_level z j.0)) level in
        (v, j.0, own, first ∙ last)
    by_place (suc i) p q j m more =
        let h = more i p q in
        let r : slice_index_or rs (suc i) None ≡ slice_index_or m.0 i None = ap (λ (xs : List (Option Level)). slice_index_or xs (suc i) None) (sym m.2) in
        (h.0, h.1, h.2, r ∙ h.3)

-- the levels that are kept, and those that are dropped
pub kept_at : (stay : List ℕ) (j : ℕ) (ls : List (Option Level)) (k : ℕ) → slice_index_or (kept stay j ls) k None ≡ cond (list_any (nat_eq (j + k)) stay) (slice_index_or ls k None) None
kept_at stay j [] k = by_test (list_any (nat_eq (j + k)) stay)
  where
    by_test : (b : Bool) → ◌≡◌ {A = Option Level} None (cond b None None)
    by_test true = refl
    by_test false = refl
kept_at stay j (l ∷ ls) zero = let e : j ≡ j + 0 = omega arith in ap (λ (n : ℕ). cond (list_any (nat_eq n) stay) l None) e
kept_at stay j (l ∷ ls) (suc k) = let e : suc j + k ≡ j + suc k = omega arith in rw e at (kept_at stay (suc j) ls k)

pub dropped_at : (stay : List ℕ) (j : ℕ) (ls : List (Option Level)) (k : ℕ) → slice_index_or (dropped stay j ls) k None ≡ cond (list_any (nat_eq (j + k)) stay) None (slice_index_or ls k None)
dropped_at stay j [] k = by_test (list_any (nat_eq (j + k)) stay)
  where
    by_test : (b : Bool) → ◌≡◌ {A = Option Level} None (cond b None None)
    by_test true = refl
    by_test false = refl
dropped_at stay j (l ∷ ls) zero = let e : j ≡ j + 0 = omega arith in ap (λ (n : ℕ). cond (list_any (nat_eq n) stay) None l) e
dropped_at stay j (l ∷ ls) (suc k) = let e : suc j + k ≡ j + suc k = omega arith in rw e at (dropped_at stay (suc j) ls k)

-- ---- boxes of stayers

pub length-meet : (n : ℕ) (box other : Box) → length box ≡ n → length other ≡ n → length (meet box other) ≡ n
length-meet n [] other e f = e
length-meet zero (i ∷ box) other e f = absurd (omega arith)
length-meet (suc n) (i ∷ box) [] e f = absurd (omega arith)
length-meet (suc n) (i ∷ box) (k ∷ other) e f = ap suc (length-meet n box other (omega arith) (omega arith))

length-hull : (n : ℕ) (box other : Box) → length box ≡ n → length other ≡ n → length (hull box other) ≡ n
length-hull n [] other e f = e
length-hull zero (i ∷ box) other e f = absurd (omega arith)
length-hull (suc n) (i ∷ box) [] e f = absurd (omega arith)
length-hull (suc n) (i ∷ box) (k ∷ other) e f = ap suc (length-hull n box other (omega arith) (omega arith))

length-tightened : (s : Program) (step : Step) (box t : Box) → tightened s.rows s.ends step box ≡ Some t → length t ≡ length box
length-tightened s step box t e = by_test _ _ e
  where
    by_test : (b : Bool) (i : Interval) → cond b None (Some (slice_set box step.column i)) ≡ Some t → length t ≡ length box
    by_test true i q = absurd (cc)
    by_test false i q = let u : slice_set box step.column i ≡ t = cc in ap length (sym u) ∙ length-set box step.column i

length-tightened_by : (s : Program) (steps : List Step) (box t : Box) → tightened_by s.rows s.ends steps box ≡ Some t → length t ≡ length box
length-tightened_by s [] box t e = let u : box ≡ t = cc in ap length (sym u)
length-tightened_by s (step ∷ steps) box t e =
    let m = option_and_then_is (tightened_by s.rows s.ends steps) (tightened s.rows s.ends step box) t e in
    length-tightened_by s steps m.0 t m.2 ∙ length-tightened s step box m.0 m.1

length-replay : (n : ℕ) (s : Program) (steps : List Step) (box t : Box) → length box ≡ n → length s.bounds ≡ n → replay s steps box ≡ Some t → length t ≡ n
length-replay n s steps box t e f g = by_test (is_empty (meet box s.bounds)) g
  where
    by_test : (b : Bool) → cond b None (tightened_by s.rows s.ends steps (meet box s.bounds)) ≡ Some t → length t ≡ n
    by_test true q = absurd (cc)
    by_test false q = length-tightened_by s steps (meet box s.bounds) t q ∙ length-meet n box s.bounds e f

abbrev pub AllLength : ℕ → List Box → Type 0
AllLength n [] = Unit {0}
AllLength n (box ∷ boxes) = (length box ≡ n) × AllLength n boxes

pub length-hull_of : (n : ℕ) (box : Box) (boxes : List Box) → AllLength n (box ∷ boxes) → length (hull_of box boxes) ≡ n
length-hull_of n box [] h = h.0
length-hull_of n box (other ∷ others) h = length-hull n box (hull_of other others) h.0 (length-hull_of n other others h.1)

InBox-hull_of : (n : ℕ) (box : Box) (boxes : List Box) → AllLength n (box ∷ boxes) → (i : ℕ) (t : Box) (x : List ℤ) → slice_get (box ∷ boxes) i ≡ Some t → InBox t x → InBox (hull_of box boxes) x
InBox-hull_of n box [] h zero t x e k = let u : t ≡ box = cc in subst (λ (b : Box). InBox b x) u k
InBox-hull_of n box [] h (suc i) t x e k = absurd (cc)
InBox-hull_of n box (other ∷ others) h zero t x e k =
    let u : t ≡ box = cc in
    InBox-hull_left box (hull_of other others) x (h.0 ∙ sym (length-hull_of n other others h.1)) (subst (λ (b : Box). InBox b x) u k)
InBox-hull_of n box (other ∷ others) h (suc i) t x e k =
    InBox-hull_right box (hull_of other others) x (h.0 ∙ sym (length-hull_of n other others h.1)) (InBox-hull_of n other others h.1 i t x e k)

unmissed-is : (s : Program) (rows : ℕ) (box t : Box) → unmissed s rows box ≡ Some t → box ≡ t
unmissed-is s rows box t e = by_test (some_row_misses s rows box) e
  where
    by_test : (b : Bool) → cond b None (Some box) ≡ Some t → box ≡ t
    by_test true q = absurd (cc)
    by_test false q = cc

pub stayer_box-is : (p : Problem) (box : Box) (cert : Cert) (s : Program) (t : Box) → stayer_box p box cert s ≡ Some t → replay s cert.steps box ≡ Some t
stayer_box-is p box cert s t e =
    let m = option_and_then_is (unmissed s p.rows) (replay s cert.steps box) t e in
    let u : m.0 ≡ t = unmissed-is s p.rows m.0 t m.2 in
    m.1 ∙ ap (λ (b : Box). Some b) u

pub both_boxes-are : (a : Option Box) (b : Option (List Box)) (ts : List Box) → both_boxes a b ≡ Some ts → (t : Box) × (us : List Box) × (a ≡ Some t) × (b ≡ Some us) × (t ∷ us ≡ ts)
both_boxes-are None b ts e = absurd (cc)
both_boxes-are (Some t) None ts e = absurd (cc)
both_boxes-are (Some t) (Some us) ts e = (t, us, refl, refl, cc)

stayer_boxes-length : (p : Problem) → AllWithin p → (box : Box) → length box ≡ p.columns → (cert : Cert) (stay : List ℕ) (ts : List Box) → stayer_boxes p box cert stay ≡ Some ts → AllLength p.columns ts
stayer_boxes-length p limits box n cert [] ts e = let u : [] ≡ ts = cc in subst (λ (bs : List Box). AllLength p.columns bs) u tt
stayer_boxes-length p limits box n cert (k ∷ ks) ts e =
    let m = both_boxes-are (option_and_then (stayer_box p box cert) (slice_get p.scenarios k)) (stayer_boxes p box cert ks) ts e in
    let s = option_and_then_is (stayer_box p box cert) (slice_get p.scenarios k) m.0 m.2 in
    let r : replay s.0 cert.steps box ≡ Some m.0 = stayer_box-is p box cert s.0 m.0 s.2 in
    subst (λ (bs : List Box). AllLength p.columns bs) m.4 (length-replay p.columns s.0 cert.steps box m.0 n (limits k s.0 s.1).shape.bounds r, stayer_boxes-length p limits box n cert ks m.1 m.3)

stayer_boxes_at : (p : Problem) (box : Box) (cert : Cert) (stay : List ℕ) (ts : List Box) → stayer_boxes p box cert stay ≡ Some ts → (k : ℕ) → list_any (nat_eq k) stay ≡ true → (s : Program) → slice_get p.scenarios k ≡ Some s → (i : ℕ) × (t : Box) × (slice_get ts i ≡ Some t) × (replay s cert.steps box ≡ Some t)
stayer_boxes_at p box cert [] ts e k h s f = absurd (cc)
stayer_boxes_at p box cert (j ∷ js) ts e k h s f =
    let m = both_boxes-are (option_and_then (stayer_box p box cert) (slice_get p.scenarios j)) (stayer_boxes p box cert js) ts e in
    let z = option_and_then_is (stayer_box p box cert) (slice_get p.scenarios j) m.0 m.2 in
    let r : replay z.0 cert.steps box ≡ Some m.0 = stayer_box-is p box cert z.0 m.0 z.2 in
    by_head (nat_eq k j) refl h m.0 m.1 m.4 z.0 z.1 r (λ g. stayer_boxes_at p box cert js m.1 m.3 k g s f)
  where
    by_head : (b : Bool) → nat_eq k j ≡ b → b || list_any (nat_eq k) js ≡ true → (t : Box) (us : List Box) → t ∷ us ≡ ts → (z : Program) → slice_get p.scenarios j ≡ Some z → replay z cert.steps box ≡ Some t
        → (list_any (nat_eq k) js ≡ true → (i : ℕ) × (u : Box) × (slice_get us i ≡ Some u) × (replay s cert.steps box ≡ Some u))
        → (i : ℕ) × (u : Box) × (slice_get ts i ≡ Some u) × (replay s cert.steps box ≡ Some u)
    by_head true q g t us w z y r more =
        let same : k ≡ j = grind (arith, nat_tests, q) in
        let there : slice_get p.scenarios j ≡ Some s = subst (λ (n : ℕ). slice_get p.scenarios n ≡ Some s) same f in
        let one : z ≡ s = cc in
        (0, t, ap (λ (bs : List Box). slice_get bs 0) (sym w), subst (λ (a : Program). replay a cert.steps box ≡ Some t) one r)
    by_head false q g t us w z y r more =
        let d = more g in (suc d.0, d.1, ap (λ (bs : List Box). slice_get bs (suc d.0)) (sym w) ∙ d.2, d.3)

-- a stayer's feasible points of the box lie in the hull
pub stayers_hull-holds : (p : Problem) → AllWithin p → (box : Box) → length box ≡ p.columns → (cert : Cert) (stay : List ℕ) (h : Box) → stayers_hull p box cert stay ≡ Some h → (k : ℕ) → list_any (nat_eq k) stay ≡ true → (s : Program) → slice_get p.scenarios k ≡ Some s → (x : List ℤ) → Feasible s x → InBox box x → InBox h x
stayers_hull-holds p limits box n cert stay h e k l s g x f i =
    let m = option_and_then_is hull_of_all (stayer_boxes p box cert stay) h e in
    let d = stayer_boxes_at p box cert stay m.0 m.1 k l s g in
    let inside : InBox d.1 x = subst (λ (o : Option Box). IsSomeAnd o (λ t. InBox t x)) d.3 (replay-keeps s cert.steps box x f i) in
    by_boxes m.0 m.2 d.0 d.1 d.2 inside (stayer_boxes-length p limits box n cert stay m.0 m.1)
  where
    by_boxes : (ts : List Box) → hull_of_all ts ≡ Some h → (j : ℕ) (t : Box) → slice_get ts j ≡ Some t → InBox t x → AllLength p.columns ts → InBox h x
    by_boxes [] q j t r u a = absurd (cc)
    by_boxes (b ∷ bs) q j t r u a = let w : hull_of b bs ≡ h = cc in subst (λ (z : Box). InBox z x) w (InBox-hull_of p.columns b bs a j t x r u)

-- ---- down the tree

zero_plus : (n : ℕ) → n ≡ 0 + n
zero_plus n = omega arith

pub handed-first : (n : ℕ) (low high : Place) → handed_on n n (Some (low, high)) ≡ low ∷ []
handed-first n low high = let e : nat_eq n n ≡ true = grind (arith, nat_tests) in rw e refl

pub handed-second : (n : ℕ) (low high : Place) → handed_on (suc n) n (Some (low, high)) ≡ high ∷ []
handed-second n low high =
    let e : nat_eq (suc n) n ≡ false = grind (arith, nat_tests) in
    let g : nat_eq (suc n) (suc n) ≡ true = grind (arith, nat_tests) in rw (e, g) refl

pub is_some-is : {A : Type 0} (o : Option A) → is_some o ≡ true → (x : A) × (o ≡ Some x)
is_some-is None e = absurd (cc)
is_some-is (Some x) e = (x, refl)

-- what a valid split says
pub record SplitFacts (p : Problem) (count n : ℕ) (place : Place) (cert : Cert) (verdicts : List Verdict) (stay : List ℕ) (child column : ℕ) (v : ℤ) : Type 0 where
  pub levels : List (Option Level)
  pub raised_to : raised place.box cert p.scenarios place.levels verdicts ≡ Some levels
  pub within : Box
  pub hull_is : stayers_hull p place.box cert stay ≡ Some within
  pub column_below : column < p.columns
  pub later : n < child
  pub both : suc child < count

splits_inside-is : (o : Option Box) (j : ℕ) (v : ℤ) → splits_inside o j v ≡ true → (h : Box) × (o ≡ Some h)
splits_inside-is None j v e = absurd (cc)
splits_inside-is (Some h) j v e = (h, refl)

-- the parts of a test of eight
pub eight : (a b c d f g h i : Bool) → a && b && c && d && f && g && h && i ≡ true → (b ≡ true) × (f ≡ true) × (g ≡ true) × (h ≡ true) × (i ≡ true)
eight a b c d f g h i e =
    let t = and_parts (a && b && c && d && f && g && h) i e in
    let u = and_parts (a && b && c && d && f && g) h t.0 in
    let v = and_parts (a && b && c && d && f) g u.0 in
    let w = and_parts (a && b && c && d) f v.0 in
    let y = and_parts (a && b && c) d w.0 in
    let z = and_parts (a && b) c y.0 in
    ((and_parts a b z.0).1, w.1, v.1, u.1, t.1)

pub split_facts : (p : Problem) (count n : ℕ) (place : Place) (cert : Cert) (verdicts : List Verdict) (stay : List ℕ) (child column : ℕ) (v : ℤ) → is_valid p count n place (Split cert verdicts stay child column v) ≡ true → SplitFacts p count n place cert verdicts stay child column v
split_facts p count n place cert verdicts stay child column v e =
    let t = eight (cert_fits p cert) (is_some (raised place.box cert p.scenarios place.levels verdicts)) (is_rising stay) (list_all (is_live place.levels) stay) (nat_lt column p.columns) (splits_inside (stayers_hull p place.box cert stay) column v) (nat_lt n child) (nat_lt (suc child) count) e in
    let r = is_some-is (raised place.box cert p.scenarios place.levels verdicts) t.0 in
    let h = splits_inside-is (stayers_hull p place.box cert stay) column v t.2 in
    record {
      levels = r.0;
      raised_to = r.1;
      within = h.0;
      hull_is = h.1;
      column_below = grind (arith, nat_tests, t.1);
      later = grind (arith, nat_tests, t.3);
      both = grind (arith, nat_tests, t.4);
    }

leaf_levels : (p : Problem) (count n : ℕ) (place : Place) (cert : Cert) (verdicts : List Verdict) → is_valid p count n place (Leaf cert verdicts) ≡ true → (ls : List (Option Level)) × (raised place.box cert p.scenarios place.levels verdicts ≡ Some ls)
leaf_levels p count n place cert verdicts e = is_some-is (raised place.box cert p.scenarios place.levels verdicts) (and_parts _ _ e).1

module _ (p : Problem) (limits : AllWithin p) (placed : List (Node × Place)) (tree : IsTree p placed) (k : ℕ) (s : Program) (found : slice_get p.scenarios k ≡ Some s) (x : List ℤ) (f : Feasible s x) where
  abbrev SomeEnd : Type 0
  SomeEnd = IsUnderEnd p placed k s x

  -- a node with the point, where the scenario is live at a level of at most the value
  record Here (n : ℕ) (place : Place) (node : Node) : Type 0 where
    here_is : slice_get placed n ≡ Some (node, place)
    inside : InBox place.box x
    level : Level
    level_is : slice_index_or place.levels k None ≡ Some level
    below : AtMost level (value s x)

  -- the level that a verdict leaves
  record Raised (place : Place) (ls : List (Option Level)) : Type 0 where
    level : Level
    level_is : slice_index_or ls k None ≡ Some level
    below : AtMost level (value s x)

  raised_here : (n : ℕ) (place : Place) (node : Node) → Here n place node → (cert : Cert) (verdicts : List Verdict) (ls : List (Option Level)) → raised place.box cert p.scenarios place.levels verdicts ≡ Some ls → Raised place ls
  raised_here n place node h cert verdicts ls e =
      let r = raised_at place.box cert p.scenarios place.levels verdicts ls k s h.level e found h.level_is in
      record {
        level = greater_level h.level r.1;
        level_is = r.3;
        below = AtMost-greater h.level r.1 (value s x) h.below (judged-le p.columns p.rows s place.box cert r.0 r.1 x (record { within = limits k s found; feasible = f; inside = h.inside }) r.2);
      }

  -- what a split hands to a child is the child's place
  child_place : (n : ℕ) (place : Place) (node : Node) → slice_get placed n ≡ Some (node, place) → (c : ℕ) → n < c → c < length placed → (y : Place) → handed p c (node, place) ≡ y ∷ [] → (m : Node) × (slice_get placed c ≡ Some (m, y))
  child_place n place node e zero h l y q = absurd (omega arith)
  child_place n place node e (suc c) h l y q =
      let a = slice_get-some placed (suc c) l in
      let r : arrivals p placed (suc c) ≡ a.0.1 ∷ [] = (tree.right (suc c) a.0.0 a.0.1 a.1).arrival in
      let z : slice_get (take (suc c) placed) n ≡ Some (node, place) = slice_get-take placed (suc c) n (node, place) h e in
      let u : y ≡ a.0.1 = flat_map-one (handed p (suc c)) (take (suc c) placed) n (node, place) y a.0.1 z q r in
      (a.0.0, a.1 ∙ ap (λ (b : Place). Some (a.0.0, b)) (sym u))

  -- the place is an end
  ends_here : (n : ℕ) (place : Place) (node : Node) → Here n place node → (l : Level) → slice_index_or (end_levels p place node) k None ≡ Some l → AtMost l (value s x) → SomeEnd
  ends_here n place node h l e b = record { n = n; place = place; node = node; level = l; here_is = h.here_is; inside = h.inside; level_is = e; below = b }

  -- a stayer's point lies in one of the two places below, where its level is the raised one
  record Below (c : ℕ) : Type 0 where
    place : Place
    node : Node
    here : Here c place node

  below_split : (n : ℕ) (place : Place) (cert : Cert) (verdicts : List Verdict) (stay : List ℕ) (child column : ℕ) (v : ℤ) → Here n place (Split cert verdicts stay child column v) → (t : SplitFacts p (length placed) n place cert verdicts stay child column v) → list_any (nat_eq k) stay ≡ true → Below child ⊎ Below (suc child)
  below_split n place cert verdicts stay child column v h t q =
      let shape = (limits k s found).shape in
      let as_long : length place.box ≡ p.columns = length-InBox place.box x h.inside ∙ sym (length-InBox s.bounds x f.within) ∙ shape.bounds in
      let inside : InBox t.within x = stayers_hull-holds p limits place.box as_long cert stay t.within t.hull_is k q s found x f h.inside in
      let hull_long : length t.within ≡ p.columns = length-InBox t.within x inside ∙ sym (length-InBox s.bounds x f.within) ∙ shape.bounds in
      let short : column < length t.within = omega (arith, t.column_below) in
      let w : Raised place t.levels = raised_here n place (Split cert verdicts stay child column v) h cert verdicts t.levels t.raised_to in
      let stays : slice_index_or (kept stay 0 t.levels) k None ≡ Some w.level = kept_at stay 0 t.levels k ∙ ap (λ (b : Bool). cond b (slice_index_or t.levels k None) None) (subst (λ (m : ℕ). list_any (nat_eq m) stay ≡ true) (zero_plus k) q) ∙ w.level_is in
      let low : Place = record { box = below_cut t.within column v; levels = kept stay 0 t.levels } in
      let high : Place = record { box = above_cut t.within column v; levels = kept stay 0 t.levels } in
      let two : children p place cert verdicts stay column v ≡ Some (low, high) = ap (λ (o : Option Box). two_places stay column v o (raised place.box cert p.scenarios place.levels verdicts)) t.hull_is ∙ ap (λ (o : Option (List (Option Level))). two_places stay column v (Some t.within) o) t.raised_to in
      let to_child : handed p child (Split cert verdicts stay child column v, place) ≡ low ∷ [] = ap (handed_on child child) two ∙ handed-first child low high in
      let to_next : handed p (suc child) (Split cert verdicts stay child column v, place) ≡ high ∷ [] = ap (handed_on (suc child) child) two ∙ handed-second child low high in
      let l = child_place n place (Split cert verdicts stay child column v) h.here_is child t.later (omega (arith, t.both)) low to_child in
      let r = child_place n place (Split cert verdicts stay child column v) h.here_is (suc child) (omega (arith, t.later)) t.both high to_next in
      by_lt_z v (int_at x column)
      (λ g. inr (record { place = high; node = r.0; here = record { here_is = r.1; inside = (above_cut-points t.within x column v short).1 (inside, omega (arith, ints, g)); level = w.level; level_is = stays; below = w.below } }))
      (λ g. inl (record { place = low; node = l.0; here = record { here_is = l.1; inside = (below_cut-points t.within x column v short).1 (inside, g); level = w.level; level_is = stays; below = w.below } }))

  descend : (d n : ℕ) → length placed ≤ n + d → (place : Place) (node : Node) → Here n place node → SomeEnd
  descend zero n m place node h = let b : n < length placed = slice_get-below placed n (node, place) h.here_is in absurd (omega arith)
  descend (suc d) n m place Rest h = ends_here n place Rest h h.level h.level_is h.below
  descend (suc d) n m place (Leaf cert verdicts) h =
      let t = leaf_levels p (length placed) n place cert verdicts (tree.right n (Leaf cert verdicts) place h.here_is).valid in
      let w : Raised place t.0 = raised_here n place (Leaf cert verdicts) h cert verdicts t.0 t.1 in
      ends_here n place (Leaf cert verdicts) h w.level (ap (λ (o : Option (List (Option Level))). slice_index_or (unwrap_or o []) k None) t.1 ∙ w.level_is) w.below
  descend (suc d) n m place (Split cert verdicts stay child column v) h =
      let t = split_facts p (length placed) n place cert verdicts stay child column v (tree.right n (Split cert verdicts stay child column v) place h.here_is).valid in
      by_stay t (list_any (nat_eq k) stay) refl (λ b. descend d child (omega (arith, t.later)) b.place b.node b.here) (λ b. descend d (suc child) (omega (arith, t.later)) b.place b.node b.here)
    where
      by_stay : (t : SplitFacts p (length placed) n place cert verdicts stay child column v) (a : Bool) → list_any (nat_eq k) stay ≡ a → (Below child → SomeEnd) → (Below (suc child) → SomeEnd) → SomeEnd
      by_stay t true q to_low to_high = elim (below_split n place cert verdicts stay child column v h t q) [ inl b ↦ to_low b | inr b ↦ to_high b ]
      by_stay t false q to_low to_high =
          let w : Raised place t.levels = raised_here n place (Split cert verdicts stay child column v) h cert verdicts t.levels t.raised_to in
          let gone : slice_index_or (dropped stay 0 t.levels) k None ≡ Some w.level = dropped_at stay 0 t.levels k ∙ ap (λ (b : Bool). cond b None (slice_index_or t.levels k None)) (subst (λ (m : ℕ). list_any (nat_eq m) stay ≡ false) (zero_plus k) q) ∙ w.level_is in
          ends_here n place (Split cert verdicts stay child column v) h w.level (ap (λ (o : Option (List (Option Level))). slice_index_or (unwrap_or (option_map (dropped stay 0) o) []) k None) t.raised_to ∙ gone) w.below

  -- ---- the root

  slice_get-map : {X Y : Type 0} (g : X → Y) (xs : List X) (n : ℕ) (e : X) → slice_get xs n ≡ Some e → slice_get (map g xs) n ≡ Some (g e)
  slice_get-map g [] n e q = absurd (cc)
  slice_get-map g (y ∷ xs) zero e q = let u : y ≡ e = cc in ap (λ z. Some (g z)) u
  slice_get-map g (y ∷ xs) (suc n) e q = slice_get-map g xs n e q

  index-get : (xs : List (Option Level)) (n : ℕ) (e : Option Level) → slice_get xs n ≡ Some e → slice_index_or xs n None ≡ e
  index-get [] n e q = absurd (cc)
  index-get (y ∷ xs) zero e q = cc
  index-get (y ∷ xs) (suc n) e q = index-get xs n e q

  bounds-length : (ss : List Program) → ((j : ℕ) (t : Program) → slice_get ss j ≡ Some t → IsWithin p.columns p.rows t) → AllLength p.columns (map (λ (t : Program). t.bounds) ss)
  bounds-length [] h = tt
  bounds-length (t ∷ ss) h = ((h 0 t refl).shape.bounds, bounds-length ss (λ j u q. h (suc j) u q))

  pub in_root : (ss : List Program) → ((j : ℕ) (t : Program) → slice_get ss j ≡ Some t → IsWithin p.columns p.rows t) → slice_get ss k ≡ Some s → InBox (root_box ss) x
  in_root [] h q = absurd (cc)
  in_root (t ∷ ss) h q =
      InBox-hull_of p.columns t.bounds (map (λ (u : Program). u.bounds) ss) (bounds-length (t ∷ ss) h) k s.bounds x (slice_get-map (λ (u : Program). u.bounds) (t ∷ ss) k s q) f.within

  pub start-below : AtMost (start_level (root_box p.scenarios) s) (value s x)
  start-below = start-le p.columns p.rows s (root_box p.scenarios) x (record { within = limits k s found; feasible = f; inside = in_root p.scenarios limits found })

  -- every feasible point lies under some end whose level is at most its value
  pub some_end : SomeEnd
  some_end =
      let a = slice_get-some placed 0 tree.some in
      let first : root_place p ∷ [] ≡ a.0.1 ∷ [] = (tree.right 0 a.0.0 a.0.1 a.1).arrival in
      let same : root_place p ≡ a.0.1 = cc in
      let h : Here 0 (root_place p) a.0.0 = record {
        here_is = a.1 ∙ ap (λ (z : Place). Some (a.0.0, z)) (sym same);
        inside = in_root p.scenarios limits found;
        level = start_level (root_box p.scenarios) s;
        level_is = index-get (root_place p).levels k (Some (start_level (root_box p.scenarios) s)) (slice_get-map (λ (t : Program). Some (start_level (root_box p.scenarios) t)) p.scenarios k s found);
        below = start-below;
      } in
      descend (length placed) 0 (omega arith) (root_place p) a.0.0 h

-- ---- claims

-- a level that every end reaches is at most every value
pub ends-bound : (p : Problem) → AllWithin p → (placed : List (Node × Place)) → IsTree p placed → (k : ℕ) (s : Program) → slice_get p.scenarios k ≡ Some s → (l : Level) → EndsFrom p placed k l → (x : List ℤ) → Feasible s x → AtMost l (value s x)
ends-bound p limits placed tree k s found l from x f =
    let e = some_end p limits placed tree k s found x f in
    AtMost-below l e.level (value s x) (from e.n e.node e.place e.level e.here_is e.level_is) e.below

right : (s : Program) (a : Answer) → ((x : List ℤ) → Feasible s x → AtMost (claimed_level a) (value s x)) → ClaimHolds s a → RightAnswer s a
right s Infeasible h c = h
right s (Optimal x v) h c = (c, h)
right s (Limit best b) h c = (h, c)

pub Accepted-right : (p : Problem) (answers : List Answer) (nodes : List Node) → AllWithin p → Accepted p answers nodes → (k : ℕ) (s : Program) (a : Answer) → slice_get p.scenarios k ≡ Some s → slice_get answers k ≡ Some a → RightAnswer s a
Accepted-right p answers nodes limits h k s a e g =
    right s a (ends-bound p limits h.placed h.tree k s e (claimed_level a) (h.levels k a g)) (h.claims k s a e g)
