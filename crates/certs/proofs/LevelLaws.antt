-- A verdict's level is at most the value of each feasible point of the box.
use Rattle.std.specs.Prelude.{◌≡◌, ℕ, ◌<◌, ℤ, pos, ◌<ℤ◌, ◌≤ℤ◌, List, [], slice_get, Bool, true, false, ◌&&◌, cond, nat_eq, nat_lt, int_lt, Option, Some, None, IsSomeAnd, map, refl}
use Rattle.std.proofs.Common.{arith, ap, sym, subst}
use Rattle.std.proofs.lemmas.Bool.Decides.{nat_tests}
use Rattle.std.proofs.lemmas.Int.{ints}
use Rattle.std.proofs.lemmas.Option.{cond_some, option_and_then_some}
use Rattle.int_model.specs.Boxes.{Interval, Box, InBox, is_empty, is_single, meet}
use Rattle.int_model.specs.Programs.{Program, value}
use Rattle.int_model.specs.RowSums.{row_misses}
use Rattle.int_model.proofs.BoxLaws.{tells-points, InBox-meet, InBox-not_empty}
use Rattle.int_model.proofs.RowSumLaws.{row_misses-none}
use Rattle.tighten.specs.Replay.{replay}
use Rattle.tighten.proofs.ReplayLaws.{replay-keeps}
use Rattle.dual_bounds.specs.Vectors.{Multipliers, program_sum, program_bound}
use Rattle.dual_bounds.specs.Laws.{IsFeasibleIn}
use Rattle.dual_bounds.proofs.VectorLaws.{bound-safe, positive-none}
use Rattle.certs.specs.Levels.{AtMost}
use Rattle.certs.specs.Laws.{IsPointIn}
use Rattle.certs.specs.Verdicts.{level_on, judged, start_level}
use Rattle.certs.specs.declared.cert.Cert.{Cert}
use Rattle.certs.specs.declared.level.Level.{Level}
use Rattle.certs.specs.declared.level.Level.TheVariants.{Value, Inf}
use Rattle.certs.specs.declared.verdict.Verdict.{Verdict}
use Rattle.certs.specs.declared.verdict.Verdict.TheVariants.{Empty, Misses, Farkas, Bound, Point}

-- both parts of a test
and_parts : (a b : Bool) → a && b ≡ true → (a ≡ true) × (b ≡ true)
and_parts true true e = (refl, refl)
and_parts true false e = absurd (cc)
and_parts false b e = absurd (cc)

-- the same point in a part of the box
in_part : (columns rows : ℕ) (p : Program) (box part : Box) (x : List ℤ) → IsPointIn columns rows p box x → InBox part x → IsFeasibleIn columns rows p part x
in_part columns rows p box part x f h = record { shape = f.within.shape; feasible = f.feasible; inside = h }

same_level : {a b : Level} → Some a ≡ Some b → a ≡ b
same_level e = cc

level_on-le : (columns rows : ℕ) (p : Program) (box : Box) (x : List ℤ) (vectors : List Multipliers) (verdict : Verdict) (o : Option Box) → IsPointIn columns rows p box x → IsSomeAnd o (λ t. InBox t x) → (l : Level) → level_on p vectors verdict o ≡ Some l → AtMost l (value p x)
level_on-le columns rows p box x vectors verdict None f h l e = absurd h
level_on-le columns rows p box x vectors Empty (Some part) f h l e = absurd (cc)
level_on-le columns rows p box x vectors (Misses i) (Some part) f h l e =
    let m : row_misses p i part ≡ false = row_misses-none p i part x f.feasible h in absurd (grind (arith, e, m))
level_on-le columns rows p box x vectors (Farkas k) (Some part) f h l e =
    option_and_then_some (λ (v : Multipliers). cond (nat_eq v.scale 0 && int_lt (pos 0) (program_sum p v part)) (Some Inf) None) (slice_get vectors k) l e (λ v found picked.
    let c = cond_some (nat_eq v.scale 0 && int_lt (pos 0) (program_sum p v part)) Inf l picked in
    let t = and_parts (nat_eq v.scale 0) (int_lt (pos 0) (program_sum p v part)) c.0 in
    let zero_scale : v.scale ≡ 0 = grind (arith, nat_tests, t.0) in
    let above : pos 0 <ℤ program_sum p v part = omega (arith, ints, t.1) in
    absurd (positive-none columns rows p v part x zero_scale above (in_part columns rows p box part x f h)))
level_on-le columns rows p box x vectors (Bound k) (Some part) f h l e =
    option_and_then_some (λ (v : Multipliers). cond (nat_lt 0 v.scale) (Some (Value (program_bound p v part))) None) (slice_get vectors k) l e (λ v found picked.
    let c = cond_some (nat_lt 0 v.scale) (Value (program_bound p v part)) l picked in
    let positive : 0 < v.scale = grind (arith, nat_tests, c.0) in
    subst (λ (m : Level). AtMost m (value p x)) c.1 (bound-safe columns rows p v part x f.within.limits positive (in_part columns rows p box part x f h)))
level_on-le columns rows p box x vectors Point (Some part) f h l e =
    let c = cond_some (is_single part) (Value (value p (map (λ (i : Interval). i.low) part))) l e in
    let only : x ≡ map (λ (i : Interval). i.low) part = ((tells-points part).one c.0 x).0 h in
    let same : value p (map (λ (i : Interval). i.low) part) ≡ value p x = ap (value p) (sym only) in
    subst (λ (m : Level). AtMost m (value p x)) c.1 (omega (arith, ints, same))

pub judged-le : (columns rows : ℕ) (p : Program) (box : Box) (cert : Cert) (verdict : Verdict) (l : Level) (x : List ℤ) → IsPointIn columns rows p box x → judged p box cert verdict ≡ Some l → AtMost l (value p x)
judged-le columns rows p box cert verdict l x f e =
    level_on-le columns rows p box x cert.vectors verdict (replay p cert.steps box) f (replay-keeps p cert.steps box x f.feasible f.inside) l e

abbrev plain : Multipliers
plain = record { scale = 1; entries = [] }

pub start-le : (columns rows : ℕ) (p : Program) (root : Box) (x : List ℤ) → IsPointIn columns rows p root x → AtMost (start_level root p) (value p x)
start-le columns rows p root x f =
    let part : Box = meet root p.bounds in
    let h : InBox part x = InBox-meet root p.bounds x f.inside f.feasible.within in
    by (is_empty part) (InBox-not_empty part x h) (bound-safe columns rows p plain part x f.within.limits (omega arith) (in_part columns rows p root part x f h))
  where
    by : (b : Bool) → b ≡ false → program_bound p plain (meet root p.bounds) ≤ℤ value p x → AtMost (cond b Inf (Value (program_bound p plain (meet root p.bounds)))) (value p x)
    by true e h = absurd (cc)
    by false e h = h
