-- What is taken back of a dive.
use Rattle.std.proofs.Common.{◌≡◌, ◌∙◌, ap, sym, refl, ℕ, zero, suc, ℤ, List, [], ◌∷◌, ◌++◌, length, append_assoc, Bool, true, false, subst}
use Rattle.std.specs.Prelude.{slice_set, Result, Ok, Err, OnOk}
use Rattle.std.specs.declared.alloc.AllocError.{AllocError}
use Rattle.std.proofs.lemmas.List.{append-nil}
use Rattle.int_model.specs.Boxes.{Box, Interval, interval_at}
use Rattle.tighten.specs.declared.engine.Change.{Change}
use Rattle.tighten.specs.declared.engine.Engine.{Engine}
use Rattle.tighten.specs.Engines.{box_in, restored, Follows, Moves}
use Rattle.dive.specs.Dives.{IsPart}
use Rattle.dive.specs.Divers.{IsTightenedFrom, IsTried}
use Rattle.dive.proofs.PartLemmas.{IsIn, part-same, part-set, part-trans}

set-back : (b : Box) (j : ℕ) (i : Interval) → slice_set (slice_set b j i) j (record { low = (interval_at b j).low; high = (interval_at b j).high }) ≡ b
set-back [] j i = refl
set-back (k ∷ b) zero i = refl
set-back (k ∷ b) (suc j) i = ap (λ (c : Box). k ∷ c) (set-back b j i)

restored-more : (changes more : List Change) (box : Box) → restored (changes ++ more) box ≡ restored changes (restored more box)
restored-more [] more box = refl
restored-more (c ∷ changes) more box = ap (λ (b : Box). slice_set b c.column (record { low = c.low; high = c.high })) (restored-more changes more box)

-- a change of one interval, and what follows it
pub follows-move : (j : ℕ) (low high : ℤ) (before now : Engine) → Moves j low high before now → Follows before now
follows-move j low high before now m = record {
  added = record { column = j; low = (interval_at (box_in before) j).low; high = (interval_at (box_in before) j).high } ∷ [];
  trail = m.trail;
  back = ap (λ (b : Box). slice_set b j (record { low = (interval_at (box_in before) j).low; high = (interval_at (box_in before) j).high })) m.bounds ∙ set-back (box_in before) j (record { low = low; high = high });
}

pub follows-more : (first next last : Engine) → Follows first next → Follows next last → Follows first last
follows-more first next last f g = record {
  added = f.added ++ g.added;
  trail = g.trail ∙ ap (λ (l : List Change). l ++ g.added) f.trail ∙ append_assoc first.trail.items f.added g.added;
  back = restored-more f.added g.added (box_in last) ∙ ap (restored f.added) g.back ∙ f.back;
}

follows-none : (e : Engine) → Follows e e
follows-none e = record { added = []; trail = sym (append-nil e.trail.items); back = refl }

-- ---- tries

-- tightening after a box was taken
pub begun-part : (mark : ℕ) (start now : Engine) (bounds : Box) (r : Result Bool AllocError) → box_in start ≡ bounds → mark ≡ length start.trail.items → IsTightenedFrom mark start r now → OnOk r (IsPart (box_in now) bounds)
begun-part mark start now bounds (Ok true) e at t = subst (IsPart (box_in now)) e t
begun-part mark start now bounds (Ok false) e at t = subst (λ (b : Box). IsPart b bounds) (sym (t start (sym at) (follows-none start) ∙ e)) (part-same bounds)
begun-part mark start now bounds (Err x) e at t = tt

-- tightening after one interval was changed
pub moved-tried : (j : ℕ) (low high : ℤ) (mark : ℕ) (start mid now : Engine) (r : Result Bool AllocError) → IsIn (record { low = low; high = high }) (interval_at (box_in start) j) → Moves j low high start mid → mark ≡ length start.trail.items → IsTightenedFrom mark mid r now → IsTried (box_in start) r (box_in now)
moved-tried j low high mark start mid now (Ok true) inside m at t = part-trans (box_in now) (box_in mid) (box_in start) t (subst (λ (b : Box). IsPart b (box_in start)) (sym m.bounds) (part-set (box_in start) j (record { low = low; high = high }) inside))
moved-tried j low high mark start mid now (Ok false) inside m at t = t start (sym at) (follows-move j low high start mid m)
moved-tried j low high mark start mid now (Err x) inside m at t = tt

pub tried-part : (before now : Box) (b : Bool) → IsTried before (Ok b) now → IsPart now before
tried-part before now true t = t
tried-part before now false t = subst (λ (c : Box). IsPart c before) (sym t) (part-same before)

pub tried-more : (first before now : Box) (r : Result Bool AllocError) → IsPart before first → IsTried before r now → OnOk r (IsPart now first)
tried-more first before now (Ok b) p t = part-trans now before first (tried-part before now b t) p
tried-more first before now (Err x) p t = tt
