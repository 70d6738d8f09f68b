-- Worked examples of settlements and of coverage, by computing: the tree of two scenarios of `certs`, in which the second
-- one ends at the root and the first one goes on to two children.
use Rattle.std.specs.Prelude.{◌≡◌, ℤ, slice_index_or, zero, suc, pos, negsuc, false, IsTrue, List, [], ◌∷◌, Option, Some, None, refl}
use Rattle.std.proofs.Common.{rules, ap, subst}
use Rattle.int_model.specs.Boxes.{box_of, interval_at}
use Rattle.certs.specs.Levels.{level_le}
use Rattle.certs.specs.Trees.{Place, root_place, is_valid, end_levels}
use Rattle.certs.specs.declared.level.Level.{Level}
use Rattle.certs.specs.declared.level.Level.TheVariants.{Value, Inf}
use Rattle.certs.specs.declared.tree.Node.TheVariants.{Rest, Leaf}
use Rattle.certs.specs.declared.verdict.Verdict.{Verdict}
use Rattle.certs.specs.declared.verdict.Verdict.TheVariants.{Bound}
use Rattle.certs.proofs.Examples.{root, cert}
use Rattle.certs.proofs.TreeExamples.{two, split, left, right}
use Rattle.bb_core.specs.Settlements.{Work, Outcome, Close, Branch, Settlement, place_of, recorded, ChildrenAre, IsLawful}
use Rattle.certs.specs.Trees.{of_live}
use Rattle.bb_core.specs.Coverage.{Slot, Closed, Open, Held, ReachesCaps, MaySettle, LiesInWaiting, marked_as, root_slot, settled}

-- ---- the place of a work

-- a level of a scenario that isn't live counts for nothing
live-levels : of_live (1 ∷ []) 0 (Value (pos 3) ∷ Value (pos 4) ∷ []) ≡ None ∷ Some (Value (pos 4)) ∷ []
live-levels = refl

abbrev pub work : Work
work = record { node = 0; bounds = root; live = 0 ∷ 1 ∷ []; levels = Value (negsuc 14) ∷ Value (negsuc 14) ∷ [] }

at-root : place_of work ≡ root_place two
at-root = refl

-- ---- a lawful settlement

abbrev pub verdicts : List Verdict
verdicts = Bound 0 ∷ Bound 0 ∷ []

-- the second scenario doesn't stay: its entries are any
abbrev pub branch : Outcome
branch = Branch (0 ∷ []) 0 (pos 0) left.box right.box (Value (negsuc 6) ∷ Value (pos 9) ∷ []) (Value (negsuc 6) ∷ Inf ∷ [])

abbrev pub settlement : Settlement
settlement = record { work = work; cert = cert; verdicts = verdicts; outcome = branch }

-- the first child's number is the number of nodes
records : recorded 1 cert verdicts branch ≡ split
records = refl

pub lawful : IsLawful two 1 settlement
lawful = record { valid = refl; children_are = refl }

closing : IsLawful two 1 (record settlement { outcome = Close })
closing = record { valid = refl; children_are = tt }

-- the node stands before its children
later-node : is_valid two 3 1 (place_of work) (recorded 1 cert verdicts branch) ≡ false
later-node = refl

some_same : {X : Type 0} {a b : X} → ◌≡◌ {A = Option X} (Some a) (Some b) → a ≡ b
some_same e = cc

-- the end of the first child's column 0, and its level of the first scenario
first_high : Option (Place × Place) → ℤ
first_high None = pos 7
first_high (Some (a, b)) = (interval_at a.box 0).high

first_level : Option (Place × Place) → Option Level
first_level None = None
first_level (Some (a, b)) = slice_index_or a.levels 0 None

-- both children with the points at the cut
overlapping : ChildrenAre two (place_of work) cert verdicts (Branch (0 ∷ []) 0 (pos 0) (box_of (pos 0 ∷ pos 0 ∷ []) (pos 1 ∷ pos 3 ∷ [])) right.box (Value (negsuc 6) ∷ Inf ∷ []) (Value (negsuc 6) ∷ Inf ∷ [])) → ⊥
unfolding first_high
overlapping h = let e : pos 0 ≡ pos 1 = ap first_high h in absurd (cc)

-- a child with the level of its parent
not-raised : ChildrenAre two (place_of work) cert verdicts (Branch (0 ∷ []) 0 (pos 0) left.box right.box (Value (negsuc 14) ∷ Inf ∷ []) (Value (negsuc 6) ∷ Inf ∷ [])) → ⊥
unfolding first_level
not-raised h = let e : Some (Value (negsuc 6)) ≡ Some (Value (negsuc 14)) = ap first_level h in absurd (cc)

-- ---- caps

-- the second scenario's raised level is -4
dropped-level : end_levels two (place_of work) (recorded 1 cert verdicts branch) ≡ None ∷ Some (Value (negsuc 3)) ∷ []
dropped-level = refl

at-cap : ReachesCaps (Inf ∷ Value (negsuc 3) ∷ []) (None ∷ Some (Value (negsuc 3)) ∷ [])
at-cap zero l e = absurd (cc)
at-cap (suc zero) l e = subst (λ (b : Level). IsTrue (level_le (Value (negsuc 3)) b)) (some_same e) refl
at-cap (suc (suc k)) l e = absurd (cc)

-- one below its cap, and below a cap that isn't there
below-cap : ReachesCaps (Inf ∷ Value (negsuc 2) ∷ []) (None ∷ Some (Value (negsuc 3)) ∷ []) → ⊥
below-cap h = let e : IsTrue (level_le (Value (negsuc 2)) (Value (negsuc 3))) = h 1 (Value (negsuc 3)) refl in absurd (cc)

no-cap : ReachesCaps (Inf ∷ Inf ∷ []) (None ∷ Some (Value (negsuc 3)) ∷ []) → ⊥
no-cap h = let e : IsTrue (level_le Inf (Value (negsuc 3))) = h 1 (Value (negsuc 3)) refl in absurd (cc)

-- ---- what is settled

abbrev pub held : List Slot
held = marked_as (root_slot two ∷ []) 0 (Held 7)

pub may_settle : MaySettle two held (Inf ∷ Value (negsuc 3) ∷ []) (Held 7) settlement
may_settle = record {
  held = record { slot = record (root_slot two) { mark = Held 7 }; found = refl; marked = refl };
  its_work = refl;
  lawful = lawful;
  closes = at-cap;
}

after : settled held settlement ≡ record { node = split; place = root_place two; mark = Closed } ∷ record { node = Rest; place = left; mark = Open } ∷ record { node = Rest; place = right; mark = Open } ∷ []
after = refl

after-closing : settled held (record settlement { outcome = Close }) ≡ record { node = Leaf cert verdicts; place = root_place two; mark = Closed } ∷ []
after-closing = refl

-- a point of a held node's box waits
waits : LiesInWaiting held 0 (pos 1 ∷ pos 2 ∷ [])
waits = record { n = 0; slot = record (root_slot two) { mark = Held 7 }; level = Value (negsuc 14); found = refl; unsettled = λ e. absurd (cc); live = refl; inside = search rules }
