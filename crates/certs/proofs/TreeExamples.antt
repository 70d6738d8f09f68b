-- Worked examples of trees and claims, by computing.
use Rattle.std.specs.Prelude.{◌≡◌, ℕ, zero, suc, pos, negsuc, true, false, IsTrue, List, [], ◌∷◌, ◌++◌, slice_get, slice_index_or, Option, Some, None, refl}
use Rattle.std.proofs.Common.{rules, subst, sym, ◌∙◌}
use Rattle.int_model.specs.Boxes.{box_of}
use Rattle.int_model.specs.Programs.{Program}
use Rattle.scenario_changes.specs.Problems.{Problem}
use Rattle.scenario_changes.specs.declared.answer.Answer.{Answer}
use Rattle.scenario_changes.specs.declared.answer.Answer.TheVariants.{Infeasible, Optimal, Limit}
use Rattle.certs.specs.Levels.{level_le, greater_level, lesser_level, least_level, cap_level}
use Rattle.certs.specs.Trees.{Place, root_place, raised, cert_fits, arrivals, is_valid, stayers_hull, end_levels, IsRight, IsTree}
use Rattle.certs.specs.Claims.{Accepted, EndsFrom, ClaimHolds, claimed_level, bound_of, claim_of}
use Rattle.certs.specs.declared.cert.Cert.{Cert}
use Rattle.certs.specs.declared.tree.Node.{Node}
use Rattle.certs.specs.declared.tree.Node.TheVariants.{Rest, Leaf, Split}
use Rattle.certs.specs.declared.level.Level.{Level}
use Rattle.certs.specs.declared.level.Level.TheVariants.{Value, Inf}
use Rattle.certs.specs.declared.verdict.Verdict.{Verdict}
use Rattle.certs.specs.declared.verdict.Verdict.TheVariants.{Empty, Bound}
use Rattle.certs.proofs.Examples.{base, small, dear, high, root, cert, upper, of_row}

-- ---- levels

same-levels : level_le (Value (pos 3)) (Value (pos 3)) ≡ true
same-levels = refl

inf-above : level_le Inf (Value (pos 3)) ≡ false
inf-above = refl

greater-inf : greater_level (Value (pos 3)) Inf ≡ Inf
greater-inf = refl

lesser-inf : lesser_level Inf (Value (negsuc 2)) ≡ Value (negsuc 2)
lesser-inf = refl

least-of-none : least_level [] ≡ Inf
least-of-none = refl

no-cap : level_le (cap_level None) (Value (pos 3)) ≡ false
no-cap = refl

-- ---- one leaf for four scenarios

abbrev pub four : Problem
four = record { columns = 2; rows = 1; scenarios = base ∷ small ∷ dear ∷ high ∷ [] }

abbrev pub verdicts : List Verdict
verdicts = Bound 0 ∷ Bound 0 ∷ Bound 1 ∷ Empty ∷ []

four-starts : (root_place four).levels ≡ Some (Value (negsuc 14)) ∷ Some (Value (negsuc 14)) ∷ Some (Value (negsuc 20)) ∷ Some (Value (negsuc 14)) ∷ []
four-starts = refl

four-levels : raised root cert four.scenarios (root_place four).levels verdicts ≡ Some (Some (Value (negsuc 6)) ∷ Some (Value (negsuc 3)) ∷ Some (Value (negsuc 9)) ∷ Some Inf ∷ [])
four-levels = refl

-- a verdict is missing, one is too many, one isn't valid
missing : raised root cert four.scenarios (root_place four).levels (Bound 0 ∷ Bound 0 ∷ Bound 1 ∷ []) ≡ None
missing = refl

too-many : raised root cert four.scenarios (root_place four).levels (Bound 0 ∷ Bound 0 ∷ Bound 1 ∷ Empty ∷ Empty ∷ []) ≡ None
too-many = refl

not-valid : raised root cert four.scenarios (root_place four).levels (Empty ∷ Bound 0 ∷ Bound 1 ∷ Empty ∷ []) ≡ None
not-valid = refl

-- a verdict never lowers a level: its own bound is -15
no-lower : raised root (record { steps = []; vectors = record { scale = 1; entries = [] } ∷ [] }) (base ∷ []) (Some (Value (negsuc 6)) ∷ []) (Bound 0 ∷ []) ≡ Some (Some (Value (negsuc 6)) ∷ [])
no-lower = refl

-- a row and a column that aren't the problem's
fits : cert_fits four cert ≡ true
fits = refl

column-past : cert_fits four (record { steps = upper 2 ∷ []; vectors = [] }) ≡ false
column-past = refl

row-past : cert_fits four (record { steps = []; vectors = record { scale = 1; entries = (1, negsuc 0) ∷ [] } ∷ [] }) ≡ false
row-past = refl

abbrev pub leaf : List (Node × Place)
leaf = (Leaf cert verdicts, root_place four) ∷ []

abbrev pub four_answers : List Answer
four_answers = Optimal (pos 1 ∷ pos 2 ∷ []) (negsuc 6) ∷ Optimal (pos 0 ∷ pos 2 ∷ []) (negsuc 3) ∷ Optimal (pos 2 ∷ pos 0 ∷ []) (negsuc 9) ∷ Infeasible ∷ []

same_pair : {X : Type 0} {a b : X} → ◌≡◌ {A = Option X} (Some a) (Some b) → a ≡ b
same_pair e = cc

pub leaf-tree : IsTree four leaf
leaf-tree = record { some = search rules; right = right }
  where
    right : (n : ℕ) (node : Node) (place : Place) → slice_get leaf n ≡ Some (node, place) → IsRight four leaf n node place
    right zero node place e = subst (λ (z : Node × Place). IsRight four leaf 0 z.0 z.1) (same_pair e) (record { arrival = refl; valid = refl })
    right (suc n) node place e = absurd (cc)

-- ---- a split: the second scenario ends at the first node, and the first goes on to two children

abbrev pub two : Problem
two = record { columns = 2; rows = 1; scenarios = base ∷ small ∷ [] }

abbrev pub split : Node
split = Split cert (Bound 0 ∷ Bound 0 ∷ []) (0 ∷ []) 1 0 (pos 0)

-- the stayer's replay alone, though the other scenario's is smaller
stayers : stayers_hull two root cert (0 ∷ []) ≡ Some (box_of (pos 0 ∷ pos 0 ∷ []) (pos 2 ∷ pos 3 ∷ []))
stayers = refl

no-stayers : stayers_hull two root cert [] ≡ None
no-stayers = refl

abbrev pub left : Place
left = record { box = box_of (pos 0 ∷ pos 0 ∷ []) (pos 0 ∷ pos 3 ∷ []); levels = Some (Value (negsuc 6)) ∷ None ∷ [] }

abbrev pub right : Place
right = record { box = box_of (pos 1 ∷ pos 0 ∷ []) (pos 2 ∷ pos 3 ∷ []); levels = Some (Value (negsuc 6)) ∷ None ∷ [] }

abbrev pub branches : List (Node × Place)
branches = (split, root_place two) ∷ (Rest, left) ∷ (Leaf cert (Bound 0 ∷ []), right) ∷ []

left-arrival : arrivals two branches 1 ≡ left ∷ []
left-arrival = refl

right-arrival : arrivals two branches 2 ≡ right ∷ []
right-arrival = refl

-- a node that no split has as a child
stray-arrival : arrivals two (branches ++ (Rest, left) ∷ []) 3 ≡ []
stray-arrival = refl

split-ends : end_levels two (root_place two) split ≡ None ∷ Some (Value (negsuc 3)) ∷ []
split-ends = refl

-- the greatest number of the column isn't below itself, and a child comes after its parent
split-past : is_valid two 3 0 (root_place two) (Split cert (Bound 0 ∷ Bound 0 ∷ []) (0 ∷ []) 1 0 (pos 2)) ≡ false
split-past = refl

child-before : is_valid two 3 1 (root_place two) split ≡ false
child-before = refl

child-missing : is_valid two 2 0 (root_place two) split ≡ false
child-missing = refl

pub branches-tree : IsTree two branches
branches-tree = record { some = search rules; right = each }
  where
    each : (n : ℕ) (node : Node) (place : Place) → slice_get branches n ≡ Some (node, place) → IsRight two branches n node place
    each zero node place e = subst (λ (z : Node × Place). IsRight two branches 0 z.0 z.1) (same_pair e) (record { arrival = refl; valid = refl })
    each (suc zero) node place e = subst (λ (z : Node × Place). IsRight two branches 1 z.0 z.1) (same_pair e) (record { arrival = refl; valid = refl })
    each (suc (suc zero)) node place e = subst (λ (z : Node × Place). IsRight two branches 2 z.0 z.1) (same_pair e) (record { arrival = refl; valid = refl })
    each (suc (suc (suc n))) node place e = absurd (cc)

base-bound : bound_of two branches 0 ≡ Value (negsuc 6)
base-bound = refl

small-bound : bound_of two branches 1 ≡ Value (negsuc 3)
small-bound = refl

-- ---- a limit: nothing is recorded, and the bound is where the search began

abbrev pub rest : List (Node × Place)
rest = (Rest, root_place two) ∷ []

rest-bound : bound_of two rest 0 ≡ Value (negsuc 14)
rest-bound = refl

no-point : claim_of None (Value (negsuc 14)) ≡ Limit None (negsuc 14)
no-point = refl

limit-claim : claim_of (Some (pos 1 ∷ pos 2 ∷ [], negsuc 6)) (Value (negsuc 14)) ≡ Limit (Some (pos 1 ∷ pos 2 ∷ [], negsuc 6)) (negsuc 14)
limit-claim = refl

-- a bound that reaches the value
optimal-claim : claim_of (Some (pos 1 ∷ pos 2 ∷ [], negsuc 6)) (Value (negsuc 6)) ≡ Optimal (pos 1 ∷ pos 2 ∷ []) (negsuc 6)
optimal-claim = refl

-- Inf without a point
infeasible-claim : claim_of None Inf ≡ Infeasible
infeasible-claim = refl

-- a bound above that of the end isn't shown
limit-past : EndsFrom two rest 0 (Value (negsuc 13)) → ⊥
limit-past h = let e : IsTrue (level_le (Value (negsuc 13)) (Value (negsuc 14))) = h 0 Rest (root_place two) (Value (negsuc 14)) refl refl in absurd (cc)

-- ---- accepted claims

from_leaf : (verdicts : List Verdict) (cert : Cert) (k : ℕ) (least : Level) → ((l : Level) → slice_index_or (end_levels four (root_place four) (Leaf cert verdicts)) k None ≡ Some l → IsTrue (level_le least l)) → EndsFrom four ((Leaf cert verdicts, root_place four) ∷ []) k least
from_leaf verdicts cert k least h zero node place l e g =
    h l (subst (λ (z : Node × Place). slice_index_or (end_levels four z.1 z.0) k None ≡ Some l) (sym (same_pair e)) g)
from_leaf verdicts cert k least h (suc n) node place l e g = absurd (cc)

level_at : (k : ℕ) (own : Level) → slice_index_or (end_levels four (root_place four) (Leaf cert verdicts)) k None ≡ Some own → (least : Level) → IsTrue (level_le least own) → EndsFrom four leaf k least
level_at k own is least t = from_leaf verdicts cert k least (λ l g. subst (λ (b : Level). IsTrue (level_le least b)) (same_pair (sym is ∙ g)) t)

pub leaf-accepted : Accepted four four_answers (Leaf cert verdicts ∷ [])
leaf-accepted = record { placed = leaf; nodes_are = refl; tree = leaf-tree; count = refl; levels = levels; claims = claims }
  where
    levels : (k : ℕ) (a : Answer) → slice_get four_answers k ≡ Some a → EndsFrom four leaf k (claimed_level a)
    levels zero a e = subst (λ (b : Answer). EndsFrom four leaf 0 (claimed_level b)) (same_pair e) (level_at 0 (Value (negsuc 6)) refl (Value (negsuc 6)) refl)
    levels (suc zero) a e = subst (λ (b : Answer). EndsFrom four leaf 1 (claimed_level b)) (same_pair e) (level_at 1 (Value (negsuc 3)) refl (Value (negsuc 3)) refl)
    levels (suc (suc zero)) a e = subst (λ (b : Answer). EndsFrom four leaf 2 (claimed_level b)) (same_pair e) (level_at 2 (Value (negsuc 9)) refl (Value (negsuc 9)) refl)
    levels (suc (suc (suc zero))) a e = subst (λ (b : Answer). EndsFrom four leaf 3 (claimed_level b)) (same_pair e) (level_at 3 Inf refl Inf refl)
    levels (suc (suc (suc (suc k)))) a e = absurd (cc)

    base_claim : ClaimHolds base (Optimal (pos 1 ∷ pos 2 ∷ []) (negsuc 6))
    base_claim = search rules

    small_claim : ClaimHolds small (Optimal (pos 0 ∷ pos 2 ∷ []) (negsuc 3))
    small_claim = search rules

    dear_claim : ClaimHolds dear (Optimal (pos 2 ∷ pos 0 ∷ []) (negsuc 9))
    dear_claim = search rules

    claims : (k : ℕ) (s : Program) (a : Answer) → slice_get four.scenarios k ≡ Some s → slice_get four_answers k ≡ Some a → ClaimHolds s a
    claims zero s a e g = subst (λ (t : Program). ClaimHolds t a) (same_pair e) (subst (λ (b : Answer). ClaimHolds base b) (same_pair g) base_claim)
    claims (suc zero) s a e g = subst (λ (t : Program). ClaimHolds t a) (same_pair e) (subst (λ (b : Answer). ClaimHolds small b) (same_pair g) small_claim)
    claims (suc (suc zero)) s a e g = subst (λ (t : Program). ClaimHolds t a) (same_pair e) (subst (λ (b : Answer). ClaimHolds dear b) (same_pair g) dear_claim)
    claims (suc (suc (suc zero))) s a e g = subst (λ (b : Answer). ClaimHolds s b) (same_pair g) tt
    claims (suc (suc (suc (suc k)))) s a e g = absurd (cc)

-- with a multiplier of -1 in place of -2 the third scenario's end has the level -13, below the claimed -10
abbrev pub weaker : Cert
weaker = record { steps = upper 0 ∷ upper 1 ∷ []; vectors = of_row 2 (negsuc 2) ∷ of_row 1 (negsuc 0) ∷ [] }

weaker-level : end_levels four (root_place four) (Leaf weaker verdicts) ≡ Some (Value (negsuc 6)) ∷ Some (Value (negsuc 3)) ∷ Some (Value (negsuc 12)) ∷ Some Inf ∷ []
weaker-level = refl

weaker-refused : EndsFrom four ((Leaf weaker verdicts, root_place four) ∷ []) 2 (Value (negsuc 9)) → ⊥
weaker-refused h = let e : IsTrue (level_le (Value (negsuc 9)) (Value (negsuc 12))) = h 0 (Leaf weaker verdicts) (root_place four) (Value (negsuc 12)) refl refl in absurd (cc)
