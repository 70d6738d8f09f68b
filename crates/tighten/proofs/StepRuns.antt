-- Steps that each narrow the box, and the changes of an engine.
use Rattle.std.specs.Prelude.{◌≡◌, ◌≢◌, ℕ, zero, suc, ◌≤◌, Bool, true, List, [], ◌∷◌, ◌++◌, length, take, slice_get, slice_set, Option, Some, None, option_and_then, refl}
use Rattle.std.specs.List.{All}
use Rattle.std.proofs.Common.{arith, ap, sym, ◌∙◌, subst, append_assoc}
use Rattle.std.proofs.lemmas.List.{append-nil, length-append, take_all}
use Rattle.std.proofs.lemmas.List.Elements.{All-nil, All-append}
use Rattle.int_model.specs.Boxes.{Box}
use Rattle.int_model.specs.Programs.{Terms}
use Rattle.int_model.specs.Models.{IntegerModel}
use Rattle.int_model.specs.declared.model.Ends.{Ends}
use Rattle.tighten.specs.declared.engine.Change.{Change}
use Rattle.tighten.specs.declared.engine.Engine.{Engine}
use Rattle.tighten.specs.declared.step.Step.{Step}
use Rattle.tighten.specs.Cuts.{interval}
use Rattle.tighten.specs.Engines.{box_in, restored, EachNarrows, NarrowsAt, Follows, Stays, Tightens}
use Rattle.tighten.specs.Replay.{tightened, tightened_by}
use Rattle.tighten.specs.Steps.{IsStep, rows_of}
use Rattle.tighten.proofs.StepLemmas.{more_of, same_box}

-- ---- one list of steps after another

pub tightened_by-append : (rows : List Terms) (ends : List Ends) (steps more : List Step) (box t : Box) → tightened_by rows ends steps box ≡ Some t → tightened_by rows ends (steps ++ more) box ≡ tightened_by rows ends more t
tightened_by-append rows ends [] more box t e = ap (tightened_by rows ends more) (same_box e)
tightened_by-append rows ends (step ∷ steps) more box t e =
    more_of rows ends steps (steps ++ more) (tightened rows ends step box) (tightened_by rows ends more t) t (λ b f. tightened_by-append rows ends steps more b t f) e

narrows_tail : (rows : List Terms) (ends : List Ends) (step : Step) (steps : List Step) (box t : Box) → EachNarrows rows ends (step ∷ steps) box → tightened rows ends step box ≡ Some t → EachNarrows rows ends steps t
narrows_tail rows ends step steps box t h e k other g =
    subst (λ (o : Option Box). NarrowsAt rows ends other (option_and_then (tightened_by rows ends (take k steps)) o)) e (h (suc k) other g)

narrows_cons : (rows : List Terms) (ends : List Ends) (step : Step) (steps : List Step) (box t : Box) → tightened rows ends step box ≢ Some box → tightened rows ends step box ≡ Some t → EachNarrows rows ends steps t → EachNarrows rows ends (step ∷ steps) box
narrows_cons rows ends step steps box t n e h zero other g = subst (λ (s : Step). tightened rows ends s box ≢ Some box) (same_step g) n
  where
    same_step : {a b : Step} → Some a ≡ Some b → a ≡ b
    same_step e = cc
narrows_cons rows ends step steps box t n e h (suc k) other g =
    subst (λ (o : Option Box). NarrowsAt rows ends other (option_and_then (tightened_by rows ends (take k steps)) o)) (sym e) (h k other g)

pub narrows-append : (rows : List Terms) (ends : List Ends) (steps more : List Step) (box t : Box) → EachNarrows rows ends steps box → tightened_by rows ends steps box ≡ Some t → EachNarrows rows ends more t → EachNarrows rows ends (steps ++ more) box
narrows-append rows ends [] more box t h e m = subst (EachNarrows rows ends more) (sym (same_box e)) m
narrows-append rows ends (step ∷ steps) more box t h e m = by (λ b f g. narrows-append rows ends steps more b t f g m) (tightened rows ends step box) refl e
  where
    by : ((b : Box) → EachNarrows rows ends steps b → tightened_by rows ends steps b ≡ Some t → EachNarrows rows ends (steps ++ more) b) → (o : Option Box) → tightened rows ends step box ≡ o → option_and_then (tightened_by rows ends steps) o ≡ Some t → EachNarrows rows ends ((step ∷ steps) ++ more) box
    by k None f g = absurd (cc)
    by k (Some b) f g = narrows_cons rows ends step (steps ++ more) box b (h zero step refl) f (k b (narrows_tail rows ends step steps box b h f) g)

-- the first steps of a list
record IsFirst (steps : List Step) (n k : ℕ) (step : Step) : Type 0 where
  is_step : slice_get steps k ≡ Some step
  before : take k (take n steps) ≡ take k steps

first-of : (steps : List Step) (n k : ℕ) (step : Step) → slice_get (take n steps) k ≡ Some step → IsFirst steps n k step
first-of [] zero k step g = absurd (cc)
first-of [] (suc n) k step g = absurd (cc)
first-of (s ∷ steps) zero k step g = absurd (cc)
first-of (s ∷ steps) (suc n) zero step g = record { is_step = g; before = refl }
first-of (s ∷ steps) (suc n) (suc k) step g =
    let more = first-of steps n k step g in record { is_step = more.is_step; before = ap (λ (t : List Step). s ∷ t) more.before }

pub narrows-take : (rows : List Terms) (ends : List Ends) (steps : List Step) (n : ℕ) (box : Box) → EachNarrows rows ends steps box → EachNarrows rows ends (take n steps) box
narrows-take rows ends steps n box h k step g =
    let first = first-of steps n k step g in
    subst (λ (s : List Step). NarrowsAt rows ends step (tightened_by rows ends s box)) (sym first.before) (h k step first.is_step)

pub narrows-one : (rows : List Terms) (ends : List Ends) (step : Step) (box : Box) → tightened rows ends step box ≢ Some box → EachNarrows rows ends (step ∷ []) box
narrows-one rows ends step box n zero other g = subst (λ (s : Step). tightened rows ends s box ≢ Some box) (same_step g) n
  where
    same_step : {a b : Step} → Some a ≡ Some b → a ≡ b
    same_step e = cc
narrows-one rows ends step box n (suc k) other g = absurd (cc)

-- where no step narrows, none is taken
pub settled-none : (m : IntegerModel) (ends : List Ends) (steps : List Step) (box : Box) → EachNarrows (rows_of m) ends steps box → All (IsStep m) steps → ((step : Step) → IsStep m step → tightened (rows_of m) ends step box ≡ Some box) → steps ≡ []
settled-none m ends [] box h all none = refl
settled-none m ends (step ∷ steps) box h all none = absurd (h zero step refl (none step (all zero step (omega arith))))

-- ---- lists that are cut at a length

pub take-again : {A : Type 0} (n : ℕ) (xs ys : List A) → take n (take n xs ++ ys) ≡ take n (xs ++ ys)
take-again zero xs ys = refl
take-again (suc n) [] ys = refl
take-again (suc n) (x ∷ xs) ys = ap (λ zs. x ∷ zs) (take-again n xs ys)

pub take-none : {A : Type 0} (xs : List A) (n : ℕ) → length xs ≤ n → xs ≡ take n (xs ++ [])
take-none xs n h = sym (take_all n xs h) ∙ ap (take n) (sym (append-nil xs))

-- ---- changes

pub restored-append : (changes more : List Change) (box : Box) → restored (changes ++ more) box ≡ restored changes (restored more box)
restored-append [] more box = refl
restored-append (c ∷ changes) more box = ap (λ (b : Box). slice_set b c.column (interval c.low c.high)) (restored-append changes more box)

abbrev pub follows-same : (before now : Engine) → box_in now ≡ box_in before → now.trail.items ≡ before.trail.items → Follows before now
follows-same before now e f = record { added = []; trail = f ∙ sym (append-nil before.trail.items); back = e }

abbrev pub follows-trans : (first next last : Engine) → Follows first next → Follows next last → Follows first last
follows-trans first next last h k = record {
  added = h.added ++ k.added;
  trail = k.trail ∙ ap (λ (t : List Change). t ++ k.added) h.trail ∙ append_assoc first.trail.items h.added k.added;
  back = restored-append h.added k.added (box_in last) ∙ ap (restored h.added) k.back ∙ h.back;
}

-- ---- steps that an engine takes

pub tightens-none : (m : IntegerModel) (ends : List Ends) (before now : Engine) → length before.steps.items ≤ 128 → Stays before now → Tightens m ends before true now
tightens-none m ends before now few s = record {
  taken = [];
  are_steps = All-nil (IsStep m);
  narrows = λ k step g. absurd (no_step k step g);
  leads = ap (λ (b : Box). Some b) (sym s.bounds);
  kept = s.steps ∙ take-none before.steps.items 128 few;
  follows = follows-same before now s.bounds s.trail;
  count = omega arith;
}
  where
    no_step : (k : ℕ) (step : Step) → slice_get [] k ≡ Some step → ⊥
    no_step k step g = cc

pub tightens-trans : (m : IntegerModel) (ends : List Ends) (first next last : Engine) (is_occupied : Bool) → Tightens m ends first true next → Tightens m ends next is_occupied last → Tightens m ends first is_occupied last
tightens-trans m ends first next last is_occupied h k = record {
  taken = h.taken ++ k.taken;
  are_steps = All-append (IsStep m) h.taken k.taken h.are_steps k.are_steps;
  narrows = narrows-append (rows_of m) ends h.taken k.taken (box_in first) (box_in next) h.narrows h.leads k.narrows;
  leads = tightened_by-append (rows_of m) ends h.taken k.taken (box_in first) (box_in next) h.leads ∙ k.leads;
  kept = k.kept ∙ ap (λ (s : List Step). take 128 (s ++ k.taken)) h.kept ∙ take-again 128 (first.steps.items ++ h.taken) k.taken ∙ ap (take 128) (append_assoc first.steps.items h.taken k.taken);
  follows = follows-trans first next last h.follows k.follows;
  count = omega (arith, length-append h.follows.added k.follows.added, length-append h.taken k.taken, h.count, k.count);
}
