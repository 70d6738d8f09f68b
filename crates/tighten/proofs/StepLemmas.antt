-- What a step does to a box, and one step more.
use Rattle.std.specs.Prelude.{◌≡◌, ℕ, zero, suc, ◌<◌, int_lt, Bool, true, false, ◌||◌, cond, List, [], ◌∷◌, length, map, take, slice_index_or, slice_get, slice_set, Option, Some, None, option_and_then, refl}
use Rattle.std.proofs.Common.{arith, ap, sym, ◌∙◌, inr}
use Rattle.std.proofs.lemmas.List.{length-set}
use Rattle.int_model.specs.Boxes.{Interval, Box, box_of, is_empty}
use Rattle.int_model.specs.Programs.{Terms}
use Rattle.int_model.specs.declared.model.Ends.{Ends}
use Rattle.int_model.specs.declared.model.Row.{Row}
use Rattle.tighten.specs.declared.step.Step.{Step}
use Rattle.tighten.specs.Steps.{IsReplayed, StopsAt}
use Rattle.tighten.specs.Replay.{left_of, with_interval, tightened, tightened_by}

pub sides-of : (box : Box) → box_of (map (λ (i : Interval). i.low) box) (map (λ (i : Interval). i.high) box) ≡ box
sides-of [] = refl
sides-of (i ∷ box) = ap (λ (b : Box). i ∷ b) (sides-of box)

pub terms-at : (rows : List Row) (i : ℕ) (row : Row) → slice_get rows i ≡ Some row → slice_index_or (map (λ (r : Row). r.terms) rows) i [] ≡ row.terms
terms-at [] i row e = absurd (cc)
terms-at (r ∷ rows) zero row e = ap (λ (s : Row). s.terms) (same e)
  where
    same : {r row : Row} → Some r ≡ Some row → r ≡ row
    same e = cc
terms-at (r ∷ rows) (suc i) row e = terms-at rows i row e

-- ---- a box with another interval at a column

or-false : (b c : Bool) → (b || c) ≡ false → (b ≡ false) × (c ≡ false)
or-false true c e = absurd (cc)
or-false false c e = (refl, e)

pub set-occupied : (box : Box) (j : ℕ) (i : Interval) → is_empty box ≡ false → int_lt i.high i.low ≡ false → is_empty (slice_set box j i) ≡ false
set-occupied [] j i e h = refl
set-occupied (k ∷ box) zero i e h = rw (h, (or-false (int_lt k.high k.low) (is_empty box) e).1) refl
set-occupied (k ∷ box) (suc j) i e h =
    let parts = or-false (int_lt k.high k.low) (is_empty box) e in rw (parts.0, set-occupied box j i parts.1 h) refl

-- what is known of the box with an interval, where there is one
pub record IsNextBox (box t : Box) : Type 0 where
  pub occupied : is_empty t ≡ false
  pub count : length t ≡ length box

pub with_interval-next : (box t : Box) (j : ℕ) (i : Interval) → is_empty box ≡ false → with_interval box j i ≡ Some t → IsNextBox box t
with_interval-next box t j i e h = by (int_lt i.high i.low) refl h
  where
    made : int_lt i.high i.low ≡ false → slice_set box j i ≡ t → IsNextBox box t
    made f g = record { occupied = sym (ap is_empty g) ∙ set-occupied box j i e f; count = sym (ap length g) ∙ length-set box j i }

    by : (b : Bool) → int_lt i.high i.low ≡ b → cond b None (Some (slice_set box j i)) ≡ Some t → IsNextBox box t
    by true f g = absurd (cc)
    by false f g = made f (cc)

pub tightened-next : (rows : List Terms) (ends : List Ends) (step : Step) (box t : Box) → is_empty box ≡ false → tightened rows ends step box ≡ Some t → IsNextBox box t
tightened-next rows ends step box t e h = with_interval-next box t step.column (left_of rows ends step box) e h

-- ---- one step more

pub same_box : {a b : Box} → Some a ≡ Some b → a ≡ b
same_box e = cc

pub then_some : (o : Option Box) → option_and_then (λ b. Some b) o ≡ o
then_some None = refl
then_some (Some b) = refl

-- the rest of the steps, by what the first gives
pub more_of : (rows : List Terms) (ends : List Ends) (some more : List Step) (o w : Option Box) (t : Box) → ((b : Box) → tightened_by rows ends some b ≡ Some t → tightened_by rows ends more b ≡ w) → option_and_then (tightened_by rows ends some) o ≡ Some t → option_and_then (tightened_by rows ends more) o ≡ w
more_of rows ends some more None w t h f = absurd (cc)
more_of rows ends some more (Some b) w t h f = h b f

pub tightened_by-more : (rows : List Terms) (ends : List Ends) (steps : List Step) (i : ℕ) (d : Step) (box t : Box) → i < length steps → tightened_by rows ends (take i steps) box ≡ Some t → tightened_by rows ends (take (suc i) steps) box ≡ tightened rows ends (slice_index_or steps i d) t
tightened_by-more rows ends [] i d box t h e = absurd (omega arith)
tightened_by-more rows ends (step ∷ steps) zero d box t h e = then_some (tightened rows ends step box) ∙ ap (tightened rows ends step) (same_box e)
tightened_by-more rows ends (step ∷ steps) (suc i) d box t h e =
    more_of rows ends (take i steps) (take (suc i) steps) (tightened rows ends step box) (tightened rows ends (slice_index_or steps i d) t) t (λ b f. tightened_by-more rows ends steps i d b t (omega arith) f) e

-- a step that empties an interval ends it
tightened_by-none : (rows : List Terms) (ends : List Ends) (steps : List Step) (i : ℕ) (d : Step) (box t : Box) → i < length steps → tightened_by rows ends (take i steps) box ≡ Some t → tightened rows ends (slice_index_or steps i d) t ≡ None → tightened_by rows ends steps box ≡ None
tightened_by-none rows ends [] i d box t h e n = absurd (omega arith)
tightened_by-none rows ends (step ∷ steps) zero d box t h e n =
    let none : tightened rows ends step box ≡ None = ap (tightened rows ends step) (same_box e) ∙ n in rw none refl
tightened_by-none rows ends (step ∷ steps) (suc i) d box t h e n =
    more_of rows ends (take i steps) steps (tightened rows ends step box) None t (λ b f. tightened_by-none rows ends steps i d b t (omega arith) f n) e

get-at : (steps : List Step) (i : ℕ) (d : Step) → i < length steps → slice_get steps i ≡ Some (slice_index_or steps i d)
get-at [] i d h = absurd (omega arith)
get-at (step ∷ steps) zero d h = refl
get-at (step ∷ steps) (suc i) d h = get-at steps i d (omega arith)

pub stops-at : (rows : List Terms) (ends : List Ends) (steps : List Step) (i : ℕ) (d : Step) (box t now : Box) → is_empty box ≡ false → i < length steps → tightened_by rows ends (take i steps) box ≡ Some t → tightened rows ends (slice_index_or steps i d) t ≡ None → now ≡ t → IsReplayed rows ends steps box false now
stops-at rows ends steps i d box t now o h e n same =
    let none : tightened_by rows ends steps box ≡ None = tightened_by-none rows ends steps i d box t h e n in
    let stop : StopsAt rows ends steps box now i (slice_index_or steps i d) = record {
      is_step = get-at steps i d h;
      reached = e ∙ ap (λ (b : Box). Some b) (sym same);
      empties = ap (tightened rows ends (slice_index_or steps i d)) same ∙ n;
    } in
    (rw o none, inr (o, (i, slice_index_or steps i d, stop)))
