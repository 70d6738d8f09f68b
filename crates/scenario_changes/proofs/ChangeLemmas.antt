-- Settings keep what changes are known to be.
use Rattle.std.specs.Prelude.{◌≡◌, ℕ, zero, suc, ◌<◌, ◌≤◌, ◌^◌, ◌-◌, ◌++◌, ℤ, true, false, nat_le, List, [], ◌∷◌, length, take, drop, ◌+◌, ◌↔◌, map, slice_get, replicate, slice_set, slice_index_or, Option, Some, None, IfSome, max, refl}
use Rattle.std.proofs.Common.{arith, ap, sym, ◌∙◌, subst, inl, inr}
use Rattle.std.proofs.lemmas.List.{length-set, length-append, length-replicate, length-take, get_or_default, take-append-le, take_all, map_more, drop_more, append-nil}
use Rattle.std.proofs.lemmas.Option.{get_or_from_slice_get}
use Rattle.std.proofs.lemmas.Bool.{cases_Bool}
use Rattle.std.proofs.lemmas.List.Elements.{All-set, All-replicate, All-append, All-take}
use Rattle.int_model.specs.Limits.{IsBound, IsEntry}
use Rattle.int_model.specs.Build.{side_exceeds}
use Rattle.int_model.specs.declared.model.Row.{Row}
use Rattle.int_model.specs.declared.model.Rhs.{Rhs}
use Rattle.int_model.specs.declared.model.RowSense.TheVariants.{E}
use Rattle.scenario_changes.specs.Changes.{Change, ChangeSet, IsChange, IsChangeSet, AreSides, no_change, selected_change, with_selected, with_number, resized, shape_of, rhs_exceeds, may_have}
use Rattle.scenario_changes.specs.Refusals.{column_refusal, rhs_refusal, shape_at}
use Rattle.scenario_changes.specs.declared.change.RowShape.{RowShape}

-- ---- one scenario

sides-set : (rows : List RowShape) (vs : List (Option Rhs)) (i : ℕ) (d : RowShape) (v : Option Rhs) → AreSides rows vs → rhs_exceeds v ≡ false → may_have (slice_index_or rows i d) v ≡ true → AreSides rows (slice_set vs i v)
sides-set [] [] i d v s e m = tt
sides-set [] (w ∷ vs) zero d v s e m = tt
sides-set [] (w ∷ vs) (suc i) d v s e m = tt
sides-set (row ∷ rows) [] i d v s e m = tt
sides-set (row ∷ rows) (w ∷ vs) zero d v s e m = (e, m, s.2)
sides-set (row ∷ rows) (w ∷ vs) (suc i) d v s e m = (s.0, s.1, sides-set rows vs i d v s.2 e m)

pub cost-kept : (n : ℕ) (rows : List RowShape) (c : Change) (j : ℕ) (v : Option ℤ) → IsChange n rows c → IfSome v IsEntry → IsChange n rows (record c { costs = slice_set c.costs j v })
cost-kept n rows c j v k h = record {
  name = k.name;
  cost_count = length-set c.costs j v ∙ k.cost_count;
  low_count = k.low_count;
  high_count = k.high_count;
  rhs_count = k.rhs_count;
  costs = All-set (λ (w : Option ℤ). IfSome w IsEntry) c.costs j v h k.costs;
  lows = k.lows;
  highs = k.highs;
  rhs = k.rhs;
}

pub low-kept : (n : ℕ) (rows : List RowShape) (c : Change) (j : ℕ) (v : Option ℤ) → IsChange n rows c → IfSome v IsBound → IsChange n rows (record c { lows = slice_set c.lows j v })
low-kept n rows c j v k h = record {
  name = k.name;
  cost_count = k.cost_count;
  low_count = length-set c.lows j v ∙ k.low_count;
  high_count = k.high_count;
  rhs_count = k.rhs_count;
  costs = k.costs;
  lows = All-set (λ (w : Option ℤ). IfSome w IsBound) c.lows j v h k.lows;
  highs = k.highs;
  rhs = k.rhs;
}

pub high-kept : (n : ℕ) (rows : List RowShape) (c : Change) (j : ℕ) (v : Option ℤ) → IsChange n rows c → IfSome v IsBound → IsChange n rows (record c { highs = slice_set c.highs j v })
high-kept n rows c j v k h = record {
  name = k.name;
  cost_count = k.cost_count;
  low_count = k.low_count;
  high_count = length-set c.highs j v ∙ k.high_count;
  rhs_count = k.rhs_count;
  costs = k.costs;
  lows = k.lows;
  highs = All-set (λ (w : Option ℤ). IfSome w IsBound) c.highs j v h k.highs;
  rhs = k.rhs;
}

pub rhs-kept : (n : ℕ) (rows : List RowShape) (c : Change) (i : ℕ) (d : RowShape) (v : Option Rhs) → IsChange n rows c → rhs_exceeds v ≡ false → may_have (slice_index_or rows i d) v ≡ true → IsChange n rows (record c { rhs = slice_set c.rhs i v })
rhs-kept n rows c i d v k e m = record {
  name = k.name;
  cost_count = k.cost_count;
  low_count = k.low_count;
  high_count = k.high_count;
  rhs_count = length-set c.rhs i v ∙ k.rhs_count;
  costs = k.costs;
  lows = k.lows;
  highs = k.highs;
  rhs = sides-set rows c.rhs i d v k.rhs e m;
}

-- ---- the selected scenario

pub selected-in : (c : ChangeSet) → IsChangeSet c → 0 < length c.scenarios → c.selected < length c.scenarios
selected-in c k h = let s : c.selected < max 1 (length c.scenarios) = k.selected in omega (arith, s)

-- what is read at the selected place is the selected scenario's changes
pub selected-read : (c : ChangeSet) (s : Change) → IsChangeSet c → 0 < length c.scenarios → s ≡ slice_index_or c.scenarios c.selected s → s ≡ selected_change c
selected-read c s k h e = e ∙ get_or_default c.scenarios c.selected s (no_change c.columns (length c.rows)) (selected-in c k h)

pub selected-good : (c : ChangeSet) → IsChangeSet c → 0 < length c.scenarios → IsChange c.columns c.rows (selected_change c)
selected-good c k h = k.changes c.selected (no_change c.columns (length c.rows)) (selected-in c k h)

pub set-kept : (c : ChangeSet) (s : Change) → IsChangeSet c → IsChange c.columns c.rows s → IsChangeSet (with_selected c s)
set-kept c s k h = record {
  few_columns = k.few_columns;
  few_rows = k.few_rows;
  few_scenarios = rw (length-set c.scenarios c.selected s) k.few_scenarios;
  selected = rw (length-set c.scenarios c.selected s) k.selected;
  changes = All-set (IsChange c.columns c.rows) c.scenarios c.selected s h k.changes;
}

-- ---- what no refusal means

pub record ColumnFits (limit : ℕ) (c : ChangeSet) (j : ℕ) (v : Option ℤ) : Type 0 where
  pub some_scenario : 0 < length c.scenarios
  pub column : j < c.columns
  pub small : side_exceeds limit v ≡ false

pub column-fits : (limit : ℕ) (c : ChangeSet) (j : ℕ) (v : Option ℤ) → column_refusal limit c j v ≡ None → ColumnFits limit c j v
column-fits limit c j v e = grind arith

pub record RhsFits (c : ChangeSet) (i : ℕ) (v : Option Rhs) : Type 0 where
  pub some_scenario : 0 < length c.scenarios
  pub row : i < length c.rows
  pub small : rhs_exceeds v ≡ false
  pub allowed : may_have (shape_at c i) v ≡ true

pub rhs-fits : (c : ChangeSet) (i : ℕ) (v : Option Rhs) → rhs_refusal c i v ≡ None → RhsFits c i v
rhs-fits c i v e = grind arith

small-entry : (v : Option ℤ) → side_exceeds (10 ^ 9) v ≡ false → IfSome v IsEntry
small-entry None e = tt
small-entry (Some z) e = grind arith

small-bound : (v : Option ℤ) → side_exceeds (10 ^ 6) v ≡ false → IfSome v IsBound
small-bound None e = tt
small-bound (Some z) e = grind arith

-- ---- one setting: s is read at the selected place and new is written there

pub cost-set : (c d : ChangeSet) (j : ℕ) (v : Option ℤ) (s new : Change) → IsChangeSet c → c ≡ d → None ≡ column_refusal (10 ^ 9) d j v → s ≡ slice_index_or c.scenarios c.selected s → new ≡ record s { costs = slice_set s.costs j v } → IsChangeSet (with_selected c new)
cost-set c d j v s new k same none read made =
    let fits : ColumnFits (10 ^ 9) c j v = column-fits (10 ^ 9) c j v (subst (λ (e : ChangeSet). column_refusal (10 ^ 9) e j v ≡ None) (sym same) (sym none)) in
    let good : IsChange c.columns c.rows s = subst (IsChange c.columns c.rows) (sym (selected-read c s k fits.some_scenario read)) (selected-good c k fits.some_scenario) in
    subst (λ (n : Change). IsChangeSet (with_selected c n)) (sym made) (set-kept c (record s { costs = slice_set s.costs j v }) k (cost-kept c.columns c.rows s j v good (small-entry v fits.small)))

pub low-set : (c d : ChangeSet) (j : ℕ) (v w : Option ℤ) (s new : Change) → IsChangeSet c → c ≡ d → None ≡ column_refusal (10 ^ 6) d j v → w ≡ v → s ≡ slice_index_or c.scenarios c.selected s → new ≡ record s { lows = slice_set s.lows j w } → IsChangeSet (with_selected c new)
low-set c d j v w s new k same none is read made =
    let fits : ColumnFits (10 ^ 6) c j v = column-fits (10 ^ 6) c j v (subst (λ (e : ChangeSet). column_refusal (10 ^ 6) e j v ≡ None) (sym same) (sym none)) in
    let good : IsChange c.columns c.rows s = subst (IsChange c.columns c.rows) (sym (selected-read c s k fits.some_scenario read)) (selected-good c k fits.some_scenario) in
    subst (λ (n : Change). IsChangeSet (with_selected c n)) (sym made) (set-kept c (record s { lows = slice_set s.lows j w }) k (low-kept c.columns c.rows s j w good (subst (λ (u : Option ℤ). IfSome u IsBound) (sym is) (small-bound v fits.small))))

pub high-set : (c d : ChangeSet) (j : ℕ) (v w : Option ℤ) (s new : Change) → IsChangeSet c → c ≡ d → None ≡ column_refusal (10 ^ 6) d j v → w ≡ v → s ≡ slice_index_or c.scenarios c.selected s → new ≡ record s { highs = slice_set s.highs j w } → IsChangeSet (with_selected c new)
high-set c d j v w s new k same none is read made =
    let fits : ColumnFits (10 ^ 6) c j v = column-fits (10 ^ 6) c j v (subst (λ (e : ChangeSet). column_refusal (10 ^ 6) e j v ≡ None) (sym same) (sym none)) in
    let good : IsChange c.columns c.rows s = subst (IsChange c.columns c.rows) (sym (selected-read c s k fits.some_scenario read)) (selected-good c k fits.some_scenario) in
    subst (λ (n : Change). IsChangeSet (with_selected c n)) (sym made) (set-kept c (record s { highs = slice_set s.highs j w }) k (high-kept c.columns c.rows s j w good (subst (λ (u : Option ℤ). IfSome u IsBound) (sym is) (small-bound v fits.small))))

pub rhs-set : (c d : ChangeSet) (i : ℕ) (v : Option Rhs) (s new : Change) → IsChangeSet c → c ≡ d → None ≡ rhs_refusal d i v → s ≡ slice_index_or c.scenarios c.selected s → new ≡ record s { rhs = slice_set s.rhs i v } → IsChangeSet (with_selected c new)
rhs-set c d i v s new k same none read made =
    let fits : RhsFits c i v = rhs-fits c i v (subst (λ (e : ChangeSet). rhs_refusal e i v ≡ None) (sym same) (sym none)) in
    let good : IsChange c.columns c.rows s = subst (IsChange c.columns c.rows) (sym (selected-read c s k fits.some_scenario read)) (selected-good c k fits.some_scenario) in
    subst (λ (n : Change). IsChangeSet (with_selected c n)) (sym made) (set-kept c (record s { rhs = slice_set s.rhs i v }) k (rhs-kept c.columns c.rows s i (record { sense = E; ranged = true }) v good fits.small fits.allowed))

-- ---- scenarios without changes, and another number of scenarios

no-sides : (rows : List RowShape) → AreSides rows (replicate (length rows) None)
no-sides [] = tt
no-sides (row ∷ rows) = (refl, refl, no-sides rows)

pub no_change-good : (n : ℕ) (rows : List RowShape) → IsChange n rows (no_change n (length rows))
no_change-good n rows = record {
  name = tt;
  cost_count = length-replicate n None;
  low_count = length-replicate n None;
  high_count = length-replicate n None;
  rhs_count = length-replicate (length rows) None;
  costs = All-replicate (λ (w : Option ℤ). IfSome w IsEntry) n None tt;
  lows = All-replicate (λ (w : Option ℤ). IfSome w IsBound) n None tt;
  highs = All-replicate (λ (w : Option ℤ). IfSome w IsBound) n None tt;
  rhs = no-sides rows;
}

pub take-resized : (cs : List Change) (n : ℕ) (d : Change) → take n (cs ++ replicate (n - length cs) d) ≡ resized cs n d
take-resized cs n d =
    elim (cases_Bool (nat_le n (length cs))) [
      | inl e ↦
          let small : n ≤ length cs = grind (arith, e) in
          let none : n - length cs ≡ 0 = omega (arith, small) in
          rw none (take-append-le n cs [] small ∙ sym (append-nil (take n cs)))
      | inr e ↦
          let large : length cs ≤ n = grind (arith, e) in
          let total : length (cs ++ replicate (n - length cs) d) ≤ n = simp (length-append, length-replicate) (omega (arith, large)) in
          take_all n (cs ++ replicate (n - length cs) d) total ∙ ap (λ (xs : List Change). xs ++ replicate (n - length cs) d) (sym (take_all n cs large))
    ]

resized-good : (c : ChangeSet) (n : ℕ) → IsChangeSet c → n ≤ 64 → IsChangeSet (with_number c n)
resized-good c n k h =
    let d : Change = no_change c.columns (length c.rows) in
    let count : length (take n c.scenarios ++ replicate (n - length c.scenarios) d) ≤ 64 = simp (length-append, length-replicate, length-take) (omega (arith, h, k.few_scenarios)) in
    record {
      few_columns = k.few_columns;
      few_rows = k.few_rows;
      few_scenarios = count;
      selected = omega arith;
      changes = All-append (IsChange c.columns c.rows) (take n c.scenarios) (replicate (n - length c.scenarios) d) (All-take (IsChange c.columns c.rows) n c.scenarios k.changes) (All-replicate (IsChange c.columns c.rows) (n - length c.scenarios) d (no_change-good c.columns c.rows));
    }

-- what is made by adding scenarios without changes, and dropping those past the number
pub resized-made : (cs added appended final : List Change) (columns rows n more count : ℕ) → more ≡ n - length cs → count ≡ rows → added ≡ replicate more (no_change columns count) → appended ≡ cs ++ added → final ≡ take n appended → final ≡ resized cs n (no_change columns rows)
resized-made cs added appended final columns rows n more count a b e f g =
    g ∙ ap (take n) (f ∙ ap (λ (xs : List Change). cs ++ xs) (e ∙ ap (λ (m : ℕ). replicate m (no_change columns count)) a ∙ ap (λ (m : ℕ). replicate (n - length cs) (no_change columns m)) b)) ∙ take-resized cs n (no_change columns rows)

pub resized-kept : (c : ChangeSet) (n : ℕ) (final : List Change) → IsChangeSet c → n ≤ 64 → final ≡ resized c.scenarios n (no_change c.columns (length c.rows)) → IsChangeSet (record c { scenarios = final; selected = 0 })
resized-kept c n final k h e = subst (λ (xs : List Change). IsChangeSet (record c { scenarios = xs; selected = 0 })) (sym e) (resized-good c n k h)

-- ---- shapes of rows

pub shapes-more : (rows : List Row) (i : ℕ) (row : Row) (shape : RowShape) (done new : List RowShape) → i < length rows → slice_get rows i ≡ Some row → shape ≡ shape_of row → done ≡ map shape_of (take i rows) → new ≡ done ++ shape ∷ [] → new ≡ map shape_of (take (i + 1) rows)
shapes-more rows i row shape done new h at is before made =
    let read : slice_index_or rows i row ≡ row = get_or_from_slice_get rows i row row at in
    made ∙ ap (λ (xs : List RowShape). xs ++ shape ∷ []) before ∙ ap (λ (x : RowShape). map shape_of (take i rows) ++ x ∷ []) (is ∙ ap shape_of (sym read)) ∙ sym (map_more shape_of rows i row h)

same-rest : (x : RowShape) (xs ys : List RowShape) → x ∷ xs ≡ x ∷ ys → xs ≡ ys
same-rest x xs ys e = cc

pub shapes-step : (P : Type 0) (shapes : List RowShape) (rows : List Row) (i : ℕ) (d : RowShape) (row : Row) → i < length shapes → i < length rows → slice_get rows i ≡ Some row → slice_index_or shapes i d ≡ shape_of row → (P ↔ (drop i shapes ≡ map shape_of (drop i rows))) → (P ↔ (drop (i + 1) shapes ≡ map shape_of (drop (i + 1) rows)))
shapes-step P shapes rows i d row a b here is both =
    let read : slice_index_or rows i row ≡ row = get_or_from_slice_get rows i row row here in
    let left : drop i shapes ≡ shape_of row ∷ drop (i + 1) shapes = drop_more shapes i d a ∙ ap (λ (x : RowShape). x ∷ drop (i + 1) shapes) is in
    let right : map shape_of (drop i rows) ≡ shape_of row ∷ map shape_of (drop (i + 1) rows) =
    ap (map shape_of) (drop_more rows i row b) ∙ ap (λ (r : Row). shape_of r ∷ map shape_of (drop (i + 1) rows)) read in (
      λ p. same-rest (shape_of row) (drop (i + 1) shapes) (map shape_of (drop (i + 1) rows)) (sym left ∙ both.0 p ∙ right),
      λ q. both.1 (left ∙ ap (λ (xs : List RowShape). shape_of row ∷ xs) q ∙ sym right),
    )
