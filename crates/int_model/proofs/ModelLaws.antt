-- The program of a model within the limits is within them.
use Rattle.std.specs.Prelude.{◌≡◌, ℕ, ◌+◌, ◌^◌, ◌≤◌, ℤ, unsigned_abs, List, [], ◌∷◌, length, map, refl}
use Rattle.std.proofs.Common.{arith, ◌∙◌}
use Rattle.std.specs.List.{All}
use Rattle.std.proofs.lemmas.Int.{ints}
use Rattle.std.proofs.lemmas.List.{length-map}
use Rattle.std.proofs.lemmas.List.Elements.{All-head, All-rest}
use Rattle.int_model.specs.Boxes.{box_of, BoundsWithin}
use Rattle.int_model.specs.Programs.{Terms, CostsWithin, AreTerms, AreRows, ColumnsBelow, AllColumnsBelow}
use Rattle.int_model.specs.Models.{IntegerModel, IsColumn, IsRow, KeepsLimits, minimized}
use Rattle.int_model.specs.Laws.{ProgramFits}
use Rattle.int_model.specs.declared.model.Column.{Column}
use Rattle.int_model.specs.declared.model.Row.{Row}
use Rattle.int_model.specs.declared.model.Direction.{Direction}
use Rattle.int_model.specs.declared.model.Direction.TheVariants.{Min, Max}
use Rattle.int_model.proofs.BoxLaws.{length-box_of}

minimized-small : (d : Direction) (most : ℕ) (z : ℤ) → unsigned_abs z ≤ most → unsigned_abs (minimized d z) ≤ most
minimized-small Min most z h = h
minimized-small Max most z h = omega (arith, ints, h)

costs-within : (d : Direction) (columns : List Column) → All IsColumn columns → CostsWithin (10 ^ 9) (map (minimized d) (map (λ (j : Column). j.cost) columns))
costs-within d [] h = tt
costs-within d (j ∷ columns) h =
    (minimized-small d (10 ^ 9) j.cost (All-head IsColumn j columns h).cost, costs-within d columns (All-rest IsColumn j columns (j ∷ columns) refl h))

bounds-within : (columns : List Column) → All IsColumn columns → BoundsWithin (10 ^ 6) (box_of (map (λ (j : Column). j.low) columns) (map (λ (j : Column). j.high) columns))
bounds-within [] h = tt
bounds-within (j ∷ columns) h =
    let first : IsColumn j = All-head IsColumn j columns h in
    (first.low, first.high, bounds-within columns (All-rest IsColumn j columns (j ∷ columns) refl h))

pub rows-within : (n : ℕ) (rows : List Row) → All (IsRow n) rows → AreRows n (map (λ (i : Row). i.terms) rows)
rows-within n [] h = tt
rows-within n (i ∷ rows) h =
    ((All-head (IsRow n) i rows h).terms, rows-within n rows (All-rest (IsRow n) i rows (i ∷ rows) refl h))

pub terms-below : (least n : ℕ) (terms : Terms) → AreTerms least n terms → ColumnsBelow n terms
terms-below least n [] h = tt
terms-below least n (t ∷ terms) h = (h.1, terms-below (t.0 + 1) n terms h.4)

pub rows-below : (n : ℕ) (rows : List Terms) → AreRows n rows → AllColumnsBelow n rows
rows-below n [] h = tt
rows-below n (row ∷ rows) h = (terms-below 0 n row h.0, rows-below n rows h.1)

pub program-fits : (m : IntegerModel) → KeepsLimits m → ProgramFits m
program-fits m k =
    let cost_count : length (map (minimized m.direction) (map (λ (j : Column). j.cost) m.columns)) ≡ length m.columns = simp length-map in
    let same : length (map (λ (j : Column). j.low) m.columns) ≡ length (map (λ (j : Column). j.high) m.columns) = simp length-map in
    record {
      limits = record {
        few = rw cost_count k.few_columns;
        costs = costs-within m.direction m.columns k.columns;
        bounds = bounds-within m.columns k.columns;
        constant = minimized-small m.direction (10 ^ 15) m.constant k.constant;
        rows = rw cost_count (rows-within (length m.columns) m.rows k.rows);
      };
      shape = record {
        costs = cost_count;
        bounds = length-box_of (map (λ (j : Column). j.low) m.columns) (map (λ (j : Column). j.high) m.columns) same ∙ length-map m.columns (λ (j : Column). j.low);
        rows = length-map m.rows (λ (i : Row). i.terms);
        ends = simp length-map;
        terms = rows-below (length m.columns) (map (λ (i : Row). i.terms) m.rows) (rows-within (length m.columns) m.rows k.rows);
      };
    }
