-- One more entry.
use Rattle.std.specs.Prelude.{◌≢◌}
use Rattle.std.proofs.Common.{ℕ, ◌+◌, ◌<◌, ◌≤◌, ◌^◌, pos, unsigned_abs, List, [], ◌∷◌, ◌++◌, arith}
use Rattle.dual_bounds.specs.Vectors.{Entry, AreEntries, RowsBelow}

pub rows-weaken : (n m : ℕ) (es : List Entry) → n ≤ m → RowsBelow n es → RowsBelow m es
rows-weaken n m [] h all = tt
rows-weaken n m (e ∷ es) h all = (omega (arith, all.0), rows-weaken n m es h all.1)

pub rows-more : (n m : ℕ) (es : List Entry) (e : Entry) → n ≤ m → RowsBelow n es → e.0 < m → RowsBelow m (es ++ e ∷ [])
rows-more n m [] e le all h = (h, tt)
rows-more n m (f ∷ es) e le all h = (omega (arith, all.0), rows-more n m es e le all.1 h)

-- an entry of a row behind those of the others
pub entries-more : (least : ℕ) (es : List Entry) (e : Entry) → least ≤ e.0 → RowsBelow e.0 es → unsigned_abs e.1 ≤ 2 ^ 40 → e.1 ≢ pos 0 → AreEntries least es → AreEntries least (es ++ e ∷ [])
entries-more least [] e h below small other all = (h, small, other, tt)
entries-more least (f ∷ es) e h below small other all = (all.0, all.1, all.2, entries-more (f.0 + 1) es e (omega (arith, below.0)) below.1 small other all.3)
