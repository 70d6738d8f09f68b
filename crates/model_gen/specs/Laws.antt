-- What is proved of the numbers of a generated problem, whatever the words are.
use Rattle.std.specs.Prelude.{ℕ, ◌*◌, ◌≤◌, List}
use Rattle.model_gen.specs.Draws.{size, demand}

-- the columns of a row, each at most 9, can reach its demand
abbrev pub DemandsCanBeMet : Type 0
DemandsCanBeMet = (words : List ℕ) (columns rows i : ℕ) → demand words columns rows i ≤ 9 * size columns rows i
