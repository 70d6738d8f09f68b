-- A feasible point has a number for each column, and each is small.
use Rattle.std.specs.Prelude.{◌≡◌, ℕ, ◌<◌, ◌^◌, ℤ, ◌≤ℤ◌, List, [], ◌∷◌, length, All}
use Rattle.std.proofs.Common.{arith, sym}
use Rattle.std.proofs.lemmas.Int.{ints}
use Rattle.std.proofs.lemmas.List.Elements.{All-nil, All-cons}
use Rattle.int_model.specs.Limits.{IsBound}
use Rattle.int_model.specs.Boxes.{Box, InBox, BoundsWithin}
use Rattle.int_model.specs.Programs.{Feasible}
use Rattle.int_model.proofs.BoxLaws.{length-InBox}
use Rattle.scenario_changes.specs.Problems.{Problem, AreWithin, program_at}

between : (l h v : ℤ) → IsBound l → IsBound h → l ≤ℤ v → v ≤ℤ h → IsBound v
between l h v a b c d = omega (arith, ints, c, d)

small : (box : Box) (x : List ℤ) → BoundsWithin (10 ^ 6) box → InBox box x → All IsBound x
small [] [] w h = All-nil IsBound
small [] (v ∷ x) w h = absurd h
small (i ∷ box) [] w h = absurd h
small (i ∷ box) (v ∷ x) w h = All-cons IsBound v x (between i.low i.high v w.0 w.1 h.0 h.1) (small box x w.2 h.2)

pub feasible-columns : (p : Problem) (s : ℕ) (x : List ℤ) → AreWithin p → s < length p.scenarios → Feasible (program_at p s) x → length x ≡ p.columns
feasible-columns p s x within l f =
    let long : length (program_at p s).bounds ≡ p.columns = (within.programs s _ l).shape.bounds in
    let own : length x ≡ length (program_at p s).bounds = sym (length-InBox (program_at p s).bounds x f.within) in
    omega (arith, own, long)

pub feasible-small : (p : Problem) (s : ℕ) (x : List ℤ) → AreWithin p → s < length p.scenarios → Feasible (program_at p s) x → All IsBound x
feasible-small p s x within l f = small (program_at p s).bounds x (within.programs s _ l).limits.bounds f.within
