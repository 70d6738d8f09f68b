use Rattle.std.proofs.Common.{◌≡◌, replicate}
use Rattle.finder.specs.Kept.{empty_place}
use Rattle.finder.proofs.points.BestPoints.make.Given as goal

abbrev pub invariant-loop-place : goal.invariant-loop-place
invariant-loop-place l = l.places.items ≡ replicate l.place (empty_place l.columns)
