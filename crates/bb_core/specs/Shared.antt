-- What works and settlements mean: boxes and levels by their values, and no hints.
use Rattle.std.specs.Prelude.{List, ℕ, []}
use Rattle.std.specs.Arc.{arc_value}
use Rattle.bb_core.specs.Settlements as made
use Rattle.bb_core.specs.declared.work.Work.{Work}
use Rattle.bb_core.specs.declared.work.Outcome.{Outcome}
use Rattle.bb_core.specs.declared.work.Outcome.TheVariants.{Close, Split}
use Rattle.bb_core.specs.declared.work.Settlement.{Settlement}

abbrev pub work_of : Work → made.Work
work_of w = record { node = w.node; bounds = arc_value w.bounds; live = w.live; levels = arc_value w.levels }

abbrev pub outcome_of : Outcome → made.Outcome
outcome_of Close = made.Close
outcome_of (Split stay column value left right left_levels right_levels left_hint right_hint) =
    made.Branch stay column value (arc_value left) (arc_value right) (arc_value left_levels) (arc_value right_levels)

abbrev pub settlement_of : Settlement → made.Settlement
settlement_of s = record { work = work_of s.work; cert = s.cert; verdicts = s.verdicts; outcome = outcome_of s.outcome }

-- the stayers, none where the node closes
abbrev pub stay_of : Outcome → List ℕ
stay_of Close = []
stay_of (Split stay column value left right left_levels right_levels left_hint right_hint) = stay
