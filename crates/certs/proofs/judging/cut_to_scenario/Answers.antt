use Rattle.std.proofs.Common.{◌≡◌, ◌∙◌, ap, sym, ℤ, List, length, map}
use Rattle.std.proofs.lemmas.List.{length-map}
use Rattle.int_model.specs.Boxes.{Interval, Box, box_of, meet}
use Rattle.scenario_changes.specs.Problems.{problem, program_at}
use Rattle.tighten.proofs.StepLemmas.{sides-of}
use Rattle.certs.proofs.TreeLaws.{length-meet}
use Rattle.certs.proofs.judging.cut_to_scenario.Goals as goal

-- the lists of a box's ends make it
sides-are : (lows highs : List ℤ) (box : Box) → lows ≡ map (λ (i : Interval). i.low) box → highs ≡ map (λ (i : Interval). i.high) box → box_of lows highs ≡ box
sides-are lows highs box e f = rw (e, f) (sides-of box)

pub copy_from-requires : goal.copy_from-requires
copy_from-requires c = c.requires.part ∙ sym c.requires.columns

pub meet-requires-clause-low_count : goal.meet-requires-clause-low_count
meet-requires-clause-low_count c = ap length c.copy_from.ensures ∙ c.requires.columns ∙ sym c.lows.ensures.count

pub meet-requires-clause-high_count : goal.meet-requires-clause-high_count
meet-requires-clause-high_count c = ap length c.copy_from.ensures ∙ c.requires.columns ∙ sym c.highs.ensures.count

value : (c : goal.After-meet) → c.meet.new.self ≡ meet c.args.bounds.now (program_at (problem c.args.problem.now) c.args.s).bounds
value c =
    c.meet.ensures ∙ ap (λ (box : Box). meet box (box_of c.lows.result.now c.highs.result.now)) c.copy_from.ensures ∙ ap (meet c.args.bounds.now) (sides-are c.lows.result.now c.highs.result.now _ c.lows.ensures.value c.highs.ensures.value)

pub returns-clause-value : goal.returns-clause-value
returns-clause-value c = value c

pub returns-clause-count : goal.returns-clause-count
returns-clause-count c =
    let bounds = (program_at (problem c.args.problem.now) c.args.s).bounds in
    let columns : length bounds ≡ length c.args.problem.now.model.columns = sym (length-map bounds (λ (i : Interval). i.low)) ∙ sym (ap length c.lows.ensures.value) ∙ c.lows.ensures.count in
    ap length (value c) ∙ length-meet (length c.args.problem.now.model.columns) c.args.bounds.now bounds c.requires.columns columns
