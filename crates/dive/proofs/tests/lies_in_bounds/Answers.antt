use Rattle.std.proofs.Common.{rules, arith, below_more, get_or, pos, FitsSigned, w32}
use Rattle.std.proofs.lemmas.Int.{ints}
use Rattle.scenario_changes.specs.Problems.{problem, program_at}
use Rattle.dive.proofs.PartLemmas.{part-in, sides-part}
use Rattle.dive.proofs.tests.lies_in_bounds.Goals as goal

pub loop-j-preserved : goal.loop-j-preserved
loop-j-preserved c =
    let low_fits : FitsSigned w32 (get_or c.lows-lows.result.now c.loop-j.j (pos 0)) = search rules in
    let high_fits : FitsSigned w32 (get_or c.highs-highs.result.now c.loop-j.j (pos 0)) = search rules in
    let box_low_fits : FitsSigned w32 (get_or c.lows-box_lows.result.now c.loop-j.j (pos 0)) = search rules in
    let box_high_fits : FitsSigned w32 (get_or c.highs-box_highs.result.now c.loop-j.j (pos 0)) = search rules in
    record {
      lows = below_more _ _ c.loop-j.invariant.lows (omega (arith, ints));
      highs = below_more _ _ c.loop-j.invariant.highs (omega (arith, ints));
    }

pub returns : goal.returns
returns c e x h =
    let b = (program_at (problem c.args.problem.now) c.args.s).bounds in
    part-in c.args.bounds.now b x (sides-part c.args.bounds.now b c.lows-box_lows.result.now c.highs-box_highs.result.now c.lows-lows.result.now c.highs-highs.result.now c.lows-box_lows.ensures.value c.highs-box_highs.ensures.value c.lows-lows.ensures.value c.highs-highs.ensures.value c.if-box_lows-lows.false (λ k l. (c.loop-j.invariant.lows k (omega arith), c.loop-j.invariant.highs k (omega arith)))) h
