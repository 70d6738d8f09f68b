use Rattle.std.proofs.Common.{ℕ, ◌+◌, ap, ◌∙◌, arith}
use Rattle.finder.specs.Found.{Found}
use Rattle.crew.specs.Crews.{IsOf}
use Rattle.crew.proofs.Merging.{all_then, gave_then, gave_last, length_then}
use Rattle.crew.proofs.finders.finders_of.Goals as goal

pub loop-number-preserved : goal.loop-number-preserved
loop-number-preserved c =
    let i = c.loop-number.invariant in
    let P : Found → Type 0 = IsOf c.args.words.now c.args.problem.now in
    let items = c.in_ok-push.ensures.items in
    let n = c.args.words.now.words in
    let made = c.in_ok-finder_of.ensures in
    let seat = c.in_ok-seat.ensures.member in
    record {
      table = c.member.ensures.table ∙ i.table;
      given = gave_then n _ _ _ _ _ _ items i.given c.in_ok-seat.ensures.counted (ap (λ s. s.view) made.seat ∙ seat.1);
      of = all_then P _ _ _ items i.of (ap (λ s. s.table) made.seat ∙ (seat.0 ∙ i.table), made.problem);
      count = ap (λ (k : ℕ). k + 1) (length_then _ _ _ items ∙ i.count);
    }

pub returns-clause-all : goal.returns-clause-all
returns-clause-all c =
    let i = c.loop-number.invariant in
    let items = c.in_ok-push-2.ensures.items in
    gave_last _ _ _ _ _ _ items i.given (ap (λ s. s.view) c.in_ok-finder_of-2.ensures.seat) (omega arith)
