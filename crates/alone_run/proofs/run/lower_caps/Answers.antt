use Rattle.std.proofs.Common.{◌≡◌, ◌+◌, ◌∙◌, sym, subst, ap, arith, length, ℕ, ℤ, w64, to_z, of_z, FitsSigned}
use Rattle.std.proofs.lemmas.Int.{ints, to_z-of_z}
use Rattle.std.specs.Prelude.{slice_set, slice_index_or}
use Rattle.certs.specs.Levels.{lesser_level}
use Rattle.certs.specs.declared.level.Level.TheVariants.{Value, Inf}
use Rattle.incumbent_words.specs.Codes.{IsValue}
use Rattle.scenario_changes.specs.Problems.{Problem}
use Rattle.open_pool.specs.Pooled.{Pooled}
use Rattle.alone_run.proofs.StepLaws.{LoweredSoFar, lowered_same, lowered_more, are_lowered}
use Rattle.alone_run.proofs.run.lower_caps.Goals as goal
use Rattle.alone_run.proofs.run.lower_caps.Goals.{in-Some, in_default}

pub loop-s-preserved : goal.loop-s-preserved
loop-s-preserved c = elim c.match-cap.branch [
  | in-Some w ↦ (
      let q : Pooled = c.loop-s.pool in
      let s : ℕ = c.loop-s.s in
      let value : ℤ = w.in-Some.value in
      let limit : IsValue value = w.in-Some.ensures.range in
      let fits : FitsSigned w64 value = omega (arith, ints, limit) in
      let real : to_z w64 (of_z w64 value) ≡ value = to_z-of_z w64 value fits in
      let lowered : w.lower.new.self ≡ record q { caps = slice_set q.caps s (lesser_level (slice_index_or q.caps s Inf) (Value value)) } = w.lower.ensures ∙ ap (λ (v : ℤ). let r : Pooled = record q { caps = slice_set q.caps s (lesser_level (slice_index_or q.caps s Inf) (Value v)) } in r) real in
      subst (λ (r : Pooled). LoweredSoFar c.args.pool.now r c.args.note.now.view.caps (s + 1)) (sym w.pool-is) (lowered_more c.args.pool.now q w.lower.new.self c.args.note.now.view.caps s value c.loop-s.invariant w.in-Some.ensures.code limit lowered))
  | in_default w ↦ subst (λ (r : Pooled). LoweredSoFar c.args.pool.now r c.args.note.now.view.caps (c.loop-s.s + 1)) (sym w.pool-is) (lowered_same c.args.pool.now c.loop-s.pool c.args.note.now.view.caps c.loop-s.s c.loop-s.invariant w.in_default.ensures.code)
]

pub returns-clause-caps : goal.returns-clause-caps
returns-clause-caps c =
    are_lowered c.args.pool.now c.loop-s.pool c.args.note.now.view.caps c.loop-s.s c.count-s-end.result c.loop-s.invariant c.loop-s-test.false
    (c.is_covered.ensures.caps ∙ ap (λ (p : Problem). length p.scenarios) c.requires.pool ∙ sym c.count-s-end.ensures.count)
