use Rattle.std.proofs.Common.{arith, ◌≡◌, ◌∙◌, ap, sym, subst, ℕ, ℤ, List, ◌<◌, ◌+ℤ◌, pos, length, true, FitsSigned}
use Rattle.std.specs.Prelude.{slice_index_or}
use Rattle.std.proofs.lemmas.Int.{ints, to_z-of_z}
use mir.Syntax.{w128}
use Rattle.int_model.specs.Programs.{Terms}
use Rattle.dual_bounds.specs.Vectors.{Entry, counted, end_sum, least_reduced, rows_of, share}
use Rattle.dual_bounds.specs.Shared.{have_ends, least_shared}
use Rattle.dual_bounds.proofs.SharedLaws.{all-counted, shared-is}
use Rattle.dual_bounds.proofs.bounding.evaluate_with.Goals as goal

pub returns-clause-value : goal.returns-clause-value
returns-clause-value c =
    let rows : List Terms = rows_of c.args.model.now in
    let es : List Entry = c.args.vector.now.entries in
    let seen : c.entries-entries.result.now ≡ es = c.entries-entries.ensures.value in
    let all : counted c.args.ends.now es ≡ es = all-counted c.args.ends.now es (subst (λ (xs : List Entry). have_ends c.args.ends.now xs ≡ true) seen c.in-Some-whole_end_sum.ensures.all) in
    let first_fits : FitsSigned w128 c.in-Some-whole_end_sum.end_sum = omega (arith, ints, c.in-Some-whole_end_sum.ensures.limit) in
    let second_fits : FitsSigned w128 c.least_shared.result = omega (arith, ints, c.least_shared.ensures.limit) in
    let total_fits : FitsSigned w128 (c.in-Some-whole_end_sum.end_sum +ℤ c.least_shared.result) = omega (arith, ints, c.in-Some-whole_end_sum.ensures.limit, c.least_shared.ensures.limit) in
    let raw_first : c.in-Some-whole_end_sum.end_sum ≡ end_sum c.args.ends.now (counted c.args.ends.now c.entries-entries.result.now) = c.in-Some-whole_end_sum.ensures.value in
    let first : c.in-Some-whole_end_sum.end_sum ≡ end_sum c.args.ends.now (counted c.args.ends.now es) = raw_first ∙ ap (λ (xs : List Entry). end_sum c.args.ends.now (counted c.args.ends.now xs)) seen in
    let raw_second : c.least_shared.result ≡ least_shared c.scale.result c.in-Some.numbers.now 0 c.args.costs.now c.args.bounds.now = c.least_shared.ensures.value in
    let shares : (i : ℕ) → i < length c.args.model.now.columns → slice_index_or c.in-Some.numbers.now i (pos 0) ≡ share rows es i = c.requires.shares c.in-Some.numbers.now c.in-Some.ensures.value in
    let second : c.least_shared.result ≡ least_reduced rows c.args.vector.now.scale (counted c.args.ends.now es) 0 c.args.costs.now c.args.bounds.now = raw_second ∙ ap (λ (n : ℕ). least_shared n c.in-Some.numbers.now 0 c.args.costs.now c.args.bounds.now) c.scale.ensures.value ∙ shared-is c.args.model.now c.args.vector.now.scale es c.in-Some.numbers.now 0 c.args.costs.now c.args.bounds.now shares (omega (arith, c.requires.costs)) ∙ ap (λ (xs : List Entry). least_reduced rows c.args.vector.now.scale xs 0 c.args.costs.now c.args.bounds.now) (sym all) in
    simp to_z-of_z (ap (λ (z : ℤ). z +ℤ c.least_shared.result) first ∙ ap (λ (z : ℤ). end_sum c.args.ends.now (counted c.args.ends.now es) +ℤ z) second)
