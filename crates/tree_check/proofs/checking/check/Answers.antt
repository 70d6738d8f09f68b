use Rattle.std.proofs.Common.{◌≡◌, subst, rules, List, None, true}
use Rattle.scenario_changes.specs.Problems.{problem}
use Rattle.scenario_changes.specs.declared.answer.Answer.{Answer}
use Rattle.tree_check.specs.Checks.{AllHold, BoundHolds, IsFirstFault, PointHolds}
use Rattle.tree_check.proofs.CheckLemmas.{standing, is_accepted}
use Rattle.tree_check.proofs.checking.check.Goals as goal

pub returns-in-Some-wrong_point : goal.returns-in-Some-wrong_point
returns-in-Some-wrong_point c =
    let p = problem c.args.problem.now in
    let counts : c.has_counts.result ≡ true = search rules in
    let answers : c.as_slice.result.now ≡ c.args.log.answers = search rules in
    let nodes : c.as_slice-2.result.now ≡ c.args.log.tree = search rules in
    let again : c.as_slice-3.result.now ≡ c.args.log.answers = search rules in
    let none : c.in_ok-below.below ≡ None = search rules in
    let s = standing p c.args.log c.as_slice.result.now c.as_slice-2.result.now c.in_ok-below.below (c.has_counts.ensures.yes counts) answers nodes c.in_ok-below.ensures.ok none in
    (s.placed, s.stands, s.reach, subst (λ (xs : List Answer). IsFirstFault xs (PointHolds p) c.in-Some-wrong_point.scenario) again c.in-Some-wrong_point.ensures.some)

pub returns-in-Some-wrong_bound : goal.returns-in-Some-wrong_bound
returns-in-Some-wrong_bound c =
    let p = problem c.args.problem.now in
    let counts : c.has_counts.result ≡ true = search rules in
    let answers : c.as_slice.result.now ≡ c.args.log.answers = search rules in
    let nodes : c.as_slice-2.result.now ≡ c.args.log.tree = search rules in
    let points : c.as_slice-3.result.now ≡ c.args.log.answers = search rules in
    let bounds : c.as_slice-4.result.now ≡ c.args.log.answers = search rules in
    let none : c.in_ok-below.below ≡ None = search rules in
    let right : c.wrong_point.result ≡ None = search rules in
    let s = standing p c.args.log c.as_slice.result.now c.as_slice-2.result.now c.in_ok-below.below (c.has_counts.ensures.yes counts) answers nodes c.in_ok-below.ensures.ok none in
    (s.placed, s.stands, s.reach, subst (λ (xs : List Answer). AllHold xs (PointHolds p)) points (c.wrong_point.ensures.none right), subst (λ (xs : List Answer). IsFirstFault xs (λ j a. BoundHolds a) c.in-Some-wrong_bound.scenario) bounds c.in-Some-wrong_bound.ensures.some)

pub returns : goal.returns
returns c =
    let p = problem c.args.problem.now in
    let counts : c.has_counts.result ≡ true = search rules in
    let answers : c.as_slice.result.now ≡ c.args.log.answers = search rules in
    let nodes : c.as_slice-2.result.now ≡ c.args.log.tree = search rules in
    let points : c.as_slice-3.result.now ≡ c.args.log.answers = search rules in
    let bounds : c.as_slice-4.result.now ≡ c.args.log.answers = search rules in
    let none : c.in_ok-below.below ≡ None = search rules in
    let right : c.wrong_point.result ≡ None = search rules in
    let below : c.wrong_bound.result ≡ None = search rules in
    let s = standing p c.args.log c.as_slice.result.now c.as_slice-2.result.now c.in_ok-below.below (c.has_counts.ensures.yes counts) answers nodes c.in_ok-below.ensures.ok none in
    is_accepted p c.args.log c.count-count.ensures.limits s (subst (λ (xs : List Answer). AllHold xs (PointHolds p)) points (c.wrong_point.ensures.none right)) (subst (λ (xs : List Answer). AllHold xs (λ j a. BoundHolds a)) bounds (c.wrong_bound.ensures.none below))
