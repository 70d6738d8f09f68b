use Rattle.std.proofs.Common.{◌≡◌, ℕ, ℤ, ◌<◌, refl, min, set, Bool, true, false, List, length, Some, sym, ap, ◌∙◌, subst, arith, rules, w64, to_z, of_z, FitsSigned}
use Rattle.std.proofs.lemmas.Int.{ints, to_z-of_z}
use Rattle.int_model.specs.Programs.{Feasible}
use Rattle.scenario_changes.specs.Problems.{Scenarios, AreWithin}
use Rattle.scenario_changes.specs.Problems as problems
use Rattle.incumbent_words.specs.declared.view.View.{View}
use Rattle.incumbent_words.specs.Codes.{code}
use Rattle.incumbent_words.specs.Rule.{code_at}
use Rattle.finder.specs.Kept.{Kept}
use Rattle.finder.specs.Found.{Found, scenario_count, program_of, value_code}
use Rattle.finder.proofs.PointLemmas.{feasible-columns, feasible-small, own-kept, own-left, columns-kept, AreOwn, HaveColumns}
use Rattle.finder.proofs.finder.Finder.offer.Goals as goal

module _ (f : Found) (p : Scenarios) (s : ℕ) (x : List ℤ) (same : f.problem ≡ p) (within : AreWithin (problems.problem p)) (lt : s < scenario_count f.problem) (meets : Feasible (program_of f.problem s) x) where
  in_range : s < scenario_count p
  in_range = subst (λ (q : Scenarios). s < scenario_count q) same lt

  feasible : Feasible (program_of p s) x
  feasible = subst (λ (q : Scenarios). Feasible (program_of q s) x) same meets

  columns : length x ≡ length p.model.columns
  columns = feasible-columns p s x within in_range feasible

pub value-value-requires-clause-columns : goal.value-value-requires-clause-columns
value-value-requires-clause-columns c = columns c.args.self.now c.self.inside.problem.now c.args.s c.args.x.now (sym (ap (λ (f : Found). f.problem) c.self.view_is)) c.self.invariant.limits c.requires.scenario c.requires.feasible

pub value-value-requires-clause-bounds : goal.value-value-requires-clause-bounds
value-value-requires-clause-bounds c = feasible-small c.self.inside.problem.now c.args.s c.args.x.now c.self.invariant.limits (in_range c.args.self.now c.self.inside.problem.now c.args.s c.args.x.now (sym (ap (λ (f : Found). f.problem) c.self.view_is)) c.self.invariant.limits c.requires.scenario c.requires.feasible) (feasible c.args.self.now c.self.inside.problem.now c.args.s c.args.x.now (sym (ap (λ (f : Found). f.problem) c.self.view_is)) c.self.invariant.limits c.requires.scenario c.requires.feasible)

pub keep_if-requires-clause-columns : goal.keep_if-requires-clause-columns
keep_if-requires-clause-columns c = columns c.args.self.now c.self.inside.problem.now c.args.s c.args.x.now (sym (ap (λ (f : Found). f.problem) c.self.view_is)) c.self.invariant.limits c.requires.scenario c.requires.feasible ∙ sym (c.self.invariant.columns c.args.s (in_range c.args.self.now c.self.inside.problem.now c.args.s c.args.x.now (sym (ap (λ (f : Found). f.problem) c.self.view_is)) c.self.invariant.limits c.requires.scenario c.requires.feasible))

pub invariant_of-self : goal.invariant_of-self
invariant_of-self c =
    let i = c.self.invariant in
    let p = c.self.inside.problem.now in
    let s : ℕ = c.args.s in
    let x = c.args.x.now in
    let old : List ℕ = c.self.inside.seat.view.offers in
    let points : List Kept = c.self.inside.points in
    let now : List ℕ = c.offer.new.seat.view.offers in
    let wide = c.width-width.ensures.wide.offers in
    let lt = in_range c.args.self.now c.self.inside.problem.now c.args.s c.args.x.now (sym (ap (λ (f : Found). f.problem) c.self.view_is)) c.self.invariant.limits c.requires.scenario c.requires.feasible in
    let in_offers : s < length old = omega (arith, lt, wide, i.words) in
    let in_points : s < length points = omega (arith, lt, i.places) in
    let fits : FitsSigned w64 c.value-value.result = omega (arith, ints, c.value-value.ensures.limit) in
    let real : to_z w64 (of_z w64 c.value-value.result) ≡ c.value-value.result = to_z-of_z w64 c.value-value.result fits in
    let same : code (to_z w64 (of_z w64 c.value-value.result)) ≡ value_code p s x = ap code (real ∙ c.value-value.ensures.value) in
    let view : now ≡ set old s (min (code_at old s) (value_code p s x)) = ap (λ (u : View). u.offers) c.offer.ensures.view ∙ ap (λ (n : ℕ). set old s (min (code_at old s) n)) same in
    let best = c.best.ensures.code in
    let kept : Kept = record { columns = length x; point = Some x } in
    let after : List Kept = c.keep_if.new.self in
    let offers : List ℕ = set old s (min (code_at old s) (value_code p s x)) in
    let own : AreOwn p offers after =
    (λ (d : Bool). elim d as (λ (b : Bool). c.beats-better.result ≡ b → AreOwn p offers after) [
      | true ↦ λ e. (let l = c.beats-better.ensures.less e in subst (λ (ps : List Kept). AreOwn p offers ps) (sym (c.keep_if.ensures.kept e)) (own-kept p old points s in_offers x in_points i.own (feasible c.args.self.now c.self.inside.problem.now c.args.s c.args.x.now (sym (ap (λ (f : Found). f.problem) c.self.view_is)) c.self.invariant.limits c.requires.scenario c.requires.feasible) (omega (arith, l, same, best))))
      | false ↦ λ e. (let m = c.beats-better.ensures.most e in subst (λ (ps : List Kept). AreOwn p offers ps) (sym (c.keep_if.ensures.left e)) (own-left p old points s in_offers (value_code p s x) i.own (omega (arith, m, same, best))))
    ]) c.beats-better.result refl in
    let wide_places : HaveColumns p after =
    (λ (d : Bool). elim d as (λ (b : Bool). c.beats-better.result ≡ b → HaveColumns p after) [
      | true ↦ λ e. subst (λ (ps : List Kept). HaveColumns p ps) (sym (c.keep_if.ensures.kept e)) (columns-kept p points s kept in_points (columns c.args.self.now c.self.inside.problem.now c.args.s c.args.x.now (sym (ap (λ (f : Found). f.problem) c.self.view_is)) c.self.invariant.limits c.requires.scenario c.requires.feasible) i.columns)
      | false ↦ λ e. subst (λ (ps : List Kept). HaveColumns p ps) (sym (c.keep_if.ensures.left e)) i.columns
    ]) c.beats-better.result refl in
    record {
      limits = i.limits;
      words = ap (λ t. t.words) c.offer.ensures.table ∙ i.words;
      places = search rules;
      columns = wide_places;
      number = λ e. i.number (sym (ap (λ (u : View). u.numbers) c.offer.ensures.view) ∙ e);
      own = subst (λ (os : List ℕ). AreOwn p os after) (sym view) own;
    }
