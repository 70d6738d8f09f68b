use Rattle.scenario_changes.specs.Problems as problems
use Rattle.std.proofs.Common.{◌≡◌, Some, sym, ◌∙◌, w32, FitsSigned}
use Rattle.std.specs.Arc.{arc_value}
use Rattle.std.proofs.lemmas.Int.{to_z-of_z}
use Rattle.certs.specs.Trees.{stayers_hull}
use Rattle.open_pool.proofs.LawfulLaws.{not_inside, not_cut}
use Rattle.open_pool.proofs.lawful.is_hull_split.Goals as goal

pub returns-then-is_inside-clause-yes : goal.returns-then-is_inside-clause-yes
returns-then-is_inside-clause-yes c = λ e.
    let fits : FitsSigned w32 c.args.value = c.ranges.value in
    let inside = simp to_z-of_z at c.is_inside.ensures in
    let cut = simp to_z-of_z at (c.are_cut.ensures.yes e) in
    record {
      within = c.hull_stayers.new.hull;
      hull_is = rw c.deref.ensures at (c.hull_stayers.ensures.yes c.if-not-hull_stayers.false);
      inside = sym inside ∙ c.if-is_inside.true;
      left_is = cut.0;
      right_is = cut.1;
    }

pub returns-then-is_inside-clause-no : goal.returns-then-is_inside-clause-no
returns-then-is_inside-clause-no c = λ e.
    let fits : FitsSigned w32 c.args.value = c.ranges.value in
    let hull : stayers_hull (problems.problem c.args.problem.now) (arc_value c.args.work.now.bounds) c.args.cert.now c.args.stay ≡ Some c.hull_stayers.new.hull = rw c.deref.ensures at (c.hull_stayers.ensures.yes c.if-not-hull_stayers.false) in
    let cut = simp to_z-of_z at (c.are_cut.ensures.no e) in
    not_cut (problems.problem c.args.problem.now) (arc_value c.args.work.now.bounds) c.args.cert.now c.args.stay c.args.column c.args.value c.args.left.now c.args.right.now c.hull_stayers.new.hull hull cut

pub returns-else-is_inside-clause-no : goal.returns-else-is_inside-clause-no
returns-else-is_inside-clause-no c = λ e.
    let fits : FitsSigned w32 c.args.value = c.ranges.value in
    let hull : stayers_hull (problems.problem c.args.problem.now) (arc_value c.args.work.now.bounds) c.args.cert.now c.args.stay ≡ Some c.hull_stayers.new.hull = rw c.deref.ensures at (c.hull_stayers.ensures.yes c.if-not-hull_stayers.false) in
    let inside = simp to_z-of_z at c.is_inside.ensures in
    not_inside (problems.problem c.args.problem.now) (arc_value c.args.work.now.bounds) c.args.cert.now c.args.stay c.args.column c.args.value c.args.left.now c.args.right.now c.hull_stayers.new.hull hull (sym inside ∙ e)
