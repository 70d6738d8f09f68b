use Rattle.std.proofs.Common.{◌≡◌, ◌∙◌, ap, sym, rules, arith, Some, ◌-◌, ◌≤◌, unsigned_abs, FitsSigned}
use Rattle.std.proofs.lemmas.Int.{ints, to_z-of_z}
use mir.Syntax.{w32}
use Rattle.tree_log.specs.LineWords.{below_of, within_of}
use Rattle.tree_log.proofs.ReaderLemmas.{head_read}
use Rattle.tree_log.proofs.node_lines.head_of.Goals as goal

pub returns : goal.returns
returns c =
    let limited : below_of c.saturating_sub.result c.args.child.now ≡ Some c.in_ok-child.child = search rules in
    let child : below_of (c.args.nodes - 1) c.args.child.now ≡ Some c.in_ok-child.child = ap (λ n. below_of n c.args.child.now) (sym c.saturating_sub.ensures) ∙ limited in
    let column : below_of c.args.columns c.args.column.now ≡ Some c.in_ok-column.column = search rules in
    let value : within_of 1000000 c.args.value.now ≡ Some c.in_ok-value.value = search rules in
    let limit : unsigned_abs c.in_ok-value.value ≤ 1000000 = search rules in
    let fits : FitsSigned w32 c.in_ok-value.value = omega (arith, ints) in
    let made = simp to_z-of_z at c.head_at.ensures in
    made ∙ head_read c.args.columns c.args.nodes c.in_ok-child.child c.in_ok-column.column c.in_ok-value.value c.args.child.now c.args.column.now c.args.value.now child column value
