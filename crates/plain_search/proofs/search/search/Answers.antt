use Rattle.std.proofs.Common.{◌≡◌, ◌∙◌, sym, ap, subst, arith, rules, None, [], ◌∷◌, ◌++◌, List, Vec, FitsSigned, w64}
use Rattle.std.proofs.lemmas.Int.{ints, to_z-of_z}
use Rattle.std.specs.declared.alloc.Global.{Global}
use Rattle.int_model.specs.Boxes.{Box, Interval}
use Rattle.plain_search.specs.Searches.{Covers, program_over}
use Rattle.plain_search.proofs.SearchLemmas.{covers_more, covers_empty, covers_root, kept_fits}
use Rattle.plain_search.proofs.search.search.Goals as goal
use Rattle.plain_search.proofs.search.search.Goals.{then-not-is_empty+in_ok-push, else-not-is_empty}

pub loop-bounds-init : goal.loop-bounds-init
loop-bounds-init c =
    let p = program_over c.args.problem.now c.args.s c.args.root in
    elim c.if-not-is_empty.branch [
      | then-not-is_empty+in_ok-push w ↦
          let items : c.if-not-is_empty.boxes.items ≡ c.args.root ∷ [] = search rules in
          subst (λ (l : List Box). Covers p l None) (sym items) (covers_root p (sym w.if-not-is_empty.ensures))
      | else-not-is_empty w ↦
          let items : c.if-not-is_empty.boxes.items ≡ [] = search rules in
          subst (λ (l : List Box). Covers p l None) (sym items) (covers_empty p (sym w.if-not-is_empty.ensures))
    ]

pub loop-bounds-preserved : goal.loop-bounds-preserved
loop-bounds-preserved c =
    let p = program_over c.args.problem.now c.args.s c.args.root in
    covers_more p _ _ _ _ _ (subst (λ bs. Covers p bs c.loop-bounds.best) c.in-Some.ensures.items c.loop-bounds.invariant) c.in_ok-visit.ensures
