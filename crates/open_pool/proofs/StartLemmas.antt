-- The levels where the searches of all scenarios start.
use Rattle.std.specs.Prelude.{◌≡◌, ℕ, List, length, map, Option}
use Rattle.std.specs.List.{range_with_len}
use Rattle.std.proofs.Common.{arith, ap, ◌∙◌}
use Rattle.int_model.specs.Boxes.{Box}
use Rattle.int_model.specs.Programs.{Program}
use Rattle.scenario_changes.specs.Problems.{Problem, root_box}
use Rattle.certs.specs.Verdicts.{start_level}
use Rattle.certs.specs.declared.level.Level.{Level}
use Rattle.live_sets.proofs.RisingLists.{in_range-from}
use Rattle.certs.specs.Trees.{of_live}
use Rattle.bb_core.specs.Coverage.{open_at, root_slot}
use Rattle.certs.proofs.SetLemmas.{in_any}
use Rattle.certs.proofs.ArrivalLemmas.{live_all}

pub root_is : (p : Problem) (box : Box) (live : List ℕ) (levels : List Level) (count : ℕ) → count ≡ length p.scenarios → box ≡ root_box p.scenarios → live ≡ range_with_len 0 count → levels ≡ map (λ (s : Program). start_level (root_box p.scenarios) s) p.scenarios → open_at box (of_live live 0 levels) ≡ root_slot p
root_is p box live levels count n b l e =
    let all = live_all (range_with_len 0 count) 0 (λ (s : Program). start_level (root_box p.scenarios) s) p.scenarios (λ k a c. in_any k (range_with_len 0 count) (in_range-from 0 count k a (omega (arith, c, n)))) in
    ap (λ (x : Box). open_at x (of_live live 0 levels)) b
    ∙ ap (λ (ks : List ℕ). open_at (root_box p.scenarios) (of_live ks 0 levels)) l
    ∙ ap (λ (ls : List Level). open_at (root_box p.scenarios) (of_live (range_with_len 0 count) 0 ls)) e
    ∙ ap (λ (ls : List (Option Level)). open_at (root_box p.scenarios) ls) all
