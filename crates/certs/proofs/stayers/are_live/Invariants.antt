use Rattle.std.proofs.Common.{◌≡◌, ◌++◌, true}
use Rattle.std.specs.List.{list_all}
use Rattle.certs.specs.Trees.{is_live}
use Rattle.certs.specs.Trees.{of_live}
use Rattle.certs.proofs.stayers.are_live.Given as goal

abbrev pub invariant-loop-s : goal.invariant-loop-s
invariant-loop-s l = record {
  whole : l.yielded ++ l.s-iterator ≡ l.fn.stay;
  so_far : list_all (is_live (of_live l.live 0 l.levels)) l.yielded ≡ true;
}
