-- What the fields of a pool stand for, and what they keep.
use Rattle.scenario_changes.specs.Problems as problems
use Rattle.std.specs.Prelude.{◌≡◌, ◌≤◌, ◌*◌, [], true, length}
use Rattle.std.proofs.Common.{vec_len, vec_capacity}
use Rattle.bb_core.specs.Coverage.{Covers}
use Rattle.scenario_changes.specs.Problems.{AreWithin}
use Rattle.open_pool.specs.Agenda.{AreFirsts}
use Rattle.open_pool.specs.Ends.{AreEnds}
use Rattle.open_pool.specs.Judged.{IsScratch, AreWide}
use Rattle.open_pool.specs.Pooled.{Pooled, IsFull}
use Rattle.open_pool.specs.declared.pool.Pool.TheInside.{Inside}

abbrev pub pooled : Inside → Pooled
pooled a = record { problem = problems.problem a.problem.now; slots = a.slots.items; caps = a.caps.items; nodes = a.nodes; stopped = a.stopped; halted = a.halted }

pub record IsSound (a : Inside) : Type 0 where
  pub right : AreWithin (problems.problem a.problem.now)
  pub covered : Covers (problems.problem a.problem.now) a.slots.items a.caps.items
  pub caps : length a.caps.items ≡ length (problems.problem a.problem.now).scenarios
  pub many : length a.ends.items ≡ length (problems.problem a.problem.now).scenarios
  pub ends : AreEnds (problems.problem a.problem.now) a.slots.items a.ends.items
  pub few : a.nodes ≤ 100001
  pub within : vec_len a.slots ≤ a.nodes
  pub room : a.nodes ≤ vec_capacity a.slots
  pub spare : a.spare.items ≡ []
  pub spare_room : a.nodes ≤ vec_capacity a.spare
  pub firsts : AreFirsts a.slots.items a.agenda.firsts.items
  pub blocks : a.nodes ≤ length a.agenda.firsts.items * 128
  pub scratch : IsScratch (problems.problem a.problem.now).columns (length (problems.problem a.problem.now).scenarios) a.scratch
  pub wide : AreWide (problems.problem a.problem.now).columns a.slots.items
  pub full : a.halted ≡ true → IsFull (problems.problem a.problem.now) a.nodes (length a.slots.items)
