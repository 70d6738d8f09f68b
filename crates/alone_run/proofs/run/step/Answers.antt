use Rattle.std.proofs.Common.{◌≡◌, subst, inl, inr}
use Rattle.bb_core.specs.Shared.{settlement_of}
use Rattle.open_pool.specs.Claims.{IsClaim, IsSettled}
use Rattle.open_pool.specs.declared.pool.Settled.{Settled}
use Rattle.open_pool.specs.declared.pool.Settled.TheVariants.{Closed, Split, Halted, Stray}
use Rattle.alone_run.specs.Steps.{IsReady, GoesOn, IsOver}
use Rattle.alone_run.proofs.StepLaws.{IsTurned, closed_step, split_step, halted_step, never_stray}
use Rattle.alone_run.proofs.run.step.Goals as goal

recorded : (c : goal.In-Closed) → IsTurned c.args.problem.now c.args.words.now c.args.pool.now c.claim.new.self c.lower_caps.new.pool c.args.finder.now c.turn.new.finder c.absorb.new.self c.in-Node.work c.in_ok-settlement-in-Node.settlement c.in_ok-settlement-in-Node.note
recorded c = record {
  ready = c.requires;
  claim = subst (IsClaim c.args.pool.now c.claim.new.self) c.in-Node.is c.in_ok-work.ensures.ok;
  many = c.lower_caps.ensures.count;
  first_sound = c.knows.ensures;
  sound = c.knows-in-Node.ensures;
  worse = c.in_ok-settlement-in-Node.ensures.finder;
  turn = c.in_ok-settlement-in-Node.ensures.turn;
  same = c.lower_caps.ensures.same;
  lowered = c.lower_caps.ensures.caps;
  holder = c.absorb.ensures.same;
  points = c.absorb.ensures.points;
  noted = c.absorb.ensures.caps;
}

kept_back : (c : goal.In-Halted) → IsTurned c.args.problem.now c.args.words.now c.args.pool.now c.claim.new.self c.lower_caps.new.pool c.args.finder.now c.turn.new.finder c.absorb.new.self c.in-Node.work c.in_ok-settlement-in-Node.settlement c.in_ok-settlement-in-Node.note
kept_back c = record {
  ready = c.requires;
  claim = subst (IsClaim c.args.pool.now c.claim.new.self) c.in-Node.is c.in_ok-work.ensures.ok;
  many = c.lower_caps.ensures.count;
  first_sound = c.knows.ensures;
  sound = c.knows-in-Node.ensures;
  worse = c.in_ok-settlement-in-Node.ensures.finder;
  turn = c.in_ok-settlement-in-Node.ensures.turn;
  same = c.lower_caps.ensures.same;
  lowered = c.lower_caps.ensures.caps;
  holder = c.absorb.ensures.same;
  points = c.absorb.ensures.points;
  noted = c.absorb.ensures.caps;
}

settled_as : (c : goal.In-Closed) (r : Settled) → c.settle.result ≡ r → IsSettled c.lower_caps.new.pool (settlement_of c.in_ok-settlement-in-Node.settlement) c.settle.new.self r
settled_as c r e = subst (IsSettled c.lower_caps.new.pool (settlement_of c.in_ok-settlement-in-Node.settlement) c.settle.new.self) e c.settle.ensures

kept_as : (c : goal.In-Halted) (r : Settled) → c.settle.result ≡ r → IsSettled c.lower_caps.new.pool (settlement_of c.in_ok-settlement-in-Node.settlement) c.settle.new.self r
kept_as c r e = subst (IsSettled c.lower_caps.new.pool (settlement_of c.in_ok-settlement-in-Node.settlement) c.settle.new.self) e c.settle.ensures

goes_on : (c : goal.In-Closed) → IsReady c.args.problem.now c.args.words.now c.settle.new.self c.absorb.new.self × GoesOn c.args.pool.now c.settle.new.self
goes_on c = elim c.in-Closed.is [
  | inl e ↦ closed_step _ _ _ _ _ _ _ _ _ _ _ (recorded c) c.settle.new.self (settled_as c Closed e)
  | inr e ↦ split_step _ _ _ _ _ _ _ _ _ _ _ (recorded c) c.settle.new.self (settled_as c Split e)
]

is_over : (c : goal.In-Halted) → IsReady c.args.problem.now c.args.words.now c.settle.new.self c.absorb.new.self × IsOver c.args.pool.now c.settle.new.self
is_over c = elim c.in-Halted.is [
  | inl e ↦ halted_step _ _ _ _ _ _ _ _ _ _ _ (kept_back c) c.settle.new.self (kept_as c Halted e)
  | inr e ↦ absurd (never_stray _ _ _ _ _ _ _ _ _ _ _ (kept_back c) c.settle.new.self (kept_as c Stray e))
]

pub returns-in-Closed-clause-ready : goal.returns-in-Closed-clause-ready
returns-in-Closed-clause-ready c = (goes_on c).0

pub returns-in-Closed-clause-on : goal.returns-in-Closed-clause-on
returns-in-Closed-clause-on c e = (goes_on c).1

pub returns-in-Halted-clause-ready : goal.returns-in-Halted-clause-ready
returns-in-Halted-clause-ready c = (is_over c).0

pub returns-in-Halted-clause-over : goal.returns-in-Halted-clause-over
returns-in-Halted-clause-over c e = (is_over c).1
