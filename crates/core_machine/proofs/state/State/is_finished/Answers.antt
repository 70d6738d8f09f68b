use Rattle.core_machine.proofs.state.State.is_finished.Goals as goal

pub returns-clause-no : goal.returns-clause-no
returns-clause-no c = rw (← c.self.view_is) (λ e. rw c.as_slice.ensures.value at (c.are_closed.ensures.no e))
