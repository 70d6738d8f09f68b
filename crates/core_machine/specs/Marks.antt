-- The marks of the code as marks of a tree in the making.
use Rattle.bb_core.specs.Coverage.{Mark as Standing, Closed, Open, Held}
use Rattle.core_machine.specs.declared.slot.Mark.{Mark}
use Rattle.core_machine.specs.declared.slot.Mark.TheVariants.{Open as IsOpen, Held as IsHeld, Closed as IsClosed}

abbrev pub mark_of : Mark → Standing
mark_of IsOpen = Open
mark_of (IsHeld actor) = Held actor
mark_of IsClosed = Closed
