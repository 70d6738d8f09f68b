-- What a reader of words answers.
use Rattle.std.specs.Prelude.{◌≡◌, List, Option, Some, None, Result, Ok, Err}
use Rattle.tree_log.specs.declared.fault.Fault.{Fault}
use Rattle.tree_log.specs.declared.fault.Fault.TheVariants.{Spelling, Memory}

-- what is said, or that nothing is; want of memory may come at any time
abbrev pub Reads : {X : Type 0} → Option X → Result X Fault → Type 0
Reads o (Ok x) = o ≡ Some x
Reads o (Err Spelling) = o ≡ None
Reads o (Err Memory) = Unit {0}

-- the new list is as wanted, or memory was wanting
abbrev pub IsPushed : {X : Type 0} → List X → List X → Result (Unit {0}) Fault → Type 0
IsPushed wanted new (Ok _) = new ≡ wanted
IsPushed wanted new (Err Spelling) = ⊥
IsPushed wanted new (Err Memory) = Unit {0}
