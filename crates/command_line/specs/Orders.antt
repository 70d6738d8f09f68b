-- What a command asks for.
use Rattle.std.specs.Prelude.{◌≡◌, ℕ, ◌≤◌, List, Some, None, option_map, Result, Ok, Err}
use Rattle.command_line.specs.Words.{Order, solve, check, generate, command_of}
use Rattle.command_line.specs.declared.command.Command.{Command}
use Rattle.command_line.specs.declared.command.Command.TheVariants.{Solve, Check, Gen}
use Rattle.command_line.specs.declared.command.UsageError.{UsageError}

abbrev pub order_of : Command → Order
order_of (Solve model changes workers nodes log) =
    solve (record { model = model.now; changes = option_map (λ c. c.now) changes }) (record { workers = workers; nodes = nodes; log = option_map (λ l. l.now) log })
order_of (Check model changes log) = check (record { model = model.now; changes = option_map (λ c. c.now) changes }) log.now
order_of (Gen seed columns rows scenarios) = generate seed columns rows scenarios

-- the numbers of a command lie in their ranges
abbrev pub AreInRange : Order → Type 0
AreInRange (solve inputs options) = (1 ≤ options.workers) × (options.workers ≤ 64) × (1 ≤ options.nodes) × (options.nodes ≤ 100001)
AreInRange (check inputs log) = Unit {0}
AreInRange (generate seed columns rows scenarios) = (1 ≤ columns) × (columns ≤ 1000) × (rows ≤ 1000) × (scenarios ≤ 64)

-- the answer is the command that the words say, and a refusal where they say none
abbrev pub Means : List (List ℕ) → Result Command UsageError → Type 0
Means words (Ok command) = command_of words ≡ Some (order_of command)
Means words (Err e) = command_of words ≡ None
