-- What is proved of the answers of a check.
use Rattle.std.specs.Prelude.{◌≡◌}
use Rattle.scenario_changes.specs.Problems.{Problem}
use Rattle.certs.specs.Claims.{Accepted}
use Rattle.tree_log.specs.declared.file.LogFile.{LogFile}
use Rattle.tree_check.specs.Checks.{HasCounts, IsRefused}
use Rattle.tree_check.specs.declared.checking.CheckError.{CheckError}
use Rattle.tree_check.specs.declared.checking.CheckError.TheVariants.{Memory}

-- a log that is refused, but for want of memory, has other counts or isn't accepted
abbrev pub RefusedIsNotAccepted : Type 0
RefusedIsNotAccepted = (p : Problem) (log : LogFile) (e : CheckError) → IsRefused p log e → (e ≡ Memory → ⊥) → HasCounts p log → Accepted p log.answers log.tree → ⊥
