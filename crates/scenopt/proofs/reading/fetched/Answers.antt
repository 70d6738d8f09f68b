use Rattle.std.proofs.Common.{arith, subst, Err, Vec, ℕ}
use Rattle.std.specs.declared.alloc.Global.{Global}
use Rattle.desk.specs.declared.FetchError.{FetchError}
use Rattle.desk.specs.Desk.{NotesName}
use Rattle.scenopt.proofs.RunLemmas.{fetch_lacking}
use Rattle.scenopt.proofs.reading.fetched.Goals as goal

pub returns-in-Err-Memory-clause-err : goal.returns-in-Err-Memory-clause-err
returns-in-Err-Memory-clause-err g c =
    fetch_lacking c.args.input _ _ c.args.name.now _ _ _ _ (subst (λ (e : FetchError). NotesName {T = Vec ℕ Global} (g.D.Desk.view c.args.desk.now).fetched (g.D.Desk.view c.fetch.new.self).fetched c.args.name.now (Err e)) c.in-Err-Memory.field-0-is c.in-Err-Memory.ensures.fetched) c.fetch.ensures.warned (omega (arith, c.fetch.ensures.others)) c.lacking.ensures.others c.lacking.ensures.lacks
