use Rattle.std.proofs.Common.{rules, ◌≡◌, refl}
use Rattle.desk.proofs.Puts.{files_of-set, files_of-push}
use Rattle.desk.proofs.files.put_file.Goals as goal

pub returns-in-Some-clause-ok : goal.returns-in-Some-clause-ok
returns-in-Some-clause-ok c =
    let copied : c.in_ok-bytes.bytes.items ≡ c.args.bytes.now = search rules in
    rw (← copied) (files_of-set c.args.files.now.items c.in-Some.place c.index_mut.result.now _ c.args.name.now (search rules) c.index_mut.ensures.value refl)

pub returns-in_ok-push-in-None-clause-ok : goal.returns-in_ok-push-in-None-clause-ok
returns-in_ok-push-in-None-clause-ok c =
    let copied : c.in_ok-bytes.bytes.items ≡ c.args.bytes.now = search rules in
    rw (c.in_ok-push-in-None.ensures.items, ← copied) (files_of-push c.args.files.now.items _ c.args.name.now (search rules) c.in_ok-name-in-None.ensures.ok)
