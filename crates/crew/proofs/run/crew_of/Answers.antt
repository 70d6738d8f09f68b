use Rattle.std.proofs.Common.{◌≡◌, ◌<◌, List, length, All, sym, ap, ◌∙◌, subst, rules}
use Rattle.scenario_changes.specs.Problems.{Problem}
use Rattle.finder.specs.Found.{Found, IsSound}
use Rattle.open_pool.specs.Pooled.{begun}
use Rattle.crew.specs.Crews.{IsAsGood, IsCrewRun}
use Rattle.crew.proofs.CrewLaws.{if_ok}
use Rattle.crew.proofs.Merging.{words_fit, workers_of, ended_of, ended_all, ended_good}
use Rattle.crew.proofs.run.crew_of.Goals as goal

pub new-requires-clause-words : goal.new-requires-clause-words
new-requires-clause-words g c =
    let sound : All IsSound c.args.finders.items = subst (λ (l : List Found). All IsSound l) c.deref.ensures.value c.know_all.ensures in
    let some : 0 < length c.args.finders.items = search rules in
    ap (λ z. z.words) (sym c.requires.table) ∙ (words_fit c.args.words.now c.args.problem.now c.args.finders.items c.requires.of sound some ∙ ap (λ (p : Problem). length p.scenarios) c.requires.problem)

pub work_all-requires-clause-workers : goal.work_all-requires-clause-workers
work_all-requires-clause-workers g c κs within k d lt =
    workers_of c.args.words.now c.args.problem.now c.in_ok-workers.workers.items c.args.finders.items (c.in_ok-workers.ensures.same ∙ c.first_note.ensures.same) c.requires.of k d lt

pub merge_all-finder-requires-clause-of : goal.merge_all-finder-requires-clause-of
merge_all-finder-requires-clause-of g c =
    let len : length c.in_ok-ended.ended.items ≡ length c.in_ok-workers.workers.items = search rules in
    ended_of c.in_ok-workers.workers.items c.args.finders.items c.in_ok-ended.ended.items (c.in_ok-workers.ensures.same ∙ c.first_note.ensures.same) len c.in_ok-ended.ensures.finders c.args.words.now c.args.problem.now c.requires.of

pub finish-requires-clause-all : goal.finish-requires-clause-all
finish-requires-clause-all g c =
    let len : length c.in_ok-ended.ended.items ≡ length c.in_ok-workers.workers.items = search rules in
    c.merge_all-finder.ensures.all (ended_all c.in_ok-workers.workers.items c.args.finders.items c.in_ok-ended.ended.items (c.in_ok-workers.ensures.same ∙ c.first_note.ensures.same) len c.in_ok-ended.ensures.finders c.requires.all)

pub returns : goal.returns
returns g c =
    let m : Found = c.merge_all-finder.result in
    let sound : All IsSound c.args.finders.items = subst (λ (l : List Found). All IsSound l) c.deref.ensures.value c.know_all.ensures in
    let len : length c.in_ok-ended.ended.items ≡ length c.in_ok-workers.workers.items = search rules in
    let good : All (IsAsGood m) c.args.finders.items = ended_good c.in_ok-workers.workers.items c.args.finders.items c.in_ok-ended.ended.items (c.in_ok-workers.ensures.same ∙ c.first_note.ensures.same) len c.in_ok-ended.ensures.finders m c.merge_all-finder.ensures.best in
    let p : Problem = g.B.Run.problem in
    if_ok c.finish.result _ (λ e. IsCrewRun p (begun p g.B.Run.nodes) c.args.finders.items e.answers e.tree) (λ e run k d lt. run _ (sound k d lt) (good k d lt)) c.finish.ensures
