use Rattle.std.proofs.Common.{◌≡◌, ◌<◌, ◌∙◌, sym, subst, ap, arith, length, ℕ, ℤ, List, Option}
use Rattle.std.proofs.lemmas.List.Elements.{All-contains}
use Rattle.scenario_changes.specs.Problems.{Scenarios, AreWithin, problem}
use Rattle.certs.specs.declared.cert.Cert.{Cert}
use Rattle.certs.specs.declared.verdict.Verdict.{Verdict}
use Rattle.bb_core.specs.Settlements.{Work}
use Rattle.bb_core.specs.Shared.{work_of, stay_of}
use Rattle.incumbent_words.specs.Rule.{code_at, note_of, HasAll}
use Rattle.incumbent_words.specs.declared.view.View.{View}
use Rattle.finder.specs.Found.{Found, IsSound}
use Rattle.node_work.specs.Probes.{IsGoodProbe}
use Rattle.node_work.specs.Stayers.{AreStayers}
use Rattle.alone_run.specs.Turns.{IsProbed}
use Rattle.alone_run.proofs.BestLaws.{all_held, holder_back}
use Rattle.alone_run.proofs.TurnLaws.{good_below, offered_still, cuts_reached}
use Rattle.alone_run.proofs.turning.turn.Goals as goal

pub decide-requires-clause-good : goal.decide-requires-clause-good
decide-requires-clause-good c =
    good_below (problem c.args.problem.now) (work_of c.args.work) c.in_ok-made.made.cert c.in_ok-made.made.verdicts c.in_ok-made.made.found.items c.in_ok-made-2.field-0.items c.requires.live c.in_ok-made-2.ensures.points c.in_ok-made.ensures.good

pub decide-requires-clause-cuts : goal.decide-requires-clause-cuts
decide-requires-clause-cuts c =
    let p : Scenarios = c.args.problem.now in
    let f : Found = c.look_at.new.finder in
    let good : IsGoodProbe (problem p) (work_of c.args.work) c.in_ok-made.made.cert c.in_ok-made.made.verdicts c.in_ok-made-2.field-0.items = good_below (problem p) (work_of c.args.work) c.in_ok-made.made.cert c.in_ok-made.made.verdicts c.in_ok-made.made.found.items c.in_ok-made-2.field-0.items c.requires.live c.in_ok-made-2.ensures.points c.in_ok-made.ensures.good in
    let posed : f.problem ≡ p = c.look_at.ensures.looked.same.problem ∙ (c.offer_all.ensures.finder.same.problem ∙ (c.read_words.ensures.same.problem ∙ c.requires.problem)) in
    let sound : IsSound f = subst IsSound c.in_ok-note.ensures.same c.in_ok-note.ensures.sound in
    let limits : AreWithin (problem p) = subst (λ (q : Scenarios). AreWithin (problem q)) posed sound.limits in
    let caps : c.in_ok-note.note.view.caps ≡ f.seat.view.caps = ap (λ (v : View). v.caps) (c.in_ok-note.ensures.note).1 in
    rw c.deref.ensures.value (cuts_reached p f c.in_ok-made-2.field-0.items c.in_ok-note.note.view.caps c.in_ok-cuts.cuts.items posed limits c.in_ok-cuts.ensures.wide caps c.in_ok-cuts.ensures.cuts good.are_found c.in_ok-made-2.ensures.points.below (offered_still c.offer_all.new.finder f c.in_ok-made-2.field-0.items c.look_at.ensures.looked c.in_ok-made-2.ensures.offered))

pub returns-clause-turn : goal.returns-clause-turn
returns-clause-turn c =
    let p = problem c.args.problem.now in
    let w : Work = work_of c.args.work in
    let s = c.in_ok-settlement.settlement in
    let d = c.in_ok-settlement.ensures in
    let f : Found = c.look_at.new.finder in
    let g : Found = c.note.new.self in
    let same : g ≡ f = c.in_ok-note.ensures.same in
    let note = c.in_ok-note.ensures.note in
    let probed : IsProbed p w c.in_ok-made.made.cert c.in_ok-made.made.verdicts = record { found = c.in_ok-made.made.found.items; good = c.in_ok-made.ensures.good; ascent = c.in_ok-made.ensures.ascent; best = c.in_ok-made.ensures.best } in
    let caps : c.in_ok-note.note.view.caps ≡ f.seat.view.caps = ap (λ (v : View). v.caps) note.1 in
    let stay : AreStayers p w c.in_ok-made.made.cert c.in_ok-made.made.verdicts c.in_ok-cuts.cuts.items (stay_of s.outcome) = subst (λ (cs : List (Option ℤ)). AreStayers p w c.in_ok-made.made.cert c.in_ok-made.made.verdicts cs (stay_of s.outcome)) c.deref.ensures.value d.stay in
    record {
      its_work = d.work;
      lawful = d.lawful;
      probed = subst (λ (cert : Cert). IsProbed p w cert s.verdicts) (sym d.cert) (subst (λ (vs : List Verdict). IsProbed p w c.in_ok-made.made.cert vs) (sym d.verdicts) probed);
      cuts = c.in_ok-cuts.cuts.items;
      are_caps = c.in_ok-cuts.ensures.cuts;
      stay = subst (λ (cert : Cert). AreStayers p w cert s.verdicts c.in_ok-cuts.cuts.items (stay_of s.outcome)) (sym d.cert) (subst (λ (vs : List Verdict). AreStayers p w c.in_ok-made.made.cert vs c.in_ok-cuts.cuts.items (stay_of s.outcome)) (sym d.verdicts) stay);
      table = note.0 ∙ ap (λ (h : Found). h.seat.table) (sym same);
      view = note.1 ∙ ap (λ (h : Found). note_of h.seat.view) (sym same);
      known = λ all k here.
          (let lt : k < length p.scenarios = All-contains (λ j. j < length p.scenarios) w.live k c.requires.live here in
          let wide = c.in_ok-cuts.ensures.wide in
          let long : length c.in_ok-note.note.view.caps ≡ length f.seat.view.caps = ap (λ (cs : List ℕ). length cs) caps in
          let below : k < length f.seat.view.caps = omega (arith, wide, long, lt) in
          let all_f : HasAll f.seat.view = subst (λ (h : Found). HasAll h.seat.view) same all in
          let all_e : HasAll c.offer_all.new.finder.seat.view = all_held f c.offer_all.new.finder (holder_back c.offer_all.new.finder f c.look_at.ensures.looked.same) all_f in
          ap (λ (cs : List ℕ). code_at cs k) caps ∙ (c.look_at.ensures.known all_e k here below ∙ ap (λ (h : Found). code_at h.seat.view.offers k) (sym same)));
    }
