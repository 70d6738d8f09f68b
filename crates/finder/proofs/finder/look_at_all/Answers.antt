use Rattle.std.proofs.Common.{ℕ, ◌<◌, List, length, ap, ◌∙◌, arith, length-set}
use Rattle.incumbent_words.specs.declared.view.View.{View}
use Rattle.incumbent_words.specs.Codes.{code_of}
use Rattle.incumbent_words.specs.Rule.{code_at}
use Rattle.finder.proofs.ViewLemmas.{all-kept, set-lowers, set-known}
use Rattle.finder.proofs.finder.look_at_all.Goals as goal

pub loop-s-preserved : goal.loop-s-preserved
loop-s-preserved c =
    let i = c.loop-s.invariant in
    let s : ℕ = c.loop-s.s in
    let v = c.loop-s.seat.view in
    let first = c.args.seat.now.view in
    let word : ℕ = code_of c.look.result in
    let view = c.look.ensures.view in
    let mine = c.width-s-end.ensures.wide in
    let lt : s < length v.caps = omega (arith, c.loop-s-test.true, c.width-s-end.ensures.words, mine.caps, i.wide) in
    record {
      table = c.look.ensures.table ∙ i.table;
      same = record {
        offers = ap (λ (u : View). u.offers) view ∙ i.same.offers;
        numbers = ap (λ (u : View). u.numbers) view ∙ i.same.numbers;
        leads = ap (λ (u : View). u.leads) view ∙ i.same.leads;
        count = ap (λ (u : View). u.count) view ∙ i.same.count;
      };
      wide = ap (λ (u : View). length u.caps) view ∙ (length-set v.caps s word ∙ i.wide);
      lowered = λ k. (let e = ap (λ (u : View). code_at u.caps k) view in let a = set-lowers v.caps s word lt c.look.ensures.cap k in let b = i.lowered k in omega arith);
      seen = λ all k le.
          ap (λ (u : View). code_at u.caps k) view
          ∙ set-known v.caps first.offers s word lt (c.look.ensures.best (all-kept first v i.same all) ∙ ap (λ (l : List ℕ). code_at l s) i.same.offers) (i.seen all) k le;
    }
