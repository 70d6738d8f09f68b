use Rattle.rand_pcg.specs.Pcg.{pcg32}
use Rattle.model_gen.proofs.DrawLemmas.{words_begun, words_more, words_ended}
use Rattle.model_gen.proofs.words.draw_words.Goals as goal

pub loop-k-init : goal.loop-k-init
loop-k-init c = words_begun pcg32 _ _ c.args.count _ c.seed_from_u64-generator.ensures c.new-words.ensures.items

pub loop-k-preserved : goal.loop-k-preserved
loop-k-preserved c = words_more pcg32 _ _ _ c.loop-k.k c.args.count _ _ _ c.loop-k-test.true c.next_word.ensures c.loop-k.invariant c.in_ok-push.ensures.items

pub returns : goal.returns
returns c = words_ended pcg32 _ c.loop-k.k c.args.count _ _ c.loop-k-test.false c.loop-k.invariant
