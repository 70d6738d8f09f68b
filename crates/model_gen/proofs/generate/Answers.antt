use Rattle.std.proofs.Common.{arith, ◌≡◌, ◌∙◌, ap, length}
use Rattle.rand_core.specs.Pcg32Seed.{pcg32_seed}
use Rattle.rand_pcg.specs.Pcg.{pcg32, pcg32_of_seed}
use Rattle.model_gen.specs.Draws.{first_word}
use Rattle.model_gen.proofs.DrawLemmas.{length-first_words}
use Rattle.model_gen.proofs.TextLengths.{model_fits, changes_fit}
use Rattle.model_gen.proofs.generate.Goals as goal

pub model_text-requires-clause-words : goal.model_text-requires-clause-words
model_text-requires-clause-words c =
    let all : length c.deref.result.now ≡ first_word c.args.columns c.args.rows c.args.scenarios = ap length (c.deref.ensures.value ∙ c.in_ok-words.ensures) ∙ length-first_words pcg32 _ (pcg32_of_seed (pcg32_seed 16 c.args.seed)) ∙ c.first_word.ensures.value in
    omega (arith, all)

pub changes_text-requires-clause-words : goal.changes_text-requires-clause-words
changes_text-requires-clause-words c =
    let all : length c.deref-2.result.now ≡ first_word c.args.columns c.args.rows c.args.scenarios = ap length (c.deref-2.ensures.value ∙ c.in_ok-words.ensures) ∙ length-first_words pcg32 _ (pcg32_of_seed (pcg32_seed 16 c.args.seed)) ∙ c.first_word.ensures.value in
    omega (arith, all)

pub returns-clause-model_length : goal.returns-clause-model_length
returns-clause-model_length c = model_fits _ c.deref.result.now c.args.columns c.args.rows c.in_ok-model.ensures c.requires.columns c.requires.rows

pub returns-clause-changes_length : goal.returns-clause-changes_length
returns-clause-changes_length c = changes_fit _ c.deref-2.result.now c.args.columns c.args.rows c.args.scenarios c.in_ok-changes.ensures c.requires.some c.requires.columns c.requires.rows c.requires.scenarios
