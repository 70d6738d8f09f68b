use Rattle.std.proofs.Common.{◌∙◌, sym, ap}
use Rattle.std.specs.Option.{option_map}
use Rattle.num_text.specs.Words.{last_of}
use Rattle.mps_reader.specs.Sections.{word_of}
use Rattle.mps_reader.proofs.HeaderLemmas.{last_of-map, last_of-get}
use Rattle.mps_reader.proofs.header.Headers.last.Goals as goal

pub returns : goal.returns
returns c =
    let xs = c.args.self.now.seen.items in
    ap (option_map word_of) (c.copied.ensures ∙ c.last.ensures.value ∙ last_of-get c.deref.result.now ∙ ap last_of c.deref.ensures.value) ∙ sym (last_of-map word_of xs)
