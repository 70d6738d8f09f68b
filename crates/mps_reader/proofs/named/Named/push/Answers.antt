use Rattle.std.proofs.Common.{◌≡◌, ◌∙◌, sym, arith, false}
use Rattle.std.specs.Prelude.{bytes_eq}
use Rattle.std.specs.List.{list_any}
use Rattle.std.proofs.lemmas.Grind.{common_steps}
use Rattle.mps_reader.proofs.NamedLemmas.{found_by_text}
use Rattle.mps_reader.proofs.named.Named.push.Goals as goal

pub invariant_of-self-2 : goal.invariant_of-self-2
invariant_of-self-2 g c =
    let none : list_any (λ k. bytes_eq c.args.name.now k.now) c.args.self.now.names.keys ≡ false = sym (found_by_text c.args.name.now c.args.self.now.names.keys) ∙ c.requires in
    record { same_length = grind (arith, common_steps) }
