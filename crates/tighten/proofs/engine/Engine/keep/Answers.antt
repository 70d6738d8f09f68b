use Rattle.std.proofs.Common.{arith, ◌∙◌, ◌≤◌, ◌++◌, ◌∷◌, [], sym, length, length-append, refl}
use Rattle.std.proofs.lemmas.List.{take-append-le, take_all}
use Rattle.tighten.proofs.engine.Engine.keep.Goals as goal

pub returns-then-len-lt-MOST_STEPS : goal.returns-then-len-lt-MOST_STEPS
returns-then-len-lt-MOST_STEPS c =
    let short : length (c.args.self.now.steps.items ++ c.args.step ∷ []) ≤ 128 = omega (arith, length-append c.args.self.now.steps.items (c.args.step ∷ [])) in
    record {
      lows = refl;
      highs = refl;
      least = refl;
      most = refl;
      spread = refl;
      queue = refl;
      trail = refl;
      steps = c.push_reserved.ensures.items ∙ sym (take_all 128 (c.args.self.now.steps.items ++ c.args.step ∷ []) short);
      room = omega (arith, c.push_reserved.ensures.capacity);
    }

pub returns-else-len-lt-MOST_STEPS : goal.returns-else-len-lt-MOST_STEPS
returns-else-len-lt-MOST_STEPS c =
    let long : 128 ≤ length c.args.self.now.steps.items = omega arith in
    record {
      lows = refl;
      highs = refl;
      least = refl;
      most = refl;
      spread = refl;
      queue = refl;
      trail = refl;
      steps = sym (take-append-le 128 c.args.self.now.steps.items (c.args.step ∷ []) long ∙ take_all 128 c.args.self.now.steps.items c.requires.few);
      room = c.requires.room;
    }
