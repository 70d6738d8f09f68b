use Rattle.std.proofs.Common.{◌≡◌, ◌∙◌, ap, sym, ℤ, List, length, pos, get_or, refl}
use Rattle.std.specs.Int.{int_max, int_min}
use Rattle.std.specs.Vec.{with_items}
use Rattle.std.proofs.lemmas.List.{with_items_is}
use Rattle.int_model.specs.Boxes.{box_of, meet}
use Rattle.int_model.proofs.SideLemmas.{length-sides}
use Rattle.int_model.proofs.JoinLemmas.{AreJoined, AreSidesOf, meet-facts}
use Rattle.int_model.proofs.point_box.PointBox.meet.Goals as goal

pub raise-requires : goal.raise-requires
raise-requires c = ap length c.deref_mut.ensures.value ∙ sym (length-sides _ _ c.args.self.now c.self.invariant c.self.view_is) ∙ c.requires.low_count

pub lower-requires : goal.lower-requires
lower-requires c = ap length c.deref_mut-2.ensures.value ∙ sym c.self.invariant.same_length ∙ sym (length-sides _ _ c.args.self.now c.self.invariant c.self.view_is) ∙ c.requires.high_count

facts : (c : goal.After-self-2-1) → AreSidesOf (meet c.args.self.now (box_of c.args.lows.now c.args.highs.now)) (with_items c.self.inside.lows c.raise.new.items).items (with_items c.self.inside.highs c.lower.new.items).items
facts c =
    let count = length-sides c.self.inside.lows.items c.self.inside.highs.items c.args.self.now c.self.invariant c.self.view_is in
    let low_count : length c.raise.new.items ≡ length c.self.inside.lows.items = c.raise.ensures.count ∙ ap length c.deref_mut.ensures.value in
    let high_count : length c.lower.new.items ≡ length c.self.inside.highs.items = c.lower.ensures.count ∙ ap length c.deref_mut-2.ensures.value in
    let new_lows = with_items_is c.self.inside.lows c.raise.new.items (c.raise.ensures.count ∙ c.deref_mut.ensures.len) in
    let new_highs = with_items_is c.self.inside.highs c.lower.new.items (c.lower.ensures.count ∙ c.deref_mut-2.ensures.len) in
    let sides : AreJoined int_max int_min c.self.inside.lows.items c.self.inside.highs.items c.args.lows.now c.args.highs.now (with_items c.self.inside.lows c.raise.new.items).items (with_items c.self.inside.highs c.lower.new.items).items = record {
      same_length = sym count ∙ c.requires.low_count;
      low_count = ap length new_lows ∙ low_count;
      high_count = ap length new_highs ∙ high_count;
      low_ends = λ k. ap (λ (xs : List ℤ). get_or xs k (pos 0)) new_lows ∙ c.raise.ensures.items k ∙ ap (λ (xs : List ℤ). int_max (get_or xs k (pos 0)) (get_or c.args.lows.now k (pos 0))) c.deref_mut.ensures.value;
      high_ends = λ k. ap (λ (xs : List ℤ). get_or xs k (pos 0)) new_highs ∙ c.lower.ensures.items k ∙ ap (λ (xs : List ℤ). int_min (get_or xs k (pos 0)) (get_or c.args.highs.now k (pos 0))) c.deref_mut-2.ensures.value;
    } in
    meet-facts _ _ _ _ _ _ c.args.self.now (box_of c.args.lows.now c.args.highs.now) (record { sides = c.self.invariant; value = c.self.view_is }) (record { sides = record { same_length = sym c.requires.low_count ∙ c.requires.high_count; small_lows = c.requires.lows; small_highs = c.requires.highs }; value = refl }) sides

pub invariant_of-self : goal.invariant_of-self
invariant_of-self c = (facts c).sides

pub returns : goal.returns
returns c = (facts c).value
