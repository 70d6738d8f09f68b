use Rattle.std.proofs.Common.{◌≡◌, ◌∙◌, ap, sym, ℤ, List, length, pos, get_or}
use Rattle.std.specs.Int.{int_max, int_min}
use Rattle.std.specs.Vec.{with_items}
use Rattle.std.proofs.lemmas.List.{with_items_is}
use Rattle.int_model.proofs.SideLemmas.{length-sides}
use Rattle.int_model.proofs.JoinLemmas.{AreJoined, AreSidesOf, hull-facts}
use Rattle.int_model.specs.Boxes.{hull}
use Rattle.int_model.proofs.point_box.PointBox.hull.Goals as goal

same_lows : (c : goal.After-deref) → length c.self.inside.lows.items ≡ length c.other.inside.lows.items
same_lows c =
    sym (length-sides _ _ c.args.self.now c.self.invariant c.self.view_is) ∙ c.requires.same_length ∙ length-sides _ _ c.args.other.now c.other.invariant c.other.view_is

pub lower-requires : goal.lower-requires
lower-requires c = ap length c.deref_mut.ensures.value ∙ same_lows c ∙ sym (ap length c.deref.ensures.value)

pub raise-requires : goal.raise-requires
raise-requires c =
    let lows : length c.self.inside.lows.items ≡ length c.other.inside.lows.items =
    sym (length-sides _ _ c.args.self.now c.self.invariant c.self.view_is) ∙ c.requires.same_length ∙ length-sides _ _ c.args.other.now c.other.invariant c.other.view_is in
    ap length c.deref_mut-2.ensures.value ∙ sym c.self.invariant.same_length ∙ lows ∙ c.other.invariant.same_length ∙ sym (ap length c.deref-2.ensures.value)

facts : (c : goal.After-self-2-1) → AreSidesOf (hull c.args.self.now c.args.other.now) (with_items c.self.inside.lows c.lower.new.items).items (with_items c.self.inside.highs c.raise.new.items).items
facts c =
    let lows : length c.self.inside.lows.items ≡ length c.other.inside.lows.items =
    sym (length-sides _ _ c.args.self.now c.self.invariant c.self.view_is) ∙ c.requires.same_length ∙ length-sides _ _ c.args.other.now c.other.invariant c.other.view_is in
    let low_count : length c.lower.new.items ≡ length c.self.inside.lows.items = c.lower.ensures.count ∙ ap length c.deref_mut.ensures.value in
    let high_count : length c.raise.new.items ≡ length c.self.inside.highs.items = c.raise.ensures.count ∙ ap length c.deref_mut-2.ensures.value in
    let new_lows = with_items_is c.self.inside.lows c.lower.new.items (c.lower.ensures.count ∙ c.deref_mut.ensures.len) in
    let new_highs = with_items_is c.self.inside.highs c.raise.new.items (c.raise.ensures.count ∙ c.deref_mut-2.ensures.len) in
    let sides : AreJoined int_min int_max c.self.inside.lows.items c.self.inside.highs.items c.other.inside.lows.items c.other.inside.highs.items (with_items c.self.inside.lows c.lower.new.items).items (with_items c.self.inside.highs c.raise.new.items).items = record {
      same_length = lows;
      low_count = ap length new_lows ∙ low_count;
      high_count = ap length new_highs ∙ high_count;
      low_ends = λ k. ap (λ (xs : List ℤ). get_or xs k (pos 0)) new_lows ∙ c.lower.ensures.items k ∙ ap (λ (xs : List ℤ). int_min (get_or xs k (pos 0)) (get_or c.deref.result.now k (pos 0))) c.deref_mut.ensures.value ∙ ap (λ (xs : List ℤ). int_min (get_or c.self.inside.lows.items k (pos 0)) (get_or xs k (pos 0))) c.deref.ensures.value;
      high_ends = λ k. ap (λ (xs : List ℤ). get_or xs k (pos 0)) new_highs ∙ c.raise.ensures.items k ∙ ap (λ (xs : List ℤ). int_max (get_or xs k (pos 0)) (get_or c.deref-2.result.now k (pos 0))) c.deref_mut-2.ensures.value ∙ ap (λ (xs : List ℤ). int_max (get_or c.self.inside.highs.items k (pos 0)) (get_or xs k (pos 0))) c.deref-2.ensures.value;
    } in
    hull-facts _ _ _ _ _ _ c.args.self.now c.args.other.now (record { sides = c.self.invariant; value = c.self.view_is }) (record { sides = c.other.invariant; value = c.other.view_is }) sides

pub invariant_of-self : goal.invariant_of-self
invariant_of-self c = (facts c).sides

pub returns : goal.returns
returns c = (facts c).value
