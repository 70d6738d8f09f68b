-- The root box of a scenario.
use Rattle.std.proofs.Common.{◌≡◌, ◌∙◌, ap, subst, sym, refl, ℤ, List, [], ◌∷◌, map}
use Rattle.int_model.specs.Boxes.{Box, Interval, box_of, InBox}
use Rattle.dive.specs.Dives.{LiesIn}

sides-back : (b : Box) → box_of (map (λ (i : Interval). i.low) b) (map (λ (i : Interval). i.high) b) ≡ b
sides-back [] = refl
sides-back (i ∷ b) = ap (λ (c : Box). i ∷ c) (sides-back b)

pub root-lies : (b root : Box) (lows highs : List ℤ) → lows ≡ map (λ (i : Interval). i.low) b → highs ≡ map (λ (i : Interval). i.high) b → root ≡ box_of lows highs → LiesIn root b
root-lies b root lows highs e f g =
    let same : root ≡ b = g ∙ ap (λ (l : List ℤ). box_of l highs) e ∙ ap (λ (h : List ℤ). box_of (map (λ (i : Interval). i.low) b) h) f ∙ sides-back b in
    subst (λ (c : Box). LiesIn c b) (sym same) (λ x i. i)
