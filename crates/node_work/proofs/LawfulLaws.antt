-- Lawful settlements by their parts.
use Rattle.std.specs.Prelude.{◌≡◌, ℕ, suc, ◌+◌, ◌<◌, ℤ, List, Bool, true, ◌&&◌, nat_lt, Option, Some, is_some, refl}
use Rattle.std.specs.List.{list_all}
use Rattle.std.proofs.Common.{arith, ap, sym, ◌∙◌, subst}
use Rattle.std.proofs.lemmas.Bool.{and_from}
use Rattle.std.proofs.lemmas.Bool.Decides.{nat_tests}
use Rattle.int_model.specs.Boxes.{Box, below_cut, above_cut}
use Rattle.scenario_changes.specs.Problems.{Problem}
use Rattle.certs.specs.Trees.{raised, cert_fits, is_live, is_rising, stayers_hull, splits_inside, kept, two_places}
use Rattle.bb_core.specs.Settlements.{Work, Outcome, Close, Branch, IsLawful, place_of}
use Rattle.certs.specs.Trees.{of_live}
use Rattle.certs.specs.declared.cert.Cert.{Cert}
use Rattle.certs.specs.declared.verdict.Verdict.{Verdict}
use Rattle.certs.specs.declared.level.Level.{Level}
use Rattle.node_work.specs.Branches.{IsBranchOf, IsSplit}

-- the verdicts are valid beside a certificate that fits, and raise the levels to these
pub record IsRaised (p : Problem) (w : Work) (cert : Cert) (verdicts : List Verdict) (rs : List (Option Level)) : Type 0 where
  pub fits : cert_fits p cert ≡ true
  pub raised_to : raised w.bounds cert p.scenarios (place_of w).levels verdicts ≡ Some rs

pub close_lawful : (p : Problem) (count : ℕ) (w : Work) (cert : Cert) (verdicts : List Verdict) (rs : List (Option Level)) → IsRaised p w cert verdicts rs → IsLawful p count (record { work = w; cert = cert; verdicts = verdicts; outcome = Close })
close_lawful p count w cert verdicts rs h = record {
  valid = and_from (cert_fits p cert) (is_some (raised w.bounds cert p.scenarios (place_of w).levels verdicts)) h.fits (ap (λ (o : Option (List (Option Level))). is_some o) h.raised_to);
  children_are = tt;
}

-- a test of eight parts
from_eight : (a b c d f g h i : Bool) → a ≡ true → b ≡ true → c ≡ true → d ≡ true → f ≡ true → g ≡ true → h ≡ true → i ≡ true → a && b && c && d && f && g && h && i ≡ true
from_eight a b c d f g h i e1 e2 e3 e4 e5 e6 e7 e8 =
    and_from (a && b && c && d && f && g && h) i (and_from (a && b && c && d && f && g) h (and_from (a && b && c && d && f) g (and_from (a && b && c && d) f (and_from (a && b && c) d (and_from (a && b) c (and_from a b e1 e2) e3) e4) e5) e6) e7) e8

-- what else a split needs
pub record IsSplitting (p : Problem) (count : ℕ) (w : Work) (stay : List ℕ) : Type 0 where
  pub rising : is_rising stay ≡ true
  pub live : list_all (is_live (place_of w).levels) stay ≡ true
  pub node : w.node < count

module _ (p : Problem) (count : ℕ) (w : Work) (cert : Cert) (verdicts : List Verdict) (rs : List (Option Level)) (h : IsRaised p w cert verdicts rs) where
  branch_lawful : (stay : List ℕ) (column : ℕ) (v : ℤ) (left right : Box) (left_levels right_levels : List Level) → IsSplitting p count w stay → IsBranchOf p w.bounds cert stay rs column v left right left_levels right_levels → IsLawful p count (record { work = w; cert = cert; verdicts = verdicts; outcome = Branch stay column v left right left_levels right_levels })
  branch_lawful stay column v left right left_levels right_levels s b = record {
    valid = from_eight (cert_fits p cert) (is_some (raised w.bounds cert p.scenarios (place_of w).levels verdicts)) (is_rising stay) (list_all (is_live (place_of w).levels) stay) (nat_lt column p.columns) (splits_inside (stayers_hull p w.bounds cert stay) column v) (nat_lt w.node count) (nat_lt (suc count) (count + 2))
        h.fits
        (ap (λ (o : Option (List (Option Level))). is_some o) h.raised_to)
        s.rising
        s.live
        (let l : column < p.columns = b.column_below in grind (arith, nat_tests))
        (ap (λ (o : Option Box). splits_inside o column v) b.hull_is ∙ b.inside)
        (let l : w.node < count = s.node in grind (arith, nat_tests))
        (grind (arith, nat_tests));
    children_are =
        let both : two_places stay column v (stayers_hull p w.bounds cert stay) (raised w.bounds cert p.scenarios (place_of w).levels verdicts) ≡ two_places stay column v (Some b.within) (Some rs) = ap (λ (o : Option Box). two_places stay column v o (raised w.bounds cert p.scenarios (place_of w).levels verdicts)) b.hull_is ∙ ap (λ (o : Option (List (Option Level))). two_places stay column v (Some b.within) o) h.raised_to in
        both ∙ named b.within left right (of_live stay 0 left_levels) (of_live stay 0 right_levels) b.left_is b.right_is b.left_kept b.right_kept;
  }
    where
      named : (hull l r : Box) (ls qs : List (Option Level)) → l ≡ below_cut hull column v → r ≡ above_cut hull column v → ls ≡ kept stay 0 rs → qs ≡ kept stay 0 rs → two_places stay column v (Some hull) (Some rs) ≡ Some (record { box = l; levels = ls }, record { box = r; levels = qs })
      named hull l r ls qs a b c d = rw (a, b, c, d) refl

  pub split_lawful : (stay : List ℕ) (o : Outcome) → IsSplitting p count w stay → IsSplit p w.bounds cert stay rs o → IsLawful p count (record { work = w; cert = cert; verdicts = verdicts; outcome = o })
  split_lawful stay Close s b = absurd b
  split_lawful stay (Branch stayers column v left right left_levels right_levels) s b =
      subst (λ (ks : List ℕ). IsLawful p count (record { work = w; cert = cert; verdicts = verdicts; outcome = Branch ks column v left right left_levels right_levels })) (sym b.0) (branch_lawful stay column v left right left_levels right_levels s b.1)
