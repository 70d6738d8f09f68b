-- What becomes of a node with a good probe.
use Rattle.std.specs.Prelude.{◌≡◌, ℕ, ◌<◌, List, length, Bool, true, false, Option, Some, None, All, refl}
use Rattle.std.proofs.Common.{sym, ◌∙◌, subst}
use Rattle.int_model.specs.Boxes.{Box}
use Rattle.live_sets.specs.Members.{IsLiveList}
use Rattle.scenario_changes.specs.Problems.{Problem}
use Rattle.certs.specs.Trees.{raised}
use Rattle.certs.specs.declared.cert.Cert.{Cert}
use Rattle.certs.specs.declared.level.Level.{Level}
use Rattle.certs.specs.declared.verdict.Verdict.{Verdict}
use Rattle.bb_core.specs.Settlements.{Work, place_of}
use Rattle.bb_core.specs.Shared.{outcome_of, stay_of}
use Rattle.bb_core.specs.declared.work.Outcome.{Outcome}
use Rattle.bb_core.specs.declared.work.Outcome.TheVariants.{Close, Split}
use Rattle.node_work.specs.Branches.{IsSplit}
use Rattle.node_work.specs.Probes.{Found, IsGoodProbe}
use Rattle.node_work.proofs.LawfulLaws.{IsRaised}
use Rattle.node_work.proofs.LiveLists.{ComesFrom, all_raised}

some_same : {X : Type 0} {a b : X} → ◌≡◌ {A = Option X} (Some a) (Some b) → a ≡ b
some_same e = cc

-- the verdicts are valid, and the levels come of them
pub record IsValid (p : Problem) (w : Work) (cert : Cert) (verdicts : List Verdict) (found : Found) (b : Bool) (out : List (Option Level)) : Type 0 where
  pub is_true : b ≡ true
  pub is_raised : IsRaised p w cert verdicts out
  pub from : ComesFrom p w.bounds cert found 0 w.live w.levels out

pub valid_by : (p : Problem) (w : Work) (cert : Cert) (verdicts : List Verdict) (found : Found) (b : Bool) (out : List (Option Level)) → IsGoodProbe p w cert verdicts found → IsLiveList w.live → All (λ (s : ℕ). s < length p.scenarios) w.live → length w.levels ≡ length p.scenarios
    → (b ≡ true → raised w.bounds cert p.scenarios (place_of w).levels verdicts ≡ Some out) → (b ≡ false → raised w.bounds cert p.scenarios (place_of w).levels verdicts ≡ None) → IsValid p w cert verdicts found b out
valid_by p w cert verdicts found b out g set below n there none = by_test b refl (all_raised p w.bounds cert found w.live w.levels verdicts set below n g.are_good)
  where
    by_test : (t : Bool) → b ≡ t → (rs : List (Option Level)) × (raised w.bounds cert p.scenarios (place_of w).levels verdicts ≡ Some rs) × ComesFrom p w.bounds cert found 0 w.live w.levels rs → IsValid p w cert verdicts found b out
    by_test true e r = record {
      is_true = e;
      is_raised = record { fits = g.fits; raised_to = there e };
      from = (let same : r.0 ≡ out = some_same (sym r.1 ∙ there e) in subst (λ (ls : List (Option Level)). ComesFrom p w.bounds cert found 0 w.live w.levels ls) same r.2);
    }
    by_test false e r = absurd (let q : ◌≡◌ {A = Option (List (Option Level))} None (Some r.0) = sym (none e) ∙ r.1 in cc)

pub stays_as : (p : Problem) (box : Box) (cert : Cert) (stay : List ℕ) (rs : List (Option Level)) (o : Outcome) → IsSplit p box cert stay rs (outcome_of o) → stay_of o ≡ stay
stays_as p box cert stay rs Close s = absurd s
stays_as p box cert stay rs (Split kept column value left right left_levels right_levels left_hint right_hint) s = s.0
