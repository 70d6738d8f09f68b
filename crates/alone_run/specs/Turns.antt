-- What one turn makes of a work, and what a finder keeps through it.
use Rattle.std.specs.Prelude.{◌≡◌, ◌<◌, ◌≤◌, ℕ, ℤ, List, Contains, Option, None, IfSome, length, slice_get, slice_index_or, Some}
use Rattle.scenario_changes.specs.Problems.{Problem}
use Rattle.certs.specs.declared.cert.Cert.{Cert}
use Rattle.certs.specs.declared.verdict.Verdict.{Verdict}
use Rattle.bb_core.specs.Settlements.{Work, IsLawful}
use Rattle.bb_core.specs.Shared.{settlement_of, work_of, stay_of}
use Rattle.bb_core.specs.declared.work.Settlement.{Settlement}
use Rattle.incumbent_words.specs.Codes.{code_of, IsValue}
use Rattle.incumbent_words.specs.Rule.{code_at, note_of, HasAll}
use Rattle.incumbent_words.specs.Seats.{Held}
use Rattle.finder.specs.Found.{Found, IsSameHolder, value_code}
use Rattle.node_work.specs.Probes.{EachLive, IsGoodProbe, IsBestVerdict, HasAscent}
use Rattle.node_work.specs.Stayers.{AreStayers}

-- the same problem, words, numbers and count, and no best value is greater
pub record IsNoWorse (before now : Found) : Type 0 where
  pub same : IsSameHolder before now
  pub best : (k : ℕ) → code_at now.seat.view.offers k ≤ code_at before.seat.view.offers k

-- the certificate and the verdicts of a probe of the work, with all that a probe promises
pub record IsProbed (p : Problem) (w : Work) (cert : Cert) (verdicts : List Verdict) : Type 0 where
  pub found : List (ℕ × List ℤ)
  pub good : IsGoodProbe p w cert verdicts found
  pub ascent : HasAscent p w.bounds cert w.live
  pub best : EachLive (IsBestVerdict p w.bounds cert) w.live verdicts

-- the values of these codes, None for that of no value
pub record AreCuts (caps : List ℕ) (cuts : List (Option ℤ)) : Type 0 where
  pub codes : (k : ℕ) → code_of (slice_index_or cuts k None) ≡ code_at caps k
  pub limits : (k : ℕ) → IfSome (slice_index_or cuts k None) IsValue

-- a lawful settlement of the work in which exactly the live scenarios stay whose raised level is below the note's cap, and a
-- note of the finder. With the count and all numbers the note's caps of the live scenarios are the finder's best values
pub record IsTurn (p : Problem) (w : Work) (f : Found) (s : Settlement) (note : Held) : Type 0 where
  pub its_work : work_of s.work ≡ w
  pub lawful : (count : ℕ) → w.node < count → IsLawful p count (settlement_of s)
  pub probed : IsProbed p w s.cert s.verdicts
  pub cuts : List (Option ℤ)
  pub are_caps : AreCuts note.view.caps cuts
  pub stay : AreStayers p w s.cert s.verdicts cuts (stay_of s.outcome)
  pub table : note.table ≡ f.seat.table
  pub view : note.view ≡ note_of f.seat.view
  pub known : HasAll f.seat.view → (k : ℕ) → Contains w.live k → code_at note.view.caps k ≡ code_at f.seat.view.offers k

-- ---- within a turn

-- words were read: points and offers are as before, and no cap is greater
pub record HasLooked (before now : Found) : Type 0 where
  pub same : IsSameHolder before now
  pub offers : now.seat.view.offers ≡ before.seat.view.offers
  pub wide : length now.seat.view.caps ≡ length before.seat.view.caps
  pub caps : (k : ℕ) → code_at now.seat.view.caps k ≤ code_at before.seat.view.caps k

-- the caps of these scenarios are the best values
abbrev pub KnowsBest : Found → List ℕ → Type 0
KnowsBest f live = (k : ℕ) → Contains live k → k < length f.seat.view.caps → code_at f.seat.view.caps k ≡ code_at f.seat.view.offers k

-- the cap of each point's scenario is at most the point's value
abbrev pub AreOffered : Found → List (ℕ × List ℤ) → Type 0
AreOffered f found = (i k : ℕ) (x : List ℤ) → slice_get found i ≡ Some (k, x) → k < length f.seat.view.caps → code_at f.seat.view.caps k ≤ value_code f.problem k x

-- of the points those whose scenario is below a number
pub record ArePointsBelow (count : ℕ) (all some : List (ℕ × List ℤ)) : Type 0 where
  pub below : (i k : ℕ) (x : List ℤ) → slice_get some i ≡ Some (k, x) → k < count
  pub among : (i k : ℕ) (x : List ℤ) → slice_get some i ≡ Some (k, x) → (j : ℕ) × (slice_get all j ≡ Some (k, x))
  pub every : (i k : ℕ) (x : List ℤ) → slice_get all i ≡ Some (k, x) → k < count → (j : ℕ) × (slice_get some j ≡ Some (k, x))
