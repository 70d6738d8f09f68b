-- What a reached state keeps of lengths.
use Rattle.std.specs.Prelude.{◌≡◌, ◌<◌, ◌^◌, ℕ, List, length, slice_get, Some}
use Rattle.scenario_changes.specs.Problems.{Problem, AreWithin}
use Rattle.certs.specs.declared.level.Level.{Level}
use Rattle.bb_core.specs.Machine.{State}
use Rattle.open_pool.specs.Judged.{AreWide}

-- the problem keeps the limits, there is a cap and a word for each of its scenarios, the boxes have its columns, and the
-- nodes' numbers fit
pub record IsShaped (p : Problem) (st : State) : Type 0 where
  pub limits : AreWithin p
  pub caps : length st.caps ≡ length p.scenarios
  pub words : length st.words ≡ length p.scenarios
  pub views : (a : ℕ) (view : List Level) → slice_get st.views a ≡ Some view → length view ≡ length p.scenarios
  pub wide : AreWide p.columns st.slots
  pub few : length st.slots < 2 ^ 32
