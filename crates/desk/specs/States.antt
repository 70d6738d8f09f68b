-- What the desks in memory keep, and the whole change that each of their calls makes.
use Rattle.std.specs.Prelude.{◌≡◌, ◌⊎◌, ℕ, ◌<◌, ◌≤◌, List, [], ◌∷◌, ◌++◌, length, take, Option, None, Some, IsSome, IsSomeAnd, Result, Ok, Err, Vec, refl}
use Rattle.std.specs.declared.alloc.Global.{Global}
use Rattle.std.specs.Coded.{Coded, code_by, coded×, coded_ℕ, coded_list}
use Rattle.std.specs.Ordering.{nat_cmp}
use Rattle.std.specs.FinMap as map
use Rattle.desk.specs.Causes.{next_count}
use Rattle.desk.specs.Desk.{Files, bytes_of}
use Rattle.desk.specs.declared.FetchError.{FetchError}
use Rattle.desk.specs.declared.FetchError.TheVariants as fetching
use Rattle.desk.specs.declared.DeskError.{DeskError}
use Rattle.desk.specs.declared.DeskError.TheVariants as writing

-- all that a desk with faults tells
pub record DeskState : Type 0 where
  pub files : Files
  pub printed : List ℕ
  pub warned : List ℕ
  pub fetched : List (List ℕ)
  pub fetch_faults : ℕ
  pub write_faults : ℕ
  pub calls : ℕ
  -- from the number of a call that is to fail to the bytes that it keeps
  pub failing : map.FinMap nat_cmp ℕ

abbrev pub desk_state_code : Coded DeskState
desk_state_code =
    code_by (Files × (List ℕ × (List ℕ × (List (List ℕ) × (ℕ × (ℕ × (ℕ × map.FinMap nat_cmp ℕ))))))) (coded× (map.code (coded_list coded_ℕ) (coded_list coded_ℕ)) (coded× (coded_list coded_ℕ) (coded× (coded_list coded_ℕ) (coded× (coded_list (coded_list coded_ℕ)) (coded× coded_ℕ (coded× coded_ℕ (coded× coded_ℕ (map.code coded_ℕ coded_ℕ)))))))) (λ s. (s.files, (s.printed, (s.warned, (s.fetched, (s.fetch_faults, (s.write_faults, (s.calls, s.failing)))))))) (λ p. record { files = p.0; printed = p.1.0; warned = p.1.1.0; fetched = p.1.1.1.0; fetch_faults = p.1.1.1.1.0; write_faults = p.1.1.1.1.1.0; calls = p.1.1.1.1.1.1.0; failing = p.1.1.1.1.1.1.1 }) (λ _. refl)

-- how many bytes the next call keeps, where it is to fail
abbrev pub next_failure : DeskState → Option ℕ
next_failure d = map.get d.failing (next_count d.calls)

abbrev pub with_call : DeskState → DeskState
with_call d = record d { calls = next_count d.calls }

abbrev pub with_fetch : DeskState → List ℕ → DeskState
with_fetch d name = record d { fetched = d.fetched ++ name ∷ []; calls = next_count d.calls }

abbrev pub with_fetch_fault : DeskState → DeskState
with_fetch_fault d = record d { fetch_faults = next_count d.fetch_faults }

abbrev pub with_write_fault : DeskState → DeskState
with_write_fault d = record d { write_faults = next_count d.write_faults }

abbrev pub with_file : List ℕ → DeskState → List ℕ → DeskState
with_file name d bytes = record d { files = map.insert d.files name bytes }

abbrev pub with_printed : DeskState → List ℕ → DeskState
with_printed d bytes = record d { printed = d.printed ++ bytes }

abbrev pub with_warned : DeskState → List ℕ → DeskState
with_warned d bytes = record d { warned = d.warned ++ bytes }

-- A fetch fails exactly where its call is listed or its file is missing. Want of memory may come before the name is noted, or in place of the bytes.
abbrev pub MemoryFetches : DeskState → DeskState → List ℕ → ℕ → Result (Vec ℕ Global) FetchError → Type 0
MemoryFetches old new name most (Ok bytes) = (next_failure old ≡ None) × (map.get old.files name ≡ Some bytes.items) × (new ≡ with_fetch old name)
MemoryFetches old new name most (Err fetching.TooLong) = (next_failure old ≡ None) × IsSomeAnd (map.get old.files name) (λ file. most < length file) × (new ≡ with_fetch old name)
MemoryFetches old new name most (Err fetching.Failed) = (IsSome (next_failure old) ⊎ (map.get old.files name ≡ None)) × (new ≡ with_fetch_fault (with_fetch old name))
MemoryFetches old new name most (Err fetching.Memory) = (new ≡ old) ⊎ ((next_failure old ≡ None) × IsSomeAnd (map.get old.files name) (λ file. length file ≤ most) × (new ≡ with_fetch old name))

-- A write fails exactly where its call is listed, and then writes only the bytes that the call keeps.
abbrev pub MemoryWrites : (DeskState → List ℕ → DeskState) → DeskState → DeskState → List ℕ → Result (Unit {0}) DeskError → Type 0
MemoryWrites written old new bytes (Ok _) = (next_failure old ≡ None) × (new ≡ with_call (written old bytes))
MemoryWrites written old new bytes (Err writing.Failed) = IsSomeAnd (next_failure old) (λ kept. new ≡ with_write_fault (with_call (written old (take kept bytes))))
MemoryWrites written old new bytes (Err writing.Memory) = new ≡ with_call old

-- all that a desk without faults tells
pub record QuietState : Type 0 where
  pub files : Files
  pub printed : List ℕ
  pub warned : List ℕ
  pub fetched : List (List ℕ)

abbrev pub quiet_state_code : Coded QuietState
quiet_state_code =
    code_by (Files × (List ℕ × (List ℕ × List (List ℕ)))) (coded× (map.code (coded_list coded_ℕ) (coded_list coded_ℕ)) (coded× (coded_list coded_ℕ) (coded× (coded_list coded_ℕ) (coded_list (coded_list coded_ℕ))))) (λ s. (s.files, (s.printed, (s.warned, s.fetched)))) (λ p. record { files = p.0; printed = p.1.0; warned = p.1.1.0; fetched = p.1.1.1 }) (λ _. refl)

abbrev pub with_quiet_fetch : QuietState → List ℕ → QuietState
with_quiet_fetch d name = record d { fetched = d.fetched ++ name ∷ [] }

abbrev pub with_quiet_file : List ℕ → QuietState → List ℕ → QuietState
with_quiet_file name d bytes = record d { files = map.insert d.files name bytes }

abbrev pub with_quiet_printed : QuietState → List ℕ → QuietState
with_quiet_printed d bytes = record d { printed = d.printed ++ bytes }

abbrev pub with_quiet_warned : QuietState → List ℕ → QuietState
with_quiet_warned d bytes = record d { warned = d.warned ++ bytes }

-- A fetch of a missing file gives no bytes, and none fails. Want of memory may come before the name is noted, or in place of the bytes.
abbrev pub QuietFetches : QuietState → QuietState → List ℕ → ℕ → Result (Vec ℕ Global) FetchError → Type 0
QuietFetches old new name most (Ok bytes) = (bytes.items ≡ bytes_of old.files name) × (new ≡ with_quiet_fetch old name)
QuietFetches old new name most (Err fetching.TooLong) = (most < length (bytes_of old.files name)) × (new ≡ with_quiet_fetch old name)
QuietFetches old new name most (Err fetching.Failed) = ⊥
QuietFetches old new name most (Err fetching.Memory) = (new ≡ old) ⊎ (new ≡ with_quiet_fetch old name)

-- A write never fails.
abbrev pub QuietWrites : (QuietState → List ℕ → QuietState) → QuietState → QuietState → List ℕ → Result (Unit {0}) DeskError → Type 0
QuietWrites written old new bytes (Ok _) = new ≡ written old bytes
QuietWrites written old new bytes (Err writing.Failed) = ⊥
QuietWrites written old new bytes (Err writing.Memory) = new ≡ old
