-- What callers use of the calls of a desk.
use Rattle.std.proofs.Common.{◌≡◌, ℕ, List, take, Result, Ok, Err, Some, false, inl, inr, refl}
use Rattle.std.specs.FinMap.{get, insert}
use Rattle.std.specs.Str.{bytes_eq}
use Rattle.desk.specs.Desk.{Files, Puts}
use Rattle.desk.specs.declared.DeskError.{DeskError}
use Rattle.desk.specs.declared.DeskError.TheVariants as writing
use Rattle.desk.proofs.Puts.{get_insert-bytes_eq}

other_stays : (m n : Files) (name bytes other : List ℕ) → bytes_eq other name ≡ false → n ≡ insert m name bytes → get n other ≡ get m other
other_stays m n name bytes other differ is = rw (is, get_insert-bytes_eq, differ) refl

-- A put leaves the files of all other names as they are, whatever it answers.
pub others_stay : (m n : Files) (name bytes other : List ℕ) (answer : Result (Unit {0}) DeskError) → bytes_eq other name ≡ false → Puts (Some m) (Some n) name bytes answer → get n other ≡ get m other
others_stay m n name bytes other (Ok _) differ put = other_stays m n name bytes other differ (cc)
others_stay m n name bytes other (Err writing.Failed) differ (inl same) = let is : n ≡ m = cc in rw is refl
others_stay m n name bytes other (Err writing.Failed) differ (inr (kept, put)) = other_stays m n name (take kept bytes) other differ (cc)
others_stay m n name bytes other (Err writing.Memory) differ same = let is : n ≡ m = cc in rw is refl
