-- The terms of a column, one by one.
use Rattle.std.proofs.Common.{ℕ, zero, suc, ◌+◌, ◌<◌, ℤ, [], ◌∷◌, length, get_or, arith, All}
use Rattle.int_model.specs.Programs.{Terms, AreTerms}
use Rattle.dual_climb.specs.Terms.{IsTerm}

term-at : (least n : ℕ) (ts : Terms) (k : ℕ) (d : ℕ × ℤ) → AreTerms least n ts → k < length ts → IsTerm n (get_or ts k d)
term-at least n [] k d all h = absurd (omega arith)
term-at least n (t ∷ ts) zero d all h = record { row = all.1; coefficient = all.2 }
term-at least n (t ∷ ts) (suc k) d all h = term-at (t.0 + 1) n ts k d all.4 (omega arith)

pub all_terms : (n : ℕ) (ts : Terms) → AreTerms 0 n ts → All (IsTerm n) ts
all_terms n ts all = λ k d h. term-at 0 n ts k d all h
