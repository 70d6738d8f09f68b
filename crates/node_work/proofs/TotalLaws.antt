-- Totals, one scenario after another.
use Rattle.std.specs.Prelude.{◌≡◌, ℕ, zero, suc, ◌+◌, ◌<◌, ◌≤◌, ℤ, pos, ◌+ℤ◌, ◌<ℤ◌, List, [], ◌∷◌, length, drop, slice_index_or, refl}
use Rattle.std.proofs.Common.{arith, ap, sym, ◌∙◌, subst}
use Rattle.std.proofs.lemmas.Int.{ints}
use Rattle.int_model.specs.Boxes.{Box}
use Rattle.int_model.specs.Programs.{Terms}
use Rattle.int_model.specs.Models.{IntegerModel}
use Rattle.int_model.specs.declared.model.Ends.{Ends}
use Rattle.scenario_changes.specs.Problems.{Problem, Scenarios, problem, program_at}
use Rattle.dual_bounds.specs.Vectors.{Multipliers, rows_of, vector_sum, program_sum}
use Rattle.dual_search.specs.Totals.{total}
use Rattle.certs.proofs.ProblemLemmas.{IsReadAt, scenario_rows}
use Rattle.node_work.specs.Probes.{IsAscent, no_entries}

pub sum-read : (p : Scenarios) (s : ℕ) (m : IntegerModel) (costs : List ℤ) (ends : List Ends) (v : Multipliers) (box : Box) → IsReadAt p s m costs ends → vector_sum (rows_of m) ends costs v box ≡ program_sum (program_at (problem p) s) v box
sum-read p s m costs ends v box r =
    let rows : rows_of m ≡ (program_at (problem p) s).rows = ap (λ (n : IntegerModel). rows_of n) r.model ∙ sym (scenario_rows p s r.scenario) in
    ap (λ (t : List Terms). vector_sum t ends costs v box) rows
    ∙ ap (λ (es : List Ends). vector_sum (program_at (problem p) s).rows es costs v box) r.ends_are
    ∙ ap (λ (cs : List ℤ). vector_sum (program_at (problem p) s).rows (program_at (problem p) s).ends cs v box) r.costs_are

pub drop_here : {X : Type 0} (xs : List X) (k : ℕ) (d : X) → k < length xs → drop k xs ≡ slice_index_or xs k d ∷ drop (suc k) xs
drop_here [] k d h = absurd (omega arith)
drop_here (x ∷ xs) zero d h = refl
drop_here (x ∷ xs) (suc k) d h = drop_here xs k d (omega arith)

pub drop_end : {X : Type 0} (xs : List X) (k : ℕ) → length xs ≤ k → drop k xs ≡ []
drop_end [] zero h = refl
drop_end [] (suc k) h = refl
drop_end (x ∷ xs) zero h = absurd (omega arith)
drop_end (x ∷ xs) (suc k) h = drop_end xs k (omega arith)

module _ (p : Problem) (live : List ℕ) (boxes : List Box) (v : Multipliers) where
  -- the sum of k scenarios, and what is left
  pub record TotalSoFar (k : ℕ) (sum : ℤ) (rest : List ℕ) : Type 0 where
    pub left : length rest + k ≡ length boxes
    pub whole : total p live boxes v ≡ sum +ℤ total p rest (drop k boxes) v

  pub total_first : (rest : List ℕ) → rest ≡ live → length boxes ≡ length live → TotalSoFar 0 (pos 0) rest
  total_first rest e n = record {
    left = omega (arith, ap length e, n);
    whole = omega (arith, ints, ap (λ (ks : List ℕ). total p ks boxes v) e);
  }

  pub total_next : (k : ℕ) (sum : ℤ) (rest : List ℕ) (s : ℕ) (next : List ℕ) (d : Box) (z : ℤ) → TotalSoFar k sum rest → rest ≡ s ∷ next → z ≡ program_sum (program_at p s) v (slice_index_or boxes k d) → TotalSoFar (k + 1) (sum +ℤ z) next
  total_next k sum rest s next d z h e f =
      let n : length rest ≡ suc (length next) = ap length e in
      let here : drop k boxes ≡ slice_index_or boxes k d ∷ drop (suc k) boxes = drop_here boxes k d (omega (arith, h.left, n)) in
      let up : suc k ≡ k + 1 = omega arith in
      let step : total p rest (drop k boxes) v ≡ program_sum (program_at p s) v (slice_index_or boxes k d) +ℤ total p next (drop (k + 1) boxes) v = ap (λ (ks : List ℕ). total p ks (drop k boxes) v) e ∙ ap (λ (bs : List Box). total p (s ∷ next) bs v) here ∙ ap (λ (m : ℕ). program_sum (program_at p s) v (slice_index_or boxes k d) +ℤ total p next (drop m boxes) v) up in
      record {
        left = omega (arith, h.left, n);
        whole = omega (arith, ints, h.whole, step, f);
      }

  pub total_all : (k : ℕ) (sum : ℤ) (rest : List ℕ) → TotalSoFar k sum rest → rest ≡ [] → sum ≡ total p live boxes v
  total_all k sum rest h e =
      let none : total p rest (drop k boxes) v ≡ pos 0 = ap (λ (ks : List ℕ). total p ks (drop k boxes) v) e in
      omega (arith, ints, h.whole, none)

-- a greater total than that of the vector without entries is enough
pub greater-ascends : (p : Problem) (live : List ℕ) (boxes : List Box) (v zero_vector : Multipliers) → zero_vector ≡ no_entries 4096 → v.scale ≡ 4096 → total p live boxes zero_vector <ℤ total p live boxes v → IsAscent p live boxes v
greater-ascends p live boxes v start e s g =
    let same : start ≡ no_entries v.scale = e ∙ ap no_entries (sym s) in
    let more : total p live boxes (no_entries v.scale) <ℤ total p live boxes v = subst (λ (w : Multipliers). total p live boxes w <ℤ total p live boxes v) same g in
    record {
      scale = omega (arith, s);
      least = omega (arith, ints, more);
      greater = λ w n h. more;
    }
