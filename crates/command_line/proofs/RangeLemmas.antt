-- The numbers of a command lie in their ranges.
use Rattle.std.proofs.Common.{◌≡◌, ◌∙◌, ap, sym, refl, subst, ℕ, ◌^◌, ◌-◌, ◌<◌, ◌≤◌, Bool, true, false, ◌&&◌, cond, nat_le, List, [], ◌∷◌, codes, length, Option, Some, None, arith}
use Rattle.std.specs.Str.{bytes_eq}
use Rattle.std.specs.List.{list_all}
use Rattle.std.specs.Option.{option_and_then}
use Rattle.std.proofs.lemmas.Bool.{and_parts}
use Rattle.std.proofs.lemmas.Bool.Decides.{nat_tests}
use Rattle.num_text.specs.NumberText.{is_digits, digits_number}
use Rattle.command_line.specs.Words.{Inputs, Options, Order, solve, check, generate, Pair, is_number, number_in, workers_in, nodes_in, log_in, file_in, inputs_in, once, is_option, pairs_of, values_of, options_from, options_of, options_in, solve_from, solve_of, check_from, check_of, generate_from, generate_of, command_of}
use Rattle.command_line.specs.Orders.{AreInRange}

-- a number that is read lies in its range
number_range : (least greatest : ℕ) (word : List ℕ) (n : ℕ) → number_in least greatest word ≡ Some n → (least ≤ n) × (n ≤ greatest)
number_range least greatest word n e = by_test (is_number word && nat_le least (digits_number word) && nat_le (digits_number word) greatest) refl e
  where
    by_test : (b : Bool) → (is_number word && nat_le least (digits_number word) && nat_le (digits_number word) greatest) ≡ b → cond b (Some (digits_number word)) None ≡ Some n → (least ≤ n) × (n ≤ greatest)
    by_test false q r = absurd (cc)
    by_test true q r =
        let same : digits_number word ≡ n = cc in
        let t = and_parts (is_number word && nat_le least (digits_number word)) (nat_le (digits_number word) greatest) q in
        let u = and_parts (is_number word) (nat_le least (digits_number word)) t.0 in
        let above : least ≤ digits_number word = grind (arith, nat_tests, u.1) in
        let below : digits_number word ≤ greatest = grind (arith, nat_tests, t.1) in
        (omega (arith, same, above), omega (arith, same, below))

once_range : (least greatest default n : ℕ) (words : List (List ℕ)) → least ≤ default → default ≤ greatest → once default (number_in least greatest) words ≡ Some n → (least ≤ n) × (n ≤ greatest)
once_range least greatest default n [] h g e = let same : default ≡ n = cc in (omega (arith, same, h), omega (arith, same, g))
once_range least greatest default n (word ∷ []) h g e = number_range least greatest word n e
once_range least greatest default n (word ∷ other ∷ more) h g e = absurd (cc)

-- what options are made from
record AreFrom (w n : Option ℕ) (l : Option (Option (List ℕ))) (o : Options) : Type 0 where
  workers : w ≡ Some o.workers
  nodes : n ≡ Some o.nodes

from_all : (w n : Option ℕ) (l : Option (Option (List ℕ))) (o : Options) → options_from w n l ≡ Some o → AreFrom w n l o
from_all None n l o e = absurd (cc)
from_all (Some w) None l o e = absurd (cc)
from_all (Some w) (Some n) None o e = absurd (cc)
from_all (Some w) (Some n) (Some l) o e =
    let same : ◌≡◌ {A = Options} (record { workers = w; nodes = n; log = l }) o = cc in
    record { workers = ap (λ (x : Options). Some x.workers) same; nodes = ap (λ (x : Options). Some x.nodes) same }

options_range : (pairs : List Pair) (o : Options) → options_of pairs ≡ Some o → (1 ≤ o.workers) × (o.workers ≤ 64) × (1 ≤ o.nodes) × (o.nodes ≤ 100001)
options_range pairs o e = by_test (list_all is_option pairs) e
  where
    by_test : (b : Bool) → cond b (options_from (once 1 workers_in (values_of (codes "--workers") pairs)) (once 100001 nodes_in (values_of (codes "--nodes") pairs)) (once None log_in (values_of (codes "--log") pairs))) None ≡ Some o → (1 ≤ o.workers) × (o.workers ≤ 64) × (1 ≤ o.nodes) × (o.nodes ≤ 100001)
    by_test false q = absurd (cc)
    by_test true q =
        let f = from_all (once 1 workers_in (values_of (codes "--workers") pairs)) (once 100001 nodes_in (values_of (codes "--nodes") pairs)) (once None log_in (values_of (codes "--log") pairs)) o q in
        let w = once_range 1 64 1 o.workers (values_of (codes "--workers") pairs) (omega arith) (omega arith) f.workers in
        let n = once_range 1 100001 100001 o.nodes (values_of (codes "--nodes") pairs) (omega arith) (omega arith) f.nodes in
        (w.0, w.1, n.0, n.1)

behind_pairs : (p : Option (List Pair)) (o : Options) → option_and_then options_of p ≡ Some o → (1 ≤ o.workers) × (o.workers ≤ 64) × (1 ≤ o.nodes) × (o.nodes ≤ 100001)
behind_pairs None o e = absurd (cc)
behind_pairs (Some pairs) o e = options_range pairs o e

solve_range : (words : List (List ℕ)) (o : Order) → solve_of words ≡ Some o → AreInRange o
solve_range [] o e = absurd (cc)
solve_range (model ∷ []) o e = absurd (cc)
solve_range (model ∷ changes ∷ words) o e = by_parts (inputs_in model changes) (options_in words) (λ p q. behind_pairs (pairs_of words) p q) e
  where
    by_parts : (i : Option Inputs) (p : Option Options) → ((r : Options) → p ≡ Some r → (1 ≤ r.workers) × (r.workers ≤ 64) × (1 ≤ r.nodes) × (r.nodes ≤ 100001)) → solve_from i p ≡ Some o → AreInRange o
    by_parts None p h q = absurd (cc)
    by_parts (Some i) None h q = absurd (cc)
    by_parts (Some i) (Some p) h q = let same : solve i p ≡ o = cc in subst AreInRange same (h p refl)

check_range : (words : List (List ℕ)) (o : Order) → check_of words ≡ Some o → AreInRange o
check_range [] o e = absurd (cc)
check_range (a ∷ []) o e = absurd (cc)
check_range (a ∷ b ∷ []) o e = absurd (cc)
check_range (a ∷ b ∷ c ∷ d ∷ words) o e = absurd (cc)
check_range (model ∷ changes ∷ log ∷ []) o e = by_parts (inputs_in model changes) (file_in log) e
  where
    by_parts : (i : Option Inputs) (l : Option (List ℕ)) → check_from i l ≡ Some o → AreInRange o
    by_parts None l q = absurd (cc)
    by_parts (Some i) None q = absurd (cc)
    by_parts (Some i) (Some l) q = let same : check i l ≡ o = cc in subst AreInRange same tt

generate_range : (words : List (List ℕ)) (o : Order) → generate_of words ≡ Some o → AreInRange o
generate_range [] o e = absurd (cc)
generate_range (a ∷ []) o e = absurd (cc)
generate_range (a ∷ b ∷ []) o e = absurd (cc)
generate_range (a ∷ b ∷ c ∷ []) o e = absurd (cc)
generate_range (a ∷ b ∷ c ∷ d ∷ x ∷ words) o e = absurd (cc)
generate_range (a ∷ b ∷ c ∷ d ∷ []) o e =
    by_parts (number_in 0 (2 ^ 64 - 1) a) (number_in 1 1000 b) (number_in 0 1000 c) (number_in 0 64 d)
    (λ n q. number_range 0 (2 ^ 64 - 1) a n q) (λ n q. number_range 1 1000 b n q) (λ n q. number_range 0 1000 c n q) (λ n q. number_range 0 64 d n q) e
  where
    by_parts : (s c r n : Option ℕ) → ((k : ℕ) → s ≡ Some k → (0 ≤ k) × (k ≤ 2 ^ 64 - 1)) → ((k : ℕ) → c ≡ Some k → (1 ≤ k) × (k ≤ 1000)) → ((k : ℕ) → r ≡ Some k → (0 ≤ k) × (k ≤ 1000)) → ((k : ℕ) → n ≡ Some k → (0 ≤ k) × (k ≤ 64)) → generate_from s c r n ≡ Some o → AreInRange o
    by_parts None c r n hs hc hr hn q = absurd (cc)
    by_parts (Some s) None r n hs hc hr hn q = absurd (cc)
    by_parts (Some s) (Some c) None n hs hc hr hn q = absurd (cc)
    by_parts (Some s) (Some c) (Some r) None hs hc hr hn q = absurd (cc)
    by_parts (Some s) (Some c) (Some r) (Some n) hs hc hr hn q =
        let same : generate s c r n ≡ o = cc in
        subst AreInRange same ((hc c refl).0, (hc c refl).1, (hr r refl).1, (hn n refl).1)

pub command_range : (words : List (List ℕ)) (o : Order) → command_of words ≡ Some o → AreInRange o
command_range [] o e = absurd (cc)
command_range (verb ∷ words) o e = by_verb (bytes_eq verb (codes "solve")) (bytes_eq verb (codes "check")) (bytes_eq verb (codes "gen")) e
  where
    by_verb : (a b c : Bool) → cond a (solve_of words) (cond b (check_of words) (cond c (generate_of words) None)) ≡ Some o → AreInRange o
    by_verb true b c q = solve_range words o q
    by_verb false true c q = check_range words o q
    by_verb false false true q = generate_range words o q
    by_verb false false false q = absurd (cc)
