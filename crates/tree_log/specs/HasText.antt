-- Which claims and nodes may stand in a log.
use Rattle.std.specs.Prelude.{ℕ, suc, ◌^◌, ℤ, pos, neg_ℤ, Bool, true, ◌&&◌, not, int_le, nat_lt, nat_le, nat_eq, List, length, map, Some, None}
use Rattle.std.specs.List.{list_all}
use Rattle.tighten.specs.declared.step.Step.{Step}
use Rattle.dual_bounds.specs.Vectors.{Entry, Multipliers}
use Rattle.scenario_changes.specs.declared.answer.Answer.{Answer}
use Rattle.scenario_changes.specs.declared.answer.Answer.TheVariants.{Infeasible, Optimal, Limit}
use Rattle.certs.specs.Trees.{is_rising}
use Rattle.certs.specs.declared.cert.Cert.{Cert}
use Rattle.certs.specs.declared.verdict.Verdict.{Verdict}
use Rattle.certs.specs.declared.verdict.Verdict.TheVariants.{Empty, Misses, Farkas, Bound, Point}
use Rattle.certs.specs.declared.tree.Node.{Node}
use Rattle.certs.specs.declared.tree.Node.TheVariants.{Rest, Leaf, Split}
use Rattle.tree_log.specs.declared.file.LogFile.{LogFile}

abbrev pub is_within : ℕ → ℤ → Bool
is_within most z = int_le (neg_ℤ (pos most)) z && int_le z (pos most)

-- ---- claims

abbrev pub point_has_text : ℕ → List ℤ → Bool
point_has_text columns x = nat_eq (length x) columns && list_all (is_within (10 ^ 6)) x

abbrev pub answer_has_text : ℕ → Answer → Bool
answer_has_text columns Infeasible = true
answer_has_text columns (Optimal x v) = point_has_text columns x && is_within (2 ^ 60) v
answer_has_text columns (Limit None b) = is_within (2 ^ 60) b
answer_has_text columns (Limit (Some (x, v)) b) = point_has_text columns x && is_within (2 ^ 60) v && is_within (2 ^ 60) b

-- ---- certificates

abbrev pub step_has_text : ℕ → ℕ → Step → Bool
step_has_text columns rows step = nat_lt step.row rows && nat_lt step.column columns

abbrev pub entry_has_text : ℕ → Entry → Bool
entry_has_text rows (i, y) = nat_lt i rows && is_within (2 ^ 40) y && not (is_within 0 y)

abbrev pub vector_has_text : ℕ → Multipliers → Bool
vector_has_text rows v =
    nat_le v.scale (2 ^ 20) && nat_le (length v.entries) 128
    && list_all (entry_has_text rows) v.entries
    && is_rising (map (λ (e : Entry). e.0) v.entries)

-- the number of a vector has one digit; a vector of that number need not be there
abbrev pub verdict_has_text : ℕ → Verdict → Bool
verdict_has_text rows Empty = true
verdict_has_text rows (Misses i) = nat_lt i rows
verdict_has_text rows (Farkas k) = nat_lt k 10
verdict_has_text rows (Bound k) = nat_lt k 10
verdict_has_text rows Point = true

-- the counts are those of the scenarios, the columns and the rows
abbrev pub cert_has_text : ℕ → ℕ → ℕ → Cert → List Verdict → Bool
cert_has_text scenarios columns rows cert verdicts =
    nat_le (length cert.steps) 128 && list_all (step_has_text columns rows) cert.steps
    && nat_le (length cert.vectors) 2 && list_all (vector_has_text rows) cert.vectors
    && nat_lt 0 (length verdicts) && nat_le (length verdicts) scenarios
    && list_all (verdict_has_text rows) verdicts

-- ---- nodes

-- one scenario or more, in rising order
abbrev pub stay_has_text : ℕ → List ℕ → Bool
stay_has_text scenarios stay = nat_lt 0 (length stay) && is_rising stay && list_all (λ k. nat_lt k scenarios) stay

-- both children of a split are nodes
abbrev pub node_has_text : ℕ → ℕ → ℕ → ℕ → Node → Bool
node_has_text scenarios columns rows nodes Rest = true
node_has_text scenarios columns rows nodes (Leaf cert verdicts) = cert_has_text scenarios columns rows cert verdicts
node_has_text scenarios columns rows nodes (Split cert verdicts stay child column v) =
    nat_lt 0 child && nat_lt (suc child) nodes
    && nat_lt column columns && is_within (10 ^ 6) v
    && stay_has_text scenarios stay && cert_has_text scenarios columns rows cert verdicts

-- ---- the whole

abbrev pub has_text : LogFile → Bool
has_text f =
    nat_lt 0 (length f.answers) && nat_le (length f.answers) 64
    && nat_le f.columns 1000 && nat_le f.rows 1000
    && nat_lt 0 (length f.tree) && nat_le (length f.tree) 100001
    && list_all (answer_has_text f.columns) f.answers
    && list_all (node_has_text (length f.answers) f.columns f.rows (length f.tree)) f.tree
