-- Search trees: nodes in a list, a split's two children after it. Which nodes are right, where each of them stands,
-- and at which nodes the search of a scenario ends.
use Rattle.std.specs.Prelude.{◌≡◌, ℕ, zero, suc, ◌<◌, ℤ, Bool, true, false, ◌&&◌, ◌||◌, int_lt, int_le, nat_lt, nat_le, nat_eq, if◌then◌else◌, is_some, List, [], ◌∷◌, length, slice_get, slice_index_or, Option, Some, None, map, take, flat_map, option_and_then, option_map, unwrap_or, IsTrue}
use Rattle.std.specs.List.{list_any, list_all}
use Rattle.int_model.specs.Boxes.{Box, interval_at, below_cut, above_cut, hull_of}
use Rattle.int_model.specs.Programs.{Program}
use Rattle.int_model.specs.RowSums.{row_misses}
use Rattle.tighten.specs.Replay.{replay}
use Rattle.tighten.specs.declared.step.Step.{Step}
use Rattle.dual_bounds.specs.Vectors.{Entry, Multipliers}
use Rattle.scenario_changes.specs.Problems.{Problem, root_box}
use Rattle.certs.specs.Levels.{greater_level}
use Rattle.certs.specs.Verdicts.{judged, start_level}
use Rattle.certs.specs.declared.level.Level.{Level}
use Rattle.certs.specs.declared.verdict.Verdict.{Verdict}
use Rattle.certs.specs.declared.cert.Cert.{Cert}
use Rattle.certs.specs.declared.tree.Node.{Node}
use Rattle.certs.specs.declared.tree.Node.TheVariants.{Rest, Leaf, Split}

-- ---- the limits and ranges of a certificate

abbrev pub step_within : ℕ → ℕ → Step → Bool
step_within rows columns step = nat_lt step.row rows && nat_lt step.column columns

abbrev pub vector_within : ℕ → Multipliers → Bool
vector_within rows v = list_all (λ (e : Entry). nat_lt e.0 rows) v.entries

-- at most 128 steps and two vectors, whose rows and columns are the problem's
abbrev pub cert_fits : Problem → Cert → Bool
cert_fits p cert = nat_le (length cert.steps) 128 && list_all (step_within p.rows p.columns) cert.steps && nat_le (length cert.vectors) 2 && list_all (vector_within p.rows) cert.vectors

-- ---- places

-- a node's box, and for each scenario its level on arrival, None where the scenario isn't live
pub record Place : Type 0 where
  pub box : Box
  pub levels : List (Option Level)

-- at the first node all scenarios are live, in the root box
abbrev pub root_place : Problem → Place
root_place p = record { box = root_box p.scenarios; levels = map (λ (s : Program). Some (start_level (root_box p.scenarios) s)) p.scenarios }

-- the levels of the live scenarios, None for the others; the scenarios are counted from k
abbrev pub of_live : List ℕ → ℕ → List Level → List (Option Level)
of_live live k [] = []
of_live live k (l ∷ ls) = (if list_any (nat_eq k) live then Some l else None) ∷ of_live live (suc k) ls

abbrev pub is_live : List (Option Level) → ℕ → Bool
is_live levels k = is_some (slice_index_or levels k None)

-- the live scenarios' levels, each raised by its verdict; None where a verdict isn't valid, is missing or is one too many
abbrev pub raised : Box → Cert → List Program → List (Option Level) → List Verdict → Option (List (Option Level))
raised box cert [] ls [] = Some []
raised box cert [] ls (v ∷ vs) = None
raised box cert (s ∷ ss) [] vs = None
raised box cert (s ∷ ss) (None ∷ ls) vs = option_map (λ rest. None ∷ rest) (raised box cert ss ls vs)
raised box cert (s ∷ ss) (Some l ∷ ls) [] = None
raised box cert (s ∷ ss) (Some l ∷ ls) (v ∷ vs) =
    option_and_then (λ m. option_map (λ rest. Some (greater_level l m) ∷ rest) (raised box cert ss ls vs)) (judged s box cert v)

-- the levels of the scenarios that stay, and of those that don't; the scenarios are counted from k
abbrev pub kept : List ℕ → ℕ → List (Option Level) → List (Option Level)
kept stay k [] = []
kept stay k (l ∷ ls) = (if list_any (nat_eq k) stay then l else None) ∷ kept stay (suc k) ls

abbrev pub dropped : List ℕ → ℕ → List (Option Level) → List (Option Level)
dropped stay k [] = []
dropped stay k (l ∷ ls) = (if list_any (nat_eq k) stay then None else l) ∷ dropped stay (suc k) ls

-- ---- the hull of the stayers

-- one of the first rows misses the box
abbrev pub some_row_misses : Program → ℕ → Box → Bool
some_row_misses s zero box = false
some_row_misses s (suc i) box = row_misses s i box || some_row_misses s i box

-- a stayer's replay, None where it is empty or a row misses it
abbrev pub unmissed : Program → ℕ → Box → Option Box
unmissed s rows box = if some_row_misses s rows box then None else Some box

abbrev pub stayer_box : Problem → Box → Cert → Program → Option Box
stayer_box p box cert s = option_and_then (unmissed s p.rows) (replay s cert.steps box)

-- the replays of all stayers, None where one is empty or missed
abbrev pub both_boxes : Option Box → Option (List Box) → Option (List Box)
both_boxes None boxes = None
both_boxes (Some box) None = None
both_boxes (Some box) (Some boxes) = Some (box ∷ boxes)

abbrev pub stayer_boxes : Problem → Box → Cert → List ℕ → Option (List Box)
stayer_boxes p box cert [] = Some []
stayer_boxes p box cert (k ∷ ks) = both_boxes (option_and_then (stayer_box p box cert) (slice_get p.scenarios k)) (stayer_boxes p box cert ks)

abbrev pub hull_of_all : List Box → Option Box
hull_of_all [] = None
hull_of_all (box ∷ boxes) = Some (hull_of box boxes)

-- the hull of the stayers' replays, None where there is no stayer, or one is empty or missed
abbrev pub stayers_hull : Problem → Box → Cert → List ℕ → Option Box
stayers_hull p box cert stay = option_and_then hull_of_all (stayer_boxes p box cert stay)

-- ---- from a split to its children

-- the two places below a split, None where it has no hull or no valid verdicts
abbrev pub two_places : List ℕ → ℕ → ℤ → Option Box → Option (List (Option Level)) → Option (Place × Place)
two_places stay column v None levels = None
two_places stay column v (Some h) None = None
two_places stay column v (Some h) (Some levels) = Some (record { box = below_cut h column v; levels = kept stay 0 levels }, record { box = above_cut h column v; levels = kept stay 0 levels })

abbrev pub children : Problem → Place → Cert → List Verdict → List ℕ → ℕ → ℤ → Option (Place × Place)
children p place cert verdicts stay column v = two_places stay column v (stayers_hull p place.box cert stay) (raised place.box cert p.scenarios place.levels verdicts)

-- the first of two places for the child, and the second for the number after it
abbrev pub handed_on : ℕ → ℕ → Option (Place × Place) → List Place
handed_on n child None = []
handed_on n child (Some (low, high)) = if nat_eq n child then low ∷ [] else if nat_eq n (suc child) then high ∷ [] else []

-- the place that a node hands to node n
abbrev pub handed : Problem → ℕ → Node × Place → List Place
handed p n (Rest, place) = []
handed p n (Leaf cert verdicts, place) = []
handed p n (Split cert verdicts stay child column v, place) = handed_on n child (children p place cert verdicts stay column v)

-- all the places that the nodes before n hand to it; the first node has the root's
abbrev pub arrivals : Problem → List (Node × Place) → ℕ → List Place
arrivals p placed zero = root_place p ∷ []
arrivals p placed (suc n) = flat_map (handed p (suc n)) (take (suc n) placed)

-- ---- right nodes

abbrev pub is_rising : List ℕ → Bool
is_rising [] = true
is_rising (x ∷ []) = true
is_rising (x ∷ y ∷ xs) = nat_lt x y && is_rising (y ∷ xs)

-- the column's interval of the hull has numbers up to v and numbers above it
abbrev pub splits_inside : Option Box → ℕ → ℤ → Bool
splits_inside None j v = false
splits_inside (Some h) j v = int_le (interval_at h j).low v && int_lt v (interval_at h j).high

-- what a node records is valid at its place; count is the number of nodes
abbrev pub is_valid : Problem → ℕ → ℕ → Place → Node → Bool
is_valid p count n place Rest = true
is_valid p count n place (Leaf cert verdicts) =
    cert_fits p cert && is_some (raised place.box cert p.scenarios place.levels verdicts)
is_valid p count n place (Split cert verdicts stay child column v) =
    cert_fits p cert && is_some (raised place.box cert p.scenarios place.levels verdicts) && is_rising stay && list_all (is_live place.levels) stay && nat_lt column p.columns && splits_inside (stayers_hull p place.box cert stay) column v && nat_lt n child && nat_lt (suc child) count

-- a node is right at a place: no other place is handed to the node, and what the node records is valid there
pub record IsRight (p : Problem) (placed : List (Node × Place)) (n : ℕ) (node : Node) (place : Place) : Type 0 where
  pub arrival : arrivals p placed n ≡ place ∷ []
  pub valid : IsTrue (is_valid p (length placed) n place node)

-- a tree: one or more nodes with their places, each node right at its place
pub record IsTree (p : Problem) (placed : List (Node × Place)) : Type 0 where
  pub some : 0 < length placed
  pub right : (n : ℕ) (node : Node) (place : Place) → slice_get placed n ≡ Some (node, place) → IsRight p placed n node place

-- ---- ends

-- for each scenario its level where the node is an end for it: the scenario is live there, and doesn't stay
abbrev pub end_levels : Problem → Place → Node → List (Option Level)
end_levels p place Rest = place.levels
end_levels p place (Leaf cert verdicts) = unwrap_or (raised place.box cert p.scenarios place.levels verdicts) []
end_levels p place (Split cert verdicts stay child column v) =
    unwrap_or (option_map (dropped stay 0) (raised place.box cert p.scenarios place.levels verdicts)) []
