-- A tree in which a node that records nothing becomes a leaf, or a split with two new nodes.
use Rattle.std.specs.Prelude.{◌≡◌, ℕ, zero, suc, ◌+◌, ◌<◌, ◌≤◌, ℤ, List, [], ◌∷◌, ◌++◌, length, take, slice_get, slice_set, flat_map, true, false, nat_eq, nat_lt, ◌&&◌, is_some, Option, Some, None, refl}
use Rattle.std.specs.List.{list_all}
use Rattle.std.proofs.Common.{arith, ap, sym, ◌∙◌, subst, inl, inr}
use Rattle.std.proofs.lemmas.Bool.{and_parts, and_from}
use Rattle.std.proofs.lemmas.Bool.Decides.{nat_tests}
use Rattle.std.proofs.lemmas.List.{take_all, length-set, length-append}
use Rattle.scenario_changes.specs.Problems.{Problem}
use Rattle.certs.specs.Trees.{Place, IsTree, IsRight, is_valid, handed, handed_on, arrivals, children, raised, cert_fits, is_rising, is_live, splits_inside, stayers_hull}
use Rattle.certs.specs.declared.cert.Cert.{Cert}
use Rattle.certs.specs.declared.verdict.Verdict.{Verdict}
use Rattle.certs.specs.declared.tree.Node.{Node}
use Rattle.certs.specs.declared.tree.Node.TheVariants.{Rest, Leaf, Split}
use Rattle.certs.proofs.TreeLaws.{handed-first, handed-second}
use Rattle.bb_core.proofs.ListWrites.{set-get, append-get, get-below, flat_map-set, flat_map-only, take-front, take-past, flat_map-last}

-- more nodes make nothing invalid
valid-more : (p : Problem) (count more n : ℕ) (place : Place) (node : Node) → count ≤ more → is_valid p count n place node ≡ true → is_valid p more n place node ≡ true
valid-more p count more n place Rest h e = e
valid-more p count more n place (Leaf cert verdicts) h e = e
valid-more p count more n place (Split cert verdicts stay child column v) h e =
    let q = and_parts (cert_fits p cert && is_some (raised place.box cert p.scenarios place.levels verdicts) && is_rising stay && list_all (is_live place.levels) stay && nat_lt column p.columns && splits_inside (stayers_hull p place.box cert stay) column v && nat_lt n child) (nat_lt (suc child) count) e in
    let l : nat_lt (suc child) more ≡ true = grind (arith, nat_tests, q.1) in
    and_from (cert_fits p cert && is_some (raised place.box cert p.scenarios place.levels verdicts) && is_rising stay && list_all (is_live place.levels) stay && nat_lt column p.columns && splits_inside (stayers_hull p place.box cert stay) column v && nat_lt n child) (nat_lt (suc child) more) q.0 l

-- a valid node hands nothing to a node past the list
handed-past : (p : Problem) (count n m : ℕ) (place : Place) (node : Node) → is_valid p count n place node ≡ true → count ≤ m → handed p m (node, place) ≡ []
handed-past p count n m place Rest e h = refl
handed-past p count n m place (Leaf cert verdicts) e h = refl
handed-past p count n m place (Split cert verdicts stay child column v) e h =
    let q = and_parts (cert_fits p cert && is_some (raised place.box cert p.scenarios place.levels verdicts) && is_rising stay && list_all (is_live place.levels) stay && nat_lt column p.columns && splits_inside (stayers_hull p place.box cert stay) column v && nat_lt n child) (nat_lt (suc child) count) e in
    let l : suc child < count = grind (arith, nat_tests, q.1) in
    past (children p place cert verdicts stay column v) (omega arith) (omega arith)
  where
    past : (o : Option (Place × Place)) → child < m → suc child < m → handed_on m child o ≡ []
    past None a b = refl
    past (Some (low, high)) a b =
        let e : nat_eq m child ≡ false = grind (arith, nat_tests) in
        let g : nat_eq m (suc child) ≡ false = grind (arith, nat_tests) in rw (e, g) refl

-- and a split whose child is past the number m hands nothing to m
handed-before : (m child : ℕ) (o : Option (Place × Place)) → m < child → handed_on m child o ≡ []
handed-before m child None h = refl
handed-before m child (Some (low, high)) h =
    let e : nat_eq m child ≡ false = grind (arith, nat_tests) in
    let g : nat_eq m (suc child) ≡ false = grind (arith, nat_tests) in rw (e, g) refl

-- the tree after a leaf is recorded
arrivals-same : (p : Problem) (placed other : List (Node × Place)) (i : ℕ) → ((m : ℕ) → m ≤ i → flat_map (handed p i) (take m other) ≡ flat_map (handed p i) (take m placed)) → arrivals p other i ≡ arrivals p placed i
arrivals-same p placed other zero h = refl
arrivals-same p placed other (suc i) h = h (suc i) (omega arith)

module _ (p : Problem) (placed : List (Node × Place)) (tree : IsTree p placed) (n : ℕ) (place : Place) (found : slice_get placed n ≡ Some (Rest, place)) where
  pub leaf-tree : (cert : Cert) (verdicts : List Verdict) → is_valid p (length placed) n place (Leaf cert verdicts) ≡ true → IsTree p (slice_set placed n (Leaf cert verdicts, place))
  leaf-tree cert verdicts valid = record {
    some = let e : length (slice_set placed n (Leaf cert verdicts, place)) ≡ length placed = length-set placed n (Leaf cert verdicts, place) in omega (arith, e, tree.some);
    right = λ i node q e. elim (set-get placed n (Leaf cert verdicts, place) i (node, q) e) [
      | inl a ↦ at_n i node q a.0 a.1
      | inr a ↦ elsewhere i node q a
    ];
  }
    where
      same : (i : ℕ) → arrivals p (slice_set placed n (Leaf cert verdicts, place)) i ≡ arrivals p placed i
      same i = arrivals-same p placed (slice_set placed n (Leaf cert verdicts, place)) i (λ m l. flat_map-set (handed p i) placed n (Rest, place) (Leaf cert verdicts, place) m found refl)

      as_long : length placed ≡ length (slice_set placed n (Leaf cert verdicts, place))
      as_long = sym (length-set placed n (Leaf cert verdicts, place))

      elsewhere : (i : ℕ) (node : Node) (q : Place) → slice_get placed i ≡ Some (node, q) → IsRight p (slice_set placed n (Leaf cert verdicts, place)) i node q
      elsewhere i node q e = record {
        arrival = same i ∙ (tree.right i node q e).arrival;
        valid = subst (λ (c : ℕ). is_valid p c i q node ≡ true) as_long (tree.right i node q e).valid;
      }

      at_n : (i : ℕ) (node : Node) (q : Place) → i ≡ n → ◌≡◌ {A = Node × Place} (Leaf cert verdicts, place) (node, q) → IsRight p (slice_set placed n (Leaf cert verdicts, place)) i node q
      at_n i node q e g =
          subst (λ (m : ℕ). IsRight p (slice_set placed n (Leaf cert verdicts, place)) m node q) (sym e)
          (subst (λ (z : Node × Place). IsRight p (slice_set placed n (Leaf cert verdicts, place)) n z.0 z.1) g (record {
            arrival = same n ∙ (tree.right n Rest place found).arrival;
            valid = valid;
          }))

  module _ (cert : Cert) (verdicts : List Verdict) (stay : List ℕ) (column : ℕ) (v : ℤ) (low high : Place) (valid : is_valid p (length placed + 2) n place (Split cert verdicts stay (length placed) column v) ≡ true) (two : children p place cert verdicts stay column v ≡ Some (low, high)) where
    abbrev split_entry : Node × Place
    split_entry = (Split cert verdicts stay (length placed) column v, place)

    abbrev split_placed : List (Node × Place)
    split_placed = slice_set placed n split_entry ++ (Rest, low) ∷ (Rest, high) ∷ []

    split_long : length split_placed ≡ length placed + 2
    split_long = omega (arith, length-append (slice_set placed n split_entry) ((Rest, low) ∷ (Rest, high) ∷ []), length-set placed n split_entry)

    set_long : length (slice_set placed n split_entry) ≡ length placed
    set_long = length-set placed n split_entry

    n_below : n < length placed
    n_below = get-below placed n (Rest, place) found

    nothing_past : (m : ℕ) → length placed ≤ m → (i : ℕ) (z : Node × Place) → slice_get placed i ≡ Some z → handed p m z ≡ []
    nothing_past m l i (node, q) e = handed-past p (length placed) i m q node (tree.right i node q e).valid l

    -- what the nodes up to the old ones hand to an old one
    old_arrival : (i : ℕ) → i < length placed → arrivals p split_placed i ≡ arrivals p placed i
    old_arrival i l = arrivals-same p placed split_placed i (λ m h.
        let front : take m split_placed ≡ take m (slice_set placed n split_entry) = take-front (slice_set placed n split_entry) ((Rest, low) ∷ (Rest, high) ∷ []) m (omega (arith, set_long)) in
        ap (λ (q : List (Node × Place)). flat_map (handed p i) q) front ∙ flat_map-set (handed p i) placed n (Rest, place) split_entry m found (handed-before i (length placed) (children p place cert verdicts stay column v) l))

    to_low : handed p (length placed) split_entry ≡ low ∷ []
    to_low = ap (handed_on (length placed) (length placed)) two ∙ handed-first (length placed) low high

    to_high : handed p (suc (length placed)) split_entry ≡ high ∷ []
    to_high = ap (handed_on (suc (length placed)) (length placed)) two ∙ handed-second (length placed) low high

    low_arrival : (m : ℕ) → m ≡ length placed → flat_map (handed p m) (take m split_placed) ≡ low ∷ []
    low_arrival m e =
        let front : take m split_placed ≡ slice_set placed n split_entry = take-front (slice_set placed n split_entry) ((Rest, low) ∷ (Rest, high) ∷ []) m (omega (arith, set_long, e)) ∙ take_all m (slice_set placed n split_entry) (omega (arith, set_long, e)) in
        let gives : handed p m split_entry ≡ low ∷ [] = subst (λ (k : ℕ). handed p k split_entry ≡ low ∷ []) (sym e) to_low in
        ap (λ (q : List (Node × Place)). flat_map (handed p m) q) front ∙ flat_map-only (handed p m) placed n split_entry low n_below gives (nothing_past m (omega (arith, e)))

    high_arrival : (m : ℕ) → m ≡ suc (length placed) → flat_map (handed p m) (take m split_placed) ≡ high ∷ []
    high_arrival m e =
        let front : take m split_placed ≡ slice_set placed n split_entry ++ (Rest, low) ∷ [] = take-past (slice_set placed n split_entry) ((Rest, low) ∷ (Rest, high) ∷ []) m 1 (omega (arith, set_long, e)) in
        let gives : handed p m split_entry ≡ high ∷ [] = subst (λ (k : ℕ). handed p k split_entry ≡ high ∷ []) (sym e) to_high in
        ap (λ (q : List (Node × Place)). flat_map (handed p m) q) front ∙ flat_map-last (handed p m) (slice_set placed n split_entry) (Rest, low) refl ∙ flat_map-only (handed p m) placed n split_entry high n_below gives (nothing_past m (omega (arith, e)))

    arrival_past : (m : ℕ) (q : Place) → length placed ≤ m → flat_map (handed p m) (take m split_placed) ≡ q ∷ [] → arrivals p split_placed m ≡ q ∷ []
    arrival_past zero q l e = absurd (omega (arith, n_below))
    arrival_past (suc m) q l e = e

    split_right : (i : ℕ) (node : Node) (q : Place) → slice_get split_placed i ≡ Some (node, q) → IsRight p split_placed i node q
    split_right i node q e = elim (append-get (slice_set placed n split_entry) ((Rest, low) ∷ (Rest, high) ∷ []) i (node, q) e) [
      | inl a ↦ (elim (set-get placed n split_entry i (node, q) a) [
        | inl b ↦ at_n i node q b.0 b.1
        | inr b ↦ at_old i node q b
      ])
      | inr a ↦ at_new i node q a.0 (a.1 ∙ ap (λ (k : ℕ). k + a.0) set_long) a.2
    ]
      where
        at_n : (i : ℕ) (node : Node) (q : Place) → i ≡ n → ◌≡◌ {A = Node × Place} split_entry (node, q) → IsRight p split_placed i node q
        at_n i node q e g =
            subst (λ (m : ℕ). IsRight p split_placed m node q) (sym e)
            (subst (λ (z : Node × Place). IsRight p split_placed n z.0 z.1) g (record {
              arrival = old_arrival n n_below ∙ (tree.right n Rest place found).arrival;
              valid = subst (λ (c : ℕ). is_valid p c n place split_entry.0 ≡ true) (sym split_long) valid;
            }))

        at_old : (i : ℕ) (node : Node) (q : Place) → slice_get placed i ≡ Some (node, q) → IsRight p split_placed i node q
        at_old i node q e = record {
          arrival = old_arrival i (get-below placed i (node, q) e) ∙ (tree.right i node q e).arrival;
          valid = valid-more p (length placed) (length split_placed) i q node (omega (arith, split_long)) (tree.right i node q e).valid;
        }

        at_new : (i : ℕ) (node : Node) (q : Place) (j : ℕ) → i ≡ length placed + j → slice_get {X = Node × Place} ((Rest, low) ∷ (Rest, high) ∷ []) j ≡ Some (node, q) → IsRight p split_placed i node q
        at_new i node q zero e g =
            let a : ◌≡◌ {A = Node × Place} (Rest, low) (node, q) = cc in
            subst (λ (z : Node × Place). IsRight p split_placed i z.0 z.1) a (record { arrival = arrival_past i low (omega (arith, e)) (low_arrival i (omega (arith, e))); valid = refl })
        at_new i node q (suc zero) e g =
            let a : ◌≡◌ {A = Node × Place} (Rest, high) (node, q) = cc in
            subst (λ (z : Node × Place). IsRight p split_placed i z.0 z.1) a (record { arrival = arrival_past i high (omega (arith, e)) (high_arrival i (omega (arith, e))); valid = refl })
        at_new i node q (suc (suc j)) e g = absurd (cc)

    pub split-tree : IsTree p split_placed
    split-tree = record { some = omega (arith, split_long); right = split_right }
