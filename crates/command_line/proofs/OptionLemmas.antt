-- Options that are read one after another.
use Rattle.std.proofs.Common.{◌≡◌, ◌∙◌, ap, sym, refl, subst, ℕ, Bool, true, false, List, [], ◌∷◌, codes, length, ◌==◌, map, get_or, take, drop, ◌-◌, ◌<◌, ◌≤◌, arith, suc, string_bytes, String, Option, Some, None, option_map, unwrap_or, if◌then◌else◌}
use Rattle.std.specs.Str.{bytes_eq}
use Rattle.std.specs.Option.{option_and_then}
use Rattle.std.specs.List.{list_all}
use Rattle.std.specs.declared.alloc.Global.{Global}
use Rattle.std.proofs.Math.Seq.{take-length}
use Rattle.std.proofs.lemmas.Slice.Eq.{bytes_eq-Decides}
use Rattle.command_line.specs.Words.{Pair, is_option, pairs_of, values_of, options_from, workers_in, nodes_in, log_in, file_in, options_in}
use Rattle.command_line.specs.Found.{Past, first_value, with_workers, with_nodes, with_log, with_option, once_more, options_behind, options_after, options_found}

then_some : {X : Type 0} (o : Option X) → o ≡ option_and_then (λ x. Some x) o
then_some None = refl
then_some (Some x) = refl

then_none : {X Y : Type 0} (y : Option Y) (o : Option X) → y ≡ None → y ≡ option_and_then (λ x. y) o
then_none y None e = e
then_none y (Some x) e = refl

if_same : {X : Type 0} (x : X) (b : Bool) → (if b then x else x) ≡ x
if_same x true = refl
if_same x false = refl

-- an option that comes once more
once_with : {X : Type 0} (earlier : Option X) (default : X) (meaning : List ℕ → Option X) (word : List ℕ) (words : List (List ℕ)) → once_more earlier default meaning (word ∷ words) ≡ option_and_then (λ x. once_more (Some x) default meaning words) (first_value earlier (meaning word))
once_with (Some x) default meaning word words = refl
once_with None default meaning word [] = then_some (meaning word)
once_with None default meaning word (other ∷ words) = then_none None (meaning word) refl

without_nodes : (workers : Option ℕ) (log : Option (Option (List ℕ))) → options_from workers None log ≡ None
without_nodes None log = refl
without_nodes (Some w) log = refl

without_log : (workers nodes : Option ℕ) → options_from workers nodes None ≡ None
without_log None nodes = refl
without_log (Some w) None = refl
without_log (Some w) (Some n) = refl

-- one option, read before the others
abbrev IsStep : Past → Option Past → List ℕ → List ℕ → List Pair → Type 0
IsStep past next name value pairs = options_behind past (record { name = name; value = value } ∷ pairs) ≡ option_and_then (λ p. options_behind p pairs) next

workers_then : (past : Past) (pairs : List Pair) (o : Option ℕ) → (if list_all is_option pairs then options_from (option_and_then (λ x. once_more (Some x) 1 workers_in (values_of (codes "--workers") pairs)) o) (once_more past.nodes 100001 nodes_in (values_of (codes "--nodes") pairs)) (once_more (option_map Some past.log) None log_in (values_of (codes "--log") pairs)) else None) ≡ option_and_then (λ p. options_behind p pairs) (option_map (λ w. record past { workers = Some w }) o)
workers_then past pairs None = if_same None (list_all is_option pairs)
workers_then past pairs (Some w) = refl

workers_step : (past : Past) (value : List ℕ) (pairs : List Pair) → IsStep past (with_workers past value) (codes "--workers") value pairs
workers_step past value pairs =
    rw (once_with past.workers 1 workers_in value (values_of (codes "--workers") pairs)) (workers_then past pairs (first_value past.workers (workers_in value)))

nodes_then : (past : Past) (pairs : List Pair) (o : Option ℕ) → (if list_all is_option pairs then options_from (once_more past.workers 1 workers_in (values_of (codes "--workers") pairs)) (option_and_then (λ x. once_more (Some x) 100001 nodes_in (values_of (codes "--nodes") pairs)) o) (once_more (option_map Some past.log) None log_in (values_of (codes "--log") pairs)) else None) ≡ option_and_then (λ p. options_behind p pairs) (option_map (λ n. record past { nodes = Some n }) o)
nodes_then past pairs None = rw without_nodes (if_same None (list_all is_option pairs))
nodes_then past pairs (Some n) = refl

nodes_step : (past : Past) (value : List ℕ) (pairs : List Pair) → IsStep past (with_nodes past value) (codes "--nodes") value pairs
nodes_step past value pairs =
    rw (once_with past.nodes 100001 nodes_in value (values_of (codes "--nodes") pairs)) (nodes_then past pairs (first_value past.nodes (nodes_in value)))

first_log : (earlier word : Option (List ℕ)) → first_value (option_map Some earlier) (option_map Some word) ≡ option_map Some (first_value earlier word)
first_log None word = refl
first_log (Some e) word = refl

log_then : (past : Past) (pairs : List Pair) (o : Option (List ℕ)) → (if list_all is_option pairs then options_from (once_more past.workers 1 workers_in (values_of (codes "--workers") pairs)) (once_more past.nodes 100001 nodes_in (values_of (codes "--nodes") pairs)) (option_and_then (λ x. once_more (Some x) None log_in (values_of (codes "--log") pairs)) (option_map Some o)) else None) ≡ option_and_then (λ p. options_behind p pairs) (option_map (λ l. record past { log = Some l }) o)
log_then past pairs None = rw without_log (if_same None (list_all is_option pairs))
log_then past pairs (Some l) = refl

log_step : (past : Past) (value : List ℕ) (pairs : List Pair) → IsStep past (with_log past value) (codes "--log") value pairs
log_step past value pairs =
    rw (once_with (option_map Some past.log) None log_in value (values_of (codes "--log") pairs), first_log past.log (file_in value)) (log_then past pairs (first_value past.log (file_in value)))

by_log : (past : Past) (name value : List ℕ) (pairs : List Pair) (b : Bool) → bytes_eq name (codes "--workers") ≡ false → bytes_eq name (codes "--nodes") ≡ false → bytes_eq name (codes "--log") ≡ b → IsStep past (with_option past name value) name value pairs
by_log past name value pairs true w n l = subst (λ (x : List ℕ). IsStep past (with_option past x value) x value pairs) (sym ((bytes_eq-Decides name (codes "--log")).0 l)) (log_step past value pairs)
by_log past name value pairs false w n l = rw (w, n, l) refl

by_nodes : (past : Past) (name value : List ℕ) (pairs : List Pair) (b : Bool) → bytes_eq name (codes "--workers") ≡ false → bytes_eq name (codes "--nodes") ≡ b → IsStep past (with_option past name value) name value pairs
by_nodes past name value pairs true w n = subst (λ (x : List ℕ). IsStep past (with_option past x value) x value pairs) (sym ((bytes_eq-Decides name (codes "--nodes")).0 n)) (nodes_step past value pairs)
by_nodes past name value pairs false w n = by_log past name value pairs (bytes_eq name (codes "--log")) w n refl

by_workers : (past : Past) (name value : List ℕ) (pairs : List Pair) (b : Bool) → bytes_eq name (codes "--workers") ≡ b → IsStep past (with_option past name value) name value pairs
by_workers past name value pairs true w = subst (λ (x : List ℕ). IsStep past (with_option past x value) x value pairs) (sym ((bytes_eq-Decides name (codes "--workers")).0 w)) (workers_step past value pairs)
by_workers past name value pairs false w = by_nodes past name value pairs (bytes_eq name (codes "--nodes")) w refl

paired : (past : Past) (next : Option Past) (name value : List ℕ) → ((pairs : List Pair) → IsStep past next name value pairs) → (o : Option (List Pair)) → option_and_then (options_behind past) (option_map (λ pairs. record { name = name; value = value } ∷ pairs) o) ≡ option_and_then (λ p. option_and_then (options_behind p) o) next
paired past next name value step None = then_none None next refl
paired past next name value step (Some pairs) = step pairs

-- reading one option leaves the meaning of the whole
pub option_step : (past : Past) (name value : List ℕ) (words : List (List ℕ)) → options_after past (name ∷ value ∷ words) ≡ option_and_then (λ p. options_after p words) (with_option past name value)
option_step past name value words = paired past (with_option past name value) name value (λ pairs. by_workers past name value pairs (bytes_eq name (codes "--workers")) refl) (pairs_of words)

from_past : (workers nodes : Option ℕ) (log : Option (List ℕ)) → options_from (once_more workers 1 workers_in []) (once_more nodes 100001 nodes_in []) (once_more (option_map Some log) None log_in []) ≡ Some (record { workers = unwrap_or workers 1; nodes = unwrap_or nodes 100001; log = log })
from_past None None None = refl
from_past None None (Some l) = refl
from_past None (Some n) None = refl
from_past None (Some n) (Some l) = refl
from_past (Some w) None None = refl
from_past (Some w) None (Some l) = refl
from_past (Some w) (Some n) None = refl
from_past (Some w) (Some n) (Some l) = refl

pub options_end : (past : Past) → options_after past [] ≡ Some (options_found past)
options_end past = from_past past.workers past.nodes past.log

-- a list by its first two elements
two : {X : Type 0} (ws : List X) (a b : X) → 2 ≤ length ws → a ≡ get_or ws 0 a → b ≡ get_or ws 1 b → ws ≡ a ∷ b ∷ take (length ws - 2) (drop 2 ws)
two [] a b h e f = absurd (omega arith)
two (x ∷ []) a b h e f = absurd (omega arith)
two (x ∷ y ∷ zs) a b h e f =
    let rest : suc (suc (length zs)) - 2 ≡ length zs = omega arith in
    rw (e, f, rest, take-length zs) refl

-- the words that are left when two have been read
pub option_next : (all : List (List ℕ)) (past : Past) (left : List (String Global)) (a b : String Global) (name value : List ℕ) (next : Option Past) → 2 ≤ length left → a ≡ get_or left 0 a → b ≡ get_or left 1 b → name ≡ string_bytes a → value ≡ string_bytes b → options_in all ≡ options_after past (map string_bytes left) → next ≡ with_option past name value → options_in all ≡ option_and_then (λ p. options_after p (map string_bytes (take (length left - 2) (drop 2 left)))) next
option_next all past left a b name value next h e f n v so_far is =
    let rest : List (List ℕ) = map string_bytes (take (length left - 2) (drop 2 left)) in
    let whole : map string_bytes left ≡ name ∷ value ∷ rest = ap (map string_bytes) (two left a b h e f) ∙ rw (n, v) refl in
    so_far ∙ ap (options_after past) whole ∙ option_step past name value rest ∙ ap (option_and_then (λ p. options_after p rest)) (sym is)

pub odd_left : (past : Past) (left : List (String Global)) → length left < 2 → false ≡ (length left == 0) → options_after past (map string_bytes left) ≡ None
odd_left past [] h k = cc
odd_left past (x ∷ []) h k = refl
odd_left past (x ∷ y ∷ zs) h k = absurd (omega arith)
