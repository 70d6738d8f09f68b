-- How one more line of BOUNDS continues what the lines have said of a column.
use Rattle.std.proofs.Common.{◌≡◌, ◌∙◌, ap, sym, ℕ, Bool, true, false, not, ◌||◌, cond, List, [], ◌∷◌, ◌++◌, length, length-append, Option, Some, None, refl, arith, append-nil, get_or, ◌<◌}
use Rattle.std.specs.Prelude.{filter, filter_map, if◌then◌else◌, codes, option_map, slice_set}
use Rattle.std.specs.List.{cons_option}
use Rattle.std.specs.Option.{option_map_or}
use Rattle.std.proofs.lemmas.Bool.{ne_eqb}
use Rattle.std.proofs.lemmas.List.Elements.{filter-append}
use Rattle.num_text.specs.Words.{last_of}
use Rattle.std.proofs.lemmas.List.{get_or_read}
use Rattle.mps_reader.specs.MpsLines.{Line, is_data_of, data_of, sets_of}
use Rattle.mps_reader.specs.TakenLines.{IsDataWith}
use Rattle.mps_reader.specs.BoundLines.{IsBoundLine}
use Rattle.mps_reader.specs.ColumnTables.{with_bound}
use Rattle.mps_reader.specs.declared.bounds.BoundLine.{BoundLine}
use Rattle.mps_reader.specs.declared.columns.ColumnDraft.{ColumnDraft}
use Rattle.mps_reader.specs.MpsModels.{low_set, high_set, sets_high, sets_integer, is_negative_upper}
use Rattle.mps_reader.specs.ColumnBounds.{last_setting, with_line, BoundsAgree}
use Rattle.mps_reader.specs.declared.bounds.Bounds.{Bounds}
use Rattle.mps_reader.proofs.OpeningLemmas.{filter_map-append, list_any-append, bytes_eq-refl}

module _ {X : Type 0} where
  pub last_of-push : (xs : List X) (x : X) → last_of (xs ++ x ∷ []) ≡ Some x
  last_of-push [] x = refl
  last_of-push (y ∷ []) x = refl
  last_of-push (y ∷ z ∷ xs) x = last_of-push (z ∷ xs) x

  last_of-option : (xs : List X) (o : Option X) → last_of (xs ++ cons_option o []) ≡ last_setting (last_of xs) o
  last_of-option xs None = ap last_of (append-nil xs)
  last_of-option xs (Some x) = last_of-push xs x

pub last_set : {X Y : Type 0} (f : X → Option Y) (xs : List X) (x : X) → last_of (filter_map f (xs ++ x ∷ [])) ≡ last_setting (last_of (filter_map f xs)) (f x)
last_set f xs x = ap last_of (filter_map-append f xs (x ∷ [])) ∙ last_of-option (filter_map f xs) (f x)

-- the last element that passes
last_passing : {X : Type 0} (t : Bool) (q : X → Bool) (kept : List X) (x : X) (b : Bool) → b ≡ option_map_or q (last_of kept) false → (if t then q x else b) ≡ option_map_or q (last_of (kept ++ cond t (x ∷ []) [])) false
last_passing true q kept x b e = sym (ap (λ o. option_map_or q o false) (last_of-push kept x))
last_passing false q kept x b e = e ∙ ap (λ r. option_map_or q (last_of r) false) (sym (append-nil kept))

either : (p q : Bool) → (if p then true else q) ≡ (q || (p || false))
either true true = refl
either true false = refl
either false true = refl
either false false = refl

pub bound_added : (b : Bounds) (lines : List Line) (l : Line) → BoundsAgree b lines → BoundsAgree (with_line b l) (lines ++ l ∷ [])
bound_added b lines l a = record {
  named = ap not (sym (ne_eqb (length (lines ++ l ∷ [])) 0 (λ e. omega (arith, length-append lines (l ∷ []), e))));
  integer = either (sets_integer l) b.is_integer ∙ ap (λ q. q || (sets_integer l || false)) a.integer ∙ sym (list_any-append sets_integer lines (l ∷ []));
  low = ap (λ o. last_setting o (low_set l)) a.low ∙ sym (last_set low_set lines l);
  high = ap (λ o. last_setting o (high_set l)) a.high ∙ sym (last_set high_set lines l);
  negative_upper = last_passing (sets_high l) is_negative_upper (filter sets_high lines) l b.has_negative_upper a.negative_upper ∙ ap (λ r. option_map_or is_negative_upper (last_of r) false) (sym (filter-append sets_high lines (l ∷ [])));
}

-- ---- a line among the earlier ones

pub one_data : (section : List ℕ) (l : Line) (words : List (List ℕ)) → IsDataWith section l words → data_of section (l ∷ []) ≡ l ∷ []
one_data section l words d = rw (d.header, d.section, bytes_eq-refl section) refl

pub data_then : (section : List ℕ) (earlier : List Line) (l : Line) (words : List (List ℕ)) → IsDataWith section l words → data_of section (earlier ++ l ∷ []) ≡ data_of section earlier ++ l ∷ []
data_then section earlier l words d = filter-append (is_data_of section) earlier (l ∷ []) ∙ ap (λ r. data_of section earlier ++ r) (one_data section l words d)

pub bound_sets : (earlier : List Line) (l : Line) (words : List (List ℕ)) (b : BoundLine) → IsDataWith (codes "BOUNDS") l words → IsBoundLine b l → sets_of (codes "BOUNDS") (earlier ++ l ∷ []) ≡ sets_of (codes "BOUNDS") earlier ++ cons_option (option_map (λ n. n.now) b.set) []
bound_sets earlier l words b d is =
    rw (data_then (codes "BOUNDS") earlier l words d, is.set) (filter_map-append _ (data_of (codes "BOUNDS") earlier) (l ∷ []))

pub bound_written : (items : List ColumnDraft) (i k : ℕ) (d r : ColumnDraft) (l : Line) (b : Bounds) → i < length items → r ≡ get_or items i r → Some i ≡ Some k → b ≡ with_line r.bounds l → slice_set items i (record r { bounds = b }) ≡ slice_set items k (with_bound (get_or items k d) l)
bound_written items i k d r l b h here same e =
    let at : i ≡ k = cc in
    let read : get_or items i d ≡ r = sym (get_or_read items i r h here d) in
    rw (← at, read, e) refl
