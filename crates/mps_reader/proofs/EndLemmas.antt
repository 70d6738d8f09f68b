-- The columns at the end of the text, one after another.
use Rattle.std.proofs.Common.{◌≡◌, ◌∙◌, ap, sym, subst, List, [], ◌∷◌, ◌++◌, map, length, get_or, Option, Some, None, Result, Ok, Err, ℕ, ◌<◌, arith}
use Rattle.std.specs.List.{All}
use Rattle.std.specs.Result.{IsErrAnd}
use Rattle.std.proofs.lemmas.List.Elements.{All-same}
use Rattle.std.proofs.lemmas.List.{map-append, length-map, same_lists, get_or-map, nil_from_length}
use Rattle.mps_reader.specs.MpsLines.{Line, column_names, integer_names, is_one_of}
use Rattle.mps_reader.specs.MpsRules.{or_else}
use Rattle.mps_reader.specs.MpsModels.{column_end_kind, end_kind, bound_lines}
use Rattle.mps_reader.specs.EndedColumns.{IsColumnOf, part_of}
use Rattle.mps_reader.specs.Tables.{IsTable}
use Rattle.mps_reader.specs.ColumnBounds.{BoundsAgree}
use Rattle.mps_reader.specs.ColumnStates.{HasColumn, ColumnsAgree}
use Rattle.mps_reader.specs.Faults.{IsFault}
use Rattle.mps_reader.specs.Endings.{IsEndedWith}
use Rattle.mps_reader.specs.declared.fault.Fault.{Fault}
use Rattle.int_model.specs.Models.{IntegerModel}
use Rattle.mps_reader.specs.declared.columns.ColumnDraft.{ColumnDraft}
use Rattle.mps_reader.specs.declared.MpsKind.{MpsKind}
use Rattle.int_model.specs.declared.build.ColumnPart.{ColumnPart}

abbrev pub names_of : List ColumnDraft → List (List ℕ)
names_of columns = map (λ c. c.name) columns

pub good_column : (ls : List Line) (columns rest : List ColumnDraft) (c : ColumnDraft) → columns ≡ c ∷ rest → column_end_kind ls c.name ≡ None → end_kind ls (names_of columns) ≡ end_kind ls (names_of rest)
good_column ls columns rest c split none = ap (λ cs. end_kind ls (names_of cs)) split ∙ ap (λ k. or_else k (end_kind ls (names_of rest))) none

pub bad_column : (ls : List Line) (columns rest : List ColumnDraft) (c : ColumnDraft) (kind : MpsKind) → columns ≡ c ∷ rest → column_end_kind ls c.name ≡ Some kind → end_kind ls (names_of columns) ≡ Some kind
bad_column ls columns rest c kind split some = ap (λ cs. end_kind ls (names_of cs)) split ∙ ap (λ k. or_else k (end_kind ls (names_of rest))) some

pub part_pushed : (ls : List Line) (done : List ColumnDraft) (c : ColumnDraft) (old new : List ColumnPart) (part : ColumnPart) → old ≡ map (part_of ls) done → part ≡ part_of ls c → new ≡ old ++ part ∷ [] → new ≡ map (part_of ls) (done ++ c ∷ [])
part_pushed ls done c old new part o p n = n ∙ ap (λ r. r ++ part ∷ []) o ∙ ap (λ q. map (part_of ls) done ++ q ∷ []) p ∙ sym (map-append (part_of ls) done (c ∷ []))

-- ---- the columns that a draft has kept

pub named_by : (names : List (List ℕ)) (columns : List ColumnDraft) (ls : List Line) → IsTable (HasColumn ls) names columns → names_of columns ≡ names
named_by names [] ls t = sym (nil_from_length names (sym t.size))
named_by names (c ∷ columns) ls t = same_lists (names_of (c ∷ columns)) names (length-map (c ∷ columns) (λ x. x.name) ∙ t.size)
    (λ k d h.
    let inside : k < length (c ∷ columns) = omega (arith, h, length-map (c ∷ columns) (λ x. x.name)) in
    get_or-map (λ x. x.name) (c ∷ columns) k c d inside ∙ (t.each k d c inside).named)

pub all_columns : (names : List (List ℕ)) (items columns : List ColumnDraft) (ls : List Line) → columns ≡ items → ColumnsAgree names items ls → All (IsColumnOf ls) columns
all_columns names items columns ls same a = All-same (IsColumnOf ls) columns items same
    (λ k c h.
    let has : HasColumn ls (get_or names k []) (get_or items k c) = a.known.each k [] c h in record {
      bounds = subst (λ (n : List ℕ). BoundsAgree (get_or items k c).bounds (bound_lines ls n)) (sym has.named) has.bounds;
      marked = has.marked ∙ sym (ap (is_one_of (integer_names ls)) has.named);
    })

pub end_is : (names : List (List ℕ)) (items columns : List ColumnDraft) (ls : List Line) → columns ≡ items → names ≡ column_names ls → ColumnsAgree names items ls → end_kind ls (names_of columns) ≡ end_kind ls (column_names ls)
end_is names items columns ls same called a = ap (λ cs. end_kind ls (names_of cs)) same ∙ ap (end_kind ls) (named_by names items ls a.known ∙ called)

pub ended_as : (r : Result IntegerModel Fault) (fault : Fault) (kind : MpsKind) (o : Option MpsKind) → IsErrAnd r (λ f. f ≡ fault) → IsFault fault o → o ≡ Some kind → IsEndedWith kind r
ended_as (Ok m) fault kind o e h at = absurd e
ended_as (Err f) fault kind o e h at = subst (λ (g : Fault). IsFault g (Some kind)) (sym e) (subst (λ (p : Option MpsKind). IsFault fault p) at h)

pub never_ended : (r : Result IntegerModel Fault) (kind : MpsKind) (o p : Option MpsKind) → o ≡ None → o ≡ p → p ≡ Some kind → IsEndedWith kind r
never_ended r kind o p none same some = absurd (clash kind (sym none ∙ same ∙ some))
  where
    clash : (kind : MpsKind) → None ≡ Some kind → ⊥
    clash kind e = cc
