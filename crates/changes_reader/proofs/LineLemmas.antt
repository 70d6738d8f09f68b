-- Lines of three fields, by their word.
use Rattle.std.proofs.Common.{◌≡◌, ◌∙◌, ap, sym, subst, ℕ, ◌^◌, ◌<◌, ◌≤◌, Bool, true, false, List, [], ◌∷◌, length, map, get_or, Option, None, Result, Bor, refl, arith}
use Rattle.std.specs.Prelude.{codes, unwrap_or}
use Rattle.int_model.specs.Models.{IntegerModel}
use Rattle.scenario_changes.specs.Changes.{ChangeSet, shape_of, with_cost, with_low, with_high, with_rhs}
use Rattle.changes_reader.specs.Names.{column_names, row_names, number_named}
use Rattle.changes_reader.specs.Values.{value_of, rhs_of, number_set, side_set}
use Rattle.changes_reader.specs.Kinds.{word_kind, line_kind, column_kind, row_kind}
use Rattle.changes_reader.specs.Takings.{Takes, taken}
use Rattle.changes_reader.specs.declared.ChangesKind.{ChangesKind}
use Rattle.changes_reader.specs.declared.fault.Fault.{Fault}

abbrev pub texts : List (Bor (List ℕ)) → List (List ℕ)
texts fields = map (λ f. f.now) fields

pub three_fields : (fields : List (Bor (List ℕ))) (a b c : Bor (List ℕ)) → 3 ≤ length fields → length fields < 4 → texts fields ≡ (get_or fields 0 a).now ∷ (get_or fields 1 b).now ∷ (get_or fields 2 c).now ∷ []
three_fields [] a b c h k = absurd (omega arith)
three_fields (x ∷ []) a b c h k = absurd (omega arith)
three_fields (x ∷ y ∷ []) a b c h k = absurd (omega arith)
three_fields (x ∷ y ∷ z ∷ []) a b c h k = refl
three_fields (x ∷ y ∷ z ∷ u ∷ more) a b c h k = absurd (omega arith)

takes_same : (p q : Option ChangesKind) (new v w : ChangeSet) (r : Result (Unit {0}) Fault) → p ≡ q → v ≡ w → Takes q new w r → Takes p new v r
takes_same p q new v w r e f t = subst (λ (k : Option ChangesKind). Takes k new v r) (sym e) (subst (λ (u : ChangeSet). Takes q new u r) (sym f) t)

-- a line of this word, whose kind is the given one and which makes the given changes, is taken where those are
abbrev Kind : Type 0
Kind = IntegerModel → ℕ → List ℕ → List ℕ → Option ChangesKind

abbrev Made : Type 0
Made = IntegerModel → ChangeSet → List ℕ → List ℕ → ChangeSet

pub by_word : (word : List ℕ) (kind : Kind) (made : Made) → ((m : IntegerModel) (first : Bool) (n : ℕ) (one two : List ℕ) → word_kind first word ≡ None → line_kind m first n (word ∷ one ∷ two ∷ []) ≡ kind m n one two) → ((m : IntegerModel) (c : ChangeSet) (one two : List ℕ) → taken m c (word ∷ one ∷ two ∷ []) ≡ made m c one two)
    → (m : IntegerModel) (first : Bool) (c new : ChangeSet) (fields : List (Bor (List ℕ))) (d e f : Bor (List ℕ)) (w : List ℕ) (r : Result (Unit {0}) Fault) → 3 ≤ length fields → length fields < 4 → w ≡ word → w ≡ (get_or fields 0 d).now → word_kind first (get_or fields 0 d).now ≡ None → Takes (kind m (length c.scenarios) (get_or fields 1 e).now (get_or fields 2 f).now) new (made m c (get_or fields 1 e).now (get_or fields 2 f).now) r → Takes (line_kind m first (length c.scenarios) (texts fields)) new (taken m c (texts fields)) r
by_word word kind made line take m first c new fields d e f w r h k is at good t =
    let one : List ℕ = (get_or fields 1 e).now in
    let two : List ℕ = (get_or fields 2 f).now in
    let same : (get_or fields 0 d).now ≡ word = sym at ∙ is in
    let all : texts fields ≡ word ∷ one ∷ two ∷ [] = three_fields fields d e f h k ∙ ap (λ (x : List ℕ). x ∷ one ∷ two ∷ []) same in
    let fine : word_kind first word ≡ None = ap (word_kind first) (sym same) ∙ good in
    takes_same _ _ new _ _ r (ap (line_kind m first (length c.scenarios)) all ∙ line m first (length c.scenarios) one two fine) (ap (taken m c) all ∙ take m c one two) t

abbrev pub obj_kind : Kind
obj_kind = λ m n one two. column_kind (10 ^ 9) n (number_named (column_names m) one) (value_of two)

abbrev pub obj_made : Made
obj_made = λ m c one two. with_cost c (unwrap_or (number_named (column_names m) one) 0) (number_set two)

pub obj_line : (m : IntegerModel) (first : Bool) (n : ℕ) (one two : List ℕ) → word_kind first (codes "obj") ≡ None → line_kind m first n (codes "obj" ∷ one ∷ two ∷ []) ≡ obj_kind m n one two
obj_line m true n one two e = cc
obj_line m false n one two e = refl

pub obj_taken : (m : IntegerModel) (c : ChangeSet) (one two : List ℕ) → taken m c (codes "obj" ∷ one ∷ two ∷ []) ≡ obj_made m c one two
obj_taken m c one two = refl

abbrev pub lb_kind : Kind
lb_kind = λ m n one two. column_kind (10 ^ 6) n (number_named (column_names m) one) (value_of two)

abbrev pub lb_made : Made
lb_made = λ m c one two. with_low c (unwrap_or (number_named (column_names m) one) 0) (number_set two)

pub lb_line : (m : IntegerModel) (first : Bool) (n : ℕ) (one two : List ℕ) → word_kind first (codes "lb") ≡ None → line_kind m first n (codes "lb" ∷ one ∷ two ∷ []) ≡ lb_kind m n one two
lb_line m true n one two e = cc
lb_line m false n one two e = refl

pub lb_taken : (m : IntegerModel) (c : ChangeSet) (one two : List ℕ) → taken m c (codes "lb" ∷ one ∷ two ∷ []) ≡ lb_made m c one two
lb_taken m c one two = refl

abbrev pub ub_kind : Kind
ub_kind = λ m n one two. column_kind (10 ^ 6) n (number_named (column_names m) one) (value_of two)

abbrev pub ub_made : Made
ub_made = λ m c one two. with_high c (unwrap_or (number_named (column_names m) one) 0) (number_set two)

pub ub_line : (m : IntegerModel) (first : Bool) (n : ℕ) (one two : List ℕ) → word_kind first (codes "ub") ≡ None → line_kind m first n (codes "ub" ∷ one ∷ two ∷ []) ≡ ub_kind m n one two
ub_line m true n one two e = cc
ub_line m false n one two e = refl

pub ub_taken : (m : IntegerModel) (c : ChangeSet) (one two : List ℕ) → taken m c (codes "ub" ∷ one ∷ two ∷ []) ≡ ub_made m c one two
ub_taken m c one two = refl

abbrev pub rhs_kind : Kind
rhs_kind = λ m n one two. row_kind (map shape_of m.rows) n (number_named (row_names m) one) (rhs_of two)

abbrev pub rhs_made : Made
rhs_made = λ m c one two. with_rhs c (unwrap_or (number_named (row_names m) one) 0) (side_set two)

pub rhs_line : (m : IntegerModel) (first : Bool) (n : ℕ) (one two : List ℕ) → word_kind first (codes "rhs") ≡ None → line_kind m first n (codes "rhs" ∷ one ∷ two ∷ []) ≡ rhs_kind m n one two
rhs_line m true n one two e = cc
rhs_line m false n one two e = refl

pub rhs_taken : (m : IntegerModel) (c : ChangeSet) (one two : List ℕ) → taken m c (codes "rhs" ∷ one ∷ two ∷ []) ≡ rhs_made m c one two
rhs_taken m c one two = refl
