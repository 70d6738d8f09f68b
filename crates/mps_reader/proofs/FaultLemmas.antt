-- Faults that `?` makes of refusals.
use Rattle.std.proofs.Common.{sym, subst, ◌≡◌, Result, Ok, Err, Option, Some, None}
use Rattle.std.specs.Option.{ok_or}
use Rattle.std.specs.Result.{IsErrAnd, IfErr, IfOk, OnOk}
use Rattle.mps_reader.specs.declared.MpsKind.{MpsKind}
use Rattle.mps_reader.specs.declared.fault.Fault.{Fault}
use Rattle.mps_reader.specs.declared.fault.Fault.TheVariants.{Refused}

pub refused_as : {T : Type 0} (r : Result T Fault) (kind : MpsKind) (P : Fault → Type 0) → IsErrAnd r (λ f. f ≡ Refused kind) → P (Refused kind) → IfErr r P
refused_as (Ok t) kind P e p = tt
refused_as (Err f) kind P e p = subst P (sym e) p

-- clauses of one result
pub on_ok : {T E : Type 0} (r : Result T E) (P Q : Type 0) → (P → Q) → OnOk r P → OnOk r Q
on_ok (Ok t) P Q f p = f p
on_ok (Err e) P Q f p = tt

pub on_ok_two : {T E : Type 0} (r : Result T E) (P Q R : Type 0) → (P → Q → R) → OnOk r P → OnOk r Q → OnOk r R
on_ok_two (Ok t) P Q R f p q = f p q
on_ok_two (Err e) P Q R f p q = tt

pub if_err : {T E : Type 0} (r : Result T E) (P Q : E → Type 0) → ((e : E) → P e → Q e) → IfErr r P → IfErr r Q
if_err (Ok t) P Q f p = tt
if_err (Err e) P Q f p = f e p

pub kind_as : {T : Type 0} (r : Result T MpsKind) (kind : MpsKind) (P : MpsKind → Type 0) → IsErrAnd r (λ f. f ≡ kind) → P kind → IfErr r P
kind_as (Ok t) kind P e p = tt
kind_as (Err f) kind P e p = subst P (sym e) p

pub kind_of_none : {T : Type 0} (o : Option T) (r : Result T MpsKind) (kind other : MpsKind) → o ≡ None → r ≡ Err kind → r ≡ ok_or o other → kind ≡ other
kind_of_none None r kind other e v w = cc
kind_of_none (Some t) r kind other e v w = absurd (cc)

pub fault_itself : {T : Type 0} (r : Result T Fault) (fault : Fault) (P : Fault → Type 0) → IsErrAnd r (λ f. f ≡ fault) → P fault → IfErr r P
fault_itself (Ok t) fault P e p = tt
fault_itself (Err f) fault P e p = subst P (sym e) p

pub on_ok_three : {T E : Type 0} (r : Result T E) (P Q R S : Type 0) → (P → Q → R → S) → OnOk r P → OnOk r Q → OnOk r R → OnOk r S
on_ok_three (Ok t) P Q R S f p q x = f p q x
on_ok_three (Err e) P Q R S f p q x = tt

pub if_ok : {T E : Type 0} (r : Result T E) (P Q : T → Type 0) → ((t : T) → P t → Q t) → IfOk r P → IfOk r Q
if_ok (Ok t) P Q f p = f t p
if_ok (Err e) P Q f p = tt
