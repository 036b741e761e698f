-- What follows where a call was answered.
use Rattle.std.proofs.Common.{Ok, Err, Result}
use Rattle.std.specs.Prelude.{IfErr, IfOk, IsErrAnd, OnErr, OnOk}

pub onto-ok : {T E : Type 0} (r : Result T E) (A B : Type 0) → (A → B) → OnOk r A → OnOk r B
onto-ok (Ok x) A B f a = f a
onto-ok (Err e) A B f a = tt

pub onto-err : {T E : Type 0} (r : Result T E) (A B : Type 0) → (A → B) → OnErr r A → OnErr r B
onto-err (Ok x) A B f a = tt
onto-err (Err e) A B f a = f a

pub on-err : {T E : Type 0} (r : Result T E) (A : Type 0) → A → OnErr r A
on-err (Ok x) A a = tt
on-err (Err e) A a = a

-- what is so of a value that is there, and of all else then
pub if-both : {T E : Type 0} (r : Result T E) (A : Type 0) (P Q : T → Type 0) → (A → (x : T) → P x → Q x) → OnOk r A → IfOk r P → IfOk r Q
if-both (Ok x) A P Q so a is = so a x is
if-both (Err e) A P Q so a is = tt

-- whatever is said of a value holds where there is none
pub refused : {T E : Type 0} (r : Result T E) (P : E → Type 0) (Q : T → Type 0) → IsErrAnd r P → IfOk r Q
refused (Ok x) P Q is = absurd is
refused (Err e) P Q is = tt

-- the refusal is one of those that it may be
pub refused-as : {T E : Type 0} (r : Result T E) (P Q : E → Type 0) → IsErrAnd r P → ((e : E) → P e → Q e) → IfErr r Q
refused-as (Ok x) P Q is so = absurd is
refused-as (Err e) P Q is so = so e is

-- what follows from both
pub on-both : {T E : Type 0} (r : Result T E) (A B C : Type 0) → (A → B → C) → OnOk r A → OnOk r B → OnOk r C
on-both (Ok x) A B C so a b = so a b
on-both (Err e) A B C so a b = tt

pub err-both : {T E : Type 0} (r : Result T E) (A B C : Type 0) → (A → B → C) → OnErr r A → OnErr r B → OnErr r C
err-both (Ok x) A B C so a b = tt
err-both (Err e) A B C so a b = so a b
