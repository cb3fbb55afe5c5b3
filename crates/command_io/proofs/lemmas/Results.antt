-- Facts about a result, combined or passed on.
use Rattle.std.proofs.Common.{◌≡◌, ap, subst, sym}
use Rattle.std.specs.Prelude.{IfErr, IfOk, IsErrAnd, OnOk}
use Rattle.std.specs.declared.result.Result.{Result}
use Rattle.std.specs.declared.result.Result.TheVariants.{Ok, Err}

-- if two facts are true on `Ok`, so is a third that follows from them
pub on_ok_from_both : {T E P Q R : Type 0} (result : Result T E) → OnOk result P → OnOk result Q → (P → Q → R) → OnOk result R
on_ok_from_both (Ok x) p q follows = follows p q
on_ok_from_both (Err e) p q follows = tt

-- if the value of an `Ok` has a property, and another fact is true on `Ok`, the value has each property that follows from these
pub if_ok_from_both : {T E : Type 0} (result : Result T E) (fact more : T → Type 0) (done : Type 0) → IfOk result fact → OnOk result done
    → ((x : T) → fact x → done → more x) → IfOk result more
if_ok_from_both (Ok x) fact more done is did follows = follows x is did
if_ok_from_both (Err e) fact more done is did follows = tt

-- two facts that are true of each error are combined
pub if_err_both : {T E : Type 0} (P S : E → Type 0) (result : Result T E) → IfErr result P → IfErr result S
    → IfErr result (λ e. P e × S e)
if_err_both P S (Ok x) one two = tt
if_err_both P S (Err e) one two = (one, two)

-- a fact about each error, one about only this error, and another about each error are combined
pub if_err_all_three : {T E Q : Type 0} (r : Result T E) (one : E) (P S : E → Type 0) → IfErr r P → (r ≡ Err one → Q) → IfErr r S
    → IfErr r (λ e. P e × (e ≡ one → Q) × S e)
if_err_all_three (Ok value) one P S all this more = tt
if_err_all_three (Err e) one P S all this more = (all, (λ is. this (ap Err is)), more)

-- what is true of a fault is true of it when it is passed on
pub handed_fault_keeps_fact : {T E : Type 0} (r : Result T E) (fault : E) (Fact : E → Type 0) → IsErrAnd r (λ e. e ≡ fault) → Fact fault
    → IfErr r Fact
handed_fault_keeps_fact (Ok value) fault Fact is fact = absurd is
handed_fault_keeps_fact (Err e) fault Fact is fact = subst Fact (sym is) fact
