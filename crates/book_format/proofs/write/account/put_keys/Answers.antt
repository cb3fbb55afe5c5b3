use Rattle.std.proofs.Common.{◌≡◌, ℕ, Option, Some, Result, Ok, Err, subst}
use Rattle.std.specs.Option.{ForSome}
use Rattle.std.specs.Result.{OnOk}
use Rattle.book_format.specs.Account.{AreKeys}
use Rattle.book_format.specs.Rows.{WritesItself}
use Rattle.book_format.specs.RowKinds.{table_type}
use Rattle.book_format.specs.Tables.{keys_table}
use Rattle.book_format.specs.declared.account.MechKeys.{MechKeys}
use Rattle.book_format.proofs.write.account.put_keys.Goals as goal

-- what is true anyway is true if a result is Ok
fact_holds_on_ok : {A E : Type 0} (P : Type 0) (r : Result A E) → P → OnOk r P
fact_holds_on_ok P (Ok x) p = p
fact_holds_on_ok P (Err e) p = tt

-- keys in their ranges write themselves
keys_write_themselves : (m : MechKeys) (o : Option MechKeys) → o ≡ Some m
    → ((len : ℕ) → AreKeys len m → WritesItself (table_type (keys_table len)) m)
    → (len : ℕ) → ForSome o (AreKeys len) → ForSome o (WritesItself (table_type (keys_table len)))
keys_write_themselves m o is itself len fits k there =
    subst (λ k. WritesItself (table_type (keys_table len)) k) (same m k o is there) (itself len (fits m is))
  where
    same : (m k : MechKeys) (o : Option MechKeys) → o ≡ Some m → o ≡ Some k → m ≡ k
    same m k o one two = cc (one, two)

pub returns-in_ok-keys_value-in-Some-clause-itself : goal.returns-in_ok-keys_value-in-Some-clause-itself
returns-in_ok-keys_value-in-Some-clause-itself c =
    fact_holds_on_ok _ c.put.result (keys_write_themselves c.in-Some.keys c.args.keys.now c.in-Some.is
    c.in_ok-keys_value-in-Some.ensures.itself)
