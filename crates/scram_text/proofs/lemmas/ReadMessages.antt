-- A reader reads each message, for any kind of message.
use Rattle.std.proofs.Common.{◌≡◌, subst}
use Rattle.std.specs.Prelude.{IfOk, IfErr, IsOkAnd}
use Rattle.std.specs.declared.result.Result.{Result}
use Rattle.std.specs.declared.result.Result.TheVariants.{Ok, Err}

-- if a text is a message in at most one way, and then has no fault, a text that is one is read, and what is read shows its parts
pub message_is_read : {Parts Shown Fault : Type 0} (Is : Parts → Type 0) (Shows : Shown → Parts → Type 0) (IsFaultOf : Fault → Type 0)
    (r : Result Shown Fault) → ((p q : Parts) → Is p → Is q → p ≡ q) → ((p : Parts) (f : Fault) → Is p → IsFaultOf f → ⊥)
    → IfOk r (λ m. (p : Parts) × Is p × Shows m p) → IfErr r IsFaultOf → (p : Parts) → Is p → IsOkAnd r (λ m. Shows m p)
message_is_read Is Shows IsFaultOf (Ok m) one none found fault p is = subst (Shows m) (one found.0 p found.1 is) found.2
message_is_read Is Shows IsFaultOf (Err f) one none found fault p is = absurd (none p f is fault)
