-- The steps of reading, and how what a function returns relates to what is read here.
use Rattle.std.specs.Prelude.{◌≡◌, ◌⊎◌, Bool, true, false, Result, Ok, Err, MatchResult}
use Rattle.book_format.specs.declared.fault.BookFault.{BookFault}
use Rattle.book_format.specs.declared.fault.BookWhy.{BookWhy}
use Rattle.book_format.specs.declared.fault.BookWhy.TheVariants.{NoMemory}

infixl 10 ◌>>=◌
-- the second step if the first gave a value, else the fault of the first
abbrev pub ◌>>=◌ : {A B E : Type 0} → Result A E → (A → Result B E) → Result B E
Ok x >>= f = f x
Err e >>= f = Err e

-- a fault if a test fails
abbrev pub pass_or : {E : Type 0} → Bool → E → Result (Unit {0}) E
pass_or true fault = Ok tt
pass_or false fault = Err fault

-- a reader returns what is read here, seen through a function; or, at any point, that memory ran out
abbrev pub IsReadAs : {X Y : Type 0} → (X → Y) → Result X BookWhy → Result Y BookWhy → Type 0
IsReadAs look result read = MatchResult result (λ x. read ≡ Ok (look x)) (λ why. (why ≡ NoMemory) ⊎ (read ≡ Err why))

-- a reader returns what is read here, and a fault with its account; or, at any point, that memory ran out
abbrev pub IsReadOrFault : {X Y : Type 0} → (X → Y) → Result X BookFault → Result Y BookFault → Type 0
IsReadOrFault look result read =
    MatchResult result (λ x. read ≡ Ok (look x)) (λ fault. (fault.why ≡ NoMemory) ⊎ (read ≡ Err fault))

-- a result, its value seen through a function
abbrev pub seen : {X Y E : Type 0} → (X → Y) → Result X E → Result Y E
seen look (Ok x) = Ok (look x)
seen look (Err e) = Err e
