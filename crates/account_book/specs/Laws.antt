-- What changes and what stays when an account of a book gets another token, and when an account is added; and what a change of a book
-- does to its accounts as a map from names.
use Rattle.std.specs.Prelude.{ℕ, ◌≡◌, List, cond}
use Rattle.std.specs.Str.{bytes_eq}
use Rattle.std.specs.declared.option.Option.TheVariants.{Some}
use Rattle.std.specs.FinMap as map
use Rattle.mac_core.specs.declared.mechanism.Mechanism.{Mechanism}
use Rattle.otp_core.specs.declared.token.kinds.TokenFields.{TokenFields}
use Rattle.book_format.specs.Account.{AccountFields}
use Rattle.book_format.specs.Book.{BookFields}
use Rattle.account_book.specs.Accounts.{account_at, account_map, map_changed, with_account, with_changed}
use Rattle.account_book.specs.View.{entry_in}
use Rattle.account_book.specs.Tokens.{token_at, with_token}

-- the account of this name has the token that it is given, and every other name has the token that it had
abbrev pub TokensAreApart : Type 0
TokensAreApart = (old : BookFields) (name : List ℕ) (token next : TokenFields) → token_at old name ≡ Some token
    → (other : List ℕ) → token_at (with_changed old name (with_token next)) other
    ≡ cond (bytes_eq name other) (Some next) (token_at old other)

-- what a server keeps of each name stays as it was, since a token is not a part of it
abbrev pub EntriesStay : Type 0
EntriesStay = (old : BookFields) (name : List ℕ) (token next : TokenFields) → token_at old name ≡ Some token
    → (m : Mechanism) (other : List ℕ) → entry_in (with_changed old name (with_token next)) m other ≡ entry_in old m other

-- putting a token where it already is changes nothing
abbrev pub TokensStay : Type 0
TokensStay = (old : BookFields) (name : List ℕ) (token : TokenFields) → token_at old name ≡ Some token
    → with_changed old name (with_token token) ≡ old

-- putting the old token back gives the old book
abbrev pub TokensGoBack : Type 0
TokensGoBack = (old : BookFields) (name : List ℕ) (token next : TokenFields) → token_at old name ≡ Some token
    → with_changed (with_changed old name (with_token next)) name (with_token token) ≡ old

-- the added account is at its name, and every other name has the account that it had
abbrev pub AddedIsApart : Type 0
AddedIsApart = (old : BookFields) (name : List ℕ) (account : AccountFields) (other : List ℕ)
    → account_at (with_account old name account) other ≡ cond (bytes_eq name other) (Some account) (account_at old other)

-- in the map of a book in which an account is changed, this account is changed, and no other
abbrev pub MapsFollowChanges : Type 0
MapsFollowChanges = (old : BookFields) (name : List ℕ) (change : AccountFields → AccountFields)
    → account_map (with_changed old name change) ≡ map_changed (account_map old) name change

-- the map of a book with one more account is that of the book with this account inserted
abbrev pub MapsFollowAdditions : Type 0
MapsFollowAdditions = (old : BookFields) (name : List ℕ) (account : AccountFields)
    → account_map (with_account old name account) ≡ map.insert (account_map old) name account
