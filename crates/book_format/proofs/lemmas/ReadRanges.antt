-- What has a table of the format is in its ranges: a mechanism's keys, an account, and a whole book.
use Rattle.std.proofs.Common.{◌≡◌, ◌≤◌, ◌⊎◌, ℕ, List, [], ◌∷◌, length, codes, Option, Some, None, subst, arith, inl, inr}
use Rattle.toml.specs.Data.{Data, Members, no_members, member, get_member}
use Rattle.hex.proofs.HexLemmas.{decode_of-ok}
use Rattle.mac_core.specs.Mechanism.{digest_len_by}
use Rattle.mac_core.specs.declared.mechanism.Mechanism.TheVariants.{ScramSha1, ScramSha256}
use Rattle.book_format.specs.Account.{AccountFields, AreKeys, IsAccount, max_names}
use Rattle.book_format.specs.Book.{BookFields, AreAccounts, IsBook}
use Rattle.book_format.specs.ValueTypes.{name_list_type}
use Rattle.book_format.specs.Rows.{IsTableIn}
use Rattle.book_format.specs.RowKinds.{HasAt, HasSome, table_type}
use Rattle.book_format.specs.Tables.{keys_table, account_table}
use Rattle.book_format.specs.Trees.{AreAccountTrees, AreAccountsOf, IsBookTree}
use Rattle.book_format.specs.declared.account.MechKeys.{MechKeys}

-- the keys that are read from a mechanism's table are in their ranges
keys_are_in_range : (len : ℕ) (d : Data) (keys : MechKeys) → IsTableIn (keys_table len) d keys → AreKeys len keys
keys_are_in_range len d keys h =
    let salt = h.2.rows.0 in
    let count = h.2.rows.1.0 in
    let stored = h.2.rows.1.1.0 in
    let server = h.2.rows.1.1.1.0 in
    record {
      salt = record {
        at_least = salt.2.at_least;
        at_most = salt.2.at_most;
        each = (decode_of-ok salt.2.text keys.salt salt.2.spelled).3;
      };
      count = record { at_least = count.2.at_least; at_most = count.2.at_most };
      stored = omega (arith, stored.2.at_least, stored.2.at_most);
      server = omega (arith, server.2.at_least, server.2.at_most);
    }

-- keys that are read from an optional table of a mechanism are in their ranges
optional_keys_are_in_range : (len : ℕ) (key : List ℕ) (o : Option MechKeys) (ms : Members) → HasSome key (table_type (keys_table len)) ms o
    → (keys : MechKeys) → o ≡ Some keys → AreKeys len keys
optional_keys_are_in_range len key None ms h keys is = absurd (cc is)
optional_keys_are_in_range len key (Some held) ms h keys is =
    subst (λ k. AreKeys len k) (some_same held keys is) (keys_are_in_range len h.0 held h.2)
  where
    some_same : (a b : MechKeys) → Some a ≡ Some b → a ≡ b
    some_same a b h = cc h

-- the names in an account's table are at most as many as an account may have
names_are_in_range : (names : List (List ℕ)) (key : List ℕ) (ms : Members) → ((get_member key ms ≡ None) × (names ≡ []))
    ⊎ HasAt key name_list_type ms names → length names ≤ max_names
names_are_in_range names key ms (inl h) = rw h.1 (omega arith)
names_are_in_range names key ms (inr h) = h.2.few

-- an account whose table was read is in its ranges
account_is_in_range : (d : Data) (a : AccountFields) → IsTableIn account_table d a → IsAccount a
account_is_in_range d a h = record {
  sha1 = optional_keys_are_in_range (digest_len_by ScramSha1) (codes "sha1") a.sha1 h.0 h.2.rows.0;
  sha256 = optional_keys_are_in_range (digest_len_by ScramSha256) (codes "sha256") a.sha256 h.0 h.2.rows.1.0;
  names = names_are_in_range a.act_as (codes "act_as") h.0 h.2.rows.1.1.0;
}

-- accounts whose tables were read are in their ranges
accounts_are_in_range : (ms : Members) (entries : List (List ℕ × AccountFields)) → AreAccountTrees ms entries → AreAccounts entries
accounts_are_in_range no_members [] h = tt
accounts_are_in_range no_members (entry ∷ entries) h = absurd h
accounts_are_in_range (member key d ms) [] h = absurd h
accounts_are_in_range (member key d ms) (entry ∷ entries) h = (account_is_in_range d entry.1 h.2, accounts_are_in_range ms entries h.3)

-- accounts whose optional table was read are in their ranges
optional_accounts_are_in_range : (named : Option Members) (entries : List (List ℕ × AccountFields)) → AreAccountsOf named entries
    → AreAccounts entries
optional_accounts_are_in_range None entries h = rw h tt
optional_accounts_are_in_range (Some ms) entries h = accounts_are_in_range ms entries h

-- the book of a tree is in its ranges
pub book_is_in_range : (ms : Members) (book : BookFields) → IsBookTree ms book → IsBook book
book_is_in_range ms book h =
    let count = h.top.rows.1.0 in
    record {
      count = record { at_least = count.2.at_least; at_most = count.2.at_most };
      accounts = optional_accounts_are_in_range h.named book.accounts h.accounts;
    }
