-- Accounts are read from their tables and from no other value; any other is refused for the first demand that it does not meet.
use Rattle.std.proofs.Common.{◌≡◌, ◌+◌, ℕ, List, [], ◌∷◌, true, false, Option, Some, None, Ok, Result, Bool, refl, sym, subst, ◌∙◌}
use Rattle.toml.specs.Data.{Data, Members, no_members, member}
use Rattle.scram_text.specs.Class.{IsPlainName}
use Rattle.book_format.specs.Account.{AccountFields}
use Rattle.book_format.specs.inner.Values.{value_or, plain_name_of}
use Rattle.book_format.specs.Names.{is_plain_name}
use Rattle.book_format.specs.inner.Books.{named_account_of, in_account, accounts_from, accounts_of_table}
use Rattle.book_format.specs.FirstFault.{placed, account_demands, accounts_demands}
use Rattle.book_format.specs.Demands.{Demand, must, if_there}
use Rattle.book_format.specs.inner.Steps.{◌>>=◌}
use Rattle.book_format.specs.Rows.{IsTableIn}
use Rattle.book_format.specs.RowKinds.{table_type}
use Rattle.book_format.specs.inner.Rows.{table_in}
use Rattle.book_format.specs.inner.Tables.{keys_reading, account_reading}
use Rattle.book_format.specs.Tables.{keys_table, account_table}
use Rattle.book_format.specs.Trees.{AreAccountTrees, AreAccountsOf}
use Rattle.book_format.specs.declared.fault.BookWhy.{BookWhy}
use Rattle.book_format.specs.declared.fault.BookWhy.TheVariants.{Name}
use Rattle.book_format.proofs.lemmas.Demands.{FollowsDemands, both_follow, making_keeps_faults}
use Rattle.book_format.proofs.lemmas.Steps.{each_step_gives_value, same_ok_has_same_value}
use Rattle.book_format.proofs.lemmas.ValueTypes.{number_is_exact, bytes_are_exact}
use Rattle.book_format.proofs.lemmas.NameLists.{read_name_stands, name_is_read, name_list_is_exact}
use Rattle.book_format.proofs.lemmas.Rows.{IsExactTable, IsExactType, table_type_is_exact}
use Rattle.book_format.proofs.lemmas.RowKinds.{row_is_exact, row_or_default_is_exact, optional_is_exact}
use Rattle.book_format.proofs.lemmas.FaultPlaces.{in_account_keeps_value, in_account_follows}
use Rattle.book_format.proofs.lemmas.TokenTables.{token_is_exact}

-- the table of a mechanism's keys is read exactly
pub mech_is_exact : (len : ℕ) → IsExactTable (keys_table len) (keys_reading len)
mech_is_exact len = record { gives = λ vs. refl; keeps = λ m. refl; rows = search (row_is_exact, bytes_are_exact, number_is_exact) parts 8 }

-- the table of an account is read exactly
account_is_exact : IsExactTable account_table account_reading
account_is_exact = record {
  gives = λ vs. refl;
  keeps = λ a. refl;
  rows = search (optional_is_exact, row_or_default_is_exact, mechs, name_list_is_exact, token_is_exact) parts 8;
}
  where
    mechs : (len : ℕ) → IsExactType (table_type (keys_table len)) (table_in (keys_table len) (keys_reading len))
    mechs len = table_type_is_exact (keys_table len) (keys_reading len) (mech_is_exact len) (λ ms. tt)

-- the tables of accounts are read exactly
account_type_is_exact : IsExactType (table_type account_table) (table_in account_table account_reading)
account_type_is_exact = table_type_is_exact account_table account_reading account_is_exact (λ ms. tt)

-- an account that was read with its name has its key as name, which is plain, and the table is that of the account
read_entry_stands : (key : List ℕ) (d : Data) (entry : List ℕ × AccountFields) → named_account_of key d ≡ Ok entry
    → (key ≡ entry.0) × IsPlainName entry.0 × IsTableIn account_table d entry.1
unfolding named_account_of
read_entry_stands key d entry h =
    let (name, said, h0) = each_step_gives_value (plain_name_of key) _ entry h in
    let (fields, read, h1) = each_step_gives_value (table_in account_table account_reading d) _ entry h0 in
    let (same, plain) = read_name_stands key name said in
    subst (λ e. (key ≡ e.0) × IsPlainName e.0 × IsTableIn account_table d e.1) (same_ok_has_same_value (name, fields) entry h1)
    (same, plain, account_type_is_exact.found d fields read)

-- reading an account and its name follows the demands on them
entry_follows : (key : List ℕ) (d : Data) → FollowsDemands (account_demands key d) (named_account_of key d)
unfolding named_account_of account_demands
entry_follows key d =
    named (is_plain_name key) key (table_in account_table account_reading d) (λ name fields. (name, fields)) ((table_type account_table).demands d)
    (account_type_is_exact.follows d)
  where
    named : {A B : Type 0} (plain : Bool) (name : List ℕ) (rest : Result A BookWhy) (make : List ℕ → A → B)
        (demands : List (Demand BookWhy)) → FollowsDemands demands rest
        → FollowsDemands (must plain Name ∷ demands) (value_or plain name Name >>= λ name. rest >>= λ fields. Ok (make name fields))
    named true name rest make demands h = h ∙ making_keeps_faults rest (make name)
    named false name rest make demands h = refl

-- an account that was read with its name has its key as name
pub entry_name_is_key : (key : List ℕ) (d : Data) (entry : List ℕ × AccountFields) → named_account_of key d ≡ Ok entry → entry.0 ≡ key
entry_name_is_key key d entry h = sym (read_entry_stands key d entry h).0

-- if a table is read as accounts, its members are their tables, one by one
read_accounts_stand : (index : ℕ) (ms : Members) (entries : List (List ℕ × AccountFields)) → accounts_from index ms ≡ Ok entries
    → AreAccountTrees ms entries
unfolding accounts_from
read_accounts_stand index no_members entries h = subst (λ es. AreAccountTrees no_members es) (same_ok_has_same_value [] entries h) tt
read_accounts_stand index (member key d ms) entries h =
    let (entry, read, h0) = each_step_gives_value (in_account index (named_account_of key d)) _ entries h in
    let (others, more, h1) = each_step_gives_value (accounts_from (index + 1) ms) _ entries h0 in
    let (same, plain, tree) = read_entry_stands key d entry (in_account_keeps_value index _ entry read) in
    subst (λ es. AreAccountTrees (member key d ms) es) (same_ok_has_same_value (entry ∷ others) entries h1)
    (same, plain, tree, read_accounts_stand (index + 1) ms others more)

-- a table whose members are the tables of accounts, one by one, is read as these
pub accounts_are_read : (index : ℕ) (ms : Members) (entries : List (List ℕ × AccountFields)) → AreAccountTrees ms entries
    → accounts_from index ms ≡ Ok entries
unfolding accounts_from named_account_of
accounts_are_read index no_members [] h = refl
accounts_are_read index no_members (entry ∷ entries) h = absurd h
accounts_are_read index (member name d ms) [] h = absurd h
accounts_are_read index (member name d ms) (entry ∷ entries) h =
    rw (h.0, name_is_read entry.0 h.1, account_type_is_exact.held d entry.1 h.2, accounts_are_read (index + 1) ms entries h.3) refl

-- if an optional table is read as accounts, it is theirs, or it is missing and there are none
pub read_optional_accounts_stand : (named : Option Members) (entries : List (List ℕ × AccountFields)) → accounts_of_table named ≡ Ok entries
    → AreAccountsOf named entries
read_optional_accounts_stand None entries h = sym (same_ok_has_same_value [] entries h)
read_optional_accounts_stand (Some ms) entries h = read_accounts_stand 0 ms entries h

-- an optional table that is that of accounts is read as these, and a missing one as none
pub optional_accounts_are_read : (named : Option Members) (entries : List (List ℕ × AccountFields)) → AreAccountsOf named entries
    → accounts_of_table named ≡ Ok entries
optional_accounts_are_read None entries h = rw h refl
optional_accounts_are_read (Some ms) entries h = accounts_are_read 0 ms entries h

-- reading the accounts of a table follows the demands on them
accounts_follow : (index : ℕ) (ms : Members) → FollowsDemands (accounts_demands index ms) (accounts_from index ms)
unfolding accounts_demands accounts_from
accounts_follow index no_members = refl
accounts_follow index (member key d ms) =
    both_follow (placed (Some index) (account_demands key d)) (accounts_demands (index + 1) ms) (in_account index (named_account_of key d))
    (λ entry. accounts_from (index + 1) ms >>= λ entries. Ok (entry ∷ entries))
    (in_account_follows index (account_demands key d) (named_account_of key d) (entry_follows key d))
    (λ entry is. accounts_follow (index + 1) ms ∙ making_keeps_faults (accounts_from (index + 1) ms) (λ entries. entry ∷ entries))

-- reading the accounts of an optional table follows the demands on them, none if it is missing
pub optional_accounts_follow : (named : Option Members) → FollowsDemands (if_there (accounts_demands 0) named) (accounts_of_table named)
optional_accounts_follow None = refl
optional_accounts_follow (Some ms) = accounts_follow 0 ms
