-- The tree that a value is written as is that of the value.
use Rattle.std.proofs.Common.{◌≡◌, inr, ℕ, ℤ, pos, nat_abs, ◌≤◌, List, [], ◌∷◌, ◌++◌, length, codes, true, Option, Some, None, option_map, refl}
use Rattle.std.proofs.Common.{arith}
use Rattle.std.specs.Option.{ForSome}
use Rattle.toml.specs.Data.{integer, Members, no_members, get_member}
use Rattle.mac_core.specs.Mechanism.{digest_len_by}
use Rattle.mac_core.specs.declared.mechanism.Mechanism.TheVariants.{ScramSha256}
use Rattle.otp_core.specs.Ranges.{IsSecretLength, IsDigitCount, IsMoment, min_secret_len, max_secret_len, min_digits, max_digits, max_moment}
use Rattle.otp_core.specs.Ranges.{IsInBounds}
use Rattle.otp_core.specs.declared.fault.Setting.TheVariants.{Last}
use Rattle.otp_core.specs.TokenRanges.{IsHotpInRange, IsTotpInRange}
use Rattle.otp_core.specs.declared.token.kinds.HotpFields.{HotpFields}
use Rattle.otp_core.specs.declared.token.kinds.TotpFields.{TotpFields}
use Rattle.scram_text.specs.Class.{IsPlainName}
use Rattle.scram_text.specs.Limits.{max_iteration_count, max_salt_len}
use Rattle.book_format.specs.Account.{AccountFields, AreKeys, IsAccount}
use Rattle.book_format.specs.Book.{BookFields, AreAccounts, IsBook}
use Rattle.book_format.specs.Keys.{is_among, has_only}
use Rattle.book_format.specs.ValueTypes.{setting_type, IsNumber, IsSigned}
use Rattle.book_format.specs.Names.{AreNames}
use Rattle.book_format.specs.Rows.{ValueType, WritesItself, Table, HasMarks, HasRows, IsTable, table_entries, table_keys, written_table}
use Rattle.book_format.specs.RowKinds.{HasSome, table_type, bound_at}
use Rattle.book_format.specs.Tables.{keys_table, sha1_keys_table, sha256_keys_table, token_type, account_table, document_table}
use Rattle.book_format.specs.Tokens.{hotp_table, totp_table}
use Rattle.book_format.specs.Put.{put_some}
use Rattle.book_format.specs.inner.Rows.{◌&◌}
use Rattle.book_format.specs.Trees.{AreAccountTrees, IsBookTree}
use Rattle.book_format.specs.Written.{accounts_tree, book_tree}
use Rattle.book_format.specs.declared.account.MechKeys.{MechKeys}
use Rattle.book_format.proofs.lemmas.ValueTypes.{ComesBack, written_number_stands, written_bytes_stand}
use Rattle.book_format.proofs.lemmas.Put.{HasAll, are_distinct, put_all_is_found, empty_table_has_none, all_known, put_all_keeps_known}

-- a table is written as that of its T, if what is written at each key makes it so
table_writes_itself : {T : Type 0} (t : Table T) (x : T) → are_distinct (table_entries t x) ≡ true
    → all_known (is_among (table_keys t)) (table_entries t x) ≡ true
    → ((ms : Members) → HasAll (table_entries t x) ms → HasMarks t.marks ms × HasRows t.rows ms x) → IsTable t (written_table t x) x
unfolding written_table has_only
table_writes_itself t x new known each =
    let found = put_all_is_found (table_entries t x) no_members new (empty_table_has_none (table_entries t x)) in
    let (marks, rows) = each (written_table t x) found in
    record { marks = marks; known = put_all_keeps_known (is_among (table_keys t)) (table_entries t x) no_members known refl; rows = rows }

-- a key that may be missing has the option that was written there
optional_writes_itself : {V : Type 0} (values : ValueType V) (key : List ℕ) (ms : Members) (o : Option V)
    → get_member key ms ≡ option_map values.write o → ForSome o (WritesItself values) → HasSome key values ms o
optional_writes_itself values key ms None at h = at
optional_writes_itself k key ms (Some v) at h = (k.write v, at, h v refl)

-- if the bound is at another key, a number from 0 to it is that of the value that it is written as
bounded_number_stands : (key : List ℕ) (ms : Members) (most n : ℕ) → get_member key ms ≡ Some (integer (pos most)) → n ≤ most
    → IsNumber 0 (bound_at key ms) (integer (pos n)) n
bounded_number_stands key ms most n there few = rw there (written_number_stands 0 most n (omega arith) few)

-- if the bound is at another key, a number at most that far above or below 0 is that of the value that it is written as
bounded_signed_stands : (key : List ℕ) (ms : Members) (most : ℕ) (z : ℤ) → get_member key ms ≡ Some (integer (pos most)) → nat_abs z ≤ most
    → IsSigned (bound_at key ms) (integer z) z
bounded_signed_stands key ms most z there few = rw there (record { there = refl; at_most = few })

-- keys in their ranges whose bytes can be read back from their texts are written as their table
pub mech_writes_itself : (len : ℕ) (m : MechKeys) → AreKeys len m → ComesBack m.salt → ComesBack m.keys.stored.items
    → ComesBack m.keys.server.items → WritesItself (table_type (keys_table len)) m
mech_writes_itself len m fits salt stored server =
    let lengths : (n : ℕ) → n ≡ len → (len ≤ n) × (n ≤ len) = λ n is. (omega (arith, is), omega (arith, is)) in (
      _,
      refl,
      table_writes_itself (keys_table len) m refl refl (λ ms at. (
        tt,
        (_, at.0, written_bytes_stand 1 max_salt_len m.salt salt fits.salt.at_least fits.salt.at_most)
            & (_, at.1.0, written_number_stands 1 max_iteration_count m.count fits.count.at_least fits.count.at_most)
            & (_, at.1.1.0, written_bytes_stand len len _ stored (lengths _ fits.stored).0 (lengths _ fits.stored).1)
            & (_, at.1.1.1.0, written_bytes_stand len len _ server (lengths _ fits.server).0 (lengths _ fits.server).1)
            & tt,
      )),
    )

-- a HOTP token in its ranges whose secret can be read back from its text is written as its table
pub hotp_writes_itself : (t : HotpFields) → IsHotpInRange t → IsSecretLength (length t.secret) → IsDigitCount t.digits → ComesBack t.secret
    → WritesItself (table_type hotp_table) t
hotp_writes_itself t (next, (look_ahead, (sync_ahead, (limit, (failures, end))))) secret digits back = (
  _,
  refl,
  table_writes_itself hotp_table t refl refl (λ ms at.
      let rows = at.1 in (
        (at.0, tt),
        (_, rows.0, written_bytes_stand min_secret_len max_secret_len t.secret back secret.0 secret.1)
            & (_, rows.1.0, written_number_stands min_digits max_digits t.digits digits.0 digits.1)
            & (_, rows.1.1.0, written_number_stands _ _ t.next next.0 next.1)
            & (_, rows.1.1.1.0, written_number_stands _ _ t.look_ahead look_ahead.0 look_ahead.1)
            & inr (_, rows.1.1.1.1.0, written_number_stands _ _ t.sync_ahead sync_ahead.0 sync_ahead.1)
            & (_, rows.1.1.1.1.1.0, written_number_stands _ _ t.limit limit.0 limit.1)
            & (_, rows.1.1.1.1.1.1.0, bounded_number_stands (codes "limit") ms t.limit t.failures rows.1.1.1.1.1.0 failures)
            & tt,
      )),
)

-- the last step is written as the key that may be missing, if it is in its range
last_step_writes_itself : (ms : Members) (last : Option ℕ) → get_member (codes "last") ms ≡ option_map (λ n. integer (pos n)) last
    → ForSome last (IsInBounds Last) → HasSome (codes "last") (setting_type Last) ms last
last_step_writes_itself ms last there within = optional_writes_itself (setting_type Last) (codes "last") ms last there
    (λ l is. written_number_stands _ _ l (within l is).0 (within l is).1)

-- a TOTP token in its ranges whose secret can be read back from its text is written as its table
pub totp_writes_itself : (t : TotpFields) → IsTotpInRange t → IsSecretLength (length t.secret) → IsDigitCount t.digits → IsMoment t.t0
    → ComesBack t.secret → WritesItself (table_type totp_table) t
totp_writes_itself t (step, (back, (ahead, (max_drift, (last, (drift, (limit, (failures, end)))))))) secret digits t0 hex = (
  _,
  refl,
  table_writes_itself totp_table t refl refl (λ ms at.
      let first = at.1 in
      let then = first.1.1.1.1.1.1.1 in (
        (at.0, tt),
        (_, first.0, refl)
            & (_, first.1.0, written_bytes_stand min_secret_len max_secret_len t.secret hex secret.0 secret.1)
            & (_, first.1.1.0, written_number_stands min_digits max_digits t.digits digits.0 digits.1)
            & (_, first.1.1.1.0, written_number_stands 0 max_moment t.t0 (omega arith) t0)
            & (_, first.1.1.1.1.0, written_number_stands _ _ t.step step.0 step.1)
            & (_, first.1.1.1.1.1.0, written_number_stands _ _ t.back back.0 back.1)
            & (_, first.1.1.1.1.1.1.0, written_number_stands _ _ t.ahead ahead.0 ahead.1)
            & (_, then.0, written_number_stands _ _ t.max_drift max_drift.0 max_drift.1)
            & last_step_writes_itself ms t.last then.1.0 last
            & (_, then.1.1.0, bounded_signed_stands (codes "max_drift") ms t.max_drift t.drift then.0 drift)
            & (_, then.1.1.1.0, written_number_stands _ _ t.limit limit.0 limit.1)
            & (_, then.1.1.1.1.0, bounded_number_stands (codes "limit") ms t.limit t.failures then.1.1.1.0 failures)
            & tt,
      )),
)

-- putting the last step after all other keys is writing the token with it
any_last_step_goes_last : (t : TotpFields) (last : Option ℕ)
    → put_some (codes "last") (option_map (λ n. integer (pos n)) last) (written_table totp_table (record t { last = None }))
    ≡ written_table totp_table (record t { last = last })
unfolding written_table
any_last_step_goes_last t None = refl
any_last_step_goes_last t (Some last) = refl

-- putting the last step of a TOTP token after all its other keys is writing the token
pub last_step_goes_last : (t : TotpFields) → put_some (codes "last") (option_map (λ n. integer (pos n)) t.last)
    (written_table totp_table (record t { last = None }))
    ≡ written_table totp_table t
last_step_goes_last t = any_last_step_goes_last t t.last

-- an account in its ranges each of whose parts writes itself is written as its table
pub account_writes_itself : (a : AccountFields) → IsAccount a → AreNames a.act_as
    → ForSome a.sha1 (WritesItself (table_type sha1_keys_table)) → ForSome a.sha256 (WritesItself (table_type sha256_keys_table))
    → ForSome a.token (WritesItself token_type) → WritesItself (table_type account_table) a
account_writes_itself a fits plain sha1 sha256 of_token = (
  _,
  refl,
  table_writes_itself account_table a refl refl (λ ms at. (
    tt,
    optional_writes_itself (table_type sha1_keys_table) (codes "sha1") ms a.sha1 at.0 sha1
        & optional_writes_itself (table_type sha256_keys_table) (codes "sha256") ms a.sha256 at.1.0 sha256
        & inr (_, at.1.1.0, record { there = refl; plain = plain; few = fits.names })
        & optional_writes_itself token_type (codes "token") ms a.token at.1.1.1.0 of_token
        & tt,
  )),
)

-- an account in the middle of accounts in their ranges is in its ranges
pub middle_account_is_in_range : (done : List (List ℕ × AccountFields)) (e : List ℕ × AccountFields) (more : List (List ℕ × AccountFields))
    → AreAccounts (done ++ e ∷ more) → IsAccount e.1
middle_account_is_in_range [] e more h = h.0
middle_account_is_in_range (first ∷ done) e more h = middle_account_is_in_range done e more h.1

-- accounts and one more, whose name is plain and which writes itself, are the trees of all of them
pub more_accounts_are_trees : (done : List (List ℕ × AccountFields)) (e : List ℕ × AccountFields)
    → AreAccountTrees (accounts_tree done) done
    → IsPlainName e.0 → WritesItself (table_type account_table) e.1 → AreAccountTrees (accounts_tree (done ++ e ∷ [])) (done ++ e ∷ [])
unfolding accounts_tree
more_accounts_are_trees [] e h plain tree = (refl, plain, tree, tt)
more_accounts_are_trees (first ∷ done) e h plain tree = (h.0, h.1, h.2, more_accounts_are_trees done e h.3 plain tree)

-- a book in its ranges whose accounts are their trees is written as its tree
pub book_writes_itself : (b : BookFields) → IsBook b → length b.decoy_key ≡ digest_len_by ScramSha256 → ComesBack b.decoy_key
    → AreAccountTrees (accounts_tree b.accounts) b.accounts → IsBookTree (book_tree b) b
unfolding book_tree
book_writes_itself b fits key back accounts =
    let len = digest_len_by ScramSha256 in
    record {
      named = Some (accounts_tree b.accounts);
      top = table_writes_itself document_table _ refl refl (λ ms at. (
        (at.0, tt),
        (_, at.1.0, written_bytes_stand len len b.decoy_key back (omega (arith, key)) (omega (arith, key)))
            & (_, at.1.1.0, written_number_stands 1 max_iteration_count b.decoy_count fits.count.at_least fits.count.at_most)
            & (_, at.1.1.1.0, refl)
            & tt,
      ));
      accounts = accounts;
    }

-- plain names and one more plain name are plain names
pub more_names_are_plain : (done : List (List ℕ)) (name : List ℕ) → AreNames done → IsPlainName name → AreNames (done ++ name ∷ [])
more_names_are_plain [] name h plain = (plain, tt)
more_names_are_plain (first ∷ done) name h plain = (h.0, more_names_are_plain done name h.1 plain)
