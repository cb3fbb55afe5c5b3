-- What a book shows a SCRAM server about a name: an account's keys, or a decoy.
use Rattle.std.specs.Prelude.{ℕ, List, [], ◌∷◌, ◌++◌, take, option_map, option_and_then, unwrap_or, Option}
use Rattle.std.specs.Str.{byte}
use Rattle.std.specs.declared.option.Option.TheVariants.{None, Some}
use Rattle.mac_core.specs.Mechanism.{hmac_by, name_of}
use Rattle.mac_core.specs.declared.mechanism.Mechanism.{Mechanism}
use Rattle.mac_core.specs.declared.mechanism.Mechanism.TheVariants.{ScramSha1, ScramSha256}
use Rattle.scram_ends.specs.Entry.{Entry, keys_of}
use Rattle.book_format.specs.Account.{AccountFields}
use Rattle.book_format.specs.Book.{BookFields}
use Rattle.book_format.specs.declared.account.MechKeys.{MechKeys}
use Rattle.account_book.specs.Accounts.{account_at}

-- the keys that an account has for a mechanism
abbrev pub mech_keys : Mechanism → AccountFields → Option MechKeys
mech_keys ScramSha1 account = account.sha1
mech_keys ScramSha256 account = account.sha256

-- what a server keeps of an account that has these keys
abbrev pub keys_entry : List (List ℕ) → MechKeys → Entry
keys_entry act_as keys = record { salt = keys.salt; count = keys.count; keys = Some (keys_of keys.keys); act_as = act_as }

-- the length of a decoy's salt in bytes
abbrev pub decoy_salt_len : ℕ
decoy_salt_len = 16

-- the salt of a decoy: the first bytes of HMAC-SHA-256 with the book's decoy key over the mechanism's name, a NUL and the
-- name. So a name without keys has one salt for each mechanism, as an account has.
abbrev pub decoy_salt : BookFields → Mechanism → List ℕ → List ℕ
decoy_salt book mechanism name = take decoy_salt_len (hmac_by ScramSha256 book.decoy_key (name_of mechanism ++ byte "\0" ∷ name))

-- a decoy, with the book's count for decoys and no keys
abbrev pub decoy_entry : BookFields → Mechanism → List ℕ → Entry
decoy_entry book mechanism name = record { salt = decoy_salt book mechanism name; count = book.decoy_count; keys = None; act_as = [] }

-- what a server keeps of a name for a mechanism: the account if it has keys for it, else a decoy
abbrev pub entry_in : BookFields → Mechanism → List ℕ → Entry
entry_in book mechanism name =
    unwrap_or (option_and_then (λ account. option_map (keys_entry account.act_as) (mech_keys mechanism account)) (account_at book name))
    (decoy_entry book mechanism name)
