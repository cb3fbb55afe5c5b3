-- The account that a password is enrolled as.
use Rattle.std.specs.Prelude.{ℕ, List, []}
use Rattle.std.specs.declared.option.Option.TheVariants.{None, Some}
use Rattle.mac_core.specs.declared.mechanism.Mechanism.{Mechanism}
use Rattle.mac_core.specs.declared.mechanism.Mechanism.TheVariants.{ScramSha1, ScramSha256}
use Rattle.scram_ends.specs.Entry.{password_keys}
use Rattle.book_format.specs.Account.{AccountFields}
use Rattle.book_format.specs.declared.account.MechKeys.{MechKeys}

-- the keys of a password for a mechanism, with the salt and the count that they are made with
abbrev pub keys_from : Mechanism → (password salt : List ℕ) → (count : ℕ) → MechKeys
keys_from m password salt count =
    let keys = password_keys m password salt count in
    record {
      salt = salt;
      count = count;
      keys =
          record { stored = record { items = keys.stored }; server = record { items = keys.server } };
    }

-- an account with the keys of a password for both mechanisms, which may act as no other name and has no token
abbrev pub enrolled : (password sha1_salt sha256_salt : List ℕ) → (count : ℕ) → AccountFields
enrolled password sha1_salt sha256_salt count = record {
  sha1 = Some (keys_from ScramSha1 password sha1_salt count);
  sha256 = Some (keys_from ScramSha256 password sha256_salt count);
  act_as = [];
  token = None;
}
