-- The nonces of a login: given by the user, or made of random bytes.
use Rattle.std.specs.Prelude.{ℕ, ◌≡◌, ◌⊎◌, List, [], length, IfSome}
use Rattle.std.specs.Io.KnownBytes.{Consumes}
use Rattle.std.specs.declared.option.Option.{Option}
use Rattle.std.specs.declared.option.Option.TheVariants.{None, Some}
use Rattle.clap.specs.declared.parser.matches.ArgMatches.{ArgMatches}
use Rattle.scram_text.specs.Base64Field.{base64}
use Rattle.scram_text.specs.Class.{IsNoncePart}
use Rattle.command_line.specs.declared.option_name.OptionName.TheVariants as option
use Rattle.command_words.specs.Values.{value_of}

-- how many random bytes a nonce is made of
abbrev pub nonce_bytes : ℕ
nonce_bytes = 18

-- the nonce is the one that is given, and takes no random bytes; or it is the base64 text of random bytes
abbrev pub IsNonceOf : (given : Option (List ℕ)) → (random nonce : List ℕ) → Type 0
IsNonceOf (Some given) random nonce = (random ≡ []) × (nonce ≡ given)
IsNonceOf None random nonce = (length random ≡ nonce_bytes) × (nonce ≡ base64 random)

-- a source of random bytes gives those of a nonce
abbrev pub TakesNonce : (old : Option (List ℕ)) → (given : Option (List ℕ)) → (nonce : List ℕ) → (new : Option (List ℕ)) → Type 0
TakesNonce old given nonce new = (random : List ℕ) × IsNonceOf given random nonce × Consumes old new random

-- a source of random bytes gives those of the client's nonce and of the server's part, one after the other: no byte is in both
abbrev pub TakesNonces : (old : Option (List ℕ)) → (given_client given_server : Option (List ℕ)) → (client server : List ℕ)
    → (new : Option (List ℕ)) → Type 0
TakesNonces old given_client given_server client server new =
    (middle : Option (List ℕ)) × TakesNonce old given_client client middle × TakesNonce middle given_server server new

-- the client's nonce and the server's part of it are both given; or each that is not is the base64 text of the next random bytes of a
-- file, the client's first
abbrev pub AreGivenOrRead : {File : Type 0} → (bytes_of : File → Option (List ℕ)) → (given_client given_server : Option (List ℕ))
    → (client server : List ℕ) → Type 0
AreGivenOrRead {File} bytes_of given_client given_server client server =
    ((given_client ≡ Some client) × (given_server ≡ Some server))
    ⊎ ((file : File) × (after : File) × TakesNonces (bytes_of file) given_client given_server client server (bytes_of after))

-- the nonces are those that the words give, or were read (that these are fresh is not promised); each that the words give can be a part of
-- a nonce
pub record AreNonces {File : Type 0} (bytes_of : File → Option (List ℕ)) (words : ArgMatches) (nonce server_nonce : List ℕ) : Type 0 where
  pub client_range : IfSome (value_of words option.ClientNonce) IsNoncePart
  pub server_range : IfSome (value_of words option.ServerNonce) IsNoncePart
  pub are : AreGivenOrRead bytes_of (value_of words option.ClientNonce) (value_of words option.ServerNonce) nonce server_nonce
