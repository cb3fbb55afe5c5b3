-- How long the gs2-header and the bare message of a client-first message may be, if its names are plain.
use Rattle.std.proofs.Common.{◌≡◌, ℕ, ◌+◌, ◌≤◌, List, [], ◌∷◌, ◌++◌, length, length-append, ap, inl, inr, arith}
use Rattle.std.specs.Prelude.{codes}
use Rattle.std.specs.declared.option.Option.{Option}
use Rattle.std.specs.declared.option.Option.TheVariants.{None, Some}
use Rattle.std.specs.Str.{byte}
use Rattle.scram_text.specs.Limits.{max_nonce_part_len}
use Rattle.scram_text.specs.Class.{IsPlainName}
use Rattle.scram_text.specs.Name.{name_spelling}
use Rattle.scram_text.specs.Parts.{authzid_text}
use Rattle.scram_text.specs.Messages.{ClientFirstParts, gs2_header, client_first_bare}
use Rattle.scram_text.specs.Written.{client_first_of}
use Rattle.scram_text.specs.declared.client_first.Flag.{Flag}
use Rattle.scram_text.proofs.lemmas.Names.{length-spelling}
use Rattle.scram_ends.specs.Opening.{IsAuthzidOf, IsUnbound}
use Rattle.scram_ends.specs.declared.lengths.TheConstants.{MAX_NAME_FIELD_LEN, MAX_HEADER_LEN, MAX_BARE_LEN}

-- a plain name, spelled and after its `n=` or `a=`, is no longer than a name in a message may be
spelled_name_is_short : (name : List ℕ) → IsPlainName name → length (name_spelling name) + 2 ≤ MAX_NAME_FIELD_LEN
spelled_name_is_short name is = omega (arith, length-spelling name, is.at_most)

-- the name to act as that a message has, after its `a=`, is no longer than a name in a message may be
authzid_is_short : (authzid part : Option (List ℕ)) → IsAuthzidOf authzid part → length (authzid_text part) ≤ MAX_NAME_FIELD_LEN
authzid_is_short None None is = omega arith
authzid_is_short None (Some part) is = absurd is
authzid_is_short (Some name) None is = absurd is
authzid_is_short (Some name) (Some part) is = omega (arith, ap length is.spelled, spelled_name_is_short name is.plain)

-- the flags `n` and `y` have one byte
length-unbound : (flag : List ℕ) → IsUnbound flag → length flag ≡ 1
length-unbound flag (inl n) = ap length n
length-unbound flag (inr y) = ap length y

-- the length of a header is that of its flag and of its name to act as, plus two commas
pub length-header : (f a : List ℕ) → length (f ++ byte "," ∷ (a ++ byte "," ∷ [])) ≡ length f + length a + 2
length-header f a = omega (arith, length-append f (byte "," ∷ (a ++ byte "," ∷ [])), length-append a (byte "," ∷ []))

-- a header without channel binding, whose name to act as is plain, is no longer than a header may be
pub unbound_header_is_short : (p : ClientFirstParts) (authzid : Option (List ℕ))
    → IsUnbound p.flag → IsAuthzidOf authzid p.authzid → length (gs2_header p) ≤ MAX_HEADER_LEN
unfolding gs2_header
unbound_header_is_short p authzid unbound is =
    omega (arith, length-header p.flag (authzid_text p.authzid), length-unbound p.flag unbound, authzid_is_short authzid p.authzid is)

-- the bare message of a plain name and a part of a nonce, without extensions, is no longer than a client's may be
pub plain_bare_is_short : (flag : Flag) (authzid : Option (List ℕ)) (name nonce : List ℕ)
    → IsPlainName name → length nonce ≤ max_nonce_part_len
    → length (client_first_bare (client_first_of flag authzid name nonce [])) ≤ MAX_BARE_LEN
unfolding client_first_bare
plain_bare_is_short flag authzid name nonce is short =
    omega
    (arith, length-append (codes "n=" ++ name_spelling name) (byte "," ∷ (codes "r=" ++ nonce)), spelled_name_is_short name is, short)
