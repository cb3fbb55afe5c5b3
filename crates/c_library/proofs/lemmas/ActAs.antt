-- The texts of a list are those of its bytes, and a saslname spells one name to act as.
use Rattle.std.proofs.Common.{◌≡◌, ℕ, zero, suc, List, [], ◌∷◌, sym, ◌∙◌, ap, refl, arith}
use Rattle.std.specs.List.{Contains}
use Rattle.std.specs.declared.option.Option.{Option}
use Rattle.std.specs.declared.option.Option.TheVariants.{None, Some}
use Rattle.std.proofs.lemmas.Option.{same_Some}
use Rattle.scram_text.specs.Class.{IsPlainName}
use Rattle.scram_text.specs.Name.{SpellsName}
use Rattle.scram_text.proofs.lemmas.Names.{one_name_per_spelling}
use Rattle.scram_ends.specs.Opening.{IsAuthzidOf}
use Rattle.c_library.specs.Logins.{texts_in}
use Rattle.c_library.specs.declared.act_as.Bytes.{Bytes}

-- a text of a list is that of some bytes of it
pub text_is_of_bytes : (list : List Bytes) (text : List ℕ) → Contains (texts_in list) text
    → (bytes : Bytes) × Contains list bytes × (bytes.at.now ≡ text)
text_is_of_bytes [] text (i, within, at) = absurd (omega (arith, within))
text_is_of_bytes (b ∷ rest) text (zero, within, at) = (b, (0, omega arith, refl), at)
text_is_of_bytes (b ∷ rest) text (suc i, within, at) =
    let (bytes, (j, also, there), same) = text_is_of_bytes rest text (i, omega (arith, within), at) in
    (bytes, (suc j, omega (arith, also), there), same)

-- the bytes of a list have a text of it
pub bytes_have_text : (list : List Bytes) (bytes : Bytes) → Contains list bytes → Contains (texts_in list) bytes.at.now
bytes_have_text [] bytes (i, within, at) = absurd (omega (arith, within))
bytes_have_text (b ∷ rest) bytes (zero, within, at) = (0, omega arith, ap (λ (x : Bytes). x.at.now) at)
bytes_have_text (b ∷ rest) bytes (suc i, within, at) =
    let (j, also, there) = bytes_have_text rest bytes (i, omega (arith, within), at) in (suc j, omega (arith, also), there)

-- the name that a saslname spells is the one to act as
pub plain_is_authzid : (part authzid : Option (List ℕ)) (spelled name : List ℕ)
    → Some spelled ≡ part → IsAuthzidOf authzid part → SpellsName name spelled → Some name ≡ authzid
plain_is_authzid (Some part) (Some other) spelled name same is spells =
    ap (λ (n : List ℕ). Some n) (one_name_per_spelling name other (sym spells ∙ (same_Some spelled part same ∙ is.spelled)))
plain_is_authzid (Some part) None spelled name same is spells = absurd is
plain_is_authzid None authzid spelled name same is spells = cc

-- a saslname that spells no plain name is none to act as
pub other_is_no_authzid : (part authzid : Option (List ℕ)) (spelled : List ℕ)
    → Some spelled ≡ part → IsAuthzidOf authzid part → ((name : List ℕ) → IsPlainName name → SpellsName name spelled → ⊥) → ⊥
other_is_no_authzid (Some part) (Some other) spelled same is none =
    none other is.plain (same_Some spelled part same ∙ is.spelled)
other_is_no_authzid (Some part) None spelled same is none = absurd is
other_is_no_authzid None authzid spelled same is none = cc
