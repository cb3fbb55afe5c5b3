-- What is written as client-first is the text of its parts, and a message.
use Rattle.std.proofs.Common.{◌≡◌, ℕ, ◌≤◌, List, [], ◌∷◌, ◌++◌, length, length-append, refl, sym, ◌∙◌, ap, subst, append_assoc, arith, true}
use Rattle.std.specs.Prelude.{codes, option_map, IfSome}
use Rattle.std.specs.declared.option.Option.{Option}
use Rattle.std.specs.declared.option.Option.TheVariants.{None, Some}
use Rattle.std.specs.Str.{byte}
use Rattle.scram_text.specs.Limits.{max_message_len, max_nonce_part_len}
use Rattle.scram_text.specs.Class.{IsUtf8Text, IsPlainName, IsNoncePart}
use Rattle.scram_text.specs.Name.{IsSaslName, name_spelling}
use Rattle.scram_text.specs.Parts.{is_flag, authzid_text}
use Rattle.scram_text.specs.Messages.{ClientFirstParts, gs2_header, client_first_bare, client_first_text, IsClientFirst}
use Rattle.scram_text.specs.Shown.{flag_text}
use Rattle.scram_text.specs.Draft.{after_comma}
use Rattle.scram_text.specs.Written.{client_first_of, CanBeClientFirst}
use Rattle.scram_text.specs.declared.client_first.Flag.{Flag}
use Rattle.scram_text.specs.declared.client_first.Flag.TheVariants.{NoBinding, NotOffered, Binding}
use Rattle.scram_text.proofs.lemmas.Names.{spelling_is_saslname}
use Rattle.scram_text.proofs.lemmas.Texts.{empty_is_text, cb_name_is_text, IsUtf8Text-append, plain_is_text, nonce_is_text, spelling_is_text}
use Rattle.scram_text.proofs.lemmas.messages_composed.Joined.{extensions_join_after_comma, after_comma_is_text}

-- pieces joined one after another are one text, however they are grouped
client_first_pieces_regroup : (f c a d l n r o e : List ℕ)
    → (((((((f ++ c) ++ a) ++ d) ++ l) ++ n) ++ r) ++ o) ++ e ≡ (f ++ (c ++ (a ++ d))) ++ ((l ++ n) ++ (r ++ (o ++ e)))
client_first_pieces_regroup f c a d l n r o e = simp append_assoc

-- what is written of a gs2-header is its text
pub pieces_compose_header : (flag : Flag) (authzid : Option (List ℕ)) (name nonce extensions : List ℕ)
    → ((flag_text flag ++ codes ",") ++ authzid_text (option_map name_spelling authzid)) ++ codes ","
    ≡ gs2_header (client_first_of flag authzid name nonce extensions)
unfolding gs2_header
pieces_compose_header flag authzid name nonce extensions = simp append_assoc

-- what is written of client-first is its text
pub pieces_compose_client_first : (flag : Flag) (authzid : Option (List ℕ)) (name nonce extensions : List ℕ)
    → (((((((flag_text flag ++ codes ",") ++ authzid_text (option_map name_spelling authzid)) ++ codes ",") ++ codes "n=")
    ++ name_spelling name) ++ codes ",r=") ++ nonce) ++ after_comma extensions
    ≡ client_first_text (client_first_of flag authzid name nonce extensions)
unfolding client_first_text gs2_header client_first_bare
pieces_compose_client_first flag authzid name nonce extensions =
    client_first_pieces_regroup (flag_text flag) (codes ",") (authzid_text (option_map name_spelling authzid)) (codes ",") (codes "n=")
    (name_spelling name)
    (codes ",r=") nonce (after_comma extensions)
    ∙ ap (λ (t : List ℕ). (flag_text flag ++ byte "," ∷ (authzid_text (option_map name_spelling authzid) ++ byte "," ∷ []))
    ++ ((codes "n=" ++ name_spelling name) ++ byte "," ∷ t))
    (sym (extensions_join_after_comma (codes "r=" ++ nonce) extensions))

-- the gs2-header of a message is no longer than the message
pub header_is_no_longer : (p : ClientFirstParts) → length (gs2_header p) ≤ length (client_first_text p)
unfolding client_first_text
header_is_no_longer p = omega (arith, length-append (gs2_header p) (client_first_bare p))

-- the spelling of a plain name to act as, if there is one, is a saslname
authzid_spelling_is_saslname : (authzid : Option (List ℕ)) → IfSome authzid IsPlainName
    → IfSome (option_map name_spelling authzid) IsSaslName
authzid_spelling_is_saslname None is = tt
authzid_spelling_is_saslname (Some name) is = spelling_is_saslname name is.at_least

-- the part of a plain name to act as is a text in UTF-8, also if there is none
authzid_is_text : (authzid : Option (List ℕ)) → IfSome authzid IsPlainName → IsUtf8Text (authzid_text (option_map name_spelling authzid))
authzid_is_text None is = empty_is_text
authzid_is_text (Some name) is =
    IsUtf8Text-append (codes "a=") (name_spelling name) (plain_is_text (codes "a=") refl) (spelling_is_text name is.each)

-- a flag is a text
flag_is_text : (flag : Flag) → is_flag (flag_text flag) ≡ true → IsUtf8Text (flag_text flag)
flag_is_text NoBinding is = plain_is_text (codes "n") refl
flag_is_text NotOffered is = plain_is_text (codes "y") refl
flag_is_text (Binding name) is = IsUtf8Text-append (codes "p=") name.now (plain_is_text (codes "p=") refl) (cb_name_is_text name.now is)

-- the text of what can be written as client-first is a client-first message, if it is within the limit
pub written_is_client_first : (flag : Flag) (authzid : Option (List ℕ)) (name nonce extensions : List ℕ)
    → IfSome authzid IsPlainName → IsPlainName name → IsNoncePart nonce → CanBeClientFirst flag extensions
    → length (client_first_text (client_first_of flag authzid name nonce extensions)) ≤ max_message_len
    → IsClientFirst (client_first_text (client_first_of flag authzid name nonce extensions))
    (client_first_of flag authzid name nonce extensions)
written_is_client_first flag authzid name nonce extensions is_authzid is_name is_nonce can short =
    let flagged = IsUtf8Text-append (flag_text flag) (codes ",") (flag_is_text flag can.flag_class) (plain_is_text (codes ",") refl) in
    let authorised = IsUtf8Text-append _ (authzid_text (option_map name_spelling authzid)) flagged (authzid_is_text authzid is_authzid) in
    let headed = IsUtf8Text-append _ (codes ",") authorised (plain_is_text (codes ",") refl) in
    let named = IsUtf8Text-append _ (name_spelling name) (IsUtf8Text-append _ (codes "n=") headed (plain_is_text (codes "n=") refl))
    (spelling_is_text name is_name.each) in
    let fresh = IsUtf8Text-append _ nonce (IsUtf8Text-append _ (codes ",r=") named (plain_is_text (codes ",r=") refl))
    (nonce_is_text max_nonce_part_len nonce is_nonce) in
    let whole = IsUtf8Text-append _ (after_comma extensions) fresh (after_comma_is_text extensions can.extensions_class.utf8_text) in
    record {
      spelled = refl;
      flag = can.flag_class;
      authzid = authzid_spelling_is_saslname authzid is_authzid;
      mext = tt;
      name = spelling_is_saslname name is_name.at_least;
      nonce = is_nonce;
      extensions = can.extensions_class.each;
      utf8_text = subst IsUtf8Text (pieces_compose_client_first flag authzid name nonce extensions) whole;
      short = short;
    }
