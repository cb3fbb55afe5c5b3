-- The parts of client-first: they are read in only one way, and a text that has them has no fault.
use Rattle.std.proofs.Common.{◌≡◌, inl, inr, ℕ, suc, ◌+◌, ◌≤◌, true, false, ◌&&◌, ◌||◌, List, [], ◌∷◌, ◌++◌, length, replicate, refl, sym, ◌∙◌, ap}
use Rattle.std.proofs.Common.{arith, subst, append_assoc}
use Rattle.std.specs.Prelude.{codes, IfOk, IfErr, IfSome, IsOkAnd, ◌==◌, nat_le}
use Rattle.std.specs.List.{list_all}
use Rattle.std.specs.declared.option.Option.{Option}
use Rattle.std.specs.declared.option.Option.TheVariants.{None, Some}
use Rattle.std.specs.declared.result.Result.{Result}
use Rattle.std.proofs.lemmas.Bool.{cases_Bool, eqb-true, both_ways, and_parts}
use Rattle.std.proofs.lemmas.List.Splits.{join_with_byte-slice_split}
use Rattle.std.specs.Str.{byte}
use Rattle.scram_text.specs.Limits.{max_message_len, max_nonce_part_len}
use Rattle.scram_text.specs.Class.{is_cb_char, IsNonce, IsUtf8Text}
use Rattle.scram_text.specs.Name.{LacksComma, IsSaslName}
use Rattle.scram_text.specs.Parts.{parts, joined, is_flag, is_cb_name, authzid_text, mext_parts, is_named, IsValue, AreExtensions}
use Rattle.scram_text.specs.Messages.{ClientFirstParts, gs2_header, bare_parts, client_first_bare, client_first_text, IsClientFirst}
use Rattle.scram_text.specs.Laws.{HasOneClientFirst}
use Rattle.scram_text.specs.Faults.{Fits, fault, places, IsAuthzid, IsFirstMisfit, places_with_mext, first_of, client_first_places}
use Rattle.scram_text.specs.Faults.{IsClientFirstFault}
use Rattle.scram_text.specs.inner.Pieces.{IsExtensionMisfit, IsMextAndRest, IsBareMisfit}
use Rattle.scram_text.specs.Shown.{ShowsClientFirst}
use Rattle.scram_text.specs.declared.client_first.ClientFirst.{ClientFirst}
use Rattle.scram_text.specs.declared.fault.TextFault.{TextFault}
use Rattle.scram_text.specs.declared.fault.TextWhy.{TextWhy}
use Rattle.scram_text.specs.declared.fault.TextWhy.TheVariants.{Flag, Authzid, Name, Nonce, Extension}
use Rattle.scram_text.proofs.lemmas.Parts.{first_part_precedes_comma, unfit_part_is_misfit, fitting_part_keeps_misfit, equal_index_keeps_misfit}
use Rattle.scram_text.proofs.lemmas.Places.{AllFit, AllFit-cons, extensions_fit, part_fault_is_fault, fitting_text_has_no_fault, nonce_lacks_comma}
use Rattle.scram_text.proofs.lemmas.Places.{extensions_lack_comma, parts-joined_list}
use Rattle.scram_text.proofs.lemmas.MextAndRest.{places-cons, front_places_unfold, joined_are_mext_and_rest, mext_and_rest_lack_comma}
use Rattle.scram_text.proofs.lemmas.MextAndRest.{mext_and_rest_are_nonempty, one_mext_and_rest, mext_and_rest_fit, rest_misfit_is_of_all_parts}
use Rattle.scram_text.proofs.lemmas.MextAndRest.{mext_and_rest_lengths_add_up}
use Rattle.scram_text.proofs.lemmas.WithoutByte.{class_lacks_byte}
use Rattle.scram_text.proofs.lemmas.ReadMessages.{message_is_read}

-- the parts after the mandatory extension, if there is one
abbrev client_first_rest : ClientFirstParts → List (List ℕ)
client_first_rest p = (codes "n=" ++ p.name) ∷ (codes "r=" ++ p.nonce) ∷ p.extensions

-- a channel binding's name, of letters, digits, points and hyphens, has no comma
cb_name_lacks_comma : (name : List ℕ) → is_cb_name name ≡ true → LacksComma name
cb_name_lacks_comma name is =
    class_lacks_byte (byte ",") is_cb_char name refl (and_parts (nat_le 1 (length name)) (list_all is_cb_char name) is).1

-- a flag, which is `n`, `y`, or `p=` with the name of a channel binding, has no comma
flag_lacks_comma : (flag : List ℕ) → is_flag flag ≡ true → LacksComma flag
flag_lacks_comma [] is = refl
flag_lacks_comma (c ∷ []) is = class_lacks_byte (byte ",") (λ b. (b == byte "n") || (b == byte "y")) (c ∷ []) refl (rw is refl)
flag_lacks_comma (a ∷ b ∷ name) is =
    let front = and_parts ((a == byte "p") && (b == byte "=")) (is_cb_name name) is in
    let letters = and_parts (a == byte "p") (b == byte "=") front.0 in
    rw (eqb-true a (byte "p") letters.0, eqb-true b (byte "=") letters.1) (cb_name_lacks_comma name front.1)

-- the part `a=` with a saslname to act as, or the empty part if there is none, has no comma
authzid_lacks_comma : (authzid : Option (List ℕ)) → IfSome authzid IsSaslName → LacksComma (authzid_text authzid)
authzid_lacks_comma None is = refl
authzid_lacks_comma (Some spelled) is = is.no_comma

-- the bare message is cut into its parts
parts-client_first_bare : (p : ClientFirstParts) → IfSome p.mext IsValue → IsSaslName p.name → IsNonce max_nonce_part_len p.nonce
    → AreExtensions p.extensions
    → parts (client_first_bare p) ≡ bare_parts p
unfolding client_first_bare
parts-client_first_bare p mext name nonce extensions =
    parts-joined_list (bare_parts p) (mext_and_rest_are_nonempty p.mext (codes "n=" ++ p.name) _)
    (mext_and_rest_lack_comma p.mext (client_first_rest p) mext
    (name.no_comma, (nonce_lacks_comma max_nonce_part_len p.nonce nonce, extensions_lack_comma p.extensions extensions)))

-- a header of two parts and what follows it are the parts, with a comma after each, and what follows
pub header_pieces_regroup : (flag authzid rest : List ℕ) → (flag ++ byte "," ∷ (authzid ++ byte "," ∷ [])) ++ rest ≡ flag ++ byte ","
    ∷ (authzid ++ byte "," ∷ rest)
header_pieces_regroup flag authzid rest =
    append_assoc flag (byte "," ∷ (authzid ++ byte "," ∷ [])) rest
    ∙ ap (λ (t : List ℕ). flag ++ byte "," ∷ t) (append_assoc authzid (byte "," ∷ []) rest)

-- a client-first message is cut into its parts
pub parts-client_first : (text : List ℕ) (p : ClientFirstParts) → IsClientFirst text p
    → parts text ≡ p.flag ∷ authzid_text p.authzid ∷ bare_parts p
unfolding client_first_text gs2_header
parts-client_first text p is =
    let whole : text ≡ p.flag ++ byte "," ∷ (authzid_text p.authzid ++ byte "," ∷ client_first_bare p) = is.spelled
    ∙ header_pieces_regroup p.flag (authzid_text p.authzid)
    (client_first_bare p) in
    ap parts whole ∙ first_part_precedes_comma p.flag (authzid_text p.authzid ++ byte "," ∷ client_first_bare p)
    (flag_lacks_comma p.flag is.flag)
    ∙ ap (λ (ps : List (List ℕ)). p.flag ∷ ps) (first_part_precedes_comma (authzid_text p.authzid) (client_first_bare p)
    (authzid_lacks_comma p.authzid is.authzid))
    ∙ ap (λ (ps : List (List ℕ)). p.flag ∷ authzid_text p.authzid ∷ ps) (parts-client_first_bare p is.mext is.name is.nonce is.extensions)

-- the name to act as is read from its part in only one way
one_authzid_per_part : (one other : Option (List ℕ)) → authzid_text one ≡ authzid_text other → one ≡ other
one_authzid_per_part None None same = refl
one_authzid_per_part None (Some v) same = absurd (cc same)
one_authzid_per_part (Some v) None same = absurd (cc same)
one_authzid_per_part (Some v) (Some w) same = let names : v ≡ w = cc same in ap Some names

-- the parts of client-first are the same if each of them is
same_fields_make_same_parts : (p q : ClientFirstParts) → p.flag ≡ q.flag → p.authzid ≡ q.authzid → p.mext ≡ q.mext → p.name ≡ q.name
    → p.nonce ≡ q.nonce
    → p.extensions ≡ q.extensions → p ≡ q
same_fields_make_same_parts p q flag authzid mext name nonce extensions =
    λ i. record { flag = flag i; authzid = authzid i; mext = mext i; name = name i; nonce = nonce i; extensions = extensions i }

-- the law: a text is client-first with at most one list of parts
pub has_one_client_first : HasOneClientFirst
has_one_client_first text p q is also =
    let same : p.flag ∷ authzid_text p.authzid ∷ bare_parts p ≡ q.flag ∷ authzid_text q.authzid ∷ bare_parts q =
    sym (parts-client_first text p is) ∙ parts-client_first text q also in
    let flags : p.flag ≡ q.flag = cc same in
    let authzids : authzid_text p.authzid ≡ authzid_text q.authzid = cc same in
    let bares : bare_parts p ≡ bare_parts q = cc same in
    let rest = one_mext_and_rest p.mext q.mext (codes "n=" ++ p.name) (codes "n=" ++ q.name) _ _ refl refl bares in
    let later : client_first_rest p ≡ client_first_rest q = rest.1 in
    let names : p.name ≡ q.name = cc later in
    let nonces : p.nonce ≡ q.nonce = cc later in
    let extensions : p.extensions ≡ q.extensions = cc later in
    same_fields_make_same_parts p q flags (one_authzid_per_part p.authzid q.authzid authzids) rest.0 names nonces extensions

-- the places of the parts after the mandatory extension are Name, Nonce and one Extension for each extension
pub client_first_rest_places_unfold : (name nonce : List ℕ) (extensions : List (List ℕ))
    → places (Name ∷ Nonce ∷ []) [] (length (name ∷ nonce ∷ extensions)) ≡ Name ∷ Nonce ∷ replicate (length extensions) Extension
client_first_rest_places_unfold name nonce extensions =
    front_places_unfold (Name ∷ Nonce ∷ []) (length (name ∷ nonce ∷ extensions)) (length extensions) (omega arith)

-- if the name and the nonce of client-first fit, and the parts after them are extensions, all fit their places
name_and_nonce_fit : (name nonce : List ℕ) (extensions : List (List ℕ)) → Fits max_nonce_part_len Name name
    → Fits max_nonce_part_len Nonce nonce
    → AreExtensions extensions
    → AllFit max_nonce_part_len (places (Name ∷ Nonce ∷ []) [] (length (name ∷ nonce ∷ extensions))) (name ∷ nonce ∷ extensions)
name_and_nonce_fit name nonce extensions is_name is_nonce are =
    rw (client_first_rest_places_unfold name nonce extensions)
    (AllFit-cons max_nonce_part_len Name _ name _ is_name (AllFit-cons max_nonce_part_len Nonce _ nonce _ is_nonce
    (extensions_fit max_nonce_part_len extensions are)))

-- the places of the header's parts and of those after it are Flag, Authzid and the places of those after it
pub header_places_unfold : (later : List TextWhy) (n : ℕ)
    → places (Flag ∷ Authzid ∷ later) [] (suc (suc n)) ≡ Flag ∷ Authzid ∷ places later [] n
header_places_unfold later n =
    places-cons Flag (Authzid ∷ later) [] (suc n) ∙ ap (λ (ps : List TextWhy). Flag ∷ ps) (places-cons Authzid later [] n)

-- there are as many fixed places as later ones, and one more for a mandatory extension if the parts begin with one
later_places_add_up : (pieces : List (List ℕ)) (later : List TextWhy)
    → length (places_with_mext pieces later) ≡ length (places_with_mext pieces []) + length later
later_places_add_up pieces later = elim (cases_Bool (is_named (byte "m") (first_of pieces))) [
  | inl hit ↦ rw hit (omega arith)
  | inr miss ↦ rw miss (omega arith)
]

-- if the flag, the name to act as and the parts of the bare message fit their places, all parts of client-first do
pub client_first_parts_fit : (flag authzid : List ℕ) (bare : List (List ℕ)) → Fits max_nonce_part_len Flag flag
    → Fits max_nonce_part_len Authzid authzid
    → AllFit max_nonce_part_len (places (places_with_mext bare (Name ∷ Nonce ∷ [])) [] (length bare)) bare
    → AllFit max_nonce_part_len (places (client_first_places (flag ∷ authzid ∷ bare)) [] (length (flag ∷ authzid ∷ bare)))
    (flag ∷ authzid ∷ bare)
client_first_parts_fit flag authzid bare is_flag is_authzid fit =
    subst (λ (ps : List TextWhy). AllFit max_nonce_part_len ps (flag ∷ authzid ∷ bare))
    (sym (header_places_unfold (places_with_mext bare (Name ∷ Nonce ∷ [])) (length bare)))
    (AllFit-cons max_nonce_part_len Flag _ flag _ is_flag (AllFit-cons max_nonce_part_len Authzid _ authzid _ is_authzid fit))

-- the parts of the bare message are its mandatory extension, if it has one, and the others
pub bare_has_mext_and_rest : (p : ClientFirstParts) → IfSome p.mext IsValue → IsMextAndRest (bare_parts p) (client_first_rest p) p.mext
bare_has_mext_and_rest p mext = joined_are_mext_and_rest p.mext (codes "n=" ++ p.name) _ refl mext

-- the parts of a bare message fit their places
pub bare_parts_fit : (p : ClientFirstParts) → IfSome p.mext IsValue → IsSaslName p.name → IsNonce max_nonce_part_len p.nonce
    → AreExtensions p.extensions
    → AllFit max_nonce_part_len (places (places_with_mext (bare_parts p) (Name ∷ Nonce ∷ [])) [] (length (bare_parts p))) (bare_parts p)
bare_parts_fit p mext name nonce extensions =
    mext_and_rest_fit max_nonce_part_len (Name ∷ Nonce ∷ []) (bare_parts p) (client_first_rest p) p.mext (bare_has_mext_and_rest p mext)
    (name_and_nonce_fit (codes "n=" ++ p.name) (codes "r=" ++ p.nonce) p.extensions (p.name, refl, name) (p.nonce, refl, nonce) extensions)

-- a client-first message has no fault
client_first_has_no_fault : (text : List ℕ) (p : ClientFirstParts) (f : TextFault) → IsClientFirst text p → IsClientFirstFault text f → ⊥
client_first_has_no_fault text p f is =
    let lengths = mext_and_rest_lengths_add_up (Name ∷ Nonce ∷ []) (bare_parts p) (client_first_rest p) p.mext
    (bare_has_mext_and_rest p is.mext) in
    fitting_text_has_no_fault max_nonce_part_len client_first_places [] text (p.flag ∷ authzid_text p.authzid ∷ bare_parts p) f is.short
    is.utf8_text
    (parts-client_first text p is)
    (omega (arith, lengths.0, lengths.1))
    (client_first_parts_fit p.flag (authzid_text p.authzid) (bare_parts p) is.flag (p.authzid, refl, is.authzid)
    (bare_parts_fit p is.mext is.name is.nonce is.extensions))

-- a text that is client-first is read, and what is read shows its parts
pub client_first_is_read : (text : List ℕ) (r : Result ClientFirst TextFault)
    → IfOk r (λ m. (p : ClientFirstParts) × IsClientFirst text p × ShowsClientFirst m p) → IfErr r (λ f. IsClientFirstFault text f)
    → (p : ClientFirstParts) → IsClientFirst text p → IsOkAnd r (λ m. ShowsClientFirst m p)
client_first_is_read text r =
    message_is_read (IsClientFirst text) ShowsClientFirst (IsClientFirstFault text) r
    (has_one_client_first text) (client_first_has_no_fault text)

-- the first part of client-first that does not fit is a fault of the text
module _ (text flag authzid : List ℕ) (bare : List (List ℕ)) (short : length text ≤ max_message_len) (utf8_text : IsUtf8Text text)
    (cut : parts text ≡ flag ∷ authzid ∷ bare) (enough : length (places_with_mext bare []) + 2 ≤ length bare) where
  -- the first misfit of all parts is a fault of the text
  client_first_misfit_is_fault : (f : TextFault)
      → IsFirstMisfit max_nonce_part_len (Flag ∷ Authzid ∷ places (places_with_mext bare (Name ∷ Nonce ∷ [])) [] (length bare)) 0
      (flag ∷ authzid ∷ bare) f
      → IsClientFirstFault text f
  client_first_misfit_is_fault f misfit =
      part_fault_is_fault max_nonce_part_len client_first_places [] text (flag ∷ authzid ∷ bare) f short utf8_text cut
      (inr (
        omega (arith, enough, later_places_add_up bare (Name ∷ Nonce ∷ [])),
        subst (λ (ps : List TextWhy). IsFirstMisfit max_nonce_part_len ps 0 (flag ∷ authzid ∷ bare) f)
            (sym (header_places_unfold (places_with_mext bare (Name ∷ Nonce ∷ [])) (length bare))) misfit,
      ))

  -- a flag that does not fit is the fault of the text
  pub unfit_flag_is_fault : is_flag flag ≡ false → IsClientFirstFault text (fault 0 Flag)
  unfit_flag_is_fault no_flag = client_first_misfit_is_fault _ (unfit_part_is_misfit max_nonce_part_len 0 Flag _ flag _
      (λ is. both_ways (is_flag flag) no_flag is))

  -- if the flag fits, a name to act as that does not is the fault of the text
  pub unfit_authzid_is_fault : (f : TextFault) → is_flag flag ≡ true → (IsAuthzid authzid → ⊥) × (f ≡ fault 1 Authzid)
      → IsClientFirstFault text f
  unfit_authzid_is_fault f is_a_flag (no_authzid, is) =
      subst (λ (g : TextFault). IsClientFirstFault text g) (sym is)
      (client_first_misfit_is_fault (fault 1 Authzid)
      (fitting_part_keeps_misfit max_nonce_part_len 0 Flag _ flag _ _ is_a_flag
      (unfit_part_is_misfit max_nonce_part_len 1 Authzid _ authzid _ no_authzid)))

  -- if the flag and the name to act as fit, the first part of the bare message that does not is the fault of the text
  pub bare_misfit_is_fault : (f : TextFault) → is_flag flag ≡ true → IsAuthzid authzid → IsBareMisfit bare f → IsClientFirstFault text f
  bare_misfit_is_fault f is_a_flag is_authzid misfit =
      client_first_misfit_is_fault f
      (fitting_part_keeps_misfit max_nonce_part_len 0 Flag _ flag _ f is_a_flag
      (fitting_part_keeps_misfit max_nonce_part_len 1 Authzid _ authzid _ f is_authzid misfit))

-- the first part of a bare message that does not fit, after its mandatory extension; k is the index of the name
module _ (pieces : List (List ℕ)) (name nonce : List ℕ) (extensions : List (List ℕ)) (mext : Option (List ℕ)) (k : ℕ)
    (marked : IsMextAndRest pieces (name ∷ nonce ∷ extensions) mext) (at : k ≡ 2 + length (mext_parts mext)) where
  -- a misfit after the mandatory extension is one of the bare message
  rest_misfit_is_bare_misfit : (f : TextFault)
      → IsFirstMisfit max_nonce_part_len (Name ∷ Nonce ∷ replicate (length extensions) Extension) k (name ∷ nonce ∷ extensions) f
      → IsBareMisfit pieces f
  rest_misfit_is_bare_misfit f misfit =
      rest_misfit_is_of_all_parts max_nonce_part_len 2 k (Name ∷ Nonce ∷ []) pieces (name ∷ nonce ∷ extensions) mext f marked at
      (rw (client_first_rest_places_unfold name nonce extensions) misfit)

  -- a name that does not fit is the misfit of the bare message
  pub unfit_name_is_bare_misfit : (Fits max_nonce_part_len Name name → ⊥) → IsBareMisfit pieces (fault k Name)
  unfit_name_is_bare_misfit no_name = rest_misfit_is_bare_misfit _ (unfit_part_is_misfit max_nonce_part_len k Name _ name _ no_name)

  -- if the name fits, a nonce that does not is the misfit of the bare message
  pub unfit_nonce_is_bare_misfit : Fits max_nonce_part_len Name name → (Fits max_nonce_part_len Nonce nonce → ⊥)
      → IsBareMisfit pieces (fault (k + 1) Nonce)
  unfit_nonce_is_bare_misfit is_name no_nonce =
      rest_misfit_is_bare_misfit _
      (fitting_part_keeps_misfit max_nonce_part_len k Name _ name _ _ is_name (unfit_part_is_misfit max_nonce_part_len
      (k + 1) Nonce _ nonce _ no_nonce))

  -- if the name and the nonce fit, the first extension that does not is the misfit of the bare message
  pub extension_misfit_is_bare_misfit : (f : TextFault) → Fits max_nonce_part_len Name name → Fits max_nonce_part_len Nonce nonce
      → IsExtensionMisfit (k + 2) extensions f → IsBareMisfit pieces f
  extension_misfit_is_bare_misfit f is_name is_nonce misfit =
      rest_misfit_is_bare_misfit f
      (fitting_part_keeps_misfit max_nonce_part_len k Name _ name _ f is_name (fitting_part_keeps_misfit max_nonce_part_len
      (k + 1) Nonce _ nonce _ f is_nonce
      (equal_index_keeps_misfit max_nonce_part_len (k + 2) (k + 1 + 1) _ _ f (omega arith) (misfit max_nonce_part_len))))

-- the pieces of a bare message, with their letters, are its parts
pub bare_pieces_are_parts : (pieces : List (List ℕ)) (name nonce : List ℕ) (p : ClientFirstParts)
    → IsMextAndRest pieces (name ∷ nonce ∷ p.extensions) p.mext
    → name ≡ codes "n=" ++ p.name → nonce ≡ codes "r=" ++ p.nonce → pieces ≡ bare_parts p
bare_pieces_are_parts pieces name nonce p marked is_name is_nonce =
    let later : name ∷ nonce ∷ p.extensions ≡ client_first_rest p = cc (is_name, is_nonce) in
    marked.cut ∙ ap (λ (ps : List (List ℕ)). mext_parts p.mext ++ ps) later

-- the pieces of client-first make the header, the bare message and the whole text
pub pieces_spell_client_first : (text header flag authzid bare : List ℕ) (p : ClientFirstParts) → text ≡ header ++ bare
    → header ≡ flag ++ byte "," ∷ (authzid ++ byte "," ∷ []) → flag ≡ p.flag → authzid ≡ authzid_text p.authzid → parts bare ≡ bare_parts p
    → (header ≡ gs2_header p) × (bare ≡ client_first_bare p) × (text ≡ client_first_text p)
unfolding gs2_header client_first_bare client_first_text
pieces_spell_client_first text header flag authzid bare p whole header_is is_flag is_authzid cut =
    let the_header : header ≡ gs2_header p = header_is ∙ rw (is_flag, is_authzid) refl in
    let the_bare : bare ≡ client_first_bare p = sym (join_with_byte-slice_split (byte ",") bare) ∙ ap joined cut in
    (the_header, the_bare, rw (whole, the_header, the_bare) refl)
