-- The parts of server-first: they are read in only one way, and a text that has them has no fault.
use Rattle.std.proofs.Common.{◌≡◌, inr, ℕ, ◌+◌, ◌≤◌, List, [], ◌∷◌, ◌++◌, length, replicate, refl, sym, ◌∙◌, ap, arith, subst}
use Rattle.std.specs.Prelude.{codes, decimal, IfOk, IfErr, IsOkAnd}
use Rattle.std.specs.declared.option.Option.{Option}
use Rattle.std.specs.declared.result.Result.{Result}
use Rattle.std.proofs.lemmas.Fmt.{decimal_injective}
use Rattle.std.proofs.lemmas.List.Splits.{join_with_byte-slice_split}
use Rattle.std.specs.Str.{byte}
use Rattle.scram_text.specs.Limits.{max_message_len, max_nonce_len, max_salt_len}
use Rattle.scram_text.specs.Class.{IsUtf8Text}
use Rattle.scram_text.specs.Base64Field.{base64}
use Rattle.scram_text.specs.Parts.{parts, joined, mext_parts, AreExtensions}
use Rattle.scram_text.specs.Messages.{ServerFirstParts, server_first_text, IsServerFirst}
use Rattle.scram_text.specs.Laws.{HasOneServerFirst}
use Rattle.scram_text.specs.Faults.{Fits, fault, places, IsFirstMisfit, IsServerFirstFault, server_first_places}
use Rattle.scram_text.specs.inner.Pieces.{IsExtensionMisfit, IsMextAndRest}
use Rattle.scram_text.specs.Shown.{ShowsServerFirst}
use Rattle.scram_text.specs.declared.server_first.ServerFirst.{ServerFirst}
use Rattle.scram_text.specs.declared.fault.TextFault.{TextFault}
use Rattle.scram_text.specs.declared.fault.TextWhy.TheVariants.{Nonce, Salt, Count, Extension}
use Rattle.scram_text.proofs.lemmas.Base64.{base64_lacks_comma}
use Rattle.scram_text.proofs.lemmas.Parts.{unfit_part_is_misfit, fitting_part_keeps_misfit, equal_index_keeps_misfit}
use Rattle.scram_text.proofs.lemmas.Places.{AllFit, AllFit-cons, extensions_fit, fitting_text_has_no_fault, nonce_lacks_comma, extensions_lack_comma}
use Rattle.scram_text.proofs.lemmas.Places.{parts-joined_list, field_part_spells_field, one_field_per_base64}
use Rattle.scram_text.proofs.lemmas.MextAndRest.{front_places_unfold, joined_are_mext_and_rest, mext_and_rest_lack_comma, mext_and_rest_are_nonempty}
use Rattle.scram_text.proofs.lemmas.MextAndRest.{one_mext_and_rest, mext_and_rest_fit, rest_misfit_is_part_fault, mext_and_rest_lengths_add_up}
use Rattle.scram_text.proofs.lemmas.Counts.{decimal_lacks_comma, count_is_below_2_64}
use Rattle.scram_text.proofs.lemmas.ReadMessages.{message_is_read}

-- the parts after the mandatory extension, if there is one
abbrev server_first_rest : ServerFirstParts → List (List ℕ)
server_first_rest p = (codes "r=" ++ p.nonce) ∷ (codes "s=" ++ base64 p.salt) ∷ (codes "i=" ++ decimal p.count) ∷ p.extensions

-- a server-first message is cut into its parts
parts-server_first : (text : List ℕ) (p : ServerFirstParts) → IsServerFirst text p
    → parts text ≡ mext_parts p.mext ++ server_first_rest p
unfolding server_first_text
parts-server_first text p is =
    rw (is.spelled) (parts-joined_list (mext_parts p.mext ++ server_first_rest p) (mext_and_rest_are_nonempty p.mext
    (codes "r=" ++ p.nonce) _)
    (mext_and_rest_lack_comma p.mext (server_first_rest p) is.mext (
      nonce_lacks_comma max_nonce_len p.nonce is.nonce,
      (
        base64_lacks_comma p.salt is.salt.each,
        (decimal_lacks_comma p.count is.count, extensions_lack_comma p.extensions is.extensions),
      ),
    )))

-- the parts of a server-first message are its mandatory extension, if it has one, and the others
pub server_first_has_mext_and_rest : (text : List ℕ) (p : ServerFirstParts) → IsServerFirst text p
    → IsMextAndRest (parts text) (server_first_rest p) p.mext
server_first_has_mext_and_rest text p is =
    subst (λ (ps : List (List ℕ)). IsMextAndRest ps (server_first_rest p) p.mext) (sym (parts-server_first text p is))
    (joined_are_mext_and_rest p.mext (codes "r=" ++ p.nonce) _ refl is.mext)

-- the parts of server-first are the same if each of them is
same_fields_make_same_parts : (p q : ServerFirstParts) → p.mext ≡ q.mext → p.nonce ≡ q.nonce → p.salt ≡ q.salt → p.count ≡ q.count
    → p.extensions ≡ q.extensions → p ≡ q
same_fields_make_same_parts p q mext nonce salt count extensions =
    λ i. record { mext = mext i; nonce = nonce i; salt = salt i; count = count i; extensions = extensions i }

-- the law: a text is server-first with at most one list of parts
pub has_one_server_first : HasOneServerFirst
has_one_server_first text p q is also =
    let same = one_mext_and_rest p.mext q.mext (codes "r=" ++ p.nonce) (codes "r=" ++ q.nonce) _ _ refl refl
    (sym (parts-server_first text p is) ∙ parts-server_first text q also) in
    let rest : server_first_rest p ≡ server_first_rest q = same.1 in
    let nonces : p.nonce ≡ q.nonce = cc rest in
    let salts : base64 p.salt ≡ base64 q.salt = cc rest in
    let counts : decimal p.count ≡ decimal q.count = cc rest in
    let extensions : p.extensions ≡ q.extensions = cc rest in
    same_fields_make_same_parts p q same.0 nonces (one_field_per_base64 max_salt_len p.salt q.salt is.salt also.salt salts)
    (decimal_injective p.count q.count (count_is_below_2_64 p.count is.count) (count_is_below_2_64 q.count also.count) counts) extensions

-- the places of the parts after the mandatory extension are Nonce, Salt, Count and one Extension for each extension
pub server_first_rest_places_unfold : (nonce salt count : List ℕ) (extensions : List (List ℕ))
    → places (Nonce ∷ Salt ∷ Count ∷ []) [] (length (nonce ∷ salt ∷ count ∷ extensions))
    ≡ Nonce ∷ Salt ∷ Count ∷ replicate (length extensions) Extension
server_first_rest_places_unfold nonce salt count extensions =
    front_places_unfold (Nonce ∷ Salt ∷ Count ∷ []) (length (nonce ∷ salt ∷ count ∷ extensions)) (length extensions) (omega arith)

-- if the nonce, the salt and the count of server-first fit, and the other parts are extensions, all fit their places
nonce_salt_count_fit : (nonce salt count : List ℕ) (extensions : List (List ℕ))
    → Fits max_nonce_len Nonce nonce → Fits max_nonce_len Salt salt → Fits max_nonce_len Count count → AreExtensions extensions
    → AllFit max_nonce_len (places (Nonce ∷ Salt ∷ Count ∷ []) [] (length (nonce ∷ salt ∷ count ∷ extensions)))
    (nonce ∷ salt ∷ count ∷ extensions)
nonce_salt_count_fit nonce salt count extensions is_nonce is_salt is_count are =
    rw (server_first_rest_places_unfold nonce salt count extensions)
    (AllFit-cons max_nonce_len Nonce _ nonce _ is_nonce
    (AllFit-cons max_nonce_len Salt _ salt _ is_salt (AllFit-cons max_nonce_len Count _ count _ is_count
    (extensions_fit max_nonce_len extensions are))))

-- the parts of a server-first message fit their places
pub server_first_parts_fit : (text : List ℕ) (p : ServerFirstParts) → IsServerFirst text p
    → AllFit max_nonce_len (places (server_first_places (parts text)) [] (length (parts text))) (parts text)
server_first_parts_fit text p is =
    mext_and_rest_fit max_nonce_len (Nonce ∷ Salt ∷ Count ∷ []) (parts text) (server_first_rest p) p.mext
    (server_first_has_mext_and_rest text p is)
    (nonce_salt_count_fit _ _ _ p.extensions (p.nonce, refl, is.nonce)
    (field_part_spells_field (byte "s") max_salt_len _ p.salt refl is.salt) (decimal p.count, refl, (p.count, refl, is.count))
    is.extensions)

-- a server-first message has no fault
server_first_has_no_fault : (text : List ℕ) (p : ServerFirstParts) (f : TextFault) → IsServerFirst text p → IsServerFirstFault text f → ⊥
server_first_has_no_fault text p f is =
    let lengths = mext_and_rest_lengths_add_up (Nonce ∷ Salt ∷ Count ∷ []) (parts text) (server_first_rest p) p.mext
    (server_first_has_mext_and_rest text p is) in
    fitting_text_has_no_fault max_nonce_len server_first_places [] text (parts text) f is.short is.utf8_text refl
    (omega (arith, lengths.0, lengths.1))
    (server_first_parts_fit text p is)

-- a text that is server-first is read, and what is read shows its parts
pub server_first_is_read : (text : List ℕ) (r : Result ServerFirst TextFault)
    → IfOk r (λ m. (p : ServerFirstParts) × IsServerFirst text p × ShowsServerFirst m p) → IfErr r (λ f. IsServerFirstFault text f)
    → (p : ServerFirstParts) → IsServerFirst text p → IsOkAnd r (λ m. ShowsServerFirst m p)
server_first_is_read text r =
    message_is_read (IsServerFirst text) ShowsServerFirst (IsServerFirstFault text) r
    (has_one_server_first text) (server_first_has_no_fault text)

-- the first part of server-first that does not fit is a fault of the text; k is the index of the nonce
module _ (text nonce salt count : List ℕ) (extensions : List (List ℕ)) (mext : Option (List ℕ)) (k : ℕ)
    (short : length text ≤ max_message_len) (utf8_text : IsUtf8Text text)
    (marked : IsMextAndRest (parts text) (nonce ∷ salt ∷ count ∷ extensions) mext) (at : k ≡ length (mext_parts mext)) where
  -- a misfit after the mandatory extension is a fault of the text
  server_first_rest_misfit_is_fault : (f : TextFault)
      → IsFirstMisfit max_nonce_len (Nonce ∷ Salt ∷ Count ∷ replicate (length extensions) Extension) k (nonce ∷ salt ∷ count ∷ extensions) f
      → IsServerFirstFault text f
  server_first_rest_misfit_is_fault f misfit =
      inr (
        short,
        utf8_text,
        rest_misfit_is_part_fault max_nonce_len (Nonce ∷ Salt ∷ Count ∷ []) (parts text) (nonce ∷ salt ∷ count ∷ extensions) mext f marked
            (omega arith)
            (rw (server_first_rest_places_unfold nonce salt count extensions) (equal_index_keeps_misfit max_nonce_len k
            (length (mext_parts mext)) _ _ f at misfit)),
      )

  -- a nonce that does not fit is the fault of the text
  pub unfit_nonce_is_fault : (Fits max_nonce_len Nonce nonce → ⊥) → IsServerFirstFault text (fault k Nonce)
  unfit_nonce_is_fault no_nonce = server_first_rest_misfit_is_fault _ (unfit_part_is_misfit max_nonce_len k Nonce _ nonce _ no_nonce)

  -- if the nonce fits, a salt that does not is the fault of the text
  pub unfit_salt_is_fault : Fits max_nonce_len Nonce nonce → (Fits max_nonce_len Salt salt → ⊥)
      → IsServerFirstFault text (fault (k + 1) Salt)
  unfit_salt_is_fault is_nonce no_salt =
      server_first_rest_misfit_is_fault _
      (fitting_part_keeps_misfit max_nonce_len k Nonce _ nonce _ _ is_nonce (unfit_part_is_misfit max_nonce_len
      (k + 1) Salt _ salt _ no_salt))

  -- if the nonce and the salt fit, a count that does not is the fault of the text
  pub unfit_count_is_fault : Fits max_nonce_len Nonce nonce → Fits max_nonce_len Salt salt → (Fits max_nonce_len Count count → ⊥)
      → IsServerFirstFault text (fault (k + 2) Count)
  unfit_count_is_fault is_nonce is_salt no_count =
      server_first_rest_misfit_is_fault _
      (fitting_part_keeps_misfit max_nonce_len k Nonce _ nonce _ _ is_nonce (fitting_part_keeps_misfit max_nonce_len
      (k + 1) Salt _ salt _ _ is_salt
      (equal_index_keeps_misfit max_nonce_len (k + 2) (k + 1 + 1) _ _ _ (omega arith)
      (unfit_part_is_misfit max_nonce_len (k + 2) Count _ count _ no_count))))

  -- if the nonce, the salt and the count fit, the first extension that does not is the fault of the text
  pub extension_misfit_is_fault : (f : TextFault) → Fits max_nonce_len Nonce nonce → Fits max_nonce_len Salt salt
      → Fits max_nonce_len Count count
      → IsExtensionMisfit (k + 3) extensions f → IsServerFirstFault text f
  extension_misfit_is_fault f is_nonce is_salt is_count misfit =
      server_first_rest_misfit_is_fault f
      (fitting_part_keeps_misfit max_nonce_len k Nonce _ nonce _ f is_nonce
      (fitting_part_keeps_misfit max_nonce_len (k + 1) Salt _ salt _ f is_salt (fitting_part_keeps_misfit max_nonce_len
      (k + 1 + 1) Count _ count _ f is_count
      (equal_index_keeps_misfit max_nonce_len (k + 3) (k + 1 + 1 + 1) _ _ f (omega arith) (misfit max_nonce_len)))))

-- the pieces of server-first make its text
pub pieces_spell_server_first : (text nonce salt count : List ℕ) (p : ServerFirstParts)
    → IsMextAndRest (parts text) (nonce ∷ salt ∷ count ∷ p.extensions) p.mext
    → nonce ≡ codes "r=" ++ p.nonce → salt ≡ codes "s=" ++ base64 p.salt → count ≡ codes "i=" ++ decimal p.count
    → text ≡ server_first_text p
unfolding server_first_text
pieces_spell_server_first text nonce salt count p marked is_nonce is_salt is_count =
    let later : nonce ∷ salt ∷ count ∷ p.extensions ≡ server_first_rest p = cc (is_nonce, is_salt, is_count) in
    sym (join_with_byte-slice_split (byte ",") text) ∙ ap joined (marked.cut ∙ ap (λ (ps : List (List ℕ)). mext_parts p.mext ++ ps) later)
