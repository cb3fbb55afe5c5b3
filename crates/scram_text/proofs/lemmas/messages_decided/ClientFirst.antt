-- It is decidable whether a text is client-first: it is if its parts all fit their places.
use Rattle.std.proofs.Common.{◌≡◌, ℕ, ◌≤◌, List, [], ◌∷◌, ◌++◌, length, refl, sym, ◌∙◌, ap, arith, subst}
use Rattle.std.specs.Prelude.{codes}
use Rattle.std.specs.declared.option.Option.{Option}
use Rattle.std.proofs.lemmas.List.Splits.{join_with_byte-slice_split}
use Rattle.std.specs.Str.{byte}
use Rattle.mac_core.proofs.lemmas.Decided.{Decided, decided_equivalent}
use Rattle.scram_text.specs.Limits.{max_message_len, max_nonce_part_len}
use Rattle.scram_text.specs.Class.{IsNonce, IsUtf8Text}
use Rattle.scram_text.specs.Name.{IsSaslName}
use Rattle.scram_text.specs.Parts.{parts, joined, authzid_text, mext_parts, AreExtensions}
use Rattle.scram_text.specs.Messages.{ClientFirstParts, gs2_header, client_first_bare, bare_parts, client_first_text, IsClientFirst}
use Rattle.scram_text.specs.Faults.{places, places_with_mext, client_first_places}
use Rattle.scram_text.specs.Laws.{ClientFirstIsDecided}
use Rattle.scram_text.specs.inner.Pieces.{IsMextAndRest}
use Rattle.scram_text.specs.declared.fault.TextWhy.{TextWhy}
use Rattle.scram_text.specs.declared.fault.TextWhy.TheVariants.{Flag, Authzid, Name, Nonce}
use Rattle.scram_text.proofs.lemmas.Places.{AllFit, first_part_fits, fitting_are_extensions}
use Rattle.scram_text.proofs.lemmas.MextAndRest.{mext_and_rest_lengths_add_up, mext_and_rest_are_nonempty, some_mext_and_rest}
use Rattle.scram_text.proofs.lemmas.messages_composed.Joined.{joined-cons}
use Rattle.scram_text.proofs.lemmas.Decided.{some_or_none}
use Rattle.scram_text.proofs.lemmas.ClientFirst.{client_first_rest_places_unfold as first_later_places, parts-client_first, client_first_parts_fit}
use Rattle.scram_text.proofs.lemmas.ClientFirst.{header_places_unfold, bare_has_mext_and_rest, bare_parts_fit, header_pieces_regroup}
use Rattle.scram_text.proofs.lemmas.messages_decided.Fitting.{IsFittingText, decided_fitting_text}

-- the parts of client-first, joined by commas, are its text
joined-client_first_parts : (p : ClientFirstParts) → joined (p.flag ∷ authzid_text p.authzid ∷ bare_parts p) ≡ client_first_text p
unfolding client_first_text gs2_header client_first_bare
joined-client_first_parts p =
    ap (λ (t : List ℕ). p.flag ++ byte "," ∷ t)
    (joined-cons (authzid_text p.authzid) (bare_parts p) (mext_and_rest_are_nonempty p.mext (codes "n=" ++ p.name) _))
    ∙ sym (header_pieces_regroup p.flag (authzid_text p.authzid) (joined (bare_parts p)))

-- parts of a bare message that fit are its name, its nonce and extensions, after a mandatory one if there is one
fitting_rest_is_bare : (pieces rest : List (List ℕ)) (mext : Option (List ℕ)) → IsMextAndRest pieces rest mext → 2 ≤ length rest
    → AllFit max_nonce_part_len (places (Name ∷ Nonce ∷ []) [] (length rest)) rest
    → (name : List ℕ) × (nonce : List ℕ) × (extensions : List (List ℕ))
    × (pieces ≡ mext_parts mext ++ ((codes "n=" ++ name) ∷ (codes "r=" ++ nonce) ∷ extensions))
    × IsSaslName name × IsNonce max_nonce_part_len nonce × AreExtensions extensions
fitting_rest_is_bare pieces [] mext marked enough fit = absurd (omega (arith, enough))
fitting_rest_is_bare pieces (name ∷ []) mext marked enough fit = absurd (omega (arith, enough))
fitting_rest_is_bare pieces (name ∷ nonce ∷ extensions) mext marked enough fit =
    let placed = subst (λ (ps : List TextWhy). AllFit max_nonce_part_len ps (name ∷ nonce ∷ extensions))
    (first_later_places name nonce extensions) fit in
    let first = first_part_fits max_nonce_part_len Name _ name _ placed in
    let second = first_part_fits max_nonce_part_len Nonce _ nonce _ first.1 in
    let (name_text, name_is, name_class) = first.0 in
    let (nonce_text, nonce_is, nonce_class) = second.0 in
    let later : name ∷ nonce ∷ extensions ≡ (codes "n=" ++ name_text) ∷ (codes "r=" ++ nonce_text) ∷ extensions = cc
    (name_is, nonce_is) in (
      name_text,
      nonce_text,
      extensions,
      marked.cut ∙ ap
          (λ (ps : List (List ℕ)). mext_parts mext
          ++ ps) later,
      name_class,
      nonce_class,
      fitting_are_extensions max_nonce_part_len extensions second.1,
    )

-- a short text with a header and a bare message whose parts fit is client-first
fitting_bare_is_client_first : (text flag authzid : List ℕ) (bare : List (List ℕ)) → parts text ≡ flag ∷ authzid ∷ bare
    → length text ≤ max_message_len → IsUtf8Text text
    → length (places_with_mext bare (Name ∷ Nonce ∷ [])) ≤ length bare
    → AllFit max_nonce_part_len (places (Flag ∷ Authzid ∷ places_with_mext bare (Name ∷ Nonce ∷ [])) [] (length (flag ∷ authzid ∷ bare)))
    (flag ∷ authzid ∷ bare)
    → (p : ClientFirstParts) × IsClientFirst text p
fitting_bare_is_client_first text flag authzid bare cut short utf8_text enough fit =
    let placed = subst (λ (ps : List TextWhy). AllFit max_nonce_part_len ps (flag ∷ authzid ∷ bare))
    (header_places_unfold (places_with_mext bare (Name ∷ Nonce ∷ [])) (length bare)) fit in
    let first = first_part_fits max_nonce_part_len Flag _ flag _ placed in
    let second = first_part_fits max_nonce_part_len Authzid _ authzid _ first.1 in
    let (spelled, authzid_is, authzid_class) = second.0 in
    let (mext, rest, marked, some, later) = some_mext_and_rest max_nonce_part_len 2 (Name ∷ Nonce ∷ []) bare refl enough second.1 in
    let (name, nonce, extensions, bare_is, name_class, nonce_class, are) = fitting_rest_is_bare bare rest mext marked some later in
    let p : ClientFirstParts = record {
      flag = flag;
      authzid = spelled;
      mext = mext;
      name = name;
      nonce = nonce;
      extensions = extensions;
    } in
    let pieces : flag ∷ authzid ∷ bare ≡ p.flag ∷ authzid_text p.authzid ∷ bare_parts p = cc (authzid_is, bare_is) in (
      p,
      record {
        spelled = sym (join_with_byte-slice_split (byte ",") text) ∙ ap joined (cut ∙ pieces) ∙ joined-client_first_parts p;
        flag = first.0;
        authzid = authzid_class;
        mext = marked.value;
        name = name_class;
        nonce = nonce_class;
        extensions = are;
        utf8_text = utf8_text;
        short = short;
      },
    )

-- a short text with enough parts, which fit those of client-first, is one
fitting_text_is_client_first : (text : List ℕ) (pieces : List (List ℕ)) → parts text ≡ pieces → length text ≤ max_message_len
    → IsUtf8Text text
    → length (client_first_places pieces) ≤ length pieces
    → AllFit max_nonce_part_len (places (client_first_places pieces) [] (length pieces)) pieces
    → (p : ClientFirstParts) × IsClientFirst text p
fitting_text_is_client_first text [] cut short utf8_text enough fit = absurd (omega (arith, enough))
fitting_text_is_client_first text (flag ∷ []) cut short utf8_text enough fit = absurd (omega (arith, enough))
fitting_text_is_client_first text (flag ∷ authzid ∷ bare) cut short utf8_text enough fit =
    fitting_bare_is_client_first text flag authzid bare cut short utf8_text (omega (arith, enough)) fit

-- a text is short, and has enough parts, all of which fit those of client-first
abbrev FitsClientFirst : List ℕ → Type 0
FitsClientFirst text = IsFittingText max_nonce_part_len (length (client_first_places (parts text)))
    (places (client_first_places (parts text)) [] (length (parts text))) text

-- a client-first message is a short text with enough parts, all of which fit
client_first_is_fitting : (text : List ℕ) (p : ClientFirstParts) → IsClientFirst text p → FitsClientFirst text
client_first_is_fitting text p is =
    let cut = parts-client_first text p is in
    let lengths = mext_and_rest_lengths_add_up (Name ∷ Nonce ∷ []) (bare_parts p) _ p.mext (bare_has_mext_and_rest p is.mext) in record {
      short = is.short;
      utf8_text = is.utf8_text;
      enough = subst (λ (ps : List (List ℕ)). length (client_first_places ps) ≤ length ps) (sym cut) (omega (arith, lengths.0, lengths.1));
      fit = subst (λ (ps : List (List ℕ)). AllFit max_nonce_part_len (places (client_first_places ps) [] (length ps)) ps) (sym cut)
          (client_first_parts_fit p.flag (authzid_text p.authzid) (bare_parts p) is.flag (p.authzid, refl, is.authzid)
          (bare_parts_fit p is.mext is.name is.nonce is.extensions));
    }

-- it is decidable whether a text is client-first, and with which parts
decided_client_first : (text : List ℕ) → Decided ((p : ClientFirstParts) × IsClientFirst text p)
decided_client_first text =
    decided_equivalent (FitsClientFirst text) ((p : ClientFirstParts) × IsClientFirst text p)
    (λ r. fitting_text_is_client_first text (parts text) refl r.short r.utf8_text r.enough r.fit)
    (λ (p, is). client_first_is_fitting text p is) (decided_fitting_text max_nonce_part_len _ _ text)

-- the law: it is decidable whether a text is client-first
pub client_first_is_decided : ClientFirstIsDecided
client_first_is_decided text = some_or_none ClientFirstParts (IsClientFirst text) (decided_client_first text)
