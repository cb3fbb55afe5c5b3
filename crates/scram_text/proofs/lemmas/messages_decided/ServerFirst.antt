-- It is decidable whether a text is server-first: it is if its parts all fit their places.
use Rattle.std.proofs.Common.{ℕ, ◌≤◌, List, [], ◌∷◌, ◌++◌, length, refl, ◌∙◌, ap, arith, subst}
use Rattle.std.specs.Prelude.{codes}
use Rattle.std.specs.declared.option.Option.{Option}
use Rattle.mac_core.proofs.lemmas.Decided.{Decided, decided_equivalent}
use Rattle.scram_text.specs.Limits.{max_message_len, max_nonce_len}
use Rattle.scram_text.specs.Class.{IsUtf8Text}
use Rattle.scram_text.specs.Parts.{parts}
use Rattle.scram_text.specs.Messages.{ServerFirstParts, IsServerFirst}
use Rattle.scram_text.specs.Faults.{places, server_first_places}
use Rattle.scram_text.specs.Laws.{ServerFirstIsDecided}
use Rattle.scram_text.specs.inner.Pieces.{IsMextAndRest}
use Rattle.scram_text.specs.declared.fault.TextWhy.{TextWhy}
use Rattle.scram_text.specs.declared.fault.TextWhy.TheVariants.{Nonce, Salt, Count}
use Rattle.scram_text.proofs.lemmas.Places.{AllFit, first_part_fits, fitting_are_extensions}
use Rattle.scram_text.proofs.lemmas.MextAndRest.{mext_and_rest_lengths_add_up, some_mext_and_rest}
use Rattle.scram_text.proofs.lemmas.Decided.{some_or_none}
use Rattle.scram_text.proofs.lemmas.ServerFirst.{server_first_has_mext_and_rest, server_first_parts_fit, pieces_spell_server_first}
use Rattle.scram_text.proofs.lemmas.ServerFirst.{server_first_rest_places_unfold}
use Rattle.scram_text.proofs.lemmas.messages_decided.Fitting.{IsFittingText, decided_fitting_text}

-- a short text is a server-first if, after its optional mandatory extension, it has a nonce, a salt, a count and extensions that fit their
-- places
fitting_parts_are_server_first : (text nonce salt count : List ℕ) (extensions : List (List ℕ)) (mext : Option (List ℕ))
    → IsMextAndRest (parts text) (nonce ∷ salt ∷ count ∷ extensions) mext → length text ≤ max_message_len → IsUtf8Text text
    → AllFit max_nonce_len (places (Nonce ∷ Salt ∷ Count ∷ []) [] (length (nonce ∷ salt ∷ count ∷ extensions)))
    (nonce ∷ salt ∷ count ∷ extensions)
    → (p : ServerFirstParts) × IsServerFirst text p
fitting_parts_are_server_first text nonce salt count extensions mext marked short utf8_text fit =
    let placed = subst (λ (ps : List TextWhy). AllFit max_nonce_len ps (nonce ∷ salt ∷ count ∷ extensions))
    (server_first_rest_places_unfold nonce salt count extensions) fit in
    let first = first_part_fits max_nonce_len Nonce _ nonce _ placed in
    let second = first_part_fits max_nonce_len Salt _ salt _ first.1 in
    let third = first_part_fits max_nonce_len Count _ count _ second.1 in
    let (nonce_text, nonce_is, nonce_class) = first.0 in
    let (salt_text, salt_is, (salt_bytes, salt_spelled, salt_field)) = second.0 in
    let (count_text, count_is, (number, count_spelled, count_class)) = third.0 in
    let p : ServerFirstParts = record { mext = mext; nonce = nonce_text; salt = salt_bytes; count = number; extensions = extensions } in (
      p,
      record {
        spelled = pieces_spell_server_first text nonce salt count p marked nonce_is
            (salt_is ∙ ap (λ (v : List ℕ). codes "s=" ++ v) salt_spelled) (count_is ∙ ap (λ (v : List ℕ). codes "i=" ++ v) count_spelled);
        mext = marked.value;
        nonce = nonce_class;
        salt = salt_field;
        count = count_class;
        extensions = fitting_are_extensions max_nonce_len extensions third.1;
        utf8_text = utf8_text;
        short = short;
      },
    )

-- a short text is a server-first if, after its optional mandatory extension, it has at least three parts, and they fit the places of
-- server-first
fitting_rest_is_server_first : (text : List ℕ) (rest : List (List ℕ)) (mext : Option (List ℕ)) → IsMextAndRest (parts text) rest mext
    → 3 ≤ length rest
    → length text ≤ max_message_len → IsUtf8Text text → AllFit max_nonce_len (places (Nonce ∷ Salt ∷ Count ∷ []) [] (length rest)) rest
    → (p : ServerFirstParts) × IsServerFirst text p
fitting_rest_is_server_first text [] mext marked enough short utf8_text fit = absurd (omega (arith, enough))
fitting_rest_is_server_first text (nonce ∷ []) mext marked enough short utf8_text fit = absurd (omega (arith, enough))
fitting_rest_is_server_first text (nonce ∷ salt ∷ []) mext marked enough short utf8_text fit = absurd (omega (arith, enough))
fitting_rest_is_server_first text (nonce ∷ salt ∷ count ∷ extensions) mext marked enough short utf8_text fit =
    fitting_parts_are_server_first text nonce salt count extensions mext marked short utf8_text fit

-- the places of server-first's parts after a mandatory extension
abbrev server_first_rest_places : List TextWhy
server_first_rest_places = Nonce ∷ Salt ∷ Count ∷ []

-- a text is short, and has enough parts, all of which fit those of server-first
abbrev FitsServerFirst : List ℕ → Type 0
FitsServerFirst text = IsFittingText max_nonce_len (length (server_first_places (parts text)))
    (places (server_first_places (parts text)) [] (length (parts text))) text

-- a short text with enough parts, which fit those of server-first, is one
fitting_text_is_server_first : (text : List ℕ) → FitsServerFirst text → (p : ServerFirstParts) × IsServerFirst text p
fitting_text_is_server_first text r =
    let (mext, rest, marked, enough, fit) = some_mext_and_rest max_nonce_len 3 server_first_rest_places (parts text) refl r.enough r.fit in
    fitting_rest_is_server_first text rest mext marked enough r.short r.utf8_text fit

-- a server-first message is a short text with enough parts, all of which fit
server_first_is_fitting : (text : List ℕ) (p : ServerFirstParts) → IsServerFirst text p → FitsServerFirst text
server_first_is_fitting text p is =
    let marked = server_first_has_mext_and_rest text p is in
    let lengths = mext_and_rest_lengths_add_up server_first_rest_places (parts text) _ p.mext marked in record {
      short = is.short;
      utf8_text = is.utf8_text;
      enough = omega (arith, lengths.0, lengths.1);
      fit = server_first_parts_fit text p is;
    }

-- it is decidable whether a text is server-first, and with which parts
decided_server_first : (text : List ℕ) → Decided ((p : ServerFirstParts) × IsServerFirst text p)
decided_server_first text =
    decided_equivalent (FitsServerFirst text) ((p : ServerFirstParts) × IsServerFirst text p) (fitting_text_is_server_first text)
    (λ (p, is). server_first_is_fitting text p is) (decided_fitting_text max_nonce_len _ _ text)

-- the law: it is decidable whether a text is server-first
pub server_first_is_decided : ServerFirstIsDecided
server_first_is_decided text = some_or_none ServerFirstParts (IsServerFirst text) (decided_server_first text)
