-- A challenge is what is composed, and the only one to its client-first message.
use Rattle.std.proofs.Common.{◌≡◌, ◌≤◌, ◌<◌, ◌^◌, ℕ, List, [], ◌++◌, length, sym, ◌∙◌, ap, subst, refl, arith, append_assoc, length-append}
use Rattle.std.specs.Prelude.{codes, decimal}
use Rattle.std.proofs.lemmas.List.{append-nil}
use Rattle.std.proofs.lemmas.List.Folds.{list_all-append}
use Rattle.base64.specs.GeneralPurpose.{IsBytes}
use Rattle.scram_text.specs.Limits.{max_message_len, max_nonce_len, max_nonce_part_len, max_salt_len}
use Rattle.scram_text.specs.Class.{IsNonce, IsNoncePart, IsSalt, is_printable}
use Rattle.scram_text.specs.Base64Field.{base64, IsField}
use Rattle.scram_text.specs.Messages.{ClientFirstParts, server_first_text, IsServerFirst}
use Rattle.scram_text.specs.Written.{server_first_of}
use Rattle.scram_text.proofs.lemmas.ClientFirst.{has_one_client_first}
use Rattle.scram_text.proofs.lemmas.messages_composed.ServerFirst.{pieces_compose_server_first, written_is_server_first}
use Rattle.scram_ends.specs.Entry.{Entry}
use Rattle.scram_ends.specs.First.{IsChallengeTo}
use Rattle.scram_ends.proofs.lemmas.Written.{challenge_can_be_written, challenge_fits}

-- the parts of both ends, joined, are a nonce
parts_join_to_nonce : (nonce more : List ℕ) → IsNonce max_nonce_part_len nonce → IsNoncePart more → IsNonce max_nonce_len (nonce ++ more)
parts_join_to_nonce nonce more is is_more = record {
  at_least = omega (arith, is.at_least, length-append nonce more);
  at_most = omega (arith, is.at_most, is_more.at_most, length-append nonce more);
  each = rw (list_all-append is_printable nonce more, is.each, is_more.each) refl;
}

-- pieces with the nonce in two parts are one text, however they are grouped
pieces_regroup : (r n m s v i k : List ℕ) → ((((((r ++ n) ++ m) ++ s) ++ v) ++ i) ++ k) ≡ ((((((r ++ (n ++ m)) ++ s) ++ v) ++ i) ++ k) ++ [])
pieces_regroup r n m s v i k = simp (append_assoc, append-nil)

-- what is not longer than a message may be is at most as long
not_longer : {n : ℕ} → (max_message_len < n → ⊥) → n ≤ max_message_len
not_longer {n} not = omega (arith, not)

-- what is composed is the challenge with this nonce, this salt and this count
pub composed_is_challenge : (nonce more salt : List ℕ) (count : ℕ) (text : List ℕ)
    → text ≡ ((((((codes "r=" ++ nonce) ++ more) ++ codes ",s=") ++ base64 salt) ++ codes ",i=") ++ decimal count)
    → IsNonce max_nonce_part_len nonce → IsNoncePart more → IsBytes salt → IsSalt salt → 1 ≤ count → count < 2 ^ 32
    → IsServerFirst text (server_first_of (nonce ++ more) salt count [])
composed_is_challenge nonce more salt count text same is is_more bytes is_salt least most =
    let whole = parts_join_to_nonce nonce more is is_more in
    let field : IsField max_salt_len salt = record { at_least = is_salt.at_least; at_most = is_salt.at_most; each = bytes } in
    let can = challenge_can_be_written (nonce ++ more) salt count whole field least most in
    let fits : length (server_first_text (server_first_of (nonce ++ more) salt count [])) ≤ max_message_len =
    not_longer (challenge_fits (nonce ++ more) salt count whole field most) in
    let composed = pieces_regroup (codes "r=") nonce more (codes ",s=") (base64 salt) (codes ",i=") (decimal count)
    ∙ pieces_compose_server_first (nonce ++ more) salt count [] in
    subst (λ (t : List ℕ). IsServerFirst t (server_first_of (nonce ++ more) salt count [])) (sym (same ∙ composed))
    (written_is_server_first (nonce ++ more) salt count [] bytes can fits)

-- there is only one challenge to a client-first message
pub one_challenge : (e : Entry) (client_first server_nonce one other : List ℕ)
    → IsChallengeTo e client_first server_nonce one → IsChallengeTo e client_first server_nonce other → one ≡ other
one_challenge e client_first server_nonce one other is also =
    is.is_challenge.spelled
    ∙ (ap (λ (p : ClientFirstParts). server_first_text (server_first_of (p.nonce ++ server_nonce) e.salt e.count []))
    (has_one_client_first client_first is.first also.first is.is_first also.is_first)
    ∙ sym also.is_challenge.spelled)
