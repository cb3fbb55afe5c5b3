-- Lines of a client that are not due where its session stands.
use Rattle.std.proofs.Common.{◌≡◌, false, ℕ, List, Bor, refl}
use Rattle.log_grammar.specs.Places.{Place, offered, waits_code}
use Rattle.sasl_log.specs.Shown.{client_shown}
use Rattle.sasl_log.specs.declared.line.ClientLine.{ClientLine}
use Rattle.sasl_log.specs.declared.line.ClientLine.TheVariants.{Auth, AuthWith, Resp, Abort, Code, Sync}
use Rattle.sasl_desk.specs.DueLines.{is_auth_due, is_code_due, is_line_due}

-- after the offer, a line that is neither AUTH nor ABORT is not due
pub only_auth_is_due : (line : ClientLine) → ((mechanism : Bor (List ℕ)) → line ≡ Auth mechanism → ⊥)
    → ((mechanism : Bor (List ℕ)) (message : List ℕ) → line ≡ AuthWith mechanism message → ⊥) → (line ≡ Abort → ⊥)
    → is_line_due offered (client_shown line) ≡ false
only_auth_is_due (Auth mechanism) auth with_message abort = absurd (auth mechanism refl)
only_auth_is_due (AuthWith mechanism message) auth with_message abort = absurd (with_message mechanism message refl)
only_auth_is_due (Resp message) auth with_message abort = refl
only_auth_is_due Abort auth with_message abort = absurd (abort refl)
only_auth_is_due (Code text) auth with_message abort = refl
only_auth_is_due (Sync first second) auth with_message abort = refl

-- if neither AUTH nor a code is due, a line that is neither RESP nor ABORT is not due
pub only_resp_is_due : (at : Place) (line : ClientLine) → is_auth_due at ≡ false → is_code_due at ≡ false
    → ((message : List ℕ) → line ≡ Resp message → ⊥) → (line ≡ Abort → ⊥) → is_line_due at (client_shown line) ≡ false
only_resp_is_due at (Auth mechanism) auth code resp abort = auth
only_resp_is_due at (AuthWith mechanism message) auth code resp abort = auth
only_resp_is_due at (Resp message) auth code resp abort = absurd (resp message refl)
only_resp_is_due at Abort auth code resp abort = absurd (abort refl)
only_resp_is_due at (Code text) auth code resp abort = code
only_resp_is_due at (Sync first second) auth code resp abort = code

-- where codes are due, a line that is not CODE, SYNC or ABORT is not due
pub only_codes_are_due : (name : List ℕ) (line : ClientLine) → ((text : Bor (List ℕ)) → line ≡ Code text → ⊥)
    → ((first second : Bor (List ℕ)) → line ≡ Sync first second → ⊥) → (line ≡ Abort → ⊥)
    → is_line_due (waits_code name) (client_shown line) ≡ false
only_codes_are_due name (Auth mechanism) code sync abort = refl
only_codes_are_due name (AuthWith mechanism message) code sync abort = refl
only_codes_are_due name (Resp message) code sync abort = refl
only_codes_are_due name Abort code sync abort = absurd (abort refl)
only_codes_are_due name (Code text) code sync abort = absurd (code text refl)
only_codes_are_due name (Sync first second) code sync abort = absurd (sync first second refl)
