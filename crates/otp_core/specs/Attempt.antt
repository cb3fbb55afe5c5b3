-- Attempts to pass with the codes of a token. A history is the list of the attempts so far, latest first.
use Rattle.std.specs.Prelude.{ℕ, ◌-◌, List, [], ◌∷◌, Option, Some, None}
use Rattle.std.specs.List.{flat_map}
use Rattle.std.specs.Option.{option_map_or}
use Rattle.otp_core.specs.declared.sent.SentCodes.{SentCodes}
use Rattle.otp_core.specs.declared.sent.SentCodes.TheVariants.{One, Two}
use Rattle.otp_core.specs.declared.token.reply.Reply.{Reply}
use Rattle.otp_core.specs.declared.token.reply.Reply.TheVariants.{Pass}

-- what a client sent: the text of one code, or the texts of two codes in a row (RFC 4226, section 7.4)
pub data CodeTexts : Type 0 where
  one_text : List ℕ → CodeTexts
  two_texts : List ℕ → List ℕ → CodeTexts

-- the texts that a client sent, as a `SentCodes` of the code holds them
abbrev pub texts_of : SentCodes → CodeTexts
texts_of (One text) = one_text text.now
texts_of (Two first second) = two_texts first.now second.now

-- an attempt: when it was made, what was sent, and the reply
pub record Attempt : Type 0 where
  pub moment : ℕ
  pub sent : CodeTexts
  pub reply : Reply

-- the attempt at this moment, with these texts and this reply
abbrev pub attempt_of : (moment : ℕ) → (sent : CodeTexts) → Reply → Attempt
attempt_of moment sent reply = record { moment = moment; sent = sent; reply = reply }

-- the counter that passed, if the reply is a Pass
abbrev pub passed_counter : Reply → Option ℕ
passed_counter (Pass counter) = Some counter
passed_counter _ = None

-- the counters that a pass uses: with one code, its counter; with two codes, the counter of the second and the one before it
abbrev pub counters_of : CodeTexts → ℕ → List ℕ
counters_of (one_text text) counter = counter ∷ []
counters_of (two_texts first second) counter = counter ∷ (counter - 1) ∷ []

-- the counters that a reply uses: those of a pass, else none
abbrev pub used_in_reply : CodeTexts → Reply → List ℕ
used_in_reply sent reply = option_map_or (counters_of sent) (passed_counter reply) []

-- the counters that a history has used, latest first: each that passed, and with two codes also the one before it
abbrev pub used_in : List Attempt → List ℕ
used_in history = flat_map (λ a. used_in_reply a.sent a.reply) history
