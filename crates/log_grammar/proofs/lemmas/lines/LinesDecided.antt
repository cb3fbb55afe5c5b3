-- It is decidable whether a text is a line: it can only be the line that is read from it.
use Rattle.std.proofs.Common.{◌≡◌, ◌⊎◌, inl, inr, ℕ, suc, ◌≤◌, ◌<◌, List, length, sym, ◌∙◌, ap, subst}
use Rattle.std.specs.List.{slice_split}
use Rattle.std.specs.declared.option.Option.{Option}
use Rattle.std.specs.declared.option.Option.TheVariants.{None, Some}
use Rattle.mac_core.proofs.lemmas.Decided.{Decided, decided_equivalent, decided_both, decided_le, decided_same_text}
use Rattle.otp_core.specs.Ranges.{max_moment, max_counter}
use Rattle.otp_core.specs.declared.token.reply.Reply.{Reply}
use Rattle.otp_core.specs.declared.token.reply.Reply.TheVariants.{Pass, Fail, Locked}
use Rattle.scram_text.specs.Class.{is_vchar}
use Rattle.scram_text.proofs.lemmas.Decided.{decided_run}
use Rattle.log_grammar.specs.Payload.{IsMessage}
use Rattle.log_grammar.specs.Words.{is_mech_char, is_space, max_mech_name_len, max_code_len, IsMechName}
use Rattle.log_grammar.specs.Lines.{ServerLine, mechs, cont, accepts, refuses, replies, halt, busy, ClientLine, auth, auth_with, resp, abort, code}
use Rattle.log_grammar.specs.Lines.{sync, Line, from_server, from_client, LogLine, header_one, header_two, said, heard, bad, gone, ended, line_text}
use Rattle.log_grammar.specs.Lines.{log_line_text, IsReplyInRange, IsServerLineInRange, IsClientLineInRange, IsLineInRange, IsLogLineInRange, IsLine}
use Rattle.log_grammar.specs.Lines.{IsLogLine, IsNoLogLine, max_line_len, max_log_line_len}
use Rattle.log_grammar.proofs.lemmas.lines.ReadBack.{line_in, line_is_read_back, log_line_in, log_line_is_read_back}
use Rattle.log_grammar.proofs.lemmas.DecidedFacts.{decided_each}

-- it is decidable whether a text is a message
decided_message : (message : List ℕ) → Decided (IsMessage message)
decided_message message = decided_each (λ c. c < 256) (λ c. decided_le (suc c) 256) message

-- it is decidable whether a text is a mechanism's name
decided_mech_name : (name : List ℕ) → Decided (IsMechName name)
decided_mech_name name = decided_run is_mech_char max_mech_name_len name

-- it is decidable whether a reply is in its ranges
decided_reply_range : (reply : Option Reply) → Decided (IsReplyInRange reply)
decided_reply_range (Some (Pass counter)) = decided_le counter max_counter
decided_reply_range (Some Fail) = inl tt
decided_reply_range (Some Locked) = inl tt
decided_reply_range None = inl tt

-- it is decidable whether a line of the server is in its ranges
decided_server_range : (line : ServerLine) → Decided (IsServerLineInRange line)
decided_server_range (mechs names) = decided_each IsMechName decided_mech_name (slice_split is_space names)
decided_server_range (cont message) = decided_message message
decided_server_range (accepts message) = decided_message message
decided_server_range (refuses message) = decided_message message
decided_server_range (replies moment reply) = decided_both _ _ (decided_le moment max_moment) (decided_reply_range reply)
decided_server_range halt = inl tt
decided_server_range busy = inl tt

-- it is decidable whether a line of the client is in its ranges
decided_client_range : (line : ClientLine) → Decided (IsClientLineInRange line)
decided_client_range (auth mechanism) = decided_mech_name mechanism
decided_client_range (auth_with mechanism message) = decided_both _ _ (decided_mech_name mechanism) (decided_message message)
decided_client_range (resp message) = decided_message message
decided_client_range abort = inl tt
decided_client_range (code text) = decided_run is_vchar max_code_len text
decided_client_range (sync first second) = decided_both _ _ (decided_run is_vchar max_code_len first)
    (decided_run is_vchar max_code_len second)

-- it is decidable whether a line of the protocol is in its ranges
decided_line_range : (line : Line) → Decided (IsLineInRange line)
decided_line_range (from_server line) = decided_server_range line
decided_line_range (from_client line) = decided_client_range line

-- it is decidable whether a line of a log is in its ranges
decided_log_line_range : (line : LogLine) → Decided (IsLogLineInRange line)
decided_log_line_range header_one = inl tt
decided_log_line_range header_two = inl tt
decided_log_line_range (said line) = decided_server_range line
decided_log_line_range (heard line) = decided_client_range line
decided_log_line_range bad = inl tt
decided_log_line_range gone = inl tt
decided_log_line_range ended = inl tt

-- the lines of a type, whose text is read back: what is a line, and that it is decidable whether a line is in its ranges
record AreReadBack {Value : Type 0} (text_of : Value → List ℕ) (IsInRange : Value → Type 0) (most : ℕ) (read : List ℕ → Value)
    (IsText : List ℕ → Value → Type 0) : Type 0 where
  pub made : (text : List ℕ) (value : Value) → (text ≡ text_of value) × (IsInRange value × (length text ≤ most)) → IsText text value
  pub parts : (text : List ℕ) (value : Value) → IsText text value → (text ≡ text_of value) × (IsInRange value × (length text ≤ most))
  pub decided : (value : Value) → Decided (IsInRange value)
  pub read_back : (value : Value) → IsInRange value → read (text_of value) ≡ value

-- lines of such a type
module _ {Value : Type 0} {text_of : Value → List ℕ} {IsInRange : Value → Type 0} {most : ℕ} {read : List ℕ → Value}
    {IsText : List ℕ → Value → Type 0} (lines : AreReadBack text_of IsInRange most read IsText) where
  -- it is decidable whether a text is this line
  decided_this_text : (text : List ℕ) (value : Value) → Decided (IsText text value)
  decided_this_text text value =
      decided_equivalent ((text ≡ text_of value) × (IsInRange value × (length text ≤ most))) (IsText text value) (lines.made text value)
      (lines.parts text value)
      (decided_both _ _ (decided_same_text text (text_of value)) (decided_both _ _ (lines.decided value) (decided_le (length text) most)))

  -- if a text is a line, it is the one that is read from it
  read_value_fits_text : (text : List ℕ) (value : Value) → IsText text value → IsText text (read text)
  read_value_fits_text text value is =
      let parts = lines.parts text value is in
      subst (IsText text) (sym (ap read parts.0 ∙ lines.read_back value parts.1.0)) is

  -- it is decidable whether a text is a line, and which one
  text_is_decided : (text : List ℕ) → ((value : Value) × IsText text value) ⊎ ((value : Value) → IsText text value → ⊥)
  text_is_decided text = elim (decided_this_text text (read text)) [
    | inl is ↦ inl (read text, is)
    | inr none ↦ inr (λ value is. none (read_value_fits_text text value is))
  ]

-- the lines of the protocol are read back
lines_are_read_back : AreReadBack line_text IsLineInRange max_line_len line_in IsLine
lines_are_read_back = record {
  made = λ text line h. record { spelled = h.0; ranges = h.1.0; short = h.1.1 };
  parts = λ text line is. (is.spelled, (is.ranges, is.short));
  decided = decided_line_range;
  read_back = line_is_read_back;
}

-- the lines of a log are read back
log_lines_are_read_back : AreReadBack log_line_text IsLogLineInRange max_log_line_len log_line_in IsLogLine
log_lines_are_read_back = record {
  made = λ text line h. record { spelled = h.0; ranges = h.1.0; short = h.1.1 };
  parts = λ text line is. (is.spelled, (is.ranges, is.short));
  decided = decided_log_line_range;
  read_back = log_line_is_read_back;
}

-- it is decidable whether a text is this line of a log
pub decided_this_log_line : (text : List ℕ) (line : LogLine) → Decided (IsLogLine text line)
decided_this_log_line text line = decided_this_text log_lines_are_read_back text line

-- the law: it is decidable whether a text is a line of the protocol, and which one
pub line_is_decided : (text : List ℕ) → ((line : Line) × IsLine text line) ⊎ ((line : Line) → IsLine text line → ⊥)
line_is_decided text = text_is_decided lines_are_read_back text

-- the law: it is decidable whether a text is a line of a log, and which one
pub log_line_is_decided : (text : List ℕ) → ((line : LogLine) × IsLogLine text line) ⊎ IsNoLogLine text
log_line_is_decided text = text_is_decided log_lines_are_read_back text
