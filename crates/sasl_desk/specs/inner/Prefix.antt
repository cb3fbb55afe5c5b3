-- What comes before each line of a session in a log: nothing, or the session's number.
use Rattle.std.specs.Prelude.{ℕ, ◌+◌, ◌*◌, List, [], ◌∷◌, ◌++◌, length, map, decimal}
use Rattle.std.specs.Str.{byte}
use Rattle.std.specs.declared.option.Option.{Option}
use Rattle.std.specs.declared.option.Option.TheVariants.{None, Some}
use Rattle.scram_text.specs.SplitLines.{ended_by_lf}
use Rattle.log_grammar.specs.Lines.{LogLine, log_line_text}
use Rattle.sasl_desk.specs.Bounds.{max_call_lines, max_log_line_and_lf_len}

-- the number and a space, in a log of version 2; nothing in one of version 1
abbrev pub prefix : Option ℕ → List ℕ
prefix None = []
prefix (Some number) = decimal number ++ byte " " ∷ []

-- the most bytes of a line in a log, with its prefix and its LF
abbrev pub max_logged_line_bytes : Option ℕ → ℕ
max_logged_line_bytes number = length (prefix number) + max_log_line_and_lf_len

-- the most bytes that a call adds to a log whose lines have this prefix
abbrev pub max_logged_call_bytes : Option ℕ → ℕ
max_logged_call_bytes number = max_call_lines * max_logged_line_bytes number

-- the bytes of lines in a log, each after its prefix
abbrev pub prefixed_bytes : Option ℕ → List LogLine → List ℕ
prefixed_bytes number lines = ended_by_lf (map (λ line. prefix number ++ log_line_text line) lines)
