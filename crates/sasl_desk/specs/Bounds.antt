-- The bounds of a desk, a hall and a service.
use Rattle.std.specs.Prelude.{ℕ, ◌+◌, ◌*◌}
use Rattle.log_grammar.specs.Lines.{max_line_len, max_log_line_len}

-- the most bytes that a call sends its client: one line with its LF
abbrev pub max_sent_bytes : ℕ
max_sent_bytes = max_line_len + 1

-- the most bytes of a line of a log with its LF
abbrev pub max_log_line_and_lf_len : ℕ
max_log_line_and_lf_len = max_log_line_len + 1

-- the most lines that a call adds to a log
abbrev pub max_call_lines : ℕ
max_call_lines = 3

-- no call of a desk adds more bytes than this to its log
abbrev pub max_call_bytes : ℕ
max_call_bytes = max_call_lines * max_log_line_and_lf_len

-- the most digits of a number below 2^64
abbrev pub max_u64_digits : ℕ
max_u64_digits = 20

-- the most bytes of a number below 2^64 and the space after it: one more than a session's number needs
abbrev pub max_prefix_len : ℕ
max_prefix_len = max_u64_digits + 1

-- no call of a hall adds more bytes than this to its log
abbrev pub max_numbered_call_bytes : ℕ
max_numbered_call_bytes = max_call_lines * (max_log_line_and_lf_len + max_prefix_len)

-- the most turns that one client gets
abbrev pub max_turns : ℕ
max_turns = 10000
