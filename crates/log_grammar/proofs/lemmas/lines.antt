-- Main lemma, `each_text_is_at_most_one_log_line` (ReadBack): a text is at most one line of a log.
-- Cited by the laws `each_text_is_at_most_one_log_line` and `each_text_is_one_line_or_none`, by kinds and upgraded_logs, and by
-- `read_log_line` of `sasl_log`. Read in this order:
-- Payloads: a message, read back from its spelling. Words: words and numbers. ReadBack: a line, read back from its text.
-- LinesDecided: it is decidable whether a text is a line. TextBytes: the bytes and the length of a spelling. Lengths: a word and a moment.
-- LackLf: a line has no LF. Written: lines that can be written in any log. ReadAndWritten: what is read can be written, and back.
-- NumberedReadBack: a numbered line, read back from its text.
pub mod Payloads
pub mod Words
pub mod ReadBack
pub mod LinesDecided
pub mod TextBytes
pub mod Lengths
pub mod LackLf
pub mod Written
pub mod ReadAndWritten
pub mod NumberedReadBack
