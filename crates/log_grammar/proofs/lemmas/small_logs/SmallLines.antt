-- The first lines of a log of version 1, and the places to which they lead.
use Rattle.std.proofs.Common.{[], ◌∷◌, refl}
use Rattle.log_grammar.specs.Lines.{header_one, said, mechs}
use Rattle.log_grammar.specs.Places.{before_all, between, offered}
use Rattle.log_grammar.specs.Words.{offered_names}
use Rattle.log_grammar.specs.Demands.{Accounts}
use Rattle.log_grammar.specs.laws.Examples.{header_one_text, offer_text}
use Rattle.log_grammar.proofs.lemmas.kinds.ShownByLines.{LinesWereRead, no_lines_were_read, next_line_was_read}
use Rattle.log_grammar.proofs.lemmas.lines.Written.{header_is_writable, offer_is_writable}

module _ (accounts : Accounts) where
  -- the first line leads to the place between sessions
  pub header_was_read : LinesWereRead accounts (header_one_text ∷ []) (header_one ∷ []) between []
  header_was_read =
      next_line_was_read accounts [] [] before_all [] header_one_text header_one between
      (no_lines_were_read accounts) header_is_writable refl tt

  -- the first line and a first `S MECHS` with all mechanisms are lines of a log, up to the place after `S MECHS`
  pub offer_was_read : LinesWereRead accounts (header_one_text ∷ offer_text ∷ [])
      (header_one ∷ said (mechs offered_names) ∷ []) offered []
  offer_was_read = next_line_was_read accounts _ _ between [] offer_text _ offered (header_was_read) offer_is_writable (refl, refl) tt
