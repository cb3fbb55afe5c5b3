-- The words of a hall's input lines: what follows a session's number.
use Rattle.std.proofs.Common.{◌≡◌, ℕ, List, ◌∷◌, ◌++◌, sym, ◌∙◌}
use Rattle.std.specs.Prelude.{decimal}
use Rattle.std.specs.Str.{byte}
use Rattle.std.proofs.lemmas.List.{append_cancel_left}
use Rattle.log_grammar.specs.NumberedLines.{IsSessionNumber}
use Rattle.sasl_log.specs.NumberedFaults.{BeginsWithNumber}
use Rattle.sasl_log.proofs.lemmas.texts.NumberedLines.{one_rest_after_number}

-- a line of this word and a text
module _ (word line text : List ℕ) (is : line ≡ word ++ text) where
  -- if the number of a session and a space follow a line's word, the text after the word begins with them
  pub text_begins_with_number : (session : ℕ) (rest : List ℕ) → IsSessionNumber session
      → line ≡ word ++ (decimal session ++ (byte " " ∷ rest)) → BeginsWithNumber text session rest
  text_begins_with_number session rest number whole = record {
    number = number;
    whole = append_cancel_left word text (decimal session ++ (byte " " ∷ rest)) (sym is ∙ whole);
  }

  -- at most one text follows the word, the number of a session and a space
  pub one_text_follows_number : (n : ℕ) (rest : List ℕ) → BeginsWithNumber text n rest → (session : ℕ) (more : List ℕ)
      → IsSessionNumber session → line ≡ word ++ (decimal session ++ (byte " " ∷ more)) → rest ≡ more
  one_text_follows_number n rest begins session more number whole =
      one_rest_after_number text n session rest more begins (text_begins_with_number session more number whole)
