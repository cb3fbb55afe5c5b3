-- Logs that end with a halt, bytes without an LF, and lines that are too long.
use Rattle.std.proofs.Common.{◌≤◌, ◌<◌, ◌+◌, inl, inr, ℕ, List, [], ◌∷◌, ◌++◌, length, refl, sym, subst}
use Rattle.std.specs.List.{AllByRecursion, AllZip}
use Rattle.std.proofs.lemmas.List.{same_from_push}
use Rattle.scram_text.specs.SplitLines.{LacksLf, ended_by_lf, IsSplit}
use Rattle.scram_text.proofs.lemmas.SplitLines.{one_split, whole_lines_are_split}
use Rattle.scram_text.proofs.lemmas.ListEnds.{appended_lists_keep_all}
use Rattle.account_book.specs.AccountAttempt.{AccountAttempt}
use Rattle.log_grammar.specs.Lines.{LogLine, IsLogLine, max_log_line_len, header_one}
use Rattle.log_grammar.specs.Places.{Place, halted, between}
use Rattle.log_grammar.specs.Demands.{Accounts, demands}
use Rattle.log_grammar.specs.Begins.{Begins}
use Rattle.log_grammar.specs.Why.{is_cut, no_line, out_of_order, class_of, LineClass, IsClassDue}
use Rattle.log_grammar.specs.laws.Examples.{AreWhole, first_alone, header_one_text}
use Rattle.log_grammar.specs.Versions.{any_version, IsClean, IsWhy}
use Rattle.log_grammar.proofs.lemmas.lines.Written.{header_is_writable}
use Rattle.log_grammar.proofs.lemmas.kinds.ShownByLines.{LinesWereRead, no_lines_were_read, read_texts_are_clean, end_is_cut, rest_is_cut}
use Rattle.log_grammar.proofs.lemmas.kinds.ShownByLines.{long_rest_is_no_line, long_text_is_at_fault, last_line_is_at_fault}
use Rattle.log_grammar.proofs.lemmas.ListEnds.{related_list_has_last, front_keeps_all, all_includes_element}
use Rattle.log_grammar.proofs.lemmas.kinds.AllVersions.{any_version_empty_is_unclean}
use Rattle.log_grammar.proofs.lemmas.small_logs.SmallLines.{header_was_read}
use Rattle.log_grammar.proofs.lemmas.state_machine.DueClasses.{classes_follow_the_place}

-- whole lines that lead to the place after `S HALT` are a clean log
pub halted_is_clean : (accounts : Accounts) (texts : List (List ℕ)) (log : List LogLine) (told : List AccountAttempt) → AreWhole texts log
    → Begins (demands accounts) log halted told → IsClean accounts (ended_by_lf texts)
halted_is_clean accounts texts log told are begins =
    let l : LinesWereRead accounts texts log halted told = record { are = are.0; lack = are.1; begins = begins } in
    read_texts_are_clean l tt

-- a log without lines is not halted
empty_log_is_not_halted : (accounts : Accounts) (told : List AccountAttempt) → Begins (demands accounts) [] halted told → ⊥
empty_log_is_not_halted accounts told (inl none) = cc none.1
empty_log_is_not_halted accounts told (inr s) = cc s.lines

-- no class of lines is due after `S HALT`
pub no_class_is_due_after_halt : (accounts : Accounts) (log : List LogLine) (told : List AccountAttempt) (class : LineClass)
    → Begins (demands accounts) log halted told → IsClassDue log class → ⊥
no_class_is_due_after_halt accounts log told class begins due = (classes_follow_the_place accounts log halted told class begins).0 due

-- any line of a log after `S HALT` is out of order, and is the line at fault
pub line_after_halt_is_at_fault : (accounts : Accounts) (texts : List (List ℕ)) (log : List LogLine) (told : List AccountAttempt)
    (text : List ℕ) (line : LogLine) → AreWhole (texts ++ text ∷ []) (log ++ line ∷ []) → Begins (demands accounts) log halted told
    → IsWhy accounts (ended_by_lf (texts ++ text ∷ [])) (length texts + 1) out_of_order
line_after_halt_is_at_fault accounts texts [] told text line whole begins =
    absurd (empty_log_is_not_halted accounts told begins)
line_after_halt_is_at_fault accounts texts (first ∷ log) told text line whole begins =
    let (front, last, same, those, this) = related_list_has_last IsLogLine texts text ((first ∷ log) ++ line ∷ []) whole.0 in
    let own = same_from_push (first ∷ log) front line last same in
    let are = subst (λ (ls : List LogLine). AllZip IsLogLine texts ls) (sym own.0) those in
    let is = subst (λ (l : LogLine). IsLogLine text l) (sym own.1) this in
    last_line_is_at_fault accounts texts first log halted told text line out_of_order
    (record { are = are; lack = front_keeps_all LacksLf texts (text ∷ []) whole.1; begins = begins })
    is (all_includes_element LacksLf texts text [] whole.1) (λ f. f.goes)
    (inl (no_class_is_due_after_halt accounts (first ∷ log) told (class_of line) begins, refl))

-- bytes without an LF are cut into no lines, and all of them are left
rest_alone_is_split : (rest : List ℕ) → LacksLf rest → IsSplit rest [] rest
rest_alone_is_split rest lacks = record { bytes_are = refl; lines = tt; after = lacks }

-- bytes without an LF that are not too long for a line are a cut log: line 1 is at fault
pub short_bytes_are_cut : (accounts : Accounts) (rest : List ℕ) → LacksLf rest → length rest ≤ max_log_line_len
    → IsWhy accounts rest 1 is_cut
short_bytes_are_cut accounts rest lacks short =
    let cut = rest_alone_is_split rest lacks in
    end_is_cut (no_lines_were_read accounts) rest rest cut
    (λ clean. let (texts, also, ends) = clean in
    any_version_empty_is_unclean accounts (subst (any_version accounts).AreClean (one_split rest texts [] [] rest also cut).0 ends)) short

-- more bytes without an LF than a line may have are no line: line 1 is at fault
pub long_bytes_are_no_line : (accounts : Accounts) (rest : List ℕ) → LacksLf rest → max_log_line_len < length rest
    → IsWhy accounts rest 1 no_line
long_bytes_are_no_line accounts rest lacks long =
    long_rest_is_no_line (no_lines_were_read accounts) rest rest (rest_alone_is_split rest lacks) long

-- whole lines and then bytes without an LF are cut into these lines and those bytes
whole_lines_and_rest_are_split : (texts : List (List ℕ)) (rest : List ℕ) → AllByRecursion LacksLf texts → LacksLf rest
    → IsSplit (ended_by_lf texts ++ rest) texts rest
whole_lines_and_rest_are_split texts rest lack lacks = record { bytes_are = refl; lines = lack; after = lacks }

module _ (accounts : Accounts) (texts : List (List ℕ)) (log : List LogLine) (place : Place) (told : List AccountAttempt) where
  -- whole lines that lead to a place were read up to there
  whole_lines_were_read : AreWhole texts log → Begins (demands accounts) log place told → LinesWereRead accounts texts log place told
  whole_lines_were_read are begins = record { are = are.0; lack = are.1; begins = begins }

  -- after lines that a log may begin with, a line without its LF is cut and at fault, if it has a byte and is not too long
  pub unended_line_is_cut : (rest : List ℕ) → AreWhole texts log → Begins (demands accounts) log place told → LacksLf rest → 1 ≤ length rest
      → length rest ≤ max_log_line_len → IsWhy accounts (ended_by_lf texts ++ rest) (length texts + 1) is_cut
  unended_line_is_cut rest are begins lacks some short =
      rest_is_cut (whole_lines_were_read are begins) (ended_by_lf texts ++ rest) rest
      (whole_lines_and_rest_are_split texts rest are.1 lacks) some short

  -- after lines that a log may begin with, more bytes without an LF than a line may have are no line, and are at fault
  pub long_unended_line_is_no_line : (rest : List ℕ) → AreWhole texts log → Begins (demands accounts) log place told → LacksLf rest
      → max_log_line_len < length rest → IsWhy accounts (ended_by_lf texts ++ rest) (length texts + 1) no_line
  long_unended_line_is_no_line rest are begins lacks long =
      long_rest_is_no_line (whole_lines_were_read are begins) (ended_by_lf texts ++ rest) rest
      (whole_lines_and_rest_are_split texts rest are.1 lacks) long

  -- after lines that a log may begin with, a text with an LF that is longer than a line may be is no line, and is at fault
  pub long_line_is_no_line : (text : List ℕ) → AreWhole texts log → Begins (demands accounts) log place told → LacksLf text
      → max_log_line_len < length text → IsWhy accounts (ended_by_lf (texts ++ text ∷ [])) (length texts + 1) no_line
  long_line_is_no_line text are begins lacks long =
      let all = texts ++ text ∷ [] in
      long_text_is_at_fault accounts (ended_by_lf all) texts text [] [] log place told
      (whole_lines_are_split all (appended_lists_keep_all LacksLf texts (text ∷ []) are.1 (lacks, tt)))
      (whole_lines_were_read are begins) long

-- the text of the first line is a log of whole lines by itself
header_is_whole : AreWhole (header_one_text ∷ []) (header_one ∷ [])
header_is_whole = ((header_is_writable, tt), (refl, tt))

-- a text after the first line that is longer than a line may be, with its LF, is no line: line 2 is at fault
pub long_second_is_no_line : (accounts : Accounts) (text : List ℕ) → LacksLf text → max_log_line_len < length text
    → IsWhy accounts (ended_by_lf (header_one_text ∷ text ∷ [])) 2 no_line
long_second_is_no_line accounts text lacks long =
    long_line_is_no_line accounts (header_one_text ∷ []) (header_one ∷ []) between [] text header_is_whole (header_was_read accounts).begins
    lacks long

-- more bytes after the first line than a line may have, without an LF, are no line: line 2 is at fault
pub long_unended_second_is_no_line : (accounts : Accounts) (rest : List ℕ) → LacksLf rest → max_log_line_len < length rest
    → IsWhy accounts (first_alone ++ rest) 2 no_line
long_unended_second_is_no_line accounts rest lacks long =
    long_unended_line_is_no_line accounts (header_one_text ∷ []) (header_one ∷ []) between [] rest header_is_whole
    (header_was_read accounts).begins
    lacks long

-- after the first line, a second without its LF is cut and at fault, if it has a byte and is not too long
pub unended_second_is_cut : (accounts : Accounts) (rest : List ℕ) → LacksLf rest → 1 ≤ length rest → length rest ≤ max_log_line_len
    → IsWhy accounts (first_alone ++ rest) 2 is_cut
unended_second_is_cut accounts rest lacks some short =
    unended_line_is_cut accounts (header_one_text ∷ []) (header_one ∷ []) between [] rest header_is_whole
    (header_was_read accounts).begins lacks some
    short
