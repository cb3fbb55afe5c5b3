-- The counters that the PASS lines of a log use, each with the account to which its session has logged in, all read off the lines: PASS
-- for a code (CODE) uses its counter, and PASS for two in a row (SYNC) uses its counter and the one before it.
use Rattle.std.specs.Prelude.{ℕ, ◌≡◌, List, [], ◌∷◌, ◌++◌}
use Rattle.std.specs.List.{AllByRecursion}
use Rattle.std.specs.declared.option.Option.TheVariants.{Some}
use Rattle.otp_core.specs.Attempt.{CodeTexts, used_in_reply}
use Rattle.otp_core.specs.declared.token.reply.Reply.TheVariants.{Pass}
use Rattle.account_book.specs.Spent.{of_account}
use Rattle.log_grammar.specs.Lines.{LogLine, said, heard, accepts, replies, code, sync, code_line}
use Rattle.log_grammar.specs.Demands.{Accounts}
use Rattle.log_grammar.specs.Numbered.{Numbered, of_number}
use Rattle.log_grammar.specs.laws.Logins.{CompletesLogin}

-- the line is a code of a client, two in a row, or the reply to them
abbrev pub IsOfCodes : LogLine → Type 0
IsOfCodes (heard (code text)) = Unit {0}
IsOfCodes (heard (sync first second)) = Unit {0}
IsOfCodes (said (replies moment reply)) = Unit {0}
IsOfCodes line = ⊥

-- the lines end with the `S OK` of a valid login to this account, and with codes and their replies
pub record IsLoggedIn (accounts : Accounts) (lines : List LogLine) (account : List ℕ) : Type 0 where
  pub before : List LogLine
  pub server_final : List ℕ
  pub codes : List LogLine
  pub are_lines : lines ≡ before ++ said (accepts server_final) ∷ codes
  pub login : CompletesLogin accounts before server_final account
  pub only_codes : AllByRecursion IsOfCodes codes

-- the lines end with a code, or two in a row, that a client has sent who has logged in to this account
abbrev pub HasSentCodes : Accounts → List LogLine → (account : List ℕ) → CodeTexts → Type 0
HasSentCodes accounts lines account sent =
    (earlier : List LogLine) × (lines ≡ earlier ++ heard (code_line sent) ∷ []) × IsLoggedIn accounts earlier account

-- after the lines `before`, of a log of version 1 or of one number in a log of version 2, the line uses these counters: PASS those of the
-- code before it, or of the two, and every other line none
abbrev pub AreUsedByLine : Accounts → (before : List LogLine) → LogLine → (used : List (List ℕ × ℕ)) → Type 0
AreUsedByLine accounts before (said (replies moment (Some (Pass counter)))) used =
    (account : List ℕ) × (sent : CodeTexts) × HasSentCodes accounts before account sent
    × (used ≡ of_account account (used_in_reply sent (Pass counter)))
AreUsedByLine accounts before line used = used ≡ []

-- after the lines `before` of a log of version 2, the line uses these counters, by the lines of its own number
abbrev pub AreUsedByNumbered : Accounts → (before : List (Numbered LogLine)) → Numbered LogLine → (used : List (List ℕ × ℕ)) → Type 0
AreUsedByNumbered accounts before line used = AreUsedByLine accounts (of_number line.number before) line.value used

-- after the lines `before`, these lines use these counters, those of the last line first: `AreUsedBy` says which ones one line uses
abbrev pub AreUsedByEach : {X : Type 0} → (AreUsedBy : List X → X → List (List ℕ × ℕ) → Type 0) → (before lines : List X)
    → (used : List (List ℕ × ℕ)) → Type 0
AreUsedByEach AreUsedBy before [] used = used ≡ []
AreUsedByEach AreUsedBy before (line ∷ more) used =
    (own : List (List ℕ × ℕ)) × (later : List (List ℕ × ℕ)) × AreUsedBy before line own
    × AreUsedByEach AreUsedBy (before ++ line ∷ []) more later × (used ≡ later ++ own)

-- the PASS lines of a log of version 1 use these counters, the latest PASS first
abbrev pub ArePassed : Accounts → List LogLine → (used : List (List ℕ × ℕ)) → Type 0
ArePassed accounts lines used = AreUsedByEach (AreUsedByLine accounts) [] lines used

-- the PASS lines of a log of version 2 use these counters, the latest PASS first
abbrev pub AreNumberedPassed : Accounts → List (Numbered LogLine) → (used : List (List ℕ × ℕ)) → Type 0
AreNumberedPassed accounts lines used = AreUsedByEach (AreUsedByNumbered accounts) [] lines used
