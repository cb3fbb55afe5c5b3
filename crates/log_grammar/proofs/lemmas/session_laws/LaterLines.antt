-- What holds of the last line of a session, and with each line that comes before it, holds of all its lines after the first.
use Rattle.std.proofs.Common.{ℕ, Bool, true, false, List, [], ◌∷◌}
use Rattle.std.specs.declared.option.Option.{Option}
use Rattle.otp_core.specs.Attempt.{CodeTexts}
use Rattle.otp_core.specs.declared.token.reply.Reply.{Reply}
use Rattle.account_book.specs.AccountAttempt.{AccountAttempt, account_attempt_of}
use Rattle.log_grammar.specs.Lines.{LogLine, header_one, header_two, said, heard, bad, gone, ended, mechs, cont, accepts, refuses, replies, halt, busy}
use Rattle.log_grammar.specs.Lines.{auth, auth_with, resp, abort, code_line}
use Rattle.log_grammar.specs.Places.{Place, MayEnd, between, offered, asks_bare, waits_first, got_first, waits_final, got_final, waits_code, got_code}
use Rattle.log_grammar.specs.Places.{leaving, ending, halted}
use Rattle.log_grammar.specs.Demands.{Demands}
use Rattle.log_grammar.specs.Sessions.{Part, closing, refusal, Farewell, parting, Quit, quitting, AfterOk, after_ok, AfterFinal, after_final}
use Rattle.log_grammar.specs.Sessions.{AfterChallenge, after_challenge, AfterFirst, after_first, AfterEmpty, after_empty, AfterAuth, after_auth}
use Rattle.log_grammar.specs.Sessions.{AfterMechs, after_mechs, no_farewell, farewell, goes_away, aborts, sends_bad, no_code, quits_codes, unreplied}
use Rattle.log_grammar.specs.Sessions.{replied, halted_at, no_verdict, denied, granted, no_final, quits_final, sends_final, no_answer, refused}
use Rattle.log_grammar.specs.Sessions.{challenged, no_first, quits_first, sends_first, no_invitation, unoffered, invited, no_login, quits_login}
use Rattle.log_grammar.specs.Sessions.{with_first, without_first}

-- a line between the first and the last of a session, but no reply to a code
abbrev pub IsInnerLine : LogLine → Type 0
IsInnerLine header_one = ⊥
IsInnerLine header_two = ⊥
IsInnerLine (said (mechs names)) = ⊥
IsInnerLine (said busy) = ⊥
IsInnerLine (said halt) = ⊥
IsInnerLine (said (replies moment reply)) = ⊥
IsInnerLine ended = ⊥
IsInnerLine line = Unit {0}

-- if a code waits for its reply at the place, it is of one of these accounts
abbrev pub CodeIsOf : (IsAccount : List ℕ → Type 0) → Place → Type 0
CodeIsOf IsAccount (got_code account sent) = IsAccount account
CodeIsOf IsAccount place = Unit {0}

-- what is claimed of lines, of the place after them and of the replies in them holds from the last line of a session on, if the codes are
-- of these accounts
pub record HoldsFromTheLastOf (IsAccount : List ℕ → Type 0) (Holds : List LogLine → Place → List AccountAttempt → Type 0) : Type 0 where
  -- it holds of no line at a place where no log may end, if a code that waits there is of one of these accounts
  pub no_line : (place : Place) → (MayEnd place → ⊥) → CodeIsOf IsAccount place → Holds [] place []
  -- it holds of `E` alone
  pub last_end : Holds (ended ∷ []) between []
  -- it holds of `S HALT` alone
  pub last_halt : Holds (said halt ∷ []) halted []
  -- if it holds of some lines, it holds of these with an inner line before them
  pub inner_line : (line : LogLine) → IsInnerLine line → (lines : List LogLine) (place : Place) (told : List AccountAttempt)
      → Holds lines place told → Holds (line ∷ lines) place told
  -- if it holds of some lines, it holds of these with a reply to a code of one of these accounts before them
  pub reply : (account : List ℕ) → IsAccount account → (sent : CodeTexts) (moment : ℕ) (reply : Option Reply)
      (lines : List LogLine) (place : Place) (told : List AccountAttempt)
      → Holds lines place told → Holds (said (replies moment reply) ∷ lines) place (account_attempt_of account moment sent reply ∷ told)

-- what is claimed of lines, a place and replies holds of those of a part
abbrev pub HoldsOf : (List LogLine → Place → List AccountAttempt → Type 0) → Part → Type 0
HoldsOf Holds part = Holds part.lines part.place part.told

module _ (IsAccount : List ℕ → Type 0) (Holds : List LogLine → Place → List AccountAttempt → Type 0)
    (each : HoldsFromTheLastOf IsAccount Holds) where
  -- what holds from the last line of a session on holds of its end
  closing_holds : (closed : Bool) → HoldsOf Holds (closing closed)
  closing_holds true = each.last_end
  closing_holds false = each.no_line ending (λ none. none) tt

  -- what holds from the last line of a session on holds of a refusal
  pub refusal_holds : (IsDemanded : Demands → Type 0) (text : List ℕ) (closed : Bool) → HoldsOf Holds (refusal IsDemanded text closed)
  refusal_holds IsDemanded text true = each.inner_line (said (refuses text)) tt _ _ _ (closing_holds true)
  refusal_holds IsDemanded text false = each.inner_line (said (refuses text)) tt _ _ _ (closing_holds false)

  -- what holds from the last line of a session on holds of what follows the client's line that ends it
  farewell_holds : (f : Farewell) → HoldsOf Holds (parting f)
  farewell_holds no_farewell = each.no_line leaving (λ none. none) tt
  farewell_holds (farewell text closed) = refusal_holds (λ d. d.farewell text) text closed

  -- what holds from the last line of a session on holds of its end by its client
  pub quit_holds : (q : Quit) → HoldsOf Holds (quitting q)
  quit_holds (goes_away closed) = each.inner_line gone tt _ _ _ (closing_holds closed)
  quit_holds (aborts f) = each.inner_line (heard abort) tt _ _ _ (farewell_holds f)
  quit_holds (sends_bad f) = each.inner_line bad tt _ _ _ (farewell_holds f)

  -- what holds from the last line of a session on holds of its codes, if they are of one of these accounts
  after_ok_holds : (account : List ℕ) → IsAccount account → (c : AfterOk) → HoldsOf Holds (after_ok account c)
  after_ok_holds account is no_code = each.no_line (waits_code account) (λ none. none) tt
  after_ok_holds account is (quits_codes q) = quit_holds q
  after_ok_holds account is (unreplied sent) =
      each.inner_line (heard (code_line sent)) tt _ _ _ (each.no_line (got_code account sent) (λ none. none) is)
  after_ok_holds account is (replied sent moment reply more) =
      each.inner_line (heard (code_line sent)) tt _ _ _ (each.reply account is sent moment reply _ _ _ (after_ok_holds account is more))
  after_ok_holds account is (halted_at sent) = each.inner_line (heard (code_line sent)) tt _ _ _ each.last_halt

  -- what holds from the last line of a session on holds of what follows its client-final message, if its account is one of these
  after_final_holds : (m account first challenge last : List ℕ) → IsAccount account → (j : AfterFinal)
      → HoldsOf Holds (after_final m account first challenge last j)
  after_final_holds m account first challenge last is no_verdict =
      each.no_line (got_final m account first challenge last) (λ none. none) tt
  after_final_holds m account first challenge last is (denied text closed) =
      refusal_holds (λ d. d.denied m account first challenge last text) text closed
  after_final_holds m account first challenge last is (granted text c) =
      each.inner_line (said (accepts text)) tt _ _ _ (after_ok_holds account is c)

  -- what holds from the last line of a session on holds of what follows its challenge, if its account is one of these
  pub after_challenge_holds : (m account first challenge : List ℕ) → IsAccount account → (p : AfterChallenge)
      → HoldsOf Holds (after_challenge m account first challenge p)
  after_challenge_holds m account first challenge is no_final = each.no_line (waits_final m account first challenge) (λ none. none) tt
  after_challenge_holds m account first challenge is (quits_final q) = quit_holds q
  after_challenge_holds m account first challenge is (sends_final last j) =
      each.inner_line (heard (resp last)) tt _ _ _ (after_final_holds m account first challenge last is j)

  -- what holds from the last line of a session on holds of what follows its client-first message, if every account is one of these
  after_first_holds : ((account : List ℕ) → IsAccount account) → (m first : List ℕ) (a : AfterFirst) → HoldsOf Holds (after_first m first a)
  after_first_holds any m first no_answer = each.no_line (got_first m first) (λ none. none) tt
  after_first_holds any m first (refused text closed) = refusal_holds (λ d. d.refused m first text) text closed
  after_first_holds any m first (challenged account text p) =
      each.inner_line (said (cont text)) tt _ _ _ (after_challenge_holds m account first text (any account) p)

  -- what holds from the last line of a session on holds of what follows its empty challenge, if every account is one of these
  after_empty_holds : ((account : List ℕ) → IsAccount account) → (m : List ℕ) (f : AfterEmpty) → HoldsOf Holds (after_empty m f)
  after_empty_holds any m no_first = each.no_line (waits_first m) (λ none. none) tt
  after_empty_holds any m (quits_first q) = quit_holds q
  after_empty_holds any m (sends_first first a) = each.inner_line (heard (resp first)) tt _ _ _ (after_first_holds any m first a)

  -- what holds from the last line of a session on holds of what follows its `C AUTH` without a message, if every account is one
  -- of these
  after_auth_holds : ((account : List ℕ) → IsAccount account) → (m : List ℕ) (i : AfterAuth) → HoldsOf Holds (after_auth m i)
  after_auth_holds any m no_invitation = each.no_line (asks_bare m) (λ none. none) tt
  after_auth_holds any m (unoffered text closed) = refusal_holds (λ d. d.unoffered m text) text closed
  after_auth_holds any m (invited text f) = each.inner_line (said (cont text)) tt _ _ _ (after_empty_holds any m f)

  -- what holds from the last line of a session on holds of what follows its `S MECHS`, if every account is one of these
  after_mechs_holds : ((account : List ℕ) → IsAccount account) → (l : AfterMechs) → HoldsOf Holds (after_mechs l)
  after_mechs_holds any no_login = each.no_line offered (λ none. none) tt
  after_mechs_holds any (quits_login q) = quit_holds q
  after_mechs_holds any (with_first m first a) = each.inner_line (heard (auth_with m first)) tt _ _ _ (after_first_holds any m first a)
  after_mechs_holds any (without_first m i) = each.inner_line (heard (auth m)) tt _ _ _ (after_auth_holds any m i)

-- what is claimed holds from the last line of a session on, whatever the accounts of its codes
abbrev pub HoldsFromTheLast : (List LogLine → Place → List AccountAttempt → Type 0) → Type 0
HoldsFromTheLast Holds = HoldsFromTheLastOf (λ account. Unit {0}) Holds

-- what holds of the last line of a session, and with each line that comes before it, holds of all its lines after the first
pub later_lines_hold : (Holds : List LogLine → Place → List AccountAttempt → Type 0) → HoldsFromTheLast Holds
    → (l : AfterMechs) → HoldsOf Holds (after_mechs l)
later_lines_hold Holds each l = after_mechs_holds (λ account. Unit {0}) Holds each (λ account. tt) l
