-- A session's tree that meets the demands and has ended has the lines of a whole session.
use Rattle.std.proofs.Common.{◌≡◌, ℕ, true, false, List, [], ◌∷◌, refl, sym, subst}
use Rattle.account_book.specs.AccountAttempt.{AccountAttempt}
use Rattle.log_grammar.specs.Lines.{said, heard, bad, ended, mechs, cont, refuses, auth, resp, abort}
use Rattle.log_grammar.specs.Places.{MayEnd}
use Rattle.log_grammar.specs.Demands.{Accounts, demands}
use Rattle.log_grammar.specs.Sessions.{Quit, quitting, AfterOk, after_ok, AfterChallenge, after_challenge, AfterFirst}
use Rattle.log_grammar.specs.Sessions.{after_first, AfterEmpty, after_empty, AfterMechs, after_mechs, RecordedSession}
use Rattle.log_grammar.specs.Sessions.{session_lines, session_place, session_told, SessionMeets, no_farewell, farewell, goes_away, aborts, sends_bad}
use Rattle.log_grammar.specs.Sessions.{no_code, quits_codes, unreplied, replied, halted_at, no_verdict, denied, granted, no_final, quits_final}
use Rattle.log_grammar.specs.Sessions.{sends_final, no_answer, refused, challenged, no_first, quits_first, sends_first, no_invitation, unoffered}
use Rattle.log_grammar.specs.Sessions.{invited, no_login, quits_login, with_first, without_first, session}
use Rattle.log_grammar.specs.WholeSessions.{IsQuit, by_gone, by_abort, by_bad, AreCodes, then_quit, then_halt, then_reply, FollowChallenge}
use Rattle.log_grammar.specs.WholeSessions.{quits_after_challenge, is_denied, is_granted, FollowFirst, is_refused, is_challenged, FollowOffer}
use Rattle.log_grammar.specs.WholeSessions.{quits_after_offer, message_with_auth, message_after_auth, quits_after_auth, is_unoffered, IsSession}
use Rattle.log_grammar.specs.WholeSessions.{after_offer}

-- where a client ends its session, there is no attempt
pub quit_tells_nothing : (q : Quit) → (quitting q).told ≡ []
quit_tells_nothing (goes_away true) = refl
quit_tells_nothing (goes_away false) = refl
quit_tells_nothing (aborts no_farewell) = refl
quit_tells_nothing (aborts (farewell text closed)) = refl
quit_tells_nothing (sends_bad no_farewell) = refl
quit_tells_nothing (sends_bad (farewell text closed)) = refl

module _ (accounts : Accounts) where
  -- a client that has ended its session did so in one of three ways
  quit_is_whole : (q : Quit) → (quitting q).Meets (demands accounts) → MayEnd (quitting q).place → IsQuit (quitting q).lines
  quit_is_whole (goes_away true) meets ends = by_gone
  quit_is_whole (goes_away false) meets ends = absurd ends
  quit_is_whole (aborts no_farewell) meets ends = absurd ends
  quit_is_whole (aborts (farewell text true)) meets ends =
      subst (λ (t : List ℕ). IsQuit (heard abort ∷ said (refuses t) ∷ ended ∷ [])) (sym meets) by_abort
  quit_is_whole (aborts (farewell text false)) meets ends = absurd ends
  quit_is_whole (sends_bad no_farewell) meets ends = absurd ends
  quit_is_whole (sends_bad (farewell text true)) meets ends =
      subst (λ (t : List ℕ). IsQuit (bad ∷ said (refuses t) ∷ ended ∷ [])) (sym meets) by_bad
  quit_is_whole (sends_bad (farewell text false)) meets ends = absurd ends

  -- what has ended after `S OK` is codes
  codes_are_whole : (account : List ℕ) (c : AfterOk) → (after_ok account c).Meets (demands accounts)
      → MayEnd (after_ok account c).place → AreCodes account (after_ok account c).lines (after_ok account c).told
  codes_are_whole account no_code meets ends = absurd ends
  codes_are_whole account (quits_codes q) meets ends =
      subst (λ (t : List AccountAttempt). AreCodes account (quitting q).lines t) (sym (quit_tells_nothing q))
      (then_quit (quit_is_whole q meets ends))
  codes_are_whole account (unreplied sent) meets ends = absurd ends
  codes_are_whole account (replied sent moment reply more) meets ends =
      then_reply sent moment reply (codes_are_whole account more meets ends)
  codes_are_whole account (halted_at sent) meets ends = then_halt sent

  -- what has ended after the challenge follows a challenge
  challenge_is_followed : (mechanism account first challenge : List ℕ) (p : AfterChallenge)
      → (after_challenge mechanism account first challenge p).Meets (demands accounts)
      → MayEnd (after_challenge mechanism account first challenge p).place
      → FollowChallenge accounts mechanism account first challenge (after_challenge mechanism account first challenge p).lines
      (after_challenge mechanism account first challenge p).told
  challenge_is_followed mechanism account first challenge no_final meets ends = absurd ends
  challenge_is_followed mechanism account first challenge (quits_final q) meets ends =
      subst (λ (t : List AccountAttempt). FollowChallenge accounts mechanism account first challenge (quitting q).lines t)
      (sym (quit_tells_nothing q)) (quits_after_challenge (quit_is_whole q meets ends))
  challenge_is_followed mechanism account first challenge (sends_final last no_verdict) meets ends = absurd ends
  challenge_is_followed mechanism account first challenge (sends_final last (denied text true)) meets ends =
      subst (λ (t : List ℕ). FollowChallenge accounts mechanism account first challenge
      (heard (resp last) ∷ said (refuses t) ∷ ended ∷ []) []) (sym meets.2) (is_denied last meets.0 meets.1)
  challenge_is_followed mechanism account first challenge (sends_final last (denied text false)) meets ends = absurd ends
  challenge_is_followed mechanism account first challenge (sends_final last (granted text c)) meets ends =
      is_granted last text meets.0.0 meets.0.1 meets.0.2 (codes_are_whole account c meets.1 ends)

  -- what has ended after the client-first message follows one
  first_is_followed : (mechanism first : List ℕ) (a : AfterFirst) → (after_first mechanism first a).Meets (demands accounts)
      → MayEnd (after_first mechanism first a).place
      → FollowFirst accounts mechanism first (after_first mechanism first a).lines (after_first mechanism first a).told
  first_is_followed mechanism first no_answer meets ends = absurd ends
  first_is_followed mechanism first (refused text true) meets ends =
      subst (λ (t : List ℕ). FollowFirst accounts mechanism first (said (refuses t) ∷ ended ∷ []) []) (sym meets.1) (is_refused meets.0)
  first_is_followed mechanism first (refused text false) meets ends = absurd ends
  first_is_followed mechanism first (challenged account text p) meets ends =
      is_challenged account text meets.0 (challenge_is_followed mechanism account first text p meets.1 ends)

  -- what has ended after `C AUTH` without a message and the empty challenge follows the offer
  empty_is_followed : (mechanism text : List ℕ) (e : AfterEmpty) → (demands accounts).invited mechanism text
      → (after_empty mechanism e).Meets (demands accounts) → MayEnd (after_empty mechanism e).place
      → FollowOffer accounts (heard (auth mechanism) ∷ said (cont text) ∷ (after_empty mechanism e).lines) (after_empty mechanism e).told
  empty_is_followed mechanism text no_first is meets ends = absurd ends
  empty_is_followed mechanism text (quits_first q) is meets ends =
      subst (λ (t : List AccountAttempt). FollowOffer accounts (heard (auth mechanism) ∷ said (cont text) ∷ (quitting q).lines) t)
      (sym (quit_tells_nothing q))
      (subst (λ (t : List ℕ). FollowOffer accounts (heard (auth mechanism) ∷ said (cont t) ∷ (quitting q).lines) []) (sym is.1)
      (quits_after_auth mechanism is.0.0 is.0.1 (quit_is_whole q meets ends)))
  empty_is_followed mechanism text (sends_first first a) is meets ends =
      subst (λ (t : List ℕ). FollowOffer accounts
      (heard (auth mechanism) ∷ said (cont t) ∷ heard (resp first) ∷ (after_first mechanism first a).lines)
      (after_first mechanism first a).told) (sym is.1)
      (message_after_auth mechanism first is.0.0 is.0.1 (first_is_followed mechanism first a meets ends))

  -- what has ended after `S MECHS` follows the offer
  offer_is_followed : (l : AfterMechs) → (after_mechs l).Meets (demands accounts) → MayEnd (after_mechs l).place
      → FollowOffer accounts (after_mechs l).lines (after_mechs l).told
  offer_is_followed no_login meets ends = absurd ends
  offer_is_followed (quits_login q) meets ends =
      subst (λ (t : List AccountAttempt). FollowOffer accounts (quitting q).lines t) (sym (quit_tells_nothing q))
      (quits_after_offer (quit_is_whole q meets ends))
  offer_is_followed (with_first mechanism first a) meets ends =
      message_with_auth mechanism first (first_is_followed mechanism first a meets ends)
  offer_is_followed (without_first mechanism no_invitation) meets ends = absurd ends
  offer_is_followed (without_first mechanism (unoffered text true)) meets ends =
      subst (λ (t : List ℕ). FollowOffer accounts (heard (auth mechanism) ∷ said (refuses t) ∷ ended ∷ []) []) (sym meets.1)
      (is_unoffered mechanism meets.0)
  offer_is_followed (without_first mechanism (unoffered text false)) meets ends = absurd ends
  offer_is_followed (without_first mechanism (invited text e)) meets ends = empty_is_followed mechanism text e meets.0 meets.1 ends

  -- a tree that meets the demands and has ended is a whole session
  pub finished_session_is_whole : (s : RecordedSession) → SessionMeets (demands accounts) s → MayEnd (session_place s)
      → IsSession accounts (session_lines s) (session_told s)
  finished_session_is_whole (session names l) meets ends =
      subst (λ (t : List ℕ). IsSession accounts (said (mechs t) ∷ (after_mechs l).lines) (after_mechs l).told) (sym meets.0)
      (after_offer (offer_is_followed l meets.1 ends))
