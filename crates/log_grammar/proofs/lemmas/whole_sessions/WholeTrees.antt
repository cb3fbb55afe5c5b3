-- A whole session has a tree that meets the demands and has ended.
use Rattle.std.proofs.Common.{◌≡◌, ℕ, true, List, [], ◌∷◌, refl, ap}
use Rattle.account_book.specs.AccountAttempt.{AccountAttempt, account_attempt_of}
use Rattle.scram_ends.specs.Verdict.{refuse, due_text}
use Rattle.log_grammar.specs.Words.{offered_names}
use Rattle.log_grammar.specs.Lines.{LogLine, said, heard, mechs, cont, accepts, replies, auth, auth_with, resp, code_line}
use Rattle.log_grammar.specs.Places.{MayEnd}
use Rattle.log_grammar.specs.Demands.{Accounts, demands}
use Rattle.log_grammar.specs.Sessions.{Part, quitting, after_ok, after_challenge, after_first, after_mechs, session_part, farewell, goes_away, aborts}
use Rattle.log_grammar.specs.Sessions.{sends_bad, quits_codes, replied, halted_at, denied, granted, quits_final, sends_final, refused, challenged}
use Rattle.log_grammar.specs.Sessions.{quits_first, sends_first, unoffered, invited, quits_login, with_first, without_first, session}
use Rattle.log_grammar.specs.WholeSessions.{IsQuit, by_gone, by_abort, by_bad, AreCodes, then_quit, then_halt, then_reply, FollowChallenge}
use Rattle.log_grammar.specs.WholeSessions.{quits_after_challenge, is_denied, is_granted, FollowFirst, is_refused, is_challenged, FollowOffer}
use Rattle.log_grammar.specs.WholeSessions.{quits_after_offer, message_with_auth, message_after_auth, quits_after_auth, is_unoffered, IsSession}
use Rattle.log_grammar.specs.WholeSessions.{after_offer}

-- some part that meets the demands and has ended has these lines, and these attempts in them
pub record HasTree {X : Type 0} (accounts : Accounts) (part : X → Part) (lines : List LogLine) (told : List AccountAttempt) : Type 0 where
  pub tree : X
  pub are : (part tree).lines ≡ lines
  pub told_are : (part tree).told ≡ told
  pub good : (part tree).Meets (demands accounts)
  pub ends : MayEnd (part tree).place

module _ (accounts : Accounts) where
  -- a client that ends its session has a tree
  quit_has_tree : (lines : List LogLine) → IsQuit lines → HasTree accounts quitting lines []
  quit_has_tree lines by_gone = record { tree = goes_away true; are = refl; told_are = refl; good = tt; ends = tt }
  quit_has_tree lines by_abort = record { tree = aborts (farewell [] true); are = refl; told_are = refl; good = refl; ends = tt }
  quit_has_tree lines by_bad = record { tree = sends_bad (farewell [] true); are = refl; told_are = refl; good = refl; ends = tt }

  -- codes have a tree
  codes_have_tree : (account : List ℕ) (lines : List LogLine) (told : List AccountAttempt) → AreCodes account lines told
      → HasTree accounts (after_ok account) lines told
  codes_have_tree account lines told (then_quit q) =
      let t = quit_has_tree _ q in
      record { tree = quits_codes t.tree; are = t.are; told_are = t.told_are; good = t.good; ends = t.ends }
  codes_have_tree account lines told (then_halt sent) =
      record { tree = halted_at sent; are = refl; told_are = refl; good = tt; ends = tt }
  codes_have_tree account lines told (then_reply sent moment reply more) =
      let t = codes_have_tree account _ _ more in
      record {
        tree = replied sent moment reply t.tree;
        are = ap (λ (l : List LogLine). heard (code_line sent) ∷ said (replies moment reply) ∷ l) t.are;
        told_are = ap (λ (l : List AccountAttempt). account_attempt_of account moment sent reply ∷ l) t.told_are;
        good = t.good;
        ends = t.ends;
      }

  -- what follows a challenge has a tree
  followed_challenge_has_tree : (mechanism account first challenge : List ℕ) (lines : List LogLine) (told : List AccountAttempt)
      → FollowChallenge accounts mechanism account first challenge lines told
      → HasTree accounts (after_challenge mechanism account first challenge) lines told
  followed_challenge_has_tree mechanism account first challenge lines told (quits_after_challenge q) =
      let t = quit_has_tree _ q in
      record { tree = quits_final t.tree; are = t.are; told_are = t.told_are; good = t.good; ends = t.ends }
  followed_challenge_has_tree mechanism account first challenge lines told (is_denied last why due) =
      record {
        tree = sends_final last (denied (due_text (refuse why)) true);
        are = refl;
        told_are = refl;
        good = (why, due, refl);
        ends = tt;
      }
  followed_challenge_has_tree mechanism account first challenge lines told (is_granted last text signature due authentic more) =
      let t = codes_have_tree account _ _ more in
      record {
        tree = sends_final last (granted text t.tree);
        are = ap (λ (l : List LogLine). heard (resp last) ∷ said (accepts text) ∷ l) t.are;
        told_are = t.told_are;
        good = ((signature, due, authentic), t.good);
        ends = t.ends;
      }

  -- what follows a client-first message has a tree
  followed_first_has_tree : (mechanism first : List ℕ) (lines : List LogLine) (told : List AccountAttempt)
      → FollowFirst accounts mechanism first lines told → HasTree accounts (after_first mechanism first) lines told
  followed_first_has_tree mechanism first lines told (is_refused none) =
      record { tree = refused [] true; are = refl; told_are = refl; good = (none, refl); ends = tt }
  followed_first_has_tree mechanism first lines told (is_challenged account text due more) =
      let t = followed_challenge_has_tree mechanism account first text _ _ more in
      record {
        tree = challenged account text t.tree;
        are = ap (λ (l : List LogLine). said (cont text) ∷ l) t.are;
        told_are = t.told_are;
        good = (due, t.good);
        ends = t.ends;
      }

  -- what follows the offer has a tree
  followed_offer_has_tree : (lines : List LogLine) (told : List AccountAttempt) → FollowOffer accounts lines told
      → HasTree accounts after_mechs lines told
  followed_offer_has_tree lines told (quits_after_offer q) =
      let t = quit_has_tree _ q in
      record { tree = quits_login t.tree; are = t.are; told_are = t.told_are; good = t.good; ends = t.ends }
  followed_offer_has_tree lines told (message_with_auth mechanism first more) =
      let t = followed_first_has_tree mechanism first _ _ more in
      record {
        tree = with_first mechanism first t.tree;
        are = ap (λ (l : List LogLine). heard (auth_with mechanism first) ∷ l) t.are;
        told_are = t.told_are;
        good = t.good;
        ends = t.ends;
      }
  followed_offer_has_tree lines told (message_after_auth mechanism first m is more) =
      let t = followed_first_has_tree mechanism first _ _ more in
      record {
        tree = without_first mechanism (invited [] (sends_first first t.tree));
        are = ap (λ (l : List LogLine). heard (auth mechanism) ∷ said (cont []) ∷ heard (resp first) ∷ l) t.are;
        told_are = t.told_are;
        good = (((m, is), refl), t.good);
        ends = t.ends;
      }
  followed_offer_has_tree lines told (quits_after_auth mechanism m is q) =
      let t = quit_has_tree _ q in
      record {
        tree = without_first mechanism (invited [] (quits_first t.tree));
        are = ap (λ (l : List LogLine). heard (auth mechanism) ∷ said (cont []) ∷ l) t.are;
        told_are = t.told_are;
        good = (((m, is), refl), t.good);
        ends = t.ends;
      }
  followed_offer_has_tree lines told (is_unoffered mechanism none) =
      record { tree = without_first mechanism (unoffered [] true); are = refl; told_are = refl; good = (none, refl); ends = tt }

  -- a whole session has a tree
  pub whole_session_has_tree : (lines : List LogLine) (told : List AccountAttempt) → IsSession accounts lines told
      → HasTree accounts session_part lines told
  whole_session_has_tree lines told (after_offer more) =
      let t = followed_offer_has_tree _ _ more in
      record {
        tree = session offered_names t.tree;
        are = ap (λ (l : List LogLine). said (mechs offered_names) ∷ l) t.are;
        told_are = t.told_are;
        good = (refl, t.good);
        ends = t.ends;
      }
