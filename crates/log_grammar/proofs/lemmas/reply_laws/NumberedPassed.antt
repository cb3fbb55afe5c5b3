-- Codes that passed in a log of version 2.
use Rattle.std.proofs.Common.{◌≡◌, inl, inr, ℕ, List, [], ◌∷◌, ◌++◌, reverse, refl, sym, ◌∙◌, ap, subst, append-nil, append_assoc}
use Rattle.otp_core.specs.Attempt.{CodeTexts, used_in}
use Rattle.account_book.specs.AccountAttempt.{AccountAttempt}
use Rattle.log_grammar.specs.Lines.{LogLine}
use Rattle.log_grammar.specs.Places.{Place, waits_code, got_code}
use Rattle.log_grammar.specs.Demands.{Demands, attempts_of, demands, HaveDueReplies}
use Rattle.log_grammar.specs.state_machine.Steps.{told_at}
use Rattle.log_grammar.specs.laws.Replies.{pass_line, AreRising}
use Rattle.log_grammar.specs.Numbered.{Numbered, numbered, IsNumberedLogUpTo}
use Rattle.log_grammar.specs.state_machine.NumberedSteps.{IsVisitTransition}
use Rattle.log_grammar.specs.laws.NumberedReplies.{EachNumberedPassIsACode, NumberedCountersRise, NoNumberedCounterIsUsedTwice}
use Rattle.log_grammar.proofs.lemmas.state_machine.PlaceBefore.{challenge_has_one_account}
use Rattle.log_grammar.proofs.lemmas.many_sessions.WithoutLast.{numbered_log_has_last_transition}
use Rattle.log_grammar.proofs.lemmas.many_sessions.OneReading.{numbered_lines_have_one_reading, front_told_comes_first}
use Rattle.log_grammar.proofs.lemmas.reply_laws.Passed.{later_pass_is_greater, due_pass_fits_token}
use Rattle.log_grammar.proofs.lemmas.reply_laws.UsedCounters.{replies_keep_counters_rising}

-- a PASS stands only while one or two codes wait for their reply
pass_follows_code : (d : Demands) (place next : Place) (moment counter : ℕ) → IsVisitTransition d place (pass_line moment counter) next
    → (account : List ℕ) × (sent : CodeTexts) × (place ≡ got_code account sent) × (next ≡ waits_code account)
pass_follows_code d place next moment counter (inr busy) = absurd (cc busy.1)
pass_follows_code d (got_code account sent) next moment counter (inl goes) = (account, sent, refl, goes)
pass_follows_code d place next moment counter (inl goes) = absurd goes

-- the law: PASS stands under a number only after the code of its counter, which could pass then, or after two codes in a row of which the
-- second is its counter's
pub each_numbered_pass_is_a_code : EachNumberedPassIsACode
each_numbered_pass_is_a_code limit accounts log n moment counter places told s =
    let b = numbered_log_has_last_transition limit (demands accounts) log n (pass_line moment counter) places told s in
    let (account, sent, at, next) = pass_follows_code (demands accounts) (b.before n) (places n) moment counter b.goes.goes in
    let due = subst (λ (p : Place). HaveDueReplies (demands accounts) (reverse b.told) (told_at p (pass_line moment counter))) at
    b.goes.due in
    let (token, has, fits) =
    due_pass_fits_token (accounts.token account) (attempts_of account (reverse b.told)) moment counter sent due.0 in
    record {
      account = account;
      sent = sent;
      places = b.before;
      told = b.told;
      token = token;
      after = b.spells;
      waits = at;
      has_token = has;
      fits = fits;
      is_next = next;
    }

-- the law: of two passes of one account in a log of version 2, under any numbers, the later has the greater counter
pub numbered_counters_rise : NumberedCountersRise
numbered_counters_rise limit accounts log more account n moment counter m at greater places after told all s at_n longer
    at_m =
    let line = pass_line moment counter in
    let first = log ++ numbered n line ∷ [] in
    let one = numbered_log_has_last_transition limit (demands accounts) log n line places told s in
    let (mine, sent, was, next) = pass_follows_code (demands accounts) (one.before n) (places n) moment counter one.goes.goes in
    let split = sym (append_assoc first more (numbered m (pass_line at greater) ∷ [])) in
    let two = each_numbered_pass_is_a_code limit accounts (first ++ more) m at greater after all
    (subst (λ (l : List (Numbered LogLine)). IsNumberedLogUpTo limit (demands accounts) l after all) split longer) in
    let f = front_told_comes_first limit (demands accounts) first more two.places two.told two.after in
    let same = (numbered_lines_have_one_reading limit (demands accounts) (challenge_has_one_account accounts)
    first f.places places f.earlier told f.spells s).1 in
    let told_here = one.told_are ∙ ap (λ (p : Place). one.told ++ told_at p line) was in
    let told_are = f.told_are ∙ ap (λ (l : List AccountAttempt). l ++ f.rest) (same ∙ told_here) in
    let whose : mine ≡ two.account = cc (sym next ∙ at_n ∙ sym at_m ∙ two.is_next) in
    later_pass_is_greater two.token two.account two.sent two.told at greater two.fits mine moment counter sent one.told f.rest whose
    told_are

-- the law: the counters that an account's codes use in a log of version 2 rise, so that none is used twice
pub no_numbered_counter_is_used_twice : NoNumberedCounterIsUsedTwice
no_numbered_counter_is_used_twice limit accounts log places told account s =
    subst (λ (l : List AccountAttempt). AreRising (used_in (attempts_of account l))) (append-nil (reverse told))
    (replies_keep_counters_rising accounts account [] told s.replies tt)
