-- The book after the replies of a run is the one that an audit expects, and each counter that they used is spent in it.
use Rattle.std.proofs.Common.{ℕ, List, [], ◌∷◌, ◌++◌, reverse, sym, subst, append_assoc}
use Rattle.std.proofs.lemmas.Grind.{reverse_onto}
use Rattle.std.proofs.lemmas.List.{reverse-append, reverse-reverse}
use Rattle.account_book.specs.{BookFields}
use Rattle.account_book.specs.AccountAttempt.{AccountAttempt}
use Rattle.account_book.specs.Tokens.{IsBookAttempt, IsBookAfterAttempts}
use Rattle.account_book.specs.Spent.{spent_by_all, AreSpent, spent_by}
use Rattle.log_grammar.specs.Books.{accounts_in}
use Rattle.sasl_log.specs.inner.Tokens.{IsBookAfter}
use Rattle.sasl_log.proofs.lemmas.audits.AuditedLineByLine.{book_follows_no_replies}
use Rattle.sasl_log.proofs.lemmas.steps.Tokens.{book_follows_attempt}
use Rattle.sasl_desk.proofs.lemmas.runs.Spent.{spent_stays_spent}

module _ (start : BookFields) where
  -- the book after replies, of which the latest is given first, is the one that is due after them
  book_with_is_book_after : (before : List AccountAttempt) (book : BookFields) → IsBookAfterAttempts start before book
      → IsBookAfter (accounts_in start) (reverse before) book
  book_with_is_book_after [] book is = subst (λ (b : BookFields). IsBookAfter (accounts_in start) [] b) (sym is)
      (book_follows_no_replies start)
  book_with_is_book_after (t ∷ before) book (old, with_old, one) =
      subst (λ (l : List AccountAttempt). IsBookAfter (accounts_in start) l book) (sym (reverse_onto before t []))
      (book_follows_attempt (accounts_in start) (reverse before) old t book one (book_with_is_book_after before old with_old))

  -- the book after replies, given in their order, is the one that is due after them
  pub book_after_told : (told : List AccountAttempt) (book : BookFields) → IsBookAfterAttempts start (reverse told) book
      → IsBookAfter (accounts_in start) told book
  book_after_told told book is =
      subst (λ (l : List AccountAttempt). IsBookAfter (accounts_in start) l book) (reverse-reverse told)
      (book_with_is_book_after (reverse told) book is)

-- the book after one reply more is the book after all of them
pub reply_adds_to_book : (start old new : BookFields) (told : List AccountAttempt) (t : AccountAttempt)
    → IsBookAfterAttempts start (reverse told) old → IsBookAttempt old t new → IsBookAfterAttempts start (reverse (told ++ t ∷ [])) new
reply_adds_to_book start old new told t before one =
    subst (λ (l : List AccountAttempt). IsBookAfterAttempts start l new) (sym (reverse-append told (t ∷ []))) (old, before, one)

-- the law: what was spent, and what replies used, is spent in the book after them
pub replies_spend_counters : (start : BookFields) (latest_first : List AccountAttempt) (last : BookFields)
    (ps : List (List ℕ × ℕ))
    → IsBookAfterAttempts start latest_first last → AreSpent ps start → AreSpent (spent_by_all latest_first ++ ps) last
replies_spend_counters start [] last ps same spent = subst (λ (b : BookFields). AreSpent ps b) (sym same) spent
replies_spend_counters start (t ∷ before) last ps (old, earlier, one) spent =
    subst (λ (l : List (List ℕ × ℕ)). AreSpent l last) (sym (append_assoc (spent_by t) (spent_by_all before) ps))
    (spent_stays_spent old last t (spent_by_all before ++ ps) one (replies_spend_counters start before old ps earlier spent))
