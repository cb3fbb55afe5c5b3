-- Main lemma, `each_account_has_its_history` (EachAccount): if all moments are in range, all replies are due if and only if those to each
-- account are a history of its token, or of no token.
-- Cited by session_laws, and by the laws `each_account_has_its_history` and `logs_have_legal_histories`. Read in this order:
-- RepliesDue: due replies, cut into earlier and later ones.
-- EachAccount: a reply is judged only by the earlier attempts of its account.
-- Challenges: there is a challenge to each client-first message that is taken up.
-- StillChallenged: after a challenge, what was demanded of it still holds.
-- DemandsDecided: it is decidable whether a challenge, an outcome or a reply is the one demanded.
-- FitBooks: with an account book, a challenge can be written for each name.
pub mod RepliesDue
pub mod EachAccount
pub mod Challenges
pub mod StillChallenged
pub mod DemandsDecided
pub mod FitBooks
