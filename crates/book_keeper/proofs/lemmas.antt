-- Main lemma, `saving_reply_is_due` (Judged): if an account's token gives a reply other than LOCKED, a reply that needs a save is due.
-- Cited by `Keeper::judge`. Read in this order:
-- Changes: an addition or a new token, undone, gives back the book; `Keeper::enrol` and `change_token` cite it.
-- Judged: an attempt that the token judged, by its reply.
pub mod Changes
pub mod Judged
