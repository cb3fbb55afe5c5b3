-- Main lemmas, `each_offer_is_due`, `each_challenge_is_due`, `each_refusal_is_due` and `each_reply_is_due` (ServerLines): such a line may
-- stand if and only if it is the one that is due at its place.
-- Cited by the laws of these names in src/version_one/outcomes.rt; reply_laws cites `each_reply_is_due`. Read in this order:
-- LeadingLines: lines that lead to a place, of a log of version 1 or of a number of version 2.
-- QuietLines: a line that is no reply leaves the replies of a log as they are.
-- PlaceMessages: the messages that a place has are those of the last lines that lead to it.
-- ServerLines: where each line of the server may stand.
pub mod LeadingLines
pub mod QuietLines
pub mod PlaceMessages
pub mod ServerLines
