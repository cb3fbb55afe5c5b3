use Rattle.sasl_desk.proofs.lemmas.runs.BooksAfterReplies.{replies_spend_counters}
use Rattle.sasl_desk.proofs.laws.replies_spend_counters.Goals as goal

pub returns : goal.returns
returns c = replies_spend_counters
