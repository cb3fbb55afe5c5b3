use Rattle.log_grammar.proofs.lemmas.demands.FitBooks.{books_can_be_challenged}
use Rattle.log_grammar.proofs.lemmas.kinds.OneAnswer.{fronts_are_what_begins_clean_logs}
use Rattle.log_grammar.proofs.books.fronts_of_books_are_what_begins_clean_logs.Goals as goal

pub returns : goal.returns
returns c = λ book is. fronts_are_what_begins_clean_logs _ (books_can_be_challenged book is)
