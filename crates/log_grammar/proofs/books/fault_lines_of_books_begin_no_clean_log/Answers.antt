use Rattle.log_grammar.proofs.lemmas.demands.FitBooks.{books_can_be_challenged}
use Rattle.log_grammar.proofs.lemmas.kinds.OneAnswer.{fault_lines_begin_no_clean_log}
use Rattle.log_grammar.proofs.books.fault_lines_of_books_begin_no_clean_log.Goals as goal

pub returns : goal.returns
returns c = λ book is. fault_lines_begin_no_clean_log _ (books_can_be_challenged book is)
