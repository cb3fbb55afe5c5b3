use Rattle.book_format.proofs.lemmas.Laws.{book_is_not_at_fault}
use Rattle.book_format.proofs.laws.book_is_not_at_fault.Goals as goal

pub returns : goal.returns
returns c = book_is_not_at_fault
