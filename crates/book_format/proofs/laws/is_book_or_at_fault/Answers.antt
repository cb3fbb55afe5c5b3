use Rattle.book_format.proofs.lemmas.Laws.{is_book_or_at_fault}
use Rattle.book_format.proofs.laws.is_book_or_at_fault.Goals as goal

pub returns : goal.returns
returns c = is_book_or_at_fault
