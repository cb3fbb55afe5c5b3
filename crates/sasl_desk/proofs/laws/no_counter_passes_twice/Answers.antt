use Rattle.sasl_desk.proofs.lemmas.halls.Changes.{no_counter_passes_twice}
use Rattle.sasl_desk.proofs.laws.no_counter_passes_twice.Goals as goal

pub returns : goal.returns
returns g c = no_counter_passes_twice c.has_one_book.ensures g.S.BookStore.facts g.S.BookStore.IsStored
