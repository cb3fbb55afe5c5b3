use Rattle.std.proofs.Common.{inl, refl}
use Rattle.account_commands.proofs.enrol.read_or_new.Goals as goal

-- the book is the one that was read; no random byte was needed
pub returns-in-Some-clause-book : goal.returns-in-Some-clause-book
returns-in-Some-clause-book g c = inl ((_, rw c.in-Some.is at c.requires), refl)
