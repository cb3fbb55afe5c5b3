use Rattle.std.proofs.Common.{arith}
use Rattle.book_file.proofs.lemmas.WholeReads.{all_were_read}
use Rattle.book_file.proofs.file.read_all.Goals as goal

pub returns-then-len-le-MAX_BOOK_LEN-clause-all : goal.returns-then-len-le-MAX_BOOK_LEN-clause-all
returns-then-len-le-MAX_BOOK_LEN-clause-all g c =
    all_were_read c.take.result.limit (g.F.Read.remaining c.args.file.now) c.new-bytes.result.items c.read_to_end.new.buf.items
    c.new-bytes.ensures.items (rw c.take.ensures.inner at c.in_ok-read_to_end.ensures.bytes)
    (omega (arith, c.take.ensures.limit, c.if-len-le-MAX_BOOK_LEN.true))
