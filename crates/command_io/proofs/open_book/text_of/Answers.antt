use Rattle.std.proofs.Common.{rules}
use Rattle.book_file.specs.Text.{IsRead}
use Rattle.command_io.proofs.lemmas.HeldFaults.{non_utf8_prevents_opening}
use Rattle.command_io.proofs.open_book.text_of.Goals as goal

pub returns-clause-err : goal.returns-clause-err
returns-clause-err g c =
    let read : IsRead g.R.File.Read.remaining c.in-Ok-Some.bytes.items = search rules in
    non_utf8_prevents_opening _ c.args.path.now _ _ c.from_utf8.result _ read
    (rw c.in-Ok-Some.field-0-is at c.from_utf8.ensures.succeeds) c.in-Err-from_utf8.is c.number.ensures
