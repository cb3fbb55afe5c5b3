use Rattle.std.proofs.Common.{◌≡◌, ◌≤◌, false, Some, Err, sym, ap, ◌∙◌, subst, string_bytes, arith}
use Rattle.std.proofs.lemmas.Str.{IsUtf8-string_bytes}
use Rattle.std.proofs.lemmas.Bool.{false≢true}
use Rattle.toml.specs.Data.{members_depth, members_have_valid_dates}
use Rattle.toml.specs.Parse.{parse_document}
use Rattle.toml.specs.Text.{IsDocumentText}
use Rattle.book_format.specs.Written.{book_tree}
use Rattle.book_format.proofs.lemmas.Depths.{book_is_flat}
use Rattle.book_format.proofs.contents.Contents.write.Goals as goal

pub returns-in-Ok : goal.returns-in-Ok
returns-in-Ok c =
    let flat = book_is_flat c.args.self.now in
    let same = c.in_ok-book_table.ensures.tree in
    record {
      is_text = record {
        tree = book_tree c.args.self.now;
        utf8 = IsUtf8-string_bytes c.in-Ok.text;
        parsed = subst (λ ms. members_depth ms ≤ 80 → parse_document (string_bytes c.in-Ok.text) ≡ Some ms) same c.in-Ok.ensures.reads_back
            (omega (arith, flat.0));
        of_book = c.in_ok-book_table.ensures.stands;
      };
      is_document = subst (λ ms. IsDocumentText false ms (string_bytes c.in-Ok.text)) same c.in-Ok.ensures.text;
    }

pub unreachable-requires : goal.unreachable-requires
unreachable-requires c =
    let faulty = c.table_to_string.ensures.dates.0 (c.in-Err-DateInvalid.is ∙ ap Err c.in-Err-DateInvalid.field-0-is) in
    false≢true (sym faulty ∙ ap members_have_valid_dates c.in_ok-book_table.ensures.tree ∙ (book_is_flat c.args.self.now).1)
