use Rattle.std.proofs.Common.{◌≤◌, length, lit≤, sym, subst}
use Rattle.mac_core.specs.Mechanism.{digest_len_by}
use Rattle.mac_core.specs.declared.mechanism.Mechanism.TheVariants.{ScramSha1, ScramSha256}
use Rattle.book_format.specs.Account.{AreKeys, max_names}
use Rattle.account_book.proofs.lemmas.Ranges.{insertion_keeps_ranges, fact_holds_for_some}
use Rattle.account_book.proofs.book.Book.enrol.Goals as goal

pub invariant_of-self-inside : goal.invariant_of-self-inside
invariant_of-self-inside c =
    record {
      count = c.self-inside.invariant.count;
      accounts = insertion_keeps_ranges c.insert.result _ _ _ _ _ c.insert.ensures.entries c.insert.ensures.err
          c.self-inside.invariant.accounts
          (record {
            sha1 = fact_holds_for_some (AreKeys (digest_len_by ScramSha1)) _ c.made_keys.ensures.range;
            sha256 = fact_holds_for_some (AreKeys (digest_len_by ScramSha256)) _ c.made_keys-2.ensures.range;
            names = subst (λ names. length names ≤ max_names) (sym c.new.ensures.items) (lit≤ tt);
          });
    }
