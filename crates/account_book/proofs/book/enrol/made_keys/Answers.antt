use Rattle.std.proofs.Common.{◌∙◌, arith, sym, subst}
use Rattle.hex.specs.Hex.{IsBytes}
use Rattle.scram_text.specs.Class.{IsSalt}
use Rattle.account_book.proofs.book.enrol.made_keys.Goals as goal

pub returns-clause-range : goal.returns-clause-range
returns-clause-range c =
    let salt = subst IsSalt (sym c.copy.ensures) c.bytes-bytes.ensures.fits in
    record {
      salt = record {
        at_least = salt.at_least;
        at_most = salt.at_most;
        each = subst IsBytes (c.bytes-bytes.ensures.value ∙ sym c.copy.ensures) c.law_of_bytes.ensures;
      };
      count = record { at_least = c.requires; at_most = omega (arith, c.ranges.count.fits) };
      stored = c.scram_keys.ensures.stored_len;
      server = c.scram_keys.ensures.server_len;
    }
