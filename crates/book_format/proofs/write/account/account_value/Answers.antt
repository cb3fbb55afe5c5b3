use Rattle.std.proofs.Common.{subst}
use Rattle.mac_core.specs.Mechanism.{digest_len_by}
use Rattle.mac_core.specs.declared.mechanism.Mechanism.TheVariants.{ScramSha1, ScramSha256}
use Rattle.book_format.specs.Account.{IsAccount}
use Rattle.book_format.specs.Names.{AreNames}
use Rattle.book_format.specs.Rows.{WritesItself}
use Rattle.book_format.specs.RowKinds.{table_type}
use Rattle.book_format.specs.Tables.{account_table}
use Rattle.book_format.proofs.lemmas.WritesItself.{account_writes_itself}
use Rattle.book_format.proofs.write.account.account_value.Goals as goal

pub returns-clause-itself : goal.returns-clause-itself
returns-clause-itself c =
    subst (λ a. IsAccount a → WritesItself (table_type account_table) a) c.account.view_is (λ fits.
    account_writes_itself _ fits (subst AreNames c.as_slice.ensures.value c.in_ok-names_value.ensures.plain)
    (c.in_ok-put_keys.ensures.itself (digest_len_by ScramSha1) fits.sha1)
    (c.in_ok-put_keys-2.ensures.itself (digest_len_by ScramSha256) fits.sha256) c.in_ok-put_token.ensures.itself)
