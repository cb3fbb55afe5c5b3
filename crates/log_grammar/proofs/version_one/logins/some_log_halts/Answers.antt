use Rattle.std.specs.Prelude.{[], ◌∷◌, ◌++◌, codes}
use Rattle.mac_core.specs.Mechanism.{name_of}
use Rattle.otp_core.specs.Attempt.{one_text}
use Rattle.log_grammar.specs.Lines.{header_one, heard, code}
use Rattle.log_grammar.specs.laws.Logins.{login_session}
use Rattle.log_grammar.proofs.lemmas.login_laws.PasswordLogins.{passwords_log_in, zero_is_code_word}
use Rattle.log_grammar.proofs.lemmas.login_laws.CleanLogins.{logins_may_halt}
use Rattle.log_grammar.proofs.version_one.logins.some_log_halts.Goals as goal

pub returns : goal.returns
returns c = λ accounts m name password fit plain has.
    let (exchange, login) = passwords_log_in accounts m name password fit plain has in (
      header_one ∷ login_session (name_of m) exchange ++ heard (code (codes "0"))
          ∷ [],
      logins_may_halt accounts (name_of m) name exchange (one_text (codes "0")) login zero_is_code_word,
    )
