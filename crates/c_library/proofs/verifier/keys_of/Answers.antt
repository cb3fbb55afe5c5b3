use Rattle.std.proofs.Common.{◌++◌, refl}
use Rattle.std.specs.Prelude.{decimal}
use Rattle.scram_text.specs.Base64Field.{base64}
use Rattle.c_library.specs.Verifiers.{scheme}
use Rattle.c_library.proofs.lemmas.Verifiers.{key_is_tag, rest_is_fields, verifier_is_cut}
use Rattle.c_library.proofs.verifier.keys_of.Goals as goal

pub returns-in_err-fields-clause-every : goal.returns-in_err-fields-clause-every
returns-in_err-fields-clause-every c = λ count salt stored server is.
    let s = c.args.spelling in
    let m = c.args.mechanism in
    let text = c.args.text.now in
    let rest = rest_is_fields s m text count salt stored server is in
    let are = verifier_is_cut (scheme s m ++ text) s m count salt stored server is in
    absurd (c.in_err-fields.ensures (decimal count) (base64 salt) (base64 stored) (base64 server) are rest)

pub returns-in_err-salt-clause-every : goal.returns-in_err-salt-clause-every
returns-in_err-salt-clause-every c = λ count salt stored server is.
    let s = c.args.spelling in
    let m = c.args.mechanism in
    let text = c.args.text.now in
    let rest = rest_is_fields s m text count salt stored server is in
    let are = verifier_is_cut (scheme s m ++ text) s m count salt stored server is in
    let found = c.in_ok-fields.ensures (decimal count) (base64 salt) (base64 stored) (base64 server) are rest in
    absurd (c.in_err-salt.ensures.every salt count is.is_salt is.is_count found.1 found.0)

pub returns-in_err-stored-clause-every : goal.returns-in_err-stored-clause-every
returns-in_err-stored-clause-every c = λ count salt stored server is.
    let s = c.args.spelling in
    let m = c.args.mechanism in
    let text = c.args.text.now in
    let rest = rest_is_fields s m text count salt stored server is in
    let are = verifier_is_cut (scheme s m ++ text) s m count salt stored server is in
    let found = c.in_ok-fields.ensures (decimal count) (base64 salt) (base64 stored) (base64 server) are rest in
    absurd (c.in_err-stored.ensures stored (key_is_tag m stored is.is_stored.0) found.2)

pub returns-in_err-server-clause-every : goal.returns-in_err-server-clause-every
returns-in_err-server-clause-every c = λ count salt stored server is.
    let s = c.args.spelling in
    let m = c.args.mechanism in
    let text = c.args.text.now in
    let rest = rest_is_fields s m text count salt stored server is in
    let are = verifier_is_cut (scheme s m ++ text) s m count salt stored server is in
    let found = c.in_ok-fields.ensures (decimal count) (base64 salt) (base64 stored) (base64 server) are rest in
    absurd (c.in_err-server.ensures server (key_is_tag m server is.is_server.0) found.3)

pub returns-clause-every : goal.returns-clause-every
returns-clause-every c = λ count salt stored server is.
    let s = c.args.spelling in
    let m = c.args.mechanism in
    let text = c.args.text.now in
    let rest = rest_is_fields s m text count salt stored server is in
    let are = verifier_is_cut (scheme s m ++ text) s m count salt stored server is in
    let found = c.in_ok-fields.ensures (decimal count) (base64 salt) (base64 stored) (base64 server) are rest in
    let of = c.in_ok-salt.ensures.every salt count is.is_salt is.is_count found.1 found.0 in
    record {
      is_spelling = refl;
      is_mechanism = refl;
      is_count = of.1;
      is_salt = of.0;
      is_stored = c.in_ok-stored.ensures stored (key_is_tag m stored is.is_stored.0) found.2;
      is_server = c.in_ok-server.ensures server (key_is_tag m server is.is_server.0) found.3;
    }
