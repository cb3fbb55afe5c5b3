use Rattle.std.proofs.Common.{sym, ◌∙◌, arith}
use Rattle.std.proofs.lemmas.Bool.Decides.{Decides-eqb}
use Rattle.std.proofs.lemmas.Slice.Eq.{slice_eq-Decides}
use Rattle.base64.specs.GeneralPurpose.{IsBytes}
use Rattle.c_library.proofs.lemmas.Verifiers.{bytes_are_key}
use Rattle.c_library.proofs.verifier.read.Goals as goal

pub returns-then-eq-clause-some : goal.returns-then-eq-clause-some
returns-then-eq-clause-some c =
    let found = c.in_ok-found.found in
    let compared = slice_eq-Decides Decides-eqb _ _ c.eq.result c.eq.ensures in
    let stored : IsBytes found.stored.items = rw c.as_slice.ensures.value at c.law_of_bytes.ensures in
    let server : IsBytes found.server.items = rw c.as_slice-2.ensures.value at c.law_of_bytes-2.ensures in
    record {
      spelled = sym (compared.0 c.if-eq.true) ∙ c.as_slice-3.ensures.value ∙ c.verifier_text-spelled.ensures;
      is_count = c.in_ok-found.ensures.class.0;
      is_salt = c.in_ok-found.ensures.class.1;
      is_stored = bytes_are_key found.mechanism found.stored.items stored
          (omega (arith, c.if-len.false, c.len.ensures.value, c.digest_len-len.ensures));
      is_server = bytes_are_key found.mechanism found.server.items server
          (omega (arith, c.if-len-2.false, c.len-else-len.ensures.value, c.digest_len-len.ensures));
    }
