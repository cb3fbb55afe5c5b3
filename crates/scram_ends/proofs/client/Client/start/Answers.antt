use Rattle.std.proofs.Common.{◌≡◌, ℕ, List, [], length, length-append, refl, sym, ◌∙◌, ap, subst, arith, rules}
use Rattle.std.specs.Option.{option_copied}
use Rattle.std.specs.declared.result.Result.TheVariants.{Err}
use Rattle.std.proofs.lemmas.Result.{err_from_is_err_and}
use Rattle.scram_text.specs.Messages.{IsClientFirst, client_first_text}
use Rattle.scram_text.specs.Written.{client_first_of}
use Rattle.scram_text.specs.declared.client_first.Flag.TheVariants.{NoBinding}
use Rattle.scram_text.specs.declared.fault.WriteFault.{WriteFault}
use Rattle.scram_ends.proofs.lemmas.client_messages.ClientFirst.{length-client_first_text, client_first_fault_is_memory, written_first_is_honest}
use Rattle.scram_ends.proofs.lemmas.Written.{slice_after_front_is_text}
use Rattle.scram_ends.proofs.client.Client.start.Goals as goal

pub returns-in_err-header_len-clause-no_memory : goal.returns-in_err-header_len-clause-no_memory
returns-in_err-header_len-clause-no_memory g c =
    let e = err_from_is_err_and c.from_residual.result c.from_residual.ensures.1 in
    let authzid = option_copied c.args.authzid in
    let first = client_first_of NoBinding authzid c.args.name.now c.args.nonce.now [] in
    let full = client_first_fault_is_memory c.write_header_and_bare.result _ authzid c.args.name.now c.args.nonce.now
    c.in_err-header_len.was c.law_of_names.ensures.authzid c.law_of_names.ensures.name c.law_of_names.ensures.nonce
    c.write_header_and_bare.ensures.written.unwritable c.write_header_and_bare.ensures.written.over_limit in
    let room = c.write_header_and_bare.ensures.written.no_memory (c.in_err-header_len.was ∙ ap (λ (x : WriteFault). Err x) full) in
    rw (e.1, e.2) (
      full,
      (
        client_first_text first,
        first,
        written_first_is_honest authzid c.args.name.now c.args.nonce.now
            (client_first_text first) c.law_of_names.ensures.authzid c.law_of_names.ensures.name room.0,
        room.1,
      ),
    )

pub returns-clause-most_bytes : goal.returns-clause-most_bytes
returns-clause-most_bytes g c =
    let authzid = option_copied c.args.authzid in
    let text = client_first_text (client_first_of NoBinding authzid c.args.name.now c.args.nonce.now []) in
    omega (
      arith,
      ap length c.in_ok-header_len.ensures.written.appended.0,
      length-append c.args.out.now.items text,
      length-client_first_text authzid c.args.name.now c.args.nonce.now c.law_of_names.ensures.authzid c.law_of_names.ensures.name
          c.law_of_names.ensures.nonce,
    )

pub cut_header-header-requires : goal.cut_header-header-requires
cut_header-header-requires g c =
    let authzid = option_copied c.args.authzid in
    let first = client_first_of NoBinding authzid c.args.name.now c.args.nonce.now [] in
    let written = c.in_ok-header_len.ensures.written in
    let start : c.len-start.result ≡ length c.args.out.now.items = search rules in
    let message = slice_after_front_is_text c.deref.result.now c.args.out.now.items (client_first_text first) c.len-start.result
    (c.deref.ensures.value ∙ written.appended.0) start in
    let honest = written_first_is_honest authzid c.args.name.now c.args.nonce.now _
    c.law_of_names.ensures.authzid c.law_of_names.ensures.name
    (subst (λ (text : List ℕ). IsClientFirst text first) (sym message) written.is_message) in
    (c.args.name.now, authzid, c.args.nonce.now, first, honest, c.in_ok-header_len.ensures.header)

pub returns-clause-ok : goal.returns-clause-ok
returns-clause-ok g c =
    let authzid = option_copied c.args.authzid in
    let first = client_first_of NoBinding authzid c.args.name.now c.args.nonce.now [] in
    let written = c.in_ok-header_len.ensures.written in
    let start : c.len-start.result ≡ length c.args.out.now.items = search rules in
    let message = slice_after_front_is_text c.deref.result.now c.args.out.now.items (client_first_text first) c.len-start.result
    (c.deref.ensures.value ∙ written.appended.0) start in
    let cut = c.cut_header-header.ensures.cut first message c.in_ok-header_len.ensures.header in (
      client_first_text first,
      written.appended.0,
      record {
        first = first;
        is_first = written_first_is_honest authzid c.args.name.now c.args.nonce.now (client_first_text first)
            c.law_of_names.ensures.authzid c.law_of_names.ensures.name written.is_message;
        mechanism = refl;
        limits = refl;
        bare = cut.1;
        header = cut.0;
        nonce = c.copy_of.ensures ∙ c.bytes.ensures.value;
      },
    )

pub invariant_of-result : goal.invariant_of-result
invariant_of-result g c = record { has_header = c.cut_header-header.ensures.some }
