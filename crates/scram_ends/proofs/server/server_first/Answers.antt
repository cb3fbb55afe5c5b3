use Rattle.std.proofs.Common.{rules, ◌≡◌, ◌-◌, ℕ, List, [], ◌++◌, length, take, drop, sym, ◌∙◌, ap, subst, refl}
use Rattle.scram_text.specs.Messages.{server_first_text, IsServerFirst}
use Rattle.scram_text.specs.Written.{server_first_of}
use Rattle.scram_ends.specs.Entry.{entry_of}
use Rattle.scram_ends.specs.inner.TakenFirst.{ShowsOpening}
use Rattle.scram_ends.proofs.lemmas.Servers.{challenge_opens}
use Rattle.scram_ends.proofs.lemmas.Written.{slice_after_front_is_text}
use Rattle.scram_ends.proofs.server.server_first.Goals as goal

pub returns-in-Ok-write_challenge-clause-ok : goal.returns-in-Ok-write_challenge-clause-ok
returns-in-Ok-write_challenge-clause-ok g c =
    let taken = c.in-Ok.ensures.ok in
    let e = entry_of c.args.view.now in
    let nonce : c.as_slice-nonce.result.now ≡ c.in-Ok.taken.nonce.now ++ c.args.server_nonce.now = search rules in
    let client : c.in-Ok.taken.nonce.now ≡ taken.0.nonce = taken.2.nonce in
    let server_first : List ℕ =
    server_first_text (server_first_of (c.in-Ok.taken.nonce.now ++ c.args.server_nonce.now) e.salt e.count []) in
    let is_challenge : IsServerFirst server_first (server_first_of (c.in-Ok.taken.nonce.now ++ c.args.server_nonce.now) e.salt e.count []) =
    subst (λ (n : List ℕ). IsServerFirst (server_first_text (server_first_of n e.salt e.count []))
    (server_first_of n e.salt e.count [])) nonce c.in-Ok-write_challenge.ensures.is_message in
    let opens = challenge_opens e c.args.client_first.now c.args.server_nonce.now server_first
    (c.in-Ok.taken.nonce.now ++ c.args.server_nonce.now) taken.0 c.in-Ok.taken taken.1 taken.2 refl c.bytes.ensures.fits.at_least
    is_challenge in
    let written : c.write_challenge.new.out.items ≡ c.args.out.now.items ++ server_first =
    c.in-Ok-write_challenge.ensures.appended.0 ∙ ap
    (λ (n : List ℕ). c.args.out.now.items ++ server_first_text (server_first_of n e.salt e.count [])) nonce in
    let start : c.len-start.result ≡ length c.args.out.now.items = search rules in
    let whole : c.as_slice.result.now ≡ c.args.out.now.items ++ server_first = c.as_slice.ensures.value ∙ written in
    let slice : take (length c.as_slice.result.now - c.len-start.result) (drop c.len-start.result c.as_slice.result.now) ≡ server_first =
    slice_after_front_is_text c.as_slice.result.now c.args.out.now.items server_first c.len-start.result whole start in (
      server_first,
      written,
      record {
        first = taken.0;
        is_first = taken.1;
        is_challenge = subst (λ (n : List ℕ). IsServerFirst server_first
            (server_first_of (n ++ c.args.server_nonce.now) e.salt e.count [])) client is_challenge;
      },
      c.wait_for.ensures c.args.mechanism c.args.client_first.now server_first opens.0 opens.1
          (subst (λ (n : List ℕ). ShowsOpening c.in-Ok.taken n opens.0) (sym nonce) opens.2)
          (rw slice at (c.signing_for-signing.ensures opens.0.first opens.2.bare)),
    )
