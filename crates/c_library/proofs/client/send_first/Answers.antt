use Rattle.std.proofs.Common.{◌≡◌, ◌≤◌, inl, [], ◌∷◌, length, ◌∙◌, refl, arith}
use Rattle.scram_ends.specs.Honest.{max_honest_first_len}
use Rattle.c_library.specs.Clients.{client_demands, started_in}
use Rattle.c_library.specs.Demands.{demand}
use Rattle.c_library.proofs.lemmas.Demands.{both_are_met}
use Rattle.c_library.proofs.client.send_first.Goals as goal

pub returns : goal.returns
returns c =
    let client = c.args.client.now in
    let (client_first, stands) = c.in-Ok.ensures.value in
    let text : c.as_slice.result.now ≡ client_first =
    c.as_slice.ensures.value ∙ c.message.ensures (started_in c.args.mechanism client client_first) stands in
    let put = rw text at (c.if-not-put.ensures.put) in
    inl (
      both_are_met (client_demands client) (demand 93 (max_honest_first_len ≤ length c.args.out.now) ∷ []) c.in-Ok.ensures.met
          (omega (arith, c.if-out-lt-MAX_FIRST_LEN.false), tt),
      (
        refl,
        record {
          client_first = client_first;
          first = stands.first;
          is_first = stands.is_first;
          is_put = put.1;
          is_len = put.2;
        },
      ),
    )
