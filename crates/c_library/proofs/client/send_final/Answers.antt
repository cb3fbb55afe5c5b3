use Rattle.std.proofs.Common.{◌≡◌, ◌≤◌, inl, inr, ℕ, List, [], ◌∷◌, length, ◌∙◌, ap, subst, refl, arith, rules}
use Rattle.scram_text.specs.Class.{IsPassword}
use Rattle.scram_ends.specs.Client.{IsAnswer}
use Rattle.scram_ends.specs.Honest.{max_honest_final_len}
use Rattle.scram_ends.proofs.lemmas.HonestLogins.{digest_length_is_in_range, honest_final_is_short}
use Rattle.c_library.specs.Clients.{answered_in, answers, client_demands, started_in}
use Rattle.c_library.specs.Demands.{demand}
use Rattle.c_library.proofs.lemmas.Clients.{expected_has_length, padded_has_signature}
use Rattle.c_library.proofs.lemmas.Demands.{both_are_met, fault_after_met}
use Rattle.c_library.proofs.client.send_final.Goals as goal

pub returns-in-Err-answer : goal.returns-in-Err-answer
returns-in-Err-answer c =
    let client = c.args.client.now in
    let (client_first, stands) = c.in-Ok.ensures.value in
    let is_password : IsPassword c.args.password.now = search rules in
    let fault = c.in-Err-answer.ensures.err (started_in c.args.mechanism client client_first) stands in
    inr (
      fault_after_met (client_demands client)
          (demand 91 (IsPassword c.args.password.now) ∷ demand 93 (max_honest_final_len ≤ length c.args.out.now)
          ∷ answers client c.args.server_first.now ∷ []) _ c.in-Ok.ensures.met
          (inr (
            is_password,
            inr (omega (arith, c.if-out-lt-MAX_FINAL_LEN.false), inl (c.in-Err-answer.fault, c.number-in-Err-answer.ensures, fault)),
          )),
      (refl, refl, refl),
    )

pub client_final_of-requires : goal.client_final_of-requires
client_final_of-requires c =
    let (client_first, stands) = c.in-Ok.ensures.value in
    let (client_final, is) = c.in-Ok-answer.ensures.ok (started_in c.args.mechanism c.args.client.now client_first) stands in
    (answered_in c.args.mechanism c.args.client.now c.in-Some.password client_first c.args.server_first.now client_final, is)

pub unreachable-requires : goal.unreachable-requires
unreachable-requires c =
    let (client_first, stands) = c.in-Ok.ensures.value in
    let (client_final, is) = c.in-Ok-answer.ensures.ok (started_in c.args.mechanism c.args.client.now client_first) stands in
    let login = answered_in c.args.mechanism c.args.client.now c.in-Some.password client_first c.args.server_first.now client_final in
    let text : c.as_slice.result.now ≡ client_final = c.as_slice.ensures.value ∙ c.client_final_of.ensures login is in
    let not = c.if-not-put.ensures.not in
    omega (arith, not.0, ap length text, honest_final_is_short login is.honest, c.if-out-lt-MAX_FINAL_LEN.false)

pub padded-requires : goal.padded-requires
padded-requires c =
    let (client_first, stands) = c.in-Ok.ensures.value in
    let (client_final, is) = c.in-Ok-answer.ensures.ok (started_in c.args.mechanism c.args.client.now client_first) stands in
    let login = answered_in c.args.mechanism c.args.client.now c.in-Some.password client_first c.args.server_first.now client_final in (
      omega arith,
      omega (
        arith,
        ap length c.as_slice-2.ensures.value,
        expected_has_length c.in-Ok-answer.answer login is,
        (digest_length_is_in_range c.args.mechanism).1,
      ),
    )

pub returns : goal.returns
returns c =
    let m = c.args.mechanism in
    let client = c.args.client.now in
    let server_first = c.args.server_first.now in
    let password = c.args.password.now in
    let answer = c.in-Ok-answer.answer in
    let is_password : IsPassword password = search rules in
    let same : c.in-Some.password ≡ password = search rules in
    let (client_first, stands) = c.in-Ok.ensures.value in
    let (client_final, typed) = c.in-Ok-answer.ensures.ok (started_in m client client_first) stands in
    let login = answered_in m client password client_first server_first client_final in
    let is = subst (λ (p : List ℕ). IsAnswer answer (answered_in m client p client_first server_first client_final)) same typed in
    let text : c.as_slice.result.now ≡ client_final = c.as_slice.ensures.value ∙ c.client_final_of.ensures login is in
    let put = rw text at (c.if-not-put.ensures.put) in
    let long = ap length c.as_slice-2.ensures.value ∙ expected_has_length answer login is in
    inl (
      both_are_met (client_demands client)
          (demand 91 (IsPassword password) ∷ demand 93 (max_honest_final_len ≤ length c.args.out.now) ∷ answers client server_first ∷ [])
          c.in-Ok.ensures.met (
            is_password,
            (
              omega (arith, c.if-out-lt-MAX_FINAL_LEN.false),
              (c.in-Ok-answer.ensures.answerable (started_in m client client_first) stands, tt),
            ),
          ),
      (
        refl,
        record {
          client_first = client_first;
          client_final = client_final;
          honest = is.honest;
          is_put = put.1;
          is_len = put.2;
          is_signature = padded_has_signature m _ _ c.padded.ensures long ∙ c.as_slice-2.ensures.value ∙ is.expected;
        },
      ),
    )
