use Rattle.std.proofs.Common.{◌≡◌, ◌≤◌, inl, inr, ℕ, List, [], ◌∷◌, length, sym, ◌∙◌, ap, subst, refl, arith}
use Rattle.std.proofs.lemmas.Option.{same_Some}
use Rattle.mac_core.specs.declared.mechanism.Mechanism.{Mechanism}
use Rattle.c_library.specs.Demands.{AreMet, IsFirstFault}
use Rattle.c_library.specs.Entries.{entry_in}
use Rattle.c_library.specs.Logins.{first_demands, first_fits}
use Rattle.c_library.specs.Numbers.{fault_number}
use Rattle.c_library.proofs.lemmas.Challenges.{one_challenge}
use Rattle.c_library.proofs.lemmas.Demands.{both_are_met, fault_stays_first}
use Rattle.c_library.proofs.server.scramotp_server_first.Goals as goal

pub returns-then-put-clause-answer : goal.returns-then-put-clause-answer
returns-then-put-clause-answer c = λ m is.
    let e = c.args.entry.now in
    let client_first = c.args.client_first.now in
    let nonce = c.args.server_nonce.now in
    let room = length c.args.out.now in
    let same : c.in-Some.mechanism ≡ m = same_Some c.in-Some.mechanism m (sym c.in-Some.is ∙ c.mechanism_of.ensures.every m is) in
    let text : c.as_slice.result.now ≡ c.in-Ok.text.items = c.as_slice.ensures.value in
    let put = rw text at (c.if-put.ensures.put) in
    let fits : (server_first : List ℕ) → _ → length server_first ≤ room = λ server_first challenge.
    let one = ap length (one_challenge (entry_in e []) client_first nonce server_first c.in-Ok.text.items challenge c.in-Ok.ensures.value) in
    omega (arith, one, put.0) in
    inl (
      both_are_met (first_demands m e client_first nonce) (first_fits e client_first nonce room ∷ [])
          (subst (λ (k : Mechanism). AreMet (first_demands k e client_first nonce)) same c.in-Ok.ensures.met) (fits, tt),
      (refl, record { server_first = c.in-Ok.text.items; is_challenge = c.in-Ok.ensures.value; is_put = put.1; is_len = put.2 }),
    )

pub returns-in-Err-clause-answer : goal.returns-in-Err-clause-answer
returns-in-Err-clause-answer c = λ m is.
    let e = c.args.entry.now in
    let client_first = c.args.client_first.now in
    let nonce = c.args.server_nonce.now in
    let same : c.in-Some.mechanism ≡ m = same_Some c.in-Some.mechanism m (sym c.in-Some.is ∙ c.mechanism_of.ensures.every m is) in
    let told = fault_number c.in-Err.fault in
    let fault = subst (λ (k : Mechanism). IsFirstFault (first_demands k e client_first nonce) told) same c.in-Err.ensures.fault in
    let first = fault_stays_first (first_demands m e client_first nonce) (first_fits e client_first nonce (length c.args.out.now) ∷ []) told fault in
    inr (rw c.number-in-Err.ensures first, (refl, refl))
