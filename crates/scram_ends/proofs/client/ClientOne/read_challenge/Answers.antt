use Rattle.std.proofs.Common.{sym, ◌∙◌, inl, inr, refl, arith}
use Rattle.std.specs.declared.option.Option.TheVariants.{None}
use Rattle.std.proofs.lemmas.Slice.Eq.{strip_prefix_is}
use Rattle.std.proofs.lemmas.Bool.Decides.{Decides-eqb}
use Rattle.scram_text.proofs.lemmas.FirstUnmet.{found_is_first}
use Rattle.scram_ends.specs.Client.{challenge_faults_in_order, AsksOfChallenge}
use Rattle.scram_ends.specs.declared.client.ClientFault.TheVariants.{NonceNotMine, NonceNotLonger, CountOutside}
use Rattle.scram_ends.proofs.lemmas.Challenges.{nonce_begins_otherwise, stripped_nonce_begins_with_clients, nonce_is_not_longer, nonce_is_longer}
use Rattle.scram_ends.proofs.client.ClientOne.read_challenge.Goals.{then-challenge-self-via-then-challenge-self}
use Rattle.scram_ends.proofs.client.ClientOne.read_challenge.Goals.{then-challenge-self-via-else-challenge-self+then-self-challenge}
use Rattle.scram_ends.proofs.client.ClientOne.read_challenge.Goals as goal

pub returns-in_default-clause-err : goal.returns-in_default-clause-err
returns-in_default-clause-err c =
    let self = c.args.self.now in
    let found = c.in_ok-challenge.ensures.found in (
      found.0,
      found.1,
      found_is_first (λ row. AsksOfChallenge row self.limits self.nonce.items found.0) challenge_faults_in_order NonceNotMine (inr (
        sym found.2.mandatory ∙ c.if-challenge.false,
        inl (
          refl,
          λ mine. nonce_begins_otherwise self.nonce.items found.0.nonce _ _ found.2.nonce c.as_slice.ensures.value
              (strip_prefix_is Decides-eqb c.in_ok-challenge.challenge.nonce.now c.as_slice.result.now None c.in_default.ensures.cases)
              mine.0 mine.1,
        ),
      )),
    )

pub returns-then-is_empty-clause-err : goal.returns-then-is_empty-clause-err
returns-then-is_empty-clause-err c =
    let self = c.args.self.now in
    let found = c.in_ok-challenge.ensures.found in
    let mine = stripped_nonce_begins_with_clients c.in-Some.more found.2.nonce c.as_slice.ensures.value c.in-Some.ensures.cases in (
      found.0,
      found.1,
      found_is_first (λ row. AsksOfChallenge row self.limits self.nonce.items found.0) challenge_faults_in_order NonceNotLonger (inr (
        sym found.2.mandatory ∙ c.if-challenge.false,
        inr (
          (c.in-Some.more.now, mine),
          inl (
            refl,
            nonce_is_not_longer self.nonce.items found.0.nonce c.in-Some.more.now mine
                (sym c.is_empty.ensures ∙ c.if-is_empty.true),
          ),
        ),
      )),
    )

pub returns-then-challenge-self-clause-err : goal.returns-then-challenge-self-clause-err
returns-then-challenge-self-clause-err c =
    let self = c.args.self.now in
    let found = c.in_ok-challenge.ensures.found in
    let mine = stripped_nonce_begins_with_clients c.in-Some.more found.2.nonce c.as_slice.ensures.value c.in-Some.ensures.cases in (
      found.0,
      found.1,
      found_is_first (λ row. AsksOfChallenge row self.limits self.nonce.items found.0) challenge_faults_in_order CountOutside (inr (
        sym found.2.mandatory ∙ c.if-challenge.false,
        inr (
          (c.in-Some.more.now, mine),
          inr (
            nonce_is_longer self.nonce.items found.0.nonce c.in-Some.more.now mine (sym c.is_empty.ensures ∙ c.if-is_empty.false),
            inl (
              refl,
              λ within. elim c.then-challenge-self.branch [
                | then-challenge-self-via-then-challenge-self w ↦ omega (arith, w.if-challenge-self.true, found.2.count, within.0)
                | then-challenge-self-via-else-challenge-self+then-self-challenge w ↦
                    omega (arith, w.if-self-challenge.true, found.2.count, within.1)
              ],
            ),
          ),
        ),
      )),
    )

pub returns-clause-ok : goal.returns-clause-ok
returns-clause-ok c =
    let self = c.args.self.now in
    let found = c.in_ok-challenge.ensures.found in
    let mine = stripped_nonce_begins_with_clients c.in-Some.more found.2.nonce c.as_slice.ensures.value c.in-Some.ensures.cases in (
      found.0,
      found.2,
      record {
        is_challenge = found.1;
        asked = (
          sym found.2.mandatory ∙ c.if-challenge.false,
          (
            (c.in-Some.more.now, mine),
            (
              nonce_is_longer self.nonce.items found.0.nonce c.in-Some.more.now mine (sym c.is_empty.ensures ∙ c.if-is_empty.false),
              (
                (omega (arith, c.if-challenge-self.false, found.2.count), omega (arith, c.if-self-challenge.false, found.2.count)),
                tt,
              ),
            ),
          ),
        );
      },
    )
