use Rattle.std.proofs.Common.{◌≡◌, ◌<◌, ◌+◌, inl, inr, ℕ, refl, sym, ◌∙◌, subst, arith}
use Rattle.std.proofs.lemmas.Bool.{both_ways, cases_lt}
use Rattle.otp_core.specs.Hash.{hotp_text_by}
use Rattle.otp_core.specs.declared.hash.OtpHash.TheVariants.{Sha1}
use Rattle.otp_core.proofs.token.reply.find_pair_among.Goals.{else-follows_first-via-then-follows_first+else-code_is}
use Rattle.otp_core.proofs.token.reply.find_pair_among.Goals.{else-follows_first-via-else-follows_first}
use Rattle.otp_core.proofs.token.reply.find_pair_among.Goals as goal

pub returns-then-code_is : goal.returns-then-code_is
returns-then-code_is c =
    let text_of = λ (k : ℕ). hotp_text_by Sha1 c.args.token.now.digits c.args.token.now.secret k in
    let code : c.hotp_with-code.result ≡ text_of c.loop-counter.counter = rw (c.bytes.ensures.value) at
    (c.hotp_with-code.ensures _ c.new-prepared.ensures) in
    let (w, next, from, first) = c.loop-counter.invariant.flag.0 c.if-follows_first.true in
    let here = sym code ∙ c.code_is.ensures.0 c.if-code_is.true in
    let within : w < c.args.counters.end = omega (arith, next, c.loop-counter-test.true) in
    let second = subst (λ (n : ℕ). text_of n ≡ c.args.second.now) next here in (
      (w, next, (from, within), first, second),
      λ k (v, follows, among, one, other).
          elim (cases_lt (v + 1) c.loop-counter.counter) [
            | inl before ↦ absurd (c.loop-counter.invariant.none v among.0 before one other)
            | inr reached ↦ omega (arith, follows, reached)
          ],
    )

pub loop-counter-preserved : goal.loop-counter-preserved
loop-counter-preserved c =
    let text_of = λ (k : ℕ). hotp_text_by Sha1 c.args.token.now.digits c.args.token.now.secret k in
    let counter = c.loop-counter.counter in
    let code : c.hotp_with-code.result ≡ text_of counter = rw (c.bytes.ensures.value) at
    (c.hotp_with-code.ensures _ c.new-prepared.ensures) in
    let old = c.loop-counter.invariant in
    record {
      flag = (
        λ is. (counter, refl, c.loop-counter.auto.counter, sym code ∙ c.code_is-follows_first.ensures.0 is),
        λ (w, next, from, first).
            let same : w ≡ counter = omega (arith, next) in
            c.code_is-follows_first.ensures.1 (code ∙ subst (λ (n : ℕ). text_of n ≡ c.args.first.now) same first),
      );
      none = λ w from below first second. elim (cases_lt (w + 1) counter) [
        | inl before ↦ old.none w from before first second
        | inr reached ↦
            let next : counter ≡ w + 1 = omega (arith, reached, below) in
            let follows = old.flag.1 (w, next, from, first) in
            elim c.else-follows_first.branch [
              | else-follows_first-via-then-follows_first+else-code_is b ↦
                  both_ways b.code_is.result b.if-code_is.false
                  (b.code_is.ensures.1 (code ∙ subst (λ (n : ℕ). text_of n ≡ c.args.second.now) (sym next) second))
              | else-follows_first-via-else-follows_first b ↦ both_ways c.loop-counter.follows_first b.if-follows_first.false follows
            ]
      ];
    }

pub returns : goal.returns
returns c = λ k (w, next, among, first, second). c.loop-counter.invariant.none w among.0
    (omega (arith, among.1, c.loop-counter-test.false)) first second
