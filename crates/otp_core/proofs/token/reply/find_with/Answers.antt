use Rattle.std.proofs.Common.{◌≡◌, ◌≤◌, ◌<◌, ◌+◌, ℕ, List, ◌∙◌, sym, inl, inr, arith}
use Rattle.std.proofs.lemmas.Bool.{both_ways, cases_lt}
use borrow.Author.Count.{below_more}
use Rattle.otp_core.specs.Code.{hotp_text}
use Rattle.otp_core.proofs.token.reply.find_with.Goals as goal

-- no counter up to i has the text, if none before i has it and i does not
no_counter_has_text : (text_of : ℕ → List ℕ) (text : List ℕ) (first i : ℕ)
    → ((k : ℕ) → first ≤ k → k < i → text_of k ≡ text → ⊥) → (text_of i ≡ text → ⊥)
    → (k : ℕ) → first ≤ k → k < i + 1 → text_of k ≡ text → ⊥
no_counter_has_text text_of text first i before here k from up same =
    below_more (λ n. first ≤ n → text_of n ≡ text → ⊥) i (λ n below reach. before n reach below) (λ reach. here) k up from same

pub returns-then-code_is : goal.returns-then-code_is
returns-then-code_is g c =
    let counter = c.loop-counter.counter in
    let code = rw (c.bytes.ensures.value) at (c.hotp_with.ensures _ c.new-prepared.ensures) in
    let same_text = sym code ∙ c.code_is.ensures.0 c.if-code_is.true in (
      ((c.loop-counter.auto.counter, c.loop-counter-test.true), same_text),
      λ k (among, same). elim (cases_lt k counter) [
        | inl before ↦ absurd (c.loop-counter.invariant k among.0 before same)
        | inr reached ↦ reached
      ],
    )

pub loop-counter-preserved : goal.loop-counter-preserved
loop-counter-preserved g c =
    let text_of = λ (k : ℕ). hotp_text g.H.HashFn.digest_of g.H.HashFn.BLOCK c.args.digits c.args.secret.now k in
    let code = rw (c.bytes.ensures.value) at (c.hotp_with.ensures _ c.new-prepared.ensures) in
    no_counter_has_text text_of _ _ _ c.loop-counter.invariant (λ same.
    both_ways c.code_is.result c.if-code_is.false (c.code_is.ensures.1 (code ∙ same)))

pub returns : goal.returns
returns g c = λ k (among, same). c.loop-counter.invariant k among.0 (omega (arith, among.1, c.loop-counter-test.false)) same
