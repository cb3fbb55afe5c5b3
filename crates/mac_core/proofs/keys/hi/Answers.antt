use Rattle.std.proofs.Common.{◌≡◌, ◌+◌, ◌≤◌, ℕ, zero, suc, List, refl, rules, arith, add-one, ◌∙◌}
use Rattle.mac_core.specs.Hmac.{hmac}
use Rattle.mac_core.specs.Keys.{xor_bytes, iterated, xor_of_iterated}
use Rattle.mac_core.proofs.keys.hi.Goals as goal

-- U of the next number is the MAC of this one
iterated-next : (mac : List ℕ → List ℕ) (salt : List ℕ) (n : ℕ) → iterated mac salt (n + 1) ≡ mac (iterated mac salt n)
unfolding iterated
iterated-next mac salt n = rw add-one refl

-- the XOR up to the next number is the XOR up to this one, XORed with U of the next
xor_of_iterated-next : (mac : List ℕ → List ℕ) (salt : List ℕ) (n : ℕ) → 1 ≤ n
    → xor_of_iterated mac salt (n + 1) ≡ xor_bytes (xor_of_iterated mac salt n) (iterated mac salt (n + 1))
unfolding xor_of_iterated
xor_of_iterated-next mac salt zero h = absurd (omega arith)
xor_of_iterated-next mac salt (suc n) h = rw add-one refl

pub loop-round-init : goal.loop-round-init
unfolding iterated xor_of_iterated
loop-round-init g c = record {
  last = c.first_round-last.ensures.value _ c.new-key.ensures;
  sum = c.copy_of-sum.ensures ∙ (c.as_slice.ensures.value ∙ c.first_round-last.ensures.value _ c.new-key.ensures);
  last_len = search rules;
  sum_len = search rules;
}

pub loop-round-preserved : goal.loop-round-preserved
loop-round-preserved g c =
    let mac = hmac g.H.HashFn.digest_of g.H.HashFn.BLOCK c.args.password.now in
    let known = c.loop-round.invariant in
    let value = c.mac-last.ensures.value _ c.new-key.ensures in
    let next = iterated-next mac c.args.salt.now c.loop-round.round in
    let more = xor_of_iterated-next mac c.args.salt.now c.loop-round.round c.loop-round.auto.round in record {
      last = cc (value, next, known.last, c.as_slice.ensures.value);
      sum = cc (value, next, more, known.last, known.sum, c.as_slice.ensures.value, c.xor-sum.ensures.value);
      last_len = search rules;
      sum_len = search rules;
    }
