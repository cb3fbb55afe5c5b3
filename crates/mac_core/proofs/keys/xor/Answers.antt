use Rattle.std.proofs.Common.{◌≡◌, ◌+◌, ◌<◌, ◌++◌, ◌∷◌, [], ℕ, List, arith, add-one, append-nil, append_assoc, drop, drop-cons, get_or, length}
use Rattle.std.proofs.Math.ListN.{drop_of_length-le}
use Rattle.std.specs.Prelude.{bit_xor}
use Rattle.mac_core.specs.Keys.{xor_bytes}
use Rattle.mac_core.proofs.keys.xor.Goals as goal

-- the front and the XOR of what is left are still the whole XOR after one more byte
next_byte_keeps_xor : (front a b : List ℕ) (i : ℕ) → i < length a → i < length b
    → front ++ xor_bytes (drop i a) (drop i b) ≡ xor_bytes a b
    → (front ++ bit_xor (get_or a i 0) (get_or b i 0) ∷ []) ++ xor_bytes (drop (i + 1) a) (drop (i + 1) b) ≡ xor_bytes a b
unfolding xor_bytes
next_byte_keeps_xor front a b i in_a in_b h =
    rw (add-one, append_assoc) (rw (drop-cons a i 0 in_a, drop-cons b i 0 in_b) at h)

pub loop-i-preserved : goal.loop-i-preserved
loop-i-preserved c =
    let one_length : length c.as_slice-a.result.now ≡ length c.as_slice-b.result.now =
    rw (c.as_slice-a.ensures.value, c.as_slice-b.ensures.value) c.requires in record {
      left = rw (c.push.ensures.items) (next_byte_keeps_xor _ _ _ c.loop-i.i c.loop-i-test.true (omega arith) c.loop-i.invariant.left);
      count = omega arith;
    }

pub returns-clause-value : goal.returns-clause-value
unfolding xor_bytes
returns-clause-value c =
    let all = rw (drop_of_length-le c.as_slice-a.result.now c.loop-i-test.false, append-nil) at c.loop-i.invariant.left in
    cc (all, c.as_slice-a.ensures.value, c.as_slice-b.ensures.value)
