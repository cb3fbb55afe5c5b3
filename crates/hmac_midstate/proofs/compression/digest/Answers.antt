use Rattle.std.proofs.Common.{◌≡◌, ℕ, List, length, take, ap, ◌∙◌, arith}
use Rattle.std.proofs.lemmas.List.{length-take-le}
use Rattle.hmac_midstate.specs.Midstate.{digest_of, hash_value}
use Rattle.hmac_midstate.proofs.lemmas.Blocks.{digest_bytes_same, length-digest_of}
use Rattle.hmac_midstate.proofs.compression.digest.Goals as goal

pub returns-in-ScramSha1 : goal.returns-in-ScramSha1
returns-in-ScramSha1 c =
    let len : length (take 5 c.args.words.now) ≡ 5 = length-take-le 5 c.args.words.now (omega arith) in
    let value : c.bytes_of.result.items ≡ digest_of c.args.mechanism (hash_value c.args.mechanism c.args.words.now) =
    rw c.in-ScramSha1.is (rw len at c.bytes_of.ensures ∙ digest_bytes_same (take 5 c.args.words.now) 5) in record {
      value = value;
      len = ap (λ (xs : List ℕ). length xs) value ∙ length-digest_of c.args.mechanism (hash_value c.args.mechanism c.args.words.now);
    }

pub returns-in-ScramSha256 : goal.returns-in-ScramSha256
returns-in-ScramSha256 c =
    let len : length c.args.words.now ≡ 8 = omega arith in
    let value : c.bytes_of-in-ScramSha256.result.items ≡ digest_of c.args.mechanism (hash_value c.args.mechanism c.args.words.now) =
    rw c.in-ScramSha256.is (rw len at c.bytes_of-in-ScramSha256.ensures) in record {
      value = value;
      len = ap (λ (xs : List ℕ). length xs) value ∙ length-digest_of c.args.mechanism (hash_value c.args.mechanism c.args.words.now);
    }
