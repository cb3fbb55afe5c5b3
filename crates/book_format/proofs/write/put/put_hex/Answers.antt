use Rattle.std.proofs.Common.{arith}
use Rattle.hex.proofs.HexLemmas.{decode_of-encode_lower}
use Rattle.book_format.proofs.write.put.put_hex.Goals as goal

pub returns-in_err-text-clause-back : goal.returns-in_err-text-clause-back
returns-in_err-text-clause-back c = decode_of-encode_lower c.args.bytes.now (λ i. omega (arith, c.type_inv.bytes i))

pub returns-clause-back : goal.returns-clause-back
returns-clause-back c = decode_of-encode_lower c.args.bytes.now (λ i. omega (arith, c.type_inv.bytes i))
