use Rattle.std.proofs.Common.{length, ap, arith}
use Rattle.scram_text.proofs.lemmas.Parts.{last_part_follows_comma}
use Rattle.scram_text.proofs.client_final.pieces_of.Goals as goal

pub unreachable-requires-in_default-rest : goal.unreachable-requires-in_default-rest
unreachable-requires-in_default-rest c =
    let whole = last_part_follows_comma c.args.message.now c.in-Some.without_proof.now c.in-Some.proof.now c.in-Some.ensures.whole
    c.in-Some.ensures.no_comma in
    let without_proof = rw c.in_default-rest.is at c.cut.ensures.parts in
    let two = ap length (rw without_proof at whole) in
    omega (arith, two, c.in_ok-parts.ensures.count)

pub returns-clause-cut : goal.returns-clause-cut
returns-clause-cut c =
    let whole = last_part_follows_comma c.args.message.now c.in-Some.without_proof.now c.in-Some.proof.now c.in-Some.ensures.whole
    c.in-Some.ensures.no_comma in
    let without_proof = rw (c.in-Some-rest.is, c.cut-2.ensures.parts) at c.cut.ensures.parts in record {
      short = c.in_ok-parts.ensures.short;
      utf8_text = c.in_ok-parts.ensures.utf8_text;
      whole = c.in-Some.ensures.whole;
      cut = without_proof;
      cut_whole = rw without_proof at whole;
      count = c.in_ok-parts.ensures.count;
      few = c.in_ok-parts.ensures.few;
      channel_len = omega (arith, c.cut.ensures.first_len, c.in-Some.ensures.front_len, c.in_ok-parts.ensures.short);
    }
