use Rattle.std.proofs.Common.{◌≡◌, ℕ, List, length, take, drop, ◌∙◌, ap, arith}
use Rattle.scram_text.specs.Messages.{ClientFirstParts, gs2_header, client_first_bare, client_first_text}
use Rattle.scram_text.proofs.lemmas.messages_composed.ClientFirst.{header_is_no_longer}
use Rattle.scram_ends.proofs.lemmas.Written.{cut_at_front_is_front_and_text}
use Rattle.scram_ends.proofs.lemmas.client_messages.Headers.{header_is_in_range, honest_header_is_short, honest_bare_is_short}
use Rattle.scram_ends.proofs.client.start.cut_header.Goals as goal

-- a client-first message that is cut after its gs2-header has the header and the bare message
message_is_cut : (first : ClientFirstParts) (message : List ℕ) (len : ℕ) → message ≡ client_first_text first
    → len ≡ length (gs2_header first) → (take len message ≡ gs2_header first) × (drop len message ≡ client_first_bare first)
unfolding client_first_text
message_is_cut first message len is headed =
    cut_at_front_is_front_and_text message (gs2_header first) (client_first_bare first) len is headed

pub split_at-requires : goal.split_at-requires
split_at-requires c =
    let (name, authzid, nonce, first, honest, headed) = c.requires in
    omega (arith, headed, ap length honest.is_first.spelled, header_is_no_longer first)

pub copy_of-requires : goal.copy_of-requires
copy_of-requires c =
    let (name, authzid, nonce, first, honest, headed) = c.requires in
    let cut = message_is_cut first c.args.message.now c.args.header_len honest.is_first.spelled headed in
    (omega arith, honest_header_is_short honest _ (c.split_at.ensures.front ∙ cut.0))

pub copy_of-requires-2 : goal.copy_of-requires-2
copy_of-requires-2 c =
    let (name, authzid, nonce, first, honest, headed) = c.requires in
    let cut = message_is_cut first c.args.message.now c.args.header_len honest.is_first.spelled headed in
    (omega arith, honest_bare_is_short honest _ (c.split_at.ensures.back ∙ cut.1))

pub returns-clause-some : goal.returns-clause-some
returns-clause-some c =
    let (name, authzid, nonce, first, honest, headed) = c.requires in
    let cut = message_is_cut first c.args.message.now c.args.header_len honest.is_first.spelled headed in
    omega (arith, ap length (c.copy_of.ensures ∙ (c.split_at.ensures.front ∙ cut.0)), (header_is_in_range honest).0)

pub returns-clause-cut : goal.returns-clause-cut
returns-clause-cut c first is headed =
    let cut = message_is_cut first c.args.message.now c.args.header_len is headed in
    (c.copy_of.ensures ∙ (c.split_at.ensures.front ∙ cut.0), c.copy_of-2.ensures ∙ (c.split_at.ensures.back ∙ cut.1))
