use Rattle.std.proofs.Common.{◌++◌, ◌∙◌}
use Rattle.scram_ends.proofs.lemmas.client_messages.ClientFirst.{kept_message_is_sent}
use Rattle.scram_ends.proofs.client.ClientOne.message.Goals as goal

pub returns : goal.returns
returns c = λ l started.
    c.concatenated.ensures ∙ (λ i. c.as_slice.ensures.value i ++ c.as_slice-2.ensures.value i)
    ∙ kept_message_is_sent c.args.self.now l started
