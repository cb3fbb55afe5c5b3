use Rattle.std.proofs.Common.{[], refl, ◌∙◌}
use Rattle.std.specs.Option.{option_copied}
use Rattle.scram_text.specs.Messages.{client_first_text}
use Rattle.scram_text.specs.Written.{client_first_of}
use Rattle.scram_text.specs.declared.client_first.Flag.TheVariants.{NoBinding}
use Rattle.scram_ends.proofs.lemmas.client_messages.ClientFirst.{composed_client_stands}
use Rattle.scram_ends.proofs.client.Client.begin.Goals as goal

pub returns : goal.returns
returns c =
    let authzid = option_copied c.args.authzid in (
      client_first_text (client_first_of NoBinding authzid c.args.name.now c.args.nonce.now []),
      composed_client_stands _ c.args.mechanism c.args.limits authzid c.args.name.now c.args.nonce.now
          c.law_of_names.ensures.authzid c.law_of_names.ensures.name c.law_of_names.ensures.nonce refl refl c.bare_of.ensures
          c.header_of.ensures (c.copy_of.ensures ∙ c.bytes.ensures.value),
    )
