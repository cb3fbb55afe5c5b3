use Rattle.scram_text.proofs.lemmas.Base64.{has_usual_base64}
use Rattle.scram_text.proofs.laws.base64_is_usual.Goals as goal

pub returns : goal.returns
returns c = has_usual_base64
