-- What keys in any form sign, and for which keys they stand.
use Rattle.std.specs.Prelude.{ℕ, List, [], ◌∷◌, ◌++◌}
use Rattle.std.specs.Str.{byte}
use Rattle.std.specs.declared.option.Option.{Option}
use Rattle.std.specs.declared.option.Option.TheVariants.{None, Some}
use Rattle.mac_core.specs.declared.mechanism.Mechanism.{Mechanism}
use Rattle.scram_ends.specs.Entry.{Keys}
use Rattle.scram_ends.specs.declared.auth_message.AuthMessage.{AuthMessage}

-- AuthMessage = client-first-message-bare "," server-first-message "," client-final-message-without-proof (RFC 5802, section 3)
abbrev pub auth_text : AuthMessage → List ℕ
auth_text m = (m.bare.now ++ byte "," ∷ [] ++ m.server_first.now ++ byte "," ∷ []) ++ m.without_proof.now

-- there are keys in some form, and they stand for these; or there are none, in either form. `IsFor` says for which keys a value stands.
abbrev pub StandFor : {K : Type 0} → (IsFor : K → Mechanism → Keys → Type 0) → Option K → Mechanism → Option Keys → Type 0
StandFor IsFor None mechanism None = Unit {0}
StandFor IsFor (Some keys) mechanism (Some held) = IsFor keys mechanism held
StandFor IsFor None mechanism (Some held) = ⊥
StandFor IsFor (Some keys) mechanism None = ⊥
