-- The numbers that stand for values of the libraries in C.
use Rattle.std.specs.Prelude.{ℕ}
use Rattle.mac_core.specs.declared.mechanism.Mechanism.{Mechanism}
use Rattle.mac_core.specs.declared.mechanism.Mechanism.TheVariants.{ScramSha1, ScramSha256}
use Rattle.otp_core.specs.Fault.{otp_fault_number}
use Rattle.scram_ends.specs.Faults.{first_fault_number, recorded_fault_number, client_fault_number}
use Rattle.scram_ends.specs.Verdict.{Due, accept, refuse}
use Rattle.scram_ends.specs.declared.verdict.Refusal.{Refusal}
use Rattle.scram_ends.specs.declared.verdict.Refusal.TheVariants.{InvalidEncoding, ExtensionsNotSupported, OtherNonce, Channel, InvalidProof}
use Rattle.scram_ends.specs.declared.verdict.Refusal.TheVariants.{NotAuthorised}
use Rattle.c_library.specs.declared.fault.Fault.{Fault}
use Rattle.c_library.specs.declared.fault.Fault.TheVariants as fault

-- the number of a mechanism: that in the name of its hash function
abbrev pub mechanism_number : Mechanism → ℕ
mechanism_number ScramSha1 = 1
mechanism_number ScramSha256 = 256

-- the number of a refusal
abbrev pub refusal_number : Refusal → ℕ
refusal_number InvalidEncoding = 32
refusal_number ExtensionsNotSupported = 33
refusal_number OtherNonce = 34
refusal_number Channel = 35
refusal_number InvalidProof = 36
refusal_number NotAuthorised = 37

-- the number of a verdict: 0 accepts
abbrev pub due_number : Due → ℕ
due_number (accept signature) = 0
due_number (refuse refusal) = refusal_number refusal

-- the number of a fault
abbrev pub fault_number : Fault → ℕ
fault_number (fault.First first) = first_fault_number first
fault_number (fault.Recorded recorded) = recorded_fault_number recorded
fault_number (fault.Client client) = client_fault_number client
fault_number fault.Name = 63
fault_number fault.Salt = 64
fault_number fault.Count = 65
fault_number fault.KeyLength = 66
fault_number fault.Mechanism = 90
fault_number fault.Password = 91
fault_number fault.NoncePart = 92
fault_number fault.NoRoom = 93
fault_number fault.Hash = 94
fault_number fault.Moment = 95
fault_number fault.Verifier = 96
fault_number fault.Spelling = 97
fault_number fault.Kind = 98
fault_number fault.NoLine = 70
fault_number fault.LongLine = 71
fault_number (fault.Otp otp) = otp_fault_number otp
