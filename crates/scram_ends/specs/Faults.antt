-- The numbers of the refusals of this crate.
use Rattle.std.specs.Prelude.{ℕ}
use Rattle.scram_text.specs.Faults.{write_fault_number}
use Rattle.scram_ends.specs.declared.first.FirstFault.{FirstFault}
use Rattle.scram_ends.specs.declared.first.FirstFault.TheVariants as first
use Rattle.scram_ends.specs.declared.recorded.RecordedFault.{RecordedFault}
use Rattle.scram_ends.specs.declared.recorded.RecordedFault.TheVariants as recorded
use Rattle.scram_ends.specs.declared.server.FirstRefused.{FirstRefused}
use Rattle.scram_ends.specs.declared.server.FirstRefused.TheVariants as refused
use Rattle.scram_ends.specs.declared.client.ClientFault.{ClientFault}
use Rattle.scram_ends.specs.declared.client.ClientFault.TheVariants as client

-- the number of a fault of client-first
abbrev pub first_fault_number : FirstFault → ℕ
first_fault_number (first.Text fault) = 20
first_fault_number first.Mandatory = 21
first_fault_number first.BindingAsked = 22
first_fault_number first.OutsideProfile = 23

-- the number of a refusal to send a challenge
abbrev pub first_refused_number : FirstRefused → ℕ
first_refused_number (refused.First fault) = first_fault_number fault
first_refused_number (refused.Write fault) = write_fault_number fault

-- the number of a fault of two recorded messages
abbrev pub recorded_fault_number : RecordedFault → ℕ
recorded_fault_number (recorded.First fault) = first_fault_number fault
recorded_fault_number recorded.NotThisChallenge = 31

-- the number of a client's fault
abbrev pub client_fault_number : ClientFault → ℕ
client_fault_number (client.Text fault) = 24
client_fault_number client.Mandatory = 25
client_fault_number client.NonceNotMine = 26
client_fault_number client.NonceNotLonger = 27
client_fault_number client.CountOutside = 28
client_fault_number client.ServerRefused = 29
client_fault_number client.WrongSignature = 30
