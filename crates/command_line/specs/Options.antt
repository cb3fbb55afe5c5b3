-- The names of the options whose values the program judges, or takes as paths.
use Rattle.std.specs.Prelude.{ℕ, List, codes}
use Rattle.command_line.specs.declared.option_name.OptionName.{OptionName}
use Rattle.command_line.specs.declared.option_name.OptionName.TheVariants.{Book, Log, Name, As, Socket, Random, ClientNonce, ServerNonce, Mechanism}
use Rattle.command_line.specs.declared.option_name.OptionName.TheVariants.{Salt, Count, Secret, Digits, Counter, Moment, Hash, T0, Step, Account, Event}

-- an option's name, as on the command line without its hyphens and in the fault about its value
abbrev pub option_name : OptionName → List ℕ
option_name Book = codes "book"
option_name Log = codes "log"
option_name Name = codes "name"
option_name As = codes "as"
option_name Socket = codes "socket"
option_name Random = codes "random"
option_name ClientNonce = codes "client-nonce"
option_name ServerNonce = codes "server-nonce"
option_name Mechanism = codes "mechanism"
option_name Salt = codes "salt"
option_name Count = codes "count"
option_name Secret = codes "secret"
option_name Digits = codes "digits"
option_name Counter = codes "counter"
option_name Moment = codes "moment"
option_name Hash = codes "hash"
option_name T0 = codes "t0"
option_name Step = codes "step"
option_name Account = codes "account"
option_name Event = codes "event"
