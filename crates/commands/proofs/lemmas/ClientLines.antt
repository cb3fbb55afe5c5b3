-- What a client may say, from the contracts of its calls.
use Rattle.std.proofs.Common.{◌≡◌, ℕ, List, Option, None, Some, IfSome, sym, subst}
use Rattle.std.specs.Prelude.{IfOk, IfNone}
use Rattle.std.specs.Option.{option_or}
use Rattle.std.specs.declared.result.Result.{Result}
use Rattle.std.proofs.lemmas.Result.{IfOk-weaker}
use Rattle.scram_text.specs.Messages.{ServerFirstParts}
use Rattle.scram_ends.specs.{IsOffered, Mechanism, ScramSha256}
use Rattle.scram_ends.specs.Stages.{Started, Answered}
use Rattle.scram_ends.specs.Login.{IsAuthentic}
use Rattle.scram_ends.specs.Client.{StandsForStarted, IsAnswerable, StandsForAnswered}
use Rattle.scram_ends.specs.declared.client.ClientOne.{ClientOne}
use Rattle.scram_ends.specs.declared.client.ClientTwo.{ClientTwo}
use Rattle.command_line.specs.declared.fault.Fault.{Fault}
use Rattle.log_grammar.specs.Lines.{IsLine, ServerLine, from_server, mechs, cont, accepts}
use Rattle.log_grammar.proofs.lemmas.lines.ReadBack.{one_line}
use Rattle.commands.specs.ClientEnd.{IsChosen}
use Rattle.commands.specs.inner.ClientSteps.{IfSays, BeginsLogin, AnswersChallenge, MaySay, HasToLeave}
use Rattle.commands.specs.declared.login.client_end.ClientEnd.{ClientEnd}
use Rattle.commands.specs.declared.login.client_end.User.{User}
use Rattle.commands.specs.declared.login.client_end.Next.{Next}
use Rattle.commands.specs.declared.login.client_end.Next.TheVariants.{Says, LoggedIn, Leaves}
use Rattle.commands.specs.declared.login.client_end.Stage.{Stage}
use Rattle.commands.specs.declared.login.client_end.Stage.TheVariants.{Silent, Begun, Proved, Ended}

-- the mechanism that was asked for, or else the best one offered, is the one to choose
pub asked_or_best_is_chosen : (asked best : Option Mechanism) (names : List ℕ) (mechanism : Mechanism)
    → option_or asked best ≡ Some mechanism
    → IfSome best (λ one. IsOffered one names) → (IsOffered ScramSha256 names → best ≡ Some ScramSha256) → IsChosen asked names mechanism
asked_or_best_is_chosen (Some asked) best names mechanism is offered preferred = cc is
asked_or_best_is_chosen None best names mechanism is offered preferred = (
  subst (λ (o : Option Mechanism). IfSome o (λ one. IsOffered one names)) is offered,
  λ has. cc (is, preferred has),
)

-- if what is said has a property, it has a weaker one
says_weaker : (next : Next) (fact other : List ℕ → Type 0) → ((said : List ℕ) → fact said → other said) → IfSays next fact
    → IfSays next other
says_weaker (Says line) fact other follows says = follows line.items says
says_weaker LoggedIn fact other follows says = tt
says_weaker Leaves fact other follows says = tt

-- a client may say from its stage what it may say from an equal stage
next_may_be_said : (client : ClientEnd) (old stage new : Stage) (received : List ℕ) (result : Result Next Fault) (fact : List ℕ → Type 0)
    → old ≡ stage
    → ((said : List ℕ) → fact said → MaySay client stage received said new) → IfOk result (λ next. IfSays next fact)
    → IfOk result (λ next. IfSays next (λ said. MaySay client old received said new))
next_may_be_said client old stage new received result fact is follows says =
    IfOk-weaker result _ _
    (λ next. says_weaker next _ _ (λ said holds. subst (λ (s : Stage). MaySay client s received said new) (sym is) (follows said holds)))
    says

-- a client that has said nothing may begin a login with one of the mechanisms that it was offered
pub beginning_may_be_said : (client : ClientEnd) (old new : Stage) (received names : List ℕ) (result : Result Next Fault) → old ≡ Silent
    → IsLine received (from_server (mechs names))
    → IfOk result (λ next. IfSays next (λ said. BeginsLogin client.user client.nonce names said new))
    → IfOk result (λ next. IfSays next (λ said. MaySay client old received said new))
beginning_may_be_said client old new received names result is line says =
    next_may_be_said client old Silent new received result _ is (λ said begins. (names, line, begins)) says

-- a client that waits for the challenge may say its answer to the one that it received
pub answer_may_be_said : (client : ClientEnd) (one : ClientOne) (old new : Stage) (received server_first : List ℕ)
    (result : Result Next Fault) → old ≡ Begun one
    → IsLine received (from_server (cont server_first))
    → IfOk result (λ next. IfSays next (λ said. (login : Started) → StandsForStarted one login
    → AnswersChallenge login client.password server_first said new))
    → IfOk result (λ next. IfSays next (λ said. MaySay client old received said new))
answer_may_be_said client one old new received server_first result is line says =
    next_may_be_said client old (Begun one) new received result _ is (λ said answers. (server_first, line, answers)) says

-- a client that says nothing says only what it may
pub silence_may_be_kept : (client : ClientEnd) (old new : Stage) (received : List ℕ) (result : Result Next Fault)
    → IfOk result (λ next. IfSays next (λ said. ⊥)) → IfOk result (λ next. IfSays next (λ said. MaySay client old received said new))
silence_may_be_kept client old new received result silent =
    IfOk-weaker result _ _ (λ next. says_weaker next _ _ (λ said never. absurd never)) silent

-- no mechanism is chosen if none was asked for and none is offered
pub no_mechanism_is_chosen : (asked best : Option Mechanism) (names : List ℕ) (mechanism : Mechanism) → option_or asked best ≡ None
    → IfNone best ((one : Mechanism) → IsOffered one names → ⊥) → IsChosen asked names mechanism → ⊥
no_mechanism_is_chosen (Some one) best names mechanism is none chosen = cc is
no_mechanism_is_chosen None None names mechanism is none chosen = none mechanism chosen.0
no_mechanism_is_chosen None (Some one) names mechanism is none chosen = cc is

-- a client at this stage may continue after this line of the server
abbrev pub IsDueTo : Stage → ServerLine → Type 0
IsDueTo Silent (mechs names) = Unit {0}
IsDueTo (Begun one) (cont message) = Unit {0}
IsDueTo (Proved two) (accepts message) = Unit {0}
IsDueTo stage line = ⊥

-- a client that received no line after which it may continue has to leave
pub undue_line_makes_client_leave : (user : User) (stage : Stage) (received : List ℕ)
    → ((line : ServerLine) → IsLine received (from_server line) → IsDueTo stage line → ⊥)
    → HasToLeave user stage received
undue_line_makes_client_leave user Silent received none = λ names mechanism is chosen. none (mechs names) is tt
undue_line_makes_client_leave user (Begun one) received none =
    λ login started server_first challenge is answerable. none (cont server_first) is tt
undue_line_makes_client_leave user (Proved two) received none = λ login expecting message is authentic. none (accepts message) is tt
undue_line_makes_client_leave user Ended received none = tt

-- a client has to leave if what it received is not a line of the server
pub no_line_makes_client_leave : (user : User) (stage : Stage) (received : List ℕ)
    → ((line : ServerLine) → IsLine received (from_server line) → ⊥)
    → HasToLeave user stage received
no_line_makes_client_leave user stage received none = undue_line_makes_client_leave user stage received (λ line is due. none line is)

-- a text is at most one line of the server
one_server_line : (received : List ℕ) (one other : ServerLine) → IsLine received (from_server one) → IsLine received (from_server other)
    → one ≡ other
one_server_line received one other is also = let same = one_line received (from_server one) (from_server other) is also in cc same

-- a client that leaves after an offer has to: the offer has no mechanism that it takes
pub offer_leaver_has_to_leave : (user : User) (stage : Stage) (received names : List ℕ) (result : Result Next Fault) → stage ≡ Silent
    → IsLine received (from_server (mechs names))
    → IfOk result (λ next. next ≡ Leaves → (mechanism : Mechanism) → IsChosen user.mechanism names mechanism → ⊥)
    → IfOk result (λ next. next ≡ Leaves → HasToLeave user stage received)
offer_leaver_has_to_leave user stage received names result is line leaves =
    IfOk-weaker result _ _
    (λ next none left. subst (λ (s : Stage). HasToLeave user s received) (sym is) (λ others mechanism also chosen.
    let same = one_server_line received (mechs others) (mechs names) also line in
    let are : others ≡ names = cc same in
    none left mechanism (subst (λ (n : List ℕ). IsChosen user.mechanism n mechanism) are chosen)))
    leaves

-- a client that leaves after a challenge has to: the challenge is none that it answers
pub challenge_leaver_has_to_leave : (user : User) (one : ClientOne) (stage : Stage) (received server_first : List ℕ)
    (result : Result Next Fault) → stage ≡ Begun one
    → IsLine received (from_server (cont server_first))
    → IfOk result (λ next. next ≡ Leaves → (login : Started) → StandsForStarted one login
    → (parts : ServerFirstParts) → IsAnswerable login.limits login.nonce server_first parts → ⊥)
    → IfOk result (λ next. next ≡ Leaves → HasToLeave user stage received)
challenge_leaver_has_to_leave user one stage received server_first result is line leaves =
    IfOk-weaker result _ _
    (λ next none left. subst (λ (s : Stage). HasToLeave user s received) (sym is) (λ login started other parts also answerable.
    let same = one_server_line received (cont other) (cont server_first) also line in
    let are : other ≡ server_first = cc same in
    none left login started parts (subst (λ (text : List ℕ). IsAnswerable login.limits login.nonce text parts) are answerable)))
    leaves

-- a client that leaves after an acceptance has to: the message does not have the signature that it expects
pub acceptance_leaver_has_to_leave : (user : User) (two : ClientTwo) (stage : Stage) (received message : List ℕ)
    (result : Result Next Fault) → stage ≡ Proved two
    → IsLine received (from_server (accepts message))
    → IfOk result (λ next. next ≡ Leaves → (l : Answered) (x : StandsForAnswered two l) → IsAuthentic message x.signature → ⊥)
    → IfOk result (λ next. next ≡ Leaves → HasToLeave user stage received)
acceptance_leaver_has_to_leave user two stage received message result is line leaves =
    IfOk-weaker result _ _
    (λ next none left. subst (λ (s : Stage). HasToLeave user s received) (sym is) (λ login expecting other also authentic.
    let same = one_server_line received (accepts other) (accepts message) also line in
    let are : other ≡ message = cc same in
    none left login expecting (subst (λ (text : List ℕ). IsAuthentic text expecting.signature) are authentic)))
    leaves
