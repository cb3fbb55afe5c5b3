-- There is one answer to an event: one list of lines that is due after its record, and one place to which they lead.
use Rattle.std.proofs.Common.{◌≡◌, ◌⊎◌, inl, inr, true, ℕ, List, [], ◌∷◌, ◌++◌, sym, ◌∙◌, ap, subst}
use Rattle.std.specs.List.{AllByRecursion}
use Rattle.mac_core.specs.declared.mechanism.Mechanism.{Mechanism}
use Rattle.scram_text.specs.Messages.{ClientFirstParts, ServerFinalParts, server_first_text}
use Rattle.scram_text.specs.Written.{server_first_of}
use Rattle.scram_text.proofs.lemmas.ClientFirst.{has_one_client_first}
use Rattle.scram_text.proofs.lemmas.ServerFinal.{has_one_server_final}
use Rattle.scram_ends.specs.Entry.{Entry}
use Rattle.scram_ends.specs.First.{IsChallengeTo}
use Rattle.scram_ends.specs.Login.{IsAuthentic}
use Rattle.scram_ends.specs.Verdict.{Due, accept, refuse, due_text, final_due}
use Rattle.log_grammar.specs.Lines.{LogLine, said, ended, cont, accepts, refuses}
use Rattle.log_grammar.specs.Places.{Place, offered, asks_bare, got_first, waits_final, got_final, waits_code, leaving, ending}
use Rattle.log_grammar.specs.Demands.{Accounts, demands}
use Rattle.log_grammar.proofs.lemmas.demands.Challenges.{one_name, challenged_first_is_of_name}
use Rattle.log_grammar.proofs.lemmas.kinds.OneWhy.{one_mechanism, one_due_verdict}
use Rattle.sasl_desk.specs.Alone.{IsSameRequest}
use Rattle.sasl_desk.specs.Events.{ClientEvent}
use Rattle.sasl_desk.specs.Runs.{Request, greets, hears, IsTurnTaken, IsAnsweredBy}
use Rattle.sasl_desk.specs.Sessions.{IsPath, IsChallengeWith, LacksExtensions}
use Rattle.sasl_desk.specs.DueLines.{place_after_record}
use Rattle.sasl_desk.proofs.lemmas.runs.Acceptances.{has_acceptance, rest_brings_acceptance}
use Rattle.sasl_desk.proofs.lemmas.runs.AnswerShapes.{IsAnswerDue, HasShapeAt, answer_has_shape, acceptance_or_no_code}
use Rattle.sasl_desk.proofs.lemmas.runs.OneRecord.{one_record, record_awaits_answer, record_leads_to_place}

-- there is at most one challenge to a client-first message for an entry and a server's own part of the nonce
one_challenge : (e : Entry) (first server_nonce text other : List ℕ) → IsChallengeTo e first server_nonce text
    → IsChallengeTo e first server_nonce other
    → text ≡ other
one_challenge e first server_nonce text other a b =
    a.is_challenge.spelled
    ∙ ap (λ (p : ClientFirstParts). server_first_text (server_first_of (p.nonce ++ server_nonce) e.salt e.count []))
    (has_one_client_first first a.first b.first a.is_first b.is_first)
    ∙ sym b.is_challenge.spelled

-- a server has at most one challenge to a client-first message for its accounts and its own part of the nonce
one_server_challenge : (accounts : Accounts) (server_nonce mechanism account first text other : List ℕ)
    → IsChallengeWith accounts server_nonce (waits_final mechanism account first text)
    → IsChallengeWith accounts server_nonce (waits_final mechanism account first other)
    → text ≡ other
one_server_challenge accounts server_nonce mechanism account first text other (m, named, a) (k, also, b) =
    let same = one_mechanism k m (sym also ∙ named) in
    one_challenge (accounts.entry m account) first server_nonce text other a
    (subst (λ (x : Mechanism). IsChallengeTo (accounts.entry x account) first server_nonce other) same b)

-- an acceptance with this signature and no extensions has one text: the one that is due
one_plain_acceptance : (text signature : List ℕ) → IsAuthentic text signature → LacksExtensions (said (accepts text))
    → text ≡ due_text (accept signature)
one_plain_acceptance text signature is (other, plain) =
    let same = has_one_server_final text is.last (final_due (accept other)) is.is_last plain in
    let verifiers = sym is.is_verifier ∙ ap (λ (p : ServerFinalParts). p.verifier_or_error) same in
    let signatures : signature ≡ other = cc verifiers in
    plain.spelled ∙ ap (λ (k : List ℕ). due_text (accept k)) (sym signatures)

-- two things are the same if each is the same as one of two that are the same
both_same : {X : Type 0} {one other same also : X} → one ≡ same → other ≡ also → same ≡ also → one ≡ other
both_same a b e = a ∙ e ∙ sym b

-- two answers of one server, with its part of the nonce and without extensions
module _ (accounts : Accounts) (server_nonce : List ℕ) (lines others : List LogLine) (next also : Place)
    (mine : IsChallengeWith accounts server_nonce next) (yours : IsChallengeWith accounts server_nonce also)
    (plain : AllByRecursion LacksExtensions lines) (bare : AllByRecursion LacksExtensions others) where
  -- two answers of one server that are due at one place are one
  one_due_answer : (at : Place) → IsAnswerDue at → HasShapeAt accounts at lines next → HasShapeAt accounts at others also
      → (lines ≡ others) × (next ≡ also)
  one_due_answer leaving due a b = (a.0 ∙ sym b.0, a.1 ∙ sym b.1)
  one_due_answer ending due a b = (a.0 ∙ sym b.0, a.1 ∙ sym b.1)
  one_due_answer (asks_bare m) due (inl a) (inl b) = (a.1.0 ∙ sym b.1.0, a.1.1 ∙ sym b.1.1)
  one_due_answer (asks_bare m) due (inl a) (inr b) = absurd (a.0 b.0.0 b.0.1)
  one_due_answer (asks_bare m) due (inr a) (inl b) = absurd (b.0 a.0.0 a.0.1)
  one_due_answer (asks_bare m) due (inr a) (inr b) = (a.1.0 ∙ sym b.1.0, a.1.1 ∙ sym b.1.1)
  one_due_answer (got_first m first) due (inl a) (inl b) = (a.1.0 ∙ sym b.1.0, a.1.1 ∙ sym b.1.1)
  one_due_answer (got_first m first) due (inl a) (inr (account, text, opens, b)) =
      absurd (a.0 account (challenged_first_is_of_name accounts m first account text opens))
  one_due_answer (got_first m first) due (inr (account, text, opens, a)) (inl b) =
      absurd (b.0 account (challenged_first_is_of_name accounts m first account text opens))
  one_due_answer (got_first m first) due (inr (account, text, opens, a)) (inr (name, other, begins, b)) =
      let names = one_name m first account name (challenged_first_is_of_name accounts m first account text opens)
      (challenged_first_is_of_name accounts m first name other begins) in
      let here = subst (λ (p : Place). IsChallengeWith accounts server_nonce p) a.1 mine in
      let there = subst (λ (n : List ℕ). IsChallengeWith accounts server_nonce (waits_final m n first other)) (sym names)
      (subst (λ (p : Place). IsChallengeWith accounts server_nonce p) b.1 yours) in
      let texts = one_server_challenge accounts server_nonce m account first text other here there in (
        both_same a.0 b.0 (ap (λ (x : List ℕ). said (cont x) ∷ []) texts),
        both_same a.1 b.1 (ap (λ (n : List ℕ). waits_final m n first text) names ∙ ap
            (λ (x : List ℕ). waits_final m name first x) texts),
      )
  one_due_answer (got_final m account first challenge last) due (inl (why, a, (lines_are, at))) (inl (reason, b, (others_are, too))) =
      let same = one_due_verdict accounts m account first challenge last (refuse why) (refuse reason) a b in (
        both_same lines_are others_are (ap (λ (d : Due). said (refuses (due_text d)) ∷ ended ∷ []) same),
        at ∙ sym too,
      )
  one_due_answer (got_final m account first challenge last) due
      (inl (why, a, (lines_are, at))) (inr (signature, text, b, authentic, rest)) =
      let same = one_due_verdict accounts m account first challenge last (refuse why) (accept signature) a b in absurd (cc same)
  one_due_answer (got_final m account first challenge last) due
      (inr (signature, text, a, authentic, rest)) (inl (why, b, (others_are, too))) =
      let same = one_due_verdict accounts m account first challenge last (refuse why) (accept signature) b a in absurd (cc same)
  one_due_answer (got_final m account first challenge last) due
      (inr (signature, text, a, authentic, (lines_are, at))) (inr (other, word, b, genuine, (others_are, too))) =
      let same = one_due_verdict accounts m account first challenge last (accept signature) (accept other) a b in
      let mine_plain = subst (AllByRecursion LacksExtensions) lines_are plain in
      let yours_plain = subst (AllByRecursion LacksExtensions) others_are bare in
      let texts = one_plain_acceptance text signature authentic mine_plain.0 ∙ ap due_text same ∙ sym
      (one_plain_acceptance word other genuine yours_plain.0) in (
        both_same lines_are others_are (ap (λ (x : List ℕ). said (accepts x) ∷ []) texts),
        at ∙ sym too,
      )
  one_due_answer at due a b = absurd due

-- these lines and these places are one; and there is an acceptance in the lines, or no code is awaited at the place
abbrev pub AreOneAnswer : (lines others : List LogLine) → (next also : Place) → Type 0
AreOneAnswer lines others next also =
    (lines ≡ others) × (next ≡ also) × ((has_acceptance lines ≡ true) ⊎ ((account : List ℕ) → next ≡ waits_code account → ⊥))

-- two lists of lines that lead from a place where no code is awaited, one to this place and one to that
module _ (accounts : Accounts) (at : Place) (apart : (account : List ℕ) → at ≡ waits_code account → ⊥)
    (lines others : List LogLine) (next also : Place) where
  -- two turns for one event from one place are one answer
  one_turn : (server_nonce : List ℕ) (event : ClientEvent) (moment later : ℕ)
      → IsTurnTaken accounts server_nonce event moment at lines next → IsTurnTaken accounts server_nonce event later at others also
      → AreOneAnswer lines others next also
  one_turn server_nonce event moment later a b =
      let d = demands accounts in
      let (middle, goes, path) = subst (λ (l : List LogLine). IsPath d at l next) a.lines_are a.path in
      let (between_them, goes_too, other_path) = subst (λ (l : List LogLine). IsPath d at l also) b.lines_are b.path in
      let kept = one_record event at a.recorded b.recorded a.is_record b.is_record in
      let same = record_leads_to_place d event at middle a.recorded a.is_record goes ∙ ap (λ (l : LogLine). place_after_record at l) kept
      ∙ sym (record_leads_to_place d event at between_them b.recorded b.is_record goes_too) in
      let due = record_awaits_answer d event at middle a.recorded a.is_record goes apart in
      let shape = answer_has_shape accounts middle a.answered next path a.answers a.rests in
      let other = answer_has_shape accounts middle b.answered also
      (subst (λ (p : Place). IsPath d p b.answered also) (sym same) other_path) b.answers b.rests in
      let answer = one_due_answer accounts server_nonce a.answered b.answered next also a.challenge b.challenge a.plain b.plain middle due
      shape other in
      let accepts_it = acceptance_or_no_code accounts middle a.answered next due shape in (
        a.lines_are ∙ ap (λ (l : LogLine). l ∷ a.answered) kept ∙ ap (λ (l : List LogLine). b.recorded ∷ l) answer.0 ∙ sym b.lines_are,
        answer.1,
        elim accepts_it [
          | inl is ↦ inl (subst (λ (l : List LogLine). has_acceptance l ≡ true) (sym a.lines_are)
              (rest_brings_acceptance (a.recorded ∷ []) a.answered is))
          | inr apart_too ↦ inr apart_too
        ],
      )

  -- two answers to one call from one place are one answer
  pub one_answer_to_call : (server_nonce theirs : List ℕ) (request other : Request) → server_nonce ≡ theirs
      → IsSameRequest request other → IsAnsweredBy accounts server_nonce request at lines next
      → IsAnsweredBy accounts theirs other at others also → AreOneAnswer lines others next also
  one_answer_to_call server_nonce theirs (greets one) (greets two) alike same a b = (
    a.says ∙ sym b.says,
    a.waits ∙ sym b.waits,
    inr (λ account is. let wrong : offered ≡ waits_code account = sym a.waits ∙ is in cc wrong),
  )
  one_answer_to_call server_nonce theirs (hears event moment) (hears other later) alike same a b =
      one_turn server_nonce event moment later a
      (subst (λ (e : ClientEvent). IsTurnTaken accounts server_nonce e later at others also) (sym same)
      (subst (λ (o : List ℕ). IsTurnTaken accounts o other later at others also) (sym alike) b))
  one_answer_to_call server_nonce theirs request other alike same a b = absurd same
