-- The client-first message of an honest client: it can be written, is within the limit, is taken up by a server, and is what a
-- client keeps of it.
use Rattle.std.proofs.Common.{◌≡◌, ℕ, ◌<◌, ◌≤◌, List, [], ◌++◌, length, length-append, append_assoc, sym, ◌∙◌, subst, refl, arith, inl}
use Rattle.std.specs.Prelude.{codes, option_map, IfSome}
use Rattle.std.specs.declared.option.Option.{Option}
use Rattle.std.specs.declared.option.Option.TheVariants.{None, Some}
use Rattle.std.specs.declared.result.Result.{Result}
use Rattle.std.specs.declared.result.Result.TheVariants.{Err}
use Rattle.mac_core.specs.declared.mechanism.Mechanism.{Mechanism}
use Rattle.scram_text.specs.Limits.{max_message_len}
use Rattle.scram_text.specs.Class.{IsPlainName, IsNoncePart}
use Rattle.scram_text.specs.Name.{name_spelling}
use Rattle.scram_text.specs.Parts.{authzid_text}
use Rattle.scram_text.specs.Messages.{ClientFirstParts, gs2_header, client_first_bare, client_first_text, IsClientFirst}
use Rattle.scram_text.specs.Written.{client_first_of, CanBeClientFirst}
use Rattle.scram_text.specs.declared.fault.WriteFault.{WriteFault}
use Rattle.scram_text.specs.declared.fault.WriteFault.TheVariants.{Unwritable, OverLimit, NoMemory}
use Rattle.scram_text.specs.declared.client_first.Flag.TheVariants.{NoBinding}
use Rattle.scram_text.proofs.lemmas.Texts.{empty_is_text}
use Rattle.scram_text.proofs.lemmas.messages_composed.ClientFirst.{pieces_compose_header, written_is_client_first}
use Rattle.scram_ends.specs.Opening.{IsAuthzidOf, IsTakenUp}
use Rattle.scram_ends.specs.Honest.{IsHonestFirst, max_honest_first_len}
use Rattle.scram_ends.specs.Stages.{Started, started_login}
use Rattle.scram_ends.specs.Client.{StandsForStarted}
use Rattle.scram_ends.specs.declared.client.ClientOne.{ClientOne}
use Rattle.scram_ends.specs.declared.client.Limits.{Limits}
use Rattle.scram_ends.proofs.lemmas.client_messages.Lengths.{unbound_header_is_short, plain_bare_is_short}
use Rattle.scram_ends.proofs.lemmas.client_messages.WriteFaults.{write_fault_is_memory}

-- a client without channel binding can write a client-first message without extensions
pub client_first_can_be_written : CanBeClientFirst NoBinding []
client_first_can_be_written = record { flag_class = refl; extensions_class = record { utf8_text = empty_is_text; each = tt } }

-- the spelling of a plain name to act as is read as that name
pub spelling_is_authzid : (authzid : Option (List ℕ)) → IfSome authzid IsPlainName → IsAuthzidOf authzid (option_map name_spelling authzid)
spelling_is_authzid None is = tt
spelling_is_authzid (Some name) is = record { plain = is; spelled = refl }

-- a client-first message of plain names and a part of a nonce has at most the bytes of one of an honest client
pub length-client_first_text : (authzid : Option (List ℕ)) (name nonce : List ℕ)
    → IfSome authzid IsPlainName → IsPlainName name → IsNoncePart nonce
    → length (client_first_text (client_first_of NoBinding authzid name nonce [])) ≤ max_honest_first_len
unfolding client_first_text
length-client_first_text authzid name nonce is_authzid is_name is_nonce =
    let p = client_first_of NoBinding authzid name nonce [] in
    omega (
      arith,
      length-append (gs2_header p) (client_first_bare p),
      unbound_header_is_short p authzid (inl refl) (spelling_is_authzid authzid is_authzid),
      plain_bare_is_short NoBinding authzid name nonce is_name is_nonce.at_most,
    )

-- a client-first message of plain names and a part of a nonce is no longer than a message may be
pub client_first_is_short : (authzid : Option (List ℕ)) (name nonce : List ℕ)
    → IfSome authzid IsPlainName → IsPlainName name → IsNoncePart nonce
    → length (client_first_text (client_first_of NoBinding authzid name nonce [])) ≤ max_message_len
client_first_is_short authzid name nonce is_authzid is_name is_nonce =
    omega (arith, length-client_first_text authzid name nonce is_authzid is_name is_nonce)

-- if a client-first message of plain names and a part of a nonce fails to be written, memory has run out
pub client_first_fault_is_memory : {T : Type 0} (r : Result T WriteFault) (f : WriteFault) (authzid : Option (List ℕ)) (name nonce : List ℕ)
    → r ≡ Err f
    → IfSome authzid IsPlainName → IsPlainName name → IsNoncePart nonce
    → (r ≡ Err Unwritable → CanBeClientFirst NoBinding [] → ⊥)
    → (r ≡ Err OverLimit → CanBeClientFirst NoBinding []
    × (max_message_len < length (client_first_text (client_first_of NoBinding authzid name nonce []))))
    → f ≡ NoMemory
client_first_fault_is_memory r f authzid name nonce failed is_authzid is_name is_nonce unwritable over =
    write_fault_is_memory r f failed (λ e. unwritable e client_first_can_be_written)
    (λ e. let long = over e in omega (arith, long.1, client_first_is_short authzid name nonce is_authzid is_name is_nonce))

-- a client-first message that is written of plain names is honest
pub written_first_is_honest : (authzid : Option (List ℕ)) (name nonce client_first : List ℕ)
    → IfSome authzid IsPlainName → IsPlainName name → IsClientFirst client_first (client_first_of NoBinding authzid name nonce [])
    → IsHonestFirst name authzid nonce client_first (client_first_of NoBinding authzid name nonce [])
written_first_is_honest authzid name nonce client_first is_authzid is_name is_first = record {
  is_first = is_first;
  built = refl;
  plain = is_name;
  plain_authzid = is_authzid;
}

-- a server takes up the client-first message of an honest client
pub honest_is_taken_up : {name : List ℕ} {authzid : Option (List ℕ)} {nonce client_first : List ℕ} {first : ClientFirstParts}
    → IsHonestFirst name authzid nonce client_first first → IsTakenUp first name authzid
honest_is_taken_up {name} {authzid} {first = first} honest =
    subst (λ (p : ClientFirstParts). IsTakenUp p name authzid) (sym honest.built) (record {
      not_mandatory = refl;
      unbound = inl refl;
      is_name = record { plain = honest.plain; spelled = refl };
      is_authzid = spelling_is_authzid authzid honest.plain_authzid;
    })

-- the pieces of a bare message without extensions are its text
bare_pieces_compose : (authzid : Option (List ℕ)) (name nonce : List ℕ)
    → ((codes "n=" ++ name_spelling name) ++ codes ",r=") ++ nonce ≡ client_first_bare (client_first_of NoBinding authzid name nonce [])
unfolding client_first_bare
bare_pieces_compose authzid name nonce = append_assoc (codes "n=" ++ name_spelling name) (codes ",r=") nonce

-- a client that keeps the pieces of a header and of a bare message stands for the login that it starts with them
pub composed_client_stands : (client : ClientOne) (mechanism : Mechanism) (limits : Limits) (authzid : Option (List ℕ)) (name nonce : List ℕ)
    → IfSome authzid IsPlainName → IsPlainName name → IsNoncePart nonce
    → client.mechanism ≡ mechanism → client.limits ≡ limits
    → client.bare.items ≡ ((codes "n=" ++ name_spelling name) ++ codes ",r=") ++ nonce
    → client.header.items ≡ (codes "n," ++ authzid_text (option_map name_spelling authzid)) ++ codes ","
    → client.nonce.items ≡ nonce
    → StandsForStarted client
    (started_login mechanism limits name authzid nonce (client_first_text (client_first_of NoBinding authzid name nonce [])))
composed_client_stands client mechanism limits authzid name nonce is_authzid is_name is_nonce is_mechanism are_limits bare header kept =
    record {
      first = client_first_of NoBinding authzid name nonce [];
      is_first = written_first_is_honest authzid name nonce _ is_authzid is_name
          (written_is_client_first NoBinding authzid name nonce [] is_authzid is_name is_nonce client_first_can_be_written
          (client_first_is_short authzid name nonce is_authzid is_name is_nonce));
      mechanism = is_mechanism;
      limits = are_limits;
      bare = bare ∙ bare_pieces_compose authzid name nonce;
      header = header ∙ pieces_compose_header NoBinding authzid name nonce [];
      nonce = kept;
    }

-- the header and the bare message that a client keeps are its first message
pub kept_message_is_sent : (client : ClientOne) (login : Started) → StandsForStarted client login
    → client.header.items ++ client.bare.items ≡ login.client_first
unfolding client_first_text
kept_message_is_sent client login started =
    (λ i. started.header i ++ started.bare i) ∙ sym started.is_first.is_first.spelled
