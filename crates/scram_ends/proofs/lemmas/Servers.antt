-- The challenge that a server sends opens a login.
use Rattle.std.proofs.Common.{◌≡◌, ◌≤◌, ℕ, List, [], ◌++◌, length, ap, refl, ◌∙◌}
use Rattle.scram_text.specs.Messages.{ClientFirstParts, IsClientFirst, IsServerFirst}
use Rattle.scram_text.specs.Written.{server_first_of}
use Rattle.scram_ends.specs.Entry.{Entry}
use Rattle.scram_ends.specs.Opening.{Opening, IsOpening}
use Rattle.scram_ends.specs.inner.TakenFirst.{ShowsTakenFirst, ShowsOpening}
use Rattle.scram_ends.specs.declared.first.TakenFirst.{TakenFirst}

-- a client-first message that is taken up and a challenge to it are an opening, of the parts that were taken
pub challenge_opens : (e : Entry) (client_first server_nonce server_first sent : List ℕ) (first : ClientFirstParts) (taken : TakenFirst)
    → IsClientFirst client_first first → ShowsTakenFirst taken first → sent ≡ taken.nonce.now ++ server_nonce → 1 ≤ length server_nonce
    → IsServerFirst server_first (server_first_of sent e.salt e.count [])
    → (o : Opening) × IsOpening e client_first server_first o × ShowsOpening taken sent o
challenge_opens e client_first server_nonce server_first sent first taken is_first shows same some is_challenge =
    let o : Opening = record {
      first = first;
      name = taken.name;
      authzid = taken.authzid;
      challenge = server_first_of sent e.salt e.count [];
    } in
    let longer : sent ≡ first.nonce ++ server_nonce = same ∙ ap (λ (n : List ℕ). n ++ server_nonce) shows.nonce in (
      o,
      record {
        is_first = is_first;
        taken_up = shows.taken_up;
        is_challenge = is_challenge;
        not_mandatory = refl;
        longer = (server_nonce, longer, some);
        salt = refl;
        count = refl;
      },
      record { header = shows.header; bare = shows.bare; name = refl; authzid = refl; nonce = refl },
    )
