-- It is decidable whether a text is short and has enough parts, all of which fit their places.
use Rattle.std.proofs.Common.{ℕ, ◌≤◌, List, length}
use Rattle.mac_core.proofs.lemmas.Decided.{Decided, decided_equivalent, decided_both, decided_le}
use Rattle.scram_text.specs.Limits.{max_message_len}
use Rattle.scram_text.specs.Class.{IsUtf8Text}
use Rattle.scram_text.specs.Parts.{parts}
use Rattle.scram_text.specs.declared.fault.TextWhy.{TextWhy}
use Rattle.scram_text.proofs.lemmas.Places.{AllFit}
use Rattle.scram_text.proofs.lemmas.Decided.{decided_text, decided_all_fit}

-- a text is short, and has enough parts, all of which fit their places
pub record IsFittingText (most : ℕ) (least : ℕ) (later : List TextWhy) (text : List ℕ) : Type 0 where
  -- it is no longer than a message may be
  pub short : length text ≤ max_message_len
  -- it is a text of UTF-8
  pub utf8_text : IsUtf8Text text
  -- it has at least `least` parts
  pub enough : least ≤ length (parts text)
  -- each part fits its place
  pub fit : AllFit most later (parts text)

-- it is decidable whether a text is a short one with enough parts, all of which fit
pub decided_fitting_text : (most least : ℕ) (later : List TextWhy) (text : List ℕ) → Decided (IsFittingText most least later text)
decided_fitting_text most least later text =
    decided_equivalent ((length text ≤ max_message_len) × (IsUtf8Text text × ((least ≤ length (parts text))
    × AllFit most later (parts text))))
    (IsFittingText most least later text)
    (λ h. record { short = h.0; utf8_text = h.1.0; enough = h.1.1.0; fit = h.1.1.1 }) (λ r. (r.short, (r.utf8_text, (r.enough, r.fit))))
    (decided_both _ _ (decided_le (length text) max_message_len) (decided_both _ _ (decided_text text)
    (decided_both _ _ (decided_le least (length (parts text))) (decided_all_fit most later (parts text)))))
