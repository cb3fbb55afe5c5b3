-- How bytes are cut at each LF, that this is the only way, and the lines that they are cut into.
use Rattle.std.proofs.Common.{◌≡◌, inl, inr, ℕ, List, [], ◌∷◌, ◌++◌, false, refl, sym, ◌∙◌, ap, append_assoc, append-nil, subst}
use Rattle.std.specs.Prelude.{◌==◌}
use Rattle.std.specs.List.{AllByRecursion}
use Rattle.std.proofs.lemmas.Bool.{cases_Bool}
use Rattle.std.proofs.lemmas.Bool.Decides.{eqb_tells}
use Rattle.std.proofs.lemmas.Grind.{flat_map-append}
use Rattle.std.specs.Str.{byte}
use Rattle.scram_text.specs.SplitLines.{LacksLf, ended_by_lf, IsSplit}
use Rattle.scram_text.proofs.lemmas.CutAtByte.{lacking_text_is_not_cut, one_cut}
use Rattle.scram_text.proofs.lemmas.ListEnds.{same_cons, appended_lists_keep_all}

-- the bytes of joined texts are those of the first texts, then those of the others
pub ended_by_lf-append : (texts more : List (List ℕ)) → ended_by_lf (texts ++ more) ≡ ended_by_lf texts ++ ended_by_lf more
ended_by_lf-append texts more = flat_map-append (λ text. text ++ byte "\n" ∷ []) texts more

-- if bytes can be cut into lines, so can they with one more byte before them that is no LF
byte_before_is_split : (c : ℕ) (bytes : List ℕ) (texts : List (List ℕ)) (rest : List ℕ) → (c == byte "\n") ≡ false
    → IsSplit bytes texts rest → (more : List (List ℕ)) × (after : List ℕ) × IsSplit (c ∷ bytes) more after
byte_before_is_split c bytes [] rest other cut =
    ([], c ∷ rest, record { bytes_are = ap (λ (b : List ℕ). c ∷ b) cut.bytes_are; lines = tt; after = rw other cut.after })
byte_before_is_split c bytes (text ∷ texts) rest other cut = (
  (c ∷ text) ∷ texts,
  rest,
  record {
    bytes_are = ap (λ (b : List ℕ). c ∷ b) cut.bytes_are;
    lines = (rw other cut.lines.0, cut.lines.1);
    after = cut.after;
  },
)

-- the law: all bytes can be cut into whole lines and what follows the last LF
pub some_split : (bytes : List ℕ) → (texts : List (List ℕ)) × (rest : List ℕ) × IsSplit bytes texts rest
some_split [] = ([], [], record { bytes_are = refl; lines = tt; after = refl })
some_split (c ∷ bytes) =
    let cut = some_split bytes in
    elim (eqb_tells c (byte "\n")) [
      | inl lf ↦ (
        [] ∷ cut.0,
        cut.1,
        record {
          bytes_are = ap (λ (b : ℕ). b ∷ bytes) lf.1 ∙ ap (λ (b : List ℕ). byte "\n" ∷ b) cut.2.bytes_are;
          lines = (refl, cut.2.lines);
          after = cut.2.after;
        },
      )
      | inr other ↦ byte_before_is_split c bytes cut.0 cut.1 other.0 cut.2
    ]

-- the bytes of some lines are the first line, its LF and the bytes of the other lines
ended_by_lf-first : (text : List ℕ) (texts : List (List ℕ)) (rest : List ℕ)
    → ended_by_lf (text ∷ texts) ++ rest ≡ text ++ byte "\n" ∷ (ended_by_lf texts ++ rest)
ended_by_lf-first text texts rest = rw append_assoc (rw append_assoc refl)

-- bytes are cut in only one way if no line has an LF within it
one_split_of_lines : (texts others : List (List ℕ)) (rest other : List ℕ) → AllByRecursion LacksLf texts → AllByRecursion LacksLf others
    → LacksLf rest → LacksLf other → ended_by_lf texts ++ rest ≡ ended_by_lf others ++ other → (texts ≡ others) × (rest ≡ other)
one_split_of_lines [] [] rest other lack also none lacks e = (refl, e)
one_split_of_lines [] (u ∷ us) rest other lack also none lacks e =
    absurd (lacking_text_is_not_cut (byte "\n") rest u (ended_by_lf us ++ other) none (e ∙ ended_by_lf-first u us other))
one_split_of_lines (t ∷ ts) [] rest other lack also none lacks e = absurd
    (lacking_text_is_not_cut (byte "\n") other t (ended_by_lf ts ++ rest) lacks (sym e ∙ ended_by_lf-first t ts rest))
one_split_of_lines (t ∷ ts) (u ∷ us) rest other lack also none lacks e =
    let first = one_cut (byte "\n") t u (ended_by_lf ts ++ rest) (ended_by_lf us ++ other) lack.0 also.0
    (sym (ended_by_lf-first t ts rest) ∙ e ∙ ended_by_lf-first u us other) in
    let more = one_split_of_lines ts us rest other lack.1 also.1 none lacks first.1 in
    (same_cons t u ts us first.0 more.0, more.1)

-- the law: bytes are cut in only one way: any two cuts have the same lines, and the same bytes after the last LF
pub one_split : (bytes : List ℕ) (texts others : List (List ℕ)) (rest other : List ℕ) → IsSplit bytes texts rest
    → IsSplit bytes others other → (texts ≡ others) × (rest ≡ other)
one_split bytes texts others rest other cut also =
    one_split_of_lines texts others rest other cut.lines also.lines cut.after also.after (sym cut.bytes_are ∙ also.bytes_are)

-- if no line has an LF within it, none up to and including a given one has
pub lines_up_to_lack_lf : (before : List (List ℕ)) (text : List ℕ) (more : List (List ℕ)) → AllByRecursion LacksLf (before ++ text ∷ more)
    → AllByRecursion LacksLf (before ++ text ∷ [])
lines_up_to_lack_lf [] text more all = (all.0, tt)
lines_up_to_lack_lf (t ∷ before) text more all = (all.0, lines_up_to_lack_lf before text more all.1)

-- lines without an LF within them, each followed by an LF, are cut into these lines, and nothing is left
pub whole_lines_are_split : (texts : List (List ℕ)) → AllByRecursion LacksLf texts → IsSplit (ended_by_lf texts) texts []
whole_lines_are_split texts lack = record { bytes_are = sym (append-nil (ended_by_lf texts)); lines = lack; after = refl }

-- whole lines with more bytes after them are cut into these lines, then into the lines of those bytes
pub longer_bytes_are_split : (bytes : List ℕ) (texts : List (List ℕ)) (more : List ℕ) → IsSplit bytes texts []
    → (others : List (List ℕ)) × (rest : List ℕ) × IsSplit (bytes ++ more) (texts ++ others) rest
longer_bytes_are_split bytes texts more cut =
    let (others, rest, then) = some_split more in
    let front : bytes ≡ ended_by_lf texts = cut.bytes_are ∙ append-nil (ended_by_lf texts) in
    let bytes_are : bytes ++ more ≡ ended_by_lf (texts ++ others) ++ rest =
    ap (λ (b : List ℕ). b ++ more) front ∙ ap (λ (b : List ℕ). ended_by_lf texts ++ b) then.bytes_are
    ∙ sym (append_assoc (ended_by_lf texts) (ended_by_lf others) rest)
    ∙ ap (λ (b : List ℕ). b ++ rest) (sym (ended_by_lf-append texts others)) in (
      others,
      rest,
      record { bytes_are = bytes_are; lines = appended_lists_keep_all LacksLf texts others cut.lines then.lines; after = then.after },
    )

-- bytes that are whole lines, with more whole lines after them, are cut into all these lines
pub joined_lines_are_split : (bytes : List ℕ) (texts more : List (List ℕ)) → IsSplit bytes texts [] → AllByRecursion LacksLf more
    → IsSplit (bytes ++ ended_by_lf more) (texts ++ more) []
joined_lines_are_split bytes texts more cut lack = record {
  bytes_are = ap (λ (b : List ℕ). b ++ ended_by_lf more) (cut.bytes_are ∙ append-nil (ended_by_lf texts))
      ∙ sym (ended_by_lf-append texts more) ∙ sym (append-nil (ended_by_lf (texts ++ more)));
  lines = appended_lists_keep_all LacksLf texts more cut.lines lack;
  after = refl;
}

-- bytes that begin with whole lines are cut into these, then into the lines of what is left
pub lines_and_rest_are_split : (bytes : List ℕ) (texts : List (List ℕ)) (left : List ℕ) → AllByRecursion LacksLf texts
    → bytes ≡ ended_by_lf texts ++ left
    → (more : List (List ℕ)) × (rest : List ℕ) × IsSplit bytes (texts ++ more) rest × (left ≡ ended_by_lf more ++ rest)
lines_and_rest_are_split bytes texts left lacks bytes_are =
    let (more, rest, cut) = some_split left in
    let all : bytes ≡ ended_by_lf (texts ++ more) ++ rest =
    bytes_are ∙ (ap (λ (b : List ℕ). ended_by_lf texts ++ b) cut.bytes_are
    ∙ sym (ap (λ (b : List ℕ). b ++ rest) (ended_by_lf-append texts more) ∙ append_assoc (ended_by_lf texts)
    (ended_by_lf more) rest)) in (
      more,
      rest,
      record { bytes_are = all; lines = appended_lists_keep_all LacksLf texts more lacks cut.lines; after = cut.after },
      cut.bytes_are,
    )

-- whole lines, a text and more lines have the same bytes if the text is joined to the first of the lines after it
pub text_joins_next_line : (texts : List (List ℕ)) (text t : List ℕ) (more : List (List ℕ)) (rest : List ℕ)
    → ended_by_lf texts ++ (text ++ (ended_by_lf (t ∷ more) ++ rest)) ≡ ended_by_lf (texts ++ (text ++ t) ∷ more) ++ rest
text_joins_next_line texts text t more rest =
    let line = text ++ t in
    let lf = byte "\n" ∷ [] in
    let inner : (line ++ lf) ++ ended_by_lf more ≡ text ++ ((t ++ lf) ++ ended_by_lf more) =
    ap (λ (l : List ℕ). l ++ ended_by_lf more) (append_assoc text t lf) ∙ append_assoc text (t ++ lf) (ended_by_lf more) in
    let after : ((line ++ lf) ++ ended_by_lf more) ++ rest ≡ text ++ (((t ++ lf) ++ ended_by_lf more) ++ rest) =
    ap (λ (l : List ℕ). l ++ rest) inner ∙ append_assoc text ((t ++ lf) ++ ended_by_lf more) rest in
    sym (ap (λ (l : List ℕ). l ++ rest) (ended_by_lf-append texts (line ∷ more))
    ∙ (append_assoc (ended_by_lf texts) ((line ++ lf) ++ ended_by_lf more) rest ∙ ap (λ (l : List ℕ). ended_by_lf texts ++ l) after))
