use Rattle.std.proofs.Common.{rules, ◌≡◌, ℕ, List, ◌*◌, length, slice_index, sym, ◌∙◌, arith}
use Rattle.std.proofs.lemmas.Grind.{same_number_lists}
use Rattle.sha2.specs.Sha256.{schedule, word_at}
use Rattle.sha2.proofs.Schedule256.{length-schedule, slice_index-schedule_first, slice_index-schedule_next}
use Rattle.hmac_midstate.proofs.lemmas.Rounds.{next_word_256, set_more}
use Rattle.hmac_midstate.proofs.block_sha256.schedule.Goals as goal

pub first-preserved : goal.first-preserved
first-preserved c = (
  search rules,
  set_more c.first.w (λ (k : ℕ). word_at c.args.block.now (4 * k)) c.first.i c.word_at.result (omega arith) c.first.invariant.1
      c.word_at.ensures,
)

pub next-init : goal.next-init
next-init c = (
  c.first.invariant.0,
  λ k below. c.first.invariant.1 k (omega arith) ∙ sym (slice_index-schedule_first c.args.block.now 48 k below),
)

pub next-preserved : goal.next-preserved
next-preserved c =
    let s : List ℕ = schedule c.args.block.now 48 in (
      search rules,
      set_more c.next.w (λ (k : ℕ). slice_index s k) c.next.t c.next_word.result (omega arith) c.next.invariant.1
          (c.next_word.ensures ∙ next_word_256 c.next.w s c.next.t (omega arith) c.next.invariant.1
          ∙ sym (slice_index-schedule_next c.args.block.now 48 c.next.t (omega arith) (omega arith))),
    )

pub returns : goal.returns
returns c =
    let len : length (schedule c.args.block.now 48) ≡ 64 = length-schedule c.args.block.now 48 in
    same_number_lists c.next.w (schedule c.args.block.now 48) (omega arith) (λ k below. c.next.invariant.1 k (omega arith))
