use Rattle.std.proofs.Common.{◌≡◌, ℕ, ◌*◌, ◌<◌, length, slice_index}
use Rattle.sha2.specs.Sha256.{schedule, word_at}
use Rattle.hmac_midstate.proofs.block_sha256.schedule.Given as goal

-- the words so far are the block's
abbrev pub invariant-first : goal.invariant-first
invariant-first l = (length l.w ≡ 64) × ((k : ℕ) → k < l.i → slice_index l.w k ≡ word_at l.block (4 * k))

-- the words so far are those of the schedule
abbrev pub invariant-next : goal.invariant-next
invariant-next l = (length l.w ≡ 64) × ((k : ℕ) → k < l.t → slice_index l.w k ≡ slice_index (schedule l.block 48) k)
