use Rattle.std.proofs.Common.{rules, ◌≡◌, ◌≢◌, sym, ◌∙◌}
use Rattle.otp_core.specs.declared.token.reply.Reply.TheVariants.{Locked}
use Rattle.book_keeper.proofs.lemmas.Judged.{locked_attempt_is_judged, saving_reply_is_due}
use Rattle.book_keeper.proofs.keeper.Keeper.judge.Goals as goal

pub returns-then-eq-clause-ok : goal.returns-then-eq-clause-ok
returns-then-eq-clause-ok g c =
    let locked : c.judge-reply.result ≡ Locked = search rules in
    locked_attempt_is_judged g.S.BookStore.IsStored _ c.args.name.now c.in-Some.before c.judge-reply.new.self c.args.moment _
    c.judge-reply.result
    c.law_of_moments.ensures (sym c.token.ensures ∙ c.in-Some.is)
    (rw c.copy-next.ensures at c.judge-reply.ensures)
    locked _

pub returns-in-Err-NotSaved-clause-ok : goal.returns-in-Err-NotSaved-clause-ok
returns-in-Err-NotSaved-clause-ok g c =
    let lost = c.in-Err-NotSaved.ensures.err in
    let apart : c.judge-reply.result ≢ Locked = search rules in (
      c.in-Err-NotSaved.ensures.undone,
      (
        lost.0,
        saving_reply_is_due _ _ c.args.name.now c.in-Some.before c.judge-reply.new.self c.args.moment _ c.judge-reply.result
            c.law_of_moments.ensures (sym c.token.ensures ∙ c.in-Some.is) (rw c.copy-next.ensures at c.judge-reply.ensures) apart lost.1,
        rw c.in-Err-NotSaved.field-0-is at lost.2,
      ),
    )

pub returns-in-Err-NoMemory-clause-no_memory : goal.returns-in-Err-NoMemory-clause-no_memory
returns-in-Err-NoMemory-clause-no_memory g c =
    let lost = c.in-Err-NoMemory.ensures.err in
    let apart : c.judge-reply.result ≢ Locked = search rules in (
      lost.0,
      saving_reply_is_due _ _ c.args.name.now c.in-Some.before c.judge-reply.new.self c.args.moment _ c.judge-reply.result
          c.law_of_moments.ensures (sym c.token.ensures ∙ c.in-Some.is) (rw c.copy-next.ensures at c.judge-reply.ensures) apart lost.1,
    )
