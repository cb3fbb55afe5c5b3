use Rattle.book_keeper.proofs.lemmas.Changes.{put_back_restores_book}
use Rattle.book_keeper.proofs.keeper.Keeper.change_token.Goals as goal

pub returns-in-Err-clause-undone : goal.returns-in-Err-clause-undone
returns-in-Err-clause-undone g c =
    put_back_restores_book c.args.self.now.book c.put_token.new.self _ c.args.name.now c.args.before c.args.next c.requires
    c.put_token.ensures.put (rw c.in-Err.ensures.book at c.put_token-in-Err.ensures.put)
