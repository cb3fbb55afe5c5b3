use Rattle.std.proofs.Common.{subst}
use Rattle.std.specs.List.{Contains}
use Rattle.c_library.specs.Logins.{texts_in}
use Rattle.c_library.proofs.lemmas.ActAs.{text_is_of_bytes, bytes_have_text}
use Rattle.c_library.proofs.texts.TextsOtherNames.has.Goals as goal

pub returns : goal.returns
returns c =
    let list = c.args.self.now.list.now in
    let name = c.args.name.now in (
      λ yes. let (bytes, among, same) = c.is_among.ensures.0 yes in
          subst (Contains (texts_in list)) same (bytes_have_text list bytes among),
      λ among. c.is_among.ensures.1 (text_is_of_bytes list name among),
    )
