-- `directory::find` meets its contract.
use Rattle.std.proofs.Common.{rules, sym, ◌∙◌}
use Rattle.lists.specs.Lists.{same}
use Rattle.format.specs.Layout.{name_of}
use Rattle.geometry.specs.Meaning.{geo, sectors_of}
use Rattle.directory.specs.Laws.{find_first}
use Rattle.directory.proofs.find.Goals as goal

pub returns : goal.returns
returns c =
    let a = c.args in
    let first = find_first (geo a.g) (sectors_of a.g a.image.now) a.name.bytes c.requires.1 in
    record { slot = c.search.ensures.first (λ s. same (name_of s) a.name.bytes) (λ s r on post. search rules) ∙ sym first; within = c.search.ensures.within }
