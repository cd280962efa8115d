-- `directory::open_slot` meets its contract.
use Rattle.std.proofs.Common.{rules, sym, ◌∙◌}
use Rattle.format.specs.Layout.{free_slot}
use Rattle.geometry.specs.Meaning.{geo, sectors_of}
use Rattle.directory.specs.Laws.{open_first}
use Rattle.directory.proofs.open_slot.Goals as goal

pub returns : goal.returns
returns c =
    let a = c.args in
    let first = open_first (geo a.g) (sectors_of a.g a.image.now) in
    record { slot = c.search.ensures.first free_slot (λ s r on post. search rules) ∙ sym first; within = c.search.ensures.within }
