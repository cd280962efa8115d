-- `saving::has_room` meets its contract.
use Rattle.std.proofs.Common.{refl, sym, ap, ◌∙◌, add-zero, add-one}
use Rattle.directory.specs.Meaning.{found_of}
use Rattle.saving_sectors.specs.Writes.{growth_some, growth_none}
use Rattle.saving.proofs.has_room.Goals as goal

pub returns-in-Some : goal.returns-in-Some
returns-in-Some c =
    let found = sym c.requires.1.slot ∙ ap (found_of _) c.in-Some.is in
    rw (growth_some _ _ _ found, add-zero, c.free_count-free.ensures, c.requires.2) refl

pub returns-in-None : goal.returns-in-None
returns-in-None c =
    let full = sym c.requires.1.slot ∙ ap (found_of _) c.in-None.is in
    rw (growth_none _ _ full, add-one, c.free_count-free.ensures, c.requires.2) refl
