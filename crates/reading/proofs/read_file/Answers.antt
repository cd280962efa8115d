-- `reading::read_file` meets its contract.
use Rattle.std.proofs.Common.{◌≡◌, sym, ap, ◌∙◌, ◌<◌, length}
use Rattle.std.proofs.Math.Option.{Option}
use Rattle.format.specs.Geometry.{go}
use Rattle.format.specs.Layout.{first_of}
use Rattle.format.specs.Modules.{Module}
use Rattle.format.specs.Calls.{read_answer_by}
use Rattle.geometry.specs.Meaning.{geo, sectors_of}
use Rattle.slots.specs.Meaning.{slot_of}
use Rattle.disc.specs.Meaning.{meaning}
use Rattle.link_laws.specs.Links.{found_inside}
use Rattle.reading.specs.Answer.{file_on}
use Rattle.reading.specs.FileLaws.{entry_file, entry_reading}
use Rattle.reading.proofs.read_file.Goals as goal
use Rattle.reading.proofs.read_file.Goals.{In-To}

starts : (c : In-To) → let a = c.args in
    first_of (geo a.g) (slot_of (sectors_of a.g a.image.now) a.slot) ≡ go c.in-To.first.0
starts c = sym c.entry_of-entry.ensures.first_is ∙ ap meaning c.in-To.is

is_on_disc : (c : In-To) → c.in-To.first.0 < c.args.g.sectors
is_on_disc c = found_inside c.args.g c.in-To.is c.entry_of-entry.ensures.first_inside

pub read_module-requires : goal.read_module-requires
read_module-requires c =
    let pre = c.requires in
    let at = (goal.at.read_module-requires c).In-To in
    entry_file pre.0 pre.2 pre.3 _ _ (starts at) (is_on_disc at) c.entry_of-entry.ensures.length_is

pub returns : goal.returns
returns c =
    let pre = c.requires in
    let at = (goal.at.returns c).In-To in
    let b = c.args.buffer.now in
    let file = entry_reading pre.0 pre.2 pre.3 _ _ (starts at) (is_on_disc at) c.entry_of-entry.ensures.length_is in
    c.read_module.ensures ∙ ap (λ (o : Option Module). read_answer_by b (file_on o (length b))) file
