-- `fsck_names::slot_bucket` meets its contract.
use Rattle.std.proofs.Common.{ℕ, ◌+◌, sym, ap, ap₂, ◌∙◌, take, drop}
use Rattle.slots.specs.Laws.{name_at}
use Rattle.fsck_names.specs.Tally.{bucket_of}
use Rattle.fsck_names.proofs.slot_bucket.Goals as goal

pub returns : goal.returns
returns c =
    let a = c.args in
    let start = ap₂ (λ (s k : ℕ). bucket_of a.size (take 9 (drop (s + k) a.image.now))) c.start_of.ensures.at c.slot_start.ensures in
    let name = name_at c.requires.0 a.slot.sector.0 a.slot.index c.requires.1 a.slot.in_sector in
    (c.bucket_of.ensures.0 ∙ start ∙ ap (bucket_of a.size) (sym name), c.bucket_of.ensures.1)
