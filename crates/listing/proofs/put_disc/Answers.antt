-- `listing::put_disc` meets its contract.
use Rattle.std.proofs.Common.{arith, ap, ap₂, sym, ◌∙◌, List, ◌∷◌, ◌++◌, append_assoc, ℕ, ◌+◌}
use Rattle.lists.specs.Lists.{word}
use Rattle.format.specs.Layout.{disc_name_offset, disc_name_of, free_count, used_count}
use Rattle.geometry.specs.Meaning.{sectors_of}
use Rattle.slots.specs.Laws.{nine_at}
use Rattle.records.specs.Storing.{stored_as}
use Rattle.listing.proofs.put_disc.Goals as goal

pub returns : goal.returns
returns c =
    let d = sectors_of c.args.g c.args.image.now in
    let name = nine_at c.requires.0 0 disc_name_offset (c.start_of-start.result + disc_name_offset) (omega arith) (omega arith) (omega arith) in
    let counts = ap₂ (λ (m n : ℕ). word m ++ word n) c.free_count.ensures c.used_count.ensures in
    stored_as
    (ap₂ (λ (xs ys : List ℕ). 1 ∷ xs ++ ys) name counts
    ∙ ap (λ (xs : List ℕ). 1 ∷ xs) (sym (append_assoc (disc_name_of d) (word (free_count d)) (word (used_count d)))))
    (rw (c.to_le_bytes-free.ensures, c.to_le_bytes-used.ensures) at c.put_record.ensures)
