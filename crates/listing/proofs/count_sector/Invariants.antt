-- `listing::count_sector` meets its contract. The loop's invariant: the count and the entries from slot `index` on are all entries.
use Rattle.std.proofs.Common.{◌+◌, ◌≡◌, length}
use Rattle.format.specs.Layout.{in_use, slots_at}
use Rattle.geometry.specs.Meaning.{sectors_of}
use Rattle.slots.specs.InOrder.{slots_from}
use Rattle.listing.proofs.count_sector.Given as goal

abbrev pub invariant-loop-index : goal.invariant-loop-index
invariant-loop-index l =
    l.count + length (in_use (slots_from (sectors_of l.fn.g l.image) l.fn.n.0 l.index)) ≡ length (in_use (slots_at (sectors_of l.fn.g l.image) l.fn.n.0))
