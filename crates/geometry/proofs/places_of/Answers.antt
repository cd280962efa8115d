-- `geometry::places_of` meets its contract. No answer names the test, so that an edit of its number is refused for what it means.
use Rattle.std.proofs.Common.{◌≡◌, arith}
use Rattle.format.specs.Geometry.{ten, stated}
use Rattle.geometry.specs.Meaning.{places_of}
use Rattle.geometry.proofs.places_of.Goals as goal

pub returns : goal.returns
unfolding places_of stated ten
returns c =
    let plain : c.args.arrangement ≡ 0 = omega arith in
    rw plain
