-- `writes::put_front` meets its contract.
use Rattle.std.proofs.Common.{arith}
use Rattle.format.specs.Layout.{met}
use Rattle.geometry.specs.Meaning.{geo, sectors_of}
use Rattle.disc.specs.Meaning.{meaning}
use Rattle.writes.specs.Laws.{front_stored, walked_long}
use Rattle.writes.proofs.put_front.Goals as goal

pub returns : goal.returns
returns c =
    let chain = c.put_chain.ensures in
    let a = c.args in
    let long = walked_long c.requires.0 a.count a.first c.requires.1.inside in (
      front_stored _ _ 0 (met (geo a.g) (sectors_of a.g a.image.now) a.count (meaning a.first)) c.put_numbered-at.ensures.0 chain,
      omega (arith, chain.position, c.put_numbered-at.ensures.1, long, c.requires.1.long),
    )
