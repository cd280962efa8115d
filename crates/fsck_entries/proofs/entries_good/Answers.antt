-- `fsck_entries::entries_good` meets its contract.
use Rattle.std.proofs.Common.{rules, ◌∙◌}
use borrow.Author.Tests.{tests}
use Rattle.std.proofs.lemmas.Iterator.Adapters.{serves_from_places}
use Rattle.std.proofs.lemmas.Iterator.Consumers.{YieldsList-from_first}
use Rattle.std.proofs.lemmas.Iterator.Search.{all_from_yields_List}
use Rattle.geometry.specs.declared.SectorNo.{SectorNo}
use Rattle.geometry.specs.Meaning.{geo, sectors_of}
use Rattle.directory.specs.Walk.{rest_of}
use Rattle.directory.specs.Laws.{directory_below}
use Rattle.fsck_entries.specs.Good.{good_sector, each_below, rule3_is}
use Rattle.fsck_entries.proofs.entries_good.Goals as goal

pub all-requires-clause-callable : goal.all-requires-clause-callable
all-requires-clause-callable c =
    serves_from_places (YieldsList-from_first (λ (n : SectorNo). n.0) rest_of _ c.sectors.ensures.all) (λ x q k. search (rules, tests))
    (λ x k on is. let below = each_below (directory_below c.requires) k x.0 on is in search rules)

pub returns : goal.returns
returns c =
    let a = c.args in
    all_from_yields_List (good_sector (geo a.g) (sectors_of a.g a.image.now)) _ _ c.all.result c.all.ensures.ran
    (YieldsList-from_first (λ (n : SectorNo). n.0) rest_of _ c.sectors.ensures.all) (λ x b q k. search (rules, tests))
    ∙ rule3_is _ _
