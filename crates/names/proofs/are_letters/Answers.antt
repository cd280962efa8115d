-- `names::are_letters` meets its contract.
use Rattle.std.proofs.Common.{rules, arith}
use borrow.Author.Tests.{tests}
use Rattle.std.proofs.lemmas.Bool.Decides.{nat_tests}
use Rattle.std.proofs.lemmas.Iterator.{YieldsList-from_slice}
use Rattle.std.proofs.lemmas.Iterator.Search.{all_from_yields_List}
use Rattle.format.specs.Names.{letter, letters}
use Rattle.names.specs.Laws.{all_is}
use Rattle.names.proofs.are_letters.Goals as goal

pub returns-then-contains : goal.returns-then-contains
unfolding letters
returns-then-contains c =
    let bytes = YieldsList-from_slice c.args.text.now c.iter.ensures.rest in
    let good = all_from_yields_List letter _ _ c.all.result c.all.ensures.ran bytes (λ x b q k. search (rules, tests)) in
    grind (arith, nat_tests, all_is, good)
