-- `totals::are_within` meets its contract.
use Rattle.std.proofs.Common.{◌&&◌, leb, refl, ◌∙◌, rules, tests}
use Rattle.std.specs.List.{list_all}
use Rattle.std.proofs.lemmas.Iterator.{YieldsList-from_slice}
use Rattle.std.proofs.lemmas.Iterator.Search.{all_from_yields_List}
use Rattle.std.proofs.lemmas.List.Recursion.{same_from_clauses}
use Rattle.totals.specs.Totals.{within, max_total}
use Rattle.totals.proofs.are_within.Goals as goal

pub returns : goal.returns
returns c =
    let ts = c.args.totals.now in
    all_from_yields_List (λ t. leb t max_total) _ _ c.all.result c.all.ensures.ran (YieldsList-from_slice ts cc) (λ x b q k. search (rules, tests))
    ∙ same_from_clauses (list_all (λ t. leb t max_total)) within (λ t b. leb t max_total && b) refl (λ t ts. refl) (λ t ts. refl) ts
