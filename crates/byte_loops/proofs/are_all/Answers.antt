-- `byte_loops::are_all` meets its contract.
use Rattle.std.proofs.Common.{rules, ℕ, eqb}
use borrow.Author.Tests.{tests}
use Rattle.std.specs.List.{between}
use Rattle.std.proofs.lemmas.Iterator.{YieldsList-from_slice}
use Rattle.std.proofs.lemmas.Iterator.Search.{all_from_yields_List}
use Rattle.std.proofs.lemmas.Slice.{between_is}
use Rattle.byte_loops.specs.Laws.{all_equal}
use Rattle.byte_loops.proofs.are_all.Goals as goal

pub returns : goal.returns
returns c =
    let a = c.args in
    let part = YieldsList-from_slice (between a.at a.end a.bytes.now) c.iter.ensures.rest in
    let tests_all = all_from_yields_List (λ (x : ℕ). eqb x a.value) _ _ c.all.result c.all.ensures.ran part (λ x b q k. search (rules, tests)) in
    simp (tests_all, all_equal, between_is)
