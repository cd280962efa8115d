-- `renaming::rename_entry` meets its contract.
use Rattle.std.proofs.Common.{rules, ◌≡◌, sym, ◌∙◌, length}
use Rattle.answers.specs.Listed.{refuses_lists, lists_as}
use Rattle.renaming.specs.Laws.{to_protected, search_taken, search_done}
use Rattle.renaming.proofs.rename_entry.Goals as goal

pub returns-then-is_protected : goal.returns-then-is_protected
returns-then-is_protected c = refuses_lists _ _ _ _ _ (to_protected _ _ _ _ (sym c.is_protected.ensures ∙ c.if-is_protected.true))

pub returns-then-is_some : goal.returns-then-is_some
returns-then-is_some c =
    let plain = sym c.is_protected.ensures ∙ c.if-is_protected.false in
    refuses_lists _ _ _ _ _ (search_taken _ _ _ _ plain _ c.find.ensures (sym c.is_some.ensures ∙ c.if-is_some.true))

pub put_listed-requires : goal.put_listed-requires
put_listed-requires c =
    let nine : length c.args.name.bytes ≡ 9 = search rules in
    search rules

pub returns : goal.returns
returns c =
    let plain = sym c.is_protected.ensures ∙ c.if-is_protected.false in
    lists_as _ _ _ (search_done _ _ _ _ plain _ c.find.ensures (sym c.is_some.ensures ∙ c.if-is_some.false)) c.put_listed.ensures
