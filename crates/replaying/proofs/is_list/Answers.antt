-- `replaying::is_list` meets its contract.
use Rattle.std.proofs.Common.{arith, sym, ◌∙◌, ne_eqb}
use Rattle.geometry.specs.Meaning.{geo}
use Rattle.replaying.specs.Laws.{record_bad, rest_on, end_is}
use Rattle.replaying.proofs.is_list.Goals as goal

pub returns-then-not-is_record : goal.returns-then-not-is_record
returns-then-not-is_record c =
    let cut = c.in-Some.ensures.cases in
    sym (record_bad (geo c.args.g) _ (omega arith) (rw cut.0 at (sym c.if-not-is_record.ensures))) ∙ c.loop-first.invariant

pub loop-first-preserved : goal.loop-first-preserved
loop-first-preserved c =
    let cut = c.in-Some.ensures.cases in
    rw cut.1 (rest_on (geo c.args.g) _ (omega arith) (rw cut.0 at (sym c.if-not-is_record.ensures))) ∙ c.loop-first.invariant

pub returns-then-alone : goal.returns-then-alone
returns-then-alone c =
    let end = sym (end_is (geo c.args.g) _ c.in_default.ensures.cases) ∙ c.loop-first.invariant in
    simp c.if-alone.true at end

pub returns-else-alone : goal.returns-else-alone
returns-else-alone c =
    let end = sym (end_is (geo c.args.g) _ c.in_default.ensures.cases) ∙ c.loop-first.invariant in
    let more = ne_eqb _ _ c.if-alone.false in
    simp more (simp more at end)
