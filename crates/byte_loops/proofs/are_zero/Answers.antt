-- `byte_loops::are_zero` meets its contract.
use Rattle.std.proofs.Common.{sym, ◌∙◌}
use Rattle.byte_loops.proofs.Loops.{zero_start, zero_step, zero_end}
use Rattle.byte_loops.proofs.are_zero.Goals as goal

pub loop-i-init : goal.loop-i-init
loop-i-init c = zero_start _ _ _ c.requires

pub loop-i-preserved : goal.loop-i-preserved
loop-i-preserved c = zero_step c.args.bytes.now _ _ c.requires c.loop-i.i c.loop-i.seen c.loop-i-test.true ∙ c.loop-i.invariant

pub returns : goal.returns
returns c = sym (zero_end c.args.bytes.now _ _ c.requires c.loop-i.i c.loop-i.seen c.loop-i-test.false) ∙ c.loop-i.invariant
