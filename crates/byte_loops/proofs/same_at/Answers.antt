-- `byte_loops::same_at` meets its contract.
use Rattle.std.proofs.Common.{◌≡◌, ℕ, arith, refl, sym, ◌∙◌, List, length, take, drop}
use Rattle.byte_loops.specs.Laws.{part_long, part_byte}
use Rattle.byte_loops.proofs.Loops.{same_step, same_stop, same_end}
use Rattle.byte_loops.proofs.same_at.Goals as goal
use Rattle.byte_loops.proofs.same_at.Goals.{Start}

-- the part that is compared, and its length
abbrev part : Start → List ℕ
part c = take (length c.args.these.now) (drop c.args.at c.args.bytes.now)

long : (c : Start) → length (part c) ≡ length c.args.these.now
long c = part_long c.args.bytes.now c.args.at (length c.args.these.now) c.requires

pub loop-i-init : goal.loop-i-init
loop-i-init c = refl

pub returns-then-bytes-at : goal.returns-then-bytes-at
returns-then-bytes-at c =
    let a = c.args in
    let s = (goal.at.returns-then-bytes-at c).Start in
    let all = long s in
    let here = part_byte a.bytes.now a.at (length a.these.now) c.requires c.loop-i.i (omega arith) in
    sym (c.loop-i.invariant ∙ same_stop (part s) a.these.now c.loop-i.i (omega arith) (omega arith) (λ e. c.if-bytes-at.true (sym here ∙ e)))

pub loop-i-preserved : goal.loop-i-preserved
loop-i-preserved c =
    let a = c.args in
    let s = (goal.at.loop-i-preserved c).Start in
    let all = long s in
    let here = part_byte a.bytes.now a.at (length a.these.now) c.requires c.loop-i.i (omega arith) in
    c.loop-i.invariant ∙ same_step (part s) a.these.now c.loop-i.i (omega arith) (omega arith) (here ∙ c.if-bytes-at.false)

pub returns : goal.returns
returns c =
    let s = (goal.at.returns c).Start in
    let all = long s in
    sym (c.loop-i.invariant ∙ same_end (part s) c.args.these.now c.loop-i.i (omega arith) (omega arith))
