-- `fsck_chains::follow_from` meets its contract.
use Rattle.std.proofs.Common.{rules, arith, ◌+◌, ◌-◌, set, refl, ap}
use Rattle.format.specs.Geometry.{go}
use Rattle.geometry.specs.Meaning.{geo, sectors_of}
use Rattle.disc.specs.Meaning.{led}
use Rattle.disc.specs.Laws.{reached}
use Rattle.fsck_chains.specs.Walks.{Walking, walking_start, walking_stop, walking_off, walking_any, walking_long, walking_twice, walking_go}
use Rattle.fsck_chains.proofs.follow_from.Goals.{After-step_from}
use Rattle.fsck_chains.proofs.follow_from.Goals as goal

-- the walk after a sector without a mark
gone : (c : After-step_from) → let a = c.args in
    let n = c.loop-count.at.number.0 in
    let k = c.loop-count.count + 1 in
    Walking (geo a.g) (sectors_of a.g a.image.now) (a.g.sectors - k) k (led c.step_from.result) (set c.loop-count.marks n 1) n
    (go a.first.number.0) a.marks.now
gone c = walking_go c.loop-count.invariant.2 _ refl _ (omega arith) c.if-is_met.false _ c.step_from.ensures.0

pub loop-count-init : goal.loop-count-init
loop-count-init c = (search rules, c.requires.1, walking_start _ _ _ (omega arith))

pub returns-then-count-most : goal.returns-then-count-most
returns-then-count-most c = walking_long c.loop-count.invariant.2 _ refl (omega (arith, c.if-count-most.true))

pub returns-then-is_met : goal.returns-then-is_met
returns-then-is_met c = walking_twice c.loop-count.invariant.2 _ refl c.if-is_met.true

pub returns-in-End : goal.returns-in-End
returns-in-End c = walking_stop (gone (goal.at.returns-in-End c).After-step_from) (ap led c.in-End.is) _ refl refl

pub returns-in-Off : goal.returns-in-Off
returns-in-Off c = walking_off (gone (goal.at.returns-in-Off c).After-step_from) (ap led c.in-Off.is)

pub loop-count-preserved : goal.loop-count-preserved
loop-count-preserved c =
    let to = c.in-To.is in
    (omega arith, reached _ to c.step_from.ensures.1, walking_any (gone (goal.at.loop-count-preserved c).After-step_from) _ (ap led to) 0)
