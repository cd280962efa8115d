-- `advance` of the directory's sectors meets its contract.
use Rattle.std.proofs.Common.{arith, ap, refl}
use Rattle.disc.specs.Meaning.{meaning}
use Rattle.directory.specs.Walk.{rest_of}
use Rattle.directory.specs.Laws.{rest_none, met_nowhere, met_next, led_below, at_inside}
use Rattle.directory.proofs.walk.Sectors.advance.Goals as goal

pub returns-then-is_over-clause-steps : goal.returns-then-is_over-clause-steps
returns-then-is_over-clause-steps c = let over = rest_none c.args.self.now c.if-is_over.true in (over, over)

pub returns-then-is_over-clause-keeps : goal.returns-then-is_over-clause-keeps
returns-then-is_over-clause-keeps c = record { on = refl; lent = refl; inside = at_inside c.args.self.now }

pub returns-in_default : goal.returns-in_default
unfolding rest_of
returns-in_default c =
    let over = met_nowhere _ _ _ _ c.in_default.not-To in
    record { steps = (over, over); on_disc = tt; keeps = record { on = refl; lent = refl; inside = at_inside c.args.self.now } }

pub link_of-self-requires : goal.link_of-self-requires
link_of-self-requires c = let w = c.args.self.now in (w.on_image, w.inside _ (ap meaning c.in-To.is))

pub invariant_of-self : goal.invariant_of-self
invariant_of-self c = let w = c.args.self.now in record { on_image = w.on_image; inside = led_below w.on_image _ _ _ c.link_of-self.ensures }

pub returns-clause-steps : goal.returns-clause-steps
unfolding rest_of
returns-clause-steps c = met_next _ _ _ _ _ _ (omega arith) c.in-To.is c.link_of-self.ensures

pub returns-clause-on_disc : goal.returns-clause-on_disc
returns-clause-on_disc c = c.args.self.now.inside _ (ap meaning c.in-To.is)
