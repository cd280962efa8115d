-- `slots::is_attribute` meets its contract.
use Rattle.std.proofs.Common.{eq-eqb, ne_eqb}
use Rattle.slots.proofs.is_attribute.Goals as goal

pub returns-then-attribute-eq-UNPROTECTED : goal.returns-then-attribute-eq-UNPROTECTED
returns-then-attribute-eq-UNPROTECTED c = simp (eq-eqb _ _ c.if-attribute-eq-UNPROTECTED.true)

pub returns-else-attribute-eq-UNPROTECTED : goal.returns-else-attribute-eq-UNPROTECTED
returns-else-attribute-eq-UNPROTECTED c = simp (ne_eqb _ _ c.if-attribute-eq-UNPROTECTED.false)
