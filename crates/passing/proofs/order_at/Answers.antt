-- `passing::order_at` meets its contract: each table is the order of its kind.
use Rattle.std.proofs.Common.{sym, ap, List, ℕ, get_or}
use Rattle.format.specs.Geometry.{ten, nine}
use Rattle.passing.specs.Stops.{order_of_nine, order_of_ten}
use Rattle.passing.proofs.order_at.Goals as goal

pub returns-then-g-eq-NINE : goal.returns-then-g-eq-NINE
unfolding nine
returns-then-g-eq-NINE c = ap (λ (o : List ℕ). get_or o c.args.i 0) (sym (order_of_nine c.requires.0 c.if-g-eq-NINE.true))

pub returns : goal.returns
unfolding ten
returns c = ap (λ (o : List ℕ). get_or o c.args.i 0) (sym (order_of_ten c.requires.0 c.if-g-eq-NINE.false))
