-- `fsck::all_marked` meets its contract.
use Rattle.std.proofs.Common.{arith, rules, ◌≡◌, ◌∙◌, ◌-◌, min, take, drop, not, eqb, ap, ℕ}
use Rattle.std.proofs.iter.runs.Made.{chains}
use Rattle.std.specs.List.{fold}
use Rattle.fsck.specs.Free.{least_marked}
use Rattle.fsck.proofs.all_marked.Goals as goal

least : (c : goal.After-fold-least) → c.fold-least.result ≡ fold min 1 (take (c.args.total - 1) (drop 1 c.args.marks.now))
least c = search (rules, chains)

pub returns : goal.returns
returns c = ap (λ (k : ℕ). not (eqb k 0)) (least c) ∙ least_marked c.args.marks.now 1 (c.args.total - 1) (omega (arith, c.told-marks))
