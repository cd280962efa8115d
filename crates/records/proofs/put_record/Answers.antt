-- `records::put_record` meets its contract.
use Rattle.std.proofs.Common.{arith, ◌≡◌, refl, ap, ◌∙◌, List, ℕ, ◌+◌, length, length-set}
use lib.Seq.{sets, length-sets}
use Rattle.records.specs.Storing.{stored_three}
use Rattle.records.proofs.put_record.Goals as goal
use Rattle.records.proofs.put_record.Goals.{After-copy}

first_long : (c : After-copy) → length c.copy.new.to ≡ length c.args.buffer.now
first_long c = ap length c.copy.ensures ∙ simp (length-sets, length-set)

pub copy-requires : goal.copy-requires
copy-requires c = simp length-set (omega arith)

pub copy-requires-2 : goal.copy-requires-2
copy-requires-2 c = let long = first_long (goal.at.copy-requires-2 c).After-copy in omega arith

pub shape_of-buffer : goal.shape_of-buffer
shape_of-buffer c = ap length c.copy-2.ensures ∙ simp length-sets (first_long (goal.at.shape_of-buffer c).After-copy)

pub returns : goal.returns
returns c =
    let a = c.args in
    let next : ℕ = a.at + 1 + length a.first.now in
    stored_three a.buffer.now a.at a.kind a.first.now a.second.now
    (c.copy-2.ensures ∙ ap (λ (b : List ℕ). sets b next a.second.now) c.copy.ensures) refl
