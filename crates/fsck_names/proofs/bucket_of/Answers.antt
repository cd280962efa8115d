-- `fsck_names::bucket_of` meets its contract.
use Rattle.std.proofs.Common.{rules, arith, ℕ, ◌≡◌, ◌+◌, ◌-◌, ◌%◌, ap, ◌∙◌, take, drop}
use Rattle.fsck_names.specs.Tally.{bucket_of, bucket_one, bucket_many}
use Rattle.fsck_names.proofs.bucket_of.Goals as goal

pub returns-then-size-ne-BUCKETS : goal.returns-then-size-ne-BUCKETS
returns-then-size-ne-BUCKETS c = (bucket_one _ _ c.if-size-ne-BUCKETS.true, c.requires.1)

pub returns : goal.returns
returns c =
    let a = c.args in
    let nine : a.at + 9 - a.at ≡ 9 = omega arith in
    let same_name = ap (λ (k : ℕ). bucket_of a.size (take k (drop a.at a.image.now))) nine in
    (ap (λ (n : ℕ). n % 16384) c.spread_of-sum.ensures ∙ bucket_many a.size _ c.if-size-ne-BUCKETS.false ∙ same_name, search rules)
