-- What the code's rules and the answer of the check mean in the definitions of the disc format.
-- Assumes nothing.
use Rattle.std.specs.Prelude.{ℕ, Ok, Err}
use Rattle.std.specs.declared.result.Result.{Result}
use Rattle.format.specs.Calls.{CheckAnswer}
use Rattle.refusals.specs.declared.Refusal.{Refusal}
use Rattle.refusals.specs.Meaning.{number_of_refusal}
use Rattle.fsck.specs.declared.Rule.{Rule}
use Rattle.fsck.specs.declared.Rule.TheVariants.{DirectoryPointer, DirectoryChain, Entries, Names, Files, FreeChain, UsedCount, EverySector}

-- the rule's number
abbrev pub number_of_rule : Rule → ℕ
number_of_rule DirectoryPointer = 1
number_of_rule DirectoryChain = 2
number_of_rule Entries = 3
number_of_rule Names = 4
number_of_rule Files = 5
number_of_rule FreeChain = 6
number_of_rule UsedCount = 7
number_of_rule EverySector = 8

-- the number of the rule that is broken, or 0
abbrev pub rule_of : {A : Type 0} → Result A Rule → ℕ
rule_of (Ok a) = 0
rule_of (Err r) = number_of_rule r

-- The number and the rule of each case. They fix the answer: 0 and 0 is `Ok (Ok a)` alone, since refusals and rules have numbers above 0.
abbrev pub answer_of : {A : Type 0} → Result (Result A Rule) Refusal → CheckAnswer
answer_of (Err e) = record { number = number_of_refusal e; rule = 0 }
answer_of (Ok verdict) = record { number = 0; rule = rule_of verdict }
