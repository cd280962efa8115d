-- The answer of a function that reads a typed name.
-- Assumes nothing.
use Rattle.std.specs.Prelude.{◌≡◌, refl, ℕ, Bool, true, false, cond, List, Ok, Err}
use Rattle.std.specs.declared.result.Result.{Result}
use Rattle.std.proofs.Math.Option.{Option, none, some}
use Rattle.format.specs.Names.{stored, legal_stored}
use Rattle.format.proofs.NameLaws.{stored_legal}
use Rattle.refusals.specs.declared.Refusal.{Refusal}
use Rattle.refusals.specs.declared.Refusal.TheVariants as refusal
use Rattle.names.specs.declared.Name.{Name}

-- the nine bytes as stored, or refusal 2
abbrev pub parsed : Option (List ℕ) → Result Name Refusal
parsed none = Err refusal.Name
parsed (some nine) = Ok (record { bytes = nine })

-- what a caller learns from the answer
pub parsed_err : (o : Option (List ℕ)) (e : Refusal) → Err e ≡ parsed o → o ≡ none
parsed_err none e is = refl
parsed_err (some nine) e is = cc

-- the only refusal
pub parsed_name : (o : Option (List ℕ)) (e : Refusal) → Err e ≡ parsed o → e ≡ refusal.Name
parsed_name none e is = cc
parsed_name (some nine) e is = cc

pub parsed_ok : (o : Option (List ℕ)) (n : Name) → Ok n ≡ parsed o → o ≡ some n.bytes
parsed_ok none n is = cc
parsed_ok (some nine) n is = cc

-- where a test decides
pub parsed_cond : (b : Bool) (nine : List ℕ) (n : Name) → Ok n ≡ parsed (cond b (some nine) none) → (b ≡ true) × (n.bytes ≡ nine)
parsed_cond true nine n is = (refl, cc)
parsed_cond false nine n is = cc

-- an accepted file name is a legal one
pub parsed_legal : (typed : List ℕ) (n : Name) → Ok n ≡ parsed (stored typed) → legal_stored n.bytes ≡ true
parsed_legal typed n is = stored_legal typed n.bytes (parsed_ok (stored typed) n is)
