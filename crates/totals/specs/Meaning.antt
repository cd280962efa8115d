-- What the code's steps make of a sheet and of sums.
-- Assumes nothing.
use Rattle.std.specs.Prelude.{◌≡◌, ℕ, true, not, cond, List, [], ◌∷◌, length, eqb, Ok, Err, Some, None}
use Rattle.std.specs.declared.option.Option.{Option}
use Rattle.std.specs.declared.result.Result.{Result}
use Rattle.std.specs.Str.{bytes_eq}
use Rattle.std.proofs.Math.Option as math
use Rattle.std.proofs.Math.Option.{none, some}
use Rattle.lists.specs.Lists.{byte, word_at}
use Rattle.format.specs.Refusals as format
use Rattle.format.specs.Refusals.{Try, BAD-SHEET, TOTAL, refused, ok, ◌>>◌, refuse◌if◌}
use Rattle.refusals.specs.Meaning.{reason}
use Rattle.refusals.specs.declared.Refusal.{Refusal}
use Rattle.refusals.specs.declared.Refusal.TheVariants.{BadSheet, Total}
use Rattle.totals.specs.declared.Credit as code
use Rattle.totals.specs.Totals.{Credit, is_worker, and_then, add_credits, within, workers}

-- ---- a record

-- what the code's credit says
abbrev pub said : code.Credit → Credit
said c = record { worker = c.worker; pieces = c.pieces }

-- what a record of five bytes says; nothing for a date
abbrev pub record_of : List ℕ → Result (Option code.Credit) Refusal
record_of r =
    cond (eqb (byte r 0) 1)
    (cond (is_worker (word_at r 1)) (Ok (Some (record { worker = word_at r 1; pieces = word_at r 3 }))) (Err BadSheet))
    (cond (eqb (byte r 0) 2) (Ok None) (Err BadSheet))

-- what was read, in front of what follows it
abbrev pub read_front : Result (Option code.Credit) Refusal → math.Option (List Credit) → math.Option (List Credit)
read_front (Ok (Some c)) cs = and_then (said c) cs
read_front (Ok None) cs = cs
read_front (Err e) cs = none

-- what fewer than five bytes are: a sheet's end, or none
abbrev pub end_of : List ℕ → Result (Unit {0}) Refusal
end_of bs = cond (bytes_eq bs (0 ∷ [])) (Ok tt) (Err BadSheet)

-- whether there is a sheet
abbrev pub sheet_check : math.Option (List Credit) → Result (Unit {0}) Refusal
sheet_check none = Err BadSheet
sheet_check (some cs) = Ok tt

-- ---- sums

-- totals that the code adds to
pub record Running (sums : List ℕ) : Type 0 where
  pub long : length sums ≡ workers
  pub low : within sums ≡ true

-- what is left of a sheet, added to sums that are within the limit
unfoldable pub tallied : math.Option (List Credit) → List ℕ → Try format.Refusal (List ℕ)
tallied none sums = refused BAD-SHEET
tallied (some cs) sums = refuse TOTAL if not (within (add_credits cs sums)) >> ok (add_credits cs sums)

-- the answer where a sum is above the limit already, by what is left of the sheet
abbrev pub too_many : math.Option (List Credit) → Result (Unit {0}) Refusal
too_many none = Err BadSheet
too_many (some cs) = Err Total

-- the code's answer, with the sums beside it
abbrev pub told : Result (Unit {0}) Refusal → List ℕ → Try format.Refusal (List ℕ)
told (Ok u) sums = ok sums
told (Err e) sums = refused (reason e)
