-- Document 02, request d, 'Weekly totals from the sheets': what a sheet is, and what adding one to running totals answers and leaves.
-- That a total has "32 bits, no sign" is its type in the code; here it is any number.
-- Assumes nothing.
use Rattle.std.specs.Prelude.{ℕ, ◌+◌, ◌-◌, Bool, not, ◌&&◌, cond, List, [], ◌∷◌, length, get_or, set, eqb, leb}
use Rattle.std.proofs.Math.Option.{Option, none, some}
use Rattle.lists.specs.Lists.{all, word_at}
use Rattle.format.specs.Refusals.{Try, Refusal, BAD-SHEET, TOTAL, ok, ◌>>=◌, ◌>>◌, refuse◌if◌, ◌or_refuse◌, number, value_or}

-- ---- a sheet

-- "workers 1 to 500": so many totals
abbrev pub workers : ℕ
workers = 500

-- what a kind 1 record says: "worker number and pieces"
pub record Credit : Type 0 where
  pub worker : ℕ
  pub pieces : ℕ

-- "body of worker number and pieces, two bytes each, low first"
abbrev pub credit_of : (body : List ℕ) → Credit
credit_of body = record { worker = word_at body 0; pieces = word_at body 2 }

-- not "a worker outside 1 to 500"
abbrev pub is_worker : ℕ → Bool
is_worker w = leb 1 w && leb w workers

-- c in front, where there is a list
abbrev pub and_then : Credit → Option (List Credit) → Option (List Credit)
and_then c none = none
and_then c (some cs) = some (c ∷ cs)

-- A record in front of what follows it: "kind 1, body of worker number and pieces ..; kind 2, a body of four date bytes that is skipped".
-- None: "Another kind", "a worker outside 1 to 500", "bytes after the end" where the kind is 0, or nothing good follows.
abbrev pub in_front : (kind : ℕ) (body : List ℕ) → Option (List Credit) → Option (List Credit)
in_front kind body cs =
    cond (eqb kind 1)
    (cond (is_worker (credit_of body).worker) (and_then (credit_of body) cs) none)
    (cond (eqb kind 2) cs none)

-- "A sheet is a module whose bytes are records": what its kind 1 records say, in order; none if the bytes are no sheet
unfoldable pub credits_of : List ℕ → Option (List Credit)
-- "a missing end"
credits_of [] = none
-- "kind 0, no body, which must be the last byte"; else "a cut record" or "Another kind"
credits_of (k ∷ []) = cond (eqb k 0) (some []) none
-- too few bytes for a record and too many for the end: "a cut record", "bytes after the end" or "Another kind"
credits_of (k ∷ a ∷ []) = none
credits_of (k ∷ a ∷ b ∷ []) = none
credits_of (k ∷ a ∷ b ∷ c ∷ []) = none
credits_of (k ∷ a ∷ b ∷ c ∷ d ∷ rest) = in_front k (a ∷ b ∷ c ∷ d ∷ []) (credits_of rest)

-- ---- the totals

-- the most that a total may be: not "more than 1,000,000,000"
abbrev pub max_total : ℕ
max_total = 1000000000

-- no total is more
abbrev pub within : List ℕ → Bool
within ts = all (λ t. leb t max_total) ts

-- "each kind 1 record adds its pieces", to the total of its worker
unfoldable pub add_credit : Credit → List ℕ → List ℕ
add_credit c ts = set ts (c.worker - 1) (get_or ts (c.worker - 1) 0 + c.pieces)

-- the totals when all are added
unfoldable pub add_credits : List Credit → List ℕ → List ℕ
add_credits [] ts = ts
add_credits (c ∷ cs) ts = add_credits cs (add_credit c ts)

-- ".. or a table of another length gives 12, BAD SHEET. Then, if a lent total is or would become more than 1,000,000,000, the answer is 13, TOTAL."
unfoldable pub add_sheet : (totals sheet : List ℕ) → Try Refusal (List ℕ)
add_sheet totals sheet = do
  refuse BAD-SHEET if not (eqb (length totals) workers)
  cs ← credits_of sheet or_refuse BAD-SHEET
  refuse TOTAL if not (within totals && within (add_credits cs totals))
  ok (add_credits cs totals)

-- the number, and the totals afterwards
pub record SheetAnswer : Type 0 where
  pub number : ℕ
  pub totals : List ℕ

-- "Either leaves every total as it stood."
unfoldable pub after_sheet : (totals sheet : List ℕ) → SheetAnswer
after_sheet totals sheet = record { number = number (add_sheet totals sheet); totals = value_or totals (add_sheet totals sheet) }
