-- Document 02, request d, "Over calls that hand the totals on, nobody else writing them": the claims over any list of calls.
-- Assumes nothing.
use Rattle.std.specs.Prelude.{◌≡◌, ℕ, ◌+◌, ◌-◌, ◌≤◌, List, [], ◌∷◌, map, get_or, eqb}
use Rattle.std.proofs.Math.Option
use Rattle.lists.specs.Lists.{cons_if, filter, joined, sum}
use Rattle.lists.specs.Permutations.{Perm}
use Rattle.totals.specs.Totals.{Credit, credits_of, after_sheet}

-- the totals after one call for each sheet of the list, in its order
unfoldable pub handed_on : (totals : List ℕ) (sheets : List (List ℕ)) → List ℕ
handed_on ts [] = ts
handed_on ts (s ∷ ss) = handed_on (after_sheet ts s).totals ss

-- "the accepted sheets": those that were answered with 0
unfoldable pub accepted : (totals : List ℕ) (sheets : List (List ℕ)) → List (List ℕ)
accepted ts [] = []
accepted ts (s ∷ ss) = cons_if (eqb (after_sheet ts s).number 0) s (accepted (after_sheet ts s).totals ss)

-- what a sheet's kind 1 records say
abbrev pub listed : (sheet : List ℕ) → List Credit
listed s = Option.get_or (credits_of s) []

-- what those of several sheets say, in order
unfoldable pub credits_in : (sheets : List (List ℕ)) → List Credit
credits_in ss = joined (map listed ss)

-- all their pieces
abbrev pub pieces_of : List Credit → ℕ
pieces_of cs = sum (map (λ c. c.pieces) cs)

-- "the growth of all totals together is the sum of all pieces in the accepted sheets"
abbrev pub Growth : Type 0
Growth = (ts : List ℕ) (ss : List (List ℕ)) → sum (handed_on ts ss) ≡ sum ts + pieces_of (credits_in (accepted ts ss))

-- beyond the request: so it is for each worker by themselves
abbrev pub GrowthOfEach : Type 0
GrowthOfEach = (w : ℕ) → 1 ≤ w → (ts : List ℕ) (ss : List (List ℕ)) →
    get_or (handed_on ts ss) (w - 1) 0 ≡ get_or ts (w - 1) 0 + pieces_of (filter (λ c. eqb c.worker w) (credits_in (accepted ts ss)))

-- "where two orders of the same sheets, from the same totals, are both accepted throughout, they end equal": throughout, so the accepted ones are all
abbrev pub OrdersEndEqual : Type 0
OrdersEndEqual = (ts : List ℕ) (one other : List (List ℕ)) → Perm one other → accepted ts one ≡ one → accepted ts other ≡ other →
    handed_on ts one ≡ handed_on ts other
