-- Sheets and totals whose answers were worked out by hand from document 02, computed by the checker: definition and code cannot share an error.
-- Assumes nothing.
use Rattle.std.specs.Prelude.{◌≡◌, refl, ℕ, ◌-◌, List, [], ◌∷◌, set, replicate}
use Rattle.format.specs.Refusals.{◌>>=◌, ◌>>◌, refuse◌if◌, ◌or_refuse◌, number, value_or}
use Rattle.totals.specs.Totals.{credits_of, add_credit, add_credits, add_sheet, after_sheet}

zeros : List ℕ
zeros = replicate 500 0

-- totals of 0, but for worker w's
only : (w t : ℕ) → List ℕ
only w t = set zeros (w - 1) t

-- for these totals and this sheet, the answer n and these totals afterwards
abbrev Row : (totals sheet : List ℕ) (n : ℕ) (after : List ℕ) → Type 0
Row totals sheet n after = after_sheet totals sheet ≡ record { number = n; totals = after }

-- refused with n: "Either leaves every total as it stood."
abbrev Refused : (totals sheet : List ℕ) (n : ℕ) → Type 0
Refused totals sheet n = Row totals sheet n totals

record Weekly : Type 0 where
  -- "kind 1, body of worker number and pieces, two bytes each, low first": worker 7 and 300 pieces; worker 500 and one
  worker_7 : Row zeros (0x01 ∷ 0x07 ∷ 0x00 ∷ 0x2C ∷ 0x01 ∷ 0x00 ∷ []) 0 (only 7 300)
  worker_500 : Row zeros (0x01 ∷ 0xF4 ∷ 0x01 ∷ 0x01 ∷ 0x00 ∷ 0x00 ∷ []) 0 (only 500 1)
  -- "each kind 1 record adds its pieces"
  twice : Row (only 1 10) (0x01 ∷ 0x01 ∷ 0x00 ∷ 0x05 ∷ 0x00 ∷ 0x01 ∷ 0x01 ∷ 0x00 ∷ 0xFF ∷ 0xFF ∷ 0x00 ∷ []) 0 (only 1 65550)
  -- "kind 2, a body of four date bytes that is skipped", whatever they are
  date : Row zeros (0x02 ∷ 0x00 ∷ 0x01 ∷ 0xFF ∷ 0x00 ∷ 0x01 ∷ 0x02 ∷ 0x00 ∷ 0x03 ∷ 0x00 ∷ 0x00 ∷ []) 0 (only 2 3)
  -- "kind 0, no body, which must be the last byte"
  end_alone : Row zeros (0x00 ∷ []) 0 zeros
  -- "Another kind"
  kind_3 : Refused zeros (0x03 ∷ 0x01 ∷ 0x00 ∷ 0x01 ∷ 0x00 ∷ 0x00 ∷ []) 12
  -- "a cut record"
  cut_pieces : Refused zeros (0x01 ∷ 0x07 ∷ 0x00 ∷ 0x00 ∷ []) 12
  cut_date : Refused zeros (0x02 ∷ 0x01 ∷ 0x02 ∷ 0x00 ∷ []) 12
  -- "a missing end"
  no_bytes : Refused zeros [] 12
  no_end : Refused zeros (0x01 ∷ 0x07 ∷ 0x00 ∷ 0x2C ∷ 0x01 ∷ []) 12
  -- "bytes after the end"
  two_ends : Refused zeros (0x00 ∷ 0x00 ∷ []) 12
  sheet_after_end : Refused zeros (0x00 ∷ 0x01 ∷ 0x07 ∷ 0x00 ∷ 0x2C ∷ 0x01 ∷ 0x00 ∷ []) 12
  -- "a worker outside 1 to 500"
  worker_0 : Refused zeros (0x01 ∷ 0x00 ∷ 0x00 ∷ 0x01 ∷ 0x00 ∷ 0x00 ∷ []) 12
  worker_501 : Refused zeros (0x01 ∷ 0xF5 ∷ 0x01 ∷ 0x01 ∷ 0x00 ∷ 0x00 ∷ []) 12
  -- "a table of another length"
  table_499 : Refused (replicate 499 0) (0x00 ∷ []) 12
  table_501 : Refused (replicate 501 0) (0x00 ∷ []) 12
  -- "Then, if a lent total is or would become more than 1,000,000,000"
  becomes_most : Row (only 7 999999700) (0x01 ∷ 0x07 ∷ 0x00 ∷ 0x2C ∷ 0x01 ∷ 0x00 ∷ []) 0 (only 7 1000000000)
  becomes_more : Refused (only 7 999999701) (0x01 ∷ 0x07 ∷ 0x00 ∷ 0x2C ∷ 0x01 ∷ 0x00 ∷ []) 13
  is_most : Row (only 8 1000000000) (0x00 ∷ []) 0 (only 8 1000000000)
  is_more : Refused (only 8 1000000001) (0x00 ∷ []) 13
  -- "gives 12, BAD SHEET. Then"
  both : Refused (only 8 1000000001) [] 12

weekly : Weekly
unfolding ◌>>=◌ ◌>>◌ refuse◌if◌ ◌or_refuse◌ number value_or credits_of add_credit add_credits add_sheet after_sheet zeros only
weekly =
    record {
      worker_7 = refl;
      worker_500 = refl;
      twice = refl;
      date = refl;
      end_alone = refl;
      kind_3 = refl;
      cut_pieces = refl;
      cut_date = refl;
      no_bytes = refl;
      no_end = refl;
      two_ends = refl;
      sheet_after_end = refl;
      worker_0 = refl;
      worker_501 = refl;
      table_499 = refl;
      table_501 = refl;
      becomes_most = refl;
      becomes_more = refl;
      is_most = refl;
      is_more = refl;
      both = refl;
    }
