-- The records of a listing by their parts, and the answer of the call.
-- Assumes nothing.
use Rattle.std.specs.Prelude.{ℕ, List, [], ◌∷◌, ◌++◌, map}
use Rattle.lists.specs.Lists.{word, joined}
use Rattle.format.specs.Geometry.{Disc}
use Rattle.format.specs.Layout.{free_count, used_count, disc_name_of, Slot, in_use, name_of, length_of, attribute_of}
use Rattle.format.specs.Calls.{ListAnswer}
use Rattle.answers.specs.declared.filled.Filled.{Filled}

-- "kind 1, nine disc name bytes, free count, used count (low first)"
abbrev pub disc_record : Disc → List ℕ
disc_record d = 1 ∷ disc_name_of d ++ word (free_count d) ++ word (used_count d)

-- "kind 2, nine name bytes, length (low first), attribute"
abbrev pub entry_record : Slot → List ℕ
entry_record s = 2 ∷ name_of s ++ word (length_of s) ++ attribute_of s ∷ []

-- "for each entry": the records of those slots that aren't free
unfoldable pub records_of : List Slot → List ℕ
records_of ss = joined (map entry_record (in_use ss))

-- what the code answers, and the buffer afterwards
abbrev pub list_answer : Filled → List ℕ → ListAnswer
list_answer r buffer = record { number = r.number; size = r.length; buffer = buffer }
