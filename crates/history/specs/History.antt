-- Document 01, 'The free-sector sum of demand 3': runs of commands, the history's book, and the sum. "The history is a plain book": nothing
-- here looks at an image but for the start's.
-- Assumes nothing.
use Rattle.std.specs.Prelude.{ℕ, zero, suc, ◌+◌, ◌*◌, ◌/◌, ◌-◌, max, Bool, not, cond, List, [], ◌∷◌, map, length, eqb, ltb}
use Rattle.std.proofs.Math.Option.{Option, none, some, get_or}
use Rattle.lists.specs.Lists.{any, filter, same, sum}
use Rattle.format.specs.Refusals.{Try, Refusal, NAME, TAKEN, MODULE, ROOM, NOT-PLAIN, SHORT, refused, ok, ◌>>=◌, ◌>>◌, refuse◌if◌, ◌or_refuse◌}
use Rattle.format.specs.Geometry.{Format, Geometry, sectors, Disc}
use Rattle.format.specs.Names.{stored}
use Rattle.format.specs.Layout.{slots_each, name_of, length_of, directory, entries}
use Rattle.format.specs.Modules.{Module, storable, sectors_for}
use Rattle.format.specs.Effects.{reading}
use Rattle.format.specs.Writes.{list_size}
use Rattle.format.specs.Calls.{Answer, answered, ChangeAnswer, after_list, after_read, after_save, after_delete, after_rename, after_protect, after_check, view_number}

-- ---- runs

-- "The list gives each command's arguments as handed in: the bytes of every name, sheet and lent buffer, and every number". A module is a
-- save's page, start, transfer and sheet. "A blank disc is itself a start", and "After a replay demand 3 starts anew from the next sound image": so neither
-- is a command of a run, and the claim is over runs from any sound image. Lists in which these, repairs and pulled cards stand too: Events.
pub data Command : Type 0 where
  list : (buffer : List ℕ) → Command
  read : (name buffer : List ℕ) → Command
  save : (name : List ℕ) (m : Module) (buffer : List ℕ) → Command
  delete : (name buffer : List ℕ) → Command
  rename : (old new buffer : List ℕ) → Command
  protect : (name : List ℕ) (on : ℕ) (buffer : List ℕ) → Command
  check : Command
  view : (track sector : ℕ) → Command

-- of a command that gives the list of its writes: the number, and the image
abbrev pub leaving : ChangeAnswer → Answer
leaving a = answered a.number a.image

module _ (F : Format) where
  -- What a command answers, and the image as it leaves it: the definitions that the public calls' contracts cite. List, read, check and view
  -- are lent the image to read only: their types say that it stays.
  unfoldable pub step : List ℕ → Command → Answer
  step image (list buffer) = answered (after_list F image buffer).number image
  step image (read name buffer) = answered (after_read F image name buffer).number image
  step image (save name m buffer) = leaving (after_save F image name m buffer)
  step image (delete name buffer) = leaving (after_delete F image name buffer)
  step image (rename old new buffer) = leaving (after_rename F image old new buffer)
  step image (protect name on buffer) = leaving (after_protect F image name on buffer)
  step image check = answered (after_check F image).number image
  step image (view t s) = answered (view_number F image t s) image

  -- the image after a list of commands, each on the image as the one before left it
  unfoldable pub run : List ℕ → List Command → List ℕ
  run image [] = image
  run image (c ∷ cs) = run (step image c).image cs

-- ---- the book

-- "each standing file's nine name bytes, sector count and reading: page, start, end, transfer, L and the L bytes, or 9": none is 9
pub record File : Type 0 where
  pub name : List ℕ
  pub count : ℕ
  pub reading : Option Module

-- the standing files, and P, "the most files that stood at any moment from the start on"
pub record Book : Type 0 where
  pub files : List File
  pub peak : ℕ

-- the book with these files standing now
abbrev pub standing : Book → List File → Book
standing b fs = record { files = fs; peak = max b.peak (length fs) }

-- a file of this name
abbrev pub named : List ℕ → File → Bool
named nine f = same f.name nine

-- the stored name of an accepted command
abbrev pub nine_of : List ℕ → List ℕ
nine_of typed = get_or (stored typed) []

-- the file with its new name, if it has the old one
abbrev pub renamed : List ℕ → List ℕ → File → File
renamed old new f = record { name = cond (named old f) new f.name; count = f.count; reading = f.reading }

-- "An accepted save adds its stored name, its module's count, and its module as the reading. An accepted delete takes out the file of that
-- name; an accepted rename changes its name bytes. Any other command .. changes nothing."
unfoldable pub accepted : Book → Command → Book
accepted b (list buffer) = b
accepted b (read name buffer) = b
accepted b (save name m buffer) = standing b (record { name = nine_of name; count = sectors_for (length m.bytes); reading = some m } ∷ b.files)
accepted b (delete name buffer) = standing b (filter (λ f. not (named (nine_of name) f)) b.files)
accepted b (rename old new buffer) = standing b (map (renamed (nine_of old) (nine_of new)) b.files)
accepted b (protect name on buffer) = b
accepted b check = b
accepted b (view t s) = b

-- "whether it was accepted (answered 0)"; "a refused one, changes nothing"
unfoldable pub entered : Book → Command → (answer : ℕ) → Book
entered b c zero = accepted b c
entered b c (suc k) = b

-- "At the start these are the entries', each reading as read with a buffer of 65,536 bytes gives it." (read finds the entry of a name,
-- gives 9 exactly where `reading` is none, and no module has more than 65,536 bytes)
unfoldable pub opening_book : Geometry → Disc → Book
opening_book G d =
    let fs : List File = map (λ s. record { name = name_of s; count = length_of s; reading = reading G d s }) (entries G d) in
    record { files = fs; peak = length fs }

-- the book after a list of commands, fed each command and its answer; the image is there only to be asked for the answers
unfoldable pub book_after : Format → Book → List ℕ → List Command → Book
book_after F b image [] = b
book_after F b image (c ∷ cs) = book_after F (entered b c (step F image c).number) (step F image c).image cs

-- what read is to give of a file of the book, lent so much room: "for a reading of 9, read gives 9; otherwise 10 if the lent buffer is
-- shorter than L, else 0 with the reading"
unfoldable pub says : Option Module → (room : ℕ) → Try Refusal Module
says none room = refused NOT-PLAIN
says (some m) room = refuse SHORT if ltb room (length m.bytes) >> ok m

-- ---- the sum

module _ (G : Geometry) (start : Disc) (b : Book) where
  -- "Directory is the larger of its size at the start and P/15 rounded up"
  unfoldable pub sum_directory : ℕ
  sum_directory = max (length (directory G start)) ((b.peak + (slots_each - 1)) / slots_each)

  -- "Files is the sum of the sector counts of the files now standing"
  unfoldable pub sum_files : ℕ
  sum_files = sum (map (λ f. f.count) b.files)

  -- "Free = 10T - 1 - directory - files."
  unfoldable pub sum_free : ℕ
  sum_free = sectors G - 1 - sum_directory - sum_files

  -- "A save needs the sectors of its module, and one more if the files now standing are 15 times Directory."
  unfoldable pub sum_need : Module → ℕ
  sum_need m = sectors_for (length m.bytes) + cond (eqb (length b.files) (slots_each * sum_directory)) 1 0

  -- What a save answers by the book, lent so much room for its list: "refused for room exactly when that sum is too small", where no refusal that ranks
  -- before applies; then 10, where the list is longer: its writes are the sectors that the save needs, the system sector and one of the directory.
  unfoldable pub save_says : (name : List ℕ) (m : Module) (room : ℕ) → Try Refusal (Unit {0})
  save_says name m room = do
    nine ← stored name or_refuse NAME
    refuse MODULE if not (storable m)
    refuse TAKEN if any (named nine) b.files
    refuse ROOM if ltb sum_free (sum_need m)
    refuse SHORT if ltb room (list_size (sum_need m + 2))
