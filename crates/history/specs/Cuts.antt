-- Document 02, request g: "cut any list of request e) after any whole sector write and repair; the disc is sound, every file not named by the
-- command reads as before, and the named one is as before the command or as after it."; and what a repair leaves of any image
-- on which rules 1 to 5 hold.
-- Assumes nothing.
use Rattle.std.specs.Prelude.{◌≡◌, ◌≢◌, ℕ, ◌+◌, ◌≤◌, ◌<◌, Bool, cond, ◌&&◌, ◌||◌, false, true, List, [], ◌∷◌, length, take, leb, ltb}
use Rattle.std.proofs.Math.Option.{some}
use Rattle.lists.specs.Lists.{byte, same, times, last_or}
use Rattle.format.specs.Refusals.{Try, Refusal, ok, ◌>>=◌}
use Rattle.format.specs.Geometry.{Format, Geometry, geometry, Disc, sector, cut, Write}
use Rattle.format.specs.Names.{stored}
use Rattle.format.specs.Layout.{free_offset, free_count_offset, system, entries, free}
use Rattle.format.specs.Modules.{Module}
use Rattle.format.specs.Check.{files_hold}
use Rattle.format.specs.Effects.{body, unmet}
use Rattle.format.specs.Writes.{writes_in}
use Rattle.format.specs.Calls.{save_on, delete_on, rename_on, protect_on, changed, Answer, answer_by, ChangeAnswer, after_check, after_read, after_save, after_delete, after_rename, after_protect, after_repair}
use Rattle.history.specs.History.{Command, nine_of, opening_book}
use Rattle.history.specs.Demand3.{is_sound, Handed}

-- ---- the commands that give a list

-- "save, delete, rename and protect", with their arguments but the buffer that is lent for the list
pub data Writing : Type 0 where
  save : (name : List ℕ) (m : Module) → Writing
  delete : (name : List ℕ) → Writing
  rename : (old new : List ℕ) → Writing
  protect : (name : List ℕ) (on : ℕ) → Writing

-- the command, lent this buffer
abbrev pub as_command : Writing → (buffer : List ℕ) → Command
as_command (save name m) buffer = Command.save name m buffer
as_command (delete name) buffer = Command.delete name buffer
as_command (rename old new) buffer = Command.rename old new buffer
as_command (protect name on) buffer = Command.protect name on buffer

-- its refusals after 1 and before 10, and its writes in order
unfoldable pub writes_on : Writing → Geometry → Disc → Try Refusal (List Write)
writes_on (save name m) G d = save_on G d name m
writes_on (delete name) G d = delete_on G d name
writes_on (rename old new) G d = rename_on G d old new
writes_on (protect name on) G d = protect_on G d name on

-- what its call answers and leaves
unfoldable pub after_writing : Format → (image : List ℕ) → Writing → (buffer : List ℕ) → ChangeAnswer
after_writing F image (save name m) buffer = after_save F image name m buffer
after_writing F image (delete name) buffer = after_delete F image name buffer
after_writing F image (rename old new) buffer = after_rename F image old new buffer
after_writing F image (protect name on) buffer = after_protect F image name on buffer

-- ---- a cut

-- "cut .. after any whole sector write": the first writes of the list, as many as were made
unfoldable pub cut_on : Writing → (count : ℕ) → Geometry → Disc → Try Refusal (List Write)
cut_on w k G d = do
  ws ← writes_on w G d
  ok (take k ws)

-- the image on a card that was pulled when so many were made; that the command was accepted, 10 included, is asked where this is used
unfoldable pub after_cut : Format → (image : List ℕ) → Writing → (count : ℕ) → Answer
after_cut F image w k = answer_by image (changed F image (cut_on w k))

-- "as before the command or as after it": of a list of so many writes, count were made; a save is done with the last, every other command with the first
unfoldable pub is_done : Writing → (writes count : ℕ) → Bool
is_done (save name m) n k = leb n k
is_done (delete name) n k = leb 1 k
is_done (rename old new) n k = leb 1 k
is_done (protect name on) n k = leb 1 k

-- "named by the command": the stored name is one of its names
unfoldable pub names : Writing → (nine : List ℕ) → Bool
names (save name m) nine = same (nine_of name) nine
names (delete name) nine = same (nine_of name) nine
names (rename old new) nine = same (nine_of old) nine || same (nine_of new) nine
names (protect name on) nine = same (nine_of name) nine

-- ---- the claims

-- What a repair makes of a disc d, which is d' then; `chain`, with the check's rules 6 and 7, fixes both counts.
pub record Threaded (G : Geometry) (d d' : Disc) : Type 0 where
  pub chain : free G d' ≡ unmet G d
  -- "ends it with zeros", "the free pointer (zeros if that is empty)"
  pub ended : 0 < length (unmet G d) → take 2 (sector d' (last_or 0 (unmet G d))) ≡ 0 ∷ 0 ∷ []
  pub none_free : length (unmet G d) ≡ 0 → (k : ℕ) → k < 2 → byte (system d') (free_offset + k) ≡ 0
  -- "no other byte changes": of the other sectors none, of a threaded one its link alone, of 0/1 the free pointer and the counts
  pub others_stay : (n : ℕ) → n ≢ 0 → times n (unmet G d) ≡ 0 → sector d' n ≡ sector d n
  pub bodies_stay : (n : ℕ) → 0 < times n (unmet G d) → body (sector d' n) ≡ body (sector d n)
  pub system_stays : (k : ℕ) → (free_offset ≤ k → free_offset + 2 ≤ k) → (free_count_offset ≤ k → free_count_offset + 4 ≤ k) → byte (system d') k ≡ byte (system d) k

-- What a repair answers and leaves of an image, in the geometry G.
pub record Repaired (F : Format) (G : Geometry) (image : List ℕ) (a : Answer) : Type 0 where
  pub number : a.number ≡ 0
  pub size : length a.image ≡ length image
  pub checked : after_check F a.image ≡ is_sound
  -- all sixteen bytes of each entry; the name, sector count and reading of each file
  pub same_entries : entries G (cut F G a.image) ≡ entries G (cut F G image)
  pub same_files : opening_book G (cut F G a.image) ≡ opening_book G (cut F G image)
  pub threaded : Threaded G (cut F G image) (cut F G a.image)

-- A repair of any image on which rules 1 to 5 hold.
unfoldable pub Repairs : Format → Type 0
Repairs F =
    (image : List ℕ) (G : Geometry) → geometry F (length image) ≡ ok G → files_hold G (cut F G image) ≡ true
    → Repaired F G image (after_repair F image)

-- "the disc is sound", with the entries and the files of the image `ref`: "reads as before", or "as after"
pub record Mended (F : Format) (G : Geometry) (ref : List ℕ) (a : Answer) : Type 0 where
  pub number : a.number ≡ 0
  pub size : length a.image ≡ length ref
  pub checked : after_check F a.image ≡ is_sound
  pub same_entries : entries G (cut F G a.image) ≡ entries G (cut F G ref)
  pub same_reads : (typed buffer : List ℕ) → after_read F a.image typed buffer ≡ after_read F ref typed buffer

-- Any accepted command on any image, its list cut after k writes, then a repair: `ref` is the image before the command, or as the command leaves it.
unfoldable pub CutRepairs : Format → Type 0
CutRepairs F =
    (image : List ℕ) (G : Geometry) → geometry F (length image) ≡ ok G
    → (w : Writing) (buffer : List ℕ) → Handed (as_command w buffer) → (after_writing F image w buffer).number ≡ 0 → (k : ℕ)
    → let after = after_writing F image w buffer in
    let repaired = after_repair F (after_cut F image w k).image in
    Mended F G (cond (is_done w (writes_in after.size) k) after.image image) repaired
    × ((typed nine lent : List ℕ) → stored typed ≡ some nine → names w nine ≡ false → after_read F repaired.image typed lent ≡ after_read F image typed lent)

-- Beyond the request, for whoever looks at a card: where some of the writes were made and not all, the check reports rule 7, and else that it is sound.
unfoldable pub CutReports : Format → Type 0
CutReports F =
    (image : List ℕ) (G : Geometry) → geometry F (length image) ≡ ok G
    → (w : Writing) (buffer : List ℕ) → Handed (as_command w buffer) → (after_writing F image w buffer).number ≡ 0 → (k : ℕ)
    → let some-not-all = leb 1 k && ltb k (writes_in (after_writing F image w buffer).size) in
    after_check F (after_cut F image w k).image ≡ record { number = 0; rule = cond some-not-all 7 0 }
