-- Document 01, 'Refusal numbers': each call's refusals in their order, and what it answers and leaves in all lent memory, for every input;
-- with the lists of writes and the replayer of document 02's request e, and the repair of its request g.
-- A public call's contract is an equation with one of the `after..` definitions, and so is each step of a run in demand 3.
-- Assumes nothing.
use Rattle.std.specs.Prelude.{ℕ, not, List, [], ◌∷◌, length, eqb, ltb}
use Rattle.lists.specs.Lists.{is_some, front}
use Rattle.format.specs.Refusals.{Try, Refusal, NAME, UNSOUND, ABSENT, TAKEN, PROTECTED, MODULE, ROOM, NOT-PLAIN, SHORT, NO-SECTOR, BAD-LIST, number_of, refused, ok, ◌>>=◌, ◌>>◌, refuse◌if◌, ◌or_refuse◌, number, value_or}
use Rattle.format.specs.Geometry.{Format, Geometry, geometry, sector_number, on_disc, Disc, cut, flat, Part, body_part, Write, written}
use Rattle.format.specs.Names.{stored, disc_name}
use Rattle.format.specs.Layout.{name_offset, attribute_offset, attribute_of, is_protected, protected_as, free, find}
use Rattle.format.specs.Check.{files_hold, broken, sound}
use Rattle.format.specs.Modules.{Module, end_of, storable}
use Rattle.format.specs.Effects.{slot_write, needed, save_writes, delete_writes, reading, listing, blank_disc, repair_writes}
use Rattle.format.specs.Writes.{write_list, held}

-- ---- the refusals in their order, after 1, on a disc

module _ (G : Geometry) (d : Disc) where
  -- "list 1, 3, 10"
  unfoldable pub list_on : (room : ℕ) → Try Refusal (List ℕ)
  list_on room = do
    refuse UNSOUND if not (sound G d)
    refuse SHORT if ltb room (length (listing G d))
    ok (listing G d)

  -- "read 1, 2, 3, 4, 9, 10"
  unfoldable pub read_on : (name : List ℕ) (room : ℕ) → Try Refusal Module
  read_on name room = do
    nine ← stored name or_refuse NAME
    refuse UNSOUND if not (sound G d)
    s ← find G d nine or_refuse ABSENT
    m ← reading G d s or_refuse NOT-PLAIN
    refuse SHORT if ltb room (length m.bytes)
    ok m

  -- "save 1, 2, 7, 3, 5, 8": those that rank before 8, and the stored name
  unfoldable pub save_before_on : (name : List ℕ) (m : Module) → Try Refusal (List ℕ)
  save_before_on name m = do
    nine ← stored name or_refuse NAME
    refuse MODULE if not (storable m)
    refuse UNSOUND if not (sound G d)
    refuse TAKEN if is_some (find G d nine)
    ok nine

  -- 8: "the free chain is shorter than the save needs"
  unfoldable pub save_on : (name : List ℕ) (m : Module) → Try Refusal (List Write)
  save_on name m = do
    nine ← save_before_on name m
    refuse ROOM if ltb (length (free G d)) (needed G d (length m.bytes))
    ok (save_writes G d nine m)

  -- "delete 1, 2, 3, 4, 6"
  unfoldable pub delete_on : (name : List ℕ) → Try Refusal (List Write)
  delete_on name = do
    nine ← stored name or_refuse NAME
    refuse UNSOUND if not (sound G d)
    s ← find G d nine or_refuse ABSENT
    refuse PROTECTED if is_protected (attribute_of s)
    ok (delete_writes G d s)

  -- "rename 1, 2 (either name), 3, 4, 6, 5"; "Rename changes nine bytes."
  unfoldable pub rename_on : (old new : List ℕ) → Try Refusal (List Write)
  rename_on old new = do
    nine ← stored old or_refuse NAME
    nine' ← stored new or_refuse NAME
    refuse UNSOUND if not (sound G d)
    s ← find G d nine or_refuse ABSENT
    refuse PROTECTED if is_protected (attribute_of s)
    refuse TAKEN if is_some (find G d nine')
    ok (slot_write d s name_offset nine' ∷ [])

  -- "protect 1, 2, 3, 4"; "on or off (by number, 0 is off and any other on)"; "asking for what already stands is done, with nothing changed": the
  -- write is made all the same
  unfoldable pub protect_on : (name : List ℕ) (on : ℕ) → Try Refusal (List Write)
  protect_on name on = do
    nine ← stored name or_refuse NAME
    refuse UNSOUND if not (sound G d)
    s ← find G d nine or_refuse ABSENT
    ok (slot_write d s attribute_offset (protected_as (not (eqb on 0)) (attribute_of s) ∷ []) ∷ [])

  -- "The replayer is a call of its own: a list with another kind, a cut record, .. gives 14, BAD LIST, after 1", whatever stands on the disc
  unfoldable pub replay_on : (writes : List ℕ) → Try Refusal (List Write)
  replay_on writes = held G writes or_refuse BAD-LIST

  -- "If one of rules 1 to 5 is broken, it answers 3, after 1."
  unfoldable pub repair_on : Try Refusal (List Write)
  repair_on = do
    refuse UNSOUND if not (files_hold G d)
    ok (repair_writes G d)

-- what a command that is done leaves: the new image, and the list of what it wrote
pub record Change : Type 0 where
  pub image : List ℕ
  pub list : List ℕ

-- ---- the calls on an image: refusal 1, then the refusals on its sectors, and at last 10 where a list of writes is given. F is what the caller states.

module _ (F : Format) (image : List ℕ) where
  -- a call that writes nothing into the image
  unfoldable pub asked : {A : Type 0} → (Geometry → Disc → Try Refusal A) → Try Refusal A
  asked f = do
    G ← geometry F (length image)
    f G (cut F G image)

  -- the image with these sectors written
  abbrev pub rewritten : Geometry → List Write → List ℕ
  rewritten G ws = flat F G (written ws (cut F G image))

  -- a call that writes sectors: the new image
  unfoldable pub changed : (Geometry → Disc → Try Refusal (List Write)) → Try Refusal (List ℕ)
  changed f = do
    G ← geometry F (length image)
    ws ← f G (cut F G image)
    ok (rewritten G ws)

  -- a command that "also give[s] the writes in order", lent so much room: "A buffer that can't hold the list gives 10, after all other refusals."
  unfoldable pub listed : (room : ℕ) → (Geometry → Disc → Try Refusal (List Write)) → Try Refusal Change
  listed room f = do
    G ← geometry F (length image)
    ws ← f G (cut F G image)
    refuse SHORT if ltb room (length (write_list G ws))
    ok (record { image = rewritten G ws; list = write_list G ws })

  -- "check 1": "The check never gives 3: on an image of a right size it answers 0 (done), and beside it the number of the broken rule, or 0"
  abbrev pub check : Try Refusal ℕ
  check = asked (λ G d. ok (broken G d))

  -- the records of a list, lent so much room
  abbrev pub list : (room : ℕ) → Try Refusal (List ℕ)
  list room = asked (λ G d. list_on G d room)

  -- the module that is read
  abbrev pub read : (name : List ℕ) (room : ℕ) → Try Refusal Module
  read name room = asked (λ G d. read_on G d name room)

  -- "save, delete, rename and protect should also give the writes"
  abbrev pub save : (name : List ℕ) (m : Module) (room : ℕ) → Try Refusal Change
  save name m room = listed room (λ G d. save_on G d name m)

  abbrev pub delete : (name : List ℕ) (room : ℕ) → Try Refusal Change
  delete name room = listed room (λ G d. delete_on G d name)

  abbrev pub rename : (old new : List ℕ) (room : ℕ) → Try Refusal Change
  rename old new room = listed room (λ G d. rename_on G d old new)

  abbrev pub protect : (name : List ℕ) (on room : ℕ) → Try Refusal Change
  protect name on room = listed room (λ G d. protect_on G d name on)

  -- the image after a replay
  abbrev pub replay : (writes : List ℕ) → Try Refusal (List ℕ)
  replay writes = changed (λ G d. replay_on G d writes)

  -- the image after a repair
  abbrev pub repair : Try Refusal (List ℕ)
  repair = changed (λ G d. repair_on G d)

  -- "blank 1, 2"
  unfoldable pub blank : (name : List ℕ) → Try Refusal (List ℕ)
  blank name = do
    G ← geometry F (length image)
    nine ← disc_name name or_refuse NAME
    ok (flat F G (blank_disc G nine))

  -- "view 1, 11": "Sector view, for unsound images too, shows the 254 bytes after a sector's link .. (bytes 2 to 255, for 0/1 as well)"
  unfoldable pub view : (track sector : ℕ) → Try Refusal Part
  view t s = do
    G ← geometry F (length image)
    refuse NO-SECTOR if not (on_disc G t s)
    ok (body_part F G (sector_number G t s))

-- ---- what each call answers and leaves: "With a refusal every other number in the answer is 0, a view is empty, and all lent memory stays."

-- blank, replay and repair, and each step of a run: the number, and the image afterwards
pub record Answer : Type 0 where
  pub number : ℕ
  pub image : List ℕ

-- a number and an image, as an answer
abbrev pub answered : ℕ → List ℕ → Answer
answered n image = record { number = n; image = image }

-- "all lent memory stays": the old image with a refusal
unfoldable pub answer_by : List ℕ → Try Refusal (List ℕ) → Answer
answer_by image t = answered (number t) (value_or image t)

-- save, delete, rename and protect: the number, the length of the list of writes, and image and lent buffer afterwards
pub record ChangeAnswer : Type 0 where
  pub number : ℕ
  pub size : ℕ
  pub image : List ℕ
  pub buffer : List ℕ

-- "at the front of a lent buffer, its rest unchanged and their length given"
unfoldable pub change_answer_by : (image buffer : List ℕ) → Try Refusal Change → ChangeAnswer
change_answer_by image buffer (refused e) = record { number = number_of e; size = 0; image = image; buffer = buffer }
change_answer_by image buffer (ok c) = record { number = 0; size = length c.list; image = c.image; buffer = front c.list buffer }

-- check: the number, and the broken rule
pub record CheckAnswer : Type 0 where
  pub number : ℕ
  pub rule : ℕ

-- "every other number in the answer is 0" with a refusal
unfoldable pub check_answer_by : Try Refusal ℕ → CheckAnswer
check_answer_by t = record { number = number t; rule = value_or 0 t }

-- list: the number, the length of the records, and the lent buffer afterwards
pub record ListAnswer : Type 0 where
  pub number : ℕ
  pub size : ℕ
  pub buffer : List ℕ

-- "They stand at the front of the lent buffer, its rest unchanged, and their length is given."
unfoldable pub list_answer_by : List ℕ → Try Refusal (List ℕ) → ListAnswer
list_answer_by buffer (refused e) = record { number = number_of e; size = 0; buffer = buffer }
list_answer_by buffer (ok records) = record { number = 0; size = length records; buffer = front records buffer }

-- read: the number, the module's numbers, and the lent buffer afterwards
pub record ReadAnswer : Type 0 where
  pub number : ℕ
  pub page : ℕ
  pub start : ℕ
  pub end : ℕ
  pub transfer : ℕ
  pub size : ℕ
  pub buffer : List ℕ

-- "Read gives page, start, end, transfer and L, and the L bytes at the front of the lent buffer, its rest unchanged."
unfoldable pub read_answer_by : List ℕ → Try Refusal Module → ReadAnswer
read_answer_by buffer (refused e) = record { number = number_of e; page = 0; start = 0; end = 0; transfer = 0; size = 0; buffer = buffer }
read_answer_by buffer (ok m) =
    record {
      number = 0;
      page = m.page;
      start = m.start;
      end = end_of m;
      transfer = m.transfer;
      size = length m.bytes;
      buffer = front m.bytes buffer;
    }

-- "a view is empty" with a refusal: the part that is shown
unfoldable pub part_by : Try Refusal Part → Part
part_by t = value_or (record { at = 0; size = 0 }) t

-- each call's answer, and what it leaves
module _ (F : Format) (image : List ℕ) where
  unfoldable pub after_check : CheckAnswer
  after_check = check_answer_by (check F image)

  unfoldable pub after_list : (buffer : List ℕ) → ListAnswer
  after_list buffer = list_answer_by buffer (list F image (length buffer))

  unfoldable pub after_read : (name buffer : List ℕ) → ReadAnswer
  after_read name buffer = read_answer_by buffer (read F image name (length buffer))

  unfoldable pub after_save : (name : List ℕ) (m : Module) (buffer : List ℕ) → ChangeAnswer
  after_save name m buffer = change_answer_by image buffer (save F image name m (length buffer))

  unfoldable pub after_delete : (name buffer : List ℕ) → ChangeAnswer
  after_delete name buffer = change_answer_by image buffer (delete F image name (length buffer))

  unfoldable pub after_rename : (old new buffer : List ℕ) → ChangeAnswer
  after_rename old new buffer = change_answer_by image buffer (rename F image old new (length buffer))

  unfoldable pub after_protect : (name : List ℕ) (on : ℕ) (buffer : List ℕ) → ChangeAnswer
  after_protect name on buffer = change_answer_by image buffer (protect F image name on (length buffer))

  -- ".. and writes nothing"
  unfoldable pub after_replay : (writes : List ℕ) → Answer
  after_replay writes = answer_by image (replay F image writes)

  unfoldable pub after_repair : Answer
  after_repair = answer_by image (repair F image)

  unfoldable pub after_blank : (name : List ℕ) → Answer
  after_blank name = answer_by image (blank F image name)

  -- "Its refusal number is the answer of a second call with the same arguments."
  unfoldable pub view_number : (track sector : ℕ) → ℕ
  view_number t s = number (view F image t s)

  -- "where they lie in the image, not a copy": the part of the image that is shown
  unfoldable pub view_part : (track sector : ℕ) → Part
  view_part t s = part_by (view F image t s)
