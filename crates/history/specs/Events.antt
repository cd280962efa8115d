-- Document 02, requests e and g: demand 3 over a list in which cards are pulled, discs repaired, lists replayed and blank discs made.
-- "Demand 3 is silent from the cut to the repair; then, unless a replay, a blank disc or another call after which it starts anew came between,
-- its sum and history go on, the cut command counting as done or not done accordingly, commands between cut and repair by their answers as ever,
-- and any repair, also one without a cut, as no change." "After a replay demand 3 starts anew from the next sound image."
-- `Demand3` is the part of it with commands alone, from a sound image (`pulled_extends`).
-- Assumes nothing.
use Rattle.std.specs.Prelude.{◌≡◌, ◌≢◌, ℕ, zero, suc, ◌≤◌, cond, List, [], ◌∷◌, map, length, take}
use Rattle.format.specs.Refusals.{ok}
use Rattle.format.specs.Geometry.{Format, Geometry, geometry, cut}
use Rattle.format.specs.Check.{sound}
use Rattle.format.specs.Writes.{writes_in}
use Rattle.format.specs.Calls.{Answer, answered, after_replay, after_repair, after_blank}
use Rattle.history.specs.History.{Command, leaving, step, Book, accepted, entered, opening_book}
use Rattle.history.specs.Demand3.{Handed, Moment}
use Rattle.history.specs.Cuts.{Writing, as_command, after_writing, after_cut, is_done}

-- ---- what happens to an image

-- A call is here what it answers and leaves, for every image that it may find.
abbrev pub CallOn : Type 0
CallOn = List ℕ → Answer

pub data Event : Type 0 where
  -- a call that counts as a command: the command itself, or one that does as much where it is accepted ("demand 3 counts it as that save", request i;
  -- "as the save, delete or rename that it makes", j)
  made : Command → CallOn → Event
  -- such a call, which lists the command's own writes: only the first so many were made when the card was pulled
  made_cut : Writing → (buffer : List ℕ) → CallOn → (count : ℕ) → Event
  repair : Event
  -- "a replay, a blank disc or another call after which it starts anew" (an import, request l)
  anew : CallOn → Event

-- a list is cut only where its command was accepted; refused, it gave none
abbrev pub where_accepted : (number : ℕ) (image : List ℕ) → Answer → Answer
where_accepted zero image a = a
where_accepted (suc n) image a = answered (suc n) image

module _ (F : Format) where
  -- the answer, and the image that the next event finds
  unfoldable pub happens : List ℕ → Event → Answer
  happens image (made c f) = f image
  happens image (made_cut w buffer f k) = where_accepted (f image).number image (after_cut F image w k)
  happens image repair = after_repair F image
  happens image (anew f) = f image

  -- the image after a list of events, each on the image as the one before left it
  unfoldable pub image_after : List ℕ → List Event → List ℕ
  image_after image [] = image
  image_after image (e ∷ es) = image_after (happens image e).image es

-- ---- what demand 3 goes by

-- The image at the start and the book, and whether demand 3 speaks of this moment or is silent since a cut; or it waits for the next sound image.
pub data Ledger : Type 0 where
  speaks : (start : List ℕ) → Book → Ledger
  silent : (start : List ℕ) → Book → Ledger
  waits : Ledger

-- "by their answers as ever"
unfoldable pub after_command : Ledger → Command → (answer : ℕ) → Ledger
after_command (speaks s b) c a = speaks s (entered b c a)
after_command (silent s b) c a = silent s (entered b c a)
after_command waits c a = waits

-- "the cut command counting as done or not done accordingly"
unfoldable pub pulled_book : Book → Writing → (buffer : List ℕ) (writes count : ℕ) → Book
pulled_book b w buffer n k = cond (is_done w n k) (accepted b (as_command w buffer)) b

-- "silent from the cut"
unfoldable pub after_pulled : Ledger → Writing → (buffer : List ℕ) (writes count answer : ℕ) → Ledger
after_pulled (speaks s b) w buffer n k zero = silent s (pulled_book b w buffer n k)
after_pulled (silent s b) w buffer n k zero = silent s (pulled_book b w buffer n k)
after_pulled waits w buffer n k zero = waits
after_pulled l w buffer n k (suc a) = l

-- "to the repair; then .. its sum and history go on", "any repair, also one without a cut, as no change": whatever it answers, so that a repair that refuses
-- where a cut was breaks the claim
unfoldable pub after_repaired : Ledger → Ledger
after_repaired (speaks s b) = speaks s b
after_repaired (silent s b) = speaks s b
after_repaired waits = waits

-- "starts anew"; a refused call writes nothing
unfoldable pub after_new : Ledger → (answer : ℕ) → Ledger
after_new l zero = waits
after_new l (suc a) = l

module _ (F : Format) where
  -- the ledger after an event on this image, by its answer
  unfoldable pub followed : Ledger → List ℕ → Event → (answer : ℕ) → Ledger
  followed l image (made c f) a = after_command l c a
  followed l image (made_cut w buffer f k) a = after_pulled l w buffer (writes_in (after_writing F image w buffer).size) k a
  followed l image repair a = after_repaired l
  followed l image (anew f) a = after_new l a

  -- "anew from the next sound image"
  unfoldable pub settled : Geometry → List ℕ → Ledger → Ledger
  settled G image (speaks s b) = speaks s b
  settled G image (silent s b) = silent s b
  settled G image waits = cond (sound G (cut F G image)) (speaks image (opening_book G (cut F G image))) waits

  -- the ledger after a list of events; the image is there to be asked for the answers, and for a new start
  unfoldable pub ledger_after : Geometry → Ledger → List ℕ → List Event → Ledger
  ledger_after G l image [] = l
  ledger_after G l image (e ∷ es) =
      let a = happens F image e in
      ledger_after G (settled G a.image (followed l image e a.number)) a.image es

-- ---- the claim

-- "A refusal .. leaves image and buffers as they were."
abbrev pub Stays : CallOn → Type 0
Stays f = (image : List ℕ) → (f image).number ≢ 0 → (f image).image ≡ image

-- the call leaves an image as long as the one that it was lent
pub record Renews (f : CallOn) : Type 0 where
  pub long : (image : List ℕ) → length (f image).image ≡ length image
  pub stays : Stays f

module _ (F : Format) where
  -- the call counts as the command: where it is accepted it does as the command does
  pub record Makes (c : Command) (f : CallOn) : Type 0 where
    pub does : (image : List ℕ) → (f image).number ≡ 0 → f image ≡ step F image c
    pub stays : Stays f

  -- what is asked of an event: what is asked of its command's arguments, and that its call is one of that kind
  abbrev pub HandedEvent : Event → Type 0
  HandedEvent (made c f) = Handed c × Makes c f
  HandedEvent (made_cut w buffer f k) = Handed (as_command w buffer) × Makes (as_command w buffer) f
  HandedEvent repair = Unit {0}
  HandedEvent (anew f) = Renews f

  -- so of each event of a list
  abbrev pub AllHandedEvents : List Event → Type 0
  AllHandedEvents [] = Unit {0}
  AllHandedEvents (e ∷ es) = HandedEvent e × AllHandedEvents es

  -- what demand 3 says at a moment
  unfoldable pub Said : Geometry → List ℕ → Ledger → Type 0
  Said G image (speaks s b) = Moment F G s image b
  Said G image (silent s b) = Unit {0}
  Said G image waits = Unit {0}

-- One claim over the whole list, from any image of a right size: a sound one is a start at once.
unfoldable pub Demand3Pulled : Format → Type 0
Demand3Pulled F =
    (s : List ℕ) (G : Geometry) → geometry F (length s) ≡ ok G
    → (es : List Event) → AllHandedEvents F es → (k : ℕ) → k ≤ length es
    → Said F G (image_after F s (take k es)) (ledger_after F G (settled F G s waits) s (take k es))

-- ---- the calls of this library

-- one of the eight commands; a command of whose list so many writes were made, the card being pulled then; a repair; a replay; a blank disc
pub data Call : Type 0 where
  command : Command → Call
  pulled : Writing → (buffer : List ℕ) (count : ℕ) → Call
  repair : Call
  replay : (writes : List ℕ) → Call
  blank : (name : List ℕ) → Call

-- each as an event, by the definition that its contract cites: the one place where a call is given its part in demand 3
unfoldable pub event_of : Format → Call → Event
event_of F (command c) = made c (λ image. step F image c)
event_of F (pulled w buffer k) = made_cut w buffer (λ image. leaving (after_writing F image w buffer)) k
event_of F repair = Event.repair
event_of F (replay writes) = anew (λ image. after_replay F image writes)
event_of F (blank name) = anew (λ image. after_blank F image name)

-- what is asked of a call: what is asked of its command's arguments
abbrev pub HandedCall : Call → Type 0
HandedCall (command c) = Handed c
HandedCall (pulled w buffer k) = Handed (as_command w buffer)
HandedCall repair = Unit {0}
HandedCall (replay writes) = Unit {0}
HandedCall (blank name) = Unit {0}

-- so of each call of a list
abbrev pub AllHandedCalls : List Call → Type 0
AllHandedCalls [] = Unit {0}
AllHandedCalls (c ∷ cs) = HandedCall c × AllHandedCalls cs

-- the claim of them: nothing is asked but that a transfer address has sixteen bits
unfoldable pub Demand3Calls : Format → Type 0
Demand3Calls F =
    (s : List ℕ) (G : Geometry) → geometry F (length s) ≡ ok G
    → (cs : List Call) → AllHandedCalls cs → (k : ℕ) → k ≤ length cs
    → let es = map (event_of F) (take k cs) in
    Said F G (image_after F s es) (ledger_after F G (settled F G s waits) s es)
