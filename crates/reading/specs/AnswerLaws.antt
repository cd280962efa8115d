-- Laws of read's answer: each refusal, the module that is read, and from sectors to the image.
-- Assumes nothing.
use Rattle.std.specs.Prelude.{◌≡◌, refl, ℕ, ◌≤◌, ◌<◌, List, length, Some, None, Ok, Err}
use Rattle.std.proofs.Math.Path.{sym}
use Rattle.std.proofs.Common.{ap, ◌∙◌, lt-ltb, le-ltb}
use Rattle.std.proofs.Math.Option.{Option, none, some}
use Rattle.geometry.specs.Meaning.{geo, sectors_of}
use Rattle.geometry.specs.declared.Geometry as code
use Rattle.refusals.specs.declared.Refusal as refusal
use Rattle.refusals.specs.Meaning.{reason}
use Rattle.geometry.specs.Laws.{Opened}
use Rattle.lists.specs.Lists.{front}
use Rattle.format.specs.Refusals.{Try, Refusal, NOT-PLAIN, SHORT, refused, ok, ◌>>=◌, ◌>>◌, refuse◌if◌, ◌or_refuse◌}
use Rattle.format.specs.Geometry.{Format, Geometry, geometry, Disc}
use Rattle.format.specs.Layout.{Slot}
use Rattle.format.specs.Modules.{Module}
use Rattle.format.specs.Effects.{reading}
use Rattle.format.specs.Calls.{read_on, read_answer_by, after_read}
use Rattle.answers.specs.Meaning.{Refuses}
use Rattle.answers.specs.Laws.{refuses_then, asked_size, asked_opened}
use Rattle.lookup.specs.Meaning.{entry_on}
use Rattle.lookup.specs.Laws.{entry_then}
use Rattle.reading.specs.Meaning.{header_of, bytes_in}
use Rattle.reading.specs.Answer.{reading_of, read_answer, file_on}
use Rattle.reading.specs.declared.answer.Header.{Header}

pub refuses_answer : (buffer : List ℕ) (t : Try Refusal Module) (e : refusal.Refusal) → Refuses t e
    → read_answer (reading_of (Err e)) buffer ≡ read_answer_by buffer t
unfolding read_answer_by
refuses_answer buffer t e h = rw h

-- ---- the module in a file: h is its header

pub file_not_plain : (o : Option Module) → None ≡ header_of o → (room : ℕ) → file_on o room ≡ refused NOT-PLAIN
unfolding file_on ◌>>=◌ ◌or_refuse◌
file_not_plain none e room = refl
file_not_plain (some m) e room = absurd (cc)

header_size : (o : Option Module) (h : Header) → Some h ≡ header_of o → h.length ≡ length (bytes_in o)
header_size none h e = absurd (cc)
header_size (some m) h e = cc

pub file_short : (o : Option Module) (h : Header) → Some h ≡ header_of o → (room : ℕ) → room < h.length → file_on o room ≡ refused SHORT
unfolding file_on ◌>>=◌ ◌>>◌ refuse◌if◌ ◌or_refuse◌
file_short none h e room small = absurd (cc)
file_short (some m) h e room small = rw (lt-ltb room (length m.bytes) (rw (header_size (some m) h e) at small))

pub file_read : (o : Option Module) (h : Header) → Some h ≡ header_of o → (buffer : List ℕ) → h.length ≤ length buffer
    → read_answer (reading_of (Ok h)) (front (bytes_in o) buffer) ≡ read_answer_by buffer (file_on o (length buffer))
unfolding file_on read_answer_by ◌>>=◌ ◌>>◌ refuse◌if◌ ◌or_refuse◌
file_read none h e buffer fits = absurd (cc)
file_read (some m) h e buffer fits =
    rw (le-ltb (length buffer) (length m.bytes) (rw (header_size (some m) h e) at fits))
    (ap (λ (h : Header). read_answer (reading_of (Ok h)) (front m.bytes buffer)) (cc))

-- ---- the refusals one after the other

module _ (G : Geometry) (d : Disc) (name : List ℕ) (room : ℕ) where
  read_is : read_on G d name room ≡ (entry_on G d name >>= λ s. file_on (reading G d s) room)
  unfolding read_on file_on
  read_is = entry_then G d name (λ s. file_on (reading G d s) room)

  pub read_refused : (e : refusal.Refusal) → Refuses (entry_on G d name) e → Refuses (read_on G d name room) e
  read_refused e h = read_is ∙ refuses_then (entry_on G d name) _ e h

  pub read_entry : (s : Slot) → entry_on G d name ≡ ok s → read_on G d name room ≡ file_on (reading G d s) room
  unfolding ◌>>=◌
  read_entry s e = read_is ∙ rw e

-- ---- from sectors to the image

module _ (image name buffer : List ℕ) where
  asks : Geometry → Disc → Try Refusal Module
  asks G d = read_on G d name (length buffer)

  pub read_size : (F : Format) (e : refusal.Refusal) → geometry F (length image) ≡ refused (reason e)
      → read_answer (reading_of (Err e)) buffer ≡ after_read F image name buffer
  unfolding after_read asks
  read_size F e is = refuses_answer buffer _ e (asked_size F image asks e is)

  pub read_image : {F : Format} {g : code.Geometry} → Opened F g image
      → read_answer_by buffer (read_on (geo g) (sectors_of g image) name (length buffer)) ≡ after_read F image name buffer
  unfolding after_read asks
  read_image o = sym (ap (read_answer_by buffer) (asked_opened o asks))
