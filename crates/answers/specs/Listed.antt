-- Laws of a command that gives the list of its writes: what it leaves in each case, and from its sectors to the image.
-- Assumes nothing.
use Rattle.std.specs.Prelude.{◌≡◌, ℕ, ◌≤◌, ◌<◌, Bool, true, false, List, length, ltb, Ok, Err}
use Rattle.std.specs.declared.result.Result.{Result}
use Rattle.std.proofs.Math.Path.{refl}
use Rattle.std.proofs.Common.{sym, subst}
use borrow.Author.Tests.{lt-ltb, le-ltb}
use Rattle.lists.specs.Lists.{front}
use Rattle.format.specs.Refusals.{Try, Refusal, SHORT, refused, ok, ◌>>=◌, ◌>>◌, refuse◌if◌, number}
use Rattle.format.specs.Geometry as format
use Rattle.format.specs.Geometry.{Format, geometry, Disc, flat, Write, written}
use Rattle.format.specs.Writes.{write_list}
use Rattle.format.specs.Calls.{listed, change_answer_by}
use Rattle.geometry.specs.Meaning.{form, geo, sectors_of}
use Rattle.geometry.specs.Laws.{Opened, image_is, image_stays}
use Rattle.geometry.specs.declared.Geometry.{Geometry}
use Rattle.refusals.specs.declared.Refusal as code
use Rattle.refusals.specs.declared.Refusal.TheVariants.{Short}
use Rattle.refusals.specs.Meaning.{reason}
use Rattle.answers.specs.Meaning.{Refuses, written_by, fitting, filled, list_by, Lists, change_answer}

module _ (g : Geometry) (before lent : List ℕ) where
  -- refused before the room is looked at
  pub refuses_lists : (t : Try Refusal (List Write)) (e : code.Refusal) → Refuses t e → Lists g before before lent lent (Err e) t
  unfolding fitting number ◌>>=◌
  refuses_lists t e h = rw h (record { answers = refl; size_is = refl; sectors_are = refl; buffer_is = refl })

  -- the same refusals and writes, said otherwise
  pub lists_as : {after buffer : List ℕ} {r : Result ℕ code.Refusal} {t u : Try Refusal (List Write)} → t ≡ u → Lists g before after lent buffer r u
      → Lists g before after lent buffer r t
  lists_as {after} {buffer} {r} e l = subst (Lists g before after lent buffer r) (sym e) l

  module _ (ws : List Write) where
    -- no room for the list
    pub short_lists : length lent < length (write_list (geo g) ws) → Lists g before before lent lent (Err Short) (ok ws)
    unfolding fitting number ◌>>=◌ ◌>>◌ refuse◌if◌
    short_lists h =
        let e = lt-ltb (length lent) (length (write_list (geo g) ws)) h in
        record { answers = rw e refl; size_is = rw e refl; sectors_are = rw e refl; buffer_is = rw e refl }

    -- written and listed
    pub done_lists : {after buffer : List ℕ} {n : ℕ} → length (write_list (geo g) ws) ≤ length lent
        → sectors_of g after ≡ written ws (sectors_of g before) → n ≡ length (write_list (geo g) ws)
        → buffer ≡ front (write_list (geo g) ws) lent → Lists g before after lent buffer (Ok n) (ok ws)
    unfolding fitting number ◌>>=◌ ◌>>◌ refuse◌if◌
    done_lists h s l b =
        let e = le-ltb (length lent) (length (write_list (geo g) ws)) h in
        record { answers = rw e refl; size_is = rw e l; sectors_are = rw e s; buffer_is = rw e b }

-- ---- from sectors to the image

pub listed_size : (F : Format) (image lent : List ℕ) (f : format.Geometry → Disc → Try Refusal (List Write)) (e : code.Refusal)
    → geometry F (length image) ≡ refused (reason e) → change_answer (filled (Err e)) image lent ≡ change_answer_by image lent (listed F image (length lent) f)
unfolding change_answer_by listed ◌>>=◌
listed_size F image lent f e is = rw is

module _ {F : Format} {g : Geometry} {image : List ℕ} (o : Opened F g image) where
  pub listed_leaves : (f : format.Geometry → Disc → Try Refusal (List Write)) (after lent buffer : List ℕ) (r : Result ℕ code.Refusal)
      → length after ≡ length image → Lists g image after lent buffer r (f (geo g) (sectors_of g image))
      → change_answer (filled r) after buffer ≡ change_answer_by image lent (listed F image (length lent) f)
  unfolding change_answer_by listed fitting number ◌>>=◌ ◌>>◌ refuse◌if◌
  listed_leaves f after lent buffer r long l = rw o.kind_is (rw o.geometry_is (by (f (geo g) (sectors_of g image)) l))
    where
      old : sectors_of g after ≡ sectors_of g image → after ≡ image
      old e = image_stays o.on_image after long e

      by : (t : Try Refusal (List Write)) → Lists g image after lent buffer r t
          → change_answer (filled r) after buffer
          ≡ change_answer_by image lent (t >>= λ ws. (refuse SHORT if ltb (length lent) (length (write_list (geo g) ws))
          >> ok (record { image = flat (form g) (geo g) (written ws (sectors_of g image)); list = write_list (geo g) ws })))
      by (refused e) l = λ i. record { number = l.answers i; size = l.size_is i; image = old l.sectors_are i; buffer = l.buffer_is i }
      by (ok ws) l = room (ltb (length lent) (length (write_list (geo g) ws))) l.answers l.size_is l.sectors_are l.buffer_is
        where
          room : (b : Bool) → (filled r).number ≡ number (refuse SHORT if b >> ok ws)
              → (filled r).length ≡ length (list_by (geo g) (refuse SHORT if b >> ok ws))
              → sectors_of g after ≡ written_by (refuse SHORT if b >> ok ws) (sectors_of g image)
              → buffer ≡ front (list_by (geo g) (refuse SHORT if b >> ok ws)) lent
              → change_answer (filled r) after buffer
              ≡ change_answer_by image lent (refuse SHORT if b
              >> ok (record { image = flat (form g) (geo g) (written ws (sectors_of g image)); list = write_list (geo g) ws }))
          room true n z s w = λ i. record { number = n i; size = z i; image = old s i; buffer = w i }
          room false n z s w = λ i. record { number = n i; size = z i; image = image_is o.on_image after long s i; buffer = w i }
