-- The answer of list, case by case: its refusals one after the other, then the records.
-- Assumes nothing.
use Rattle.std.specs.Prelude.{◌≡◌, ℕ, ◌≤◌, ◌<◌, true, false, List, length, Ok, Err}
use borrow.Author.Tests.{lt-ltb, le-ltb}
use Rattle.geometry.specs.Meaning.{geo, sectors_of}
use Rattle.geometry.specs.declared.Geometry as code
use Rattle.geometry.specs.Laws.{Opened}
use Rattle.lists.specs.Lists.{front}
use Rattle.format.specs.Refusals.{refused, ◌>>◌, refuse◌if◌}
use Rattle.format.specs.Geometry.{Format, Geometry, Disc, geometry}
use Rattle.format.specs.Check.{sound}
use Rattle.format.specs.Effects.{listing}
use Rattle.format.specs.Calls.{ListAnswer, list_on, list_answer_by, after_list}
use Rattle.refusals.specs.declared.Refusal.{Refusal}
use Rattle.refusals.specs.declared.Refusal.TheVariants.{Unsound, Short}
use Rattle.refusals.specs.Meaning.{reason}
use Rattle.answers.specs.Meaning.{filled}
use Rattle.answers.specs.Laws.{asked_size, asked_opened}
use Rattle.listing.specs.Meaning.{list_answer}

-- ---- on the sectors of an image

module _ (G : Geometry) (d : Disc) (buffer : List ℕ) where
  -- the answer after refusal 1
  abbrev pub answer_on : ListAnswer
  answer_on = list_answer_by buffer (list_on G d (length buffer))

  pub on_unsound : sound G d ≡ false → list_answer (filled (Err Unsound)) buffer ≡ answer_on
  unfolding list_on list_answer_by ◌>>◌ refuse◌if◌
  on_unsound e = rw e

  module _ (e : sound G d ≡ true) (n : ℕ) (long : n ≡ length (listing G d)) where
    pub on_short : length buffer < n → list_answer (filled (Err Short)) buffer ≡ answer_on
    unfolding list_on list_answer_by ◌>>◌ refuse◌if◌
    on_short h = rw (e, ← long, lt-ltb _ _ h)

    pub on_done : n ≤ length buffer → (after : List ℕ) → after ≡ front (listing G d) buffer → list_answer (filled (Ok n)) after ≡ answer_on
    unfolding list_on list_answer_by ◌>>◌ refuse◌if◌
    on_done h after w = rw (e, long, w, le-ltb _ _ (rw long at h))

-- ---- on an image

module _ (image buffer : List ℕ) where
  pub after_size : (F : Format) (e : Refusal) → geometry F (length image) ≡ refused (reason e)
      → list_answer (filled (Err e)) buffer ≡ after_list F image buffer
  unfolding after_list list_answer_by
  after_size F e is = rw (asked_size F image (λ (G : Geometry) (d : Disc). list_on G d (length buffer)) e is)

  pub after_on : {F : Format} {g : code.Geometry} → Opened F g image → answer_on (geo g) (sectors_of g image) buffer ≡ after_list F image buffer
  unfolding after_list
  after_on o = rw (asked_opened o (λ (G : Geometry) (d : Disc). list_on G d (length buffer)))
