-- The four commands that give a list of their writes, as one: their steps, how they come out, and what is left where they are cut.
-- Assumes nothing.
use Rattle.std.specs.Prelude.{◌≡◌, ◌≢◌, ℕ, ◌≤◌, List, length, take}
use Rattle.std.proofs.Math.Path.{refl}
use Rattle.std.proofs.Common.{ap, arith}
use borrow.Author.Tests.{le-ltb}
use Rattle.lists.specs.ListLaws.{All}
use Rattle.format.specs.Refusals.{Try, Refusal, refused, ok, ◌>>=◌, ◌>>◌, refuse◌if◌, number, value_or}
use Rattle.format.proofs.RefusalLaws.{refusal_number}
use Rattle.format.specs.Geometry.{Format, Geometry, geometry, Disc, cut, flat, Write, written}
use Rattle.format.specs.Writes.{write_list, writes_in}
use Rattle.format.specs.WriteLaws.{WholeOn}
use Rattle.format.proofs.WriteLaws.{list_long}
use Rattle.format.specs.Calls.{changed, listed, Change, Answer, answered, answer_by, ChangeAnswer, change_answer_by, after_save, after_delete, after_rename, after_protect}
use Rattle.format.specs.ListedLaws.{change_by, Outcome, stays, writes}
use Rattle.format.proofs.ListedLaws.{outcome}
use Rattle.history.specs.History.{leaving, step}
use Rattle.history.specs.Cuts.{Writing, save, delete, rename, protect, as_command, writes_on, after_writing, cut_on, after_cut}

module _ (F : Format) (image : List ℕ) where
  -- the call is the command's step
  pub writing_step : (w : Writing) (buffer : List ℕ) → step F image (as_command w buffer) ≡ leaving (after_writing F image w buffer)
  unfolding step after_writing
  writing_step (save name m) buffer = refl
  writing_step (delete name) buffer = refl
  writing_step (rename old new) buffer = refl
  writing_step (protect name on) buffer = refl

  -- it is one that lists its writes
  writing_listed : (w : Writing) (buffer : List ℕ) → after_writing F image w buffer ≡ change_answer_by image buffer (listed F image (length buffer) (writes_on w))
  unfolding after_writing writes_on after_save after_delete after_rename after_protect
  writing_listed (save name m) buffer = refl
  writing_listed (delete name) buffer = refl
  writing_listed (rename old new) buffer = refl
  writing_listed (protect name on) buffer = refl

  -- refused, it leaves the image
  pub writing_stays : (w : Writing) (buffer : List ℕ) → (after_writing F image w buffer).number ≢ 0 → (after_writing F image w buffer).image ≡ image
  unfolding change_answer_by
  writing_stays w buffer = rw (writing_listed w buffer) (by (listed F image (length buffer) (writes_on w)))
    where
      by : (t : Try Refusal Change) → (change_answer_by image buffer t).number ≢ 0 → (change_answer_by image buffer t).image ≡ image
      by (refused e) h = refl
      by (ok c) h = absurd (h refl)

  module _ (G : Geometry) (g : geometry F (length image) ≡ ok G) where
    -- how it comes out
    pub writing_outcome : (w : Writing) (buffer : List ℕ) → Outcome F G image buffer (writes_on w) (after_writing F image w buffer)
    writing_outcome w buffer = rw (writing_listed w buffer) (outcome F image buffer (writes_on w) G g)

    -- accepted, it has made these writes
    pub record Made (w : Writing) (buffer : List ℕ) (a : ChangeAnswer) : Type 0 where
      pub ws : List Write
      pub passed : writes_on w G (cut F G image) ≡ ok ws
      pub fits : length (write_list G ws) ≤ length buffer
      pub image_is : a.image ≡ flat F G (written ws (cut F G image))
      pub size_is : a.size ≡ length (write_list G ws)

    pub made_by : (w : Writing) (buffer : List ℕ) → (after_writing F image w buffer).number ≡ 0 → Made w buffer (after_writing F image w buffer)
    unfolding change_answer_by
    made_by w buffer = by (writing_outcome w buffer)
      where
        by : {a : ChangeAnswer} → Outcome F G image buffer (writes_on w) a → a.number ≡ 0 → Made w buffer a
        by (stays e) z = absurd (refusal_number e z)
        by (writes ws p fits) z = record { ws = ws; passed = p; fits = fits; image_is = refl; size_is = refl }

    -- where nothing refuses it, and its list fits, it makes them
    pub writing_done : (w : Writing) (buffer : List ℕ) (ws : List Write) → writes_on w G (cut F G image) ≡ ok ws → length (write_list G ws) ≤ length buffer
        → after_writing F image w buffer ≡ change_answer_by image buffer (ok (change_by F G (cut F G image) ws))
    unfolding listed refuse◌if◌ ◌>>◌ ◌>>=◌
    writing_done w buffer ws p fits = rw (writing_listed w buffer, g, p, le-ltb (length buffer) (length (write_list G ws)) fits)

    -- as many as its list says
    pub writes_in_list : {buffer : List ℕ} {a : ChangeAnswer} (w : Writing) (m : Made w buffer a) → All (WholeOn G) m.ws → writes_in a.size ≡ length m.ws
    writes_in_list w m whole = omega (arith, m.size_is, list_long G whole)

    -- a call that writes sectors, where it is accepted
    pub changed_done : (h : Geometry → Disc → Try Refusal (List Write)) (ws : List Write) → h G (cut F G image) ≡ ok ws
        → answer_by image (changed F image h) ≡ answered 0 (flat F G (written ws (cut F G image)))
    unfolding answer_by changed number value_or ◌>>=◌
    changed_done h ws e = rw (g, e)

    -- a command that was cut
    cut_on_takes : (w : Writing) (k : ℕ) (ws : List Write) → writes_on w G (cut F G image) ≡ ok ws → cut_on w k G (cut F G image) ≡ ok (take k ws)
    unfolding cut_on ◌>>=◌
    cut_on_takes w k ws p = rw p

    pub cut_done : (w : Writing) (k : ℕ) (ws : List Write) → writes_on w G (cut F G image) ≡ ok ws
        → after_cut F image w k ≡ answered 0 (flat F G (written (take k ws) (cut F G image)))
    unfolding after_cut
    cut_done w k ws p = changed_done (cut_on w k) (take k ws) (cut_on_takes w k ws p)

-- an accepted one found an image of a right size
pub writing_sized : (F : Format) (image : List ℕ) (w : Writing) (buffer : List ℕ) → (after_writing F image w buffer).number ≡ 0
    → (G : Geometry) × (geometry F (length image) ≡ ok G)
unfolding change_answer_by listed ◌>>=◌
writing_sized F image w buffer z = by (geometry F (length image)) refl
  where
    by : (t : Try Refusal Geometry) → geometry F (length image) ≡ t → (G : Geometry) × (geometry F (length image) ≡ ok G)
    by (refused e) g = absurd (refusal_number e (rw (writing_listed F image w buffer, g) at z))
    by (ok G) g = (G, g)

-- so the cut of an accepted command is made, on any image
pub cut_accepted : (F : Format) (image : List ℕ) (w : Writing) (buffer : List ℕ) → (after_writing F image w buffer).number ≡ 0 → (k : ℕ)
    → (after_cut F image w k).number ≡ 0
cut_accepted F image w buffer z k =
    let g = writing_sized F image w buffer z in
    let m = made_by F image g.0 g.1 w buffer z in
    ap (λ (a : Answer). a.number) (cut_done F image g.0 g.1 w k m.ws m.passed)
