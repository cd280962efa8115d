-- What a command leaves of the book, the state at a start of demand 3, and the image after writes.
-- Assumes nothing.
use Rattle.std.specs.Prelude.{◌≡◌, refl, ◌≢◌, ℕ, zero, suc, ◌*◌, ◌≤◌, List, length}
use Rattle.std.proofs.Common.{sym, ◌∙◌, arith, mul-le-mul_left}
use Rattle.std.proofs.Math.Path.{ap}
use Rattle.std.proofs.lemmas.List.{length-map}
use Rattle.lists.specs.Permutations.{as_is}
use Rattle.format.specs.Refusals.{ok, ◌>>=◌, number, value_or}
use Rattle.format.specs.Geometry.{Format, Geometry, geometry, Disc, cut, flat, Write, written}
use Rattle.format.specs.Arrangements.{Arranged}
use Rattle.format.specs.Formats.{GoodFormat}
use Rattle.format.proofs.Formats.{four, good_arranged}
use Rattle.format.specs.GeometryLaws.{ImageOf, Full}
use Rattle.format.proofs.GeometryLaws.{geometry_ok, cut_full, cut_flat, flat_long}
use Rattle.format.specs.Layout.{slots_each, slots_of, directory, free, slots, entries}
use Rattle.format.specs.Check.{broken}
use Rattle.format.specs.Calls.{asked, CheckAnswer, check_answer_by, after_check}
use Rattle.soundness.specs.Slots.{in_use_many, slots_many}
use Rattle.soundness.specs.Filed.{entries_of}
use Rattle.soundness.specs.Laid.{sound_laid}
use Rattle.soundness.specs.Pointers.{Bounded}
use Rattle.history.specs.History.{Command, Book, accepted, entered, opening_book, sum_directory}
use Rattle.history.specs.Demand3.{is_sound}
use Rattle.history.proofs.BookFiles.{file_of, files_of}
use Rattle.history.proofs.State.{State}

pub image_bounded : {F : Format} {G : Geometry} {n : ℕ} → GoodFormat F → ImageOf F G n → Bounded G
image_bounded {F} {G} f i =
    record {
      some_sector = omega (arith, four f, i.per_track);
      few = omega (arith, mul-le-mul_left G.per_track i.few_tracks, f.few, i.per_track);
    }

-- what holds of an image of the geometry G
module _ {F : Format} (o : GoodFormat F) (image : List ℕ) (G : Geometry) (g : geometry F (length image) ≡ ok G) where
  pub arranged_here : Arranged F G
  arranged_here = good_arranged o (geometry_ok F (length image) G g)

  pub bounded_here : Bounded G
  bounded_here = image_bounded o (geometry_ok F (length image) G g)

  pub full_here : Full G (cut F G image)
  full_here = cut_full F G arranged_here image (geometry_ok F (length image) G g).long

-- ---- what a command leaves of the book

-- a refused command leaves it
pub refused_book : (b : Book) (c : Command) (k : ℕ) → k ≢ 0 → entered b c k ≡ b
unfolding entered
refused_book b c zero h = absurd (h refl)
refused_book b c (suc k) h = refl

-- so does a command that changes nothing
pub unchanged_book : (b : Book) (c : Command) (k : ℕ) → accepted b c ≡ b → entered b c k ≡ b
unfolding entered
unchanged_book b c zero e = e
unchanged_book b c (suc k) e = refl

-- ---- a start

pub opening_state : (G : Geometry) (d : Disc) → Full G d → broken G d ≡ 0 → State G d d (opening_book G d)
unfolding opening_book sum_directory entries slots
opening_state G d z e =
    let n : ℕ = length (entries_of d (directory G d)) in
    let few : n ≤ slots_each * length (directory G d) = omega (arith, in_use_many (slots_of d (directory G d)), slots_many d (directory G d)) in
    let m : length (files_of G d (directory G d)) ≡ n = length-map (entries_of d (directory G d)) (file_of G d) in
    record {
      dir = directory G d;
      frees = free G d;
      laid = sound_laid G d e;
      full = z;
      same_files = as_is;
      directory_size = omega arith;
      below_peak = omega arith;
    }

-- what the check's answer says of the disc, and the other way round
module _ (F : Format) (image : List ℕ) (G : Geometry) (g : geometry F (length image) ≡ ok G) where
  pub checked_sound : after_check F image ≡ is_sound → broken G (cut F G image) ≡ 0
  unfolding after_check check_answer_by asked ◌>>=◌ value_or
  checked_sound e = ap (λ (c : CheckAnswer). c.rule) (rw g at e)

  pub rule_reported : (k : ℕ) → broken G (cut F G image) ≡ k → after_check F image ≡ record { number = 0; rule = k }
  unfolding after_check check_answer_by asked ◌>>=◌ number value_or
  rule_reported k e = rw g (ap (λ (k : ℕ). record { number = 0; rule = k }) e)

  pub sound_checked : broken G (cut F G image) ≡ 0 → after_check F image ≡ is_sound
  sound_checked e = rule_reported 0 e

-- ---- an image of the geometry G after writes that leave its sectors full

module _ (F : Format) (G : Geometry) (arr : Arranged F G) (image : List ℕ) (g : geometry F (length image) ≡ ok G)
    (ws : List Write) (z : Full G (written ws (cut F G image))) where
  pub now_long : length (flat F G (written ws (cut F G image))) ≡ length image
  now_long = flat_long F G arr (written ws (cut F G image)) z ∙ sym (geometry_ok F (length image) G g).long

  pub now_sized : geometry F (length (flat F G (written ws (cut F G image)))) ≡ ok G
  now_sized = ap (geometry F) now_long ∙ g

  pub now_cut : cut F G (flat F G (written ws (cut F G image))) ≡ written ws (cut F G image)
  now_cut = cut_flat F G arr (written ws (cut F G image)) z
