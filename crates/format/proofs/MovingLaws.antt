-- Request k: every call gives the same answer in any arrangement, and the moved form of its result.
-- Assumes nothing.
use Rattle.std.specs.Prelude.{◌≡◌, Bool, ltb}
use Rattle.std.proofs.Math.Path.{refl, sym, ap}
use Rattle.std.proofs.Common.{ap₂, ◌∙◌, subst, arith}
use Prim.Native.Nat.{ℕ, suc, ◌+◌, ◌*◌, ◌/◌, ◌%◌, ◌<◌}
use Rattle.std.proofs.Math.Bool.{true, false, not}
use Rattle.std.proofs.Math.Option.{Option, none, some}
use mathlib.Core.List.{List}
use Rattle.std.proofs.Math.ListN.{length}
use Rattle.lists.specs.Lists.{Once, front}
use Rattle.lists.specs.ListLaws.{All}
use Rattle.lists.specs.Counts.{in_order_once}
use Rattle.format.specs.Refusals.{Try, Refusal, NAME, SHORT, NO-SECTOR, refused, ok, ◌>>=◌, ◌>>◌, refuse◌if◌, ◌or_refuse◌, number, value_or}
use Rattle.format.specs.Geometry.{Format, ten, ten_moved, unknown, stated, arranged, Geometry, geometry, sectors, sector_number, start_of, place_of, sector_at, on_disc, Disc, cut, flat, sector, body_part, moved_part, bytes_of, Write, written}
use Rattle.format.specs.Arrangements.{Arranged}
use Rattle.format.specs.GeometryLaws.{ImageOf, Full}
use Rattle.format.proofs.GeometryLaws.{same_length, no_disc, place_back, number_below, on_disc_is, geometry_ok, cut_full, cut_flat, flat_cut, flat_long}
use Rattle.format.proofs.Formats.{stated_cases, other_arrangement, other_sectors, nine_moved}
use Rattle.format.specs.Calls.{list_on, read_on, save_on, delete_on, rename_on, protect_on, replay_on, repair_on, part_by, list_answer_by, read_answer_by, answered, answer_by, asked, changed, listed, change_answer_by, blank, view, check_answer_by, after_check, after_list, after_read, after_save, after_delete, after_rename, after_protect, after_replay, after_repair, after_blank, view_number, view_part}
use Rattle.format.specs.Names.{disc_name}
use Rattle.format.specs.Check.{broken}
use Rattle.format.specs.Effects.{body, blank_disc}
use Rattle.format.proofs.CallLaws.{view_body}
use Rattle.format.specs.WholeWrites.{Whole}
use Rattle.format.proofs.WholeWrites.{written_full, save_whole, delete_whole, rename_whole, protect_whole, blank_whole, repair_whole}
use Rattle.format.specs.Writes.{write_list}
use Rattle.format.proofs.WriteLaws.{replay_whole}
use Rattle.format.specs.Moving.{Arrangement, moved_form, moved_view, moved_answer, moved_change, Moves, MovesAlike, MovesBack, GivesOne, OtherNumbers}
use Rattle.format.specs.MovingLaws.{CardPlaces}

module _ (F : Format) (own : Arrangement F F.arrangement) (A : List ℕ) (other : Arrangement F A) where
  module _ (image : List ℕ) (G : Geometry) (g : geometry F (length image) ≡ ok G) where
    size : ImageOf F G (length image)
    size = geometry_ok F (length image) G g

    a : Arranged F G
    a = subst (λ (k : ℕ). Once (suc k) F.arrangement) (sym size.per_track) own

    a' : Arranged (arranged A F) G
    a' = subst (λ (k : ℕ). Once (suc k) A) (sym size.per_track) other

    full : Full G (cut F G image)
    full = cut_full F G a image size.long

    moved_is : moved_form F A image ≡ flat (arranged A F) G (cut F G image)
    unfolding moved_form value_or ◌>>=◌
    moved_is = rw g refl

    moved_long : length (moved_form F A image) ≡ length image
    moved_long = ap length moved_is ∙ flat_long (arranged A F) G a' (cut F G image) full ∙ sym size.long

    moved_geometry : geometry (arranged A F) (length (moved_form F A image)) ≡ ok G
    moved_geometry = same_length F A (length (moved_form F A image)) ∙ ap (geometry F) moved_long ∙ g

    pub moved_sectors : cut (arranged A F) G (moved_form F A image) ≡ cut F G image
    moved_sectors = ap (cut (arranged A F) G) moved_is ∙ cut_flat (arranged A F) G a' (cut F G image) full

    -- the moved form of an image made from sectors
    moved_flat : (d : Disc) → Full G d → moved_form F A (flat F G d) ≡ flat (arranged A F) G d
    unfolding moved_form value_or ◌>>=◌
    moved_flat d f =
        let long : length (flat F G d) ≡ length image = flat_long F G a d f ∙ sym size.long in
        rw (ap (geometry F) long ∙ g) (ap (flat (arranged A F) G) (cut_flat F G a d f))

  -- an image of a wrong length stays
  moved_wrong : (image : List ℕ) (e : Refusal) → geometry F (length image) ≡ refused e → moved_form F A image ≡ image
  unfolding moved_form value_or ◌>>=◌
  moved_wrong image e g = rw g refl

  -- ---- a call that writes nothing into the image

  pub asked_moved : {R : Type 0} (f : Geometry → Disc → Try Refusal R) (image : List ℕ) → asked (arranged A F) (moved_form F A image) f ≡ asked F image f
  unfolding asked ◌>>=◌
  asked_moved {R} f image = by (geometry F (length image)) refl
    where
      by : (t : Try Refusal Geometry) → geometry F (length image) ≡ t → asked (arranged A F) (moved_form F A image) f ≡ asked F image f
      by (refused e) p = rw (moved_wrong image e p, same_length F A (length image), p) refl
      by (ok G) p = rw (moved_geometry image G p, p) (ap (f G) (moved_sectors image G p))

  -- ---- a call that writes whole sectors

  pub changed_moved : (h : Geometry → Disc → Try Refusal (List Write))
      → ((G : Geometry) (d : Disc) → Full G d → (ws : List Write) → h G d ≡ ok ws → All (Whole G) ws) → (image : List ℕ)
      → answer_by (moved_form F A image) (changed (arranged A F) (moved_form F A image) h) ≡ moved_answer F A (answer_by image (changed F image h))
  unfolding changed answer_by number value_or ◌>>=◌
  changed_moved h whole image = by (geometry F (length image)) refl
    where
      by : (t : Try Refusal Geometry) → geometry F (length image) ≡ t
          → answer_by (moved_form F A image) (changed (arranged A F) (moved_form F A image) h) ≡ moved_answer F A (answer_by image (changed F image h))
      by (refused e) p = rw (same_length F A (length (moved_form F A image)), ap (λ (x : List ℕ). geometry F (length x)) (moved_wrong image e p) ∙ p, p) refl
      by (ok G) p = rw (moved_geometry image G p, p, moved_sectors image G p) (on (h G (cut F G image)) refl)
        where
          d : Disc
          d = cut F G image

          on : (t : Try Refusal (List Write)) → h G d ≡ t
              → answer_by (moved_form F A image) (t >>= λ ws. ok (flat (arranged A F) G (written ws d)))
              ≡ moved_answer F A (answer_by image (t >>= λ ws. ok (flat F G (written ws d))))
          on (refused e) q = refl
          on (ok ws) q = ap (answered 0) (sym (moved_flat image G p (written ws d) (written_full ws (whole G d (full image G p) ws q) (full image G p))))

  -- the same, with the list of what was written
  pub listed_moved : (h : Geometry → Disc → Try Refusal (List Write))
      → ((G : Geometry) (d : Disc) → Full G d → (ws : List Write) → h G d ≡ ok ws → All (Whole G) ws) → (image buffer : List ℕ)
      → change_answer_by (moved_form F A image) buffer (listed (arranged A F) (moved_form F A image) (length buffer) h)
      ≡ moved_change F A (change_answer_by image buffer (listed F image (length buffer) h))
  unfolding listed change_answer_by ◌>>=◌ ◌>>◌ refuse◌if◌
  listed_moved h whole image buffer = by (geometry F (length image)) refl
    where
      by : (t : Try Refusal Geometry) → geometry F (length image) ≡ t
          → change_answer_by (moved_form F A image) buffer (listed (arranged A F) (moved_form F A image) (length buffer) h)
          ≡ moved_change F A (change_answer_by image buffer (listed F image (length buffer) h))
      by (refused e) p = rw (same_length F A (length (moved_form F A image)), ap (λ (x : List ℕ). geometry F (length x)) (moved_wrong image e p) ∙ p, p) refl
      by (ok G) p = rw (moved_geometry image G p, p, moved_sectors image G p) (on (h G (cut F G image)) refl)
        where
          d : Disc
          d = cut F G image

          -- what is answered where there is room, and where there is none
          fits : (ws : List Write) → h G d ≡ ok ws → (b : Bool)
              → change_answer_by (moved_form F A image) buffer
              (refuse SHORT if b >> ok (record { image = flat (arranged A F) G (written ws d); list = write_list G ws }))
              ≡ moved_change F A (change_answer_by image buffer (refuse SHORT if b >> ok (record { image = flat F G (written ws d); list = write_list G ws })))
          fits ws q true = refl
          fits ws q false =
              let there = moved_flat image G p (written ws d) (written_full ws (whole G d (full image G p) ws q) (full image G p)) in
              λ i. record { number = 0; size = length (write_list G ws); image = sym there i; buffer = front (write_list G ws) buffer }

          on : (t : Try Refusal (List Write)) → h G d ≡ t
              → change_answer_by (moved_form F A image) buffer
              (t >>= λ ws. (refuse SHORT if ltb (length buffer) (length (write_list G ws))
              >> ok (record { image = flat (arranged A F) G (written ws d); list = write_list G ws })))
              ≡ moved_change F A (change_answer_by image buffer
              (t >>= λ ws. (refuse SHORT if ltb (length buffer) (length (write_list G ws))
              >> ok (record { image = flat F G (written ws d); list = write_list G ws }))))
          on (refused e) q = refl
          on (ok ws) q = fits ws q (ltb (length buffer) (length (write_list G ws)))

  -- ---- blank disc and view

  blank_moved : (name image : List ℕ)
      → answer_by (moved_form F A image) (blank (arranged A F) (moved_form F A image) name) ≡ moved_answer F A (answer_by image (blank F image name))
  unfolding blank answer_by number value_or ◌>>=◌ ◌or_refuse◌
  blank_moved name image = by (geometry F (length image)) refl
    where
      by : (t : Try Refusal Geometry) → geometry F (length image) ≡ t
          → answer_by (moved_form F A image) (blank (arranged A F) (moved_form F A image) name) ≡ moved_answer F A (answer_by image (blank F image name))
      by (refused e) p = rw (same_length F A (length (moved_form F A image)), ap (λ (x : List ℕ). geometry F (length x)) (moved_wrong image e p) ∙ p, p) refl
      by (ok G) p = rw (moved_geometry image G p, p) (on (disc_name name))
        where
          on : (o : Option (List ℕ))
              → answer_by (moved_form F A image) (o or_refuse NAME >>= λ nine. ok (flat (arranged A F) G (blank_disc G nine)))
              ≡ moved_answer F A (answer_by image (o or_refuse NAME >>= λ nine. ok (flat F G (blank_disc G nine))))
          on none = refl
          on (some nine) = ap (answered 0) (sym (moved_flat image G p (blank_disc G nine) (blank_whole G nine)))

  part_moved : (t s : ℕ) (image : List ℕ)
      → view (arranged A F) (moved_form F A image) t s ≡ moved_view F A image (view F image t s)
  unfolding view moved_view ◌>>=◌ ◌>>◌ refuse◌if◌
  part_moved t s image = by (geometry F (length image)) refl
    where
      by : (r : Try Refusal Geometry) → geometry F (length image) ≡ r
          → view (arranged A F) (moved_form F A image) t s ≡ moved_view F A image (view F image t s)
      by (refused e) p = rw (same_length F A (length (moved_form F A image)), ap (λ (x : List ℕ). geometry F (length x)) (moved_wrong image e p) ∙ p, p) refl
      by (ok G) p = rw (moved_geometry image G p, p) (on (on_disc G t s) refl)
        where
          n : ℕ
          n = sector_number G t s

          same : on_disc G t s ≡ true → body_part (arranged A F) G n ≡ moved_part F A G (body_part F G n)
          same q =
              let h = on_disc_is G t s q in
              let place : ℕ = place_of F G n in
              let whole : (256 * place + 2) / 256 ≡ place = omega arith in
              let rest : (256 * place + 2) % 256 ≡ 2 = omega arith in
              let there = place_back F G (a image G p) n (number_below G (omega (arith, h.1, h.2)) t s h.0 h.1 h.2) in
              ap₂ (λ (n k : ℕ). record { at = start_of (arranged A F) G n + k; size = 254 }) (sym (ap (sector_at F G) whole ∙ there)) (sym rest)

          on : (b : Bool) → on_disc G t s ≡ b
              → (refuse NO-SECTOR if not b >> ok (body_part (arranged A F) G n))
              ≡ ((refuse NO-SECTOR if not b >> ok (body_part F G n)) >>= λ p. ok (moved_part F A G p))
          on false q = refl
          on true q = ap ok (same q)

  view_moved : (t s : ℕ) (image : List ℕ) → view_number (arranged A F) (moved_form F A image) t s ≡ view_number F image t s
  unfolding view_number view number ◌>>=◌ ◌>>◌ refuse◌if◌
  view_moved t s image = by (geometry F (length image)) refl
    where
      by : (r : Try Refusal Geometry) → geometry F (length image) ≡ r → view_number (arranged A F) (moved_form F A image) t s ≡ view_number F image t s
      by (refused e) p = rw (same_length F A (length (moved_form F A image)), ap (λ (x : List ℕ). geometry F (length x)) (moved_wrong image e p) ∙ p, p) refl
      by (ok G) p = rw (moved_geometry image G p, p) (on (on_disc G t s))
        where
          on : (b : Bool) → number (refuse NO-SECTOR if not b >> ok (body_part (arranged A F) G (sector_number G t s)))
              ≡ number (refuse NO-SECTOR if not b >> ok (body_part F G (sector_number G t s)))
          on true = refl
          on false = refl

  view_bytes_moved : (t s : ℕ) (image : List ℕ)
      → bytes_of (view_part (arranged A F) (moved_form F A image) t s) (moved_form F A image) ≡ bytes_of (view_part F image t s) image
  unfolding view_part view part_by value_or ◌>>=◌ ◌>>◌ refuse◌if◌
  view_bytes_moved t s image = by (geometry F (length image)) refl
    where
      by : (r : Try Refusal Geometry) → geometry F (length image) ≡ r
          → bytes_of (view_part (arranged A F) (moved_form F A image) t s) (moved_form F A image) ≡ bytes_of (view_part F image t s) image
      by (refused e) p = rw (same_length F A (length (moved_form F A image)), ap (λ (x : List ℕ). geometry F (length x)) (moved_wrong image e p) ∙ p, p) refl
      by (ok G) p = on (on_disc G t s) refl
        where
          on : (b : Bool) → on_disc G t s ≡ b
              → bytes_of (view_part (arranged A F) (moved_form F A image) t s) (moved_form F A image) ≡ bytes_of (view_part F image t s) image
          on false q = rw (moved_geometry image G p, p, q) refl
          on true q =
              let h = on_disc_is G t s q in
              let below : sector_number G t s < sectors G = number_below G (omega (arith, h.1, h.2)) t s h.0 h.1 h.2 in
              view_body (arranged A F) (moved_form F A image) G t s (a' image G p) (moved_geometry image G p) q below
              ∙ ap (λ (d : Disc). body (sector d (sector_number G t s))) (moved_sectors image G p)
              ∙ sym (view_body F image G t s (a image G p) p q below)

  -- "Show this once for any arrangement of the ten places"
  pub moves : Moves F A
  unfolding after_check after_list after_read after_save after_delete after_rename after_protect after_replay after_repair after_blank
  moves =
      record {
        check = λ image. ap check_answer_by (asked_moved (λ G d. ok (broken G d)) image);
        list = λ image buffer. ap (list_answer_by buffer) (asked_moved (λ G d. list_on G d (length buffer)) image);
        read = λ image name buffer. ap (read_answer_by buffer) (asked_moved (λ G d. read_on G d name (length buffer)) image);
        save = λ image name m buffer. listed_moved (λ G d. save_on G d name m) (λ G d f ws p. save_whole G d f name m ws p) image buffer;
        delete = λ image name buffer. listed_moved (λ G d. delete_on G d name) (λ G d f ws p. delete_whole G d f name ws p) image buffer;
        rename = λ image old new buffer. listed_moved (λ G d. rename_on G d old new) (λ G d f ws p. rename_whole G d f old new ws p) image buffer;
        protect = λ image name on buffer. listed_moved (λ G d. protect_on G d name on) (λ G d f ws p. protect_whole G d f name on ws p) image buffer;
        replay = λ image writes. changed_moved (λ G d. replay_on G d writes) (λ G d f ws p. replay_whole G d writes ws p) image;
        repair = λ image. changed_moved (λ G d. repair_on G d) (λ G d f ws p. repair_whole G d f ws p) image;
        blank = λ image name. blank_moved name image;
        view = λ image t s. part_moved t s image;
        number_of_view = λ image t s. view_moved t s image;
        view_bytes = λ image t s. view_bytes_moved t s image;
      }

-- for every kind of disc
pub moves_alike : (F : Format) → Arrangement F F.arrangement → MovesAlike F
unfolding MovesAlike
moves_alike F own A other = moves F own A other

-- moved, and moved back
module _ (F : Format) (own : Arrangement F F.arrangement) (A : List ℕ) (other : Arrangement F A) where
  there_and_back : (image : List ℕ) → moved_form (arranged A F) F.arrangement (moved_form F A image) ≡ image
  there_and_back image = by (geometry F (length image)) refl
    where
      by : (t : Try Refusal Geometry) → geometry F (length image) ≡ t → moved_form (arranged A F) F.arrangement (moved_form F A image) ≡ image
      by (refused e) p =
          ap (moved_form (arranged A F) F.arrangement) (moved_wrong F own A other image e p)
          ∙ moved_wrong (arranged A F) other F.arrangement own image e (same_length F A (length image) ∙ p)
      by (ok G) p =
          moved_is (arranged A F) other F.arrangement own (moved_form F A image) G (moved_geometry F own A other image G p)
          ∙ ap (flat F G) (moved_sectors F own A other image G p) ∙ flat_cut F G (a F own A other image G p) image (size F own A other image G p).long

pub moves_back : (F : Format) → Arrangement F F.arrangement → MovesBack F
unfolding MovesBack
moves_back F own A other image = (there_and_back F own A other image, there_and_back (arranged A F) other F.arrangement own image)

-- ---- whatever a caller states, and then "these two"

none_arranged : Arrangement unknown unknown.arrangement
unfolding unknown
none_arranged = in_order_once 0

own_arranged : (k a : ℕ) → Arrangement (stated k a) (stated k a).arrangement
own_arranged = stated_cases (λ F. Arrangement F F.arrangement) (λ F f. f.each_once) none_arranged

pub stated_moves : (k a : ℕ) → MovesAlike (stated k a)
stated_moves k a = moves_alike (stated k a) (own_arranged k a)

pub stated_back : (k a : ℕ) → MovesBack (stated k a)
stated_back k a = moves_back (stated k a) (own_arranged k a)

-- the plain arrangement, and the card's, as the calls' contracts name them
pub plain_moves : Moves (stated 10 0) (stated 10 0).arrangement
unfolding MovesAlike
plain_moves = stated_moves 10 0 (stated 10 0).arrangement (own_arranged 10 0)

pub card_moves : Moves (stated 10 0) (stated 10 1).arrangement
unfolding MovesAlike stated ten_moved
card_moves = stated_moves 10 0 (stated 10 1).arrangement (own_arranged 10 1)

pub card_is : stated 10 1 ≡ arranged (stated 10 1).arrangement (stated 10 0)
unfolding stated ten_moved
card_is = refl

pub card_places : CardPlaces
unfolding stated ten_moved ten place_of sector_at
card_places = record { of_track = refl; starts_0_4 = refl; starts_39_10 = refl }

-- ---- what gives 1

none_gives_one : GivesOne unknown
unfolding view asked changed listed change_answer_by blank answer_by after_check check_answer_by after_list list_answer_by after_read after_save after_delete after_rename
    after_protect after_replay after_repair after_blank ◌>>=◌ number value_or
none_gives_one =
    record {
      check = λ image. rw (no_disc (length image));
      list = λ image buffer. rw (no_disc (length image));
      read = λ image name buffer. rw (no_disc (length image));
      save = λ image name m buffer. rw (no_disc (length image));
      delete = λ image name buffer. rw (no_disc (length image));
      rename = λ image old new buffer. rw (no_disc (length image));
      protect = λ image name on buffer. rw (no_disc (length image));
      replay = λ image writes. rw (no_disc (length image));
      repair = λ image. rw (no_disc (length image));
      blank = λ image name. rw (no_disc (length image));
      view = λ image t s. rw (no_disc (length image));
    }

pub other_numbers : OtherNumbers
other_numbers =
    record {
      arrangement = λ k a h. subst GivesOne (sym (other_arrangement k a h)) none_gives_one;
      per_track = λ k a h i. subst GivesOne (sym (other_sectors k a h i)) none_gives_one;
      nine_moved = subst GivesOne (sym nine_moved) none_gives_one;
    }
