-- The claim of Replays holds: an accepted command's list stands at the front of the buffer, and what it holds are the command's writes.
-- Assumes nothing.
use Rattle.std.specs.Prelude.{◌≡◌, ℕ, ◌<◌, List, length, drop}
use Rattle.std.proofs.Math.Path.{sym, ap, refl}
use Rattle.std.proofs.Common.{◌∙◌, arith, take_at}
use Rattle.lists.specs.ListLaws.{All}
use Rattle.format.specs.Refusals.{Try, Refusal, SHORT, refused, ok, ◌>>=◌, ◌or_refuse◌, number, value_or}
use Rattle.format.proofs.RefusalLaws.{refused_ok, ok_is, if_ok, then_ok, refusal_number}
use Rattle.format.specs.Geometry.{Format, stated, Geometry, geometry, Disc, cut, flat, Write, written}
use Rattle.format.specs.GeometryLaws.{Full}
use Rattle.format.proofs.GeometryLaws.{no_disc, geometry_ok, cut_full}
use Rattle.format.proofs.Formats.{four, stated_cases, stated_arranged}
use Rattle.format.specs.Writes.{write_list}
use Rattle.format.specs.WriteLaws.{WholeOn}
use Rattle.format.proofs.WriteLaws.{held_list}
use Rattle.format.specs.Calls.{save_on, delete_on, rename_on, protect_on, replay_on, Change, changed, listed, answered, answer_by, change_answer_by, after_save, after_delete, after_rename, after_protect, after_replay}
use Rattle.soundness.specs.ListedWrites.{save_listed, delete_listed, rename_listed, protect_listed}
use Rattle.history.specs.Replays.{Replayed, Replays}

-- a command that was accepted on an image
record Accepted (F : Format) (image : List ℕ) (h : Geometry → Disc → Try Refusal (List Write)) (l : Change) : Type 0 where
  G : Geometry
  ws : List Write
  sized : geometry F (length image) ≡ ok G
  passed : h G (cut F G image) ≡ ok ws
  is_image : flat F G (written ws (cut F G image)) ≡ l.image
  is_list : write_list G ws ≡ l.list

accepted : (F : Format) (image : List ℕ) (h : Geometry → Disc → Try Refusal (List Write)) (room : ℕ) (l : Change) → listed F image room h ≡ ok l
    → Accepted F image h l
unfolding listed
accepted F image h room l p =
    let a = then_ok (geometry F (length image)) _ p in
    let b = then_ok (h a.0 (cut F a.0 image)) _ a.2 in
    let c = ok_is (if_ok SHORT _ _ b.2).1 in
    record { G = a.0; ws = b.0; sized = a.1; passed = b.1; is_image = ap (λ (l : Change). l.image) c; is_list = ap (λ (l : Change). l.list) c }

-- an image has a sector on each track
some_sector : (k a n : ℕ) (G : Geometry) → geometry (stated k a) n ≡ ok G → 0 < G.per_track
some_sector =
    stated_cases (λ F. (n : ℕ) (G : Geometry) → geometry F n ≡ ok G → 0 < G.per_track)
    (λ F f n G g. omega (arith, four f, (geometry_ok F n G g).per_track)) (λ n G g. absurd (refused_ok (sym (no_disc n) ∙ g)))

module _ (k a : ℕ) where
  abbrev F : Format
  F = stated k a

  -- the list of whole sectors of the disc, replayed
  list_replayed : (image : List ℕ) (G : Geometry) (ws : List Write) → geometry F (length image) ≡ ok G → All (WholeOn G) ws
      → after_replay F image (write_list G ws) ≡ answered 0 (flat F G (written ws (cut F G image)))
  unfolding after_replay answer_by changed replay_on number value_or ◌>>=◌ ◌or_refuse◌
  list_replayed image G ws g whole = rw (g, held_list G (some_sector k a (length image) G g) whole)

  -- any command that writes whole sectors of the disc
  replayed : (image buffer : List ℕ) (h : Geometry → Disc → Try Refusal (List Write))
      → ((G : Geometry) (d : Disc) → Full G d → (ws : List Write) → h G d ≡ ok ws → All (WholeOn G) ws)
      → Replayed F image (change_answer_by image buffer (listed F image (length buffer) h))
  unfolding change_answer_by
  replayed image buffer h whole = case (listed F image (length buffer) h) refl
    where
      case : (t : Try Refusal Change) → listed F image (length buffer) h ≡ t → Replayed F image (change_answer_by image buffer t)
      case (refused e) p n = absurd (refusal_number e n)
      case (ok l) p n =
          let q = accepted F image h (length buffer) l p in
          let full = cut_full F q.G (stated_arranged k a (length image) q.G q.sized) image (geometry_ok F (length image) q.G q.sized).long in
          ap (after_replay F image) (take_at l.list (drop (length l.list) buffer) (length l.list) refl ∙ sym q.is_list)
          ∙ list_replayed image q.G q.ws q.sized (whole q.G _ full q.ws q.passed) ∙ ap (answered 0) q.is_image

  pub replays : Replays (stated k a)
  unfolding after_save after_delete after_rename after_protect
  replays =
      record {
        save = λ image name m buffer. replayed image buffer (λ G d. save_on G d name m) (λ G d z ws p. save_listed G d z name m ws p);
        delete = λ image name buffer. replayed image buffer (λ G d. delete_on G d name) (λ G d z ws p. delete_listed G d z name ws p);
        rename = λ image old new buffer. replayed image buffer (λ G d. rename_on G d old new) (λ G d z ws p. rename_listed G d z old new ws p);
        protect = λ image name on buffer. replayed image buffer (λ G d. protect_on G d name on) (λ G d z ws p. protect_listed G d z name on ws p);
      }
