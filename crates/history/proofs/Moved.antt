-- Request k over runs, "the arrangement stated .. one throughout": on the moved form of an image each step gives the same number, a run leaves the moved
-- form of what the run on the image itself leaves, and the book is the same, from its opening on.
-- Assumes nothing.
use Rattle.std.specs.Prelude.{◌≡◌, ℕ, zero, suc, length, take}
use Rattle.std.proofs.Math.Path.{refl, ap}
use Rattle.std.proofs.Common.{sym, ap₂, ◌∙◌, subst}
use mathlib.Core.List.{List, [], ◌∷◌, map}
use Rattle.lists.specs.ListLaws.{All, all_map, all_take}
use Rattle.format.specs.Refusals.{ok}
use Rattle.format.proofs.RefusalLaws.{ok_is, then_ok}
use Rattle.format.specs.Geometry.{Format, stated, arranged, Geometry, geometry, Disc, cut, Write}
use Rattle.format.specs.GeometryLaws.{Full}
use Rattle.format.specs.WholeWrites.{Whole}
use Rattle.format.specs.Calls.{Answer, answered, CheckAnswer, ListAnswer, ReadAnswer}
use Rattle.format.specs.Moving.{Arrangement, moved_form, moved_answer, Moves}
use Rattle.format.proofs.MovingLaws.{moved_sectors, changed_moved, moves, card_moves, card_is}
use Rattle.history.specs.History.{opening_book, Command, list, read, save, delete, rename, protect, check, view, leaving, step, run, Book, entered, book_after}
use Rattle.history.specs.Cuts.{Writing, as_command, writes_on, after_writing, cut_on, after_cut}
use Rattle.history.specs.Events.{where_accepted, happens, image_after, Call, command, pulled, repair, replay, blank, event_of}
use Rattle.history.proofs.Quiet.{writing_whole}
use Rattle.history.proofs.Writings.{writing_step}

module _ (F : Format) (A : List ℕ) (m : Moves F A) where
  pub step_moved : (image : List ℕ) (c : Command) → step (arranged A F) (moved_form F A image) c ≡ moved_answer F A (step F image c)
  unfolding step
  step_moved image (list buffer) = ap (λ (r : ListAnswer). answered r.number (moved_form F A image)) (m.list image buffer)
  step_moved image (read name buffer) = ap (λ (r : ReadAnswer). answered r.number (moved_form F A image)) (m.read image name buffer)
  step_moved image (save name mod' buffer) = ap leaving (m.save image name mod' buffer)
  step_moved image (delete name buffer) = ap leaving (m.delete image name buffer)
  step_moved image (rename old new buffer) = ap leaving (m.rename image old new buffer)
  step_moved image (protect name on buffer) = ap leaving (m.protect image name on buffer)
  step_moved image check = ap (λ (r : CheckAnswer). answered r.number (moved_form F A image)) (m.check image)
  step_moved image (view t s) = ap (λ (n : ℕ). answered n (moved_form F A image)) (m.number_of_view image t s)

  pub run_moved : (image : List ℕ) (cs : List Command) → run (arranged A F) (moved_form F A image) cs ≡ moved_form F A (run F image cs)
  unfolding run
  run_moved image [] = refl
  run_moved image (c ∷ cs) = ap (λ (r : Answer). run (arranged A F) r.image cs) (step_moved image c) ∙ run_moved (step F image c).image cs

  -- the book is the same
  pub book_moved : (b : Book) (image : List ℕ) (cs : List Command) → book_after (arranged A F) b (moved_form F A image) cs ≡ book_after F b image cs
  unfolding book_after
  book_moved b image [] = refl
  book_moved b image (c ∷ cs) =
      ap (λ (r : Answer). book_after (arranged A F) (entered b c r.number) r.image cs) (step_moved image c)
      ∙ book_moved (entered b c (step F image c).number) (step F image c).image cs

-- the opening book
pub opening_moved : (F : Format) (A : List ℕ) → Arrangement F F.arrangement → Arrangement F A → (s : List ℕ) (G : Geometry) → geometry F (length s) ≡ ok G
    → opening_book G (cut (arranged A F) G (moved_form F A s)) ≡ opening_book G (cut F G s)
opening_moved F A own other s G g = ap (opening_book G) (moved_sectors F own A other s G g)

-- the card's arrangement, as the calls' contracts name it
pub card_run : (image : List ℕ) (cs : List Command)
    → run (stated 10 1) (moved_form (stated 10 0) (stated 10 1).arrangement image) cs
    ≡ moved_form (stated 10 0) (stated 10 1).arrangement (run (stated 10 0) image cs)
card_run image cs =
    ap (λ (F : Format). run F (moved_form (stated 10 0) (stated 10 1).arrangement image) cs) card_is
    ∙ run_moved (stated 10 0) (stated 10 1).arrangement card_moves image cs

-- ---- lists with pulled cards, repairs, replays and blank discs (request g)

cut_whole : (w : Writing) (k : ℕ) (G : Geometry) (d : Disc) → Full G d → (ws : List Write) → cut_on w k G d ≡ ok ws → All (Whole G) ws
unfolding cut_on
cut_whole w k G d z ws p =
    let a = then_ok (writes_on w G d) _ p in
    let made : All (Whole G) (take k a.0) = all_map (λ v h l. h.1) (all_take k (writing_whole G d z w a.0 a.1)) in
    subst (All (Whole G)) (ok_is a.2) made

module _ (F : Format) (own : Arrangement F F.arrangement) (A : List ℕ) (other : Arrangement F A) where
  abbrev form : List ℕ → List ℕ
  form image = moved_form F A image

  cut_moved : (image : List ℕ) (w : Writing) (k : ℕ) → after_cut (arranged A F) (form image) w k ≡ moved_answer F A (after_cut F image w k)
  unfolding after_cut
  cut_moved image w k = changed_moved F own A other (cut_on w k) (cut_whole w k) image

  -- a pulled card, by the command's answer
  pulled_moved : (image : List ℕ) (w : Writing) (buffer : List ℕ) (k : ℕ)
      → where_accepted (after_writing (arranged A F) (form image) w buffer).number (form image) (after_cut (arranged A F) (form image) w k)
      ≡ moved_answer F A (where_accepted (after_writing F image w buffer).number image (after_cut F image w k))
  pulled_moved image w buffer k =
      let same : (after_writing (arranged A F) (form image) w buffer).number ≡ (after_writing F image w buffer).number =
      ap (λ (a : Answer). a.number) (sym (writing_step (arranged A F) (form image) w buffer) ∙ step_moved F A (moves F own A other) image (as_command w buffer))
      ∙ ap (λ (a : Answer). a.number) (writing_step F image w buffer) in
      ap₂ (λ (n : ℕ) (a : Answer). where_accepted n (form image) a) same (cut_moved image w k) ∙ by (after_writing F image w buffer).number
    where
      by : (n : ℕ) → where_accepted n (form image) (moved_answer F A (after_cut F image w k)) ≡ moved_answer F A (where_accepted n image (after_cut F image w k))
      by zero = refl
      by (suc n) = refl

  pub call_moved : (image : List ℕ) (c : Call)
      → happens (arranged A F) (form image) (event_of (arranged A F) c) ≡ moved_answer F A (happens F image (event_of F c))
  unfolding happens event_of
  call_moved image (command c) = step_moved F A (moves F own A other) image c
  call_moved image (pulled w buffer k) = pulled_moved image w buffer k
  call_moved image repair = (moves F own A other).repair image
  call_moved image (replay writes) = (moves F own A other).replay image writes
  call_moved image (blank name) = (moves F own A other).blank image name

  pub calls_moved : (image : List ℕ) (cs : List Call)
      → image_after (arranged A F) (form image) (map (event_of (arranged A F)) cs) ≡ form (image_after F image (map (event_of F) cs))
  unfolding image_after
  calls_moved image [] = refl
  calls_moved image (c ∷ cs) =
      ap (λ (a : Answer). image_after (arranged A F) a.image (map (event_of (arranged A F)) cs)) (call_moved image c)
      ∙ calls_moved (happens F image (event_of F c)).image cs
