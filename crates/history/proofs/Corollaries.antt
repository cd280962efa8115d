-- Sentences of document 01 that follow from demand 3: what the opening book's readings are, that what is saved is read back, and that a save which
-- changes no byte cannot say done.
-- Assumes nothing.
use Rattle.std.specs.Prelude.{◌≡◌, ℕ, ◌≤◌}
use Rattle.std.proofs.Math.Path.{refl, ap, subst}
use Rattle.std.proofs.Common.{sym, ◌∙◌, arith, le-ltb}
use Rattle.std.proofs.Math.Option.{Option, none, some}
use mathlib.Core.List.{List, [], ◌∷◌}
use Rattle.std.proofs.Math.ListN.{length, get_elem?}
use Rattle.lists.specs.ListLaws.{all_mapped, all_any}
use Rattle.lists.specs.OnlyOne.{all_got}
use Rattle.format.specs.Refusals.{NOT-PLAIN, ok, ◌>>◌, refuse◌if◌, ◌or_refuse◌}
use Rattle.format.proofs.RefusalLaws.{refusal_number}
use Rattle.format.specs.Geometry.{Format, Geometry, geometry, Disc, cut}
use Rattle.format.specs.Formats.{GoodFormat}
use Rattle.format.specs.Names.{stored}
use Rattle.format.specs.Layout.{Slot, entries}
use Rattle.format.specs.Modules.{Module}
use Rattle.format.proofs.ModuleLaws.{module_true, sectors_fit, plain_only}
use Rattle.format.specs.Effects.{reading}
use Rattle.format.specs.Calls.{save_on, ChangeAnswer, change_answer_by, read_answer_by, after_check, after_read, after_save}
use Rattle.format.proofs.CallLaws.{save_ok}
use Rattle.format.specs.ListedLaws.{Outcome, stays, writes}
use Rattle.format.proofs.ListedLaws.{outcome}
use Rattle.history.specs.History.{Command, save, step, run, File, Book, nine_of, accepted, entered, opening_book, book_after, says, sum_directory, sum_files}
use Rattle.history.specs.Demand3.{is_sound, Handed, Moment, Demand3}
use Rattle.history.proofs.State.{nine_of_stored}
use Rattle.history.proofs.DemandSays.{demand_3_of}

-- a module that is read has 65,536 bytes at most
reading_small : (G : Geometry) (d : Disc) (s : Slot) (m : Module) → reading G d s ≡ some m → length m.bytes ≤ 65536
unfolding reading
reading_small G d s m e = omega (arith, (module_true m (plain_only _ m e).0).within)

-- with room for every module, what the book says is the reading itself
says_whole : (o : Option Module) (room : ℕ) → ((m : Module) → o ≡ some m → length m.bytes ≤ room) → says o room ≡ (o or_refuse NOT-PLAIN)
unfolding says ◌or_refuse◌ refuse◌if◌ ◌>>◌
says_whole none room h = refl
says_whole (some m) room h = rw (le-ltb room (length m.bytes) (h m refl))

-- an accepted save's name can be stored
saved_typed : (F : Format) (s name : List ℕ) (m : Module) (buffer : List ℕ) (G : Geometry) → geometry F (length s) ≡ ok G
    → (after_save F s name m buffer).number ≡ 0 → stored name ≡ some (nine_of name)
unfolding after_save change_answer_by
saved_typed F s name m buffer G g = case (outcome F s buffer (λ G d. save_on G d name m) G g)
  where
    case : {r : ChangeAnswer} → Outcome F G s buffer (λ G d. save_on G d name m) r → r.number ≡ 0 → stored name ≡ some (nine_of name)
    case (stays e) z = absurd (refusal_number e z)
    case (writes ws p fits) z = let q = save_ok G (cut F G s) name m ws p in q.typed ∙ ap some (sym (nine_of_stored name q.typed))

module _ (F : Format) (f : GoodFormat F) (s : List ℕ) (G : Geometry) (g : geometry F (length s) ≡ ok G) (checked : after_check F s ≡ is_sound) where
  -- "At the start these are the entries', each reading as read with a buffer of 65,536 bytes gives it."
  pub opening_reads : (i : ℕ) (file : File) → get_elem? (opening_book G (cut F G s)).files i ≡ some file
      → (typed buffer : List ℕ) → stored typed ≡ some file.name → length buffer ≡ 65536
      → after_read F s typed buffer ≡ read_answer_by buffer (file.reading or_refuse NOT-PLAIN)
  unfolding Demand3 run book_after opening_book
  opening_reads i file e typed buffer t long =
      let m = demand_3_of F f s G g checked [] tt 0 (omega arith) in
      let small = all_got {P = λ file. (m : Module) → file.reading ≡ some m → length m.bytes ≤ 65536} i file
      (all_mapped _ (all_any (entries G (cut F G s)) (λ slot. reading_small G (cut F G s) slot))) e in
      m.reads i file e typed buffer t ∙ ap (read_answer_by buffer) (says_whole file.reading (length buffer) (λ m q. omega (arith, small m q)))

  -- an accepted save's module is read back under its name
  pub saved_reads : (name : List ℕ) (m : Module) (lent : List ℕ) → Handed (save name m lent) → (after_save F s name m lent).number ≡ 0
      → (buffer : List ℕ) → after_read F (after_save F s name m lent).image name buffer ≡ read_answer_by buffer (says (some m) (length buffer))
  unfolding Demand3 run book_after step entered accepted
  saved_reads name m lent handed e buffer =
      let b : Book = opening_book G (cut F G s) in
      let c : Command = save name m lent in
      let now : Moment F G s (after_save F s name m lent).image (accepted b c) =
      subst (λ (k : ℕ). Moment F G s (after_save F s name m lent).image (entered b c k)) e
      (demand_3_of F f s G g checked (c ∷ []) (handed, tt) 1 (omega arith)) in
      now.reads 0 _ refl name buffer (saved_typed F s name m lent G g e)

-- "The last two fail demand 3 as well": a save that changes no byte, and one that only says done for later sheets. At no moment of a run is a save
-- accepted while the image stays: the free chain would have to be shorter.
pub save_that_stays : (F : Format) (G : Geometry) (s image name lent : List ℕ) (b : Book) (m : Module)
    → Moment F G s image b → Moment F G s image (accepted b (save name m lent)) → ⊥
unfolding accepted sum_files sum_directory
save_that_stays F G s image name lent b m before after = omega (arith, before.free_added, after.free_added, (sectors_fit (length m.bytes)).some_sector)
