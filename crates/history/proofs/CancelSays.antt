-- Request h's laws are not met by silence: what follows from the claims alone, whatever the calls' definitions write. After a save and the delete of its
-- file the check, every list and every reading are as before, and the free sectors too, in their order. Three renames in a row are one.
-- Assumes nothing.
use Rattle.std.specs.Prelude.{◌≡◌, refl, ◌≢◌, ◌&&◌, List, [], ◌∷◌, length}
use Rattle.std.proofs.Math.Path.{sym, ap, ap₂, subst}
use Rattle.std.proofs.Common.{◌∙◌, ne_eqb}
use Prim.Native.Nat.{ℕ, ◌+◌, ◌/◌, ◌%◌, ◌<◌}
use native.Mathlib.Omega.{arith}
use Rattle.std.proofs.Math.Decide.{ℕ_discrete}
use Rattle.std.proofs.Math.Bool.{false, and-false}
use Rattle.std.proofs.Math.Seq.{ext_get_or}
use Rattle.std.proofs.Math.Dec.{eqb}
use Rattle.lists.specs.Lists.{byte, filter, elem, times, last_or}
use Rattle.lists.specs.ListLaws.{zero_or, times_none, times_split, none_elem, at_all}
use Rattle.format.specs.Refusals.{ok, ◌>>=◌}
use Rattle.format.specs.Geometry.{Format, Geometry, geometry, sectors, sector_at, start_of, stop, pointed, Disc, sector, cut}
use Rattle.format.specs.Formats.{GoodFormat}
use Rattle.format.specs.Arrangements.{Arranged}
use Rattle.format.proofs.GeometryLaws.{pointed_stop, pointed_none, place_back, sector_full, byte_cut}
use Rattle.format.specs.Layout.{directory_offset, link_offset, pair_at, link_of, directory_pointer, directory, free}
use Rattle.format.specs.ChainLaws.{SameLink}
use Rattle.format.proofs.ChainLaws.{chain_stops, chain_frame}
use Rattle.format.specs.Check.{broken}
use Rattle.format.specs.Names.{stored}
use Rattle.format.specs.Modules.{Module, sectors_for}
use Rattle.format.specs.Effects.{growth, listing}
use Rattle.format.specs.Calls.{list_on, asked, ChangeAnswer, after_check, after_list, after_read, after_save, after_delete, after_rename}
use Rattle.soundness.specs.Filed.{entries_of, chains_of, Filed, entries_are}
use Rattle.soundness.specs.Laid.{Laid, sound_laid, laid_one, laid_sound, free_is}
use Rattle.soundness.specs.Frames.{laid_sum}
use Rattle.history.specs.History.{Book, named, opening_book}
use Rattle.history.specs.Demand3.{is_sound}
use Rattle.history.specs.Cuts.{save, after_writing}
use Rattle.history.specs.Cancels.{AllBytes, file_took, excepted, Cancelled, SaveDeleteCancel, RenamesJoin}
use Rattle.history.proofs.FiledFrame.{frame_filed, frame_entries, frame_met, frame_files}
use Rattle.history.proofs.Steps.{arranged_here, full_here, opening_state, sound_checked}
use Rattle.history.proofs.Quiet.{writing_sound}
use Rattle.history.proofs.Writings.{made_by}
use Rattle.history.proofs.CutsHold.{same_read_on, read_same, book_stays}

-- what the calls show of the image `back` is what they showed of `image`
pub record AsIfNever (F : Format) (G : Geometry) (image back : List ℕ) : Type 0 where
  pub checked : after_check F back ≡ is_sound
  pub lists : (buffer : List ℕ) → after_list F back buffer ≡ after_list F image buffer
  pub reads : (typed buffer : List ℕ) → after_read F back typed buffer ≡ after_read F image typed buffer
  pub frees : free G (cut F G back) ≡ free G (cut F G image)

module _ {F : Format} (f : GoodFormat F) (image : List ℕ) (G : Geometry) (g : geometry F (length image) ≡ ok G) (m : Module) (back : List ℕ)
    (c : Cancelled F G image m back) (s : broken G (cut F G image) ≡ 0) where
  d : Disc
  d = cut F G image

  d' : Disc
  d' = cut F G back

  g' : geometry F (length back) ≡ ok G
  g' = ap (geometry F) c.size ∙ g

  arr : Arranged F G
  arr = arranged_here f image G g

  l : Laid G d (directory G d) (free G d)
  unfolding d
  l = sound_laid G (cut F G image) s

  -- ---- from bytes of the image to bytes of sectors

  byte_back : (n k : ℕ) → n < sectors G → k < 256 → excepted G d m n k ≡ false → byte (sector d' n) k ≡ byte (sector d n) k
  unfolding d d'
  byte_back n k on h e =
      let i : ℕ = start_of F G n + k in
      let n-is : sector_at F G (i / 256) ≡ n = ap (sector_at F G) (omega arith) ∙ place_back F G arr n on in
      let k-is : i % 256 ≡ k = omega arith in
      byte_cut F G arr back n k on h ∙ c.as_before i (ap₂ (excepted G d m) n-is k-is ∙ e) ∙ sym (byte_cut F G arr image n k on h)

  -- a sector that isn't free is as it was
  stays : (n : ℕ) → n < sectors G → times n (free G d) ≡ 0 → sector d' n ≡ sector d n
  unfolding excepted file_took d d'
  stays n on out =
      let none : elem n (file_took G d m) ≡ false = none_elem n (file_took G d m) (omega (arith, times_split n (sectors_for (length m.bytes)) (free G d))) in
      let z = full_here f image G g in
      let z' = full_here f back G g' in
      ext_get_or 0 _ _ (sector_full z' n on ∙ sym (sector_full z n on))
      (λ k h. byte_back n k on (omega (arith, sector_full z' n on)) (rw none))

  -- every link leads where it led: the track byte differs at the end of the free chain alone, where the sector byte is zero
  links : (n : ℕ) → n < sectors G → SameLink G d d' n
  unfolding excepted
  links n on =
      elim (ℕ_discrete n (last_or 0 (free G d))) [
        | no e ↦
            let track-byte = byte_back n link_offset on (omega arith) (rw (ne_eqb n (last_or 0 (free G d)) e) (and-false (elem n (file_took G d m)))) in
            ap₂ (pointed G) track-byte sector_byte_kept
        | yes e ↦ elim (ℕ_discrete (times n (free G d)) 0) [
          | yes out ↦ ap (link_of G) (stays n on out)
          | no met ↦
              let ends : link_of G (sector d n) ≡ stop =
              subst (λ (k : ℕ). link_of G (sector d k) ≡ stop) (sym e) (chain_stops l.free_chain (some_met (free G d) (omega arith))) in
              let zero : byte (sector d n) (link_offset + 1) ≡ 0 = pointed_none G _ _ ends in
              pointed_stop G _ _ (sector_byte_kept ∙ zero) ∙ sym ends
        ]
      ]
    where
      sector_byte_kept : byte (sector d' n) (link_offset + 1) ≡ byte (sector d n) (link_offset + 1)
      sector_byte_kept =
          let none : eqb n (last_or 0 (free G d)) && false ≡ false = and-false (eqb n (last_or 0 (free G d))) in
          byte_back n (link_offset + 1) on (omega arith) (rw none (and-false (elem n (file_took G d m))))

      some_met : (ns : List ℕ) → 0 < times n ns → 0 < length ns
      some_met [] h = absurd (omega (arith, times_none n))
      some_met (k ∷ ns) h = omega arith

  -- ---- so the disc is laid as it was

  in_place : (n : ℕ) → 0 < times n (directory G d) + times n (chains_of G d (entries_of d (directory G d))) → sector d' n ≡ sector d n
  in_place n h = let one = laid_one l n in stays n (one.high (omega arith)) (omega (arith, one.one))

  same_system : sector d' 0 ≡ sector d 0
  same_system = let one = laid_one l 0 in stays 0 (omega (arith, laid_sum l, l.filed.some_directory)) (zero_or _ (λ h. omega (arith, one.low (omega arith))))

  same_pointer : directory_pointer G d' ≡ directory_pointer G d
  same_pointer = ap (λ (r : List ℕ). pair_at G r directory_offset) same_system

  filed' : Filed G d' (directory G d)
  filed' = frame_filed d' l.filed same_pointer in_place

  same_entries : entries_of d' (directory G d) ≡ entries_of d (directory G d)
  same_entries = frame_entries d' l.filed same_pointer in_place

  laid' : Laid G d' (directory G d) (free G d)
  laid' =
      record {
        filed = filed';
        free_chain = rw same_system (chain_frame d' l.free_chain (at_all (free G d) (λ n h. links n ((laid_one l n).high (omega arith)))));
        once = rw (frame_met d' l.filed same_pointer in_place) l.once;
        free_counted = rw same_system l.free_counted;
        used_counted = rw (same_system, same_entries) l.used_counted;
      }

  -- ---- and shows what it showed

  same_listing : listing G d' ≡ listing G d
  unfolding listing
  same_listing = rw (same_system, entries_are filed', same_entries, entries_are l.filed)

  seen : AsIfNever F G image back
  unfolding d d' after_list list_on asked ◌>>=◌
  seen =
      record {
        checked = sound_checked F back G g' (laid_sound laid');
        lists = λ buffer. rw (g, g', s, laid_sound laid', same_listing);
        reads = λ typed buffer. read_same F G image back typed buffer g g'
            (same_read_on (opening_state G d (full_here f image G g) s) (opening_state G d' (full_here f back G g') (laid_sound laid')) typed (length buffer)
            (λ nine e. ap (λ (b : Book). filter (named nine) b.files) same_book));
        frees = free_is laid';
      }
    where
      same_book : opening_book G d' ≡ opening_book G d
      same_book = book_stays l.filed filed' (frame_files d' l.filed same_pointer in_place)

-- drawn from the first law
pub must_cancel : {F : Format} → GoodFormat F → SaveDeleteCancel F → (image : List ℕ) (G : Geometry) → geometry F (length image) ≡ ok G → AllBytes image
    → (name again : List ℕ) → stored again ≡ stored name → (m : Module) (buffer buffer' : List ℕ)
    → let saved = after_save F image name m buffer in
    let deleted = after_delete F saved.image again buffer' in
    saved.number ≡ 0 → growth G (cut F G image) ≡ 0 → deleted.number ≡ 0 → AsIfNever F G image deleted.image
unfolding SaveDeleteCancel after_writing
must_cancel {F} f claim image G g bytes name again same m buffer buffer' e no-growth e' =
    let made = made_by F image G g (save name m) buffer e in
    seen f image G g m _ (claim image G g bytes name again same m buffer buffer' e no-growth e')
    (writing_sound G (cut F G image) (save name m) made.ws made.passed)

-- ---- drawn from the second law: a third rename joins them too, lent what the first was

pub must_three : (F : Format) → RenamesJoin F → (image a b c x buffer buffer' buffer'' : List ℕ)
    → let first = after_rename F image a b buffer in
    let second = after_rename F first.image b c buffer' in
    let third = after_rename F second.image c x buffer'' in
    let direct = after_rename F image a x buffer in
    first.number ≡ 0 → second.number ≡ 0 → third.number ≡ 0 → stored c ≢ stored a
    → (stored x ≢ stored a → (direct.number ≡ 0) × (third.image ≡ direct.image)) × (stored x ≡ stored a → third.image ≡ image)
unfolding RenamesJoin
must_three F claim image a b c x buffer buffer' buffer'' done done' done'' other =
    let two = (claim image a b c a b c refl refl refl buffer buffer' done done').0 other in
    let now : after_rename F (after_rename F (after_rename F image a b buffer).image b c buffer').image c x buffer''
    ≡ after_rename F (after_rename F image a c buffer).image c x buffer'' = ap (λ (i : List ℕ). after_rename F i c x buffer'') two.1 in
    let three = claim image a c x a c x refl refl refl buffer buffer'' two.0 (ap (λ (r : ChangeAnswer). r.number) (sym now) ∙ done'') in (
      (λ ne. ((three.0 ne).0, ap (λ (r : ChangeAnswer). r.image) now ∙ (three.0 ne).1)),
      (λ home. ap (λ (r : ChangeAnswer). r.image) now ∙ three.1 home),
    )
