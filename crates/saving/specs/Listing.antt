-- The list of a save: what the code needs to copy it out of the new image, and that it is the list of its writes.
-- Assumes nothing.
use Rattle.std.specs.Prelude.{◌≡◌, cond, is_some, Some, None, Ok, Err}
use Rattle.std.specs.declared.option.Option as found
use Rattle.std.proofs.Math.Path.{sym, ap, ap₂}
use Rattle.std.proofs.Common.{◌∙◌, arith, lt_of_not-le}
use Prim.Native.Nat.{ℕ, ◌+◌, ◌≤◌, ◌<◌}
use Rattle.std.proofs.Math.Decide.{dec_le}
use Rattle.std.proofs.Math.Option.{none, some}
use mathlib.Core.List.{List, [], ◌∷◌, ◌++◌, map}
use Rattle.std.proofs.Math.ListN.{length}
use Rattle.lists.specs.Lists.{times, last_or}
use Rattle.lists.specs.ListLaws.{All}
use Rattle.format.specs.Refusals.{ok}
use Rattle.format.specs.Geometry.{Disc, written}
use Rattle.format.specs.Layout.{Slot, met, free_pointer, directory, free, open_slot}
use Rattle.format.specs.Modules.{Module, sectors_for}
use Rattle.format.proofs.ModuleLaws.{sectors_fit}
use Rattle.format.specs.Effects.{head_of, needed, save_writes}
use Rattle.format.specs.Writes.{list_size}
use Rattle.format.specs.WriteLaws.{WholeOn}
use Rattle.geometry.specs.Meaning.{geo, sectors_of}
use Rattle.disc.specs.Meaning.{meaning, Inside}
use Rattle.geometry.specs.Laws.{image_full}
use Rattle.geometry.specs.declared.Geometry.{Geometry}
use Rattle.geometry.specs.declared.SectorNo.{SectorNo}
use Rattle.disc.specs.declared.Link.{Link}
use Rattle.soundness.specs.Pointers.{Bounded}
use Rattle.soundness.specs.ListedWrites.{file_taken, all_taken, file_long, save_on_disc, save_once}
use Rattle.soundness.specs.SavedList.{saved_chain, targets_open, targets_grown, saved_many}
use Rattle.refusals.specs.declared.Refusal.TheVariants.{Short}
use Rattle.slots.specs.declared.slot_no.SlotNo.{SlotNo}
use Rattle.directory.specs.Meaning.{found_of}
use Rattle.answers.specs.Meaning.{Lists}
use Rattle.writes.specs.Meaning.{front_of, Walks, Copied}
use Rattle.writes.specs.Laws.{listed_short, listed_done}
use Rattle.saving_sectors.specs.Meaning.{Ready}
use Rattle.saving_sectors.specs.Taking.{linked_head, free_linked}
use Rattle.saving_sectors.specs.Writes.{growth_some, growth_none, enough_is}

-- a module takes few sectors
pub few_sectors : (L : ℕ) → L ≤ 65536 → sectors_for L ≤ 300
few_sectors L within =
    elim (dec_le (sectors_for L) 300) [
      | yes h ↦ h
      | no h ↦ let l = lt_of_not-le h in absurd (omega (arith, (sectors_fit L).no_more (omega arith)))
    ]

-- and a save writes few others
pub few_others : (to : found.Option SlotNo) → cond (is_some to) 2 3 ≤ 3
few_others (Some s) = omega arith
few_others None = omega arith

module _ {g : Geometry} {image : List ℕ} (nine : List ℕ) (m : Module) (y : Ready g image m) where
  whole : All (WholeOn (geo g)) (save_writes (geo g) (sectors_of g image) nine m)
  whole = save_on_disc (geo g) (sectors_of g image) (image_full y.image_of) y.savable nine m y.enough

  once : (n : ℕ) → times n (map (λ w. w.at) (save_writes (geo g) (sectors_of g image) nine m)) ≤ 1
  once = save_once (geo g) (sectors_of g image) y.savable nine m y.enough

  -- how many writes there are
  many_open : (s : Slot) → open_slot (geo g) (sectors_of g image) ≡ some s
      → length (save_writes (geo g) (sectors_of g image) nine m) ≡ sectors_for (length m.bytes) + 2
  unfolding needed
  many_open s o = omega (arith, saved_many (geo g) (sectors_of g image) nine m y.enough, growth_some (geo g) (sectors_of g image) s o)

  many : (to : found.Option SlotNo) → open_slot (geo g) (sectors_of g image) ≡ found_of (sectors_of g image) to
      → length (save_writes (geo g) (sectors_of g image) nine m) ≡ sectors_for (length m.bytes) + cond (is_some to) 2 3
  unfolding needed
  many (Some s) o = many_open _ o
  many None o = omega (arith, saved_many (geo g) (sectors_of g image) nine m y.enough, growth_none (geo g) (sectors_of g image) o)

  -- no room for the list
  pub save_short : (lent : List ℕ) (to : found.Option SlotNo) → open_slot (geo g) (sectors_of g image) ≡ found_of (sectors_of g image) to
      → length lent < list_size (sectors_for (length m.bytes) + cond (is_some to) 2 3)
      → Lists g image image lent lent (Err Short) (ok (save_writes (geo g) (sectors_of g image) nine m))
  save_short lent to o h = listed_short lent y.image_of _ whole (omega (arith, many to o))

  -- ---- the list copied out of the new image

  file : List ℕ
  file = file_taken (geo g) (sectors_of g image) m

  head_is : head_of file ≡ free_pointer (geo g) (sectors_of g image)
  unfolding file
  head_is =
      let d : Disc = sectors_of g image in
      let k : ℕ = sectors_for (length m.bytes) in
      let long = file_long (geo g) d nine m y.enough in
      let enough : k ≤ length (free (geo g) d) = omega (arith, enough_is (geo g) d (length m.bytes) y.enough) in
      linked_head (file_taken (geo g) d m) (free_linked (geo g) d k enough y.savable) (omega (arith, long, (sectors_fit (length m.bytes)).some_sector))

  module _ (after : List ℕ) (is : sectors_of g after ≡ written (save_writes (geo g) (sectors_of g image) nine m) (sectors_of g image))
      (first : Link SectorNo) (leads : meaning first ≡ free_pointer (geo g) (sectors_of g image)) (count : ℕ) (e : count ≡ sectors_for (length m.bytes)) where
    chain_is : met (geo g) (sectors_of g after) count (meaning first) ≡ file
    unfolding file
    chain_is =
        let d : Disc = sectors_of g image in
        let v = y.image_of.valid in
        let bounded : Bounded (geo g) = record { some_sector = v.some_on_track; few = omega (arith, v.total, v.few_sectors) } in
        ap₂ (λ (x : Disc) (k : ℕ). met (geo g) x k (meaning first)) is e
        ∙ ap (met (geo g) (written (save_writes (geo g) d nine m) d) (sectors_for (length m.bytes))) (leads ∙ sym head_is)
        ∙ saved_chain (geo g) bounded d (image_full y.image_of) y.savable nine m y.enough

    pub walks : Inside g first → Walks g after first count
    unfolding file
    walks inside =
        record {
          inside = inside;
          few = omega (arith, few_sectors (length m.bytes), y.is_module.within);
          long = ap length chain_is ∙ file_long (geo g) (sectors_of g image) nine m y.enough ∙ sym e;
        }

    module _ (lent : List ℕ) {buffer : List ℕ} {r : ℕ} where
      pub open_listed : (s : Slot) → open_slot (geo g) (sectors_of g image) ≡ some s → list_size (count + 2) ≤ length lent
          → Copied g after (front_of g after first count ++ s.home ∷ []) lent buffer r
          → Lists g image after lent buffer (Ok r) (ok (save_writes (geo g) (sectors_of g image) nine m))
      unfolding file
      open_listed s o room c =
          listed_done lent y.image_of _ whole once (omega (arith, many_open s o)) is
          (ap (λ (ns : List ℕ). 0 ∷ ns ++ s.home ∷ []) chain_is ∙ sym (targets_open (geo g) (sectors_of g image) nine m y.enough s o)) c

      pub grown_listed : open_slot (geo g) (sectors_of g image) ≡ none → {new last : ℕ} → new ≡ last_or 0 (all_taken (geo g) (sectors_of g image) m)
          → last ≡ last_or 0 (directory (geo g) (sectors_of g image)) → list_size (count + 3) ≤ length lent
          → Copied g after (front_of g after first count ++ new ∷ last ∷ []) lent buffer r
          → Lists g image after lent buffer (Ok r) (ok (save_writes (geo g) (sectors_of g image) nine m))
      unfolding file
      grown_listed o new-is last_is room c =
          listed_done lent y.image_of _ whole once (omega (arith, many None o)) is
          (ap₂ (λ (ns es : List ℕ). 0 ∷ ns ++ es) chain_is (λ i. new-is i ∷ last_is i ∷ [])
          ∙ sym (targets_grown (geo g) (sectors_of g image) nine m y.enough o)) c
