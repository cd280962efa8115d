-- Request h: two renames of one file, one after the other, are one; and none where the file has its first name b'.
-- Assumes nothing.
use Rattle.std.specs.Prelude.{◌≡◌, ◌≢◌, ℕ, ◌+◌, ◌≤◌, ◌<◌, List, [], ◌∷◌, length, set, drop}
use Rattle.std.proofs.Common.{sym, ap, ◌∙◌, subst, arith, get_or-take, get_or-drop, eqb-true}
use Rattle.std.proofs.Math.Option.{none, some, some-injective}
use Rattle.std.proofs.lemmas.List.{set-get_or}
use Rattle.lists.specs.Lists.{byte}
use Rattle.lists.specs.Stores.{sets_again, sets_same}
use Rattle.format.specs.Refusals.{ok, ◌>>=◌, ◌>>◌, refuse◌if◌, ◌or_refuse◌}
use Rattle.format.proofs.RefusalLaws.{refused_ok}
use Rattle.format.specs.Geometry.{Format, unknown, stated, Geometry, sectors, Disc, sector, cut, flat, Write, written}
use Rattle.format.specs.Formats.{GoodFormat}
use Rattle.format.proofs.Formats.{stated_cases}
use Rattle.format.specs.GeometryLaws.{Full}
use Rattle.format.proofs.GeometryLaws.{no_disc, geometry_ok, sector_full, sector_again, flat_cut}
use Rattle.format.specs.Names.{stored}
use Rattle.format.proofs.NameLaws.{stored_nine, stored_legal}
use Rattle.format.specs.Layout.{slot_start, name_offset, Slot, name_of, directory, free, find}
use Rattle.format.specs.Effects.{slot_write}
use Rattle.format.specs.Writes.{write_list}
use Rattle.format.proofs.WriteLaws.{list_long}
use Rattle.format.specs.Calls.{rename_on, ChangeAnswer, change_answer_by}
use Rattle.format.proofs.CallLaws.{Renamed, rename_ok}
use Rattle.format.specs.NameCounts.{called}
use Rattle.format.proofs.NameCounts.{called_at, called_past, called_none}
use Rattle.soundness.specs.SlotWrites.{with_bytes}
use Rattle.soundness.specs.Laid.{Laid, sound_laid}
use Rattle.soundness.specs.Found.{home_high, slot_bytes_are, Found, found, find_at, find_none, not_found}
use Rattle.soundness.specs.ListedWrites.{rename_listed}
use Rattle.history.specs.Cuts.{rename, writes_on, after_writing}
use Rattle.history.specs.Cancels.{RenamesJoin}
use Rattle.history.proofs.RenameProtect.{EntryChanged, renamed_entry}
use Rattle.history.proofs.Steps.{arranged_here, full_here}
use Rattle.history.proofs.Writings.{writing_sized, writing_done}
use Rattle.history.proofs.Twice.{both_made}

-- ---- on a disc: x renamed to y, which was then renamed to w

module _ {G : Geometry} {d : Disc} (z : Full G d) {a b b' c : List ℕ} {ws vs : List Write} (same : stored b' ≡ stored b)
    (q : Renamed G d a b ws) (q' : Renamed G (written ws d) b' c vs) where
  l : Laid G d (directory G d) (free G d)
  l = sound_laid G d (eqb-true _ _ q.checked)

  there : Found G d (directory G d) q.nine q.s
  there = found l.filed q.found

  is_on_disc : q.s.home < sectors G
  is_on_disc = home_high l.filed q.s there.slot_of

  long : length (sector d q.s.home) ≡ 256
  long = sector_full z q.s.home is_on_disc

  nine_b : length q.nine' ≡ 9
  nine_b = stored_nine b q.nine' q.typed'

  nine_c : length q'.nine' ≡ 9
  nine_c = stored_nine c q'.nine' q'.typed'

  first : EntryChanged G d (written ws d) (directory G d) (free G d) q.s q.nine'
  first =
      subst (λ (us : List Write). EntryChanged G d (written us d) (directory G d) (free G d) q.s q.nine') q.writes
      (renamed_entry l z q.s there q.nine' nine_b (stored_legal b q.nine' q.typed') (not_found l.filed q.nine' q.absent))

  -- the second finds the same slot
  found_again : find G (written ws d) q'.nine ≡ some (with_bytes q.s first.bytes)
  found_again =
      let p = first.entries in
      ap (find G (written ws d)) (some-injective _ _ (sym q'.typed ∙ same ∙ q.typed'))
      ∙ find_at first.laid.filed p.pre p.post (with_bytes q.s first.bytes) q.nine' p.now first.name

  slot_again : q'.s ≡ with_bytes q.s first.bytes
  slot_again = some-injective _ _ (sym q'.found ∙ found_again)

  -- so what is left is the one rename
  joined_is : written vs (written ws d) ≡ written (slot_write d q.s name_offset q'.nine' ∷ []) d
  joined_is =
      ap (λ (us : List Write). written us (written ws d)) (sym q'.writes)
      ∙ ap (λ (r : Slot). written (slot_write (written ws d) r name_offset q'.nine' ∷ []) (written ws d)) slot_again
      ∙ ap (λ (us : List Write). written (slot_write (written us d) q.s name_offset q'.nine' ∷ []) (written us d)) (sym q.writes)
      ∙ sector_again d q.s.home (slot_start q.s.index + name_offset) _ q'.nine' (omega (arith, z.many, is_on_disc))
      ∙ ap (set d q.s.home) (sets_again (sector d q.s.home) q.nine' q'.nine' (slot_start q.s.index + name_offset) 0
      (nine_b ∙ sym nine_c) (omega (arith, long, there.slot_of.index_low, nine_c)))

  -- where C isn't A nothing refuses that one
  absent_before : stored c ≢ stored a → find G d q'.nine' ≡ none
  absent_before ne =
      let w : List ℕ = q'.nine' in
      let other : name_of q.s ≢ w = λ e. ne (q'.typed' ∙ ap some (sym e ∙ there.name) ∙ sym q.typed) in
      let p = first.entries in
      find_none l.filed w (omega (
        arith,
        ap (called w) p.was,
        called_at w p.pre p.post q.s,
        called_past w q.s [] other,
        called_none w,
        not_found first.laid.filed w q'.absent,
        ap (called w) p.now,
        called_at w p.pre p.post (with_bytes q.s first.bytes),
      ))

  direct_passes : (a' c' : List ℕ) → stored a' ≡ stored a → stored c' ≡ stored c → stored c ≢ stored a
      → rename_on G d a' c' ≡ ok (slot_write d q.s name_offset q'.nine' ∷ [])
  unfolding rename_on ◌or_refuse◌ refuse◌if◌ ◌>>◌ ◌>>=◌
  direct_passes a' c' same-a same-c ne = rw (same-a, same-c, q.typed, q'.typed', q.checked, q.found, q.unprotected, absent_before ne)

  -- where C is A it writes what stands
  writes_nothing : stored c ≡ stored a → written (slot_write d q.s name_offset q'.nine' ∷ []) d ≡ d
  writes_nothing e =
      let sec : List ℕ = sector d q.s.home in
      let start : ℕ = slot_start q.s.index in
      let name : q'.nine' ≡ name_of q.s = some-injective _ _ (sym q'.typed' ∙ e ∙ q.typed) ∙ sym there.name in
      let stands : (j : ℕ) → j < length q'.nine' → byte q'.nine' j ≡ byte sec (start + name_offset + j) = λ j h.
      ap (λ (r : List ℕ). byte r j) name ∙ get_or-take 9 q.s.bytes j 0 (omega (arith, nine_c))
      ∙ ap (λ (r : List ℕ). byte r j) (slot_bytes_are l.filed q.s there.slot_of) ∙ get_or-take 16 (drop start sec) j 0 (omega (arith, nine_c))
      ∙ get_or-drop start sec j 0 ∙ ap (byte sec) (omega arith) in
      ap (set d q.s.home) (sets_same sec q'.nine' (start + name_offset) 0 (omega (arith, long, nine_c, there.slot_of.index_low)) stands)
      ∙ set-get_or d q.s.home []

-- ---- and on an image

join_of : (F : Format) → GoodFormat F → RenamesJoin F
unfolding RenamesJoin after_writing writes_on change_answer_by
join_of F f image a b c a' b' c' same-a same same-c buffer buffer' e e' =
    let g = writing_sized F image (rename a b) buffer e in
    let G : Geometry = g.0 in
    let d : Disc = cut F G image in
    let z = full_here f image G g.1 in
    let r = both_made f image G g.1 (rename a b) buffer (rename b' c) buffer' e e' in
    let q = rename_ok G d a b r.ws r.passed in
    let q' = rename_ok G (written r.ws d) b' c r.vs r.passed' in
    let direct : List Write = slot_write d q.s name_offset q'.nine' ∷ [] in
    let left = r.left_is ∙ ap (flat F G) (joined_is z same q q') in (
      (λ ne.
          let passes = direct_passes z same q q' a' c' same-a same-c ne in
          let room : length (write_list G direct) ≤ length buffer = omega (
            arith,
            r.fits,
            list_long G (rename_listed G d z a b r.ws r.passed),
            ap length q.writes,
            list_long G (rename_listed G d z a' c' direct passes),
          ) in
          let done = writing_done F image G g.1 (rename a' c') buffer direct passes room in
          (ap (λ (x : ChangeAnswer). x.number) done, left ∙ sym (ap (λ (x : ChangeAnswer). x.image) done))),
      (λ home.
          left ∙ ap (flat F G) (writes_nothing z same q q' home)
          ∙ flat_cut F G (arranged_here f image G g.1) image (geometry_ok F (length image) G g.1).long),
    )

none_join : RenamesJoin unknown
unfolding RenamesJoin after_writing
none_join image a b c a' b' c' same-a same same-c buffer buffer' e =
    let g = writing_sized unknown image (rename a b) buffer e in
    absurd (refused_ok (sym (no_disc (length image)) ∙ g.1))

-- for whatever sectors and arrangement a caller states
pub renames_join : (k a : ℕ) → RenamesJoin (stated k a)
renames_join = stated_cases RenamesJoin join_of none_join
