-- Request h: a save into a free slot, and the delete of its file, leave every byte but those that `excepted` names.
-- Assumes nothing.
use Rattle.std.specs.Prelude.{◌≡◌, ◌≢◌, true, cond, ◌&&◌, ◌||◌, length, drop}
use Rattle.std.proofs.Math.Path.{refl, sym, ap, subst}
use Rattle.std.proofs.Common.{ap₂, ◌∙◌, arith, eqb-true, eq-eqb, le-leb}
use Prim.Native.Nat.{ℕ, zero, suc, ◌+◌, ◌*◌, ◌-◌, ◌/◌, ◌%◌, ◌≤◌, ◌<◌}
use Rattle.std.proofs.Math.Decide.{ℕ_discrete, dec_le}
use Rattle.std.proofs.Math.Bool.{false, true≢false}
use Rattle.std.proofs.Math.Option.{Option, none, some, some-injective}
use mathlib.Core.List.{List, [], ◌∷◌, ◌++◌, append-nil}
use Rattle.std.proofs.Math.ListN.{get_or-eq_default}
use Rattle.std.proofs.Math.Seq.{get_or-take, get_or-drop}
use Rattle.std.proofs.Math.Dec.{eqb, leb}
use Rattle.lists.specs.Lists.{is_some, elem, times, last_or, byte}
use Rattle.lists.specs.ListLaws.{times_none, times_elem, same_true}
use Rattle.lists.specs.Stores.{store_twice}
use Rattle.format.specs.Refusals.{ok}
use Rattle.format.proofs.RefusalLaws.{refused_ok}
use Rattle.format.specs.Geometry.{Format, unknown, stated, Geometry, sectors, sector_at, start_of, Disc, sector, cut, flat, Write, written}
use Rattle.format.specs.Formats.{GoodFormat}
use Rattle.format.proofs.Formats.{stated_cases}
use Rattle.format.specs.GeometryLaws.{Full}
use Rattle.format.proofs.GeometryLaws.{no_disc, geometry_ok, pointed_only, pointed_on, sector_full, cut_flat, flat_long, byte_cut, byte_at}
use Rattle.format.specs.Names.{stored}
use Rattle.format.proofs.NameLaws.{stored_nine, stored_legal}
use Rattle.format.specs.Layout.{free_offset, free_count_offset, used_count_offset, link_offset, in_use_offset, slot_start, system, Slot, empty_slot, free_slot, free_pointer, directory, free, open_slot, find}
use Rattle.format.specs.ChainLaws.{Chain, end, on}
use Rattle.format.proofs.ChainLaws.{chains_alike}
use Rattle.format.specs.Modules.{Module, sectors_for, bodies}
use Rattle.format.specs.Effects.{with_slot, entry_bytes, growth, needed, delete_writes}
use Rattle.format.specs.Calls.{save_on, delete_on}
use Rattle.format.proofs.CallLaws.{Saved, save_ok, Deleted, delete_ok}
use Rattle.soundness.specs.Slots.{SlotOf, empty_length}
use Rattle.soundness.specs.SlotWrites.{with_slot_count}
use Rattle.soundness.specs.Laid.{Laid, sound_laid}
use Rattle.soundness.specs.Frames.{laid_sum}
use Rattle.soundness.specs.Found.{home_high, slot_bytes_are, Found, found, find_at, not_found, open_lies}
use Rattle.soundness.specs.Pointers.{Bounded, chain_pointable}
use Rattle.soundness.specs.SystemWrites.{system_others, system_small}
use Rattle.history.proofs.NewEntry.{entry_length}
use Rattle.history.proofs.DeleteLeaves.{DeleteLeaves, delete_leaves}
use Rattle.history.proofs.SaveSectors.{Saving, free_times, free_length, file_few}
use Rattle.history.proofs.SaveFacts.{SaveFacts, new_slot, new_name, new_chain, facts_laid}
use Rattle.history.proofs.SaveOpen.{saved_open, open_facts, open_home, open_other}
use Rattle.history.proofs.SaveLeaves.{open_saving, open_is}
use Rattle.history.specs.Cuts.{save, delete, writes_on, after_writing}
use Rattle.history.specs.Cancels.{file_took, excepted, SaveDeleteCancel}
use Rattle.history.proofs.Steps.{arranged_here, bounded_here, full_here}
use Rattle.history.proofs.Twice.{both_made}

-- ---- two discs with the same directory and the same free sectors: what they share of 0/1

-- the four bytes of the counts are bytes
abbrev CountsBytes : Disc → Type 0
CountsBytes d = (k : ℕ) → k < 4 → byte (system d) (free_count_offset + k) < 256

same_bytes : {a b a' b' : ℕ} → a < 256 → b < 256 → a' < 256 → b' < 256 → a' + 256 * b' ≡ a + 256 * b → (a' ≡ a) × (b' ≡ b)
same_bytes h k h' k' e = (omega arith, omega arith)

module _ {G : Geometry} {d d' : Disc} {dir frees : List ℕ} (u : Bounded G) (l : Laid G d dir frees) (l' : Laid G d' dir frees) where
  pointer_alike : 0 < length frees → (k : ℕ) → k < 2 → byte (system d') (free_offset + k) ≡ byte (system d) (free_offset + k)
  pointer_alike = by l.free_chain l'.free_chain
    where
      by : {ns : List ℕ} → Chain G d (free_pointer G d) ns → Chain G d' (free_pointer G d') ns → 0 < length ns
          → (k : ℕ) → k < 2 → byte (system d') (free_offset + k) ≡ byte (system d) (free_offset + k)
      by (end e) (end e') h k i = absurd (omega arith)
      by (on {n = n} e c) (on e' c') h zero i = (pointed_only G u.some_sector _ _ n e').1 ∙ sym (pointed_only G u.some_sector _ _ n e).1
      by (on {n = n} e c) (on e' c') h (suc zero) i = (pointed_only G u.some_sector _ _ n e').0 ∙ sym (pointed_only G u.some_sector _ _ n e).0
      by (on e c) (on e' c') h (suc (suc k)) i = absurd (omega arith)

  -- two bytes of it are the same on both
  abbrev Alike : ℕ → Type 0
  Alike k = (byte (system d') k ≡ byte (system d) k) × (byte (system d') (k + 1) ≡ byte (system d) (k + 1))

  -- the counts are the same sixteen bits, and so the same bytes
  counts_alike : CountsBytes d → CountsBytes d' → (k : ℕ) → k < 4 → byte (system d') (free_count_offset + k) ≡ byte (system d) (free_count_offset + k)
  counts_alike small small' = by
    where
      freed : Alike free_count_offset
      freed =
          same_bytes (small 0 (omega arith)) (small 1 (omega arith)) (small' 0 (omega arith)) (small' 1 (omega arith))
          (l'.free_counted ∙ sym l.free_counted)

      used : Alike used_count_offset
      used =
          same_bytes (small 2 (omega arith)) (small 3 (omega arith)) (small' 2 (omega arith)) (small' 3 (omega arith))
          (omega (arith, l.used_counted, l'.used_counted, laid_sum l, laid_sum l'))

      by : (k : ℕ) → k < 4 → byte (system d') (free_count_offset + k) ≡ byte (system d) (free_count_offset + k)
      by zero h = freed.0
      by (suc zero) h = freed.1
      by (suc (suc zero)) h = used.0
      by (suc (suc (suc zero))) h = used.1
      by (suc (suc (suc (suc k)))) h = absurd (omega arith)

-- ---- a save that is about to be made into the free slot s, and then the delete; `file` is taken, `rest` stays free

module _ {G : Geometry} {d : Disc} {dir frees nine file rest : List ℕ} {bs : List (List ℕ)} (v : Saving G d dir frees nine file [] rest bs)
    (s : Slot) (o : SlotOf d dir s) (unused : free_slot s ≡ true) where
  -- the disc after the save
  d₁ : Disc
  d₁ = saved_open G d nine file bs s

  t : Slot
  t = new_slot G nine file s.home s.index

  facts : SaveFacts G d d₁ dir frees dir nine file [] rest bs s.home s.index
  unfolding d₁
  facts = open_facts v s o unused

  l₁ : Laid G d₁ dir rest
  l₁ = facts_laid v facts

  -- the delete finds the new file
  saved_found : find G (saved_open G d nine file bs s) nine ≡ some (new_slot G nine file s.home s.index)
  unfolding d₁
  saved_found = find_at l₁.filed facts.pre facts.post (new_slot G nine file s.home s.index) nine facts.after (new_name v facts)

  there : Found G d₁ dir nine t
  unfolding d₁ t
  there = found l₁.filed saved_found

  -- the disc after the delete
  d₂ : Disc
  d₂ = written (delete_writes G d₁ t) d₁

  gone : DeleteLeaves G d₁ d₂ dir rest t
  unfolding d₂
  gone = delete_leaves v.bounded l₁ facts.full t there

  split : file ++ rest ≡ frees
  split = ap (λ (r : List ℕ). r ++ rest) (sym (append-nil file)) ∙ sym v.split

  -- the free sectors are those of before, in their order
  l₂ : Laid G d₂ dir frees
  unfolding t
  l₂ = subst (Laid G d₂ dir) (ap (λ (ns : List ℕ). ns ++ rest) (new_chain v facts) ∙ split) gone.laid

  -- ---- where sectors are

  taken_times : (n : ℕ) → times n frees ≡ times n file + times n rest
  taken_times n = omega (arith, free_times v n, times_none n)

  some_free : 0 < length frees
  some_free = omega (arith, free_length v, v.some_file)

  -- ---- any other sector

  other_back : (n : ℕ) → n ≢ s.home → n ≢ 0 → times n file ≡ 0 → sector d₂ n ≡ sector d n
  unfolding t d₁
  other_back n h k j = gone.at_other n h k (ap (times n) (new_chain v facts) ∙ j) ∙ open_other v s o unused n h k j

  -- ---- the directory's sector

  sec : List ℕ
  sec = sector d s.home

  long : length sec ≡ 256
  unfolding sec
  long = sector_full v.full s.home (home_high v.laid.filed s o)

  entry : List ℕ
  entry = entry_bytes G nine file

  sixteen : length entry ≡ 16
  unfolding entry
  sixteen = entry_length G v.bounded nine file v.nine_long (file_few v)

  -- one entry in use more, and one less
  count : ℕ
  count = byte (sector d₁ s.home) in_use_offset - 1

  at_home : sector d₁ s.home ≡ with_slot sec s.index (byte sec in_use_offset + 1) entry
  unfolding d₁ sec entry
  at_home = open_home v s o unused

  count_back : (j : ℕ) → j < 1 → byte (count ∷ []) j ≡ byte sec (in_use_offset + j)
  unfolding count
  count_back zero h =
      let one_more = with_slot_count sec s.index (byte sec in_use_offset + 1) entry sixteen (omega (arith, long)) in
      omega (arith, ap (λ (r : List ℕ). byte r in_use_offset) at_home, one_more)
  count_back (suc j) h = absurd (omega arith)

  slot_back : (j : ℕ) → j < length empty_slot → byte empty_slot j ≡ byte sec (slot_start s.index + j)
  unfolding free_slot sec
  slot_back j h =
      ap (λ (r : List ℕ). byte r j) (sym (same_true s.bytes empty_slot unused) ∙ slot_bytes_are v.laid.filed s o)
      ∙ get_or-take 16 (drop (slot_start s.index) sec) j 0 (omega (arith, empty_length)) ∙ get_or-drop (slot_start s.index) sec j 0

  home_back : sector d₂ s.home ≡ sec
  unfolding t with_slot count
  home_back =
      gone.at_home ∙ ap (λ (r : List ℕ). with_slot r s.index count empty_slot) at_home
      ∙ store_twice sec ((byte sec in_use_offset + 1) ∷ []) entry (count ∷ []) empty_slot in_use_offset (slot_start s.index) 0
      refl (sixteen ∙ sym empty_length) (omega (arith, long)) (omega (arith, long, empty_length, o.index_low)) count_back slot_back

  -- ---- 0/1, where the counts' bytes are bytes

  system_back : CountsBytes d → (k : ℕ) → byte (system d₂) k ≡ byte (system d) k
  system_back small k =
      elim (dec_le free_offset k) [
        | no a ↦ stays k (λ h. absurd (a h)) (λ h. absurd (omega arith))
        | yes a ↦ elim (dec_le (free_offset + 2) k) [
          | no b ↦ at free_offset a (pointer_alike v.bounded v.laid l₂ some_free (k - free_offset) (omega arith))
          | yes b ↦ elim (dec_le free_count_offset k) [
            | no c ↦ stays k (λ h. b) (λ h. absurd (c h))
            | yes c ↦ elim (dec_le (free_count_offset + 4) k) [
              | no e ↦ at free_count_offset c (counts_alike v.bounded v.laid l₂ small small₂ (k - free_count_offset) (omega arith))
              | yes e ↦ stays k (λ h. b) (λ h. e)
            ]
          ]
        ]
      ]
    where
      at : (p : ℕ) → p ≤ k → byte (system d₂) (p + (k - p)) ≡ byte (system d) (p + (k - p)) → byte (system d₂) k ≡ byte (system d) k
      at p h e = subst (λ (j : ℕ). byte (system d₂) j ≡ byte (system d) j) (omega arith) e

      small₂ : CountsBytes d₂
      small₂ k h =
          let full : length (system d₁) ≡ 256 = sector_full facts.full 0 (omega (arith, home_high v.laid.filed s o)) in
          subst (λ (r : List ℕ). byte r (free_count_offset + k) < 256) (sym gone.at_system)
          (system_small G v.bounded d₁ full _ (chain_pointable there.file.chained (pointed_on G _ _)) _ _ k h)

      -- neither call changes another byte of it
      stays : (k : ℕ) → (free_offset ≤ k → free_offset + 2 ≤ k) → (free_count_offset ≤ k → free_count_offset + 4 ≤ k) → byte (system d₂) k ≡ byte (system d) k
      stays k h i =
          ap (λ (r : List ℕ). byte r k) gone.at_system ∙ system_others G d₁ _ _ _ k h i
          ∙ ap (λ (r : List ℕ). byte r k) facts.at_system ∙ system_others G d _ _ _ k h i

  -- ---- every sector, the file's by the links of its chain

  links_back : (n : ℕ) → 0 < times n file
      → (byte (sector d₂ n) (link_offset + 1) ≡ byte (sector d n) (link_offset + 1))
      × (n ≢ last_or 0 frees → byte (sector d₂ n) link_offset ≡ byte (sector d n) link_offset)
  links_back n h = chains_alike v.bounded.some_sector v.laid.free_chain l₂.free_chain n (omega (arith, taken_times n))

  back_but : CountsBytes d → (n k : ℕ) → elem n file && (leb 2 k || (eqb n (last_or 0 frees) && eqb k link_offset)) ≡ false
      → let saved = saved_open G d nine file bs s in
      byte (sector (written (delete_writes G saved (new_slot G nine file s.home s.index)) saved) n) k ≡ byte (sector d n) k
  unfolding d₂ d₁ t sec
  back_but small n k e =
      elim (ℕ_discrete (times n file) 0) [
        | yes out ↦ elim (ℕ_discrete n 0) [
          | yes w ↦ subst (λ (m : ℕ). byte (sector d₂ m) k ≡ byte (sector d m) k) (sym w) (system_back small k)
          | no w ↦ elim (ℕ_discrete n s.home) [
            | yes h ↦ subst (λ (m : ℕ). byte (sector d₂ m) k ≡ byte (sector d m) k) (sym h) (ap (λ (r : List ℕ). byte r k) home_back)
            | no h ↦ ap (λ (r : List ℕ). byte r k) (other_back n h w out)
          ]
        ]
        | no met ↦ by (omega arith) k (rw (times_elem n file (omega arith)) at e)
      ]
    where
      -- of the file's sectors bytes 2 on may differ, and the track byte of the old end
      by : 0 < times n file → (k : ℕ) → leb 2 k || (eqb n (last_or 0 frees) && eqb k link_offset) ≡ false → byte (sector d₂ n) k ≡ byte (sector d n) k
      by met zero e = (links_back n met).1 (λ w. true≢false (sym (rw (eq-eqb n (last_or 0 frees) w)) ∙ e))
      by met (suc zero) e = (links_back n met).0
      by met (suc (suc k)) e = absurd (true≢false (sym (rw (le-leb 2 (suc (suc k)) (omega arith))) ∙ e))

-- ---- the two calls on a disc

module _ (G : Geometry) (u : Bounded G) (d : Disc) (z : Full G d) (small : CountsBytes d) where
  disc_back : (name again : List ℕ) → stored again ≡ stored name → (m : Module) (ws vs : List Write) → save_on G d name m ≡ ok ws → growth G d ≡ 0
      → delete_on G (written ws d) again ≡ ok vs → (n k : ℕ) → excepted G d m n k ≡ false → byte (sector (written vs (written ws d)) n) k ≡ byte (sector d n) k
  unfolding excepted file_took growth needed
  disc_back name again same m ws vs p no-growth p' n k e = by (open_slot G d) refl no-growth q.room
    where
      q : Saved G d name m ws
      q = save_ok G d name m ws p

      q' : Deleted G (written ws d) again vs
      q' = delete_ok G (written ws d) again vs p'

      l : Laid G d (directory G d) (free G d)
      l = sound_laid G d (eqb-true _ _ q.checked)

      by : (o : Option Slot) → open_slot G d ≡ o → ◌≡◌ {A = ℕ} (cond (is_some o) 0 1) 0 → sectors_for (length m.bytes) + cond (is_some o) 0 1 ≤ length (free G d)
          → byte (sector (written vs (written ws d)) n) k ≡ byte (sector d n) k
      by none o g room = absurd (omega arith)
      by (some s) o g room =
          let room' : sectors_for (length m.bytes) ≤ length (free G d) = omega arith in
          let legal = stored_legal name q.nine q.typed in
          let nine_long = stored_nine name q.nine q.typed in
          let fresh = not_found l.filed q.nine q.absent in
          let v = open_saving u l z q.nine legal nine_long fresh m room' in
          let lies = open_lies l.filed o in
          let d₁ : Disc = saved_open G d q.nine (file_took G d m) (bodies m) s in
          let t : Slot = new_slot G q.nine (file_took G d m) s.home s.index in
          let saved : written ws d ≡ d₁ =
          ap (λ (us : List Write). written us d) (sym q.writes) ∙ open_is u l z q.nine legal nine_long fresh m s o room' in
          let name-is : q'.nine ≡ q.nine = some-injective _ _ (sym q'.typed ∙ same ∙ q.typed) in
          let slot_is : q'.s ≡ t = some-injective _ _ (sym q'.found ∙ ap₂ (find G) saved name-is ∙ saved_found v s lies.0 lies.1) in
          let left : written vs (written ws d) ≡ written (delete_writes G d₁ t) d₁ =
          ap (λ (us : List Write). written us (written ws d)) (sym q'.writes)
          ∙ ap₂ (λ (x : Disc) (r : Slot). written (delete_writes G x r) x) saved slot_is in
          ap (λ (x : Disc). byte (sector x n) k) left ∙ back_but v s lies.0 lies.1 small n k e

-- ---- and on an image

cancel_of : (F : Format) → GoodFormat F → SaveDeleteCancel F
unfolding SaveDeleteCancel after_writing writes_on
cancel_of F f image G g bytes name again same m buffer buffer' e no-growth e' =
    let b = both_made f image G g (save name m) buffer (delete again) buffer' e e' in
    let d : Disc = cut F G image in
    let d₂ : Disc = written b.vs (written b.ws d) in
    let arr = arranged_here f image G g in
    let long = (geometry_ok F (length image) G g).long in
    let long₂ = flat_long F G arr d₂ b.full in
    let small : 0 < sectors G → CountsBytes d = λ some k h.
    subst (λ (x : ℕ). x < 256) (sym (byte_cut F G arr image 0 (free_count_offset + k) some (omega arith))) (bytes (start_of F G 0 + (free_count_offset + k))) in
    record {
      size = ap length b.left_is ∙ long₂ ∙ sym long;
      as_before = λ i h. ap (λ (r : List ℕ). byte r i) b.left_is ∙ elim (dec_le (length image) i) [
        | yes past ↦ get_or-eq_default (flat F G d₂) 0 (omega arith) ∙ sym (get_or-eq_default image 0 past)
        | no inside ↦
            let n : ℕ = sector_at F G (i / 256) in
            let now : byte (flat F G d₂) i ≡ byte (sector d₂ n) (i % 256) =
            sym (byte_at F G arr (flat F G d₂) i (omega arith)) ∙ ap (λ (x : Disc). byte (sector x n) (i % 256)) (cut_flat F G arr d₂ b.full) in
            let u = bounded_here f image G g in
            let z = full_here f image G g in
            now ∙ disc_back G u d z (small (omega arith)) name again same m b.ws b.vs b.passed no-growth b.passed' n (i % 256) h
            ∙ byte_at F G arr image i (omega arith)
      ];
    }

none_cancel : SaveDeleteCancel unknown
unfolding SaveDeleteCancel
none_cancel image G g = absurd (refused_ok (sym (no_disc (length image)) ∙ g))

-- for whatever sectors and arrangement a caller states
pub save_delete_cancel : (k a : ℕ) → SaveDeleteCancel (stated k a)
save_delete_cancel = stated_cases SaveDeleteCancel cancel_of none_cancel
