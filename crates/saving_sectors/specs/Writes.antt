-- The sectors that the code writes one after the other are the writes of a save.
-- Assumes nothing.
use Rattle.std.specs.Prelude.{◌≡◌, refl, ◌≢◌, get_or, set, drop, replicate}
use Rattle.std.proofs.Math.Path.{sym, ap}
use Rattle.std.proofs.Common.{◌∙◌, arith, add-one, drop-cons}
use Prim.Native.Nat.{ℕ, suc, ◌+◌, ◌-◌, ◌≤◌, ◌<◌}
use Rattle.std.proofs.Math.Bool.{cond}
use Rattle.std.proofs.Math.Option.{Option, none, some}
use mathlib.Core.List.{List, [], ◌∷◌, ◌++◌, map, map-append}
use Rattle.std.proofs.Math.ListN.{length, take}
use Rattle.std.proofs.lemmas.List.{set_comm}
use Rattle.std.proofs.Math.Seq.{take-take, length-take-le}
use Rattle.lists.specs.Lists.{is_some, byte, times, last_or}
use Rattle.lists.specs.ListLaws.{zero_or, times_none, times_join, times_split, times_here, times_past}
use Rattle.format.specs.Geometry.{Geometry, Next, go, Disc, sector, Write, written}
use Rattle.format.proofs.GeometryLaws.{sector_other, written_other}
use Rattle.format.specs.Layout.{link_offset, in_use_offset, free_count, used_count, Slot, link_of, link_bytes, directory, free_pointer, free, open_slot}
use Rattle.format.specs.Modules.{Module, sectors_for, bodies}
use Rattle.format.proofs.ModuleLaws.{sectors_fit, bodies_many}
use Rattle.format.specs.Effects.{with_slot, with_link, entry_write, chained, system_write, entry_bytes, growth, needed, entry_writes, save_writes}
use Rattle.soundness.specs.ChainWrites.{written_join, chained_other}
use Rattle.lists.specs.Counts.{last_of}
use Rattle.soundness.specs.WriteFacts.{Savable}
use Rattle.geometry.specs.Meaning.{geo, sectors_of}
use Rattle.disc.specs.Meaning.{meaning, stored_at}
use Rattle.geometry.specs.declared.Geometry as code
use Rattle.system.specs.Laws.{system_from}
use Rattle.soundness.specs.ListedWrites.{file_taken, all_taken, file_long}
use Rattle.saving_sectors.specs.Meaning.{Ready, NewFileAs, with_module, next_free}
use Rattle.saving_sectors.specs.declared.NewFile.{NewFile}
use Rattle.saving_sectors.specs.Taking.{last_taken, Linked, free_linked, free_next}

-- ---- a sector that is written last

-- the numbers of the sectors that are written
abbrev numbers : List Write → List ℕ
numbers ws = map (λ w. w.at) ws

written_late : (ws : List Write) (d : Disc) (n : ℕ) (b : List ℕ) → times n (numbers ws) ≡ 0 → written ws (set d n b) ≡ set (written ws d) n b
written_late [] d n b h = refl
written_late (w ∷ ws) d n b h =
    let apart : n ≢ w.at = λ e. omega (arith, times_here n w.at (numbers ws) e) in
    ap (written ws) (set_comm d n w.at b w.bytes apart)
    ∙ written_late ws (set d w.at w.bytes) n b (omega (arith, times_past n w.at (numbers ws) apart))

-- the system sector may be written first or last
system_late : (G : Geometry) (d : Disc) (ws : List Write) (p : Next) (f u : ℕ) → times 0 (numbers ws) ≡ 0
    → written (system_write G (written ws d) p f u ∷ []) (written ws d) ≡ written (system_write G d p f u ∷ ws) d
unfolding system_write
system_late G d ws p f u h = system_from G d (written ws d) p f u (written_other ws d 0 h) ∙ sym (written_late ws d 0 _ h)

chained_numbers : (G : Geometry) (ns : List ℕ) (bs : List (List ℕ)) → length bs ≡ length ns → numbers (chained G ns bs) ≡ ns
unfolding chained
chained_numbers G [] bs e = refl
chained_numbers G (n ∷ ns) [] e = absurd (omega arith)
chained_numbers G (n ∷ ns) (b ∷ bs) e = ap (λ (r : List ℕ). n ∷ r) (chained_numbers G ns bs (omega arith))

-- ---- what a save takes

module _ (G : Geometry) (d : Disc) where
  pub growth_some : (s : Slot) → open_slot G d ≡ some s → growth G d ≡ 0
  unfolding growth
  growth_some s e = ap (λ (o : Option Slot). cond (is_some o) 0 1) e

  pub growth_none : open_slot G d ≡ none → growth G d ≡ 1
  unfolding growth
  growth_none e = ap (λ (o : Option Slot). cond (is_some o) 0 1) e

  pub enough_is : (L : ℕ) → needed G d L ≤ length (free G d) → sectors_for L + growth G d ≤ length (free G d)
  unfolding needed
  enough_is L h = h

-- the free chain meets the sectors of the module in order, as many as it wants
pub file_linked : {g : code.Geometry} {image : List ℕ} {m : Module} → Ready g image m
    → Linked (geo g) (sectors_of g image) (free_pointer (geo g) (sectors_of g image)) (file_taken (geo g) (sectors_of g image) m)
    × (length (file_taken (geo g) (sectors_of g image) m) ≡ sectors_for (length m.bytes))
file_linked {g} {image} {m} r =
    let d : Disc = sectors_of g image in
    let room = enough_is (geo g) d (length m.bytes) r.enough in
    (free_linked (geo g) d (sectors_for (length m.bytes)) (omega arith) r.savable, file_long (geo g) d [] m r.enough)

-- the counts have room for a save
pub counts_fit : {g : code.Geometry} {image : List ℕ} {m : Module} → Ready g image m
    → (sectors_for (length m.bytes) + growth (geo g) (sectors_of g image) ≤ free_count (sectors_of g image))
    × (used_count (sectors_of g image) + sectors_for (length m.bytes) < 800)
counts_fit {g} {image} {m} r =
    let room = enough_is (geo g) (sectors_of g image) (length m.bytes) r.enough in
    (omega (arith, r.savable.free_counted), omega (arith, r.savable.used_fits, r.image_of.valid.total, r.image_of.valid.few_sectors))

module _ (G : Geometry) (d : Disc) (nine : List ℕ) (m : Module) (S : Savable G d) (enough : needed G d (length m.bytes) ≤ length (free G d)) where
  abbrev k : ℕ
  k = sectors_for (length m.bytes)

  -- the sectors of the module
  file_few : (n : ℕ) → times n (file_taken G d m) ≤ times n (free G d)
  file_few n = omega (arith, times_split n k (free G d))

  -- the module leaves a sector that isn't free
  pub module_other : (n : ℕ) → times n (free G d) ≡ 0 → sector (with_module G d m) n ≡ sector d n
  module_other n h = chained_other G (file_taken G d m) (bodies m) d n (omega (arith, file_few n))

  -- a sector of the directory isn't free
  directory_kept : (n : ℕ) → 0 < times n (directory G d) → times n (free G d) ≡ 0
  directory_kept n h = zero_or _ (λ k. omega (arith, S.free_apart n k))

  system_kept : times 0 (free G d) ≡ 0
  system_kept = zero_or _ (λ k. omega (arith, S.free_low 0 k))

  -- the module, then what makes its entry, then the system sector
  saved : (taken : List ℕ) (ws : List Write) (d₂ d₃ : Disc) → taken ≡ take (k + growth G d) (free G d)
      → ws ≡ entry_writes G d (entry_bytes G nine (file_taken G d m)) (last_or 0 taken) (open_slot G d) → times 0 (numbers ws) ≡ 0
      → d₂ ≡ written ws (with_module G d m)
      → d₃ ≡ written (system_write G d₂ (link_of G (sector d (last_or 0 taken))) (free_count d - length taken) (used_count d + k) ∷ []) d₂
      → d₃ ≡ written (save_writes G d nine m) d
  unfolding save_writes
  saved taken ws d₂ d₃ all entry apart e₂ e₃ =
      let cs : List Write = chained G (file_taken G d m) (bodies m) in
      let many : length (bodies m) ≡ length (file_taken G d m) = bodies_many m ∙ sym (file_long G d nine m enough) in
      let file : take k taken ≡ file_taken G d m = ap (take k) all ∙ take-take k (k + growth G d) (free G d) (omega arith) in
      let none-system : times 0 (numbers (cs ++ ws)) ≡ 0 =
      ap (times 0) (map-append (λ w. w.at) cs ws)
      ∙ times_join 0 (numbers cs) (numbers ws)
      ∙ omega (arith, ap (times 0) (chained_numbers G (file_taken G d m) (bodies m) many), file_few 0, system_kept) in
      rw (← all, file, ← entry, ← system_late G d (cs ++ ws) _ _ _ none-system, written_join cs ws d, ← e₂) e₃

  -- the entry goes into the first free slot
  pub saved_in_slot : (s : Slot) → open_slot G d ≡ some s → (entry : List ℕ) → entry ≡ entry_bytes G nine (file_taken G d m) → (d₁ d₂ d₃ : Disc)
      → d₁ ≡ with_module G d m
      → d₂ ≡ set d₁ s.home (with_slot (sector d₁ s.home) s.index (byte (sector d s.home) in_use_offset + 1) entry)
      → d₃ ≡ written (system_write G d₂ (next_free G d m) (free_count d - k) (used_count d + k) ∷ []) d₂
      → d₃ ≡ written (save_writes G d nine m) d
  unfolding entry_writes
  saved_in_slot s first_free entry entry_is d₁ d₂ d₃ e₁ e₂ e₃ =
      let file : List ℕ = file_taken G d m in
      let home : ℕ = s.home in
      let in_use : ℕ = byte (sector d home) in_use_offset + 1 in
      let same : k ≡ k + growth G d = omega (arith, growth_some G d s first_free) in
      let long : length file ≡ k = file_long G d nine m enough in
      let in_directory : 0 < times home (directory G d) = S.open_home s first_free in
      let stays : sector d₁ home ≡ sector d home = ap (λ (x : Disc). sector x home) e₁ ∙ module_other home (directory_kept home in_directory) in
      let apart : 0 ≢ home = λ e. omega (arith, S.directory_low home in_directory) in
      saved file (entry_write d s in_use (entry_bytes G nine file) ∷ []) d₂ d₃ (ap (λ (i : ℕ). take i (free G d)) same)
      (ap (entry_writes G d (entry_bytes G nine file) (last_or 0 file)) (sym first_free))
      (times_past 0 home [] apart ∙ times_none 0)
      (rw (stays, e₁, entry_is) at e₂)
      (rw long e₃)

  -- ---- the directory takes the sector after those of the module

  module _ (full : open_slot G d ≡ none) where
    one_more : k + 1 ≤ length (free G d)
    one_more = omega (arith, growth_none G d full, enough_is G d (length m.bytes) enough)

    -- the link found in the last of those leads to it
    pub next_grown : next_free G d m ≡ go (get_or (free G d) k 0)
    next_grown = free_next G d k (omega (arith, one_more)) (sectors_fit (length m.bytes)).some_sector (omega (arith, one_more))

    module _ (new : ℕ) (new-is : new ≡ get_or (free G d) k 0) where
      new_left : 0 < times new (drop k (free G d))
      new_left =
          let head : drop k (free G d) ≡ get_or (free G d) k 0 ∷ drop (suc k) (free G d) = drop-cons (free G d) k 0 (omega (arith, one_more)) in
          omega (arith, ap (times new) head, times_here new (get_or (free G d) k 0) (drop (suc k) (free G d)) new-is)

      new_free : 0 < times new (free G d)
      new_free = omega (arith, new_left, times_split new k (free G d))

      -- it is the last one that the save takes
      last_one : new ≡ last_or 0 (take (k + 1) (free G d))
      last_one = new-is ∙ sym (ap (λ (i : ℕ). last_or 0 (take i (free G d))) (add-one k) ∙ last_taken 0 (free G d) k (omega (arith, one_more)))

      pub new_last : new ≡ last_or 0 (all_taken G d m)
      new_last = rw (growth_none G d full) last_one

      -- the module leaves it as it was
      new_kept : sector (with_module G d m) new ≡ sector d new
      new_kept =
          chained_other G (file_taken G d m) (bodies m) d new (omega (arith, new_left, S.free_once new, times_split new k (free G d)))

      pub saved_grown : (last : ℕ) → last ≡ last_or 0 (directory G d) → (entry : List ℕ) → entry ≡ entry_bytes G nine (file_taken G d m) → (d₁ d₂ d₃ : Disc)
          → d₁ ≡ with_module G d m
          → d₂ ≡ stored_at (set d₁ new (with_slot (replicate 256 0) 0 1 entry)) last link_offset (link_bytes G (go new))
          → d₃ ≡ written (system_write G d₂ (link_of G (sector d₁ new)) (free_count d - (k + 1)) (used_count d + k) ∷ []) d₂
          → d₃ ≡ written (save_writes G d nine m) d
      unfolding entry_writes
      saved_grown last last_is entry entry_is d₁ d₂ d₃ e₁ e₂ e₃ =
          let taken : List ℕ = take (k + 1) (free G d) in
          let file : List ℕ = file_taken G d m in
          let e : List ℕ = entry_bytes G nine file in
          let end : ℕ = last_or 0 (directory G d) in
          let d₁' : Disc = with_module G d m in
          let written_new : Write = record { at = new; bytes = with_slot (replicate 256 0) 0 1 e } in
          let written-end : Write = record { at = end; bytes = with_link (sector d end) (link_bytes G (go new)) } in
          let grown : k + 1 ≡ k + growth G d = omega (arith, growth_none G d full) in
          let long : length taken ≡ k + 1 = length-take-le (k + 1) (free G d) one_more in
          let end-in : 0 < times end (directory G d) = last_of (directory G d) S.some_directory in
          let end-apart : end ≢ new = λ q. omega (arith, directory_kept end end-in, new_free, ap (λ (i : ℕ). times i (free G d)) q) in
          let end_stays : sector (set d₁' new (with_slot (replicate 256 0) 0 1 e)) end ≡ sector d end =
          sector_other d₁' new end _ end-apart ∙ module_other end (directory_kept end end-in) in
          let none-system : times 0 (new ∷ end ∷ []) ≡ 0 =
          times_past 0 new (end ∷ []) (λ q. omega (arith, S.free_low new new_free))
          ∙ times_past 0 end [] (λ q. omega (arith, S.directory_low end end-in))
          ∙ times_none 0 in
          saved taken (written_new ∷ written-end ∷ []) d₂ d₃ (ap (λ (i : ℕ). take i (free G d)) grown)
          (ap (λ (n : ℕ). entry_writes G d e n none) last_one ∙ ap (entry_writes G d e (last_or 0 taken)) (sym full))
          none-system
          (rw (← end_stays, ← last_is, ← entry_is, ← e₁) e₂)
          (rw (← last_one, ← new_kept, ← e₁, long) e₃)

-- where no slot is free, the link found after the module leads to that sector
pub new_file_leads : {g : code.Geometry} {image after nine : List ℕ} {m : Module} {f : NewFile} → Ready g image m → open_slot (geo g) (sectors_of g image) ≡ none
    → NewFileAs g image after nine m f → meaning f.next ≡ go (get_or (free (geo g) (sectors_of g image)) (sectors_for (length m.bytes)) 0)
new_file_leads {g} {image} {after} {nine} {m} r full f =
    f.next_is ∙ next_grown (geo g) (sectors_of g image) nine m r.savable r.enough full
