-- A save's sectors: taken from the head of the free chain and written as a chain, with the system sector before them.
-- Assumes nothing.
use Rattle.std.specs.Prelude.{◌≡◌, ◌≢◌, ℕ, ◌+◌, ◌-◌, ◌<◌, true, List, [], ◌∷◌, map, ◌++◌, length, set}
use Rattle.std.proofs.Common.{ap, ◌∙◌, arith, length-append, length-set}
use Rattle.lists.specs.Lists.{times, last_or, word_at}
use Rattle.lists.specs.ListLaws.{zero_or, All, times_join, at_all}
use Rattle.lists.specs.Counts.{OneOf}
use Rattle.format.specs.Geometry.{Geometry, sectors, Next, Disc, sector, written}
use Rattle.format.specs.GeometryLaws.{Full}
use Rattle.format.proofs.GeometryLaws.{pointed_on, sector_other, sector_same, sector_full, full_set}
use Rattle.format.specs.Names.{legal_stored}
use Rattle.format.specs.Layout.{free_offset, directory_offset, free_count_offset, used_count_offset, system, free_count, used_count, pair_at, link_of, free_pointer, directory_pointer}
use Rattle.format.specs.ChainLaws.{Chain, on}
use Rattle.format.specs.Effects.{body, head_of, chained, system_write}
use Rattle.format.specs.NameCounts.{called}
use Rattle.soundness.specs.Filed.{entries_of, chains_of}
use Rattle.soundness.specs.Laid.{Laid, laid_one}
use Rattle.soundness.specs.Frames.{laid_sum}
use Rattle.soundness.specs.Pointers.{Bounded, Pointable, chain_pointable}
use Rattle.soundness.specs.SystemWrites.{system_free, system_directory, system_freed, system_used, system_length}
use Rattle.soundness.specs.ChainWrites.{chained_full, chained_other, chained_chain}

-- a disc that a save of the bodies bs as `nine` is about to change: `file` and `extra` are taken from the free sectors, `rest` is left
pub record Saving (G : Geometry) (d : Disc) (dir frees nine file extra rest : List ℕ) (bs : List (List ℕ)) : Type 0 where
  pub bounded : Bounded G
  pub laid : Laid G d dir frees
  pub full : Full G d
  pub split : frees ≡ (file ++ extra) ++ rest
  pub some_file : 0 < length file
  pub as_many : length file ≡ length bs
  pub bodies_full : All (λ b. length b ≡ 254) bs
  pub nine_long : length nine ≡ 9
  pub legal : legal_stored nine ≡ true
  pub fresh : called nine (entries_of d dir) ≡ 0

-- what follows the first part of a chain
pub chain_rest : {G : Geometry} {d : Disc} {p : Next} (ns ms : List ℕ) → 0 < length ns → Chain G d p (ns ++ ms)
    → Chain G d (link_of G (sector d (last_or 0 ns))) ms
chain_rest [] ms h c = absurd (omega arith)
chain_rest (n ∷ []) ms h (on e c) = c
chain_rest {G = G} {d = d} (n ∷ m ∷ ns) ms h (on e c) = chain_rest {p = link_of G (sector d n)} (m ∷ ns) ms (omega arith) c

-- the system sector's bytes after a save of k sectors
abbrev pub saved_system : Geometry → Disc → List ℕ → ℕ → List ℕ
saved_system G d taken k = (system_write G d (link_of G (sector d (last_or 0 taken))) (free_count d - length taken) (used_count d + k)).bytes

-- the disc with the system sector and the file's sectors written
abbrev pub with_file : Geometry → Disc → List ℕ → List ℕ → List (List ℕ) → Disc
with_file G d taken file bs = written (chained G file bs) (set d 0 (saved_system G d taken (length file)))

module _ {G : Geometry} {d : Disc} {dir frees nine file extra rest : List ℕ} {bs : List (List ℕ)} (v : Saving G d dir frees nine file extra rest bs) where
  pub free_times : (n : ℕ) → times n frees ≡ times n file + times n extra + times n rest
  free_times n = ap (times n) v.split ∙ omega (arith, times_join n (file ++ extra) rest, times_join n file extra)

  pub free_length : length frees ≡ length file + length extra + length rest
  free_length = ap length v.split ∙ omega (arith, length-append (file ++ extra) rest, length-append file extra)

  one : (n : ℕ) → OneOf (sectors G) n (times n dir) (times n (chains_of G d (entries_of d dir))) (times n frees)
  one n = laid_one v.laid n

  pub file_below : All (λ n. n < sectors G) file
  file_below = at_all file (λ n h. (one n).high (omega (arith, free_times n)))

  file_system : times 0 file ≡ 0
  file_system = zero_or (times 0 file) (λ h. omega (arith, (one 0).low (omega (arith, free_times 0))))

  pub rest_chain : Chain G d (link_of G (sector d (last_or 0 (file ++ extra)))) rest
  rest_chain = chain_rest (file ++ extra) rest (omega (arith, length-append file extra, v.some_file)) (rw v.split at v.laid.free_chain)

  to_rest : Pointable G (link_of G (sector d (last_or 0 (file ++ extra))))
  to_rest = chain_pointable rest_chain (pointed_on G _ _)

  some_sectors : 0 < sectors G
  some_sectors = omega (arith, laid_sum v.laid, free_length, v.some_file)

  pub file_few : length file < 65536
  file_few = omega (arith, laid_sum v.laid, free_length, v.bounded.few)

  full_system : length (system d) ≡ 256
  full_system = sector_full v.full 0 some_sectors

  -- ---- the disc with the file

  pub with_file_full : Full G (with_file G d (file ++ extra) file bs)
  unfolding system_write
  with_file_full = chained_full G file file_below v.bodies_full (full_set v.full 0 _ (system_length G v.bounded d full_system _ to_rest _ _))

  pub with_file_zero : sector (with_file G d (file ++ extra) file bs) 0 ≡ saved_system G d (file ++ extra) (length file)
  with_file_zero =
      chained_other G file bs (set d 0 (saved_system G d (file ++ extra) (length file))) 0 file_system
      ∙ sector_same d 0 _ (omega (arith, some_sectors, v.full.many))

  pub with_file_other : (n : ℕ) → n ≢ 0 → times n file ≡ 0 → sector (with_file G d (file ++ extra) file bs) n ≡ sector d n
  with_file_other n h k = chained_other G file bs (set d 0 (saved_system G d (file ++ extra) (length file))) n k ∙ sector_other d 0 n _ h

  pub with_file_chain : Chain G (with_file G d (file ++ extra) file bs) (head_of file) file
      × (map (λ n. body (sector (with_file G d (file ++ extra) file bs) n)) file ≡ bs)
  with_file_chain =
      chained_chain G v.bounded file bs (set d 0 (saved_system G d (file ++ extra) (length file))) v.as_many file_below
      (length-set d 0 _ ∙ v.full.many) (λ n. omega (arith, free_times n, (one n).one))

  -- ---- any disc with that system sector

  module _ (d' : Disc) (at_zero : sector d' 0 ≡ saved_system G d (file ++ extra) (length file)) where
    pub saved_free : free_pointer G d' ≡ link_of G (sector d (last_or 0 (file ++ extra)))
    saved_free = ap (λ (r : List ℕ). pair_at G r free_offset) at_zero ∙ system_free G v.bounded d full_system _ to_rest _ _

    pub saved_directory : directory_pointer G d' ≡ directory_pointer G d
    saved_directory = ap (λ (r : List ℕ). pair_at G r directory_offset) at_zero ∙ system_directory G d _ _ _

    pub saved_freed : free_count d' ≡ length rest
    saved_freed =
        ap (λ (r : List ℕ). word_at r free_count_offset) at_zero
        ∙ system_freed G v.bounded d full_system _ to_rest (free_count d - length (file ++ extra)) (used_count d + length file)
        (omega (arith, v.laid.free_counted, laid_sum v.laid, v.bounded.few))
        ∙ omega (arith, v.laid.free_counted, free_length, length-append file extra)

    pub saved_used : used_count d' ≡ used_count d + length file
    saved_used =
        ap (λ (r : List ℕ). word_at r used_count_offset) at_zero
        ∙ system_used G v.bounded d full_system _ to_rest (free_count d - length (file ++ extra)) (used_count d + length file)
        (omega (arith, v.laid.used_counted, laid_sum v.laid, free_length, v.bounded.few))
