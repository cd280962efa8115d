-- What the code that writes may rely on, on a sound disc: of the entry that a delete finds, and of the sectors that a save takes.
-- Assumes nothing.
use Rattle.std.specs.Prelude.{◌≡◌, ◌≢◌, ℕ, ◌+◌, ◌≤◌, ◌<◌, List, length}
use Rattle.std.proofs.Common.{arith}
use Rattle.std.proofs.Math.Option.{some}
use Rattle.lists.specs.Lists.{times, last_or, byte}
use Rattle.format.specs.Geometry.{Geometry, sectors, go, Disc, sector}
use Rattle.format.proofs.GeometryLaws.{pointed_on}
use Rattle.format.specs.Layout.{in_use_offset, slots_each, free_count, used_count, Slot, length_of, free_pointer, directory, free, open_slot, find, first_of, last_of, file_chain}
use Rattle.format.specs.Check.{broken}
use Rattle.soundness.specs.Slots.{sector_some_used, sector_some_free}
use Rattle.soundness.specs.Laid.{laid_one, sound_laid}
use Rattle.soundness.specs.Frames.{laid_sum}
use Rattle.soundness.specs.Found.{home_low, home_high, home_counted, found, open_lies, last_low, last_high, home_last}
use Rattle.soundness.specs.Pointers.{Pointable, chain_pointable}

-- ---- delete

-- the sectors that a delete writes are three, of the disc, and its counts neither wrap nor pass the number of sectors
pub record Removable (G : Geometry) (d : Disc) (s : Slot) : Type 0 where
  pub index_low : s.index < slots_each
  pub home_low : 0 < s.home
  pub home_high : s.home < sectors G
  pub last_low : 0 < last_or 0 (file_chain G d s)
  pub last_high : last_or 0 (file_chain G d s) < sectors G
  pub home_last : s.home ≢ last_or 0 (file_chain G d s)
  -- the entry names the file's last sector, and its length
  pub ends_at : last_of G s ≡ go (last_or 0 (file_chain G d s))
  pub as_long : length (file_chain G d s) ≡ length_of s
  pub some_sector : 1 ≤ length_of s
  -- what is written as pointer and link can be read back
  pub to_first : Pointable G (first_of G s)
  pub to_free : Pointable G (free_pointer G d)
  -- the counts
  pub in_use : 1 ≤ byte (sector d s.home) in_use_offset
  pub used_enough : length_of s ≤ used_count d
  pub free_fits : free_count d + length_of s < sectors G

pub removable : (G : Geometry) (d : Disc) (nine : List ℕ) (s : Slot) → broken G d ≡ 0 → find G d nine ≡ some s → Removable G d s
removable G d nine s e f =
    let l = sound_laid G d e in
    let w = found l.filed f in
    record {
      index_low = w.slot_of.index_low;
      home_low = home_low l.filed s w.slot_of;
      home_high = home_high l.filed s w.slot_of;
      last_low = last_low l.filed s w;
      last_high = last_high l.filed s w;
      home_last = home_last l.filed s w;
      ends_at = w.file.ends_at;
      as_long = w.file.as_long;
      some_sector = w.good.some_sector;
      to_first = chain_pointable w.file.chained (pointed_on G _ _);
      to_free = chain_pointable l.free_chain (pointed_on G _ _);
      in_use = omega (arith, home_counted l.filed s w.slot_of, sector_some_used s w.slot_of w.used);
      used_enough = omega (arith, w.shorter, l.used_counted);
      free_fits = omega (arith, w.shorter, l.free_counted, laid_sum l, l.filed.some_directory);
    }

-- ---- save

-- the free sectors are of the disc, distinct, apart from the directory's, and as many as the count says
pub record Savable (G : Geometry) (d : Disc) : Type 0 where
  pub free_counted : free_count d ≡ length (free G d)
  pub free_once : (n : ℕ) → times n (free G d) ≤ 1
  pub free_low : (n : ℕ) → 0 < times n (free G d) → 0 < n
  pub free_high : (n : ℕ) → 0 < times n (free G d) → n < sectors G
  pub free_apart : (n : ℕ) → 0 < times n (free G d) → times n (directory G d) ≡ 0
  -- the directory has a sector, and all of them are of the disc
  pub some_directory : 0 < length (directory G d)
  pub directory_low : (n : ℕ) → 0 < times n (directory G d) → 0 < n
  pub directory_high : (n : ℕ) → 0 < times n (directory G d) → n < sectors G
  -- the first free slot
  pub open_home : (s : Slot) → open_slot G d ≡ some s → 0 < times s.home (directory G d)
  pub open_index : (s : Slot) → open_slot G d ≡ some s → s.index < slots_each
  pub open_count : (s : Slot) → open_slot G d ≡ some s → byte (sector d s.home) in_use_offset < slots_each
  -- the used count after any save
  pub used_fits : used_count d + length (free G d) < sectors G

pub savable : (G : Geometry) (d : Disc) → broken G d ≡ 0 → Savable G d
savable G d e =
    let l = sound_laid G d e in
    record {
      free_counted = l.free_counted;
      free_once = λ n. omega (arith, (laid_one l n).one);
      free_low = λ n h. (laid_one l n).low (omega arith);
      free_high = λ n h. (laid_one l n).high (omega arith);
      free_apart = λ n h. omega (arith, (laid_one l n).one);
      some_directory = l.filed.some_directory;
      directory_low = λ n h. (laid_one l n).low (omega arith);
      directory_high = λ n h. (laid_one l n).high (omega arith);
      open_home = λ s o. (open_lies l.filed o).0.in_directory;
      open_index = λ s o. (open_lies l.filed o).0.index_low;
      open_count = λ s o. let w = open_lies l.filed o in omega (arith, home_counted l.filed s w.0, sector_some_free s w.0 w.1);
      used_fits = omega (arith, l.used_counted, laid_sum l, l.filed.some_directory);
    }
