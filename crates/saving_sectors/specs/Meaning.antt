-- What the functions that write a save rely on, and what they leave.
-- Assumes nothing.
use Rattle.std.specs.Prelude.{◌≡◌, ℕ, ◌≤◌, ◌<◌, List, length}
use Rattle.lists.specs.Lists.{last_or}
use Rattle.format.specs.Geometry as format
use Rattle.format.specs.Geometry.{Disc, sector, written}
use Rattle.format.specs.Layout.{link_of, directory, free}
use Rattle.format.specs.Modules.{Module, bodies}
use Rattle.format.specs.ModuleLaws.{IsModule}
use Rattle.format.specs.Effects.{chained, entry_bytes, needed, save_writes}
use Rattle.soundness.specs.WriteFacts.{Savable}
use Rattle.soundness.specs.ListedWrites.{file_taken, all_taken}
use Rattle.geometry.specs.Meaning.{geo, sectors_of, Image}
use Rattle.disc.specs.Meaning.{meaning, Inside}
use Rattle.geometry.specs.declared.Geometry.{Geometry}
use Rattle.saving_sectors.specs.declared.Taken.{Taken}
use Rattle.saving_sectors.specs.declared.NewFile.{NewFile}
use Rattle.saving_sectors.specs.declared.Grown.{Grown}

-- the disc is as a sound one is, and has the sectors that a save of the module m takes
pub record Ready (g : Geometry) (image : List ℕ) (m : Module) : Type 0 where
  pub image_of : Image g image
  pub savable : Savable (geo g) (sectors_of g image)
  pub is_module : IsModule m
  pub enough : needed (geo g) (sectors_of g image) (length m.bytes) ≤ length (free (geo g) (sectors_of g image))

-- the disc with the module in the sectors that it takes, the first ones of the free chain
abbrev pub with_module : format.Geometry → Disc → Module → Disc
with_module G d m = written (chained G (file_taken G d m) (bodies m)) d

-- where the free chain goes on after those sectors
abbrev pub next_free : format.Geometry → Disc → Module → format.Next
next_free G d m = link_of G (sector d (last_or 0 (file_taken G d m)))

-- `after` is the image `before` with the module in it
pub record ModulePut (g : Geometry) (before after : List ℕ) (m : Module) (t : Taken) : Type 0 where
  pub sectors_are : sectors_of g after ≡ with_module (geo g) (sectors_of g before) m
  pub last_is : t.last.0 ≡ last_or 0 (file_taken (geo g) (sectors_of g before) m)
  pub last_inside : t.last.0 < g.sectors
  pub next_is : meaning t.next ≡ next_free (geo g) (sectors_of g before) m
  pub next_inside : Inside g t.next

-- and f has its entry
pub record NewFileAs (g : Geometry) (before after nine : List ℕ) (m : Module) (f : NewFile) : Type 0 where
  pub sectors_are : sectors_of g after ≡ with_module (geo g) (sectors_of g before) m
  pub entry_is : f.entry ≡ entry_bytes (geo g) nine (file_taken (geo g) (sectors_of g before) m)
  pub next_is : meaning f.next ≡ next_free (geo g) (sectors_of g before) m
  pub next_inside : Inside g f.next

-- the sectors after a save with which the directory grew, its new sector, and the one that links to it
pub record GrownBy (g : Geometry) (before after nine : List ℕ) (m : Module) (r : Grown) : Type 0 where
  pub sectors_are : sectors_of g after ≡ written (save_writes (geo g) (sectors_of g before) nine m) (sectors_of g before)
  pub new_is : r.new.0 ≡ last_or 0 (all_taken (geo g) (sectors_of g before) m)
  pub new_inside : r.new.0 < g.sectors
  pub last_is : r.last.0 ≡ last_or 0 (directory (geo g) (sectors_of g before))
  pub last_inside : r.last.0 < g.sectors
