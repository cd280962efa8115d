-- `reading::copy_part` meets its contract: the part of the image that is copied is the part of the sector.
use Rattle.std.proofs.Common.{arith, ℕ, ◌+◌, ◌-◌, ◌≡◌, sym, ap, ap₂, ◌∙◌, length, take, drop, length-take, length-drop}
use lib.Seq.{sets, slice}
use Rattle.lists.specs.ListLaws.{drop_take}
use Rattle.format.specs.Geometry.{start_of, sector}
use Rattle.format.proofs.GeometryLaws.{sector_full}
use Rattle.geometry.specs.Laws.{image_full}
use Rattle.geometry.specs.Meaning.{geo, sectors_of, form}
use Rattle.reading.specs.SectorLaws.{sector_from}
use Rattle.reading.specs.CopyLaws.{slice_front}
use Rattle.reading.proofs.copy_part.Goals as goal

pub returns : goal.returns
returns c =
    let a = c.args in
    let s = sector (sectors_of a.g a.image.now) a.s.number.0 in
    let size : ℕ = c.min-size.result in
    let start : ℕ = start_of (form a.g) (geo a.g) a.s.number.0 in
    let many : a.s.start + a.k + size - (a.s.start + a.k) ≡ size = omega arith in
    let long : length s ≡ 256 = sector_full (image_full c.requires.0) a.s.number.0 (omega arith) in
    let part : take (a.end - a.at) (drop a.k s) ≡ slice (start + a.k) (start + a.k + size) a.image.now =
    ap (take (a.end - a.at)) (sector_from c.requires.0 a.s.number.0 a.k (omega arith))
    ∙ slice_front a.image.now (start + a.k) (start + 256) (a.end - a.at) size (omega arith) (omega arith) in
    record {
      stored = c.copy.ensures
          ∙ ap₂ (λ (n j : ℕ). sets a.buffer.now a.at (take n (drop (j + a.k) a.image.now))) many c.requires.1.at
          ∙ ap (sets a.buffer.now a.at) (sym (drop_take (start + a.k) size a.image.now) ∙ sym part);
      next = omega (arith, length-take (a.end - a.at) (drop a.k s), length-drop a.k s, long);
      inside = omega arith;
    }
