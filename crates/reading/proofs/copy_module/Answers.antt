-- `reading::copy_module` meets its contract.
use Rattle.std.proofs.Common.{◌≡◌, refl, sym, ap, ◌∙◌, ℕ, ◌+◌, ◌-◌, arith, List, ◌++◌, length, take, drop, length-take}
use lib.Seq.{sets, take-nil}
use Rattle.lists.specs.Stores.{sets_front}
use Rattle.format.specs.Geometry.{sector}
use Rattle.format.specs.Modules.{plain}
use Rattle.geometry.specs.Meaning.{geo, sectors_of}
use Rattle.reading.specs.Plain.{later_bytes}
use Rattle.reading.specs.Meaning.{bytes_in, bodies_of, file_bodies, bodies_after}
use Rattle.reading.specs.FileLaws.{file_followed, followed_leads, followed_step, bytes_step, none_follow}
use Rattle.reading.specs.CopyLaws.{copied_on, copied_long, file_bytes}
use Rattle.reading.proofs.copy_module.Goals as goal

pub loop-j-init : goal.loop-j-init
loop-j-init c = (file_followed c.requires.0, c.copy_part-at.ensures.inside, refl, refl, c.requires.3)

pub next_of-s-requires : goal.next_of-s-requires
next_of-s-requires c = (c.requires.0.on_image, c.loop-j.invariant.4, followed_leads _ _ _ c.loop-j.invariant.0 c.loop-j-test.true)

pub loop-j-preserved : goal.loop-j-preserved
loop-j-preserved c =
    let a = c.args in
    let inv = c.loop-j.invariant in
    let n : ℕ = c.loop-j.s.number.0 in
    let j : ℕ = c.loop-j.j in
    let m : ℕ = c.next_of-s.result.number.0 in
    let on = c.loop-j-test.true in
    let link = c.next_of-s.ensures.0 in
    let copied = c.copy_later-at.ensures in (
      followed_step n a.count j inv.0 on m link c.next_of-s.ensures.1.on,
      copied.inside,
      copied_long copied ∙ inv.2,
      copied_on copied inv.1 (later_bytes (bodies_after a.g a.image.now m (a.count - (j + 1))))
          ∙ ap (λ (xs : List ℕ). sets c.loop-j.buffer c.loop-j.at (take (a.size - c.loop-j.at) xs)) (sym (bytes_step n a.count j inv.0 on m link))
          ∙ inv.3,
      c.next_of-s.ensures.1,
    )

pub returns : goal.returns
returns c =
    let a = c.args in
    let d = sectors_of a.g a.image.now in
    let rest : List ℕ = later_bytes (bodies_after a.g a.image.now a.first.number.0 (a.count - 1)) in
    let all : List ℕ = drop 11 (sector d a.first.number.0) ++ rest in
    let left : ℕ = a.size - c.loop-j.at in
    let none = none_follow (geo a.g) d c.loop-j.s.number.0 (a.count - c.loop-j.j) (omega arith) in
    let end = ap (λ (ns : List ℕ). take left (later_bytes (bodies_of d ns))) none ∙ take-nil left in
    let whole : a.size - 0 ≡ a.size = omega arith in
    let bytes = file_bytes c.requires.0 a.size c.requires.1 in
    sym (ap (sets c.loop-j.buffer c.loop-j.at) end)
    ∙ c.loop-j.invariant.3
    ∙ copied_on c.copy_part-at.ensures (omega arith) rest
    ∙ ap (λ (k : ℕ). sets a.buffer.now 0 (take k all)) whole
    ∙ ap (sets a.buffer.now 0) bytes
    ∙ sets_front a.buffer.now (bytes_in (plain (file_bodies a.g a.image.now a.first.number.0 a.count)))
    (omega (arith, sym (ap length bytes), length-take a.size all, c.requires.2))
