-- `blank::pointers` meets its contract.
use Rattle.std.proofs.Common.{arith, ℕ, ◌+◌, ◌*◌, ◌<◌, ◌≡◌, refl, sym, ap, ap₂, subst, ◌∙◌, List, [], ◌∷◌, ◌++◌, drop}
use Rattle.format.specs.Geometry.{Next, go}
use Rattle.format.specs.Layout.{pair_bytes}
use Rattle.format.specs.Effects.{head_of, passing}
use Rattle.geometry.specs.Meaning.{geo}
use Rattle.geometry.specs.Laws.{number_on}
use Rattle.passing.specs.Meaning.{Passed}
use Rattle.passing.specs.Stops.{stop_sector}
use Rattle.passing.specs.Positions.{passed_here}
use Rattle.blank.specs.Links.{directory_on, free_is}
use Rattle.blank.proofs.pointers.Goals as goal

pub number_of-requires : goal.number_of-requires
number_of-requires c = let v = c.requires.0 in (v, directory_on v)

pub address_of-directory-requires : goal.address_of-directory-requires
address_of-directory-requires c = let v = c.requires.0 in (v, omega (arith, c.number_of.ensures, number_on v 0 4 (directory_on v)))

pub returns : goal.returns
returns c =
    let v = c.requires.0 in
    let G = geo c.args.g in
    let third : 2 < G.per_track = omega (arith, v.nine_on_track) in
    let from : G.per_track * 0 + 2 ≡ 2 = omega arith in
    let stop = c.requires.1.at 2 third in
    let free = subst (λ (k : ℕ). Passed c.args.g k (record { track = 0; sector = c.sector_of_stop.result })) from
    (passed_here v 0 2 v.some_track third _ refl (c.sector_of_stop.ensures ∙ stop_sector v _ _ stop)) in
    let directory = c.address_of-directory.ensures in
    ap₂ (λ (s t : ℕ). s ∷ t ∷ c.address_of-directory.result.sector ∷ c.address_of-directory.result.track ∷ []) free.sector_is free.track_is
    ∙ ap₂ (λ (s t : ℕ). pair_bytes G (head_of (drop 2 (passing G))) ++ (s ∷ t ∷ [])) directory.1 directory.0
    ∙ ap₂ (λ (ns : List ℕ) (q : Next). pair_bytes G (head_of ns) ++ pair_bytes G q) (sym (free_is v)) (ap go c.number_of.ensures)
