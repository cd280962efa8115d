-- `blank::blank_on` meets its contract.
use Rattle.std.proofs.Common.{rules, arith, ◌-◌, ◌≡◌, sym, ap, subst, ◌∙◌, List, ℕ, [], length, set, replicate}
use Rattle.std.proofs.lemmas.List.{get_or-replicate}
use Rattle.format.specs.Geometry.{Disc, sector, sectors, written}
use Rattle.format.specs.Effects.{chained, blank_free, blank_system, blank_disc}
use Rattle.geometry.specs.declared.Geometry.{Geometry}
use Rattle.geometry.specs.Meaning.{geo, sectors_of, form, Image}
use Rattle.geometry.specs.Laws.{each_once}
use Rattle.blank.specs.Meaning.{Bare}
use Rattle.blank.specs.Zeros.{cut_zeros, bare_zeros}
use Rattle.blank.proofs.blank_on.Goals as goal
use Rattle.blank.proofs.blank_on.Goals.{After-put_blank_system}

zeros : {g : Geometry} {before image : List ℕ} → Image g before → image ≡ replicate (length before) 0
    → sectors_of g image ≡ replicate (sectors (geo g)) (replicate 256 0)
zeros {g} {before} i e = ap (sectors_of g) e ∙ cut_zeros (form g) (geo g) (each_once i.valid) (length before) (omega arith)

pub put_blank_system-requires : goal.put_blank_system-requires
put_blank_system-requires c =
    let on = get_or-replicate {A = List ℕ} (sectors (geo c.args.g)) 0 (replicate 256 0) [] (omega arith) in
    (search rules, c.stops-stops.ensures, ap (λ (d : Disc). sector d 0) (zeros c.requires (c.fill.ensures.after (λ y e. e))) ∙ on)

-- the system sector over zeros
system_put : (c : After-put_blank_system) → let a = c.args in
    sectors_of a.g c.put_blank_system.new.image ≡ set (replicate (sectors (geo a.g)) (replicate 256 0)) 0 (blank_system (geo a.g) a.name.bytes)
system_put c = rw c.put_blank_system.ensures (rw (zeros c.requires (c.fill.ensures.after (λ y e. e))))

pub put_chain-requires : goal.put_chain-requires
put_chain-requires c =
    let put = system_put (goal.at.put_chain-requires c).After-put_blank_system in
    (search rules, c.stops-stops.ensures, subst Bare (sym put) (bare_zeros _ _))

pub returns : goal.returns
unfolding blank_disc
returns c =
    let G = geo c.args.g in
    c.put_chain.ensures
    ∙ ap (written (chained G (blank_free G) (replicate (sectors G - 2) (replicate 254 0)))) (system_put (goal.at.returns c).After-put_blank_system)
