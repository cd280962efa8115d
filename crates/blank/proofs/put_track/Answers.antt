-- `blank::put_track` meets its contract: at each turn the links of the sectors before `here` are written.
use Rattle.std.proofs.Common.{rules, arith, ℕ, ◌+◌, ◌*◌, ◌%◌, ◌≤◌, ◌<◌, ◌≡◌, refl, ◌∙◌, List, length, get_or, replicate}
use Rattle.format.specs.Geometry.{sector, sector_number}
use Rattle.format.specs.Effects.{body}
use Rattle.geometry.specs.declared.Geometry.{Geometry}
use Rattle.geometry.specs.Meaning.{geo, sectors_of, Image}
use Rattle.geometry.specs.Laws.{image_kept}
use Rattle.passing.specs.Meaning.{Stop}
use Rattle.passing.specs.Stops.{stop_sector}
use Rattle.passing.specs.Positions.{next_track, passed_here, here_stop}
use Rattle.blank.specs.Meaning.{Bare}
use Rattle.blank.specs.Links.{linked_none, linked_more, here_bare, linked_here}
use Rattle.blank.proofs.put_track.Goals as goal

-- the sector at position i of the track has zeros, and takes its link
takes_link : {g : Geometry} {before image : List ℕ} (track i here : ℕ) → Image g before → length image ≡ length before → track < g.tracks
    → i < (geo g).per_track → 2 ≤ (geo g).per_track * track + i → Stop g (get_or (geo g).order i 0) here → Bare (sectors_of g image)
    → Image g image × (track < g.tracks) × Stop g (here % 256) here
    × (body (sector (sectors_of g image) (sector_number (geo g) track (here % 256))) ≡ replicate 254 0)
takes_link track i here on long t h low stop bare =
    (image_kept on long, t, here_stop on.valid track i t h here stop, here_bare on.valid track i t h here stop low _ bare)

pub loop-i-init : goal.loop-i-init
loop-i-init c =
    let pre = c.requires in
    record { kept = refl; here_is = pre.1.at _ pre.3; links = linked_none _ _ _ pre.5 }

pub link_to-requires : goal.link_to-requires
link_to-requires c =
    let at = c.loop-i.invariant in
    takes_link _ c.loop-i.i _ c.requires.0 at.kept c.requires.2 (omega arith) (omega arith) at.here_is at.links.bare

pub loop-i-preserved : goal.loop-i-preserved
loop-i-preserved c =
    let pre = c.requires in
    let at = c.loop-i.invariant in
    let v = pre.0.valid in
    let i : ℕ = c.loop-i.i in
    let G = geo c.args.g in
    let more : i + 1 < G.per_track = omega arith in
    let next = pre.1.at (i + 1) more in
    let along : G.per_track * c.args.track + (i + 1) ≡ G.per_track * c.args.track + i + 1 = omega arith in
    let to = passed_here v c.args.track (i + 1) pre.2 more _ refl (c.sector_of_stop.ensures ∙ stop_sector v _ _ next) in
    record {
      kept = search rules;
      here_is = next;
      links = linked_more at.links
          (linked_here v c.args.track i pre.2 (omega arith) _ at.here_is _ along _ to _ _ at.links.bare c.link_to.ensures);
    }

pub link_to-requires-2 : goal.link_to-requires-2
link_to-requires-2 c =
    let at = c.loop-i.invariant in
    takes_link _ c.loop-i.i _ c.requires.0 at.kept c.requires.2 (omega arith) (omega arith) at.here_is at.links.bare

pub returns : goal.returns
returns c =
    let at = c.loop-i.invariant in
    let v = c.requires.0.valid in
    let i : ℕ = c.loop-i.i in
    let G = geo c.args.g in
    let last : G.per_track * (c.args.track + 1) ≡ G.per_track * c.args.track + i + 1 = omega (arith, next_track v c.args.track) in
    linked_more at.links
    (linked_here v c.args.track i c.requires.2 (omega arith) _ at.here_is _ last _ c.after_track.ensures _ _ at.links.bare c.link_to-2.ensures)
