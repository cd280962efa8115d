-- `blank::put_chain` meets its contract: the writes that are left, written, always give the whole.
use Rattle.std.proofs.Common.{rules, arith, mul-le-mul_left, ℕ, ◌+◌, ◌*◌, ◌≡◌, refl, sym, ap, subst, ◌∙◌, List, length}
use Rattle.format.specs.Geometry.{Write, written}
use Rattle.geometry.specs.Meaning.{geo, sectors_of}
use Rattle.geometry.specs.Laws.{image_kept}
use Rattle.blank.specs.Links.{links_from, links_end, links_whole, Linked, linked_none, linked_more}
use Rattle.blank.proofs.put_chain.Goals as goal

pub loop-track-init : goal.loop-track-init
loop-track-init c = record { kept = refl; links = linked_none _ _ _ c.put_track.ensures.bare }

pub put_track-requires-in-loop-track : goal.put_track-requires-in-loop-track
put_track-requires-in-loop-track c =
    let pre = c.requires in
    let v = pre.0.valid in
    let more = mul-le-mul_left (geo c.args.g).per_track c.loop-track.auto.track in
    let long : length c.loop-track.image ≡ length c.args.image.now = search rules in
    (image_kept pre.0 long, pre.1, omega arith, v.some_on_track, omega (arith, more), c.loop-track.invariant.links.bare)

pub loop-track-preserved : goal.loop-track-preserved
loop-track-preserved c =
    let g = c.args.g in
    let track : ℕ = c.loop-track.track in
    let from : (geo g).per_track * track + 0 ≡ (geo g).per_track * track = omega arith in
    record {
      kept = search rules;
      links =
          let new = c.put_track-in-loop-track.new.image in
          let linked = λ (k : ℕ). Linked g k ((geo g).per_track * (track + 1)) c.loop-track.image new in
          linked_more c.loop-track.invariant.links (subst linked from c.put_track-in-loop-track.ensures);
    }

pub returns : goal.returns
returns c =
    let g = c.args.g in
    let v = c.requires.0.valid in
    let all : c.loop-track.track ≡ g.tracks = omega arith in
    let end = links_end v ((geo g).per_track * c.loop-track.track) (omega (arith, ap (λ (q : ℕ). (geo g).per_track * q) all)) in
    let from : (geo g).per_track * 0 + 2 ≡ 2 = omega arith in
    ap (λ (ws : List Write). written ws (sectors_of g c.loop-track.image)) (sym end)
    ∙ (linked_more c.put_track.ensures c.loop-track.invariant.links).links
    ∙ ap (λ (ws : List Write). written ws (sectors_of g c.args.image.now)) (ap (links_from g) from ∙ links_whole v)
