-- `geometry::geometry_of` meets its contract.
use Rattle.std.proofs.Common.{sym, ◌∙◌, inl, inr}
use Rattle.geometry.specs.Laws.{sized_unknown, sized_out, sized_done}
use Rattle.geometry.proofs.geometry_of.Goals as goal
use Rattle.geometry.proofs.geometry_of.Goals.{then-tracks-lt1-via-then-tracks-lt1, then-tracks-lt1-via-else-tracks-lt1+then-tracks-gt-MOST_TRACKS}

pub returns-then-not-is_known : goal.returns-then-not-is_known
returns-then-not-is_known c = sym (sized_unknown _ _ (sym c.is_known.ensures ∙ c.if-not-is_known.true))

pub returns-then-tracks-lt1 : goal.returns-then-tracks-lt1
returns-then-tracks-lt1 c =
    let out = sized_out _ (sym c.is_known.ensures ∙ c.if-not-is_known.false) _ _ c.tracks_in-tracks.ensures in
    elim c.then-tracks-lt1.branch [
      | then-tracks-lt1-via-then-tracks-lt1 w ↦ sym (out (inl w.if-tracks-lt1.true))
      | then-tracks-lt1-via-else-tracks-lt1+then-tracks-gt-MOST_TRACKS w ↦ sym (out (inr w.if-tracks-gt-MOST_TRACKS.true))
    ]

pub returns : goal.returns
returns c =
    let known = sym c.is_known.ensures ∙ c.if-not-is_known.false in
    rw c.places_of.ensures (sym (sized_done _ known _ _ c.tracks_in-tracks.ensures c.if-tracks-lt1.false c.if-tracks-gt-MOST_TRACKS.false))
