-- `listing::list_on` meets its contract.
use Rattle.std.proofs.Common.{sym, ◌∙◌}
use Rattle.geometry.specs.Meaning.{geo, sectors_of}
use Rattle.listing.specs.Answer.{on_unsound, on_short, on_done}
use Rattle.listing.proofs.list_on.Goals as goal

pub returns-then-not-is_sound : goal.returns-then-not-is_sound
returns-then-not-is_sound c =
    on_unsound (geo c.args.g) (sectors_of c.args.g c.args.image.now) c.args.buffer.now (sym c.is_sound.ensures ∙ c.if-not-is_sound.true)

pub returns-then-buffer-length : goal.returns-then-buffer-length
returns-then-buffer-length c =
    on_short (geo c.args.g) (sectors_of c.args.g c.args.image.now) c.args.buffer.now (sym c.is_sound.ensures ∙ c.if-not-is_sound.false)
    _ c.listing_length-length.ensures.0 c.if-buffer-length.true

pub returns : goal.returns
returns c =
    on_done (geo c.args.g) (sectors_of c.args.g c.args.image.now) c.args.buffer.now (sym c.is_sound.ensures ∙ c.if-not-is_sound.false)
    _ c.listing_length-length.ensures.0 c.if-buffer-length.false _ c.put_listing.ensures
