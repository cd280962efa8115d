-- Laws of the whole listing: the record of the disc, those of the entries and the last byte, stored one after the other.
-- Assumes nothing.
use Rattle.std.specs.Prelude.{◌≡◌, refl, ℕ, ◌+◌, ◌≤◌, ◌<◌, List, [], ◌∷◌, ◌++◌, length, set}
use Rattle.std.proofs.Common.{◌∙◌, arith}
use Rattle.lists.specs.Lists.{front}
use Rattle.format.specs.Geometry.{Geometry, Disc}
use Rattle.format.specs.Layout.{slots}
use Rattle.format.specs.Effects.{listing}
use Rattle.listing.specs.Meaning.{disc_record, records_of}
use Rattle.listing.specs.Laws.{listing_parts}
use Rattle.records.specs.Storing.{Stored, Storing, storing_all, storing_step, storing_room}
use Rattle.lists.specs.Stores.{sets_front}

-- All but the last byte of the bytes all is stored, in b' where there was b: there is room for that byte, and it makes them whole.
pub record Ending (all b b' : List ℕ) (last : ℕ) : Type 0 where
  pub room : last < length b'
  pub long : length b' ≡ length b
  pub whole : set b' last 0 ≡ front all b

module _ (G : Geometry) (d : Disc) (b : List ℕ) (room : length (listing G d) ≤ length b) where
  at_start : Storing b 0 (listing G d) b 0 (disc_record d ++ (records_of (slots G d) ++ 0 ∷ []))
  at_start = storing_all b 0 (listing_parts G d)

  pub room_disc : length (disc_record d) ≤ length b
  room_disc = omega (arith, storing_room (disc_record d) (records_of (slots G d) ++ 0 ∷ []) at_start refl (omega arith))

  module _ {b' : List ℕ} {at : ℕ} (disc : Stored b 0 (disc_record d) b' at) where
    after_disc : Storing b 0 (listing G d) b' at (records_of (slots G d) ++ 0 ∷ [])
    after_disc = storing_step (disc_record d) (records_of (slots G d) ++ 0 ∷ []) at_start refl disc

    pub room_entries : at + length (records_of (slots G d)) ≤ length b'
    room_entries = storing_room (records_of (slots G d)) (0 ∷ []) after_disc refl (omega arith)

    pub ending : {b'' : List ℕ} {last : ℕ} → Stored b' at (records_of (slots G d)) b'' last → Ending (listing G d) b b'' last
    ending entries =
        let stored = storing_step (records_of (slots G d)) (0 ∷ []) after_disc refl entries in
        record {
          room = omega (arith, storing_room (0 ∷ []) [] stored refl (omega arith));
          long = stored.long;
          whole = stored.buffer ∙ sets_front b (listing G d) room;
        }
