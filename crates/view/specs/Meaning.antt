-- What the code's answer for a view says, and what it is to be a part of a lent image.
-- Assumes nothing.
use Rattle.std.specs.Prelude.{◌≡◌, ℕ, ◌+◌, List, Ok, Err}
use Rattle.std.specs.declared.result.Result.{Result}
use Rattle.std.specs.Borrow.{Bor}
use Rattle.format.specs.Refusals.{Try, Refusal, refused, ok}
use Rattle.format.specs.Geometry.{Part, bytes_of}
use Rattle.refusals.specs.declared.Refusal as code
use Rattle.refusals.specs.Meaning.{reason}

-- the part of the image that is shown, where the code answers with its start
abbrev pub shown : Result ℕ code.Refusal → Try Refusal Part
shown (Ok at) = ok (record { at = at; size = 254 })
shown (Err e) = refused (reason e)

-- "where they lie in the image, not a copy": r has the bytes of the part, and starts in the image's own block of memory, so many bytes in
pub record PartOf (image r : Bor (List ℕ)) (p : Part) : Type 0 where
  pub bytes : r.now ≡ bytes_of p image.now
  pub address : r.ref_ptr ≡ (image.ref_ptr.0, p.at + image.ref_ptr.1)
