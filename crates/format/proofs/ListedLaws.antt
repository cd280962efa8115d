-- Laws of `listed`: how a command that gives a list of its writes comes out.
-- Assumes nothing.
use Rattle.std.specs.Prelude.{◌≡◌, refl, ℕ, Bool, length}
use Rattle.std.proofs.Math.Bool.{true, false}
use mathlib.Core.List.{List}
use Rattle.std.proofs.Math.Dec.{ltb}
use Rattle.std.proofs.Common.{ltb-false}
use Rattle.format.specs.Refusals.{Try, Refusal, SHORT, refused, ok, ◌>>=◌, ◌>>◌, refuse◌if◌, number}
use Rattle.format.specs.Geometry.{Format, Geometry, geometry, Disc, cut, Write}
use Rattle.format.specs.Writes.{write_list}
use Rattle.format.specs.Calls.{Change, listed, change_answer_by}
use Rattle.format.specs.ListedLaws.{change_by, Outcome, stays, writes}

-- the number is that of the refusal, or 0
pub change_number : (image buffer : List ℕ) (t : Try Refusal Change) → (change_answer_by image buffer t).number ≡ number t
unfolding change_answer_by number
change_number image buffer (refused e) = refl
change_number image buffer (ok l) = refl

module _ (F : Format) (image buffer : List ℕ) (f : Geometry → Disc → Try Refusal (List Write)) where
  pub outcome : (G : Geometry) → geometry F (length image) ≡ ok G → Outcome F G image buffer f (change_answer_by image buffer (listed F image (length buffer) f))
  unfolding listed ◌>>=◌ ◌>>◌ refuse◌if◌
  outcome G g = rw g (by (f G (cut F G image)) refl)
    where
      fits : (ws : List Write) → f G (cut F G image) ≡ ok ws → (b : Bool) → ltb (length buffer) (length (write_list G ws)) ≡ b
          → Outcome F G image buffer f (change_answer_by image buffer (refuse SHORT if b >> ok (change_by F G (cut F G image) ws)))
      fits ws p true q = stays SHORT
      fits ws p false q = writes ws p (ltb-false (length buffer) (length (write_list G ws)) q)

      by : (t : Try Refusal (List Write)) → f G (cut F G image) ≡ t → Outcome F G image buffer f
          (change_answer_by image buffer (t >>= λ ws. (refuse SHORT if ltb (length buffer) (length (write_list G ws)) >> ok (change_by F G (cut F G image) ws))))
      by (refused e) p = stays e
      by (ok ws) p = fits ws p (ltb (length buffer) (length (write_list G ws))) refl
