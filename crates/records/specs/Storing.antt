-- Bytes that are stored in a buffer one piece after the other, and the laws of that.
-- Assumes nothing.
use Rattle.std.specs.Prelude.{◌≡◌, refl, ℕ, suc, ◌+◌, ◌≤◌, List, [], ◌∷◌, ◌++◌, length, set}
use Rattle.std.proofs.Common.{sym, ap, ap₂, ◌∙◌, subst, arith, length-append}
use Rattle.std.proofs.lemmas.List.Edits.{sets}
use Rattle.std.proofs.Math.Seq.{length-sets}
use Rattle.lists.specs.Stores.{sets_append}

-- Bytes were stored in a buffer: the buffer afterwards, and the position after the bytes.
pub record Stored (before : List ℕ) (at : ℕ) (bytes after : List ℕ) (next : ℕ) : Type 0 where
  pub buffer : after ≡ sets before at bytes
  pub position : next ≡ at + length bytes

-- Storing what is left in the buffer b at its position gives what storing all of it gives in the buffer before.
pub record Storing (before : List ℕ) (from : ℕ) (all : List ℕ) (b : List ℕ) (at : ℕ) (left : List ℕ) : Type 0 where
  pub buffer : sets b at left ≡ sets before from all
  pub position : at + length left ≡ from + length all
  pub long : length b ≡ length before

pub storing_all : (b : List ℕ) (at : ℕ) {all left : List ℕ} → all ≡ left → Storing b at all b at left
storing_all b at {all} e = subst (λ (left : List ℕ). Storing b at all b at left) e (record { buffer = refl; position = refl; long = refl })

module _ {before all b : List ℕ} {from at : ℕ} where
  -- what is left begins with xs
  pub storing_step : {left : List ℕ} (xs ys : List ℕ) → Storing before from all b at left → left ≡ xs ++ ys
      → {b' : List ℕ} {next : ℕ} → Stored b at xs b' next → Storing before from all b' next ys
  storing_step xs ys s e {b'} {next} t =
      record {
        buffer = ap₂ (λ (x : List ℕ) (k : ℕ). sets x k ys) t.buffer t.position
            ∙ sets_append b at xs ys
            ∙ ap (sets b at) (sym e)
            ∙ s.buffer;
        position = omega (arith, t.position, s.position, ap length e, length-append xs ys);
        long = ap length t.buffer ∙ length-sets b at xs ∙ s.long;
      }

  -- there is room for it
  pub storing_room : {left : List ℕ} (xs ys : List ℕ) → Storing before from all b at left → left ≡ xs ++ ys → from + length all ≤ length before
      → at + length xs ≤ length b
  storing_room xs ys s e room = omega (arith, s.position, s.long, ap length e, length-append xs ys)

  -- nothing is left
  pub storing_end : {left : List ℕ} → Storing before from all b at left → left ≡ [] → Stored before from all b at
  storing_end s e =
      record {
        buffer = ap (sets b at) (sym e) ∙ s.buffer;
        position = omega (arith, s.position, ap length e);
      }

pub stored_as : {b b' : List ℕ} {at next : ℕ} {xs ys : List ℕ} → xs ≡ ys → Stored b at xs b' next → Stored b at ys b' next
stored_as {b} {b'} {at} {next} e s = subst (λ (zs : List ℕ). Stored b at zs b' next) e s

pub stored_none : (b : List ℕ) (at : ℕ) → Stored b at [] b at
stored_none b at = record { buffer = refl; position = omega arith }

-- three pieces: a byte and two lists
pub stored_three : (b : List ℕ) (at x : ℕ) (xs ys : List ℕ) {b' : List ℕ} {next : ℕ}
    → b' ≡ sets (sets (set b at x) (at + 1) xs) next ys → next ≡ at + 1 + length xs
    → Stored b at (x ∷ xs ++ ys) b' (next + length ys)
stored_three b at x xs ys {b'} {next} e p =
    let one : at + 1 ≡ suc at = omega arith in
    let two : next ≡ suc at + length xs = omega arith in
    record {
      buffer = e ∙ ap₂ (λ (j k : ℕ). sets (sets (set b at x) j xs) k ys) one two ∙ sets_append (set b at x) (suc at) xs ys;
      position = omega (arith, length-append xs ys);
    }
