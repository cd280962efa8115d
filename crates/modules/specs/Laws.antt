-- Laws of writing a module: a sector written in parts, and the body of each of a module's sectors by its index.
-- Assumes nothing.
use Rattle.std.specs.Prelude.{◌≡◌, refl, ℕ, zero, suc, ◌+◌, ◌*◌, ◌-◌, ◌≤◌, ◌<◌, List, [], ◌∷◌, ◌++◌, length, get_or, set, take, drop, replicate}
use Rattle.std.proofs.Common.{sym, ap, ap₂, ◌∙◌, arith, append_assoc, length-append, drop-drop}
use Rattle.std.proofs.lemmas.List.{length-replicate}
use Rattle.std.proofs.lemmas.List.Edits.{sets}
use Rattle.lists.specs.Lists.{padded, word}
use Rattle.lists.specs.ListLaws.{take_part}
use Rattle.format.specs.Geometry.{Disc, sector}
use Rattle.format.proofs.GeometryLaws.{sector_again}
use Rattle.format.specs.Modules.{Module, end_of, bodies, first_body, later_body, later_bodies, sectors_for}
use Rattle.disc.specs.Meaning.{stored_at}
use Rattle.lists.specs.Stores.{sets_append, sets_whole}
use Rattle.modules.specs.Meaning.{PartLength}

-- ---- a whole sector in four stores: link, head, part, zeros

module _ (d : Disc) (n : ℕ) (on : n < length d) where
  -- a store behind a store of the front
  behind : {d₁ d₂ : Disc} (k : ℕ) (xs ys : List ℕ) → length xs ≡ k → d₁ ≡ stored_at d n 0 xs → d₂ ≡ stored_at d₁ n k ys → d₂ ≡ stored_at d n 0 (xs ++ ys)
  behind k xs ys long e₁ e₂ =
      let from : k ≡ 0 + length xs = omega arith in
      e₂
      ∙ ap (λ (x : Disc). stored_at x n k ys) e₁
      ∙ sector_again d n k (sets (sector d n) 0 xs) ys on
      ∙ ap (set d n) (ap (λ (j : ℕ). sets (sets (sector d n) 0 xs) j ys) from ∙ sets_append (sector d n) 0 xs ys)

  pub four_puts : (link head part : List ℕ) (d₁ d₂ d₃ d₄ : Disc) → length (sector d n) ≡ 256 → length link ≡ 2 → length head + length part ≤ 254
      → d₁ ≡ stored_at d n 0 link
      → d₂ ≡ stored_at d₁ n 2 head
      → d₃ ≡ stored_at d₂ n (2 + length head) part
      → d₄ ≡ stored_at d₃ n (2 + length head + length part) (replicate (256 - (2 + length head + length part)) 0)
      → d₄ ≡ set d n (link ++ padded 254 0 (head ++ part))
  four_puts link head part d₁ d₂ d₃ d₄ full two fits e₁ e₂ e₃ e₄ =
      let k : ℕ = 2 + length head + length part in
      let front : List ℕ = (link ++ head) ++ part in
      let zeros : List ℕ = replicate (256 - k) 0 in
      let long-head : length (link ++ head) ≡ 2 + length head = length-append link head ∙ omega arith in
      let long-front : length front ≡ k = length-append (link ++ head) part ∙ omega arith in
      let whole : length (front ++ zeros) ≡ length (sector d n) = length-append front zeros ∙ omega (arith, length-replicate {A = ℕ} (256 - k) 0) in
      let rest : 256 - k ≡ 254 - length (head ++ part) = omega (arith, length-append head part) in
      behind k front zeros long-front (behind (2 + length head) (link ++ head) part long-head (behind 2 link head two e₁ e₂) e₃) e₄
      ∙ ap (set d n)
      (sets_whole (sector d n) (front ++ zeros) whole
      ∙ ap (λ (x : List ℕ). x ++ zeros) (append_assoc link head part)
      ∙ append_assoc link (head ++ part) zeros
      ∙ ap (λ (j : ℕ). link ++ ((head ++ part) ++ replicate j 0)) rest)

-- ---- the body of each sector

module _ {xs : List ℕ} {at most r : ℕ} (p : PartLength xs at most r) (k : ℕ) (e : k ≡ r) where
  part_taken : take k (drop at xs) ≡ take most (drop at xs)
  part_taken = rw (e, p.long) (take_part most (drop at xs))

-- the bytes of `head` and of `part` that the code hands to `put_body`
pub first_part : (m : Module) {r : ℕ} → PartLength m.bytes 0 245 r → (k : ℕ) → k ≡ r
    → padded 254 0 (0xFF ∷ m.page ∷ word m.start ++ word (end_of m) ++ word m.transfer ++ r ∷ take k m.bytes) ≡ first_body m
unfolding first_body
first_part m p k e =
    ap₂ (λ (n : ℕ) (xs : List ℕ). padded 254 0 (0xFF ∷ m.page ∷ word m.start ++ word (end_of m) ++ word m.transfer ++ n ∷ xs))
    p.long (part_taken p k e)

pub later_part : {xs : List ℕ} {at r : ℕ} → PartLength xs at 253 r → (k : ℕ) → k ≡ r
    → padded 254 0 (r ∷ take k (drop at xs)) ≡ later_body (take 253 (drop at xs))
unfolding later_body
later_part p k e = ap₂ (λ (n : ℕ) (ys : List ℕ). padded 254 0 (n ∷ ys)) p.long (part_taken p k e)

pub body_first : (m : Module) → get_or (bodies m) 0 [] ≡ first_body m
unfolding bodies
body_first m = refl

later : (n j : ℕ) (xs : List ℕ) → j < n → get_or (later_bodies n xs) j [] ≡ later_body (take 253 (drop (253 * j) xs))
unfolding later_bodies
later zero j xs h = absurd (omega arith)
later (suc n) zero xs h = refl
later (suc n) (suc j) xs h =
    let e : 253 + 253 * j ≡ 253 * suc j = omega arith in
    later n j (drop 253 xs) (omega arith)
    ∙ ap (λ (ys : List ℕ). later_body (take 253 ys)) (drop-drop (253 * j) 253 xs ∙ ap (λ (k : ℕ). drop k xs) e)

pub body_later : (m : Module) (j : ℕ) → 0 < j → j < sectors_for (length m.bytes)
    → get_or (bodies m) j [] ≡ later_body (take 253 (drop (245 + 253 * (j - 1)) m.bytes))
unfolding bodies
body_later m zero h k = absurd (omega arith)
body_later m (suc j) h k =
    let e : suc j - 1 ≡ j = omega arith in
    later (sectors_for (length m.bytes) - 1) j (drop 245 m.bytes) (omega arith)
    ∙ ap (λ (ys : List ℕ). later_body (take 253 ys)) (drop-drop (253 * j) 245 m.bytes ∙ ap (λ (i : ℕ). drop (245 + 253 * i) m.bytes) (sym e))
