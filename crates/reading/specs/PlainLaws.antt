-- Laws of Plain: the tests sector by sector hold just where `plain` finds a module, and the module's numbers are those of the first sector.
-- Assumes nothing.
use Rattle.std.specs.Prelude.{◌≡◌, refl, Bool, true, false, ◌&&◌, leb}
use Rattle.std.proofs.Math.Path.{sym, ap, ap₂}
use Rattle.std.proofs.Common.{◌∙◌, mod-eq_of_lt, drop-cons}
use Prim.Native.Nat.{ℕ, suc, min, ◌+◌, ◌*◌, ◌/◌, ◌%◌, ◌-◌, ◌≤◌, ◌<◌}
use native.Mathlib.Omega.{arith}
use Rattle.std.proofs.Math.Nat.{add-mul-div_left, add-mul-mod_self_left}
use Rattle.std.proofs.Math.Bool.{cond}
use Rattle.std.proofs.Math.Option.{none, some}
use mathlib.Core.List.{List, [], ◌∷◌, ◌++◌}
use Rattle.std.proofs.Math.ListN.{length, take, drop, replicate, length-append, length-take, length-drop}
use Rattle.std.proofs.Math.Seq.{drop-drop}
use Rattle.std.proofs.Math.Dec.{eqb}
use borrow.Author.Tests.{eq-eqb, ne_eqb, eqb-true, le-leb, leb-true}
use Rattle.lists.specs.Lists.{byte, word, word_at, padded, same_all}
use Rattle.lists.specs.ListLaws.{and_true, true_and, All, done, ◌also◌, same_all_refl, same_all_true}
use Rattle.format.specs.Modules.{Module, end_of, is_module, sectors_for, first_body, later_body, later_bodies, bodies, guessed, plain}
use Rattle.format.specs.ModuleLaws.{IsModule}
use Rattle.format.proofs.ModuleLaws.{module_true, true_module, sectors_fit, bodies_many}
use Rattle.reading.specs.Plain.{size_of, filled, numbered, headed, later_filled, later_bytes}
use Rattle.reading.specs.PartLaws.{part, part_filled, filled_part, first_part, other_parts}

-- two tests that hold in the same cases
both_ways : (a b : Bool) → (a ≡ true → b ≡ true) → (b ≡ true → a ≡ true) → a ≡ b
both_ways true b f g = sym (f refl)
both_ways false true f g = g refl
both_ways false false f g = refl

-- ---- later sectors

-- each of 254 bytes after its link
abbrev pub Long : List (List ℕ) → Type 0
Long bs = All (λ b. length b ≡ 254) bs

later_bytes_long : {bs : List (List ℕ)} → Long bs → length (later_bytes bs) ≡ 253 * length bs
later_bytes_long done = refl
later_bytes_long (◌also◌ {x = b} {xs = bs} h hs) =
    length-append (drop 1 b) (later_bytes bs) ∙ omega (arith, length-drop 1 b, later_bytes_long hs)

-- the first of the sectors that hold what is left, and the others
later_bodies_part : (left : ℕ) (b : List ℕ) (bs : List (List ℕ)) → length b ≡ 254
    → later_bodies (suc (length bs)) (take left (later_bytes (b ∷ bs))) ≡ part left b ∷ later_bodies (length bs) (take (left - 253) (later_bytes bs))
unfolding later_bodies later_body part
later_bodies_part left b bs h =
    let tail : length (drop 1 b) ≡ 253 = length-drop 1 b ∙ omega arith in
    ap₂ (λ (xs ys : List ℕ). padded 254 0 (length xs ∷ xs) ∷ later_bodies (length bs) ys)
    (first_part 253 left (drop 1 b) (later_bytes bs) tail)
    (other_parts 253 left (drop 1 b) (later_bytes bs) tail)
    ∙ ap (λ (n : ℕ). padded n 0 (length (take left (drop 1 b)) ∷ take left (drop 1 b)) ∷ later_bodies (length bs) (take (left - 253) (later_bytes bs))) (sym h)

later_filled_whole : (left : ℕ) {bs : List (List ℕ)} → Long bs → later_bodies (length bs) (take left (later_bytes bs)) ≡ bs → later_filled left bs ≡ true
unfolding later_filled
later_filled_whole left done e = refl
later_filled_whole left (◌also◌ {x = b} {xs = bs} h hs) e =
    let both = sym (later_bodies_part left b bs h) ∙ e in
    let here : part left b ≡ b = cc in
    let there : later_bodies (length bs) (take (left - 253) (later_bytes bs)) ≡ bs = cc in
    true_and (part_filled left b (omega arith) here) (later_filled_whole (left - 253) hs there)

filled_later : (left : ℕ) {bs : List (List ℕ)} → Long bs → later_filled left bs ≡ true → later_bodies (length bs) (take left (later_bytes bs)) ≡ bs
unfolding later_filled later_bodies
filled_later left done e = refl
filled_later left (◌also◌ {x = b} {xs = bs} h hs) e =
    let f = and_true (filled left b) (later_filled (left - 253) bs) e in
    later_bodies_part left b bs h
    ∙ ap₂ (λ (x : List ℕ) (r : List (List ℕ)). x ∷ r) (filled_part left b (omega arith) f.0) (filled_later (left - 253) hs f.1)

-- ---- the first sector

-- the eight bytes before the first sector's length byte
header : Module → List ℕ
header m = 0xFF ∷ m.page ∷ word m.start ++ word (end_of m) ++ word m.transfer

-- the two bytes of sixteen bits
word_of_bytes : (low high : ℕ) → low < 256 → high < 256 → word (low + 256 * high) ≡ low ∷ high ∷ []
word_of_bytes low high l h =
    let lower : (low + 256 * high) % 256 ≡ low = add-mul-mod_self_left low 256 high ∙ mod-eq_of_lt l in
    let upper : (low + 256 * high) / 256 ≡ high = add-mul-div_left low high (omega arith) ∙ omega arith in
    ap₂ (λ (x y : ℕ). x ∷ y ∷ []) lower (ap (λ (q : ℕ). q % 256) upper ∙ mod-eq_of_lt h)

eight_bytes : (b : List ℕ) → 8 ≤ length b
    → b ≡ byte b 0 ∷ byte b 1 ∷ byte b 2 ∷ byte b 3 ∷ byte b 4 ∷ byte b 5 ∷ byte b 6 ∷ byte b 7 ∷ drop 8 b
eight_bytes b h =
    rw (
      ← drop-cons b 7 0 (omega arith),
      ← drop-cons b 6 0 (omega arith),
      ← drop-cons b 5 0 (omega arith),
      ← drop-cons b 4 0 (omega arith),
      ← drop-cons b 3 0 (omega arith),
      ← drop-cons b 2 0 (omega arith),
      ← drop-cons b 1 0 (omega arith),
      ← drop-cons b 0 0 (omega arith),
    )

-- what `headed` tests
record Headed (b : List ℕ) (count : ℕ) : Type 0 where
  marked : byte b 0 ≡ 0xFF
  pages : byte b 1 ≤ 7
  ordered : word_at b 2 ≤ word_at b 4
  many : sectors_for (size_of b) ≡ count
  part : filled (size_of b) (drop 8 b) ≡ true

headed_true : (b : List ℕ) (count : ℕ) → headed b count ≡ true → Headed b count
unfolding headed numbered
headed_true b count e =
    let t1 = eqb (byte b 0) 0xFF in
    let t2 = leb (byte b 1) 7 in
    let t3 = leb (word_at b 2) (word_at b 4) in
    let t4 = eqb (sectors_for (size_of b)) count in
    let h5 = and_true (t1 && t2 && t3 && t4) (filled (size_of b) (drop 8 b)) e in
    let h4 = and_true (t1 && t2 && t3) t4 h5.0 in
    let h3 = and_true (t1 && t2) t3 h4.0 in
    let h2 = and_true t1 t2 h3.0 in
    record { marked = eqb-true _ _ h2.0; pages = leb-true _ _ h2.1; ordered = leb-true _ _ h3.1; many = eqb-true _ _ h4.1; part = h5.1 }

true_headed : (b : List ℕ) (count : ℕ) → Headed b count → headed b count ≡ true
unfolding headed numbered
true_headed b count h = simp (eq-eqb _ _ h.marked, le-leb _ _ h.pages, le-leb _ _ h.ordered, eq-eqb _ _ h.many, h.part)

-- the cases of `headed`
module _ (b : List ℕ) (count : ℕ) where
  pub not_numbered : numbered b ≡ false → headed b count ≡ false
  unfolding headed
  not_numbered n = simp n

  pub other_count : numbered b ≡ true → (sectors_for (size_of b) ≡ count → ⊥) → headed b count ≡ false
  unfolding headed
  other_count n k = simp (n, ne_eqb _ _ k)

  pub by_filled : numbered b ≡ true → sectors_for (size_of b) ≡ count → headed b count ≡ filled (size_of b) (drop 8 b)
  unfolding headed
  by_filled n k = simp (n, eq-eqb _ _ k)

module _ (b : List ℕ) (bs : List (List ℕ)) (long : length b ≡ 254) where
  -- what `first_body` is for the module that such sectors can be those of
  first_body_whole : first_body (guessed (b ∷ bs)) ≡ header (guessed (b ∷ bs)) ++ part (size_of b) (drop 8 b)
  unfolding first_body guessed header part
  first_body_whole =
      let m : Module = guessed (b ∷ bs) in
      let size : ℕ = size_of b in
      let tail : drop 1 (drop 8 b) ≡ drop 9 b = drop-drop 1 8 b in
      let room : length (drop 9 b) ≡ 245 = length-drop 9 b ∙ omega arith in
      let head : List ℕ = take size (drop 9 b) in
      let more : 254 - length (header m ++ length head ∷ head) ≡ length (drop 8 b) - suc (length head) = omega (arith, length-drop 8 b) in
      ap (λ (xs : List ℕ). padded 254 0 (header m ++ length xs ∷ xs)) (first_part 245 size (drop 9 b) (later_bytes bs) room)
      ∙ ap (λ (j : ℕ). header m ++ ((length head ∷ head) ++ replicate j 0)) more
      ∙ ap (λ (xs : List ℕ). header m ++ padded (length (drop 8 b)) 0 (length (take size xs) ∷ take size xs)) (sym tail)

-- ---- the tests hold just where the sectors are those of a module

-- b and bs are the bodies of a first sector and of later ones
module _ (b : List ℕ) (bs : List (List ℕ)) (long : length b ≡ 254) (longs : Long bs) (small : (k : ℕ) → k < 8 → byte b k < 256) where
  room : length (drop 9 b) ≡ 245
  room = length-drop 9 b ∙ omega arith

  -- at most what the sectors have room for
  guessed_long : length (guessed (b ∷ bs)).bytes ≡ min (size_of b) (245 + 253 * length bs)
  unfolding guessed
  guessed_long =
      length-take (size_of b) (drop 9 b ++ later_bytes bs)
      ∙ omega (arith, length-append (drop 9 b) (later_bytes bs), room, later_bytes_long longs)

  later_parts : drop 245 (guessed (b ∷ bs)).bytes ≡ take (size_of b - 245) (later_bytes bs)
  unfolding guessed
  later_parts = other_parts 245 (size_of b) (drop 9 b) (later_bytes bs) room

  -- where the tests hold, the sectors are those of the module
  module _ (h : Headed b (length (b ∷ bs))) where
    size_right : length (guessed (b ∷ bs)).bytes ≡ size_of b
    size_right = omega (arith, guessed_long, (sectors_fit (size_of b)).enough)

    end_right : end_of (guessed (b ∷ bs)) ≡ word_at b 4
    unfolding guessed
    end_right = omega (arith, size_right)

    tests_module : is_module (guessed (b ∷ bs)) ≡ true
    unfolding guessed
    tests_module =
        true_module (guessed (b ∷ bs))
        (record { pages = h.pages; some_byte = omega (arith, size_right); within = omega (arith, size_right, small 4 (omega arith), small 5 (omega arith)) })

    tests_first : first_body (guessed (b ∷ bs)) ≡ b
    unfolding guessed header
    tests_first =
        let m : Module = guessed (b ∷ bs) in
        let start : word m.start ≡ byte b 2 ∷ byte b 3 ∷ [] = word_of_bytes _ _ (small 2 (omega arith)) (small 3 (omega arith)) in
        let end : word (end_of m) ≡ byte b 4 ∷ byte b 5 ∷ [] = ap word end_right ∙ word_of_bytes _ _ (small 4 (omega arith)) (small 5 (omega arith)) in
        let transfer : word m.transfer ≡ byte b 6 ∷ byte b 7 ∷ [] = word_of_bytes _ _ (small 6 (omega arith)) (small 7 (omega arith)) in
        first_body_whole b bs long
        ∙ ap (λ (r : List ℕ). header m ++ r) (filled_part (size_of b) (drop 8 b) (omega (arith, length-drop 8 b)) h.part)
        ∙ ap₂ (λ (s e : List ℕ). 0xFF ∷ m.page ∷ s ++ e ++ word m.transfer ++ drop 8 b) start end
        ∙ ap₂ (λ (f : ℕ) (t : List ℕ). f ∷ m.page ∷ byte b 2 ∷ byte b 3 ∷ byte b 4 ∷ byte b 5 ∷ t ++ drop 8 b) (sym h.marked) transfer
        ∙ sym (eight_bytes b (omega arith))

    tests_bodies : later_filled (size_of b - 245) bs ≡ true → bodies (guessed (b ∷ bs)) ≡ b ∷ bs
    unfolding bodies
    tests_bodies f =
        let n : sectors_for (length (guessed (b ∷ bs)).bytes) - 1 ≡ length bs = omega (arith, ap sectors_for size_right, h.many) in
        ap₂ (λ (x : List ℕ) (r : List (List ℕ)). x ∷ r) tests_first
        (ap₂ later_bodies n later_parts ∙ filled_later (size_of b - 245) longs f)

  -- and where the sectors are those of the module, the tests hold
  module _ (a : IsModule (guessed (b ∷ bs))) (e : bodies (guessed (b ∷ bs)) ≡ b ∷ bs) where
    -- the first sector: the header, and the part after it
    split : header (guessed (b ∷ bs)) ++ part (size_of b) (drop 8 b) ≡ b
    unfolding bodies
    split = let first : first_body (guessed (b ∷ bs)) ≡ b = cc in sym (first_body_whole b bs long) ∙ first

    end_read : word_at b 4 ≡ end_of (guessed (b ∷ bs))
    unfolding header
    end_read =
        let end : ℕ = end_of (guessed (b ∷ bs)) in
        let back : end % 256 + 256 * (end / 256 % 256) ≡ end = omega (arith, a.within, a.some_byte) in
        sym (ap (λ (s : List ℕ). word_at s 4) split) ∙ back

    size_read : size_of b ≡ length (guessed (b ∷ bs)).bytes
    unfolding guessed
    size_read = omega (arith, end_read, a.some_byte)

    bodies_headed : Headed b (length (b ∷ bs))
    unfolding guessed header
    bodies_headed = record {
      marked = sym (ap (λ (s : List ℕ). byte s 0) split);
      pages = a.pages;
      ordered = omega (arith, end_read, a.some_byte);
      many = ap sectors_for size_read ∙ sym (bodies_many (guessed (b ∷ bs))) ∙ ap length e;
      part = part_filled (size_of b) (drop 8 b) (omega (arith, length-drop 8 b)) (ap (drop 8) split);
    }

    bodies_later : later_filled (size_of b - 245) bs ≡ true
    unfolding bodies
    bodies_later =
        let m : Module = guessed (b ∷ bs) in
        let n : length bs ≡ sectors_for (length m.bytes) - 1 = omega (arith, bodies_many m, ap length e) in
        let later : later_bodies (sectors_for (length m.bytes) - 1) (drop 245 m.bytes) ≡ bs = cc in
        later_filled_whole (size_of b - 245) longs (ap₂ later_bodies n (sym later_parts) ∙ later)

  -- where the first sector's tests hold, its numbers are the module's
  pub headed_size : headed b (length (b ∷ bs)) ≡ true → length (guessed (b ∷ bs)).bytes ≡ size_of b
  headed_size e = size_right (headed_true b _ e)

  pub headed_end : headed b (length (b ∷ bs)) ≡ true → end_of (guessed (b ∷ bs)) ≡ word_at b 4
  headed_end e = end_right (headed_true b _ e)

  tests : is_module (guessed (b ∷ bs)) && same_all (bodies (guessed (b ∷ bs))) (b ∷ bs) ≡ headed b (length (b ∷ bs)) && later_filled (size_of b - 245) bs
  tests = both_ways _ _ there back
    where
      there : is_module (guessed (b ∷ bs)) && same_all (bodies (guessed (b ∷ bs))) (b ∷ bs) ≡ true
          → headed b (length (b ∷ bs)) && later_filled (size_of b - 245) bs ≡ true
      there e =
          let h = and_true (is_module (guessed (b ∷ bs))) (same_all (bodies (guessed (b ∷ bs))) (b ∷ bs)) e in
          let a = module_true (guessed (b ∷ bs)) h.0 in
          let same = same_all_true (bodies (guessed (b ∷ bs))) (b ∷ bs) h.1 in
          true_and (true_headed b (length (b ∷ bs)) (bodies_headed a same)) (bodies_later a same)

      back : headed b (length (b ∷ bs)) && later_filled (size_of b - 245) bs ≡ true
          → is_module (guessed (b ∷ bs)) && same_all (bodies (guessed (b ∷ bs))) (b ∷ bs) ≡ true
      back e =
          let h = and_true (headed b (length (b ∷ bs))) (later_filled (size_of b - 245) bs) e in
          let k = headed_true b (length (b ∷ bs)) h.0 in
          true_and (tests_module k) (ap (λ (cs : List (List ℕ)). same_all cs (b ∷ bs)) (tests_bodies k h.1) ∙ same_all_refl (b ∷ bs))

  -- `plain` sector by sector
  pub plain_is : plain (b ∷ bs) ≡ cond (headed b (length (b ∷ bs)) && later_filled (size_of b - 245) bs) (some (guessed (b ∷ bs))) none
  unfolding plain
  plain_is = ap (λ (t : Bool). cond t (some (guessed (b ∷ bs))) none) tests

-- what is read is what the header says, with the bytes that follow
pub plain_guessed : (bs : List (List ℕ)) (m : Module) → plain bs ≡ some m → guessed bs ≡ m
unfolding plain
plain_guessed bs m e = by (is_module (guessed bs) && same_all (bodies (guessed bs)) bs) e
  where
    by : (t : Bool) → cond t (some (guessed bs)) none ≡ some m → guessed bs ≡ m
    by true q = cc
    by false q = cc
