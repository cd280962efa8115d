-- Laws of Modules: the sizes of a module's sectors, and refusal 9 in both directions: the sectors of a module are read back as it, and what
-- is read is a module with just these sectors.
-- Assumes nothing.
use Rattle.std.specs.Prelude.{◌≡◌, refl, ℕ, zero, suc, ◌+◌, ◌*◌, ◌/◌, ◌%◌, ◌-◌, ◌≤◌, ◌<◌, Bool, true, false, ◌&&◌, cond, List, [], ◌∷◌, ◌++◌, map, length, take, drop, replicate, leb}
use Rattle.std.proofs.Common.{sym, ap, ap₂, ◌∙◌, arith, length-take, length-drop, le-leb, leb-true, leb-false}
use Rattle.std.proofs.Math.Nat.{suc-sub-suc}
use Rattle.std.proofs.Math.Option.{none, some}
use Rattle.std.proofs.lemmas.Bool.{lt-leb}
use Rattle.lists.specs.Lists.{joined, word, same_all}
use Rattle.lists.specs.ListLaws.{and_true, true_and, All, done, ◌also◌, same_all_refl, same_all_true, padded_long}
use Rattle.format.specs.Modules.{Module, end_of, is_module, storable, sectors_for, later_body, later_bodies, first_body, bodies, guessed, plain}
use Rattle.format.specs.ModuleLaws.{IsModule, Fitting}

-- ---- what a module is

pub module_true : (m : Module) → is_module m ≡ true → IsModule m
unfolding is_module
module_true m e =
    let h = and_true (leb m.page 7 && leb 1 (length m.bytes)) (leb (m.start + length m.bytes) 65536) e in
    let k = and_true (leb m.page 7) (leb 1 (length m.bytes)) h.0 in
    record { pages = leb-true _ _ k.0; some_byte = leb-true _ _ k.1; within = leb-true _ _ h.1 }

pub true_module : (m : Module) → IsModule m → is_module m ≡ true
unfolding is_module
true_module m a = true_and (true_and (le-leb _ _ a.pages) (le-leb _ _ a.some_byte)) (le-leb _ _ a.within)

-- refusal 7: what a save may store is a module
pub storable_module : (m : Module) → storable m ≡ true → is_module m ≡ true
unfolding storable
storable_module m e = e

-- ---- how many sectors, and how long

pub sectors_one : (L : ℕ) → L ≤ 245 → sectors_for L ≡ 1
unfolding sectors_for
sectors_one L h = simp (le-leb L 245 h)

pub sectors_more : (L : ℕ) → 245 < L → sectors_for L ≡ 1 + (L - 245 + 252) / 253
unfolding sectors_for
sectors_more L h = simp (lt-leb L 245 h)

pub sectors_fit : (L : ℕ) → Fitting L (sectors_for L)
unfolding sectors_for
sectors_fit L = case (leb L 245) refl
  where
    case : (b : Bool) → leb L 245 ≡ b → Fitting L (cond b 1 (1 + (L - 245 + 252) / 253))
    case true e = record { some_sector = omega arith; enough = omega (arith, leb-true L 245 e); no_more = λ h. absurd (omega arith) }
    case false e = let l = leb-false L 245 e in record { some_sector = omega arith; enough = omega arith; no_more = λ h. omega arith }

later_254 : (n : ℕ) (xs : List ℕ) → All (λ b. length b ≡ 254) (later_bodies n xs)
unfolding later_bodies later_body
later_254 zero xs = done
later_254 (suc n) xs = padded_long 254 0 (length (take 253 xs) ∷ take 253 xs) (omega (arith, length-take 253 xs)) also later_254 n (drop 253 xs)

later_many : (n : ℕ) (xs : List ℕ) → length (later_bodies n xs) ≡ n
unfolding later_bodies
later_many zero xs = refl
later_many (suc n) xs = ap suc (later_many n (drop 253 xs))

pub bodies_254 : (m : Module) → All (λ b. length b ≡ 254) (bodies m)
unfolding bodies first_body
bodies_254 m =
    padded_long 254 0 (0xFF ∷ m.page ∷ word m.start ++ word (end_of m) ++ word m.transfer ++ length (take 245 m.bytes) ∷ take 245 m.bytes)
    (omega (arith, length-take 245 m.bytes))
    also later_254 _ (drop 245 m.bytes)

pub bodies_many : (m : Module) → length (bodies m) ≡ sectors_for (length m.bytes)
unfolding bodies
bodies_many m = omega (arith, later_many (sectors_for (length m.bytes) - 1) (drop 245 m.bytes), (sectors_fit (length m.bytes)).some_sector)

-- ---- what is saved is read back

-- the bytes of a part that is filled up with zeros, then the rest
filled : (k : ℕ) (xs ys : List ℕ) → take (length (drop k xs)) ys ≡ drop k xs
    → take (length xs) (take k xs ++ replicate (k - length (take k xs)) 0 ++ ys) ≡ xs
filled zero xs ys h = h
filled (suc k) [] ys h = refl
filled (suc k) (x ∷ xs) ys h =
    ap (λ (j : ℕ). x ∷ take (length xs) (take k xs ++ replicate j 0 ++ ys)) (suc-sub-suc k (length (take k xs)))
    ∙ ap (λ (r : List ℕ). x ∷ r) (filled k xs ys h)

later : (n : ℕ) (xs : List ℕ) → length xs ≤ 253 * n → take (length xs) (joined (map (drop 1) (later_bodies n xs))) ≡ xs
unfolding later_bodies later_body
later zero [] h = refl
later zero (x ∷ xs) h = absurd (omega arith)
later (suc n) xs h =
    let rest : length (drop 253 xs) ≤ 253 * n = omega (arith, length-drop 253 xs) in
    let behind : List ℕ = joined (map (drop 1) (later_bodies n (drop 253 xs))) in
    ap (λ (j : ℕ). take (length xs) (take 253 xs ++ replicate j 0 ++ behind)) (suc-sub-suc 253 (length (take 253 xs)))
    ∙ filled 253 xs behind (later n (drop 253 xs) rest)

word_back : (n : ℕ) → n < 65536 → n % 256 + 256 * (n / 256 % 256) ≡ n
word_back n h = omega arith

guess_right : (m : Module) → IsModule m → m.transfer < 65536 → guessed (bodies m) ≡ m
unfolding guessed bodies first_body
guess_right m a h =
    let L : ℕ = length m.bytes in
    let s : m.start % 256 + 256 * (m.start / 256 % 256) ≡ m.start = word_back m.start (omega arith) in
    let e : end_of m % 256 + 256 * (end_of m / 256 % 256) ≡ end_of m = word_back (end_of m) (omega arith) in
    let t : m.transfer % 256 + 256 * (m.transfer / 256 % 256) ≡ m.transfer = word_back m.transfer h in
    let n : ℕ = sectors_for L - 1 in
    let ys : List ℕ = joined (map (drop 1) (later_bodies n (drop 245 m.bytes))) in
    let size : end_of m % 256 + 256 * (end_of m / 256 % 256) + 1 - (m.start % 256 + 256 * (m.start / 256 % 256)) ≡ L = omega arith in
    let room : 254 - (suc (suc (suc (suc (suc (suc (suc (suc (suc (length (take 245 m.bytes))))))))))) ≡ 245 - length (take 245 m.bytes) = omega arith in
    let short : length (drop 245 m.bytes) ≤ 253 * n = omega (arith, length-drop 245 m.bytes, (sectors_fit L).enough) in
    let got : take (end_of m % 256 + 256 * (end_of m / 256 % 256) + 1 - (m.start % 256 + 256 * (m.start / 256 % 256)))
    (take 245 m.bytes ++ replicate (254 - (suc (suc (suc (suc (suc (suc (suc (suc (suc (length (take 245 m.bytes)))))))))))) 0 ++ ys) ≡ m.bytes =
    ap₂ (λ (a b : ℕ). take a (take 245 m.bytes ++ replicate b 0 ++ ys)) size room ∙ filled 245 m.bytes ys (later n (drop 245 m.bytes) short) in
    λ i. record { page = m.page; start = s i; transfer = t i; bytes = got i }

-- the sectors of a module are read back as it
pub plain_bodies : (m : Module) → m.transfer < 65536 → is_module m ≡ true → plain (bodies m) ≡ some m
unfolding plain
plain_bodies m h a =
    ap (λ (g : Module). cond (is_module g && same_all (bodies g) (bodies m)) (some g) none) (guess_right m (module_true m a) h)
    ∙ ap (λ (b : Bool). cond b (some m) none) (true_and a (same_all_refl (bodies m)))

-- and what is read is a module whose sectors these are
pub plain_only : (bs : List (List ℕ)) (m : Module) → plain bs ≡ some m → (is_module m ≡ true) × (bodies m ≡ bs)
unfolding plain
plain_only bs m p = case (is_module (guessed bs) && same_all (bodies (guessed bs)) bs) refl p
  where
    case : (b : Bool) → is_module (guessed bs) && same_all (bodies (guessed bs)) bs ≡ b → cond b (some (guessed bs)) none ≡ some m
        → (is_module m ≡ true) × (bodies m ≡ bs)
    case true e q =
        let is : guessed bs ≡ m = cc in
        let h = and_true (is_module (guessed bs)) (same_all (bodies (guessed bs)) bs) e in
        (ap is_module (sym is) ∙ h.0, ap bodies (sym is) ∙ same_all_true (bodies (guessed bs)) bs h.1)
    case false e q = let z : ◌≡◌ {A = ℕ} 0 1 = cc in absurd (omega arith)
