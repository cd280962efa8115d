-- Functions on lists, bytes and sixteen-bit numbers that the definitions are written with. All but `times` compute, so they are `abbrev`s.
-- Assumes nothing.
use Rattle.std.specs.Prelude.{◌≡◌, ℕ, zero, suc, ◌+◌, ◌*◌, ◌/◌, ◌%◌, ◌-◌, ◌≤◌, ◌<◌, Bool, true, false, not, ◌&&◌, ◌||◌, cond, List, [], ◌∷◌, ◌++◌, length, get_or, drop, replicate, eqb}
use Rattle.std.proofs.Math.Option.{Option, none, some}

-- ---- tests on lists

-- whether there is a value
abbrev pub is_some : {A : Type 0} → Option A → Bool
is_some none = false
is_some (some a) = true

-- every element passes the test
abbrev pub all : {A : Type 0} → (A → Bool) → List A → Bool
all p [] = true
all p (x ∷ xs) = p x && all p xs

-- some element passes the test
abbrev pub any : {A : Type 0} → (A → Bool) → List A → Bool
any p [] = false
any p (x ∷ xs) = p x || any p xs

-- n stands in the list
abbrev pub elem : ℕ → List ℕ → Bool
elem n xs = any (eqb n) xs

-- no number stands in the list twice
abbrev pub distinct : List ℕ → Bool
distinct [] = true
distinct (x ∷ xs) = not (elem x xs) && distinct xs

-- the same bytes
abbrev pub same : List ℕ → List ℕ → Bool
same [] [] = true
same [] (y ∷ ys) = false
same (x ∷ xs) [] = false
same (x ∷ xs) (y ∷ ys) = eqb x y && same xs ys

-- the same lists of bytes
abbrev pub same_all : List (List ℕ) → List (List ℕ) → Bool
same_all [] [] = true
same_all [] (y ∷ ys) = false
same_all (x ∷ xs) [] = false
same_all (x ∷ xs) (y ∷ ys) = same x y && same_all xs ys

-- ---- lists from lists

-- x in front, where the test passed
abbrev pub cons_if : {A : Type 0} → Bool → A → List A → List A
cons_if true x xs = x ∷ xs
cons_if false x xs = xs

-- those that pass the test, in order
abbrev pub filter : {A : Type 0} → (A → Bool) → List A → List A
filter p [] = []
filter p (x ∷ xs) = cons_if (p x) x (filter p xs)

-- n numbers from a on
abbrev pub range : ℕ → ℕ → List ℕ
range a zero = []
range a (suc n) = a ∷ range (suc a) n

-- the lists one after the other
abbrev pub joined : {A : Type 0} → List (List A) → List A
joined [] = []
joined (x ∷ xs) = x ++ joined xs

-- xs, and v after it up to the length n
abbrev pub padded : ℕ → ℕ → List ℕ → List ℕ
padded n v xs = xs ++ replicate (n - length xs) v

-- xs with ys in place of its front
abbrev pub front : List ℕ → List ℕ → List ℕ
front ys xs = ys ++ drop (length ys) xs

-- ---- numbers from lists

-- all numbers together
abbrev pub sum : List ℕ → ℕ
sum [] = 0
sum (x ∷ xs) = x + sum xs

-- how often n stands in the list
unfoldable pub times : ℕ → List ℕ → ℕ
times n xs = length (filter (eqb n) xs)

-- each of 1 to N - 1 once, and no other
pub record Once (N : ℕ) (xs : List ℕ) : Type 0 where
  pub inside : (n : ℕ) → 0 < n → n < N → times n xs ≡ 1
  pub zeroth : times 0 xs ≡ 0
  pub outside : (n : ℕ) → N ≤ n → times n xs ≡ 0

-- where n first stands in the list, from 0 on; the list's length if nowhere
abbrev pub index_of : ℕ → List ℕ → ℕ
index_of n [] = 0
index_of n (x ∷ xs) = cond (eqb n x) 0 (suc (index_of n xs))

-- the last element, or d
abbrev pub last_or : ℕ → List ℕ → ℕ
last_or d [] = d
last_or d (x ∷ xs) = last_or x xs

-- ---- bytes

-- byte k, or 0 past the end
abbrev pub byte : List ℕ → ℕ → ℕ
byte s k = get_or s k 0

-- sixteen bits as two bytes, low first
abbrev pub word : ℕ → List ℕ
word n = n % 256 ∷ n / 256 % 256 ∷ []

-- the sixteen bits whose low byte stands at k
abbrev pub word_at : List ℕ → ℕ → ℕ
word_at s k = byte s k + 256 * byte s (k + 1)
