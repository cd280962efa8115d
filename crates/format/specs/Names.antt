-- Document 01, 'Layouts': file and disc names, as typed and as stored. The only file that knows the alphabet, the dot and the padding.
-- Assumes nothing.
use Rattle.std.specs.Prelude.{ℕ, Bool, true, ◌&&◌, ◌||◌, cond, List, [], ◌∷◌, ◌++◌, length, take, drop, eqb, leb}
use Rattle.std.proofs.Math.Option.{Option, none, some}
use Rattle.lists.specs.Lists.{all, padded, byte}

-- "A-Z and 0-9": document 01 has no word for both; a letter here is either.
unfoldable pub letter : ℕ → Bool
letter b = leb 65 b && leb b 90 || leb 48 b && leb b 57

-- the dot of a typed name
abbrev pub dot : ℕ
dot = 46

-- "Spaces (hex 20) on the right decide."
abbrev pub space : ℕ
space = 0x20

-- lo to hi letters
unfoldable pub letters : ℕ → ℕ → List ℕ → Bool
letters lo hi xs = leb lo (length xs) && leb (length xs) hi && all letter xs

-- what stands before the first dot
unfoldable pub before_dot : List ℕ → List ℕ
before_dot [] = []
before_dot (b ∷ bs) = cond (eqb b dot) [] (b ∷ before_dot bs)

-- what stands after it, if there is one
unfoldable pub after_dot : List ℕ → Option (List ℕ)
after_dot [] = none
after_dot (b ∷ bs) = cond (eqb b dot) (some bs) (after_dot bs)

-- "6 name, 3 extension", each padded. "The dot isn't stored."
abbrev pub nine_bytes : List ℕ → List ℕ → List ℕ
nine_bytes n e = padded 6 space n ++ padded 3 space e

-- "1 to 6 of A-Z and 0-9, then nothing, or a dot and 1 to 3 of the same."
unfoldable pub with_extension : List ℕ → Option (List ℕ) → Option (List ℕ)
with_extension n none = cond (letters 1 6 n) (some (nine_bytes n [])) none
with_extension n (some e) = cond (letters 1 6 n && letters 1 3 e) (some (nine_bytes n e)) none

-- The nine bytes that a typed file name is stored as, or none: refusal 2.
unfoldable pub stored : List ℕ → Option (List ℕ)
stored typed = with_extension (before_dot typed) (after_dot typed)

-- "name of 1 to 9 of A-Z and 0-9", "name padded with spaces": the nine bytes of a blank disc's name, or none: refusal 2.
unfoldable pub disc_name : List ℕ → Option (List ℕ)
disc_name typed = cond (letters 1 9 typed) (some (padded 9 space typed)) none

-- letters, then spaces to the end
unfoldable pub spaced : List ℕ → Bool
spaced [] = true
spaced (b ∷ bs) = cond (letter b) (spaced bs) (all (eqb space) (b ∷ bs))

-- Rule 3's "padded legal name": both parts are letters and then spaces, and the name's begins with a letter.
-- (the laws `stored_legal` and `legal_typed`: these are just the nine bytes that some typed name is stored as)
unfoldable pub legal_stored : List ℕ → Bool
legal_stored nine = letter (byte nine 0) && spaced (take 6 nine) && spaced (drop 6 nine)
