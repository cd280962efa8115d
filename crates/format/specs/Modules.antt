-- Document 01, 'Layouts (000)': load modules, and the bytes of the sectors that hold one.
-- Assumes nothing.
use Rattle.std.specs.Prelude.{ℕ, zero, suc, ◌+◌, ◌/◌, ◌-◌, Bool, ◌&&◌, cond, List, [], ◌∷◌, ◌++◌, map, length, take, drop, leb}
use Rattle.std.proofs.Math.Option.{Option, none, some}
use Rattle.lists.specs.Lists.{byte, word, word_at, joined, same_all, padded}

-- "A file holds a load module: page 0 to 7, start and transfer address (16 bits each), and L bytes"; L is the length of `bytes`.
pub record Module : Type 0 where
  pub page : ℕ
  pub start : ℕ
  pub transfer : ℕ
  pub bytes : List ℕ

-- "Its end address is start + L - 1."
abbrev pub end_of : Module → ℕ
end_of m = m.start + length m.bytes - 1

-- "page 0 to 7 .. 1 ≤ L ≤ 65,536 - start": what a stored module is
unfoldable pub is_module : Module → Bool
is_module m = leb m.page 7 && leb 1 (length m.bytes) && leb (m.start + length m.bytes) 65536

-- Refusal 7, "page or L out of range": what a save may store
unfoldable pub storable : Module → Bool
storable m = is_module m

-- "a module takes 1 sector for L ≤ 245, otherwise 1 + (L - 245)/253 rounded up"
unfoldable pub sectors_for : ℕ → ℕ
sectors_for L = cond (leb L 245) 1 (1 + (L - 245 + 252) / 253)

-- "First sector, after the link: $FF, page, start, end, transfer (each low first), one length byte, then up to 245 bytes";
-- "the rest of the last is zeros"
unfoldable pub first_body : Module → List ℕ
first_body m =
    let head = take 245 m.bytes in
    padded 254 0 (0xFF ∷ m.page ∷ word m.start ++ word (end_of m) ++ word m.transfer ++ length head ∷ head)

-- "Later sectors: link, length byte, up to 253 bytes."
unfoldable pub later_body : List ℕ → List ℕ
later_body xs = padded 254 0 (length xs ∷ xs)

-- "Each sector is filled before the next"
unfoldable pub later_bodies : ℕ → List ℕ → List (List ℕ)
later_bodies zero xs = []
later_bodies (suc n) xs = later_body (take 253 xs) ∷ later_bodies n (drop 253 xs)

-- the 254 bytes after the link of each of a module's sectors
unfoldable pub bodies : Module → List (List ℕ)
bodies m = first_body m ∷ later_bodies (sectors_for (length m.bytes) - 1) (drop 245 m.bytes)

-- The one module that such bytes can be those of: what the header says, with the bytes that follow.
unfoldable pub guessed : List (List ℕ) → Module
guessed [] = record { page = 0; start = 0; transfer = 0; bytes = [] }
guessed (b ∷ bs) =
    record {
      page = byte b 1;
      start = word_at b 2;
      transfer = word_at b 6;
      bytes = take (word_at b 4 + 1 - word_at b 2) (drop 9 b ++ joined (map (drop 1) bs));
    }

-- Refusal 9, "links apart, the file's sectors aren't byte for byte those of any load module above": the module whose sectors these
-- are, or none. (the laws `plain_bodies` and `plain_only`: every module is found, and nothing else)
unfoldable pub plain : List (List ℕ) → Option Module
plain bs = let m = guessed bs in cond (is_module m && same_all (bodies m) bs) (some m) none
