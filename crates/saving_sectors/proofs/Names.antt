-- The law of a name's nine bytes one by one. The code copies the name whole now; the law stands, though no proof cites it.
-- Assumes nothing.
use Rattle.std.specs.Prelude.{◌≡◌, ℕ, zero, suc, ◌+◌, ◌≤◌, List, [], ◌∷◌, map, length, drop}
use Rattle.std.proofs.Common.{sym, ap, ◌∙◌, arith, drop_of_length-le, drop-cons}
use Rattle.lists.specs.Lists.{byte, range}

bytes_from : (xs : List ℕ) (k j : ℕ) → j + k ≡ length xs → map (byte xs) (range j k) ≡ drop j xs
bytes_from xs zero j e = let over : length xs ≤ j = omega arith in sym (drop_of_length-le xs over)
bytes_from xs (suc k) j e = ap (λ (r : List ℕ). byte xs j ∷ r) (bytes_from xs k (suc j) (omega arith)) ∙ sym (drop-cons xs j 0 (omega arith))

pub nine_bytes_long : (xs : List ℕ) → length xs ≡ 9
    → byte xs 0 ∷ byte xs 1 ∷ byte xs 2 ∷ byte xs 3 ∷ byte xs 4 ∷ byte xs 5 ∷ byte xs 6 ∷ byte xs 7 ∷ byte xs 8 ∷ [] ≡ xs
nine_bytes_long xs e = bytes_from xs 9 0 (sym e)
