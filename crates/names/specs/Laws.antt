-- Laws about letters, padding and the first dot that the proofs of `names` cite.
-- Assumes nothing.
use Rattle.std.specs.Prelude.{ℕ, suc, ◌+◌, ◌-◌, ◌<◌, ◌≤◌, ◌≡◌, refl, Bool, true, ◌&&◌, cond}
use Rattle.std.specs.Prelude.{List, [], ◌∷◌, Some, None, Ok, Err, ◌==◌, position, length, take, drop, replicate}
use Rattle.std.proofs.Common.{arith, append_assoc}
use Rattle.std.proofs.Math.Option.{Option, none, some}
use Rattle.std.proofs.lemmas.List.{take_at, drop_at, drop-replicate, replicate-append-replicate}
use Rattle.std.specs.List.{list_all, position_or_len}
use Rattle.std.proofs.lemmas.List.Recursion.{same_from_clauses}
use Rattle.lists.specs.Lists.{all, padded}
use Rattle.lists.specs.ListLaws.{padded_long}
use Rattle.refusals.specs.declared.Refusal.{Refusal}
use borrow.Rule.Slice.PartMut.{put_mid}
use Rattle.std.proofs.lemmas.Grind.{common_steps}
use Rattle.names.specs.declared.Name.{Name}
use Rattle.names.specs.Answer.{parsed, parsed_cond}
use Rattle.format.proofs.NameLaws.{letters_true}
use Rattle.format.specs.Names.{letters, dot, space, before_dot, after_dot, nine_bytes, with_extension, stored}

-- ---- letters and lengths

pub all_is : (p : ℕ → Bool) (xs : List ℕ) → list_all p xs ≡ all p xs
all_is p = same_from_clauses (list_all p) (all p) (λ x b. p x && b) refl (λ x xs. refl) (λ x xs. refl)

pub letters_few : (lo hi : ℕ) (xs : List ℕ) → letters lo hi xs ≡ true → length xs ≤ hi
letters_few lo hi xs e = (letters_true lo hi xs e).high

-- ---- a name, and an extension copied over its end

padded_name : (n : List ℕ) → length n ≤ 6 → padded 9 space n ≡ nine_bytes n []
padded_name n few =
    let rest : 9 - length n ≡ 6 - length n + 3 = omega arith in
    simp (rest, append_assoc, replicate-append-replicate)

-- refused for the name
pub name_refused : (n e : List ℕ) (r : Refusal) → Err r ≡ parsed (cond (letters 1 6 n) (some (padded 9 space n)) none)
    → Err r ≡ parsed (with_extension n (some e))
unfolding with_extension
name_refused n e r is = grind arith

-- else its bytes, with the extension in place of the last three
pub extension_stored : (n e ys : List ℕ) (k : ℕ) (name : Name) → Ok name ≡ parsed (cond (letters 1 6 n) (some (padded 9 space n)) none)
    → letters 1 3 e ≡ true → ys ≡ e → k ≡ length e → Ok (record { bytes = put_mid 6 k name.bytes ys }) ≡ parsed (with_extension n (some e))
unfolding with_extension
extension_stored n e ys k name is last new long =
    let good = parsed_cond (letters 1 6 n) (padded 9 space n) name is in
    let few = letters_few 1 6 n good.0 in
    let six = padded_long 6 space n few in
    let front = take_at (padded 6 space n) (replicate 3 space) 6 six in
    let back = drop_at (padded 6 space n) (replicate 3 space) 6 six in
    simp (good.0, last, good.1, padded_name n few, front, back, drop-replicate, new, long)

-- what `with_extension` is proved by
pub ruleset extensions = (letters_few, name_refused, extension_stored)

-- ---- the parts of a typed name

pub before_dot_at : (s : List ℕ) → length (before_dot s) ≡ position_or_len (λ b. b == dot) s
unfolding before_dot
before_dot_at [] = refl
before_dot_at (b ∷ bs) = grind (arith, before_dot_at bs)

before_dot_take : (s : List ℕ) → before_dot s ≡ take (length (before_dot s)) s
unfolding before_dot
before_dot_take [] = refl
before_dot_take (b ∷ bs) = grind (arith, common_steps, before_dot_take bs)

after_dot_some : (s : List ℕ) → length (before_dot s) < length s → after_dot s ≡ some (drop (suc (length (before_dot s))) s)
unfolding before_dot after_dot
after_dot_some [] h = absurd (omega arith)
after_dot_some (b ∷ bs) h = grind (arith, common_steps, after_dot_some bs)

after_dot_none : (s : List ℕ) → length s ≤ length (before_dot s) → after_dot s ≡ none
unfolding before_dot after_dot
after_dot_none [] h = refl
after_dot_none (b ∷ bs) h = grind (arith, common_steps, after_dot_none bs)

-- ---- what is stored, by the index of the first dot
pub stored_dotted : (s : List ℕ) (d : ℕ) → Some d ≡ position (λ b. b == dot) s → stored s ≡ with_extension (take d s) (some (drop (d + 1) s))
unfolding stored
stored_dotted s d at = grind (arith, common_steps, before_dot_at s, before_dot_take s, after_dot_some s)

pub stored_plain : (s : List ℕ) → None ≡ position (λ b. b == dot) s → stored s ≡ cond (letters 1 6 s) (some (padded 9 space s)) none
unfolding stored with_extension
stored_plain s at = grind (arith, common_steps, before_dot_at s, before_dot_take s, after_dot_none s, letters_few, padded_name)

name_long : (n : List ℕ) (o : Option (List ℕ)) → 6 < length n → with_extension n o ≡ none
unfolding with_extension
name_long n none long = grind (arith, letters_few)
name_long n (some e) long = grind (arith, letters_few)

extension_long : (n e : List ℕ) → 3 < length e → with_extension n (some e) ≡ none
unfolding with_extension
extension_long n e long = grind (arith, letters_few)

-- 6, the dot and 3 are 10
pub stored_long : (s : List ℕ) → 10 < length s → stored s ≡ none
unfolding stored
stored_long s long = grind (arith, common_steps, name_long, extension_long, after_dot_some s)

-- what `file_name` is proved by
pub ruleset parts = (stored_dotted, stored_plain, stored_long)
