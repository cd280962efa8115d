-- Laws of Names: what is stored is nine bytes and legal, and every nine legal bytes can be typed.
-- Assumes nothing.
use Rattle.std.specs.Prelude.{◌≡◌, refl, Bool, true, false, ◌&&◌, cond, take, drop, replicate, eqb, leb}
use Rattle.std.proofs.Common.{sym, ap, ap₂, ◌∙◌, arith, length-append, length-take, length-drop, take-append-drop, take_at, drop_at, get_or-take, leb-true, le-leb, ne_eqb, eqb-true}
use Prim.Native.Nat.{ℕ, zero, suc, ◌-◌, ◌≤◌}
use Rattle.std.proofs.lemmas.Bool.{false≢true}
use Rattle.std.proofs.Math.Option.{Option, none, some}
use mathlib.Core.List.{List, [], ◌∷◌, ◌++◌, append_assoc}
use Rattle.std.proofs.Math.ListN.{length}
use Rattle.lists.specs.Lists.{all, padded, byte}
use Rattle.lists.specs.ListLaws.{and_true, true_and, padded_long}
use Rattle.format.specs.Names.{letter, letters, dot, space, before_dot, after_dot, nine_bytes, with_extension, stored, spaced, legal_stored}
use Rattle.format.specs.NameLaws.{Letters, Made}

-- ---- lo to hi letters

pub letters_true : (lo hi : ℕ) (xs : List ℕ) → letters lo hi xs ≡ true → Letters lo hi xs
unfolding letters
letters_true lo hi xs e =
    let h = and_true (leb lo (length xs) && leb (length xs) hi) (all letter xs) e in
    let k = and_true (leb lo (length xs)) (leb (length xs) hi) h.0 in
    record { low = leb-true lo (length xs) k.0; high = leb-true (length xs) hi k.1; each = h.1 }

pub true_letters : (lo hi : ℕ) (xs : List ℕ) → Letters lo hi xs → letters lo hi xs ≡ true
unfolding letters
true_letters lo hi xs l = true_and (true_and (le-leb lo (length xs) l.low) (le-leb (length xs) hi l.high)) l.each

-- ---- what is stored

picked : (c : Bool) (a nine : List ℕ) → cond c (some a) none ≡ some nine → (c ≡ true) × (a ≡ nine)
picked true a nine p = (refl, cc)
picked false a nine p = let z : ◌≡◌ {A = ℕ} 0 1 = cc in absurd (omega arith)

made_of : (n : List ℕ) (o : Option (List ℕ)) (nine : List ℕ) → with_extension n o ≡ some nine → Made nine
unfolding with_extension
made_of n none nine p =
    let q = picked (letters 1 6 n) (nine_bytes n []) nine p in
    let none_at_all : Letters 0 3 [] = record { low = omega arith; high = omega arith; each = refl } in
    record { name = n; extension = []; is = sym q.1; of_name = letters_true 1 6 n q.0; of_extension = none_at_all }
made_of n (some e) nine p =
    let q = picked (letters 1 6 n && letters 1 3 e) (nine_bytes n e) nine p in
    let h = and_true (letters 1 6 n) (letters 1 3 e) q.0 in
    let w = letters_true 1 3 e h.1 in
    record {
      name = n;
      extension = e;
      is = sym q.1;
      of_name = letters_true 1 6 n h.0;
      of_extension = record { low = omega arith; high = w.high; each = w.each };
    }

pub made : (typed nine : List ℕ) → stored typed ≡ some nine → Made nine
unfolding stored
made typed nine p = made_of (before_dot typed) (after_dot typed) nine p

all_spaces : (k : ℕ) → all (eqb space) (replicate k space) ≡ true
all_spaces zero = refl
all_spaces (suc k) = all_spaces k

spaced_spaces : (k : ℕ) → spaced (replicate k space) ≡ true
unfolding spaced letter
spaced_spaces zero = refl
spaced_spaces (suc k) = all_spaces k

spaced_letters : (xs : List ℕ) (k : ℕ) → all letter xs ≡ true → spaced (xs ++ replicate k space) ≡ true
unfolding spaced
spaced_letters [] k h = spaced_spaces k
spaced_letters (x ∷ xs) k h =
    let w = and_true (letter x) (all letter xs) h in
    ap (λ (c : Bool). cond c (spaced (xs ++ replicate k space)) (all (eqb space) (x ∷ xs ++ replicate k space))) w.0 ∙ spaced_letters xs k w.1

head_letter : (xs ys : List ℕ) → 1 ≤ length xs → all letter xs ≡ true → letter (byte (xs ++ ys) 0) ≡ true
head_letter [] ys h e = absurd (omega arith)
head_letter (x ∷ xs) ys h e = (and_true (letter x) (all letter xs) e).0

module _ (nine : List ℕ) (m : Made nine) where
  six : length (padded 6 space m.name) ≡ 6
  six = padded_long 6 space m.name m.of_name.high

  pub made_long : length nine ≡ 9
  made_long =
      ap length m.is ∙ length-append (padded 6 space m.name) (padded 3 space m.extension)
      ∙ omega (arith, six, padded_long 3 space m.extension m.of_extension.high)

  pub made_legal : legal_stored nine ≡ true
  unfolding legal_stored
  made_legal =
      let front : List ℕ = padded 6 space m.name in
      let back : List ℕ = padded 3 space m.extension in
      rw m.is (true_and (true_and
      (ap (λ (r : List ℕ). letter (byte r 0)) (append_assoc m.name (replicate (6 - length m.name) space) back)
      ∙ head_letter m.name _ m.of_name.low m.of_name.each)
      (ap spaced (take_at front back 6 six) ∙ spaced_letters m.name (6 - length m.name) m.of_name.each))
      (ap spaced (drop_at front back 6 six) ∙ spaced_letters m.extension (3 - length m.extension) m.of_extension.each))

pub stored_nine : (typed nine : List ℕ) → stored typed ≡ some nine → length nine ≡ 9
stored_nine typed nine p = made_long nine (made typed nine p)

-- a typed name is stored as a legal one
pub stored_legal : (typed nine : List ℕ) → stored typed ≡ some nine → legal_stored nine ≡ true
stored_legal typed nine p = made_legal nine (made typed nine p)

-- ---- and what is legal can be typed

-- letters, then spaces
record Split (xs : List ℕ) : Type 0 where
  front : List ℕ
  is : xs ≡ padded (length xs) space front
  few : length front ≤ length xs
  each : all letter front ≡ true

all_blank : (xs : List ℕ) → all (eqb space) xs ≡ true → xs ≡ replicate (length xs) space
all_blank [] h = refl
all_blank (x ∷ xs) h =
    let w = and_true (eqb space x) (all (eqb space) xs) h in
    ap₂ (λ (a : ℕ) (r : List ℕ). a ∷ r) (sym (eqb-true space x w.0)) (all_blank xs w.1)

split_of : (xs : List ℕ) → spaced xs ≡ true → Split xs
unfolding spaced
split_of [] h = record { front = []; is = refl; few = omega arith; each = refl }
split_of (x ∷ xs) h = case (letter x) refl h (split_of xs)
  where
    case : (b : Bool) → letter x ≡ b → cond b (spaced xs) (all (eqb space) (x ∷ xs)) ≡ true → (spaced xs ≡ true → Split xs) → Split (x ∷ xs)
    case true e k r =
        let w = r k in
        let less : length xs - length w.front ≡ suc (length xs) - suc (length w.front) = omega arith in
        record {
          front = x ∷ w.front;
          is = ap (λ (t : List ℕ). x ∷ t) w.is ∙ ap (λ (j : ℕ). x ∷ w.front ++ replicate j space) less;
          few = omega (arith, w.few);
          each = true_and e w.each;
        }
    case false e k r =
        let whole : suc (length xs) ≡ suc (length xs) - 0 = omega arith in
        record { front = []; is = all_blank (x ∷ xs) k ∙ ap (λ (j : ℕ). replicate j space) whole; few = omega arith; each = refl }

pub letter_no_dot : (b : ℕ) → letter b ≡ true → eqb b dot ≡ false
unfolding letter
letter_no_dot b e = ne_eqb b dot (λ q. false≢true (ap letter (sym q) ∙ e))

at_dot : (n e : List ℕ) → all letter n ≡ true → (before_dot (n ++ dot ∷ e) ≡ n) × (after_dot (n ++ dot ∷ e) ≡ some e)
unfolding before_dot after_dot
at_dot [] e h = (refl, refl)
at_dot (b ∷ bs) e h =
    let w = and_true (letter b) (all letter bs) h in
    let r = at_dot bs e w.1 in (
      ap₂ (λ (c : Bool) (t : List ℕ). cond c [] (b ∷ t)) (letter_no_dot b w.0) r.0,
      ap₂ (λ (c : Bool) (o : Option (List ℕ)). cond c (some (bs ++ dot ∷ e)) o) (letter_no_dot b w.0) r.1,
    )

no_dot : (n : List ℕ) → all letter n ≡ true → (before_dot n ≡ n) × (after_dot n ≡ none)
unfolding before_dot after_dot
no_dot [] h = (refl, refl)
no_dot (b ∷ bs) h =
    let w = and_true (letter b) (all letter bs) h in
    let r = no_dot bs w.1 in (
      ap₂ (λ (c : Bool) (t : List ℕ). cond c [] (b ∷ t)) (letter_no_dot b w.0) r.0,
      ap₂ (λ (c : Bool) (o : Option (List ℕ)). cond c (some bs) o) (letter_no_dot b w.0) r.1,
    )

made_typed : (nine : List ℕ) → Made nine → (typed : List ℕ) × (stored typed ≡ some nine)
unfolding stored with_extension
made_typed nine m = case m.extension m.is m.of_extension
  where
    case : (e : List ℕ) → nine ≡ nine_bytes m.name e → Letters 0 3 e → (typed : List ℕ) × (stored typed ≡ some nine)
    case [] is l =
        let d = no_dot m.name m.of_name.each in (
          m.name,
          ap₂ with_extension d.0 d.1
              ∙ ap (λ (c : Bool). cond c (some (nine_bytes m.name [])) none) (true_letters 1 6 m.name m.of_name)
              ∙ ap some (sym is),
        )
    case (x ∷ xs) is l =
        let d = at_dot m.name (x ∷ xs) m.of_name.each in
        let some-letter : Letters 1 3 (x ∷ xs) = record { low = omega arith; high = l.high; each = l.each } in (
          m.name ++ dot ∷ x ∷ xs,
          ap₂ with_extension d.0 d.1
              ∙ ap (λ (c : Bool). cond c (some (nine_bytes m.name (x ∷ xs))) none)
              (true_and (true_letters 1 6 m.name m.of_name) (true_letters 1 3 (x ∷ xs) some-letter))
              ∙ ap some (sym is),
        )

begins : (nine front : List ℕ) → letter (byte nine 0) ≡ true → take 6 nine ≡ padded 6 space front → 1 ≤ length front
unfolding letter
begins nine [] e q = absurd (false≢true (ap letter (ap (λ (r : List ℕ). byte r 0) (sym q) ∙ get_or-take 6 nine 0 0 (omega arith)) ∙ e))
begins nine (x ∷ xs) e q = omega arith

legal_made : (nine : List ℕ) → length nine ≡ 9 → legal_stored nine ≡ true → Made nine
unfolding legal_stored
legal_made nine long e =
    let h = and_true (letter (byte nine 0) && spaced (take 6 nine)) (spaced (drop 6 nine)) e in
    let k = and_true (letter (byte nine 0)) (spaced (take 6 nine)) h.0 in
    let a = split_of (take 6 nine) k.1 in
    let b = split_of (drop 6 nine) h.1 in
    let first : length (take 6 nine) ≡ 6 = omega (arith, length-take 6 nine) in
    let second : length (drop 6 nine) ≡ 3 = omega (arith, length-drop 6 nine) in
    let part : take 6 nine ≡ padded 6 space a.front = a.is ∙ ap (λ (j : ℕ). padded j space a.front) first in
    record {
      name = a.front;
      extension = b.front;
      is = sym (take-append-drop 6 nine) ∙ ap₂ (λ (x y : List ℕ). x ++ y) part (b.is ∙ ap (λ (j : ℕ). padded j space b.front) second);
      of_name = record { low = begins nine a.front k.0 part; high = omega (arith, a.few, first); each = a.each };
      of_extension = record { low = omega arith; high = omega (arith, b.few, second); each = b.each };
    }

-- nine legal bytes are what some typed name is stored as
pub legal_typed : (nine : List ℕ) → length nine ≡ 9 → legal_stored nine ≡ true → (typed : List ℕ) × (stored typed ≡ some nine)
legal_typed nine long e = made_typed nine (legal_made nine long e)
