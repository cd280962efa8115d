-- Two lists that differ in one element, and what a test keeps of them.
-- Assumes nothing.
use Rattle.std.specs.Prelude.{◌≡◌, refl, ◌≢◌, ℕ, ◌<◌, Bool, true, false, List, [], ◌∷◌, map, ◌++◌}
use Rattle.std.proofs.Common.{sym, ap, ap₂, ◌∙◌, arith, append_assoc}
use Rattle.std.proofs.Math.Decide.{ℕ_discrete}
use Rattle.lists.specs.Lists.{filter, joined, times}
use Rattle.lists.specs.ListLaws.{map_same, filter_join, filter_yes, filter_no, times_none, times_here, times_past, at_all, joined_id}
use Rattle.lists.specs.Counts.{times_more}

-- xs and ys are the same but for one element, where xs has x and ys has y
pub record OneChanged {A : Type 0} (xs ys : List A) (x y : A) : Type 0 where
  pub pre : List A
  pub post : List A
  pub was : xs ≡ pre ++ x ∷ post
  pub now : ys ≡ pre ++ y ∷ post

module _ {A : Type 0} where
  change_after : {xs ys : List A} {x y : A} (zs : List A) → OneChanged xs ys x y → OneChanged (zs ++ xs) (zs ++ ys) x y
  change_after zs p =
      record {
        pre = zs ++ p.pre;
        post = p.post;
        was = ap (λ (r : List A). zs ++ r) p.was ∙ sym (append_assoc zs p.pre _);
        now = ap (λ (r : List A). zs ++ r) p.now ∙ sym (append_assoc zs p.pre _);
      }

  change_before : {xs ys : List A} {x y : A} (zs : List A) → OneChanged xs ys x y → OneChanged (xs ++ zs) (ys ++ zs) x y
  change_before {x = x} {y = y} zs p =
      record {
        pre = p.pre;
        post = p.post ++ zs;
        was = ap (λ (r : List A). r ++ zs) p.was ∙ append_assoc p.pre (x ∷ p.post) zs;
        now = ap (λ (r : List A). r ++ zs) p.now ∙ append_assoc p.pre (y ∷ p.post) zs;
      }

  -- two functions that differ at one number of a list
  pub change_map : (f g : ℕ → A) (ns : List ℕ) (i : ℕ) → times i ns ≡ 1 → ((j : ℕ) → 0 < times j ns → j ≢ i → g j ≡ f j)
      → OneChanged (map f ns) (map g ns) (f i) (g i)
  change_map f g [] i h stay = absurd (omega (arith, times_none i))
  change_map f g (n ∷ ns) i h stay =
      elim (ℕ_discrete i n) [
        | yes e ↦
            let none : times i ns ≡ 0 = omega (arith, times_here i n ns e) in
            let rest : map g ns ≡ map f ns = map_same (at_all ns (λ j k. stay j (times_more j n ns k) (λ w. omega (arith, ap (λ (q : ℕ). times q ns) w)))) in
            record { pre = []; post = map f ns; was = ap (λ (k : ℕ). f k ∷ map f ns) (sym e); now = ap₂ (λ (k : ℕ) (r : List A). g k ∷ r) (sym e) rest }
        | no e ↦
            let p = change_map f g ns i (omega (arith, times_past i n ns e)) (λ j k ne. stay j (times_more j n ns k) ne) in
            let q : g n ≡ f n = stay n (omega (arith, times_here n n ns refl)) (λ w. e (sym w)) in
            record { pre = f n ∷ p.pre; post = p.post; was = ap (λ (r : List A). f n ∷ r) p.was; now = ap₂ (λ (a : A) (r : List A). a ∷ r) q p.now }
      ]

-- the same with lists joined
pub change_joined : {A : Type 0} (f g : ℕ → List A) (ns : List ℕ) (i : ℕ) {x y : A} → times i ns ≡ 1 → ((j : ℕ) → 0 < times j ns → j ≢ i → g j ≡ f j)
    → OneChanged (f i) (g i) x y → OneChanged (joined (map f ns)) (joined (map g ns)) x y
change_joined f g ns i h stay p =
    let q = change_map f g ns i h stay in
    rw (q.was, q.now, joined_id q.pre (f i ∷ q.post), joined_id q.pre (g i ∷ q.post))
    (change_after (joined q.pre) (change_before (joined q.post) p))

-- ---- what a test keeps

module _ {A : Type 0} (p : A → Bool) {xs ys : List A} {x y : A} (q : OneChanged xs ys x y) where
  kept : (z : A) → p z ≡ true → filter p (q.pre ++ z ∷ q.post) ≡ filter p q.pre ++ z ∷ filter p q.post
  kept z e = filter_join p q.pre (z ∷ q.post) ∙ ap (λ (r : List A). filter p q.pre ++ r) (filter_yes p z q.post e)

  lost : (z : A) → p z ≡ false → filter p (q.pre ++ z ∷ q.post) ≡ filter p q.pre ++ filter p q.post
  lost z e = filter_join p q.pre (z ∷ q.post) ∙ ap (λ (r : List A). filter p q.pre ++ r) (filter_no p z q.post e)

  -- both pass
  pub change_kept : p x ≡ true → p y ≡ true → OneChanged (filter p xs) (filter p ys) x y
  change_kept e f =
      record {
        pre = filter p q.pre;
        post = filter p q.post;
        was = ap (filter p) q.was ∙ kept x e;
        now = ap (filter p) q.now ∙ kept y f;
      }

  -- only the first passes: the second list is without it
  pub change_lost : p x ≡ true → p y ≡ false
      → (filter p xs ≡ filter p q.pre ++ x ∷ filter p q.post) × (filter p ys ≡ filter p q.pre ++ filter p q.post)
  change_lost e f = (ap (filter p) q.was ∙ kept x e, ap (filter p) q.now ∙ lost y f)

  -- only the second passes
  pub change_gained : p x ≡ false → p y ≡ true
      → (filter p xs ≡ filter p q.pre ++ filter p q.post) × (filter p ys ≡ filter p q.pre ++ y ∷ filter p q.post)
  change_gained e f = (ap (filter p) q.was ∙ lost x e, ap (filter p) q.now ∙ kept y f)
