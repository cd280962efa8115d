-- What a walk along a chain answers: the chain has to end, and to meet only sectors without a mark.
-- Assumes nothing.
use Rattle.std.proofs.Math.Path.{◌≡◌, refl, sym, ap}
use Rattle.std.proofs.Common.{◌∙◌, subst, eq-eqb, ne_eqb}
use Rattle.std.specs.Prelude.{◌≢◌, Bool, ◌&&◌, List, get_or, set, Some, None}
use Rattle.std.specs.declared.option.Option.{Option}
use Prim.Native.Nat.{ℕ, zero, suc, ◌+◌}
use native.Mathlib.Omega.{arith}
use Rattle.std.proofs.Math.Bool.{true, false, and-false}
use Rattle.std.proofs.lemmas.Bool.{false≢true}
use Rattle.std.proofs.Math.ListN.{length}
use Rattle.lists.specs.Lists.{last_or}
use Rattle.format.specs.Geometry.{Geometry, sectors, Next, stop, go, off, Disc, sector}
use Rattle.format.specs.Layout.{link_of, met, ends, chain, chain_ends}
use Rattle.format.proofs.ChainLaws.{met_stop, ends_stop, ends_off, ends_none}
use Rattle.fsck_chains.specs.Marks.{marked, fresh}
use Rattle.fsck_chains.specs.declared.Chain.{Chain}

-- the chain ends, and meets no sector that has a mark or twice the same
abbrev pub sound_walk : Geometry → Disc → Next → List ℕ → Bool
sound_walk G d p m = chain_ends G d p && fresh m (chain G d p)

-- what is said of a chain that came to an end link, and the marks that the walk leaves
pub record Ended (G : Geometry) (d : Disc) (p : Next) (m : List ℕ) (c : Chain) (m' : List ℕ) : Type 0 where
  pub sound : sound_walk G d p m ≡ true
  pub count : c.count ≡ length (chain G d p)
  pub last : c.last.0 ≡ last_or 0 (chain G d p)
  pub marks : m' ≡ marked m (chain G d p)

-- what a walk along the whole chain answers
abbrev pub Walked : Geometry → Disc → Next → List ℕ → Option Chain → List ℕ → Type 0
Walked G d p m (Some c) m' = Ended G d p m c m'
Walked G d p m None m' = sound_walk G d p m ≡ false

-- a walk that may meet so many more sectors from p on, with k met before and the last of them l: what is left of it decides. The last is told
-- of a walk that ends: of one with no step left, l would be it.
pub record Walking (G : Geometry) (d : Disc) (steps k : ℕ) (p : Next) (m : List ℕ) (l : ℕ) (first : Next) (m₀ : List ℕ) : Type 0 where
  pub sound : ends G d steps p && fresh m (met G d steps p) ≡ sound_walk G d first m₀
  pub count : k + length (met G d steps p) ≡ length (chain G d first)
  pub last : ends G d steps p ≡ true → last_or l (met G d steps p) ≡ last_or 0 (chain G d first)
  pub marks : marked m (met G d steps p) ≡ marked m₀ (chain G d first)

pub walking_start : {G : Geometry} {d : Disc} (steps : ℕ) (p : Next) (m : List ℕ) → steps ≡ sectors G → Walking G d steps 0 p m 0 p m
walking_start {G} {d} steps p m h =
    subst (λ (s : ℕ). Walking G d s 0 p m 0 p m) (sym h) (record { sound = refl; count = omega arith; last = λ _. refl; marks = refl })

module _ {G : Geometry} {d : Disc} {steps k : ℕ} {p : Next} {m : List ℕ} {l : ℕ} {first : Next} {m₀ : List ℕ}
    (i : Walking G d steps k p m l first m₀) where
  turn : {s : ℕ} {q : Next} → steps ≡ s → p ≡ q → Walking G d s k q m l first m₀
  turn {s} {q} e f = subst (λ (s : ℕ). Walking G d s k q m l first m₀) e (subst (λ (q : Next). Walking G d steps k q m l first m₀) f i)

  pub walking_stop : p ≡ stop → (c : Chain) → c.count ≡ k → c.last.0 ≡ l → Ended G d first m₀ c m
  unfolding marked fresh
  walking_stop e c count-is last-is =
      let w = turn refl e in
      let none = met_stop G d steps in
      record {
        sound = sym w.sound ∙ simp (none, ends_stop G d steps);
        count = omega (arith, ap length none, w.count);
        last = last-is ∙ rw none at w.last (ends_stop G d steps);
        marks = rw none at w.marks;
      }

  pub walking_off : p ≡ off → sound_walk G d first m₀ ≡ false
  walking_off e = sym (turn refl e).sound ∙ simp (ends_off G d steps)

  module _ (n : ℕ) (e : p ≡ go n) where
    -- what was met last before a sector does not matter
    pub walking_any : (l' : ℕ) → Walking G d steps k (go n) m l' first m₀
    unfolding ends met
    walking_any l' = let w = turn refl e in record { sound = w.sound; count = w.count; last = by steps w.last; marks = w.marks }
      where
        by : (s : ℕ) {x : ℕ} → (ends G d s (go n) ≡ true → last_or l (met G d s (go n)) ≡ x) → ends G d s (go n) ≡ true
            → last_or l' (met G d s (go n)) ≡ x
        by zero f z = absurd (false≢true z)
        by (suc s) f z = f z

    pub walking_long : steps ≡ 0 → sound_walk G d first m₀ ≡ false
    walking_long h = sym (turn h e).sound ∙ simp (ends_none G d n)

    pub walking_twice : get_or m n 0 ≢ 0 → sound_walk G d first m₀ ≡ false
    unfolding ends met fresh
    walking_twice f = sym (turn refl e).sound ∙ by steps
      where
        by : (s : ℕ) → ends G d s (go n) && fresh m (met G d s (go n)) ≡ false
        by zero = refl
        by (suc s) = simp (ne_eqb (get_or m n 0) 0 f, and-false)

    pub walking_go : (less : ℕ) → steps ≡ suc less → get_or m n 0 ≡ 0 → (q : Next) → q ≡ link_of G (sector d n)
        → Walking G d less (k + 1) q (set m n 1) n first m₀
    unfolding ends met marked fresh
    walking_go less h f q g =
        let w = turn h e in
        subst (λ (q : Next). Walking G d less (k + 1) q (set m n 1) n first m₀) (sym g)
        (record { sound = rw (eq-eqb (get_or m n 0) 0 f) at w.sound; count = omega (arith, w.count); last = w.last; marks = w.marks })
