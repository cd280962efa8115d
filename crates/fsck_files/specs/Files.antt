-- Rule 5: the chains of files, each as its entry says, over sectors without a mark; and the sum of their lengths.
-- Assumes nothing.
use Rattle.std.proofs.Math.Path.{◌≡◌, refl, sym, ap, ap₂}
use Rattle.std.proofs.Common.{◌∙◌, subst, true≢false, eq-eqb, ne_eqb}
use Rattle.std.specs.Prelude.{◌≢◌, ℕ, ◌+◌, ◌≤◌, Bool, eqb, Some, None}
use Rattle.std.specs.declared.option.Option.{Option}
use native.Mathlib.Omega.{arith}
use Rattle.std.proofs.Math.Bool.{true, false, ◌&&◌, and-false}
use Rattle.std.proofs.Math.Bool as Bool
use mathlib.Core.List.{List, [], ◌∷◌, ◌++◌, map, append-nil, map-append}
use Rattle.lists.specs.Lists.{all, joined, sum}
use Rattle.lists.specs.ListLaws.{and_true, joined_join, sum_join, test_join, and_exchange}
use Rattle.format.specs.Geometry.{Geometry, sectors, Next, Disc}
use Rattle.format.specs.Layout.{Slot, length_of, chain, chain_ends, first_of, last_of, file_chain}
use Rattle.format.proofs.ChainLaws.{met_few}
use Rattle.format.specs.Check.{at?, good_chain}
use Rattle.fsck_chains.specs.Marks.{marked, fresh, marked_join, fresh_join}
use Rattle.fsck_chains.specs.Walks.{sound_walk, Ended}
use Rattle.fsck_chains.specs.declared.Chain.{Chain}

-- the sectors of the files of some entries
abbrev pub files_of : Geometry → Disc → List Slot → List ℕ
files_of G d es = joined (map (file_chain G d) es)

-- their chains are as the entries say, over sectors without a mark
unfoldable pub sound_files : Geometry → Disc → List ℕ → List Slot → Bool
sound_files G d m es = all (good_chain G d) es && fresh m (files_of G d es)

-- what is said of files that are as their entries say: how many sectors they have, at most so many, and the marks that the pass leaves
pub record Filed (G : Geometry) (d : Disc) (es : List Slot) (most : ℕ) (m : List ℕ) (k : ℕ) (m' : List ℕ) : Type 0 where
  pub sound : sound_files G d m es ≡ true
  pub count : k ≡ sum (map length_of es)
  pub marks : m' ≡ marked m (files_of G d es)
  pub few : k ≤ most

-- what a pass over the files of some entries answers
abbrev pub FilesMet : Geometry → Disc → List Slot → (most : ℕ) → List ℕ → Option ℕ → List ℕ → Type 0
FilesMet G d es most m (Some k) m' = Filed G d es most m k m'
FilesMet G d es most m None m' = sound_files G d m es ≡ false

-- a pass over `all` that has come to the entries es with c sectors counted: what is left of it decides
pub record Filing (G : Geometry) (d : Disc) (es : List Slot) (m : List ℕ) (c : ℕ) (whole : List Slot) (m₀ : List ℕ) : Type 0 where
  pub sound : sound_files G d m es ≡ sound_files G d m₀ whole
  pub count : c + sum (map length_of es) ≡ sum (map length_of whole)
  pub marks : marked m (files_of G d es) ≡ marked m₀ (files_of G d whole)

-- ---- some entries, and then others

module _ (G : Geometry) (d : Disc) (m : List ℕ) (xs fs : List Slot) where
  files_join : files_of G d (xs ++ fs) ≡ files_of G d xs ++ files_of G d fs
  files_join = joined_join (file_chain G d) xs fs

  sound_join : sound_files G d m (xs ++ fs) ≡ sound_files G d m xs && sound_files G d (marked m (files_of G d xs)) fs
  unfolding sound_files
  sound_join =
      ap₂ ◌&&◌ (test_join (good_chain G d) xs fs) (ap (fresh m) files_join ∙ fresh_join m (files_of G d xs) (files_of G d fs))
      ∙ and_exchange (all (good_chain G d) xs) (all (good_chain G d) fs) (fresh m (files_of G d xs)) (fresh (marked m (files_of G d xs)) (files_of G d fs))

-- ---- the turns of a pass

pub filing_start : {G : Geometry} {d : Disc} {es : List Slot} {m : List ℕ} (fs : List Slot) → fs ≡ es → Filing G d fs m 0 es m
filing_start {G} {d} {es} {m} fs e = subst (λ (xs : List Slot). Filing G d xs m 0 es m) (sym e) (record { sound = refl; count = omega arith; marks = refl })

module _ {G : Geometry} {d : Disc} {es : List Slot} {m : List ℕ} {c : ℕ} {whole : List Slot} {m₀ : List ℕ} (i : Filing G d es m c whole m₀) where
  -- nothing is taken
  pub filing_skip : {fs : List Slot} → es ≡ fs → Filing G d fs m c whole m₀
  filing_skip e = subst (λ (xs : List Slot). Filing G d xs m c whole m₀) e i

  pub filing_over : es ≡ [] → {most : ℕ} → c ≤ most → Filed G d whole most m₀ c m
  unfolding sound_files fresh marked
  filing_over e few = let o = filing_skip e in record { sound = sym o.sound; count = omega (arith, o.count); marks = o.marks; few = few }

  -- the entries xs are taken, and fs left
  module _ (xs fs : List Slot) (h : es ≡ xs ++ fs) where
    pub filing_bad : sound_files G d m xs ≡ false → sound_files G d m₀ whole ≡ false
    filing_bad e = sym (filing_skip h).sound ∙ sound_join G d m xs fs ∙ ap (λ (b : Bool). b && sound_files G d (marked m (files_of G d xs)) fs) e

    pub filing_next : {most k : ℕ} {n : List ℕ} → Filed G d xs most m k n → Filing G d fs n (c + k) whole m₀
    filing_next {k = k} {n = n} f =
        let o = filing_skip h in
        subst (λ (y : List ℕ). Filing G d fs y (c + k) whole m₀) (sym f.marks)
        (record {
          sound = ap (λ (b : Bool). b && sound_files G d (marked m (files_of G d xs)) fs) (sym f.sound) ∙ sym (sound_join G d m xs fs) ∙ o.sound;
          count = omega (arith, f.count, o.count, ap sum (map-append length_of xs fs), sum_join (map length_of xs) (map length_of fs));
          marks = sym (ap (marked m) (files_join G d m xs fs) ∙ marked_join m (files_of G d xs) (files_of G d fs)) ∙ o.marks;
        })

-- ---- one file: s is its entry, and the walk along its chain starts at p

module _ (G : Geometry) (d : Disc) (s : Slot) (m : List ℕ) {p : Next} (first : p ≡ first_of G s) where
  one : sound_files G d m (s ∷ []) ≡ good_chain G d s && fresh m (file_chain G d s)
  unfolding sound_files
  one = simp (Bool.and-true, append-nil)

  pub file_broken : sound_walk G d p m ≡ false → sound_files G d m (s ∷ []) ≡ false
  unfolding good_chain file_chain
  file_broken e = one ∙ by (chain_ends G d (first_of G s)) (fresh m (chain G d (first_of G s))) _ _ (ap (λ (q : Next). sound_walk G d q m) (sym first) ∙ e)
    where
      by : (a b x y : Bool) → a && b ≡ false → a && x && y && b ≡ false
      by true true x y e = absurd (true≢false e)
      by true false x y e = and-false (x && y)
      by false b x y e = refl

  module _ {c : Chain} {m' : List ℕ} (f : Ended G d p m c m') {x : ℕ} (length_is : x ≡ length_of s) where
    ended : Ended G d (first_of G s) m c m'
    ended = subst (λ (q : Next). Ended G d q m c m') first f

    chain_is : sound_files G d m (s ∷ []) ≡ eqb c.count x && at? (last_of G s) c.last.0
    unfolding good_chain file_chain
    chain_is =
        let h = and_true (chain_ends G d (first_of G s)) (fresh m (chain G d (first_of G s))) ended.sound in
        one ∙ simp (h.0, h.1, ← ended.count, ← ended.last, length_is, Bool.and-true)

    pub file_length : c.count ≢ x → sound_files G d m (s ∷ []) ≡ false
    file_length h = chain_is ∙ ap (λ (b : Bool). b && at? (last_of G s) c.last.0) (ne_eqb c.count x h)

    module _ {q : Next} (last_is : q ≡ last_of G s) {b : Bool} (at_last : b ≡ at? q c.last.0) where
      says : sound_files G d m (s ∷ []) ≡ eqb c.count x && b
      says = chain_is ∙ ap (λ (b : Bool). eqb c.count x && b) (ap (λ (y : Next). at? y c.last.0) (sym last_is) ∙ sym at_last)

      pub file_last : b ≡ false → sound_files G d m (s ∷ []) ≡ false
      file_last h = says ∙ ap (λ (b : Bool). eqb c.count x && b) h ∙ and-false (eqb c.count x)

      pub file_good : {most : ℕ} → sectors G ≤ most → c.count ≡ x → b ≡ true → Filed G d (s ∷ []) most m c.count m'
      unfolding file_chain
      file_good fits h e =
          record {
            sound = says ∙ ap₂ ◌&&◌ (eq-eqb c.count x h) e;
            count = omega (arith, h, length_is);
            marks = ended.marks ∙ ap (marked m) (sym (append-nil (chain G d (first_of G s))));
            few = omega (arith, ended.count, met_few G d (sectors G) (first_of G s));
          }
