-- From what the passes over marks answer to the rules of the check.
-- Assumes nothing.
use Rattle.std.specs.Prelude.{◌≡◌, Bool, ◌||◌, length, Ok, Err, Some, None}
use Rattle.std.specs.Option.{ok_or}
use Rattle.std.specs.declared.option.Option.{Option}
use Rattle.std.specs.declared.result.Result.{Result}
use Rattle.std.proofs.Math.Path.{refl, sym, ap, ap₂}
use Rattle.std.proofs.Common.{◌∙◌, ne_eqb}
use Prim.Native.Nat.{ℕ, zero, suc, ◌+◌, ◌-◌, ◌≤◌, ◌<◌}
use native.Mathlib.Omega.{arith}
use Rattle.std.proofs.Math.Bool.{true, false, not, ◌&&◌}
use mathlib.Core.List.{List, [], ◌∷◌, ◌++◌, map}
use Rattle.std.proofs.Math.Dec.{eqb}
use Rattle.lists.specs.Lists.{all, elem, distinct, range, sum}
use Rattle.lists.specs.ListLaws.{and_true, All, done, ◌also◌, all_map, all_join, all_joined}
use Rattle.format.specs.Geometry.{Geometry, sectors, Next, Disc}
use Rattle.format.specs.GeometryLaws.{OnDisc}
use Rattle.format.proofs.GeometryLaws.{pointed_on}
use Rattle.format.specs.Layout.{Slot, length_of, used_count, free_count, chain, chain_ends, directory_pointer, free_pointer, directory, free, entries, file_chain, file_sectors, first_of, places}
use Rattle.format.proofs.ChainLaws.{met_below}
use Rattle.format.specs.Check.{elsewhere, good_chain, rule1, rule2, rule3, rule4, rule5, rule6, rule7, rule8, broken}
use Rattle.format.specs.CheckLaws.{RulesTo5}
use Rattle.format.proofs.CheckLaws.{broken_5}
use Rattle.geometry.specs.Meaning.{geo, Valid}
use Rattle.geometry.specs.declared.Geometry as code
use Rattle.fsck_chains.specs.Marks.{no_marks, marked, fresh, clear, Below, marked_join, fresh_join, fresh_none, marked_none}
use Rattle.fsck_chains.specs.Walks.{sound_walk, Ended}
use Rattle.fsck_chains.specs.declared.Chain.{Chain}
use Rattle.fsck_files.specs.Files.{sound_files, Filed, FilesMet}
use Rattle.fsck.specs.Meaning.{number_of_rule}
use Rattle.fsck.specs.Free.{free_good, FreeGood}
use Rattle.fsck.specs.declared.Rule.{Rule}
use Rattle.fsck.specs.declared.Rule.TheVariants.{Files}

-- the marks of 0/1 and of the sectors ns
unfoldable pub marks_of : List ℕ → List ℕ
marks_of ns = marked no_marks (0 ∷ ns)

-- rules 1 to 4
pub record RulesTo4 (G : Geometry) (d : Disc) : Type 0 where
  pub r1 : rule1 G d ≡ true
  pub r2 : rule2 G d ≡ true
  pub r3 : rule3 G d ≡ true
  pub r4 : rule4 G d ≡ true

-- they hold, and the marks are those of 0/1 and the directory
pub record DirectoryStood (G : Geometry) (d : Disc) (m : List ℕ) : Type 0 where
  pub rules : RulesTo4 G d
  pub marks : m ≡ marks_of (directory G d)

-- rules 1 to 5 hold, the files have k sectors, and the marks are those of 0/1, the directory and the files
pub record Stood (G : Geometry) (d : Disc) (k : ℕ) (m : List ℕ) : Type 0 where
  pub to5 : RulesTo5 G d
  pub used : k ≡ sum (map length_of (entries G d))
  pub marks : m ≡ marks_of (directory G d ++ file_sectors G d)

-- one of rules 1 to 5 is broken, and k is the lowest such
pub record Lowest (G : Geometry) (d : Disc) (k : ℕ) : Type 0 where
  pub is : k ≡ broken G d
  pub some : 0 < k
  pub few : k ≤ 5

-- what rules 1 to 4 answer, and the marks that they leave where they hold
abbrev pub DirectoryChecked : {A : Type 0} → Geometry → Disc → Result A Rule → List ℕ → Type 0
DirectoryChecked G d (Ok a) m = DirectoryStood G d m
DirectoryChecked G d (Err r) m = Lowest G d (number_of_rule r) × (number_of_rule r ≤ 4)

-- what rules 1 to 5 answer, and the marks that they leave
abbrev pub Stands : Geometry → Disc → Result ℕ Rule → List ℕ → Type 0
Stands G d (Ok k) m = Stood G d k m
Stands G d (Err r) m = Lowest G d (number_of_rule r)

-- ---- marks of sectors that are met one after the other

module _ (ns ks : List ℕ) where
  marks_join : marked (marks_of ns) ks ≡ marks_of (ns ++ ks)
  unfolding marks_of
  marks_join = sym (marked_join no_marks (0 ∷ ns) ks)

  fresh_after : Below 800 (0 ∷ ns) → Below 800 ks → distinct (0 ∷ ns) ≡ true → fresh (marks_of ns) ks ≡ distinct (0 ∷ ns ++ ks)
  unfolding marks_of
  fresh_after h k e =
      ap (λ (b : Bool). b && fresh (marks_of ns) ks) (sym (fresh_none 800 h ∙ e))
      ∙ sym (fresh_join no_marks (0 ∷ ns) ks)
      ∙ fresh_none 800 (all_join h k)

module _ {g : code.Geometry} (v : Valid g) (d : Disc) where
  abbrev G : Geometry
  G = geo g

  -- ---- every sector that is met has a mark

  below : (p : Next) → OnDisc G p → Below 800 (chain G d p)
  below p h = all_map (λ n l. omega (arith, v.total)) (met_below G d (sectors G) p h)

  below_system : Below 800 (0 ∷ [])
  below_system = let h : 0 < 800 = omega arith in h also done

  below_directory : Below 800 (directory G d)
  unfolding directory
  below_directory = below (directory_pointer G d) (pointed_on G _ _)

  below_files : Below 800 (file_sectors G d)
  unfolding file_sectors file_chain
  below_files = all_joined (each (entries G d))
    where
      each : (es : List Slot) → All (λ s. Below 800 (file_chain G d s)) es
      each [] = done
      each (s ∷ es) = below (first_of G s) (pointed_on G _ _) also each es

  below_free : Below 800 (free G d)
  unfolding free
  below_free = below (free_pointer G d) (pointed_on G _ _)

  below_both : Below 800 (0 ∷ directory G d ++ file_sectors G d)
  below_both = all_join (all_join below_system below_directory) below_files

  -- ---- rules 1 and 2

  module _ {p : Next} (first : p ≡ directory_pointer G d) where
    pub rule1_is : {b : Bool} → b ≡ elsewhere p → rule1 G d ≡ b
    unfolding rule1
    rule1_is h = sym (h ∙ ap elsewhere first)

    module _ {m : List ℕ} (before : m ≡ marks_of []) where
      walk_is : rule2 G d ≡ sound_walk G d p m
      unfolding rule2 directory
      walk_is =
          ap (λ (b : Bool). chain_ends G d (directory_pointer G d) && b) (sym (fresh_after [] (directory G d) below_system below_directory refl))
          ∙ ap₂ (λ (x : Next) (y : List ℕ). sound_walk G d x y) (sym first) (sym before)

      pub rule2_broken : sound_walk G d p m ≡ false → rule2 G d ≡ false
      rule2_broken e = walk_is ∙ e

      pub rule2_ended : {c : Chain} {m' : List ℕ} → Ended G d p m c m' → (rule2 G d ≡ true) × (m' ≡ marks_of (directory G d))
      unfolding directory
      rule2_ended f = (
        walk_is ∙ f.sound,
        f.marks ∙ ap₂ (λ (x : Next) (y : List ℕ). marked y (chain G d x)) first before ∙ marks_join [] (directory G d),
      )

  -- ---- rule 5

  module _ {m : List ℕ} (s : DirectoryStood G d m) where
    files_are : rule5 G d ≡ sound_files G d m (entries G d)
    unfolding rule5 rule2 sound_files file_sectors
    files_are =
        let once = (and_true (chain_ends G d (directory_pointer G d)) (distinct (0 ∷ directory G d)) s.rules.r2).1 in
        let free = fresh_after (directory G d) (file_sectors G d) (all_join below_system below_directory) below_files once in
        ap (λ (b : Bool). all (good_chain G d) (entries G d) && b) (sym free ∙ ap (λ (y : List ℕ). fresh y (file_sectors G d)) (sym s.marks))

    pub rule5_bad : sound_files G d m (entries G d) ≡ false → Lowest G d 5
    rule5_bad e =
        let r = s.rules in
        record { is = sym (broken_5 G d r.r1 r.r2 r.r3 r.r4 (files_are ∙ e)); some = omega arith; few = omega arith }

    pub rule5_good : {most k : ℕ} {m' : List ℕ} → Filed G d (entries G d) most m k m' → Stood G d k m'
    unfolding file_sectors
    rule5_good f =
        let r = s.rules in
        record {
          to5 = record { r1 = r.r1; r2 = r.r2; r3 = r.r3; r4 = r.r4; r5 = files_are ∙ f.sound };
          used = f.count;
          marks = f.marks ∙ ap (λ (y : List ℕ). marked y (file_sectors G d)) s.marks ∙ marks_join (directory G d) (file_sectors G d);
        }

    -- what the pass over the files answers is what rules 1 to 5 do
    pub files_stood : (most : ℕ) (m' : List ℕ) (r : Option ℕ) → FilesMet G d (entries G d) most m r m' → Stands G d (ok_or r Files) m'
    files_stood most m' (Some k) f = rule5_good f
    files_stood most m' None e = rule5_bad e

  -- a sector without a mark is neither 0/1 nor met by the directory or a file
  pub clear_is : {m : List ℕ} → m ≡ marks_of (directory G d ++ file_sectors G d) → (n : ℕ) → n < g.sectors
      → clear m n ≡ not (elem n (0 ∷ directory G d ++ file_sectors G d))
  unfolding marks_of
  clear_is e n h = ap (λ (y : List ℕ). clear y n) e ∙ flip _ _ (marked_none 800 n (omega (arith, v.total)) below_both)
    where
      flip : (a b : Bool) → not a ≡ b → a ≡ not b
      flip true b e = ap not e
      flip false b e = ap not e

  -- ---- rule 6

  module _ (r : RulesTo5 G d) {m : List ℕ} (before : m ≡ marks_of (directory G d ++ file_sectors G d)) {b : Bool} {m' : List ℕ} (f : FreeGood G d m b m') where
    pub rule6_is : rule6 G d ≡ b
    unfolding free_good rule6 rule5
    rule6_is =
        let once = (and_true (all (good_chain G d) (entries G d)) (distinct (0 ∷ directory G d ++ file_sectors G d)) r.r5).1 in
        sym (f.answer ∙ ap (λ (x : Bool). chain_ends G d (free_pointer G d) && x && eqb (length (free G d)) (free_count d))
        (ap (λ (y : List ℕ). fresh y (free G d)) before ∙ fresh_after (directory G d ++ file_sectors G d) (free G d) below_both below_free once))

    pub rule6_marks : b ≡ true → m' ≡ marks_of (places G d)
    rule6_marks e = f.marks e ∙ ap (λ (y : List ℕ). marked y (free G d)) before ∙ marks_join (directory G d ++ file_sectors G d) (free G d)

  -- ---- rules 7 and 8

  pub rule7_is : (k x : ℕ) → k ≡ used_count d → x ≡ sum (map length_of (entries G d)) → rule7 G d ≡ eqb k x
  unfolding rule7
  rule7_is k x e f = sym (ap₂ eqb e f)

  pub rule8_is : {m : List ℕ} → m ≡ marks_of (places G d) → {b : Bool} → b ≡ all (λ n. not (clear m n)) (range 1 (g.sectors - 1)) → rule8 G d ≡ b
  unfolding rule8 marks_of
  rule8_is e h =
      sym (h ∙ ap₂ (λ (y : List ℕ) (k : ℕ). all (λ n. not (clear y n)) (range 1 (k - 1))) e v.total
      ∙ pointwise 1 (sectors G - 1) (λ n low high.
      marked_none 800 n (omega (arith, v.total)) (all_join below_both below_free)
      ∙ ap (λ (b : Bool). b || elem n (places G d)) (ne_eqb n 0 (λ q. omega arith))))
    where
      pointwise : {P Q : ℕ → Bool} (a k : ℕ) → ((n : ℕ) → a ≤ n → n < a + k → P n ≡ Q n) → all P (range a k) ≡ all Q (range a k)
      pointwise a zero h = refl
      pointwise a (suc k) h = ap₂ ◌&&◌ (h a (omega arith) (omega arith)) (pointwise (suc a) k (λ n x y. h n (omega arith) (omega arith)))
