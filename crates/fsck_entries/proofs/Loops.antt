-- Laws of loops over a name's bytes and over sectors, and of an entry's tests one after the other. `letters_end` goes by the three of a name that is
-- padded; the library's methods have the other loops now, and their laws stand, though no proof cites them.
-- Assumes nothing.
use Rattle.std.specs.Prelude.{◌≡◌, ℕ, ◌+◌, ◌≤◌, ◌<◌, Bool, true, false, ◌&&◌, List, [], ◌∷◌, length}
use Rattle.std.proofs.Math.Path.{sym, ap}
use Rattle.std.proofs.Common.{◌∙◌}
use Rattle.std.proofs.Math.Seq.{slice}
use Rattle.std.proofs.Math.Dec.{eqb}
use borrow.Author.Tests.{le-leb}
use Rattle.lists.specs.Lists.{all, byte}
use Rattle.format.specs.Geometry.{Geometry, Disc}
use Rattle.format.specs.Layout.{is_attribute, Slot, in_use, name_of, length_of, attribute_of, slots_of, directory}
use Rattle.format.specs.Names.{letter, space, spaced, legal_stored}
use Rattle.format.specs.Check.{good_entry, counted, rule3}
use Rattle.byte_loops.specs.Laws.{slice_over, slice_step, all_over}
use Rattle.names.specs.Laws.{all_is}
use Rattle.fsck_entries.specs.Good.{good_sector, sectors_good, rule3_is}

-- ---- letters, then spaces, from byte i to byte e of an image

module _ (image : List ℕ) (i e : ℕ) (inside : e ≤ length image) where
  pub spaced_over : e ≤ i → spaced (slice i e image) ≡ all (eqb space) (slice i e image)
  unfolding spaced
  spaced_over past = ap spaced (slice_over image i e inside past) ∙ sym (all_over image i e inside space past)

  module _ (before : i < e) where
    here : slice i e image ≡ byte image i ∷ slice (i + 1) e image
    here = slice_step image i e inside before

    pub spaced_letter : letter (byte image i) ≡ true → spaced (slice i e image) ≡ spaced (slice (i + 1) e image)
    unfolding spaced
    spaced_letter h = ap spaced here ∙ simp h

    pub spaced_rest : letter (byte image i) ≡ false → spaced (slice i e image) ≡ all (eqb space) (slice i e image)
    unfolding spaced
    spaced_rest h = ap spaced here ∙ simp h (ap (all (eqb space)) (sym here))

-- ---- an entry, by what is asked of its fields one after the other

module _ (s : Slot) {l : Bool} (named : l ≡ legal_stored (name_of s)) where
  pub entry_nameless : l ≡ false → false ≡ good_entry s
  unfolding good_entry
  entry_nameless e = simp (← named, e)

  module _ (legal : l ≡ true) where
    pub entry_empty : length_of s ≡ 0 → false ≡ good_entry s
    unfolding good_entry
    entry_empty e = simp (← named, legal, e)

    pub entry_rest : 1 ≤ length_of s → is_attribute (attribute_of s) ≡ good_entry s
    unfolding good_entry
    entry_rest some = simp (← named, legal, le-leb 1 (length_of s) some)

-- ---- the directory, by the project's own `all`

pub sectors_good_all : (G : Geometry) (d : Disc) (ns : List ℕ) → all (good_sector G d) ns ≡ all (counted G d) ns && all good_entry (in_use (slots_of d ns))
sectors_good_all G d ns = sym (all_is (good_sector G d) ns) ∙ sectors_good G d ns

pub rule3_is_all : (G : Geometry) (d : Disc) → all (good_sector G d) (directory G d) ≡ rule3 G d
rule3_is_all G d = sym (all_is (good_sector G d) (directory G d)) ∙ rule3_is G d

-- a test of each of the sectors ns: of the first, and then of the others
module _ (P : ℕ → Bool) {ns : List ℕ} {b : Bool} (i : all P ns ≡ b) where
  pub each_over : ns ≡ [] → true ≡ b
  each_over e = ap (all P) (sym e) ∙ i

  module _ (n : ℕ) (ms : List ℕ) (h : ns ≡ n ∷ ms) {r : Bool} (e : r ≡ P n) where
    turn : r && all P ms ≡ b
    turn = ap (λ (x : Bool). x && all P ms) e ∙ ap (all P) (sym h) ∙ i

    pub each_not : r ≡ false → false ≡ b
    each_not q = ap (λ (x : Bool). x && all P ms) (sym q) ∙ turn

    pub each_next : r ≡ true → all P ms ≡ b
    each_next q = ap (λ (x : Bool). x && all P ms) (sym q) ∙ turn
