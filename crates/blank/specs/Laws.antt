-- The cases of the blank disc's answer, and its system sector stored field by field.
-- Assumes nothing.
use Rattle.std.specs.Prelude.{◌≡◌, ℕ, ◌-◌, ◌<◌, List, ◌++◌, length, set, replicate}
use Rattle.std.proofs.Common.{ap, ◌∙◌}
use Rattle.std.proofs.Math.Option.{none, some}
use Rattle.std.proofs.lemmas.List.Edits.{sets}
use Rattle.format.specs.Refusals.{refused, ok, ◌>>=◌, ◌or_refuse◌, number, value_or}
use Rattle.lists.specs.Lists.{word}
use Rattle.format.specs.Geometry.{Format, Geometry, geometry, sectors, go, flat, Disc, sector}
use Rattle.format.proofs.GeometryLaws.{sector_again}
use Rattle.format.specs.Names.{disc_name}
use Rattle.format.specs.Layout.{free_offset, free_count_offset, disc_name_offset, version_offset, pair_bytes}
use Rattle.format.specs.Effects.{head_of, version, blank_directory, blank_free, blank_system, blank_disc}
use Rattle.format.specs.Calls.{answered, answer_by, blank, after_blank}
use Rattle.disc.specs.Meaning.{stored_at}
use Rattle.refusals.specs.declared.Refusal as code
use Rattle.refusals.specs.declared.Refusal.TheVariants.{Name}
use Rattle.refusals.specs.Meaning.{reason, number_of_refusal}

-- the system sector over zeros; the two pointers stand side by side
pub system_is : (G : Geometry) (nine s pairs : List ℕ) (n : ℕ) → s ≡ replicate 256 0
    → pairs ≡ pair_bytes G (head_of (blank_free G)) ++ pair_bytes G (go (blank_directory G)) → n ≡ sectors G
    → sets (sets (sets (sets s free_offset pairs) free_count_offset (word (n - 2) ++ word 0)) disc_name_offset nine) version_offset version ≡ blank_system G nine
unfolding blank_system
system_is G nine s pairs n zeros ps many = rw (zeros, ps, many)

-- the four stores in it
pub system_stored : (G : Geometry) (d : Disc) (nine pairs counts : List ℕ) (n : ℕ) → 0 < length d → sector d 0 ≡ replicate 256 0
    → pairs ≡ pair_bytes G (head_of (blank_free G)) ++ pair_bytes G (go (blank_directory G)) → counts ≡ word (n - 2) ++ word 0 → n ≡ sectors G
    → stored_at (stored_at (stored_at (stored_at d 0 free_offset pairs) 0 free_count_offset counts) 0 disc_name_offset nine) 0 version_offset version
    ≡ set d 0 (blank_system G nine)
system_stored G d nine pairs counts n on zeros ps cs many =
    let one : List ℕ = sets (sector d 0) free_offset pairs in
    let two : List ℕ = sets one free_count_offset counts in
    let three : List ℕ = sets two disc_name_offset nine in
    let with-version : Disc → Disc = λ x. stored_at x 0 version_offset version in
    let with-name : Disc → Disc = λ x. with-version (stored_at x 0 disc_name_offset nine) in
    let whole = system_is G nine (sector d 0) pairs n zeros ps many in
    ap with-name (sector_again d 0 free_count_offset one counts on)
    ∙ ap with-version (sector_again d 0 disc_name_offset two nine on)
    ∙ sector_again d 0 version_offset three version on
    ∙ ap (set d 0) (ap (λ (c : List ℕ). sets (sets (sets one free_count_offset c) disc_name_offset nine) version_offset version) cs ∙ whole)

module _ (F : Format) (image name : List ℕ) where
  pub blank_size : (e : code.Refusal) → geometry F (length image) ≡ refused (reason e) → after_blank F image name ≡ answered (number_of_refusal e) image
  unfolding after_blank answer_by blank ◌>>=◌ number value_or
  blank_size e is = rw is

  module _ (G : Geometry) (e : geometry F (length image) ≡ ok G) where
    pub blank_name : disc_name name ≡ none → after_blank F image name ≡ answered (number_of_refusal Name) image
    unfolding after_blank answer_by blank ◌>>=◌ ◌or_refuse◌ number value_or
    blank_name n = rw (e, n)

    pub blank_done : (nine : List ℕ) → disc_name name ≡ some nine → after_blank F image name ≡ answered 0 (flat F G (blank_disc G nine))
    unfolding after_blank answer_by blank ◌>>=◌ ◌or_refuse◌ number value_or
    blank_done nine n = rw (e, n)
