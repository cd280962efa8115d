-- A blank disc is laid, for any number of tracks, any name, and any order that passes each sector of a track once.
-- Assumes nothing.
use Rattle.std.specs.Prelude.{◌≡◌, ◌≢◌, Bool, not, set, replicate}
use Rattle.std.proofs.Math.Path.{refl, sym, ap, ap₂, subst}
use Rattle.std.proofs.Common.{◌∙◌, arith, mul-le-mul_left}
use Prim.Native.Nat.{ℕ, suc, ◌+◌, ◌*◌, ◌-◌, ◌≤◌, ◌<◌}
use Rattle.std.proofs.Math.Decide.{ℕ_discrete}
use mathlib.Core.List.{List, [], ◌∷◌, map, ◌++◌, append-nil}
use Rattle.std.proofs.Math.ListN.{length, length-replicate, get_or-replicate}
use Rattle.std.proofs.lemmas.List.Edits.{sets}
use Rattle.std.proofs.Math.Seq.{length-sets}
use borrow.Author.Tests.{ne_eqb, eq-eqb}
use Rattle.lists.specs.Lists.{elem, sum, times, byte, word, word_at, Once}
use Rattle.lists.specs.ListLaws.{zero_or, All, done, ◌also◌, times_none, times_here, times_past, at_all, once_long, all_replicate}
use Rattle.lists.specs.Counts.{times_kept, times_lost, OneOf, one_of, once_apart}
use Rattle.lists.specs.Stores.{get_d_sets_off, get_d_sets_in}
use Rattle.format.specs.Geometry.{Geometry, sectors, Next, go, pointed, Disc, sector, written}
use Rattle.format.specs.GeometryLaws.{Full}
use Rattle.format.proofs.GeometryLaws.{pointed_stop, sector_other, sector_same, full_set}
use Rattle.format.specs.Layout.{free_offset, directory_offset, free_count_offset, used_count_offset, disc_name_offset, version_offset, in_use_offset, Slot, in_use, length_of, slots_at, slots_of, pair_at, pair_bytes, link_of}
use Rattle.format.specs.ChainLaws.{Chain, end, on}
use Rattle.format.specs.Effects.{head_of, version, chained, passing, blank_directory, blank_free, blank_system, blank_disc}
use Rattle.soundness.specs.Passing.{passed_once, passed_not}
use Rattle.format.specs.NameCounts.{called}
use Rattle.format.proofs.NameCounts.{called_none}
use Rattle.soundness.specs.Slots.{zeros_unused}
use Rattle.soundness.specs.Filed.{entries_of, chains_of}
use Rattle.soundness.specs.Laid.{Laid}
use Rattle.soundness.specs.Pointers.{Bounded, Pointable, to_sector, head_pointable, pair_stored}
use Rattle.soundness.specs.ChainWrites.{chained_full, chained_other, chained_chain}

-- the order passes each of the sectors 1 to per_track once, and there are a track and a sector 4
pub record Passes (G : Geometry) : Type 0 where
  pub bounded : Bounded G
  pub some_track : 1 ≤ G.tracks
  pub four : 4 ≤ G.per_track
  pub once : Once (suc G.per_track) G.order

module _ (G : Geometry) (ps : Passes G) where
  u : Bounded G
  u = ps.bounded

  some_sector : 0 < G.per_track
  some_sector = ps.bounded.some_sector

  -- ---- the free sectors

  three : blank_directory G ≡ 3
  three = omega arith

  enough : 3 < sectors G
  enough = omega (arith, mul-le-mul_left G.per_track ps.some_track, ps.four)

  is_free : ℕ → Bool
  is_free n = not (elem n (0 ∷ blank_directory G ∷ []))

  blank_once : Once (sectors G) (blank_directory G ∷ blank_free G)
  unfolding blank_free is_free
  blank_once =
      let past : (n : ℕ) → n ≢ blank_directory G → times n (blank_directory G ∷ blank_free G) ≡ times n (blank_free G) = λ n h.
      times_past n (blank_directory G) (blank_free G) h in
      let stays : (n : ℕ) → n ≢ 0 → n ≢ blank_directory G → times n (blank_free G) ≡ times n (passing G) = λ n h k.
      times_kept is_free n (passing G) (rw (ne_eqb n 0 h, ne_eqb n (blank_directory G) k)) in
      record {
        inside = λ n h k. elim (ℕ_discrete n (blank_directory G)) [
          | yes e ↦
              let lost = times_lost is_free n (passing G) (rw (ne_eqb n 0 (λ w. omega arith), eq-eqb n (blank_directory G) e)) in
              omega (arith, times_here n (blank_directory G) (blank_free G) e, lost)
          | no e ↦ past n e ∙ stays n (λ w. omega arith) e ∙ passed_once G some_sector ps.once n k
        ];
        zeroth = past 0 (λ w. omega (arith, three)) ∙ times_lost is_free 0 (passing G) refl;
        outside = λ n h.
            past n (λ w. omega (arith, three, enough)) ∙ stays n (λ w. omega (arith, enough)) (λ w. omega (arith, three, enough))
            ∙ passed_not G some_sector ps.once n h;
      }

  free_at : (n : ℕ) → OneOf (sectors G) n (times n (blank_directory G ∷ [])) (times n []) (times n (blank_free G))
  free_at n = one_of (blank_directory G ∷ []) [] (blank_free G) blank_once n

  dir_in : times (blank_directory G) (blank_directory G ∷ []) ≡ 1
  dir_in = omega (arith, times_here (blank_directory G) (blank_directory G) [] refl, times_none (blank_directory G))

  free_long : length (blank_free G) ≡ sectors G - 2
  free_long = omega (arith, once_long (sectors G) (blank_directory G ∷ blank_free G) blank_once)

  below : All (λ n. n < sectors G) (blank_free G)
  below = at_all (blank_free G) (λ n h. (free_at n).high (omega arith))

  to_free : Pointable G (head_of (blank_free G))
  to_free = head_pointable below

  -- ---- the system sector

  module _ (nine : List ℕ) (nine_long : length nine ≡ 9) where
    free_pointed : List ℕ
    free_pointed = sets (replicate 256 0) free_offset (pair_bytes G (head_of (blank_free G)))

    directory_pointed : List ℕ
    directory_pointed = sets free_pointed directory_offset (pair_bytes G (go (blank_directory G)))

    counts₀ : List ℕ
    counts₀ = word (sectors G - 2) ++ word 0

    counted_system : List ℕ
    counted_system = sets directory_pointed free_count_offset counts₀

    named_system : List ℕ
    named_system = sets counted_system disc_name_offset nine

    system_is : blank_system G nine ≡ sets named_system version_offset version
    unfolding blank_system free_pointed directory_pointed counts₀ counted_system named_system
    system_is = refl

    free_pointed_length : length free_pointed ≡ 256
    unfolding free_pointed
    free_pointed_length = length-sets (replicate 256 0) free_offset (pair_bytes G (head_of (blank_free G)))

    directory_pointed_length : length directory_pointed ≡ 256
    unfolding directory_pointed
    directory_pointed_length = length-sets free_pointed directory_offset (pair_bytes G (go (blank_directory G))) ∙ free_pointed_length

    system_size : length (blank_system G nine) ≡ 256
    unfolding counted_system named_system
    system_size =
        ap length system_is ∙ length-sets named_system version_offset version ∙ length-sets counted_system disc_name_offset nine
        ∙ length-sets directory_pointed free_count_offset counts₀ ∙ directory_pointed_length

    to_counts : (k : ℕ) → k < disc_name_offset → byte (blank_system G nine) k ≡ byte counted_system k
    unfolding named_system
    to_counts k h =
        ap (λ (r : List ℕ). byte r k) system_is ∙ get_d_sets_off version named_system version_offset k 0 (λ a. absurd (omega arith))
        ∙ get_d_sets_off nine counted_system disc_name_offset k 0 (λ a. absurd (omega arith))

    to_pointers : (k : ℕ) → k < free_count_offset → byte (blank_system G nine) k ≡ byte directory_pointed k
    unfolding counted_system
    to_pointers k h = to_counts k (omega arith) ∙ get_d_sets_off counts₀ directory_pointed free_count_offset k 0 (λ a. absurd (omega arith))

    at_counts : (j : ℕ) → j < 4 → byte (blank_system G nine) (free_count_offset + j) ≡ byte counts₀ j
    unfolding counted_system counts₀
    at_counts j h =
        to_counts (free_count_offset + j) (omega arith)
        ∙ get_d_sets_in counts₀ directory_pointed free_count_offset j 0 h (omega (arith, directory_pointed_length))

    system_frees : pair_at G (blank_system G nine) free_offset ≡ head_of (blank_free G)
    unfolding directory_pointed free_pointed
    system_frees =
        let pair : List ℕ = pair_bytes G (go (blank_directory G)) in
        ap₂ (λ (a b : ℕ). pointed G a b)
        (to_pointers (free_offset + 1) (omega arith) ∙ get_d_sets_off pair free_pointed directory_offset (free_offset + 1) 0 (λ a. absurd (omega arith)))
        (to_pointers free_offset (omega arith) ∙ get_d_sets_off pair free_pointed directory_offset free_offset 0 (λ a. absurd (omega arith)))
        ∙ pair_stored G u (replicate 256 0) free_offset to_free (omega arith)

    system_dirs : pair_at G (blank_system G nine) directory_offset ≡ go (blank_directory G)
    unfolding directory_pointed
    system_dirs =
        ap₂ (λ (a b : ℕ). pointed G a b) (to_pointers (directory_offset + 1) (omega arith)) (to_pointers directory_offset (omega arith))
        ∙ pair_stored G u free_pointed directory_offset (to_sector (blank_directory G) (omega (arith, three, enough))) (omega (arith, free_pointed_length))

    system_free_count : word_at (blank_system G nine) free_count_offset ≡ sectors G - 2
    unfolding counts₀
    system_free_count = ap₂ (λ (a b : ℕ). a + 256 * b) (at_counts 0 (omega arith)) (at_counts 1 (omega arith)) ∙ omega (arith, u.few)

    system_used_count : word_at (blank_system G nine) used_count_offset ≡ 0
    unfolding counts₀
    system_used_count = ap₂ (λ (a b : ℕ). a + 256 * b) (at_counts 2 (omega arith)) (at_counts 3 (omega arith))

    -- ---- the disc

    zero_bodies : List (List ℕ)
    zero_bodies = replicate (sectors G - 2) (replicate 254 0)

    zeros : Disc
    zeros = replicate (sectors G) (replicate 256 0)

    d : Disc
    d = blank_disc G nine

    d₁ : Disc
    d₁ = set zeros 0 (blank_system G nine)

    d_is : d ≡ written (chained G (blank_free G) zero_bodies) d₁
    unfolding d d₁ blank_disc zeros zero_bodies
    d_is = refl

    zeros_full : Full G zeros
    unfolding zeros
    zeros_full = record { many = length-replicate (sectors G) (replicate 256 0); each = all_replicate (sectors G) (replicate 256 0) refl }

    d₁_full : Full G d₁
    unfolding d₁
    d₁_full = full_set zeros_full 0 (blank_system G nine) system_size

    pub blank_full : Full G (blank_disc G nine)
    unfolding d zero_bodies
    blank_full = subst (Full G) (sym d_is) (chained_full G (blank_free G) below (all_replicate (sectors G - 2) (replicate 254 0) refl) d₁_full)

    at_zero : sector d 0 ≡ blank_system G nine
    unfolding d₁
    at_zero =
        ap (λ (x : Disc). sector x 0) d_is
        ∙ chained_other G (blank_free G) zero_bodies d₁ 0 (zero_or (times 0 (blank_free G)) (λ h. omega (arith, (free_at 0).low (omega arith))))
        ∙ sector_same zeros 0 (blank_system G nine) (omega (arith, zeros_full.many, enough))

    at_dir : sector d (blank_directory G) ≡ replicate 256 0
    unfolding d₁ zeros
    at_dir =
        ap (λ (x : Disc). sector x (blank_directory G)) d_is
        ∙ chained_other G (blank_free G) zero_bodies d₁ (blank_directory G) (omega (arith, (free_at (blank_directory G)).one, dir_in))
        ∙ sector_other zeros 0 (blank_directory G) (blank_system G nine) (λ w. omega (arith, three))
        ∙ get_or-replicate (sectors G) (blank_directory G) (replicate 256 0) [] (omega (arith, three, enough))

    no_entries : entries_of d (blank_directory G ∷ []) ≡ []
    unfolding slots_of
    no_entries = ap in_use (append-nil (slots_at d (blank_directory G))) ∙ zeros_unused d (blank_directory G) at_dir

    free_chain : Chain G d (head_of (blank_free G)) (blank_free G)
    unfolding zero_bodies
    free_chain =
        let as_many : length (blank_free G) ≡ length zero_bodies = free_long ∙ sym (length-replicate (sectors G - 2) (replicate 254 0)) in
        subst (λ (x : Disc). Chain G x (head_of (blank_free G)) (blank_free G)) (sym d_is)
        (chained_chain G u (blank_free G) zero_bodies d₁ as_many below d₁_full.many (λ n. omega (arith, (free_at n).one))).0

    met_once : Once (sectors G) ((blank_directory G ∷ []) ++ chains_of G d (entries_of d (blank_directory G ∷ [])) ++ blank_free G)
    met_once = rw no_entries blank_once

    pub blank_laid : Laid G (blank_disc G nine) (blank_directory G ∷ []) (blank_free G)
    unfolding d
    blank_laid =
        record {
          filed = record {
            directory_chain = on (ap (λ (r : List ℕ). pair_at G r directory_offset) at_zero ∙ system_dirs) (end (ap (link_of G) at_dir ∙ pointed_stop G 0 0 refl));
            some_directory = omega arith;
            in_use_counted = (ap (λ (r : List ℕ). byte r in_use_offset) at_dir ∙ sym (ap length (zeros_unused d (blank_directory G) at_dir))) also done;
            good_entries = rw no_entries done;
            names_differ = λ x. omega (arith, ap (called x) no_entries, called_none x);
            good_chains = rw no_entries done;
            apart = once_apart (blank_directory G ∷ []) (chains_of G d (entries_of d (blank_directory G ∷ []))) (blank_free G) met_once;
          };
          free_chain = subst (λ (q : Next). Chain G d q (blank_free G)) (sym (ap (λ (r : List ℕ). pair_at G r free_offset) at_zero ∙ system_frees)) free_chain;
          once = met_once;
          free_counted = ap (λ (r : List ℕ). word_at r free_count_offset) at_zero ∙ system_free_count ∙ sym free_long;
          used_counted = ap (λ (r : List ℕ). word_at r used_count_offset) at_zero ∙ system_used_count
              ∙ ap (λ (ss : List Slot). sum (map length_of ss)) (sym no_entries);
        }
