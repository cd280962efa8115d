-- What stays when sectors are written: files whose sectors' links stay. How many sectors the files have, and all parts together.
-- Assumes nothing.
use Rattle.std.specs.Prelude.{◌≡◌, refl, ℕ, ◌+◌, ◌-◌, ◌≤◌, ◌<◌}
use Rattle.std.proofs.Math.Path.{sym, ap}
use Rattle.std.proofs.Common.{ap₂, ◌∙◌, arith, length-append}
use mathlib.Core.List.{List, [], ◌∷◌, map, ◌++◌, map-append}
use Rattle.std.proofs.Math.ListN.{length}
use Rattle.lists.specs.Lists.{sum, times, last_or}
use Rattle.lists.specs.ListLaws.{All, done, ◌also◌, all_map, times_join, at_all, once_long, joined_join, sum_join}
use Rattle.format.specs.Geometry.{Geometry, sectors, go, Disc}
use Rattle.format.specs.Layout.{Slot, length_of, first_of, last_of, file_chain}
use Rattle.format.specs.ChainLaws.{Chain, SameLink}
use Rattle.format.proofs.ChainLaws.{chain_met, chain_frame}
use Rattle.format.specs.RuleLaws.{GoodChain}
use Rattle.format.proofs.RuleLaws.{chain_few}
use Rattle.soundness.specs.Filed.{entries_of, chains_of}
use Rattle.soundness.specs.Laid.{Laid}

-- ---- files whose links stay

module _ {G : Geometry} {d : Disc} (d' : Disc) where
  -- a file whose links stay, also where its entry changed but for its first and last sector and its length
  pub file_frame : {s : Slot} (s' : Slot) → first_of G s' ≡ first_of G s → last_of G s' ≡ last_of G s → length_of s' ≡ length_of s → GoodChain G d s
      → All (SameLink G d d') (file_chain G d s)
      → (file_chain G d' s' ≡ file_chain G d s) × GoodChain G d' s'
  unfolding file_chain
  file_frame {s} s' e1 e2 e3 f h =
      let c : Chain G d' (first_of G s') (file_chain G d s) = rw e1 (chain_frame d' f.chained h) in
      let e : file_chain G d' s' ≡ file_chain G d s = chain_met G d' (sectors G) c (chain_few G d s) in
      (e, record { chained = rw e c; as_long = ap length e ∙ f.as_long ∙ sym e3; ends_at = e2 ∙ f.ends_at ∙ ap (λ (ns : List ℕ). go (last_or 0 ns)) (sym e) })

  pub files_frame : (ss : List Slot) → All (GoodChain G d) ss → ((n : ℕ) → 0 < times n (chains_of G d ss) → SameLink G d d' n)
      → (chains_of G d' ss ≡ chains_of G d ss) × All (GoodChain G d') ss
  files_frame [] done h = (refl, done)
  files_frame (s ∷ ss) (f also fs) h =
      let here = file_frame s refl refl refl f (at_all (file_chain G d s) (λ n k. h n (omega (arith, times_join n (file_chain G d s) (chains_of G d ss))))) in
      let there = files_frame ss fs (λ n k. h n (omega (arith, times_join n (file_chain G d s) (chains_of G d ss)))) in
      (ap₂ (λ (a b : List ℕ). a ++ b) here.0 there.0, here.1 also there.1)

-- ---- the sectors of files, by count

module _ (G : Geometry) (d : Disc) where
  pub chains_join : (pre post : List Slot) (n : ℕ) → times n (chains_of G d (pre ++ post)) ≡ times n (chains_of G d pre) + times n (chains_of G d post)
  chains_join pre post n = ap (times n) (joined_join (file_chain G d) pre post) ∙ times_join n (chains_of G d pre) (chains_of G d post)

  -- with one file apart
  pub chains_at : (pre post : List Slot) (s : Slot) (n : ℕ)
      → times n (chains_of G d (pre ++ s ∷ post)) ≡ times n (chains_of G d pre) + times n (file_chain G d s) + times n (chains_of G d post)
  chains_at pre post s n = omega (arith, chains_join pre (s ∷ post) n, times_join n (file_chain G d s) (chains_of G d post))

  -- a file's sectors are among those of the files
  pub all_within : (ss : List Slot) → All (λ s. (n : ℕ) → times n (file_chain G d s) ≤ times n (chains_of G d ss)) ss
  all_within [] = done
  all_within (s ∷ ss) =
      let here : (n : ℕ) → times n (file_chain G d s) ≤ times n (chains_of G d (s ∷ ss)) = λ n. omega (arith, times_join n (file_chain G d s) (chains_of G d ss)) in
      here
      also all_map (λ t h n. omega (arith, h n, times_join n (file_chain G d s) (chains_of G d ss))) (all_within ss)

-- ---- how many

-- the lengths of entries, with one apart
pub lengths_join : (pre post : List Slot) → sum (map length_of (pre ++ post)) ≡ sum (map length_of pre) + sum (map length_of post)
lengths_join pre post = ap sum (map-append length_of pre post) ∙ sum_join (map length_of pre) (map length_of post)

pub lengths_at : (pre post : List Slot) (s : Slot) → sum (map length_of (pre ++ s ∷ post)) ≡ sum (map length_of pre) + length_of s + sum (map length_of post)
lengths_at pre post s = omega (arith, lengths_join pre (s ∷ post))

pub all_shorter : (ss : List Slot) → All (λ s. length_of s ≤ sum (map length_of ss)) ss
all_shorter [] = done
all_shorter (s ∷ ss) = let here : length_of s ≤ sum (map length_of (s ∷ ss)) = omega arith in here also all_map (λ t h. omega arith) (all_shorter ss)

-- the files have as many sectors as their entries say
pub chains_sum : {G : Geometry} {d : Disc} (ss : List Slot) → All (GoodChain G d) ss → length (chains_of G d ss) ≡ sum (map length_of ss)
chains_sum [] done = refl
chains_sum {G} {d} (s ∷ ss) (f also fs) = omega (arith, length-append (file_chain G d s) (chains_of G d ss), f.as_long, chains_sum ss fs)

-- directory, files and free sectors are all but one
pub laid_sum : {G : Geometry} {d : Disc} {dir frees : List ℕ} → Laid G d dir frees
    → length dir + sum (map length_of (entries_of d dir)) + length frees ≡ sectors G - 1
laid_sum {G} {d} {dir} {frees} l =
    let fs : List ℕ = chains_of G d (entries_of d dir) in
    let files-long = chains_sum (entries_of d dir) l.filed.good_chains in
    omega (arith, once_long (sectors G) (dir ++ fs ++ frees) l.once, length-append (dir ++ fs) frees, length-append dir fs, files-long)
