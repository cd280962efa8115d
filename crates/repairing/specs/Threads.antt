-- Sectors linked from the last to the first, as a loop backwards links them, each over what stands in it; and that this is the chain of `chained`
-- with the old bodies.
-- Assumes nothing.
use Rattle.std.specs.Prelude.{◌≡◌, ◌≢◌, true, false, length, get_or, drop}
use Rattle.std.proofs.Math.Path.{refl, sym, ap}
use Rattle.std.proofs.Common.{◌∙◌, arith, drop-cons, add-one}
use Prim.Native.Nat.{ℕ, ◌+◌, ◌≤◌, ◌<◌}
use Rattle.std.proofs.Math.Decide.{ℕ_discrete}
use mathlib.Core.List.{List, [], ◌∷◌, ◌++◌, map}
use Rattle.std.proofs.Math.ListN.{set}
use Rattle.std.proofs.lemmas.List.Edits.{sets, sets-eq}
use Rattle.std.proofs.lemmas.List.{set_comm}
use Rattle.lists.specs.Lists.{filter, times}
use Rattle.lists.specs.ListLaws.{All, head_of_all, tail_of, times_here, times_past, filter_yes, filter_no}
use Rattle.format.specs.Geometry.{Geometry, Disc, sector, written}
use Rattle.format.specs.Layout.{link_offset, system, link_bytes}
use Rattle.format.specs.Effects.{body, head_of, passing, chained, system_write}
use Rattle.disc.specs.Meaning.{stored_at}
use Rattle.soundness.specs.ChainWrites.{chained_other}
use Rattle.system.specs.Laws.{system_from}
use Rattle.fsck_chains.specs.Marks.{clear}

module _ (G : Geometry) where
  -- the disc with the sectors linked in order, the last one first
  unfoldable pub linked : List ℕ → Disc → Disc
  linked [] d = d
  linked (n ∷ ns) d = stored_at (linked ns d) n link_offset (link_bytes G (head_of ns))

  -- the sectors without a mark, from position k of the passing order on
  unfoldable pub unmarked : List ℕ → ℕ → List ℕ
  unmarked m k = filter (clear m) (drop k (passing G))

  -- ---- one position further to the front

  module _ (m : List ℕ) (j k : ℕ) (next : k ≡ j + 1) (on : j < length (passing G)) where
    here : drop j (passing G) ≡ get_or (passing G) j 0 ∷ drop k (passing G)
    here = drop-cons (passing G) j 0 on ∙ ap (λ (i : ℕ). get_or (passing G) j 0 ∷ drop i (passing G)) (sym (add-one j) ∙ sym next)

    pub unmarked_more : clear m (get_or (passing G) j 0) ≡ true → unmarked m j ≡ get_or (passing G) j 0 ∷ unmarked m k
    unfolding unmarked
    unmarked_more e = ap (filter (clear m)) here ∙ filter_yes (clear m) (get_or (passing G) j 0) (drop k (passing G)) e

    pub unmarked_same : clear m (get_or (passing G) j 0) ≡ false → unmarked m j ≡ unmarked m k
    unfolding unmarked
    unmarked_same e = ap (filter (clear m)) here ∙ filter_no (clear m) (get_or (passing G) j 0) (drop k (passing G)) e

  -- ---- the same as the chain with the old bodies

  -- a sector apart from the chain may be written before or after it
  chained_apart : (ns : List ℕ) (bs : List (List ℕ)) (d : Disc) (n : ℕ) (s : List ℕ) → times n ns ≡ 0
      → written (chained G ns bs) (set d n s) ≡ set (written (chained G ns bs) d) n s
  unfolding chained
  chained_apart [] bs d n s h = refl
  chained_apart (m ∷ ns) [] d n s h = refl
  chained_apart (m ∷ ns) (b ∷ bs) d n s h =
      let ne : n ≢ m = λ e. omega (arith, times_here n m ns e) in
      let w : List ℕ = link_bytes G (head_of ns) ++ b in
      ap (written (chained G ns bs)) (set_comm d n m s w ne) ∙ chained_apart ns bs (set d m w) n s (omega (arith, times_past n m ns ne))

  pub linked_chained : (ns : List ℕ) (d : Disc) → All (λ n. 2 ≤ length (sector d n)) ns → ((n : ℕ) → times n ns ≤ 1)
      → linked ns d ≡ written (chained G ns (map (λ n. body (sector d n)) ns)) d
  unfolding linked chained
  linked_chained [] d long once = refl
  linked_chained (n ∷ ns) d long once =
      let bs : List (List ℕ) = map (λ n. body (sector d n)) ns in
      let link : List ℕ = link_bytes G (head_of ns) in
      let after : Disc = written (chained G ns bs) d in
      let apart : times n ns ≡ 0 = omega (arith, once n, times_here n n ns refl) in
      let fewer : (m : ℕ) → times m ns ≤ 1 =
      λ m. elim (ℕ_discrete m n) [ yes e ↦ omega (arith, times_here m n ns e, once m) | no e ↦ omega (arith, times_past m n ns e, once m) ] in
      ap (λ (x : Disc). stored_at x n link_offset link) (linked_chained ns d (tail_of long) fewer)
      ∙ ap (λ (s : List ℕ). set after n (sets s link_offset link)) (chained_other G ns bs d n apart)
      ∙ ap (set after n) (sets-eq link (sector d n) 0 (head_of_all long))
      ∙ sym (chained_apart ns bs d n (link ++ body (sector d n)) apart)

  -- then the system sector, which is not of the chain
  pub linked_system : (ns : List ℕ) (d : Disc) (f u : ℕ) → All (λ n. 2 ≤ length (sector d n)) ns → ((n : ℕ) → times n ns ≤ 1) → times 0 ns ≡ 0
      → written (system_write G (linked ns d) (head_of ns) f u ∷ []) (linked ns d)
      ≡ written (system_write G d (head_of ns) f u ∷ chained G ns (map (λ n. body (sector d n)) ns)) d
  unfolding system_write
  linked_system ns d f u long once apart =
      let bs : List (List ℕ) = map (λ n. body (sector d n)) ns in
      let is = linked_chained ns d long once in
      let s : List ℕ = (system_write G d (head_of ns) f u).bytes in
      system_from G d (linked ns d) (head_of ns) f u (ap system is ∙ chained_other G ns bs d 0 apart)
      ∙ ap (λ (x : Disc). set x 0 s) is
      ∙ sym (chained_apart ns bs d 0 s apart)
