-- A save's list, copied out of the disc after it: the file's chain as it stands there, and the sectors that are written, in order.
-- Assumes nothing.
use Rattle.std.specs.Prelude.{◌≡◌, refl, length, take}
use Rattle.std.proofs.Math.Path.{sym}
use Rattle.std.proofs.Common.{ap, ◌∙◌, subst, arith, length-append, take-take}
use Prim.Native.Nat.{ℕ, ◌+◌, ◌≤◌, ◌<◌}
use Rattle.std.proofs.Math.Option.{none, some}
use mathlib.Core.List.{List, [], ◌∷◌, map, ◌++◌}
use Rattle.std.proofs.lemmas.List.{length-map}
use Rattle.lists.specs.Lists.{last_or}
use Rattle.lists.specs.ListLaws.{All, head_of_all, tail_of, all_map, all_left, at_all, all_take}
use Rattle.format.specs.Geometry.{Geometry, sectors, Next, Disc, sector, written}
use Rattle.format.specs.GeometryLaws.{Full}
use Rattle.format.specs.Layout.{Slot, link_of, met, directory, free, open_slot}
use Rattle.format.specs.ChainLaws.{Chain, end, on}
use Rattle.format.proofs.ChainLaws.{chain_met}
use Rattle.format.specs.Modules.{Module, sectors_for, bodies}
use Rattle.format.proofs.ModuleLaws.{bodies_many}
use Rattle.format.specs.Effects.{head_of, chained, growth, needed, save_writes}
use Rattle.soundness.specs.WriteFacts.{Savable}
use Rattle.soundness.specs.Pointers.{Bounded, head_pointable, made_link}
use Rattle.soundness.specs.ListedWrites.{file_taken, all_taken, taken_long, file_long, saved_targets, taken_targets, save_on_disc, save_once}
use Rattle.soundness.specs.CopiedOut.{still}

-- sectors that stand as a chain was written
standing_chain : (G : Geometry) → Bounded G → (d : Disc) (ns : List ℕ) (bs : List (List ℕ)) → length ns ≡ length bs → All (λ n. n < sectors G) ns
    → All (λ w. sector d w.at ≡ w.bytes) (chained G ns bs) → Chain G d (head_of ns) ns
unfolding chained
standing_chain G u d [] bs e below here = end refl
standing_chain G u d (n ∷ ns) [] e below here = absurd (omega arith)
standing_chain G u d (n ∷ ns) (b ∷ bs) e below here =
    let link : link_of G (sector d n) ≡ head_of ns = ap (link_of G) (head_of_all here) ∙ made_link G u (head_pointable (tail_of below)) b in
    on refl (subst (λ (p : Next). Chain G d p ns) (sym link) (standing_chain G u d ns bs (omega arith) (tail_of below) (tail_of here)))

module _ (G : Geometry) (u : Bounded G) (d : Disc) (z : Full G d) (v : Savable G d) (nine : List ℕ) (m : Module)
    (room : needed G d (length m.bytes) ≤ length (free G d)) where
  -- the file's chain as it stands after the save
  pub file_chain_laid : Chain G (written (save_writes G d nine m) d) (head_of (file_taken G d m)) (file_taken G d m)
  unfolding save_writes
  file_chain_laid =
      let k : ℕ = sectors_for (length m.bytes) in
      let d' : Disc = written (save_writes G d nine m) d in
      let here = still (all_map (λ w h. h.0) (save_on_disc G d z v nine m room)) d z.many (save_once G d v nine m room) in
      standing_chain G u d' (file_taken G d m) (bodies m) (file_long G d nine m room ∙ sym (bodies_many m)) (all_take k (at_all (free G d) v.free_high))
      (subst (λ (ns : List ℕ). All (λ w. sector d' w.at ≡ w.bytes) (chained G ns (bodies m)))
      (take-take k (k + growth G d) (free G d) (omega arith)) (all_left (chained G (take k (all_taken G d m)) (bodies m)) _ (tail_of here)))

  pub saved_chain : met G (written (save_writes G d nine m) d) (sectors_for (length m.bytes)) (head_of (file_taken G d m)) ≡ file_taken G d m
  saved_chain = chain_met _ _ _ file_chain_laid (omega (arith, file_long G d nine m room))

-- the sectors that a save writes
module _ (G : Geometry) (d : Disc) (nine : List ℕ) (m : Module) (room : needed G d (length m.bytes) ≤ length (free G d)) where
  pub targets_open : (s : Slot) → open_slot G d ≡ some s → map (λ w. w.at) (save_writes G d nine m) ≡ 0 ∷ file_taken G d m ++ s.home ∷ []
  targets_open s e = saved_targets G d nine m room (some s) e

  pub targets_grown : open_slot G d ≡ none
      → map (λ w. w.at) (save_writes G d nine m) ≡ 0 ∷ file_taken G d m ++ last_or 0 (all_taken G d m) ∷ last_or 0 (directory G d) ∷ []
  targets_grown e = saved_targets G d nine m room none e

  -- the system sector, those taken and one of the directory
  pub saved_many : length (save_writes G d nine m) ≡ needed G d (length m.bytes) + 2
  saved_many =
      sym (length-map (save_writes G d nine m) (λ w. w.at))
      ∙ ap length (taken_targets G d nine m room) ∙ simp length-append (omega (arith, taken_long G d nine m room))
