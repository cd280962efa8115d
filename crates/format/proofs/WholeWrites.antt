-- What the commands write are whole sectors, on any disc: 256 bytes wherever the sector is one of the disc. So the disc stays full.
-- Assumes nothing.
use Rattle.std.specs.Prelude.{◌≡◌, ℕ, zero, suc, ◌+◌, ◌-◌, not, eqb, length, replicate}
use Rattle.std.proofs.Math.Path.{refl}
use Rattle.std.proofs.Common.{sym, ◌∙◌, subst, arith, lt_of_not-le, length-drop}
use Rattle.std.proofs.Math.Decide.{dec_le}
use Rattle.std.proofs.Math.Option.{Option, none, some}
use mathlib.Core.List.{List, [], ◌∷◌, ◌++◌, map}
use Rattle.std.proofs.Math.ListN.{length-replicate}
use Rattle.std.proofs.Math.Seq.{length-sets, set_out}
use Rattle.lists.specs.Lists.{last_or}
use Rattle.lists.specs.ListLaws.{All, done, ◌also◌, all_join}
use Rattle.format.specs.Refusals.{ok}
use Rattle.format.specs.Geometry.{Geometry, sectors, Disc, sector, Next, go, Write, written}
use Rattle.format.specs.GeometryLaws.{Full}
use Rattle.format.proofs.GeometryLaws.{full_set, sector_full}
use Rattle.format.specs.Layout.{name_offset, attribute_offset, attribute_of, protected_as, Slot, link_offset, link_bytes, free_pointer, directory, file_chain, open_slot, slot_start, empty_slot}
use Rattle.format.specs.Modules.{Module}
use Rattle.format.proofs.ModuleLaws.{bodies_254}
use Rattle.format.specs.Effects.{body, slot_write, with_slot, with_link, entry_write, head_of, chained, system_write, entry_writes, save_writes, delete_writes, blank_free, blank_system, blank_disc, unmet, repair_writes}
use Rattle.format.specs.Calls.{save_on, delete_on, rename_on, protect_on, repair_on}
use Rattle.format.proofs.CallLaws.{save_ok, delete_ok, rename_ok, protect_ok, repair_ok}
use Rattle.format.specs.WholeWrites.{Whole}

pub written_full : {G : Geometry} {d : Disc} (ws : List Write) → All (Whole G) ws → Full G d → Full G (written ws d)
written_full [] h f = f
written_full {G} {d} (w ∷ ws) (h also hs) f =
    elim (dec_le (sectors G) w.at) [
      | yes l ↦ written_full ws hs (subst (Full G) (sym (set_out d w.at w.bytes (omega (arith, f.many)))) f)
      | no l ↦ written_full ws hs (full_set f w.at w.bytes (h (lt_of_not-le l)))
    ]

module _ (G : Geometry) where
  linked_whole : (n : ℕ) (p : Next) (b : List ℕ) → length b ≡ 254 → Whole G (record { at = n; bytes = link_bytes G p ++ b })
  linked_whole n p b h l = omega arith

  chained_whole : (ns : List ℕ) {bs : List (List ℕ)} → All (λ b. length b ≡ 254) bs → All (Whole G) (chained G ns bs)
  unfolding chained
  chained_whole [] h = done
  chained_whole (n ∷ ns) done = done
  chained_whole (n ∷ ns) (◌also◌ {x = b} h hs) = linked_whole n (head_of ns) b h also chained_whole ns hs

  module _ (d : Disc) (f : Full G d) where
    pub slot_whole : (s : Slot) (k : ℕ) (xs : List ℕ) → Whole G (slot_write d s k xs)
    slot_whole s k xs l = length-sets (sector d s.home) (slot_start s.index + k) xs ∙ sector_full f s.home l

    with_slot_long : (r : List ℕ) (i n : ℕ) (xs : List ℕ) → length (with_slot r i n xs) ≡ length r
    unfolding with_slot
    with_slot_long r i n xs = simp length-sets

    entry_whole : (s : Slot) (n : ℕ) (xs : List ℕ) → Whole G (entry_write d s n xs)
    entry_whole s n xs l = with_slot_long (sector d s.home) s.index n xs ∙ sector_full f s.home l

    system_whole : (p : Next) (a b : ℕ) → Whole G (system_write G d p a b)
    unfolding system_write
    system_whole p a b l = simp length-sets (sector_full f 0 l)

    link_whole : (n : ℕ) (link : List ℕ) → Whole G (record { at = n; bytes = with_link (sector d n) link })
    link_whole n link l = length-sets (sector d n) link_offset link ∙ sector_full f n l

    new_whole : (n : ℕ) (e : List ℕ) → Whole G (record { at = n; bytes = with_slot (replicate 256 0) 0 1 e })
    new_whole n e l = with_slot_long (replicate 256 0) 0 1 e

    entries_whole : (e : List ℕ) (new : ℕ) (o : Option Slot) → All (Whole G) (entry_writes G d e new o)
    unfolding entry_writes
    entries_whole e new (some s) = entry_whole s _ e also done
    entries_whole e new none =
        new_whole new e also link_whole (last_or 0 (directory G d)) (link_bytes G (go new)) also done

    pub saved_whole : (nine : List ℕ) (m : Module) → All (Whole G) (save_writes G d nine m)
    unfolding save_writes
    saved_whole nine m = system_whole _ _ _ also all_join (chained_whole _ (bodies_254 m)) (entries_whole _ _ (open_slot G d))

    pub deleted_whole : (s : Slot) → All (Whole G) (delete_writes G d s)
    unfolding delete_writes
    deleted_whole s =
        entry_whole s _ empty_slot also link_whole (last_or 0 (file_chain G d s)) (link_bytes G (free_pointer G d)) also system_whole _ _ _ also done

    -- the accepted commands
    -- a sector of the disc with another link
    thread_whole : (n : ℕ) (p : Next) → Whole G (record { at = n; bytes = link_bytes G p ++ body (sector d n) })
    thread_whole n p l = omega (arith, length-drop 2 (sector d n), sector_full f n l)

    threads_whole : (ns : List ℕ) → All (Whole G) (chained G ns (map (λ n. body (sector d n)) ns))
    unfolding chained
    threads_whole [] = done
    threads_whole (n ∷ ns) = thread_whole n (head_of ns) also threads_whole ns

    pub repaired_whole : All (Whole G) (repair_writes G d)
    unfolding repair_writes
    repaired_whole = system_whole _ _ _ also threads_whole (unmet G d)

    pub save_whole : (name : List ℕ) (m : Module) (ws : List Write) → save_on G d name m ≡ ok ws → All (Whole G) ws
    save_whole name m ws p = let s = save_ok G d name m ws p in subst (All (Whole G)) s.writes (saved_whole s.nine m)

    pub delete_whole : (name : List ℕ) (ws : List Write) → delete_on G d name ≡ ok ws → All (Whole G) ws
    delete_whole name ws p = let s = delete_ok G d name ws p in subst (All (Whole G)) s.writes (deleted_whole s.s)

    pub rename_whole : (old new : List ℕ) (ws : List Write) → rename_on G d old new ≡ ok ws → All (Whole G) ws
    rename_whole old new ws p = let s = rename_ok G d old new ws p in subst (All (Whole G)) s.writes (slot_whole s.s name_offset s.nine' also done)

    pub protect_whole : (name : List ℕ) (on : ℕ) (ws : List Write) → protect_on G d name on ≡ ok ws → All (Whole G) ws
    protect_whole name on ws p =
        let s = protect_ok G d name on ws p in
        subst (All (Whole G)) s.writes (slot_whole s.s attribute_offset (protected_as (not (eqb on 0)) (attribute_of s.s) ∷ []) also done)

    pub repair_whole : (ws : List Write) → repair_on G d ≡ ok ws → All (Whole G) ws
    repair_whole ws p = subst (All (Whole G)) (repair_ok G d ws p).1 repaired_whole

  all_replicate : {A : Type 0} {P : A → Type 0} (n : ℕ) (x : A) → P x → All P (replicate n x)
  all_replicate zero x h = done
  all_replicate (suc n) x h = h also all_replicate n x h

  system_long : (nine : List ℕ) → length (blank_system G nine) ≡ 256
  unfolding blank_system
  system_long nine = simp length-sets

  pub blank_whole : (nine : List ℕ) → Full G (blank_disc G nine)
  unfolding blank_disc
  blank_whole nine =
      written_full _ ((λ l. system_long nine) also chained_whole (blank_free G) (all_replicate (sectors G - 2) (replicate 254 0) refl))
      (record { many = length-replicate (sectors G) (replicate 256 0); each = all_replicate (sectors G) (replicate 256 0) refl })
