-- The slots of directory sectors: where each lies, which are in use, and what changes where one slot does.
-- Assumes nothing.
use Rattle.std.specs.Prelude.{◌≡◌, refl, ◌≢◌, ℕ, zero, suc, ◌+◌, ◌*◌, ◌≤◌, ◌<◌, Bool, true, List, [], ◌∷◌, ◌++◌, length, take, drop, replicate}
use Rattle.std.proofs.Common.{sym, ap, ◌∙◌, subst, arith, length-append}
use Rattle.std.proofs.Math.Bool.{not}
use Rattle.lists.specs.Lists.{filter, range, times}
use Rattle.lists.specs.ListLaws.{All, done, ◌also◌, all_join, map_same, filter_yes, filter_no, all_filter, filter_all, at_all, range_all, all_mapped, same_refl}
use Rattle.lists.specs.Counts.{times_range, filter_parts}
use Rattle.lists.specs.OneChanged.{OneChanged, change_map, change_joined, change_kept, change_lost, change_gained}
use Rattle.format.specs.Geometry.{Disc, sector}
use Rattle.format.specs.Layout.{slots_each, slot_start, Slot, empty_slot, free_slot, in_use, slot_at, slots_at, slots_of}

-- ---- slots in use

abbrev pub is_used : Slot → Bool
is_used s = not (free_slot s)

pub empty_length : length empty_slot ≡ 16
unfolding empty_slot
empty_length = refl

pub empty_free : (home index : ℕ) → free_slot (record { home = home; index = index; bytes = empty_slot }) ≡ true
unfolding free_slot
empty_free home index = same_refl empty_slot

pub in_use_one : (s : Slot) (ss : List Slot) → is_used s ≡ true → in_use (s ∷ ss) ≡ s ∷ in_use ss
unfolding in_use
in_use_one s ss e = filter_yes is_used s ss e

pub in_use_none : {ss : List Slot} → All (λ s. free_slot s ≡ true) ss → in_use ss ≡ []
unfolding in_use
in_use_none done = refl
in_use_none (◌also◌ {x = s} {xs = ss} h hs) = filter_no is_used s ss (ap not h) ∙ in_use_none hs

pub in_use_all : {P : Slot → Type 0} {ss : List Slot} → All P ss → All P (in_use ss)
unfolding in_use
in_use_all h = all_filter is_used h

pub in_use_used : (ss : List Slot) → All (λ s. is_used s ≡ true) (in_use ss)
unfolding in_use
in_use_used ss = filter_all is_used ss

pub in_use_many : (ss : List Slot) → length (filter free_slot ss) + length (in_use ss) ≡ length ss
unfolding in_use
in_use_many ss = filter_parts free_slot ss

-- one slot of a list changes: both are in use, only what it was, or only what it is now
module _ {ss ts : List Slot} {s t : Slot} (p : OneChanged ss ts s t) where
  pub change_used : is_used s ≡ true → is_used t ≡ true → OneChanged (in_use ss) (in_use ts) s t
  unfolding in_use
  change_used e f = change_kept is_used p e f

  pub change_freed : is_used s ≡ true → free_slot t ≡ true → (in_use ss ≡ in_use p.pre ++ s ∷ in_use p.post) × (in_use ts ≡ in_use p.pre ++ in_use p.post)
  unfolding in_use
  change_freed e f = change_lost is_used p e (ap not f)

  pub change_filled : free_slot s ≡ true → is_used t ≡ true → (in_use ss ≡ in_use p.pre ++ in_use p.post) × (in_use ts ≡ in_use p.pre ++ t ∷ in_use p.post)
  unfolding in_use
  change_filled e f = change_gained is_used p (ap not e) f

-- ---- where a slot lies

-- s is a slot of the directory sectors dir
pub record SlotOf (d : Disc) (dir : List ℕ) (s : Slot) : Type 0 where
  pub in_directory : 0 < times s.home dir
  pub index_low : s.index < slots_each
  pub is : s ≡ slot_at d s.home s.index

all_slots_of : (d : Disc) (dir ns : List ℕ) → All (λ n. 0 < times n dir) ns → All (SlotOf d dir) (slots_of d ns)
unfolding slots_of slots_at slot_at
all_slots_of d dir [] done = done
all_slots_of d dir (n ∷ ns) (h also hs) =
    all_join (all_mapped (slot_at d n) (range_all 0 slots_each (λ i a b. record { in_directory = h; index_low = b; is = refl }))) (all_slots_of d dir ns hs)

pub slots_of_each : (d : Disc) (dir : List ℕ) → All (SlotOf d dir) (slots_of d dir)
slots_of_each d dir = all_slots_of d dir dir (at_all dir (λ n h. h))

pub slots_at_many : (d : Disc) (n : ℕ) → length (slots_at d n) ≡ slots_each
unfolding slots_at
slots_at_many d n = refl

pub slots_many : (d : Disc) (dir : List ℕ) → length (slots_of d dir) ≡ slots_each * length dir
unfolding slots_of
slots_many d [] = refl
slots_many d (n ∷ ns) = length-append (slots_at d n) (slots_of d ns) ∙ omega (arith, slots_at_many d n, slots_many d ns)

-- ---- slots that stay, and one that changes

-- the sixteen bytes at slot i of a directory sector's bytes
abbrev pub slot_bytes : List ℕ → ℕ → List ℕ
slot_bytes sec i = take 16 (drop (slot_start i) sec)

pub slot_same : (d d' : Disc) (n i : ℕ) → slot_bytes (sector d' n) i ≡ slot_bytes (sector d n) i → slot_at d' n i ≡ slot_at d n i
unfolding slot_at
slot_same d d' n i e = ap (λ (b : List ℕ). record { home = n; index = i; bytes = b }) e

pub slots_by : (d d' : Disc) (n : ℕ) → ((i : ℕ) → slot_bytes (sector d' n) i ≡ slot_bytes (sector d n) i) → slots_at d' n ≡ slots_at d n
unfolding slots_at
slots_by d d' n h = map_same (range_all 0 slots_each (λ i a b. slot_same d d' n i (h i)))

-- a sector that stays has the slots that it had
pub slots_same : (d d' : Disc) (n : ℕ) → sector d' n ≡ sector d n → slots_at d' n ≡ slots_at d n
slots_same d d' n e = slots_by d d' n (λ i. ap (λ (r : List ℕ). slot_bytes r i) e)

-- one slot of one directory sector changes
module _ (d d' : Disc) (n i : ℕ) (index_low : i < slots_each) (others : (j : ℕ) → j ≢ i → slot_bytes (sector d' n) j ≡ slot_bytes (sector d n) j) where
  pub change_at : OneChanged (slots_at d n) (slots_at d' n) (slot_at d n i) (slot_at d' n i)
  unfolding slots_at
  change_at =
      change_map (slot_at d n) (slot_at d' n) (range 0 slots_each) i (times_range 0 slots_each i (omega arith) (omega arith))
      (λ j k ne. slot_same d d' n j (others j ne))

  pub change_of : (dir : List ℕ) → times n dir ≡ 1 → ((m : ℕ) → 0 < times m dir → m ≢ n → sector d' m ≡ sector d m)
      → OneChanged (slots_of d dir) (slots_of d' dir) (slot_at d n i) (slot_at d' n i)
  unfolding slots_of
  change_of dir h stay = change_joined (slots_at d) (slots_at d') dir n h (λ m k ne. slots_same d d' m (stay m k ne)) change_at

-- ---- a slot among the slots of its sector

module _ {d : Disc} {dir : List ℕ} (s : Slot) (o : SlotOf d dir s) where
  own_change : OneChanged (slots_at d s.home) (slots_at d s.home) s s
  own_change =
      subst (λ (t : Slot). OneChanged (slots_at d s.home) (slots_at d s.home) t t) (sym o.is)
      (change_at d d s.home s.index o.index_low (λ j ne. refl))

  pub sector_some_used : is_used s ≡ true → 1 ≤ length (in_use (slots_at d s.home))
  sector_some_used e = let p = change_used own_change e e in omega (arith, ap length p.was, length-append p.pre (s ∷ p.post))

  pub sector_some_free : free_slot s ≡ true → length (in_use (slots_at d s.home)) < slots_each
  sector_some_free e =
      let p = change_kept free_slot own_change e e in
      omega (arith, in_use_many (slots_at d s.home), slots_at_many d s.home, ap length p.was, length-append p.pre (s ∷ p.post))

-- ---- a directory sector of zeros

zeros : (a b n : ℕ) → a + b ≤ n → take {A = ℕ} a (drop b (replicate n 0)) ≡ replicate a 0
zeros zero b n h = refl
zeros (suc a) zero zero h = absurd (omega arith)
zeros (suc a) zero (suc n) h = ap (λ (r : List ℕ). 0 ∷ r) (zeros a zero n (omega arith))
zeros (suc a) (suc b) zero h = absurd (omega arith)
zeros (suc a) (suc b) (suc n) h = zeros (suc a) b n (omega arith)

-- a slot of a sector of zeros is free
pub zeros_slot : (i : ℕ) → i < slots_each → slot_bytes (replicate 256 0) i ≡ empty_slot
unfolding empty_slot
zeros_slot i h = zeros 16 (slot_start i) 256 (omega arith)

pub zeros_unused : (d : Disc) (n : ℕ) → sector d n ≡ replicate 256 0 → in_use (slots_at d n) ≡ []
unfolding slots_at slot_at
zeros_unused d n e =
    in_use_none (all_mapped (slot_at d n) (range_all 0 slots_each (λ i a b.
    ap (λ (r : List ℕ). free_slot (record { home = n; index = i; bytes = r })) (ap (λ (r : List ℕ). slot_bytes r i) e ∙ zeros_slot i b) ∙ empty_free n i)))
