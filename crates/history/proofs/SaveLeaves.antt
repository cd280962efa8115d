-- Save, whole: what its writes leave, in the two cases.
-- Assumes nothing.
use Rattle.std.specs.Prelude.{◌≡◌, cond, true}
use Rattle.std.proofs.Math.Path.{sym, ap, subst}
use Rattle.std.proofs.Common.{ap₂, ◌∙◌, arith, add-zero, add-one, length-append}
use Prim.Native.Nat.{ℕ, suc, ◌+◌, ◌-◌, ◌≤◌}
use Rattle.std.proofs.Math.Option.{Option, none, some}
use mathlib.Core.List.{List, [], ◌∷◌, ◌++◌, append-nil}
use Rattle.std.proofs.Math.ListN.{length, get_or, take, drop, take-append-drop}
use Rattle.std.proofs.Math.Seq.{length-take-le, take-suc, take-take}
use Rattle.lists.specs.Lists.{is_some, last_or}
use Rattle.lists.specs.ListLaws.{last_joined}
use Rattle.format.specs.Geometry.{Geometry, Disc, sector, Write, written}
use Rattle.format.specs.GeometryLaws.{Full}
use Rattle.format.specs.Names.{legal_stored}
use Rattle.format.specs.Layout.{free_count, used_count, Slot, link_of, directory, free, open_slot}
use Rattle.format.specs.Modules.{Module, sectors_for, bodies, plain}
use Rattle.format.proofs.ModuleLaws.{sectors_fit, bodies_254, bodies_many}
use Rattle.format.specs.Effects.{chained, system_write, entry_bytes, growth, entry_writes, save_writes}
use Rattle.history.specs.History.{File}
use Rattle.format.specs.NameCounts.{called}
use Rattle.soundness.specs.Filed.{entries_of, directory_is}
use Rattle.soundness.specs.Laid.{Laid, free_is}
use Rattle.soundness.specs.Found.{open_lies}
use Rattle.soundness.specs.Pointers.{Bounded}
use Rattle.soundness.specs.ChainWrites.{written_join}
use Rattle.history.proofs.BookFiles.{files_of}
use Rattle.history.proofs.SaveSectors.{Saving}
use Rattle.history.proofs.SaveFacts.{SaveFacts, facts_laid, facts_files}
use Rattle.history.proofs.SaveOpen.{saved_open, open_facts}
use Rattle.history.proofs.SaveGrown.{saved_grown, grown_facts}

-- what a save leaves: the directory has `grown` sectors more, and the book one file more
pub record SaveLeaves (G : Geometry) (d d' : Disc) (dir nine : List ℕ) (m : Module) (grown : ℕ) : Type 0 where
  pub dir' : List ℕ
  pub frees' : List ℕ
  pub laid : Laid G d' dir' frees'
  pub full : Full G d'
  pub directory_size : length dir' ≡ length dir + grown
  pub pre : List File
  pub post : List File
  pub was : files_of G d dir ≡ pre ++ post
  pub now : files_of G d' dir' ≡ pre ++ record { name = nine; count = sectors_for (length m.bytes); reading = plain (bodies m) } ∷ post

-- ---- the writes, with what they are made of named

writes : Geometry → Disc → (nine : List ℕ) → List (List ℕ) → (k : ℕ) (taken file : List ℕ) → Option Slot → List Write
writes G d nine bs k taken file o =
    system_write G d (link_of G (sector d (last_or 0 taken))) (free_count d - length taken) (used_count d + k)
    ∷ chained G file bs
    ++ entry_writes G d (entry_bytes G nine file) (last_or 0 taken) o

grows : Option Slot → ℕ
grows o = cond (is_some o) 0 1

save_writes_are : (G : Geometry) (d : Disc) (nine : List ℕ) (m : Module) (o : Option Slot) (frees : List ℕ) → open_slot G d ≡ o → free G d ≡ frees
    → let k = sectors_for (length m.bytes) in
    save_writes G d nine m ≡ writes G d nine (bodies m) k (take (k + grows o) frees) (take k (take (k + grows o) frees)) o
unfolding save_writes writes growth grows
save_writes_are G d nine m o frees p q =
    let k : ℕ = sectors_for (length m.bytes) in
    ap₂ (λ (o : Option Slot) (fr : List ℕ). writes G d nine (bodies m) k (take (k + grows o) fr) (take k (take (k + grows o) fr)) o) p q

module _ (G : Geometry) (d : Disc) (nine : List ℕ) (bs : List (List ℕ)) where
  same_writes : {k k' : ℕ} {t t' f f' : List ℕ} → k ≡ k' → t ≡ t' → f ≡ f' → (o : Option Slot) → writes G d nine bs k t f o ≡ writes G d nine bs k' t' f' o
  same_writes p q r o = λ i. writes G d nine bs (p i) (q i) (r i) o

  open_written : (file : List ℕ) (s : Slot) → written (writes G d nine bs (length file) (file ++ []) file (some s)) d ≡ saved_open G d nine file bs s
  unfolding writes entry_writes system_write
  open_written file s = written_join (chained G file bs) _ _

  grown_written : (file : List ℕ) (new : ℕ)
      → written (writes G d nine bs (length file) (file ++ new ∷ []) file none) d
      ≡ saved_grown G d nine file (file ++ new ∷ []) new (last_or 0 (directory G d)) bs
  unfolding writes entry_writes system_write
  grown_written file new =
      written_join (chained G file bs) _ _
      ∙ ap (λ (n : ℕ). saved_grown G d nine file (file ++ new ∷ []) n (last_or 0 (directory G d)) bs) (last_joined 0 file new)

-- ---- the two cases

module _ {G : Geometry} {d : Disc} {dir frees : List ℕ} (u : Bounded G) (l : Laid G d dir frees) (z : Full G d)
    (nine : List ℕ) (legal : legal_stored nine ≡ true) (nine_long : length nine ≡ 9) (fresh : called nine (entries_of d dir) ≡ 0) (m : Module) where
  k : ℕ
  k = sectors_for (length m.bytes)

  saving : (file extra rest : List ℕ) → frees ≡ (file ++ extra) ++ rest → length file ≡ k → Saving G d dir frees nine file extra rest (bodies m)
  unfolding k
  saving file extra rest split size =
      record {
        bounded = u;
        laid = l;
        full = z;
        split = split;
        some_file = omega (arith, size, (sectors_fit (length m.bytes)).some_sector);
        as_many = size ∙ sym (bodies_many m);
        bodies_full = bodies_254 m;
        nine_long = nine_long;
        legal = legal;
        fresh = fresh;
      }

  -- from the facts to what is left
  leaves : {d' : Disc} {dir' file extra rest : List ℕ} {home index : ℕ} (grown : ℕ) → Saving G d dir frees nine file extra rest (bodies m) → length file ≡ k
      → length dir' ≡ length dir + grown
      → SaveFacts G d d' dir frees dir' nine file extra rest (bodies m) home index → SaveLeaves G d d' dir nine m grown
  unfolding k
  leaves {dir' = dir'} {rest = rest} grown v size larger facts =
      let r = facts_files v facts in
      record {
        dir' = dir';
        frees' = rest;
        laid = facts_laid v facts;
        full = facts.full;
        directory_size = larger;
        pre = r.0;
        post = r.1;
        was = r.2;
        now = r.3 ∙ ap (λ (c : ℕ). r.0 ++ record { name = nine; count = c; reading = plain (bodies m) } ∷ r.1) size;
      }

  -- a save into a free slot: what it takes and leaves of the free sectors, and the disc afterwards
  pub open_saving : sectors_for (length m.bytes) ≤ length frees
      → Saving G d dir frees nine (take (sectors_for (length m.bytes)) frees) [] (drop (sectors_for (length m.bytes)) frees) (bodies m)
  unfolding k
  open_saving room =
      saving (take k frees) [] (drop k frees)
      (sym (ap (λ (r : List ℕ). r ++ drop k frees) (append-nil (take k frees)) ∙ take-append-drop k frees)) (length-take-le k frees room)

  pub open_is : (s : Slot) → open_slot G d ≡ some s → sectors_for (length m.bytes) ≤ length frees
      → written (save_writes G d nine m) d ≡ saved_open G d nine (take (sectors_for (length m.bytes)) frees) (bodies m) s
  unfolding k grows
  open_is s o room =
      let file : List ℕ = take k frees in
      let taken : take (k + 0) frees ≡ file ++ [] = ap (λ (j : ℕ). take j frees) (add-zero k) ∙ sym (append-nil file) in
      let first : take k (take (k + 0) frees) ≡ file = ap (λ (j : ℕ). take k (take j frees)) (add-zero k) ∙ take-take k k frees (omega arith) in
      ap (λ (ws : List Write). written ws d)
      (save_writes_are G d nine m (some s) frees o (free_is l) ∙ same_writes G d nine (bodies m) (sym (length-take-le k frees room)) taken first (some s))
      ∙ open_written G d nine (bodies m) file s

  pub open_leaves : (s : Slot) → open_slot G d ≡ some s → sectors_for (length m.bytes) ≤ length frees
      → SaveLeaves G d (written (save_writes G d nine m) d) dir nine m 0
  unfolding k
  open_leaves s o room =
      let v = open_saving room in
      let slot_of = open_lies l.filed o in
      subst (λ (x : Disc). SaveLeaves G d x dir nine m 0) (sym (open_is s o room))
      (leaves 0 v (length-take-le k frees room) (omega arith) (open_facts v s slot_of.0 slot_of.1))

  pub grown_leaves : open_slot G d ≡ none → sectors_for (length m.bytes) + 1 ≤ length frees → SaveLeaves G d (written (save_writes G d nine m) d) dir nine m 1
  unfolding k grows
  grown_leaves o room =
      let file : List ℕ = take k frees in
      let new : ℕ = get_or frees k 0 in
      let rest : List ℕ = drop (suc k) frees in
      let size : length file ≡ k = length-take-le k frees (omega arith) in
      let taken : take (k + 1) frees ≡ file ++ new ∷ [] = ap (λ (j : ℕ). take j frees) (add-one k) ∙ take-suc frees k 0 (omega arith) in
      let first : take k (take (k + 1) frees) ≡ file = take-take k (k + 1) frees (omega arith) in
      let split : frees ≡ (file ++ new ∷ []) ++ rest =
      sym (take-append-drop (suc k) frees) ∙ ap (λ (r : List ℕ). r ++ rest) (take-suc frees k 0 (omega arith)) in
      let v = saving file (new ∷ []) rest split size in
      let is : written (save_writes G d nine m) d ≡ saved_grown G d nine file (file ++ new ∷ []) new (last_or 0 dir) (bodies m) =
      ap (λ (ws : List Write). written ws d) (save_writes_are G d nine m none frees o (free_is l) ∙ same_writes G d nine (bodies m) (sym size) taken first none)
      ∙ grown_written G d nine (bodies m) file new
      ∙ ap (λ (ns : List ℕ). saved_grown G d nine file (file ++ new ∷ []) new (last_or 0 ns) (bodies m)) (directory_is l.filed) in
      subst (λ (x : Disc). SaveLeaves G d x dir nine m 1) (sym is) (leaves 1 v size (length-append dir (new ∷ [])) (grown_facts v))
