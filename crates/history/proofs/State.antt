-- What holds at each moment between a disc and the book, and that every accepted command keeps it.
-- Assumes nothing.
use Rattle.std.specs.Prelude.{◌≡◌, Bool, eqb}
use Rattle.std.proofs.Math.Path.{refl, sym, ap, ap₂, subst}
use Rattle.std.proofs.Common.{◌∙◌}
use Prim.Native.Nat.{ℕ, suc, ◌+◌, ◌/◌, ◌-◌, max, ◌≤◌, ◌<◌}
use native.Mathlib.Omega.{arith}
use Rattle.std.proofs.Math.Bool.{not, cond, true, false}
use Rattle.std.proofs.Math.Option.{Option, none, some, get_or}
use mathlib.Core.List.{List, [], ◌∷◌, map, ◌++◌}
use Rattle.std.proofs.Math.ListN.{length, length-map}
use Rattle.lists.specs.Lists.{is_some, filter}
use Rattle.lists.specs.Counts.{filter_parts}
use Rattle.lists.specs.ListLaws.{true_same}
use Rattle.lists.specs.Permutations.{Perm, skip, next, perm_front, perm_map, perm_filter, perm_length}
use Rattle.lists.specs.OnlyOne.{without_one, changed_one}
use Rattle.format.specs.Refusals.{ok}
use Rattle.format.specs.Geometry.{Geometry, Disc, Write, written}
use Rattle.format.specs.GeometryLaws.{Full}
use Rattle.format.specs.Names.{stored, legal_stored}
use Rattle.format.proofs.NameLaws.{stored_nine, stored_legal}
use Rattle.format.specs.Layout.{slots_each, name_offset, attribute_offset, attribute, is_attribute, protected_as, Slot, name_of, length_of, attribute_of, directory, open_slot, file_chain}
use Rattle.format.specs.Modules.{Module, sectors_for, bodies, plain}
use Rattle.format.proofs.ModuleLaws.{storable_module, plain_bodies}
use Rattle.format.specs.Effects.{slot_write, growth, needed, save_writes, delete_writes, reading}
use Rattle.format.specs.Calls.{save_on, delete_on, rename_on, protect_on}
use Rattle.format.proofs.CallLaws.{save_ok, delete_ok, rename_ok, protect_ok}
use Rattle.history.specs.History.{save, delete, rename, protect, File, Book, standing, named, nine_of, renamed, accepted, sum_directory}
use Rattle.format.specs.NameCounts.{called}
use Rattle.soundness.specs.Filed.{entries_of}
use Rattle.soundness.specs.Laid.{Laid, free_is}
use Rattle.soundness.specs.Found.{found, not_found, open_none, open_some}
use Rattle.soundness.specs.Pointers.{Bounded}
use Rattle.history.proofs.BookFiles.{file_of, files_of, named_few}
use Rattle.history.proofs.RenameProtect.{renamed_entry, protected_entry}
use Rattle.history.proofs.DeleteLeaves.{delete_leaves}
use Rattle.history.proofs.SaveLeaves.{SaveLeaves, open_leaves, grown_leaves}

-- start: the disc at the start of the run; d and b: the disc and the book now
pub record State (G : Geometry) (start d : Disc) (b : Book) : Type 0 where
  pub dir : List ℕ
  pub frees : List ℕ
  pub laid : Laid G d dir frees
  pub full : Full G d
  -- the book's files are the disc's, in some order
  pub same_files : Perm b.files (files_of G d dir)
  pub directory_size : length dir ≡ sum_directory G start b
  pub below_peak : length b.files ≤ b.peak

-- the stored name of an accepted command
pub nine_of_stored : (typed : List ℕ) {nine : List ℕ} → stored typed ≡ some nine → nine_of typed ≡ nine
nine_of_stored typed e = ap (λ (o : Option (List ℕ)). get_or o []) e

pub files_many : {G : Geometry} {start d : Disc} {b : Book} (st : State G start d b) → length b.files ≡ length (entries_of d st.dir)
files_many {G} {d = d} st = perm_length st.same_files ∙ length-map (entries_of d st.dir) (file_of G d)

module _ {G : Geometry} {start d : Disc} {b : Book} (u : Bounded G) (st : State G start d b) where
  -- where no more files stand, the directory is as large as before
  same_size : (fs : List File) → length fs ≤ b.peak → length st.dir ≡ sum_directory G start (standing b fs)
  unfolding sum_directory
  same_size fs h =
      let still : max b.peak (length fs) ≡ b.peak = omega arith in
      st.directory_size ∙ ap (λ (n : ℕ). max (length (directory G start)) ((n + (slots_each - 1)) / slots_each)) (sym still)

  -- ---- protect

  pub protect_state : (name : List ℕ) (on : ℕ) (buffer : List ℕ) (ws : List Write) → protect_on G d name on ≡ ok ws
      → State G start (written ws d) (accepted b (protect name on buffer))
  unfolding accepted
  protect_state name on buffer ws p =
      let q = protect_ok G d name on ws p in
      let f = found st.laid.filed q.found in
      let a : ℕ = protected_as (not (eqb on 0)) (attribute_of q.s) in
      let r = protected_entry st.laid st.full q.s f a (either (not (eqb on 0))) in
      let e : files_of G (written (slot_write d q.s attribute_offset (a ∷ []) ∷ []) d) st.dir ≡ files_of G d st.dir =
      r.files.now ∙ sym r.files.was in
      subst (λ (ws : List Write). State G start (written ws d) b) q.writes
      (record {
        dir = st.dir;
        frees = st.frees;
        laid = r.laid;
        full = r.full;
        same_files = rw e st.same_files;
        directory_size = st.directory_size;
        below_peak = st.below_peak;
      })
    where
      either : (c : Bool) → is_attribute (attribute c) ≡ true
      either true = refl
      either false = refl

  -- ---- delete

  pub delete_state : (name buffer : List ℕ) (ws : List Write) → delete_on G d name ≡ ok ws → State G start (written ws d) (accepted b (delete name buffer))
  unfolding accepted
  delete_state name buffer ws p =
      let q = delete_ok G d name ws p in
      let f = found st.laid.filed q.found in
      let r = delete_leaves u st.laid st.full q.s f in
      let nine : List ℕ = nine_of name in
      let one : length (filter (named nine) (r.pre ++ file_of G d q.s ∷ r.post)) ≤ 1 = rw r.was at (named_few st.laid.filed nine) in
      let it : named nine (file_of G d q.s) ≡ true = true_same (f.name ∙ sym (nine_of_stored name q.typed)) in
      let fs : List File = filter (λ f. not (named nine f)) b.files in
      let same_files : Perm fs (files_of G (written (delete_writes G d q.s) d) st.dir) =
      rw r.now (subst (Perm fs)
      (ap (filter (λ f. not (named nine f))) r.was ∙ without_one (named nine) r.pre r.post (file_of G d q.s) one it)
      (perm_filter (λ f. not (named nine f)) st.same_files)) in
      let fewer : length fs ≤ b.peak = omega (arith, filter_parts (named nine) b.files, st.below_peak) in
      subst (λ (ws : List Write). State G start (written ws d) (standing b fs)) q.writes
      (record {
        dir = st.dir;
        frees = file_chain G d q.s ++ st.frees;
        laid = r.laid;
        full = r.full;
        same_files = same_files;
        directory_size = same_size fs fewer;
        below_peak = omega arith;
      })

  -- ---- rename

  pub rename_state : (old new buffer : List ℕ) (ws : List Write) → rename_on G d old new ≡ ok ws
      → State G start (written ws d) (accepted b (rename old new buffer))
  unfolding accepted
  rename_state old new buffer ws p =
      let q = rename_ok G d old new ws p in
      let f = found st.laid.filed q.found in
      let long = stored_nine new q.nine' q.typed' in
      let legal = stored_legal new q.nine' q.typed' in
      let r = renamed_entry st.laid st.full q.s f q.nine' long legal (not_found st.laid.filed q.nine' q.absent) in
      let x : List ℕ = nine_of old in
      let y : List ℕ = nine_of new in
      let it : named x (file_of G d q.s) ≡ true = true_same (f.name ∙ sym (nine_of_stored old q.typed)) in
      let others : (h : File) → named x h ≡ false → renamed x y h ≡ h = λ h e.
      ap (λ (b : Bool). record { name = cond b y h.name; count = h.count; reading = h.reading }) e in
      let it' : renamed x y (file_of G d q.s) ≡ record { name = q.nine'; count = length_of q.s; reading = reading G d q.s } =
      ap₂ (λ (b : Bool) (z : List ℕ). record { name = cond b z (name_of q.s); count = length_of q.s; reading = reading G d q.s })
      it (nine_of_stored new q.typed') in
      let fs : List File = map (renamed x y) b.files in
      let moved : map (renamed x y) (files_of G d st.dir) ≡ files_of G (written (slot_write d q.s name_offset q.nine' ∷ []) d) st.dir =
      changed_one (named x) (renamed x y) r.files (named_few st.laid.filed x) it others it' in
      let fewer : length fs ≤ b.peak = omega (arith, length-map b.files (renamed x y), st.below_peak) in
      subst (λ (ws : List Write). State G start (written ws d) (standing b fs)) q.writes
      (record {
        dir = st.dir;
        frees = st.frees;
        laid = r.laid;
        full = r.full;
        same_files = subst (Perm fs) moved (perm_map (renamed x y) st.same_files);
        directory_size = same_size fs fewer;
        below_peak = omega arith;
      })

  -- ---- save

  pub save_state : (name : List ℕ) (m : Module) (buffer : List ℕ) (ws : List Write) → m.transfer < 65536 → save_on G d name m ≡ ok ws
      → State G start (written ws d) (accepted b (save name m buffer))
  unfolding accepted sum_directory needed growth
  save_state name m buffer ws small p =
      let q = save_ok G d name m ws p in
      let fresh = not_found st.laid.filed q.nine q.absent in
      let room : sectors_for (length m.bytes) + cond (is_some (open_slot G d)) 0 1 ≤ length st.frees =
      omega (arith, q.room, ap length (free_is st.laid)) in
      subst (λ (ws : List Write). State G start (written ws d) (standing b (new ∷ b.files))) q.writes
      (case q.nine q.typed (plain_bodies m small (storable_module m q.fits)) (open_slot G d) refl room fresh
      (stored_legal name q.nine q.typed) (stored_nine name q.nine q.typed))
    where
      new : File
      new = record { name = nine_of name; count = sectors_for (length m.bytes); reading = some m }

      done_with : (nine : List ℕ) → stored name ≡ some nine → plain (bodies m) ≡ some m → (k : ℕ)
          → SaveLeaves G d (written (save_writes G d nine m) d) st.dir nine m k
          → length st.dir + k ≡ max (length (directory G start)) ((max b.peak (suc (length b.files)) + (slots_each - 1)) / slots_each)
          → State G start (written (save_writes G d nine m) d) (standing b (new ∷ b.files))
      done_with nine typed back k v w =
          let e : record { name = nine; count = sectors_for (length m.bytes); reading = plain (bodies m) } ≡ new =
          λ i. record { name = sym (nine_of_stored name typed) i; count = sectors_for (length m.bytes); reading = back i } in
          record {
            dir = v.dir';
            frees = v.frees';
            laid = v.laid;
            full = v.full;
            same_files = subst (Perm (new ∷ b.files)) (sym (v.now ∙ ap (λ (f : File). v.pre ++ f ∷ v.post) e))
                (next (skip (rw v.was at st.same_files)) (perm_front new v.pre v.post));
            directory_size = v.directory_size ∙ w;
            below_peak = omega arith;
          }

      case : (nine : List ℕ) → stored name ≡ some nine → plain (bodies m) ≡ some m → (o : Option Slot) → open_slot G d ≡ o
          → sectors_for (length m.bytes) + cond (is_some o) 0 1 ≤ length st.frees
          → called nine (entries_of d st.dir) ≡ 0 → legal_stored nine ≡ true → length nine ≡ 9
          → State G start (written (save_writes G d nine m) d) (standing b (new ∷ b.files))
      case nine typed back none o room fresh legal long =
          done_with nine typed back 1 (grown_leaves u st.laid st.full nine legal long fresh m o room)
          (omega (arith, files_many st, open_none st.laid.filed o, st.directory_size, st.below_peak))
      case nine typed back (some s) o room fresh legal long =
          done_with nine typed back 0 (open_leaves u st.laid st.full nine legal long fresh m s o (omega arith))
          (omega (arith, files_many st, open_some st.laid.filed s o, st.directory_size, st.below_peak))
