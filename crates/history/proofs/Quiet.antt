-- What holds between a cut and the repair: rules 1 to 5, and the book's files are the disc's. A cut command leaves this, an accepted one keeps it, and
-- a repair gives the whole state back.
-- Assumes nothing.
use Rattle.std.specs.Prelude.{◌≡◌, ℕ, ◌+◌, ◌≤◌, ◌<◌, Bool, cond, true, false, List, length, take}
use Rattle.std.proofs.Common.{ap, ◌∙◌, subst, arith, eqb-true}
use Rattle.lists.specs.Lists.{times}
use Rattle.lists.specs.ListLaws.{All, all_map, times_past, all_take}
use Rattle.lists.specs.Permutations.{Perm}
use Rattle.format.specs.Refusals.{ok}
use Rattle.format.specs.Geometry.{Geometry, Disc, Write, sector, written}
use Rattle.format.specs.GeometryLaws.{Full}
use Rattle.format.specs.Layout.{free}
use Rattle.format.specs.Check.{broken}
use Rattle.format.specs.Effects.{repair_writes}
use Rattle.format.specs.WriteLaws.{WholeOn}
use Rattle.format.proofs.WholeWrites.{written_full}
use Rattle.format.proofs.CallLaws.{save_ok, delete_ok, rename_ok, protect_ok}
use Rattle.soundness.specs.Filed.{entries_of, chains_of, Filed, directory_is}
use Rattle.soundness.specs.Laid.{Laid, laid_one, free_is, sound_laid}
use Rattle.soundness.specs.Pointers.{Bounded}
use Rattle.soundness.specs.ListedWrites.{save_listed, delete_listed, rename_listed, protect_listed}
use Rattle.history.specs.History.{Book, accepted, sum_directory}
use Rattle.history.specs.Demand3.{Handed}
use Rattle.history.specs.Cuts.{Writing, save, delete, rename, protect, as_command, writes_on, is_done}
use Rattle.history.proofs.BookFiles.{files_of}
use Rattle.history.proofs.State.{State, protect_state, delete_state, rename_state, save_state}
use Rattle.history.proofs.BlankLaid.{Passes}
use Rattle.history.proofs.FiledFrame.{frame_filed, frame_files, frame_entries}
use Rattle.history.proofs.RepairLeaves.{repaired}
use Rattle.history.proofs.CutWrites.{Within, cut_within}

-- the state of demand 3 without the free chain and the counts
pub record Quiet (G : Geometry) (start d : Disc) (b : Book) : Type 0 where
  pub dir : List ℕ
  pub filed : Filed G d dir
  pub full : Full G d
  pub same_files : Perm b.files (files_of G d dir)
  pub directory_size : length dir ≡ sum_directory G start b
  pub below_peak : length b.files ≤ b.peak

module _ {G : Geometry} {start : Disc} {b : Book} where
  pub state_quiet : {d : Disc} → State G start d b → Quiet G start d b
  state_quiet st =
      record {
        dir = st.dir;
        filed = st.laid.filed;
        full = st.full;
        same_files = st.same_files;
        directory_size = st.directory_size;
        below_peak = st.below_peak;
      }

  -- a disc that passes the check has the whole state
  pub quiet_sound : {d : Disc} → Quiet G start d b → broken G d ≡ 0 → State G start d b
  quiet_sound {d} q e =
      record {
        dir = q.dir;
        frees = free G d;
        laid = subst (λ (dir : List ℕ). Laid G d dir (free G d)) (directory_is q.filed) (sound_laid G d e);
        full = q.full;
        same_files = q.same_files;
        directory_size = q.directory_size;
        below_peak = q.below_peak;
      }

  -- a repair gives it back
  pub quiet_repaired : {d : Disc} → Passes G → Quiet G start d b → State G start (written (repair_writes G d) d) b
  quiet_repaired ps q =
      let r = repaired ps q.filed q.full in
      record {
        dir = q.dir;
        frees = _;
        laid = r.laid;
        full = r.full;
        same_files = rw r.same_files q.same_files;
        directory_size = q.directory_size;
        below_peak = q.below_peak;
      }

-- ---- within what the check leaves free

module _ {G : Geometry} {r d : Disc} {dir frees : List ℕ} (l : Laid G r dir frees) (w : Within G r d) where
  pub in_place : (n : ℕ) → 0 < times n dir + times n (chains_of G r (entries_of r dir)) → sector d n ≡ sector r n
  in_place n h =
      let one = laid_one l n in
      w.stays n (times_past n 0 (free G r) (λ e. omega (arith, one.low (omega arith))) ∙ ap (times n) (free_is l) ∙ omega (arith, one.one))

  pub within_filed : Filed G d dir
  within_filed = frame_filed d l.filed w.pointer in_place

  pub within_entries : entries_of d dir ≡ entries_of r dir
  within_entries = frame_entries d l.filed w.pointer in_place

  pub within_files : files_of G d dir ≡ files_of G r dir
  within_files = frame_files d l.filed w.pointer in_place

pub within_quiet : {G : Geometry} {start r d : Disc} {b : Book} → State G start r b → Within G r d → Full G d → Quiet G start d b
within_quiet st w z =
    record {
      dir = st.dir;
      filed = within_filed st.laid w;
      full = z;
      same_files = rw (within_files st.laid w) st.same_files;
      directory_size = st.directory_size;
      below_peak = st.below_peak;
    }

-- ---- the commands that write

-- an accepted one found a sound disc
pub writing_sound : (G : Geometry) (d : Disc) (w : Writing) (ws : List Write) → writes_on w G d ≡ ok ws → broken G d ≡ 0
unfolding writes_on
writing_sound G d (save name m) ws p = eqb-true _ _ (save_ok G d name m ws p).checked
writing_sound G d (delete name) ws p = eqb-true _ _ (delete_ok G d name ws p).checked
writing_sound G d (rename old new) ws p = eqb-true _ _ (rename_ok G d old new ws p).checked
writing_sound G d (protect name on) ws p = eqb-true _ _ (protect_ok G d name on ws p).checked

-- and writes whole sectors of the disc
pub writing_whole : (G : Geometry) (d : Disc) → Full G d → (w : Writing) (ws : List Write) → writes_on w G d ≡ ok ws → All (WholeOn G) ws
unfolding writes_on
writing_whole G d z (save name m) ws p = save_listed G d z name m ws p
writing_whole G d z (delete name) ws p = delete_listed G d z name ws p
writing_whole G d z (rename old new) ws p = rename_listed G d z old new ws p
writing_whole G d z (protect name on) ws p = protect_listed G d z name on ws p

-- so the disc stays full, however many of them are made
pub whole_full : {G : Geometry} {d : Disc} → Full G d → (ws : List Write) → All (WholeOn G) ws → Full G (written ws d)
whole_full z ws h = written_full ws (all_map (λ w k l. k.1) h) z

pub cut_full : {G : Geometry} {d : Disc} → Full G d → (w : Writing) (ws : List Write) → writes_on w G d ≡ ok ws → (k : ℕ) → Full G (written (take k ws) d)
cut_full {G} {d} z w ws p k = whole_full z (take k ws) (all_take k (writing_whole G d z w ws p))

module _ {G : Geometry} {start d : Disc} {b : Book} (u : Bounded G) where
  pub writing_state : State G start d b → (w : Writing) (buffer : List ℕ) (ws : List Write) → Handed (as_command w buffer) → writes_on w G d ≡ ok ws
      → State G start (written ws d) (accepted b (as_command w buffer))
  unfolding writes_on
  writing_state st (save name m) buffer ws h p = save_state u st name m buffer ws h p
  writing_state st (delete name) buffer ws h p = delete_state u st name buffer ws p
  writing_state st (rename old new) buffer ws h p = rename_state u st old new buffer ws p
  writing_state st (protect name on) buffer ws h p = protect_state u st name on buffer ws p

  -- a cut command counts as done or not done
  pub cut_quiet : State G start d b → (w : Writing) (buffer : List ℕ) (ws : List Write) → Handed (as_command w buffer) → writes_on w G d ≡ ok ws → (k : ℕ)
      → Quiet G start (written (take k ws) d) (cond (is_done w (length ws) k) (accepted b (as_command w buffer)) b)
  cut_quiet st w buffer ws h p k = by (is_done w (length ws) k) (cut_within G u d st.full w ws p k)
    where
      by : (o : Bool) → Within G (cond o (written ws d) d) (written (take k ws) d)
          → Quiet G start (written (take k ws) d) (cond o (accepted b (as_command w buffer)) b)
      by true v = within_quiet (writing_state st w buffer ws h p) v (cut_full st.full w ws p k)
      by false v = within_quiet st v (cut_full st.full w ws p k)
