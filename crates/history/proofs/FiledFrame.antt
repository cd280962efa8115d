-- Rules 1 to 5 look only at the directory pointer and at the sectors of the directory and the files: where these stay, the rules, the entries
-- and the files do.
-- Assumes nothing.
use Rattle.std.specs.Prelude.{◌≡◌, ℕ, ◌+◌, ◌<◌}
use Rattle.std.proofs.Math.Path.{ap}
use Rattle.std.proofs.Common.{◌∙◌, arith}
use mathlib.Core.List.{List, map}
use Rattle.lists.specs.Lists.{joined, times}
use Rattle.lists.specs.ListLaws.{All, map_same, all_at, at_all}
use Rattle.format.specs.Geometry.{Geometry, Disc, sector}
use Rattle.format.specs.Layout.{in_use, slots_of, link_of, directory_pointer}
use Rattle.format.proofs.ChainLaws.{chain_frame}
use Rattle.soundness.specs.Slots.{slots_same}
use Rattle.format.specs.RuleLaws.{GoodChain, Counted}
use Rattle.soundness.specs.Filed.{entries_of, chains_of, Filed}
use Rattle.soundness.specs.Frames.{files_frame}
use Rattle.history.proofs.BookFiles.{file_of, files_of, file_of_frame}

module _ {G : Geometry} {d : Disc} (d' : Disc) {dir : List ℕ} (f : Filed G d dir) (pointer : directory_pointer G d' ≡ directory_pointer G d)
    (stays : (n : ℕ) → 0 < times n dir + times n (chains_of G d (entries_of d dir)) → sector d' n ≡ sector d n) where
  pub frame_entries : entries_of d' dir ≡ entries_of d dir
  unfolding slots_of
  frame_entries = ap (λ (r : List (List _)). in_use (joined r)) (map_same (at_all dir (λ n h. slots_same d d' n (stays n (omega arith)))))

  chains : (chains_of G d' (entries_of d dir) ≡ chains_of G d (entries_of d dir)) × All (GoodChain G d') (entries_of d dir)
  chains = files_frame d' (entries_of d dir) f.good_chains (λ n h. ap (link_of G) (stays n (omega arith)))

  pub frame_met : chains_of G d' (entries_of d' dir) ≡ chains_of G d (entries_of d dir)
  frame_met = ap (chains_of G d') frame_entries ∙ chains.0

  counted : (n : ℕ) → 0 < times n dir → Counted d' n
  counted n h = let e = stays n (omega arith) in rw (e, slots_same d d' n e) (all_at (Counted d) n f.in_use_counted h)

  pub frame_filed : Filed G d' dir
  frame_filed =
      record {
        directory_chain = rw pointer (chain_frame d' f.directory_chain (at_all dir (λ n h. ap (link_of G) (stays n (omega arith)))));
        some_directory = f.some_directory;
        in_use_counted = at_all dir counted;
        good_entries = rw frame_entries f.good_entries;
        names_differ = λ x. rw frame_entries (f.names_differ x);
        good_chains = rw frame_entries chains.1;
        apart = λ n. rw frame_met (f.apart n);
      }

  -- "reads as before": names, lengths and readings
  pub frame_files : files_of G d' dir ≡ files_of G d dir
  frame_files = ap (map (file_of G d')) frame_entries ∙ file_of_frame G d d' (entries_of d dir) f.good_chains (λ n h. stays n (omega arith))
