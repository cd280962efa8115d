-- The files of a disc as the book has them, and what stays of them when sectors and slots are written.
-- Assumes nothing.
use Rattle.std.specs.Prelude.{◌≡◌, refl, ℕ, ◌+◌, ◌≤◌, ◌<◌, Bool, true, false, List, [], ◌∷◌, map, ◌++◌, length}
use Rattle.std.proofs.Math.Path.{ap}
use Rattle.std.proofs.Common.{ap₂, ◌∙◌, arith}
use Rattle.std.proofs.Math.Option.{Option}
use Rattle.std.proofs.lemmas.List.{map-append, length-map}
use Rattle.lists.specs.Lists.{same, cons_if, filter, times}
use Rattle.lists.specs.ListLaws.{All, done, ◌also◌, head_of_all, tail_of, all_left, all_right, map_same, times_join, at_all}
use Rattle.lists.specs.OneChanged.{OneChanged}
use Rattle.format.specs.Geometry.{Geometry, Disc, sector}
use Rattle.format.specs.Layout.{Slot, name_of, length_of, link_of, first_of, last_of, file_chain}
use Rattle.format.specs.Modules.{Module, plain}
use Rattle.format.specs.Effects.{body, reading}
use Rattle.history.specs.History.{File, named}
use Rattle.format.specs.NameCounts.{of_name, called}
use Rattle.format.specs.RuleLaws.{GoodChain}
use Rattle.soundness.specs.Filed.{entries_of, chains_of, Filed}
use Rattle.soundness.specs.Frames.{file_frame, chains_at}

abbrev pub file_of : Geometry → Disc → Slot → File
file_of G d s = record { name = name_of s; count = length_of s; reading = reading G d s }

-- the files of the entries in the directory sectors dir
abbrev pub files_of : Geometry → Disc → List ℕ → List File
files_of G d dir = map (file_of G d) (entries_of d dir)

module _ (G : Geometry) (d d' : Disc) where
  -- a file whose sectors stay is read as before
  pub reading_frame : (s s' : Slot) → file_chain G d' s' ≡ file_chain G d s → ((n : ℕ) → 0 < times n (file_chain G d s) → sector d' n ≡ sector d n)
      → reading G d' s' ≡ reading G d s
  unfolding reading
  reading_frame s s' e h = ap plain (ap (map (λ n. body (sector d' n))) e ∙ map_same (at_all (file_chain G d s) (λ n k. ap body (h n k))))

  pub file_of_frame : (ss : List Slot) → All (GoodChain G d) ss → ((n : ℕ) → 0 < times n (chains_of G d ss) → sector d' n ≡ sector d n)
      → map (file_of G d') ss ≡ map (file_of G d) ss
  file_of_frame [] done h = refl
  file_of_frame (s ∷ ss) (f also fs) h =
      let here : (n : ℕ) → 0 < times n (file_chain G d s) → sector d' n ≡ sector d n = λ n k.
      h n (omega (arith, times_join n (file_chain G d s) (chains_of G d ss))) in
      let c = file_frame d' s refl refl refl f (at_all (file_chain G d s) (λ n k. ap (link_of G) (here n k))) in
      ap₂ (λ (a : File) (r : List File). a ∷ r)
      (ap (λ (r : Option Module). record { name = name_of s; count = length_of s; reading = r }) (reading_frame s s c.0 here))
      (file_of_frame ss fs (λ n k. h n (omega (arith, times_join n (file_chain G d s) (chains_of G d ss)))))

-- one slot changes, but not its file's sectors
pub files_of_changed : {G : Geometry} {d : Disc} (d' : Disc) (dir : List ℕ) {s s' : Slot} → All (GoodChain G d) (entries_of d dir)
    → OneChanged (entries_of d dir) (entries_of d' dir) s s'
    → ((n : ℕ) → 0 < times n (chains_of G d (entries_of d dir)) → sector d' n ≡ sector d n) → first_of G s' ≡ first_of G s → last_of G s' ≡ last_of G s
    → length_of s' ≡ length_of s
    → OneChanged (files_of G d dir) (files_of G d' dir) (file_of G d s) (record { name = name_of s'; count = length_of s; reading = reading G d s })
files_of_changed {G} {d} d' dir {s = s} {s' = s'} files p stay e1 e2 e3 =
    let fs = rw p.was at files in
    let stay' : (n : ℕ) → 0 < times n (chains_of G d p.pre) + times n (file_chain G d s) + times n (chains_of G d p.post) → sector d' n ≡ sector d n = λ n h.
    stay n (rw p.was (omega (arith, chains_at G d p.pre p.post s n))) in
    let a = file_of_frame G d d' p.pre (all_left p.pre (s ∷ p.post) fs) (λ n h. stay' n (omega arith)) in
    let b = file_of_frame G d d' p.post (tail_of (all_right p.pre fs)) (λ n h. stay' n (omega arith)) in
    let c = file_frame d' s' e1 e2 e3 (head_of_all (all_right p.pre fs)) (at_all (file_chain G d s) (λ n h. ap (link_of G) (stay' n (omega arith)))) in
    let r = reading_frame G d d' s s' c.0 (λ n h. stay' n (omega arith)) in
    record {
      pre = map (file_of G d) p.pre;
      post = map (file_of G d) p.post;
      was = ap (map (file_of G d)) p.was ∙ map-append (file_of G d) p.pre (s ∷ p.post);
      now = ap (map (file_of G d')) p.now ∙ map-append (file_of G d') p.pre (s' ∷ p.post)
          ∙ λ i. a i ++ record { name = name_of s'; count = e3 i; reading = r i } ∷ b i;
    }

-- ---- by name

-- the files of a name are those of the entries of that name
pub named_files : (G : Geometry) (d : Disc) (x : List ℕ) (ss : List Slot) → filter (named x) (map (file_of G d) ss) ≡ map (file_of G d) (of_name x ss)
named_files G d x [] = refl
named_files G d x (s ∷ ss) = by (same (name_of s) x) (named_files G d x ss)
  where
    by : (b : Bool) → filter (named x) (map (file_of G d) ss) ≡ map (file_of G d) (of_name x ss)
        → cons_if b (file_of G d s) (filter (named x) (map (file_of G d) ss)) ≡ map (file_of G d) (cons_if b s (of_name x ss))
    by true h = ap (λ (r : List File). file_of G d s ∷ r) h
    by false h = h

pub named_few : {G : Geometry} {d : Disc} {dir : List ℕ} → Filed G d dir → (x : List ℕ) → length (filter (named x) (files_of G d dir)) ≤ 1
unfolding called
named_few {G} {d} {dir} f x =
    omega (arith, ap length (named_files G d x (entries_of d dir)), length-map (of_name x (entries_of d dir)) (file_of G d), f.names_differ x)
