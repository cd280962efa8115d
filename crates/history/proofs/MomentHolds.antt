-- What the state says at one moment: the claim of demand 3 about it.
-- Assumes nothing.
use Rattle.std.proofs.Math.Path.{◌≡◌, refl, sym, ap}
use Rattle.std.proofs.Common.{ap₂, ◌∙◌, subst, arith, true≢false, length-take-le, ne_eqb, eq-eqb, ltb-false}
use Rattle.std.specs.Prelude.{ℕ, ◌+◌, ◌*◌, ◌≤◌, Bool, not, true, eqb}
use Rattle.std.proofs.Math.Bool.{cond, false}
use Rattle.std.proofs.Math.Option.{Option, none, some}
use mathlib.Core.List.{List, [], ◌∷◌, map, ◌++◌, head?, map-map}
use Rattle.std.proofs.Math.ListN.{length, get_elem?}
use Rattle.std.proofs.Math.Dec.{ltb}
use Rattle.lists.specs.Lists.{is_some, any, filter, sum, Once}
use Rattle.lists.specs.ListLaws.{true_and, All, all_map, all_both, true_all, all_mapped, same_refl}
use Rattle.lists.specs.Permutations.{perm_map, perm_filter, perm_length, perm_all, perm_back, perm_few, perm_sum}
use Rattle.lists.specs.OnlyOne.{any_head, one_at, all_got}
use Rattle.format.specs.Refusals.{Refusal, NAME, UNSOUND, ABSENT, TAKEN, MODULE, ROOM, NOT-PLAIN, SHORT, Try, refused, ok, ◌>>=◌, ◌>>◌, refuse◌if◌, ◌or_refuse◌, number, value_or}
use Rattle.format.specs.Geometry.{Format, Geometry, sectors, geometry, Disc, cut, Write}
use Rattle.format.specs.Names.{stored}
use Rattle.format.proofs.NameLaws.{legal_typed}
use Rattle.format.specs.Layout.{slots_each, Slot, name_of, length_of, free, open_slot, find, file_sectors, places}
use Rattle.format.proofs.ChainLaws.{chain_has_end}
use Rattle.format.specs.Modules.{Module, storable, sectors_for}
use Rattle.format.specs.Effects.{growth, needed, save_writes, reading}
use Rattle.format.specs.Writes.{write_list, list_size}
use Rattle.format.specs.Calls.{read_on, save_before_on, save_on, asked, listed, save, check_answer_by, read_answer_by, after_check, after_read, after_save}
use Rattle.format.proofs.WriteLaws.{list_long}
use Rattle.format.proofs.ListedLaws.{change_number}
use Rattle.history.specs.History.{File, Book, named, says, sum_directory, sum_files, sum_free, sum_need, save_says}
use Rattle.history.specs.Demand3.{all_end, Moment}
use Rattle.format.specs.NameCounts.{of_name}
use Rattle.soundness.specs.Slots.{in_use_all, SlotOf, slots_of_each}
use Rattle.format.specs.RuleLaws.{GoodEntry}
use Rattle.format.proofs.RuleLaws.{chain_few}
use Rattle.soundness.specs.Filed.{entries_of, chains_of, dir_few, directory_is, entries_are}
use Rattle.soundness.specs.Laid.{free_few, free_is, laid_sound}
use Rattle.soundness.specs.Frames.{laid_sum}
use Rattle.soundness.specs.Found.{slot_length, find_is, open_none, open_some}
use Rattle.soundness.specs.WriteFacts.{savable}
use Rattle.soundness.specs.ListedWrites.{save_on_disc}
use Rattle.soundness.specs.SavedList.{saved_many}
use Rattle.history.proofs.BookFiles.{file_of, files_of, named_files, named_few}
use Rattle.history.proofs.State.{State, files_many}

-- what read gives by the book, whose file of the name is f, if there is one
pub gives : Option File → (room : ℕ) → Try Refusal Module
gives none room = refused ABSENT
gives (some f) room = says f.reading room

-- the answers of a save by the disc and by the book, where their tests agree: the last need agree only where the one for room has passed
same_answer : {A : Type 0} (o : Option (List ℕ)) (c : Bool) (t t' : List ℕ → Bool) (r r' : Bool) (l : List Write → Bool) (l' : Bool)
    (ws : List ℕ → List Write) (a : List Write → A)
    → ((nine : List ℕ) → t nine ≡ t' nine) → r ≡ r' → ((nine : List ℕ) → r' ≡ false → l (ws nine) ≡ l')
    → number ((o or_refuse NAME >>= λ nine. (refuse MODULE if c >> (refuse UNSOUND if false >> (refuse TAKEN if t nine >> ok nine))))
    >>= (λ nine. (refuse ROOM if r >> ok (ws nine))) >>= λ ws. (refuse SHORT if l ws >> ok (a ws)))
    ≡ number (o or_refuse NAME >>= λ nine. (refuse MODULE if c >> (refuse TAKEN if t' nine >> (refuse ROOM if r' >> refuse SHORT if l'))))
unfolding number ◌or_refuse◌ ◌>>=◌ ◌>>◌ refuse◌if◌
same_answer none c t t' r r' l l' ws a e f g = refl
same_answer {A} (some nine) c t t' r r' l l' ws a e f g = rw (e nine, f) (by c (t' nine) r' (g nine))
  where
    last : (x : Bool) → number {A = A} (refuse SHORT if x >> ok (a (ws nine))) ≡ number (refuse SHORT if x)
    last true = refl
    last false = refl

    by : (c t r : Bool) → (r ≡ false → l (ws nine) ≡ l')
        → number ((refuse MODULE if c >> (refuse UNSOUND if false >> (refuse TAKEN if t >> ok nine)))
        >>= (λ nine. (refuse ROOM if r >> ok (ws nine))) >>= λ ws. (refuse SHORT if l ws >> ok (a ws)))
        ≡ number (refuse MODULE if c >> (refuse TAKEN if t >> (refuse ROOM if r >> refuse SHORT if l')))
    by true t r g = refl
    by false true r g = refl
    by false false true g = refl
    by false false false g = rw (g refl) (last l')

module _ {G : Geometry} {start d : Disc} {b : Book} (st : State G start d b) where
  -- ---- each sector in one place

  places_are : places G d ≡ st.dir ++ chains_of G d (entries_of d st.dir) ++ st.frees
  unfolding file_sectors
  places_are = rw (directory_is st.laid.filed, entries_are st.laid.filed, free_is st.laid)

  all_ends : all_end G d ≡ true
  unfolding all_end
  all_ends =
      let l = st.laid in
      let f = l.filed in
      true_and (true_and (chain_has_end G d (sectors G) f.directory_chain (dir_few f)) (chain_has_end G d (sectors G) l.free_chain (free_few l)))
      (rw (entries_are f) (true_all (all_map (λ s c. chain_has_end G d (sectors G) c.chained (chain_few G d s)) f.good_chains)))

  -- ---- the sum

  files_sum : sum_files G start b ≡ sum (map length_of (entries_of d st.dir))
  unfolding sum_files
  files_sum = perm_sum (perm_map (λ (f : File). f.count) st.same_files) ∙ ap sum (map-map (λ (f : File). f.count) (file_of G d) (entries_of d st.dir))

  free_sum : sum_free G start b ≡ length (free G d)
  unfolding sum_free
  free_sum = omega (arith, laid_sum st.laid, st.directory_size, files_sum, ap length (free_is st.laid))

  added_sum : length (free G d) + 1 + sum_directory G start b + sum_files G start b ≡ sectors G
  added_sum = omega (arith, laid_sum st.laid, st.directory_size, files_sum, ap length (free_is st.laid), st.laid.filed.some_directory)

  growth_is : growth G d ≡ cond (eqb (length b.files) (slots_each * sum_directory G start b)) 1 0
  unfolding growth
  growth_is = case (open_slot G d) refl
    where
      case : (o : Option Slot) → open_slot G d ≡ o → ◌≡◌ {A = ℕ} (cond (is_some o) 0 1) (cond (eqb (length b.files) (slots_each * sum_directory G start b)) 1 0)
      case none o =
          sym (ap (λ (c : Bool). cond c 1 0)
          (eq-eqb (length b.files) (slots_each * sum_directory G start b) (omega (arith, files_many st, open_none st.laid.filed o, st.directory_size))))
      case (some s) o =
          sym (ap (λ (c : Bool). cond c 1 0)
          (ne_eqb (length b.files) (slots_each * sum_directory G start b)
          (λ e. omega (arith, files_many st, open_some st.laid.filed s o, st.directory_size))))

  need_is : (m : Module) → sum_need G start b m ≡ needed G d (length m.bytes)
  unfolding sum_need needed
  need_is m = ap (λ (k : ℕ). sectors_for (length m.bytes) + k) (sym growth_is)

  -- ---- the file of a name

  as_file : Option Slot → Option File
  as_file none = none
  as_file (some s) = some (file_of G d s)

  head_file : (ss : List Slot) → head? (map (file_of G d) ss) ≡ as_file (head? ss)
  unfolding as_file
  head_file [] = refl
  head_file (s ∷ ss) = refl

  -- the book's file of a name is the disc's
  look : (nine : List ℕ) → head? (filter (named nine) b.files) ≡ as_file (find G d nine)
  look nine =
      ap head? (perm_few (filter (named nine) b.files) (filter (named nine) (files_of G d st.dir)) (perm_filter (named nine) st.same_files)
      (named_few st.laid.filed nine)
      ∙ named_files G d nine (entries_of d st.dir))
      ∙ head_file (of_name nine (entries_of d st.dir)) ∙ ap as_file (sym (find_is st.laid.filed nine))

  named_once : (nine : List ℕ) → length (filter (named nine) b.files) ≤ 1
  named_once nine = omega (arith, perm_length (perm_filter (named nine) st.same_files), named_few st.laid.filed nine)

  taken : (nine : List ℕ) → is_some (find G d nine) ≡ any (named nine) b.files
  unfolding as_file
  taken nine = sym (any_head (named nine) b.files ∙ ap is_some (look nine) ∙ case (find G d nine))
    where
      case : (o : Option Slot) → is_some (as_file o) ≡ is_some o
      case none = refl
      case (some s) = refl

  -- ---- what a save answers

  -- its list, where there is room on the disc, has the length that the book says
  list_size_fits : (nine : List ℕ) (m : Module) → ltb (sum_free G start b) (sum_need G start b m) ≡ false
      → length (write_list G (save_writes G d nine m)) ≡ list_size (sum_need G start b m + 2)
  list_size_fits nine m e =
      let room : needed G d (length m.bytes) ≤ length (free G d) =
      omega (arith, ltb-false (sum_free G start b) (sum_need G start b m) e, free_sum, need_is m) in
      let long = list_long G (save_on_disc G d st.full (savable G d (laid_sound st.laid)) nine m room) in
      omega (arith, long, saved_many G d nine m room, need_is m)

  save_on_answers : {A : Type 0} (name : List ℕ) (m : Module) (room : ℕ) (a : List Write → A)
      → number (save_on G d name m >>= λ ws. (refuse SHORT if ltb room (length (write_list G ws)) >> ok (a ws))) ≡ number (save_says G start b name m room)
  unfolding save_on save_before_on save_says
  save_on_answers name m room a =
      rw (laid_sound st.laid) (same_answer (stored name) (not (storable m)) (λ nine. is_some (find G d nine)) (λ nine. any (named nine) b.files)
      (ltb (length (free G d)) (needed G d (length m.bytes))) (ltb (sum_free G start b) (sum_need G start b m))
      (λ ws. ltb room (length (write_list G ws))) (ltb room (list_size (sum_need G start b m + 2))) (λ nine. save_writes G d nine m) a
      taken (ap₂ ltb (sym free_sum) (sym (need_is m))) (λ nine e. ap (ltb room) (list_size_fits nine m e)))

  -- ---- what a read gives

  pub read_on_gives : (typed nine : List ℕ) (room : ℕ) → stored typed ≡ some nine → read_on G d typed room ≡ gives (head? (filter (named nine) b.files)) room
  unfolding read_on as_file gives says ◌or_refuse◌ ◌>>=◌ ◌>>◌ refuse◌if◌
  read_on_gives typed nine room e =
      rw (e, laid_sound st.laid) (case (find G d nine) ∙ ap (λ (o : Option File). gives o room) (sym (look nine)))
    where
      inner : (s : Slot) (r : Option Module) → reading G d s ≡ r
          → (reading G d s or_refuse NOT-PLAIN >>= λ m. (refuse SHORT if ltb room (length m.bytes) >> ok m)) ≡ gives (some (file_of G d s)) room
      inner s none e = rw e
      inner s (some m) e = rw e

      case : (o : Option Slot)
          → (o or_refuse ABSENT >>= λ s. (reading G d s or_refuse NOT-PLAIN >>= λ m. (refuse SHORT if ltb room (length m.bytes) >> ok m)))
          ≡ gives (as_file o) room
      case none = refl
      case (some s) = inner s (reading G d s) refl

  file_reads : (i : ℕ) (f : File) → get_elem? b.files i ≡ some f → (typed : List ℕ) (room : ℕ) → stored typed ≡ some f.name
      → read_on G d typed room ≡ says f.reading room
  unfolding gives
  file_reads i f e typed room t =
      read_on_gives typed f.name room t
      ∙ ap (λ (fs : List File). gives (head? fs) room) (one_at (named f.name) b.files i f e (same_refl f.name) (named_once f.name))

  absent_reads : (typed nine : List ℕ) (room : ℕ) → stored typed ≡ some nine → any (named nine) b.files ≡ false → read_on G d typed room ≡ refused ABSENT
  unfolding gives
  absent_reads typed nine room t e =
      read_on_gives typed nine room t ∙ case (head? (filter (named nine) b.files)) (sym (any_head (named nine) b.files) ∙ e)
    where
      case : (o : Option File) → is_some o ≡ false → gives o room ≡ refused ABSENT
      case none q = refl
      case (some f) q = absurd (true≢false q)

  -- ---- every name in the book can be typed

  all_typable : All (λ f. (typed : List ℕ) × (stored typed ≡ some f.name)) b.files
  all_typable =
      perm_all (perm_back st.same_files)
      (all_mapped (file_of G d) (all_map each (all_both st.laid.filed.good_entries (in_use_all (slots_of_each d st.dir)))))
    where
      each : (s : Slot) → GoodEntry s × SlotOf d st.dir s → (typed : List ℕ) × (stored typed ≡ some (name_of s))
      each s h = legal_typed (name_of s) (length-take-le 9 s.bytes (omega (arith, slot_length st.laid.filed s h.1 st.full))) h.0.legal

-- ---- the moment

pub moment : (F : Format) (G : Geometry) (s image : List ℕ) (b : Book) → geometry F (length image) ≡ ok G → length image ≡ length s
    → State G (cut F G s) (cut F G image) b → Moment F G s image b
unfolding asked listed ◌>>=◌ number value_or after_check check_answer_by after_save after_read
moment F G s image b g long st =
    let o = subst (Once (sectors G)) (sym (places_are st)) st.laid.once in
    record {
      size = long;
      checked = rw g (ap (λ (k : ℕ). record { number = 0; rule = k }) (laid_sound st.laid));
      ending = all_ends st;
      once = o.inside;
      system_never = o.zeroth;
      free_chain = sym (free_sum st);
      free_counted = st.laid.free_counted ∙ sym (ap length (free_is st.laid)) ∙ sym (free_sum st);
      free_added = added_sum st;
      saves = λ name m buffer. change_number image buffer (save F image name m (length buffer)) ∙ rw g (save_on_answers st name m (length buffer) _);
      reads = λ i f e typed buffer t. rw g (ap (read_answer_by buffer) (file_reads st i f e typed (length buffer) t));
      typable = λ i f e. all_got i f (all_typable st) e;
      absent = λ typed nine buffer t e. rw g (ap (read_answer_by buffer) (absent_reads st typed nine (length buffer) t e));
    }
