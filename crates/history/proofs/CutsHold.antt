-- The claims of Cuts hold: what a repair leaves, and a command cut after any of its writes and repaired.
-- Assumes nothing.
use Rattle.std.specs.Prelude.{◌≡◌, refl, ℕ, Bool, true, false, not, cond, ◌||◌, length, take}
use Rattle.std.proofs.Common.{sym, ap, ◌∙◌, subst, true≢false}
use Rattle.std.proofs.Math.Option.{Option, none, some, some-injective}
use mathlib.Core.List.{List, [], ◌∷◌, map, head?}
use Rattle.lists.specs.Lists.{same, cons_if, filter}
use Rattle.lists.specs.ListLaws.{filter_yes, filter_no, same_true, all_take, true_same, Same, equal, unequal, same_or_not}
use Rattle.format.specs.Refusals.{ok, ◌>>=◌, ◌or_refuse◌, number}
use Rattle.format.proofs.RefusalLaws.{refused_ok}
use Rattle.format.specs.Geometry.{Format, unknown, stated, Geometry, geometry, Disc, cut, flat, Write, written}
use Rattle.format.specs.Arrangements.{Arranged}
use Rattle.format.specs.Formats.{GoodFormat}
use Rattle.format.proofs.Formats.{stated_cases}
use Rattle.format.proofs.GeometryLaws.{geometry_ok, no_disc}
use Rattle.format.specs.Names.{stored}
use Rattle.format.specs.Layout.{entries}
use Rattle.format.specs.CheckLaws.{RulesTo5}
use Rattle.format.proofs.CheckLaws.{hold_rules}
use Rattle.format.specs.Modules.{sectors_for}
use Rattle.format.specs.Effects.{repair_writes}
use Rattle.format.specs.Writes.{write_list}
use Rattle.format.proofs.WriteLaws.{held_list}
use Rattle.format.proofs.CallLaws.{repair_done}
use Rattle.format.specs.Calls.{read_on, replay_on, repair_on, asked, answered, read_answer_by, after_read, after_replay, after_repair}
use Rattle.soundness.specs.Filed.{Filed, rules_filed, filed_rules, entries_are}
use Rattle.soundness.specs.Laid.{laid_sound}
use Rattle.history.specs.History.{File, Book, named, nine_of, renamed, opening_book}
use Rattle.history.specs.History as history
use Rattle.history.specs.Demand3.{Handed}
use Rattle.history.specs.Cuts.{Writing, save, delete, rename, protect, as_command, writes_on, after_cut, is_done, names, Repaired, Repairs, Mended, CutRepairs}
use Rattle.history.proofs.BookFiles.{file_of, files_of}
use Rattle.history.proofs.State.{State}
use Rattle.history.proofs.MomentHolds.{gives, read_on_gives}
use Rattle.history.proofs.Steps.{arranged_here, bounded_here, full_here, opening_state, sound_checked, now_long, now_sized, now_cut}
use Rattle.history.proofs.BlankLaid.{Passes}
use Rattle.history.proofs.BlankStarts.{passes}
use Rattle.history.proofs.RepairLeaves.{repaired}
use Rattle.history.proofs.CutWrites.{Within, cut_within}
use Rattle.history.proofs.Quiet.{quiet_repaired, within_filed, within_entries, within_quiet, writing_sound, writing_whole, writing_state, cut_full}
use Rattle.history.proofs.Writings.{changed_done, cut_done, made_by, writes_in_list}

-- ---- files that a command doesn't name

module _ (x nine : List ℕ) (differs : same x nine ≡ false) where
  other : (f : File) → named nine f ≡ true → named x f ≡ false
  other f h = by (same_or_not f.name x)
    where
      by : Same f.name x → named x f ≡ false
      by (equal q r) = absurd (true≢false (sym (true_same (sym q ∙ same_true _ _ h)) ∙ differs))
      by (unequal q r) = r

  delete_unnamed : (fs : List File) → filter (named nine) (filter (λ f. not (named x f)) fs) ≡ filter (named nine) fs
  delete_unnamed [] = refl
  delete_unnamed (f ∷ fs) = by (named nine f) (named x f) refl refl (delete_unnamed fs)
    where
      by : (a b : Bool) → named nine f ≡ a → named x f ≡ b → filter (named nine) (filter (λ f. not (named x f)) fs) ≡ filter (named nine) fs
          → filter (named nine) (cons_if (not b) f (filter (λ f. not (named x f)) fs)) ≡ cons_if a f (filter (named nine) fs)
      by true true p q h = absurd (true≢false (sym q ∙ other f p))
      by true false p q h = filter_yes (named nine) f (filter (λ f. not (named x f)) fs) p ∙ ap (λ (r : List File). f ∷ r) h
      by false true p q h = h
      by false false p q h = filter_no (named nine) f (filter (λ f. not (named x f)) fs) p ∙ h

  rename_unnamed : (y : List ℕ) → same y nine ≡ false → (fs : List File) → filter (named nine) (map (renamed x y) fs) ≡ filter (named nine) fs
  rename_unnamed y e [] = refl
  rename_unnamed y e (f ∷ fs) = by (named nine f) (named x f) refl refl (rename_unnamed y e fs)
    where
      now : Bool → File
      now b = record { name = cond b y f.name; count = f.count; reading = f.reading }

      by : (a b : Bool) → named nine f ≡ a → named x f ≡ b → filter (named nine) (map (renamed x y) fs) ≡ filter (named nine) fs
          → filter (named nine) (now b ∷ map (renamed x y) fs) ≡ cons_if a f (filter (named nine) fs)
      by true true p q h = absurd (true≢false (sym q ∙ other f p))
      by true false p q h = filter_yes (named nine) f (map (renamed x y) fs) p ∙ ap (λ (r : List File). f ∷ r) h
      by false true p q h = filter_no (named nine) (now true) (map (renamed x y) fs) e ∙ h
      by false false p q h = filter_no (named nine) f (map (renamed x y) fs) p ∙ h

or_false : (a b : Bool) → a || b ≡ false → (a ≡ false) × (b ≡ false)
or_false true b e = absurd (true≢false e)
or_false false b e = (refl, e)

unnamed_stay : (b : Book) (w : Writing) (buffer nine : List ℕ) → names w nine ≡ false
    → filter (named nine) (history.accepted b (as_command w buffer)).files ≡ filter (named nine) b.files
unfolding history.accepted names
unnamed_stay b (save name m) buffer nine e =
    filter_no (named nine) (record { name = nine_of name; count = sectors_for (length m.bytes); reading = some m }) b.files e
unnamed_stay b (delete name) buffer nine e = delete_unnamed (nine_of name) nine e b.files
unnamed_stay b (rename old new) buffer nine e = let h = or_false _ _ e in rename_unnamed (nine_of old) nine h.0 (nine_of new) h.1 b.files
unnamed_stay b (protect name on) buffer nine e = refl

-- ---- what is read by two states whose books have the same files of a name

pub same_read_on : {G : Geometry} {start start' d d' : Disc} {b b' : Book} → State G start d b → State G start' d' b' → (typed : List ℕ) (room : ℕ)
    → ((nine : List ℕ) → stored typed ≡ some nine → filter (named nine) b'.files ≡ filter (named nine) b.files)
    → read_on G d' typed room ≡ read_on G d typed room
unfolding read_on ◌or_refuse◌ ◌>>=◌
same_read_on {G} {d = d} {d' = d'} st st' typed room h = case (stored typed) refl
  where
    case : (o : Option (List ℕ)) → stored typed ≡ o → read_on G d' typed room ≡ read_on G d typed room
    case none e = rw e
    case (some nine) e = read_on_gives st' typed nine room e ∙ ap (λ (fs : List File). gives (head? fs) room) (h nine e) ∙ sym (read_on_gives st typed nine room e)

pub read_same : (F : Format) (G : Geometry) (image image' typed buffer : List ℕ) → geometry F (length image) ≡ ok G → geometry F (length image') ≡ ok G
    → read_on G (cut F G image') typed (length buffer) ≡ read_on G (cut F G image) typed (length buffer)
    → after_read F image' typed buffer ≡ after_read F image typed buffer
unfolding after_read asked ◌>>=◌
read_same F G image image' typed buffer g g' e = rw (g, g') (ap (read_answer_by buffer) e)

-- the files of a disc that has the entries and the files of another
pub book_stays : {G : Geometry} {d d' : Disc} {dir : List ℕ} → Filed G d dir → Filed G d' dir → files_of G d' dir ≡ files_of G d dir
    → opening_book G d' ≡ opening_book G d
unfolding opening_book
book_stays {G} {d} {d'} f f' e =
    let same : map (file_of G d') (entries G d') ≡ map (file_of G d) (entries G d) =
    ap (map (file_of G d')) (entries_are f') ∙ e ∙ sym (ap (map (file_of G d)) (entries_are f)) in
    ap (λ (fs : List File). record { files = fs; peak = length fs }) same

-- ---- a repair

module _ (F : Format) (o : GoodFormat F) (image : List ℕ) (G : Geometry) (g : geometry F (length image) ≡ ok G) where
  arr : Arranged F G
  arr = arranged_here o image G g

  ps : Passes G
  ps = passes o (geometry_ok F (length image) G g)

  repair_leaves : RulesTo5 G (cut F G image) → after_repair F image ≡ answered 0 (flat F G (written (repair_writes G (cut F G image)) (cut F G image)))
  unfolding after_repair
  repair_leaves r = changed_done F image G g (λ G d. repair_on G d) _ (repair_done G (cut F G image) r)

  repairs_at : RulesTo5 G (cut F G image) → Repaired F G image (after_repair F image)
  repairs_at r =
      let d : Disc = cut F G image in
      let ws : List Write = repair_writes G d in
      let f = rules_filed G d r in
      let m = repaired ps f (full_here o image G g) in
      let is = now_cut F G arr image g ws m.full in
      rw (repair_leaves r) (record {
        number = refl;
        size = now_long F G arr image g ws m.full;
        checked = sound_checked F _ G (now_sized F G arr image g ws m.full) (rw is (laid_sound m.laid));
        same_entries = ap (entries G) is ∙ entries_are m.laid.filed ∙ m.same_entries ∙ sym (entries_are f);
        same_files = ap (opening_book G) is ∙ book_stays f m.laid.filed m.same_files;
        threaded = rw is m.threaded;
      })

-- ---- an image that differs from a sound one only in what is free there, repaired

module _ (F : Format) (o : GoodFormat F) (G : Geometry) (image ref : List ℕ) (g : geometry F (length image) ≡ ok G) (long : length image ≡ length ref)
    {start : Disc} {b : Book} (st : State G start (cut F G ref) b) (v : Within G (cut F G ref) (cut F G image)) where
  ref_sized : geometry F (length ref) ≡ ok G
  ref_sized = ap (geometry F) (sym long) ∙ g

  rules : RulesTo5 G (cut F G image)
  rules = filed_rules (within_filed st.laid v)

  after : Repaired F G image (after_repair F image)
  after = repairs_at F o image G g rules

  after_sized : geometry F (length (after_repair F image).image) ≡ ok G
  after_sized = ap (geometry F) after.size ∙ g

  mended_state : State G start (cut F G (after_repair F image).image) b
  mended_state =
      let q = quiet_repaired (ps F o image G g) (within_quiet st v (full_here o image G g)) in
      let is = now_cut F G (arr F o image G g) image g (repair_writes G (cut F G image)) q.full in
      rw (repair_leaves F o image G g rules) (rw is q)

  mended : Mended F G ref (after_repair F image)
  mended =
      let entries-stay = entries_are (within_filed st.laid v) ∙ within_entries st.laid v ∙ sym (entries_are st.laid.filed) in
      record {
        number = after.number;
        size = after.size ∙ long;
        checked = after.checked;
        same_entries = after.same_entries ∙ entries-stay;
        same_reads = λ typed buffer.
            read_same F G ref _ typed buffer ref_sized after_sized (same_read_on st mended_state typed (length buffer) (λ nine e. refl));
      }

-- ---- a command, cut

module _ (F : Format) (o : GoodFormat F) (image : List ℕ) (G : Geometry) (g : geometry F (length image) ≡ ok G) (w : Writing) (buffer : List ℕ)
    (handed : Handed (as_command w buffer)) (ws : List Write) (p : writes_on w G (cut F G image) ≡ ok ws) (k : ℕ) where
  -- what is claimed of it, against the image `ref`
  abbrev Claimed : (ref cut_image : List ℕ) → Type 0
  Claimed ref x =
      Mended F G ref (after_repair F x)
      × ((typed nine lent : List ℕ) → stored typed ≡ some nine → names w nine ≡ false
      → after_read F (after_repair F x).image typed lent ≡ after_read F image typed lent)

  -- the image after writes of it
  abbrev now : List Write → List ℕ
  now vs = flat F G (written vs (cut F G image))

  before : State G (cut F G image) (cut F G image) (opening_book G (cut F G image))
  before = opening_state G (cut F G image) (full_here o image G g) (writing_sound G (cut F G image) w ws p)

  -- b: the book of `ref`, with the files of the book before that the command doesn't name
  claimed : (ref : List ℕ) (b : Book) → length ref ≡ length image → State G (cut F G image) (cut F G ref) b
      → ((nine : List ℕ) → names w nine ≡ false → filter (named nine) b.files ≡ filter (named nine) (opening_book G (cut F G image)).files)
      → Within G (cut F G ref) (written (take k ws) (cut F G image)) → Claimed ref (now (take k ws))
  claimed ref b long st unnamed v =
      let z = cut_full (full_here o image G g) w ws p k in
      let sized = now_sized F G (arr F o image G g) image g (take k ws) z in
      let as_long = now_long F G (arr F o image G g) image g (take k ws) z ∙ sym long in
      let u : Within G (cut F G ref) (cut F G (now (take k ws))) = rw (now_cut F G (arr F o image G g) image g (take k ws) z) v in (
        mended F o G (now (take k ws)) ref sized as_long st u,
        λ typed nine lent t h.
            read_same F G image _ typed lent g (after_sized F o G (now (take k ws)) ref sized as_long st u)
            (same_read_on before (mended_state F o G (now (take k ws)) ref sized as_long st u) typed (length lent)
            (λ x e. unnamed x (subst (λ (y : List ℕ). names w y ≡ false) (some-injective _ _ (sym t ∙ e)) h))),
      )

  both : (done : Bool) → Within G (cond done (written ws (cut F G image)) (cut F G image)) (written (take k ws) (cut F G image))
      → Claimed (cond done (now ws) image) (now (take k ws))
  both true v =
      let st = writing_state (bounded_here o image G g) before w buffer ws handed p in
      let is = now_cut F G (arr F o image G g) image g ws st.full in
      let b : Book = history.accepted (opening_book G (cut F G image)) (as_command w buffer) in
      claimed (now ws) b (now_long F G (arr F o image G g) image g ws st.full) (rw is st)
      (unnamed_stay (opening_book G (cut F G image)) w buffer) (rw is v)
  both false v = claimed image _ refl before (λ nine e. refl) v

  cut_mended : Claimed (cond (is_done w (length ws) k) (now ws) image) (after_cut F image w k).image
  cut_mended =
      let u = bounded_here o image G g in
      rw (cut_done F image G g w k ws p) (both (is_done w (length ws) k) (cut_within G u (cut F G image) (full_here o image G g) w ws p k))

-- ---- the claims, for every kind of disc

repairs_of : (F : Format) → GoodFormat F → Repairs F
unfolding Repairs
repairs_of F o image G g e = repairs_at F o image G g (hold_rules G (cut F G image) e)

cut_repairs_of : (F : Format) → GoodFormat F → CutRepairs F
unfolding CutRepairs
cut_repairs_of F o image G g w buffer handed z k =
    let m = made_by F image G g w buffer z in
    let whole = writing_whole G (cut F G image) (full_here o image G g) w m.ws m.passed in
    rw (writes_in_list F image G g w m whole, m.image_is) (cut_mended F o image G g w buffer handed m.ws m.passed k)

none_repairs : Repairs unknown
unfolding Repairs
none_repairs image G g = absurd (refused_ok (sym (no_disc (length image)) ∙ g))

none_cut : CutRepairs unknown
unfolding CutRepairs
none_cut image G g = absurd (refused_ok (sym (no_disc (length image)) ∙ g))

-- for whatever sectors and arrangement a caller states
pub repairs : (k a : ℕ) → Repairs (stated k a)
repairs = stated_cases Repairs repairs_of none_repairs

pub cut_repairs : (k a : ℕ) → CutRepairs (stated k a)
cut_repairs = stated_cases CutRepairs cut_repairs_of none_cut

-- ---- "cut any list of request e)": the image on a pulled card is what replaying the records that were made gives

pub cut_replayed : (F : Format) → GoodFormat F → (image : List ℕ) (G : Geometry) → geometry F (length image) ≡ ok G → (w : Writing) (ws : List Write)
    → writes_on w G (cut F G image) ≡ ok ws → (k : ℕ) → after_replay F image (write_list G (take k ws)) ≡ after_cut F image w k
unfolding after_replay replay_on ◌or_refuse◌
cut_replayed F o image G g w ws p k =
    let whole = all_take k (writing_whole G (cut F G image) (full_here o image G g) w ws p) in
    let u = bounded_here o image G g in
    let made : List ℕ = write_list G (take k ws) in
    changed_done F image G g (λ G d. replay_on G d made) (take k ws) (rw (held_list G u.some_sector whole))
    ∙ sym (cut_done F image G g w k ws p)
