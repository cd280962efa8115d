-- Demand 3 over a list of events, proved: where it speaks the whole state holds, where it is silent the part that rules 1 to 5 give, and each event
-- keeps this.
-- Assumes nothing.
use Rattle.std.specs.Prelude.{◌≡◌, ◌≢◌, Bool, cond, length, take}
use Rattle.std.proofs.Math.Path.{refl, ap}
use Rattle.std.proofs.Common.{sym, ◌∙◌, arith, true≢false, eqb-true}
use Prim.Native.Nat.{ℕ, zero, suc, ◌≤◌}
use Rattle.std.proofs.Math.Bool.{true, false}
use mathlib.Core.List.{List, [], ◌∷◌}
use Rattle.format.specs.Refusals.{number_of, ok, ◌>>=◌, ◌>>◌, refuse◌if◌, number, value_or}
use Rattle.format.proofs.RefusalLaws.{refused_ok, refusal_number}
use Rattle.format.specs.Geometry.{Format, unknown, stated, Geometry, geometry, Disc, cut, flat, Write, written}
use Rattle.format.specs.Formats.{GoodFormat}
use Rattle.format.proofs.Formats.{stated_cases}
use Rattle.format.specs.GeometryLaws.{Full}
use Rattle.format.proofs.GeometryLaws.{no_disc, geometry_ok}
use Rattle.format.specs.Check.{sound, files_hold}
use Rattle.format.proofs.CheckLaws.{hold_rules, rules_hold}
use Rattle.format.proofs.CallLaws.{repair_done}
use Rattle.format.specs.Effects.{repair_writes}
use Rattle.format.specs.Writes.{writes_in}
use Rattle.format.proofs.WholeWrites.{written_full, repaired_whole}
use Rattle.format.specs.Calls.{repair_on, changed, Answer, answer_by, ChangeAnswer, change_answer_by, after_repair}
use Rattle.format.specs.ListedLaws.{Outcome, stays, writes}
use Rattle.soundness.specs.Filed.{filed_rules}
use Rattle.soundness.specs.Pointers.{Bounded}
use Rattle.history.specs.History.{Command, list, read, save, delete, rename, protect, check, view, leaving, step, Book, accepted, entered, opening_book}
use Rattle.history.specs.Demand3.{Handed}
use Rattle.history.specs.Cuts as cuts
use Rattle.history.specs.Cuts.{Writing, as_command, writes_on, after_writing, after_cut}
use Rattle.history.specs.Events.{Event, made, made_cut, repair, anew, CallOn, where_accepted, happens, image_after, Ledger, speaks, silent, waits, after_command, pulled_book, after_pulled, after_repaired, after_new, followed, settled, ledger_after, Makes, Renews, HandedEvent, AllHandedEvents, Said, Demand3Pulled}
use Rattle.history.proofs.State.{State}
use Rattle.history.proofs.MomentHolds.{moment}
use Rattle.history.proofs.Steps.{arranged_here, bounded_here, full_here, refused_book, unchanged_book, opening_state, now_long, now_cut}
use Rattle.history.proofs.BlankLaid.{Passes}
use Rattle.history.proofs.BlankStarts.{passes}
use Rattle.history.proofs.Quiet.{Quiet, state_quiet, quiet_sound, quiet_repaired, writing_sound, writing_whole, whole_full, cut_full, writing_state, cut_quiet}
use Rattle.history.proofs.Writings.{writing_step, writing_outcome, made_by, writes_in_list, changed_done, cut_done}

-- ---- what a refused call leaves of the ledger

command_refused : (l : Ledger) (c : Command) (a : ℕ) → a ≢ 0 → after_command l c a ≡ l
unfolding after_command
command_refused (speaks s b) c a h = ap (speaks s) (refused_book b c a h)
command_refused (silent s b) c a h = ap (silent s) (refused_book b c a h)
command_refused waits c a h = refl

-- so does a command that changes nothing
command_unchanged : (l : Ledger) (c : Command) (a : ℕ) → ((b : Book) → accepted b c ≡ b) → after_command l c a ≡ l
unfolding after_command
command_unchanged (speaks s b) c a h = ap (speaks s) (unchanged_book b c a (h b))
command_unchanged (silent s b) c a h = ap (silent s) (unchanged_book b c a (h b))
command_unchanged waits c a h = refl

pulled_refused : (l : Ledger) (w : Writing) (buffer : List ℕ) (n k a : ℕ) → after_pulled l w buffer n k (suc a) ≡ l
unfolding after_pulled
pulled_refused (speaks s b) w buffer n k a = refl
pulled_refused (silent s b) w buffer n k a = refl
pulled_refused waits w buffer n k a = refl

module _ (F : Format) (o : GoodFormat F) (G : Geometry) where
  -- ---- what holds at each moment

  -- of the disc
  abbrev Kept : Ledger → Disc → Type 0
  Kept (speaks s b) d = State G (cut F G s) d b
  Kept (silent s b) d = Quiet G (cut F G s) d b
  Kept waits d = Full G d

  -- of the image's length
  abbrev AsLong : Ledger → ℕ → Type 0
  AsLong (speaks s b) n = n ≡ length s
  AsLong (silent s b) n = n ≡ length s
  AsLong waits n = Unit {0}

  record Holds (image : List ℕ) (l : Ledger) : Type 0 where
    sized : geometry F (length image) ≡ ok G
    long : AsLong l (length image)
    kept : Kept l (cut F G image)

  kept_full : (l : Ledger) (d : Disc) → Kept l d → Full G d
  kept_full (speaks s b) d k = k.full
  kept_full (silent s b) d k = k.full
  kept_full waits d k = k

  module _ (image : List ℕ) (g : geometry F (length image) ≡ ok G) where
    ordered : Passes G
    ordered = passes o (geometry_ok F (length image) G g)

    -- the image after writes
    now : (l : Ledger) (ws : List Write) → AsLong l (length image) → Kept l (written ws (cut F G image)) → Holds (flat F G (written ws (cut F G image))) l
    now l ws long k =
        let z = kept_full l (written ws (cut F G image)) k in
        let arr = arranged_here o image G g in
        let same = now_long F G arr image g ws z in
        record { sized = ap (geometry F) same ∙ g; long = rw same long; kept = rw (now_cut F G arr image g ws z) k }

  -- ---- a new start

  settle : (image : List ℕ) (l : Ledger) → Holds image l → Holds image (settled F G image l)
  unfolding settled
  settle image (speaks s b) h = h
  settle image (silent s b) h = h
  settle image waits h = by (sound G (cut F G image)) refl
    where
      by : (c : Bool) → sound G (cut F G image) ≡ c → Holds image (cond c (speaks image (opening_book G (cut F G image))) waits)
      by true e = record { sized = h.sized; long = refl; kept = opening_state G (cut F G image) h.kept (eqb-true _ _ e) }
      by false e = h

  -- ---- a command

  module _ (w : Writing) (buffer : List ℕ) (handed : Handed (as_command w buffer)) where
    as_long : (l : Ledger) (a n : ℕ) → AsLong l n → AsLong (after_command l (as_command w buffer) a) n
    unfolding after_command
    as_long (speaks s b) a n h = h
    as_long (silent s b) a n h = h
    as_long waits a n h = h

    -- one that writes, and is accepted
    kept_written : Bounded G → (l : Ledger) (d : Disc) → Kept l d → (ws : List Write) → writes_on w G d ≡ ok ws
        → Kept (after_command l (as_command w buffer) 0) (written ws d)
    unfolding after_command entered
    kept_written u (speaks s b) d k ws p = writing_state u k w buffer ws handed p
    kept_written u (silent s b) d k ws p = state_quiet (writing_state u (quiet_sound k (writing_sound G d w ws p)) w buffer ws handed p)
    kept_written u waits d k ws p = whole_full k ws (writing_whole G d k w ws p)

    writing_holds : (image : List ℕ) (l : Ledger) → Holds image l → {a : ChangeAnswer} → Outcome F G image buffer (writes_on w) a
        → Holds a.image (after_command l (as_command w buffer) a.number)
    unfolding change_answer_by
    writing_holds image l h (stays e) = rw (command_refused l (as_command w buffer) (number_of e) (refusal_number e)) h
    writing_holds image l h (writes ws p fits) =
        now image h.sized (after_command l (as_command w buffer) 0) ws (as_long l 0 (length image) h.long)
        (kept_written (bounded_here o image G h.sized) l (cut F G image) h.kept ws p)

    step_holds : (image : List ℕ) (l : Ledger) → Holds image l
        → Holds (step F image (as_command w buffer)).image (after_command l (as_command w buffer) (step F image (as_command w buffer)).number)
    step_holds image l h = rw (writing_step F image w buffer) (writing_holds image l h (writing_outcome F image G h.sized w buffer))

  asking_holds : (image : List ℕ) (l : Ledger) (c : Command) (a : ℕ) → ((b : Book) → accepted b c ≡ b) → Holds image l → Holds image (after_command l c a)
  asking_holds image l c a same h = rw (command_unchanged l c a same) h

  command_holds : (image : List ℕ) (l : Ledger) (c : Command) → Handed c → Holds image l
      → Holds (step F image c).image (after_command l c (step F image c).number)
  unfolding step accepted
  command_holds image l (list buffer) h = asking_holds image l (list buffer) _ (λ b. refl)
  command_holds image l (read name buffer) h = asking_holds image l (read name buffer) _ (λ b. refl)
  command_holds image l (save name m buffer) h = step_holds (cuts.save name m) buffer h image l
  command_holds image l (delete name buffer) h = step_holds (cuts.delete name) buffer h image l
  command_holds image l (rename old new buffer) h = step_holds (cuts.rename old new) buffer h image l
  command_holds image l (protect name on buffer) h = step_holds (cuts.protect name on) buffer h image l
  command_holds image l check h = asking_holds image l check _ (λ b. refl)
  command_holds image l (view t s) h = asking_holds image l (view t s) _ (λ b. refl)

  -- a call that counts as one
  made_holds : (image : List ℕ) (l : Ledger) (c : Command) (f : CallOn) → Handed c → Makes F c f → Holds image l
      → Holds (f image).image (after_command l c (f image).number)
  made_holds image l c f handed m h = by (f image).number refl
    where
      by : (n : ℕ) → (f image).number ≡ n → Holds (f image).image (after_command l c (f image).number)
      by zero e = rw (m.does image e) (command_holds image l c handed h)
      by (suc n) e =
          let refused : (f image).number ≢ 0 = λ z. omega (arith, e) in
          rw (m.stays image refused, command_refused l c (f image).number refused) h

  -- ---- a pulled card

  module _ (w : Writing) (buffer : List ℕ) (handed : Handed (as_command w buffer)) (k : ℕ) where
    pulled_long : (l : Ledger) (n i : ℕ) → AsLong l i → AsLong (after_pulled l w buffer n k 0) i
    unfolding after_pulled
    pulled_long (speaks s b) n i h = h
    pulled_long (silent s b) n i h = h
    pulled_long waits n i h = h

    kept_pulled : Bounded G → (l : Ledger) (d : Disc) → Kept l d → (ws : List Write) → writes_on w G d ≡ ok ws
        → Kept (after_pulled l w buffer (length ws) k 0) (written (take k ws) d)
    unfolding after_pulled pulled_book
    kept_pulled u (speaks s b) d q ws p = cut_quiet u q w buffer ws handed p k
    kept_pulled u (silent s b) d q ws p = cut_quiet u (quiet_sound q (writing_sound G d w ws p)) w buffer ws handed p k
    kept_pulled u waits d q ws p = cut_full q w ws p k

    cut_holds : (image : List ℕ) (l : Ledger) → Holds image l → (after_writing F image w buffer).number ≡ 0
        → Holds (after_cut F image w k).image (after_pulled l w buffer (writes_in (after_writing F image w buffer).size) k (after_cut F image w k).number)
    cut_holds image l h z =
        let m = made_by F image G h.sized w buffer z in
        let whole = writing_whole G (cut F G image) (full_here o image G h.sized) w m.ws m.passed in
        rw (cut_done F image G h.sized w k m.ws m.passed, writes_in_list F image G h.sized w m whole)
        (now image h.sized (after_pulled l w buffer (length m.ws) k 0) (take k m.ws) (pulled_long l (length m.ws) (length image) h.long)
        (kept_pulled (bounded_here o image G h.sized) l (cut F G image) h.kept m.ws m.passed))

    made_cut_holds : (image : List ℕ) (l : Ledger) (f : CallOn) → Makes F (as_command w buffer) f → Holds image l
        → let a = where_accepted (f image).number image (after_cut F image w k) in
        Holds a.image (after_pulled l w buffer (writes_in (after_writing F image w buffer).size) k a.number)
    made_cut_holds image l f m h = by (f image).number refl
      where
        by : (n : ℕ) → (f image).number ≡ n → let a = where_accepted n image (after_cut F image w k) in
            Holds a.image (after_pulled l w buffer (writes_in (after_writing F image w buffer).size) k a.number)
        by zero e =
            let is : f image ≡ leaving (after_writing F image w buffer) = m.does image e ∙ writing_step F image w buffer in
            cut_holds image l h (sym (ap (λ (a : Answer). a.number) is) ∙ e)
        by (suc n) e = rw (pulled_refused l w buffer (writes_in (after_writing F image w buffer).size) k n) h

  -- ---- a repair

  kept_repaired : Passes G → (l : Ledger) (d : Disc) → Kept l d → Kept (after_repaired l) (written (repair_writes G d) d)
  unfolding after_repaired
  kept_repaired ps (speaks s b) d k = quiet_repaired ps (state_quiet k)
  kept_repaired ps (silent s b) d k = quiet_repaired ps k
  kept_repaired ps waits d k = written_full (repair_writes G d) (repaired_whole G d k) k

  -- where rules 1 to 5 are broken, demand 3 waits
  kept_refused : (l : Ledger) (d : Disc) → Kept l d → files_hold G d ≡ false → after_repaired l ≡ l
  unfolding after_repaired
  kept_refused (speaks s b) d k e = refl
  kept_refused (silent s b) d k e = absurd (true≢false (sym (rules_hold G d (filed_rules k.filed)) ∙ e))
  kept_refused waits d k e = refl

  repaired_long : (l : Ledger) (n : ℕ) → AsLong l n → AsLong (after_repaired l) n
  unfolding after_repaired
  repaired_long (speaks s b) n h = h
  repaired_long (silent s b) n h = h
  repaired_long waits n h = h

  -- then the image stays
  repair_stays : (image : List ℕ) → geometry F (length image) ≡ ok G → files_hold G (cut F G image) ≡ false
      → (answer_by image (changed F image (λ G d. repair_on G d))).image ≡ image
  unfolding answer_by changed repair_on value_or ◌>>=◌ ◌>>◌ refuse◌if◌
  repair_stays image g e = rw (g, e)

  repair_holds : (image : List ℕ) (l : Ledger) → Holds image l → Holds (after_repair F image).image (after_repaired l)
  unfolding after_repair
  repair_holds image l h = by (files_hold G (cut F G image)) refl
    where
      by : (b : Bool) → files_hold G (cut F G image) ≡ b → Holds (answer_by image (changed F image (λ G d. repair_on G d))).image (after_repaired l)
      by true e =
          let passed = repair_done G (cut F G image) (hold_rules G (cut F G image) e) in
          rw (changed_done F image G h.sized (λ G d. repair_on G d) (repair_writes G (cut F G image)) passed)
          (now image h.sized (after_repaired l) (repair_writes G (cut F G image)) (repaired_long l (length image) h.long)
          (kept_repaired (ordered image h.sized) l (cut F G image) h.kept))
      by false e = rw (repair_stays image h.sized e, kept_refused l (cut F G image) h.kept e) h

  -- ---- a call after which demand 3 starts anew

  anew_holds : (image : List ℕ) (l : Ledger) (f : CallOn) → Renews f → Holds image l → Holds (f image).image (after_new l (f image).number)
  unfolding after_new
  anew_holds image l f r h = by (f image).number refl
    where
      by : (n : ℕ) → (f image).number ≡ n → Holds (f image).image (after_new l n)
      by zero e =
          let sized : geometry F (length (f image).image) ≡ ok G = ap (geometry F) (r.long image) ∙ h.sized in
          record { sized = sized; long = tt; kept = full_here o (f image).image G sized }
      by (suc n) e = rw (r.stays image (λ z. omega (arith, e))) h

  -- ---- any event, and a list of them

  event_holds : (image : List ℕ) (l : Ledger) (e : Event) → HandedEvent F e → Holds image l
      → Holds (happens F image e).image (followed F l image e (happens F image e).number)
  unfolding happens followed
  event_holds image l (made c f) handed h = made_holds image l c f handed.0 handed.1 h
  event_holds image l (made_cut w buffer f k) handed h = made_cut_holds w buffer handed.0 k image l f handed.1 h
  event_holds image l repair handed h = repair_holds image l h
  event_holds image l (anew f) handed h = anew_holds image l f handed h

  events_hold : (es : List Event) (k : ℕ) (image : List ℕ) (l : Ledger) → AllHandedEvents F es → k ≤ length es → Holds image l
      → Holds (image_after F image (take k es)) (ledger_after F G l image (take k es))
  unfolding image_after ledger_after
  events_hold es zero image l handed few h = h
  events_hold [] (suc k) image l handed few h = absurd (omega arith)
  events_hold (e ∷ es) (suc k) image l handed few h =
      events_hold es k _ _ handed.1 (omega arith) (settle (happens F image e).image _ (event_holds image l e handed.0 h))

  -- where demand 3 speaks, what it says is so
  said : (image : List ℕ) (l : Ledger) → Holds image l → Said F G image l
  unfolding Said
  said image (speaks s b) h = moment F G s image b h.sized h.long h.kept
  said image (silent s b) h = tt
  said image waits h = tt

-- for every kind of disc
pub demand_3_pulled_of : (F : Format) → GoodFormat F → Demand3Pulled F
unfolding Demand3Pulled
demand_3_pulled_of F o s G g es handed k few =
    let start = settle F o G s waits (record { sized = g; long = tt; kept = full_here o s G g }) in
    said F o G _ _ (events_hold F o G es k s (settled F G s waits) handed few start)

-- a kind of disc that there isn't has no runs
none_pulled : Demand3Pulled unknown
unfolding Demand3Pulled
none_pulled s G g = absurd (refused_ok (sym (no_disc (length s)) ∙ g))

-- for whatever sectors and arrangement a caller states, "one throughout, in a run from the check of its start on"
pub demand_3_pulled : (k a : ℕ) → Demand3Pulled (stated k a)
demand_3_pulled = stated_cases Demand3Pulled demand_3_pulled_of none_pulled
