-- What the claim over events says: of the library's own calls, and so of commands alone; and consequences that no weaker claim has. A hypothesis that
-- nothing meets, or a ledger that keeps silent, makes one of them fail.
-- Assumes nothing.
use Rattle.std.specs.Prelude.{◌≡◌, ◌≢◌, ℕ, zero, suc, Bool}
use Rattle.std.proofs.Math.Path.{refl, sym, ap, ap₂, subst, subst₂}
use Rattle.std.proofs.Common.{◌∙◌, arith, eq-eqb}
use Rattle.std.proofs.Math.Bool.{cond}
use mathlib.Core.List.{List, [], ◌∷◌, map}
use Rattle.std.proofs.Math.ListN.{length, take}
use Rattle.std.proofs.lemmas.List.{length-map}
use Rattle.std.proofs.Math.Seq.{take_all}
use Rattle.lists.specs.ListLaws.{map_take}
use Rattle.format.specs.Refusals.{Try, Refusal, refused, ok, number, value_or}
use Rattle.format.proofs.RefusalLaws.{refused_ok, ok_is, then_ok}
use Rattle.format.specs.Geometry.{Format, unknown, stated, Geometry, geometry, cut}
use Rattle.format.specs.Formats.{GoodFormat}
use Rattle.format.proofs.Formats.{stated_cases}
use Rattle.format.proofs.GeometryLaws.{no_disc}
use Rattle.format.specs.Check.{broken}
use Rattle.format.proofs.WriteLaws.{replay_whole}
use Rattle.format.proofs.WholeWrites.{written_full}
use Rattle.format.specs.Writes.{writes_in}
use Rattle.format.specs.Calls as calls
use Rattle.format.specs.Calls.{replay_on, changed, answer_by, after_replay, after_repair, after_blank}
use Rattle.history.specs.History.{Command, list, read, save, delete, rename, protect, check, view, step, run, Book, entered, opening_book, book_after}
use Rattle.history.specs.Demand3.{Handed, AllHanded, Moment, Demand3}
use Rattle.history.specs.Cuts as cuts
use Rattle.history.specs.Cuts.{Writing, as_command, after_writing, after_cut}
use Rattle.history.specs.Events as events
use Rattle.history.specs.Events.{Event, happens, image_after, Ledger, speaks, silent, waits, pulled_book, after_pulled, after_command, after_repaired, after_new, followed, settled, ledger_after, Stays, Makes, Renews, HandedEvent, AllHandedEvents, Said, Demand3Pulled, Call, command, pulled, repair, replay, blank, event_of, HandedCall, AllHandedCalls, Demand3Calls}
use Rattle.history.proofs.Steps.{arranged_here, full_here, checked_sound, now_long}
use Rattle.history.proofs.BlankStarts.{blank_long}
use Rattle.history.proofs.Writings.{writing_step, writing_stays, cut_accepted}
use Rattle.history.proofs.DemandHolds.{demand_3_pulled_of, demand_3_pulled}

-- ---- each call is of the kind that its event says

by_writing : (F : Format) (image : List ℕ) (w : Writing) (buffer : List ℕ) → (step F image (as_command w buffer)).number ≢ 0
    → (step F image (as_command w buffer)).image ≡ image
by_writing F image w buffer = rw (writing_step F image w buffer) (writing_stays F image w buffer)

step_stays : (F : Format) (c : Command) → Stays (λ image. step F image c)
unfolding step
step_stays F (list buffer) image h = refl
step_stays F (read name buffer) image h = refl
step_stays F (save name m buffer) image h = by_writing F image (cuts.save name m) buffer h
step_stays F (delete name buffer) image h = by_writing F image (cuts.delete name) buffer h
step_stays F (rename old new buffer) image h = by_writing F image (cuts.rename old new) buffer h
step_stays F (protect name on buffer) image h = by_writing F image (cuts.protect name on) buffer h
step_stays F check image h = refl
step_stays F (view t s) image h = refl

step_makes : (F : Format) (c : Command) → Makes F c (λ image. step F image c)
step_makes F c = record { does = λ image h. refl; stays = step_stays F c }

answer_stays : (image : List ℕ) (t : Try Refusal (List ℕ)) → (answer_by image t).number ≢ 0 → (answer_by image t).image ≡ image
unfolding answer_by number value_or
answer_stays image (refused e) h = refl
answer_stays image (ok x) h = absurd (h refl)

answer_long : (image : List ℕ) (t : Try Refusal (List ℕ)) → ((x : List ℕ) → t ≡ ok x → length x ≡ length image)
    → length (answer_by image t).image ≡ length image
unfolding answer_by value_or
answer_long image (refused e) h = refl
answer_long image (ok x) h = h x refl

module _ (F : Format) (o : GoodFormat F) where
  replay_long : (writes image x : List ℕ) → calls.replay F image writes ≡ ok x → length x ≡ length image
  unfolding changed
  replay_long writes image x e =
      let a = then_ok (geometry F (length image)) _ e in
      let G : Geometry = a.0 in
      let b = then_ok (replay_on G (cut F G image) writes) _ a.2 in
      let z = written_full b.0 (replay_whole G (cut F G image) writes b.0 b.1) (full_here o image G a.1) in
      sym (ap length (ok_is b.2)) ∙ now_long F G (arranged_here o image G a.1) image a.1 b.0 z

  replay_renews : (writes : List ℕ) → Renews (λ image. after_replay F image writes)
  unfolding after_replay
  replay_renews writes =
      record {
        long = λ image. answer_long image (calls.replay F image writes) (replay_long writes image);
        stays = λ image. answer_stays image (calls.replay F image writes);
      }

  blank_renews : (name : List ℕ) → Renews (λ image. after_blank F image name)
  unfolding after_blank
  blank_renews name =
      record {
        long = λ image. answer_long image (calls.blank F image name) (λ x e. blank_long F o image name x e);
        stays = λ image. answer_stays image (calls.blank F image name);
      }

  handed_call : (c : Call) → HandedCall c → HandedEvent F (event_of F c)
  unfolding event_of
  handed_call (command c) h = (h, step_makes F c)
  handed_call (pulled w buffer k) h = (h, record { does = λ image z. sym (writing_step F image w buffer); stays = λ image. writing_stays F image w buffer })
  handed_call repair h = tt
  handed_call (replay writes) h = replay_renews writes
  handed_call (blank name) h = blank_renews name

  handed_calls : (cs : List Call) → AllHandedCalls cs → AllHandedEvents F (map (event_of F) cs)
  handed_calls [] h = tt
  handed_calls (c ∷ cs) h = (handed_call c h.0, handed_calls cs h.1)

pub calls_of : (F : Format) → GoodFormat F → Demand3Calls F
unfolding Demand3Calls Demand3Pulled
calls_of F o s G g cs handed k few =
    subst (λ (es : List Event). Said F G (image_after F s es) (ledger_after F G (settled F G s waits) s es)) (map_take (event_of F) k cs)
    (demand_3_pulled_of F o s G g (map (event_of F) cs) (handed_calls F o cs handed) k (omega (arith, length-map cs (event_of F))))

none_called : Demand3Calls unknown
unfolding Demand3Calls
none_called s G g = absurd (refused_ok (sym (no_disc (length s)) ∙ g))

-- over any list of commands, cuts, repairs, replays and blank discs, for whatever a caller states
pub demand_3_calls : (k a : ℕ) → Demand3Calls (stated k a)
demand_3_calls = stated_cases Demand3Calls calls_of none_called

-- ---- a sound image is a start

module _ (F : Format) (G : Geometry) where
  start_speaks : (s : List ℕ) → broken G (cut F G s) ≡ 0 → settled F G s waits ≡ speaks s (opening_book G (cut F G s))
  unfolding settled
  start_speaks s e = ap (λ (c : Bool). cond c (speaks s (opening_book G (cut F G s))) waits) (eq-eqb (broken G (cut F G s)) 0 e)

  -- ---- commands alone

  commands_image : (image : List ℕ) (cs : List Command) → image_after F image (map (λ c. event_of F (command c)) cs) ≡ run F image cs
  unfolding image_after run happens event_of
  commands_image image [] = refl
  commands_image image (c ∷ cs) = commands_image (step F image c).image cs

  commands_ledger : (s : List ℕ) (b : Book) (image : List ℕ) (cs : List Command)
      → ledger_after F G (speaks s b) image (map (λ c. event_of F (command c)) cs) ≡ speaks s (book_after F b image cs)
  unfolding ledger_after book_after happens followed after_command settled event_of
  commands_ledger s b image [] = refl
  commands_ledger s b image (c ∷ cs) = commands_ledger s (entered b c (step F image c).number) (step F image c).image cs

handed_commands : (F : Format) (cs : List Command) → AllHanded cs → AllHandedEvents F (map (λ c. event_of F (command c)) cs)
unfolding event_of
handed_commands F [] h = tt
handed_commands F (c ∷ cs) h = ((h.0, step_makes F c), handed_commands F cs h.1)

-- the claim over events holds the one over commands
pub pulled_extends : (F : Format) → Demand3Pulled F → Demand3 F
unfolding Demand3Pulled Demand3 Said
pulled_extends F claim s G g checked cs handed k few =
    let event : Command → Event = λ c. event_of F (command c) in
    let said = claim s G g (map event cs) (handed_commands F cs handed) k (omega (arith, length-map cs event)) in
    let part : take k (map event cs) ≡ map event (take k cs) = map_take event k cs in
    let book : Book = opening_book G (cut F G s) in
    let ledger : ledger_after F G (settled F G s waits) s (take k (map event cs)) ≡ speaks s (book_after F book s (take k cs)) =
    ap₂ (λ (l : Ledger) (es : List Event). ledger_after F G l s es) (start_speaks F G s (checked_sound F s G g checked)) part
    ∙ commands_ledger F G s book s (take k cs) in
    let image : image_after F s (take k (map event cs)) ≡ run F s (take k cs) = ap (image_after F s) part ∙ commands_image F G s (take k cs) in
    subst₂ (λ (x : List ℕ) (l : Ledger). Said F G x l) image ledger said

pub demand_3_of : (F : Format) → GoodFormat F → Demand3 F
demand_3_of F o = pulled_extends F (demand_3_pulled_of F o)

pub demand_3 : (k a : ℕ) → Demand3 (stated k a)
demand_3 k a = pulled_extends (stated k a) (demand_3_pulled k a)

-- ---- consequences

new_refused : (l : Ledger) (a : ℕ) → a ≢ 0 → after_new l a ≡ l
unfolding after_new
new_refused l zero h = absurd (h refl)
new_refused l (suc a) h = refl

-- a card that was pulled, in a run
module _ (F : Format) (x : List ℕ) (w : Writing) (buffer : List ℕ) (z : (after_writing F x w buffer).number ≡ 0) (k : ℕ) (es : List Event) where
  cut_image : image_after F x (event_of F (pulled w buffer k) ∷ es) ≡ image_after F (after_cut F x w k).image es
  unfolding image_after happens event_of
  cut_image = rw z

module _ (F : Format) (G : Geometry) (s : List ℕ) (b : Book) (x : List ℕ) (w : Writing) (buffer : List ℕ)
    (z : (after_writing F x w buffer).number ≡ 0) (k : ℕ) (es : List Event) where
  abbrev cut_book : Book
  cut_book = pulled_book b w buffer (writes_in (after_writing F x w buffer).size) k

  speaks_cut : ledger_after F G (speaks s b) x (event_of F (pulled w buffer k) ∷ es) ≡ ledger_after F G (silent s cut_book) (after_cut F x w k).image es
  unfolding ledger_after happens followed settled after_pulled event_of
  speaks_cut = rw (z, cut_accepted F x w buffer z k)

  silent_cut : ledger_after F G (silent s b) x (event_of F (pulled w buffer k) ∷ es) ≡ ledger_after F G (silent s cut_book) (after_cut F x w k).image es
  unfolding ledger_after happens followed settled after_pulled event_of
  silent_cut = rw (z, cut_accepted F x w buffer z k)

module _ (F : Format) (claim : Demand3Calls F) (G : Geometry) (s : List ℕ) (g : geometry F (length s) ≡ ok G) (sound : broken G (cut F G s) ≡ 0) where
  -- where the ledger speaks, the moment holds
  says : (cs : List Call) → AllHandedCalls cs → (s' : List ℕ) (b : Book)
      → ledger_after F G (speaks s (opening_book G (cut F G s))) s (map (event_of F) cs) ≡ speaks s' b → Moment F G s' (image_after F s (map (event_of F) cs)) b
  unfolding Demand3Calls Said
  says cs handed s' b e =
      let all : take (length cs) cs ≡ cs = take_all (length cs) cs (omega arith) in
      let said = claim s G g cs handed (length cs) (omega arith) in
      let ledger : ledger_after F G (settled F G s waits) s (map (event_of F) (take (length cs) cs)) ≡ speaks s' b =
      ap₂ (λ (l : Ledger) (xs : List Call). ledger_after F G l s (map (event_of F) xs)) (start_speaks F G s sound) all ∙ e in
      subst₂ (λ (x : List ℕ) (l : Ledger). Said F G x l) (ap (λ (xs : List Call). image_after F s (map (event_of F) xs)) all) ledger said

  -- "any repair, also one without a cut, as no change"
  pub must_repair : Moment F G s (after_repair F s).image (opening_book G (cut F G s))
  unfolding image_after happens ledger_after followed after_repaired settled event_of
  must_repair = says (repair ∷ []) (tt, tt) s _ refl

  -- "After a replay demand 3 starts anew from the next sound image."
  pub must_anew : (writes : List ℕ) → (after_replay F s writes).number ≡ 0
      → let x = (after_replay F s writes).image in broken G (cut F G x) ≡ 0 → Moment F G x x (opening_book G (cut F G x))
  unfolding image_after happens ledger_after followed after_new event_of
  must_anew writes q e = says (replay writes ∷ []) (tt, tt) _ _ (rw q (start_speaks F G _ e))

  -- a refused replay "writes nothing", and demand 3 goes on from the same start
  pub must_go_on : (c : Command) → Handed c → (writes : List ℕ) → let a = step F s c in
      (after_replay F a.image writes).number ≢ 0 → Moment F G s (after_replay F a.image writes).image (entered (opening_book G (cut F G s)) c a.number)
  unfolding image_after happens ledger_after followed after_command settled event_of
  must_go_on c h writes q =
      let stays = new_refused (speaks s _) (after_replay F (step F s c).image writes).number q in
      says (command c ∷ replay writes ∷ []) (h, (tt, tt)) s _ (ap (settled F G _) stays)

  -- ---- after a cut

  abbrev opened : Book
  opened = opening_book G (cut F G s)

  module _ (w : Writing) (buffer : List ℕ) (h : Handed (as_command w buffer)) (z : (after_writing F s w buffer).number ≡ 0) (k : ℕ) where
    -- the image and the book when the card was pulled
    abbrev x : List ℕ
    x = (after_cut F s w k).image

    abbrev b : Book
    b = pulled_book opened w buffer (writes_in (after_writing F s w buffer).size) k

    after_a_cut : (cs : List Call) → AllHandedCalls cs → (s' : List ℕ) (b' : Book) → ledger_after F G (silent s b) x (map (event_of F) cs) ≡ speaks s' b'
        → Moment F G s' (image_after F x (map (event_of F) cs)) b'
    after_a_cut cs handed s' b' e =
        subst (λ (y : List ℕ). Moment F G s' y b') (cut_image F s w buffer z k (map (event_of F) cs))
        (says (pulled w buffer k ∷ cs) (h, handed) s' b' (speaks_cut F G s opened s w buffer z k (map (event_of F) cs) ∙ e))

    -- "the cut command counting as done or not done accordingly"
    pub must_cut : Moment F G s (after_repair F x).image b
    unfolding image_after happens ledger_after followed after_repaired settled event_of
    must_cut = after_a_cut (repair ∷ []) (tt, tt) s b refl

    -- "commands between cut and repair by their answers as ever"
    pub must_between : (c : Command) → Handed c → let a = step F x c in Moment F G s (after_repair F a.image).image (entered b c a.number)
    unfolding image_after happens ledger_after followed after_repaired settled event_of after_command
    must_between c hc = after_a_cut (command c ∷ repair ∷ []) (hc, (tt, tt)) s _ refl

    -- a second cut before the repair
    pub must_twice : (v : Writing) (buffer' : List ℕ) → Handed (as_command v buffer') → (j : ℕ) → (after_writing F x v buffer').number ≡ 0
        → Moment F G s (after_repair F (after_cut F x v j).image).image (pulled_book b v buffer' (writes_in (after_writing F x v buffer').size) j)
    unfolding image_after happens ledger_after followed after_repaired settled event_of
    must_twice v buffer' hv j q =
        let b' : Book = pulled_book b v buffer' (writes_in (after_writing F x v buffer').size) j in
        subst (λ (y : List ℕ). Moment F G s y b') (cut_image F x v buffer' q j (events.repair ∷ []))
        (after_a_cut (pulled v buffer' j ∷ repair ∷ []) (hv, (tt, tt)) s b' (silent_cut F G s b x v buffer' q j (events.repair ∷ [])))

    -- "unless .. a blank disc .. came between": it is a start itself
    pub must_blank : (name : List ℕ) → let a = after_blank F x name in
        a.number ≡ 0 → broken G (cut F G a.image) ≡ 0 → Moment F G a.image a.image (opening_book G (cut F G a.image))
    unfolding image_after happens ledger_after followed after_new event_of
    must_blank name q e = after_a_cut (blank name ∷ []) (tt, tt) _ _ (rw q (start_speaks F G _ e))
