-- Laws of Calls: what a call has passed where it is accepted, when a save is refused for room and a repair for the files, and what a view shows.
-- Assumes nothing.
use Rattle.std.specs.Prelude.{◌≡◌, refl, ◌↔◌, ◌≢◌, ℕ, ◌≤◌, ◌<◌, Bool, true, ◌&&◌, length, take, drop, eqb, ltb}
use Rattle.std.proofs.Common.{sym, ◌∙◌, arith, true≢false, drop-drop}
use Rattle.std.proofs.Math.Path.{ap, ap₂}
use Rattle.std.proofs.Math.Bool.{false, not}
use Rattle.std.proofs.Math.Option.{Option, none, some}
use mathlib.Core.List.{List, [], ◌∷◌}
use Rattle.std.proofs.Math.Dec.{leb}
use borrow.Author.Tests.{ltb-true, lt-ltb, ltb-false, not-false, le-leb}
use Rattle.lists.specs.Lists.{is_some}
use Rattle.lists.specs.ListLaws.{drop_take}
use Rattle.format.specs.Refusals.{Try, Refusal, UNSOUND, ROOM, refused, ok, ◌>>=◌, ◌>>◌, refuse◌if◌, number, value_or, IsOk}
use Rattle.format.proofs.RefusalLaws.{ok_is, if_ok, or_ok, then_ok, never_if, never_or}
use Rattle.format.specs.Geometry.{Format, Geometry, geometry, sectors, sector_number, start_of, on_disc, Disc, cut, sector, bytes_of, Write}
use Rattle.format.specs.Arrangements.{Arranged}
use Rattle.format.proofs.GeometryLaws.{sector_cut}
use Rattle.format.specs.Names.{stored}
use Rattle.format.specs.Layout.{name_offset, attribute_offset, Slot, attribute_of, is_protected, protected_as, free, find}
use Rattle.format.specs.Check.{files_hold, broken, sound}
use Rattle.format.specs.CheckLaws.{RulesTo5}
use Rattle.format.proofs.CheckLaws.{hold_reported, rules_hold, hold_rules}
use Rattle.format.specs.Modules.{Module, storable}
use Rattle.format.specs.Effects.{body, slot_write, needed, save_writes, delete_writes, repair_writes}
use Rattle.format.specs.Calls.{save_before_on, save_on, delete_on, rename_on, protect_on, repair_on, view, part_by, view_part}

none_of : {A : Type 0} (o : Option A) → is_some o ≡ false → o ≡ none
none_of none e = refl
none_of (some a) e = absurd (true≢false e)

-- ---- what an accepted call has passed

module _ (G : Geometry) (d : Disc) where
  pub record Saved (name : List ℕ) (m : Module) (ws : List Write) : Type 0 where
    pub nine : List ℕ
    pub typed : stored name ≡ some nine
    pub fits : storable m ≡ true
    pub checked : sound G d ≡ true
    pub absent : find G d nine ≡ none
    pub room : needed G d (length m.bytes) ≤ length (free G d)
    pub writes : save_writes G d nine m ≡ ws

  pub save_ok : (name : List ℕ) (m : Module) (ws : List Write) → save_on G d name m ≡ ok ws → Saved name m ws
  unfolding save_on save_before_on
  save_ok name m ws p =
      let q = then_ok _ _ p in
      let a = or_ok _ (stored name) _ q.1 in
      let b = if_ok _ _ _ a.2 in
      let c = if_ok _ _ _ b.1 in
      let e = if_ok _ _ _ c.1 in
      let r = if_ok _ _ _ q.2 in
      let n : a.0 ≡ q.0 = ok_is e.1 in
      record {
        nine = a.0;
        typed = a.1;
        fits = not-false _ b.0;
        checked = not-false _ c.0;
        absent = none_of _ e.0;
        room = ltb-false _ _ r.0;
        writes = ap (λ (x : List ℕ). save_writes G d x m) n ∙ ok_is r.1;
      }

  pub record Deleted (name : List ℕ) (ws : List Write) : Type 0 where
    pub nine : List ℕ
    pub s : Slot
    pub typed : stored name ≡ some nine
    pub checked : sound G d ≡ true
    pub found : find G d nine ≡ some s
    pub unprotected : is_protected (attribute_of s) ≡ false
    pub writes : delete_writes G d s ≡ ws

  pub delete_ok : (name : List ℕ) (ws : List Write) → delete_on G d name ≡ ok ws → Deleted name ws
  unfolding delete_on
  delete_ok name ws p =
      let a = or_ok _ (stored name) _ p in
      let b = if_ok _ _ _ a.2 in
      let c = or_ok _ (find G d a.0) _ b.1 in
      let e = if_ok _ _ _ c.2 in
      record { nine = a.0; s = c.0; typed = a.1; checked = not-false _ b.0; found = c.1; unprotected = e.0; writes = ok_is e.1 }

  pub record Renamed (old new : List ℕ) (ws : List Write) : Type 0 where
    pub nine : List ℕ
    pub nine' : List ℕ
    pub s : Slot
    pub typed : stored old ≡ some nine
    pub typed' : stored new ≡ some nine'
    pub checked : sound G d ≡ true
    pub found : find G d nine ≡ some s
    pub unprotected : is_protected (attribute_of s) ≡ false
    pub absent : find G d nine' ≡ none
    pub writes : slot_write d s name_offset nine' ∷ [] ≡ ws

  pub rename_ok : (old new : List ℕ) (ws : List Write) → rename_on G d old new ≡ ok ws → Renamed old new ws
  unfolding rename_on
  rename_ok old new ws p =
      let a = or_ok _ (stored old) _ p in
      let a' = or_ok _ (stored new) _ a.2 in
      let b = if_ok _ _ _ a'.2 in
      let c = or_ok _ (find G d a.0) _ b.1 in
      let e = if_ok _ _ _ c.2 in
      let f = if_ok _ _ _ e.1 in
      record {
        nine = a.0;
        nine' = a'.0;
        s = c.0;
        typed = a.1;
        typed' = a'.1;
        checked = not-false _ b.0;
        found = c.1;
        unprotected = e.0;
        absent = none_of _ f.0;
        writes = ok_is f.1;
      }

  pub record Protected (name : List ℕ) (on : ℕ) (ws : List Write) : Type 0 where
    pub nine : List ℕ
    pub s : Slot
    pub typed : stored name ≡ some nine
    pub checked : sound G d ≡ true
    pub found : find G d nine ≡ some s
    pub writes : slot_write d s attribute_offset (protected_as (not (eqb on 0)) (attribute_of s) ∷ []) ∷ [] ≡ ws

  pub protect_ok : (name : List ℕ) (on : ℕ) (ws : List Write) → protect_on G d name on ≡ ok ws → Protected name on ws
  unfolding protect_on
  protect_ok name on ws p =
      let a = or_ok _ (stored name) _ p in
      let b = if_ok _ _ _ a.2 in
      let c = or_ok _ (find G d a.0) _ b.1 in
      record { nine = a.0; s = c.0; typed = a.1; checked = not-false _ b.0; found = c.1; writes = ok_is c.2 }

-- ---- when a save is refused for room

never_8 : (G : Geometry) (d : Disc) (name : List ℕ) (m : Module) → number (save_before_on G d name m) ≢ 8
unfolding save_before_on number
never_8 G d name m =
    never_or 8 _ _ _ (omega arith) (λ (nine : List ℕ).
    never_if 8 _ _ _ (omega arith) (never_if 8 _ _ _ (omega arith) (never_if 8 _ _ (ok nine) (omega arith) (omega arith))))

last_8 : (t : Try Refusal (List ℕ)) (a b : ℕ) (ws : List ℕ → List Write) → number t ≢ 8
    → (number (t >>= λ nine. (refuse ROOM if ltb a b >> ok (ws nine))) ≡ 8) ↔ (IsOk t × (a < b))
unfolding number refuse◌if◌ ◌>>◌ ◌>>=◌
last_8 (refused e) a b ws n = (λ h. absurd (n h), λ h. absurd h.0)
last_8 (ok nine) a b ws n = (λ h. (tt, tested (ltb a b) refl h), λ h. ap (λ (x : Bool). number (refuse ROOM if x >> ok (ws nine))) (lt-ltb a b h.1))
  where
    tested : (x : Bool) → ltb a b ≡ x → number (refuse ROOM if x >> ok (ws nine)) ≡ 8 → a < b
    tested true e h = ltb-true a b e
    tested false e h = absurd (omega arith)

pub room_exact : (G : Geometry) (d : Disc) (name : List ℕ) (m : Module)
    → (number (save_on G d name m) ≡ 8) ↔ (IsOk (save_before_on G d name m) × (length (free G d) < needed G d (length m.bytes)))
unfolding save_on
room_exact G d name m =
    last_8 (save_before_on G d name m) (length (free G d)) (needed G d (length m.bytes)) (λ nine. save_writes G d nine m) (never_8 G d name m)

-- ---- when a repair is refused

module _ (G : Geometry) (d : Disc) where
  pub repair_done : RulesTo5 G d → repair_on G d ≡ ok (repair_writes G d)
  unfolding repair_on refuse◌if◌ ◌>>◌
  repair_done r = rw (rules_hold G d r)

  -- where the check reports one of rules 1 to 5
  pub repair_refused : (k : ℕ) → k ≡ broken G d → 0 < k → k ≤ 5 → repair_on G d ≡ refused UNSOUND
  unfolding repair_on refuse◌if◌ ◌>>◌
  repair_refused k e low few =
      let reported = hold_reported G d ∙ ap (λ (j : ℕ). not (leb 1 j && leb j 5)) (sym e) in
      let fails : files_hold G d ≡ false = reported ∙ ap₂ (λ (a b : Bool). not (a && b)) (le-leb 1 k low) (le-leb k 5 few) in
      rw fails

  -- what an accepted one has passed, and writes
  pub repair_ok : (ws : List Write) → repair_on G d ≡ ok ws → RulesTo5 G d × (repair_writes G d ≡ ws)
  unfolding repair_on
  repair_ok ws p = let a = if_ok _ _ _ p in (hold_rules G d (not-false _ a.0), ok_is a.1)

-- ---- what a view shows

-- "the 254 bytes after a sector's link"
pub view_body : (F : Format) (image : List ℕ) (G : Geometry) (t s : ℕ) → Arranged F G → geometry F (length image) ≡ ok G → on_disc G t s ≡ true
    → sector_number G t s < sectors G → bytes_of (view_part F image t s) image ≡ body (sector (cut F G image) (sector_number G t s))
unfolding view_part view part_by value_or ◌>>=◌ refuse◌if◌ ◌>>◌
view_body F image G t s a g e h =
    let n : ℕ = sector_number G t s in
    rw (g, e) (sym (ap body (sector_cut F G a image n h) ∙ drop_take 2 254 (drop (start_of F G n) image) ∙ ap (take 254) (drop-drop 2 (start_of F G n) image)))
