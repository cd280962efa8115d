-- What the check reports of a pulled card: rule 7 where some of the writes were made and not all.
-- Assumes nothing.
use Rattle.std.specs.Prelude.{◌≡◌, ◌≢◌, ℕ, zero, suc, ◌+◌, ◌-◌, ◌≤◌, ◌<◌, ◌&&◌, cond, set, take, drop, leb, ltb}
use Rattle.std.proofs.Math.Path.{refl, sym, ap}
use Rattle.std.proofs.Common.{◌∙◌, subst, take-append-drop, take_all, eqb-true, le-leb, lt-ltb, le-ltb}
use native.Mathlib.Omega.{arith}
use Rattle.std.proofs.Math.Decide.{ℕ_discrete, dec_le}
use Rattle.std.proofs.Math.Option.{some}
use mathlib.Core.List.{List, ◌∷◌, map, ◌++◌}
use Rattle.std.proofs.Math.ListN.{length, length-append}
use Rattle.std.proofs.lemmas.Bool.{lt-leb}
use Rattle.lists.specs.Lists.{sum, times, word_at, last_or}
use Rattle.lists.specs.ListLaws.{All, done, ◌also◌, at_all, times_here, times_past, times_join, zero_or, all_take}
use Rattle.lists.specs.Counts.{OneOf}
use Rattle.format.specs.Refusals.{ok}
use Rattle.format.proofs.RefusalLaws.{refused_ok}
use Rattle.format.specs.Geometry.{Format, unknown, stated, Geometry, geometry, sectors, Disc, sector, cut, Write, written}
use Rattle.format.specs.Formats.{GoodFormat}
use Rattle.format.proofs.Formats.{stated_cases}
use Rattle.format.specs.GeometryLaws.{Full}
use Rattle.format.proofs.GeometryLaws.{no_disc, sector_full, sector_same, sector_other, pointed_on}
use Rattle.format.specs.ChainLaws.{Chain}
use Rattle.format.proofs.ChainLaws.{chain_frame}
use Rattle.format.specs.Layout.{free_offset, free_count_offset, used_count_offset, Slot, system, pair_at, link_of, length_of, free_count, used_count, free_pointer, free, find, file_chain, directory}
use Rattle.format.specs.Check.{broken}
use Rattle.format.specs.Modules.{Module, sectors_for}
use Rattle.format.proofs.ModuleLaws.{sectors_fit}
use Rattle.format.specs.Effects.{needed, growth, system_write, save_writes, delete_writes}
use Rattle.format.proofs.CallLaws.{save_ok, delete_ok, rename_ok, protect_ok}
use Rattle.soundness.specs.Filed.{entries_of, chains_of}
use Rattle.soundness.specs.Frames.{laid_sum}
use Rattle.soundness.specs.Laid.{Laid, laid_one, free_few, sound_laid, laid_sound}
use Rattle.soundness.specs.Found.{Found, found, home_once, file_last}
use Rattle.soundness.specs.Pointers.{Bounded, Pointable, chain_pointable}
use Rattle.soundness.specs.SystemWrites.{system_free, system_freed, system_used}
use Rattle.soundness.specs.WriteFacts.{Removable, removable, savable}
use Rattle.soundness.specs.ListedWrites.{all_taken, taken_long}
use Rattle.soundness.specs.Reported.{reports_7}
use Rattle.format.specs.Calls.{after_check}
use Rattle.history.specs.Demand3.{Handed}
use Rattle.history.proofs.SaveSectors.{chain_rest}
use Rattle.history.proofs.DeleteLeaves.{delete_leaves}
use Rattle.history.specs.Cuts.{Writing, save, delete, rename, protect, as_command, writes_on, after_cut, CutReports}
use Rattle.history.proofs.CutWrites.{Within, Into, into_other, first_into, later_low, save_before, delete_after}
use Rattle.history.proofs.FiledFrame.{frame_met}
use Rattle.history.proofs.Quiet.{within_filed, within_entries, in_place, writing_sound, writing_whole, writing_state, cut_full}
use Rattle.history.proofs.Steps.{arranged_here, bounded_here, full_here, opening_state, rule_reported, now_sized, now_cut}
use Rattle.history.proofs.Writings.{made_by, writes_in_list, cut_done}

-- writes of other sectors leave the system sector
low_stays : {ws : List Write} (d : Disc) → All (λ w. 0 < w.at) ws → sector (written ws d) 0 ≡ sector d 0
low_stays d done = refl
low_stays d (◌also◌ {x = w} h hs) = low_stays (set d w.at w.bytes) hs ∙ sector_other d w.at 0 w.bytes (λ e. omega arith)

-- a sector that stands in one place, and zs some of the free ones
one_place : {N n k : ℕ} (xs ys zs : List ℕ) → OneOf N n (times n xs) (times n ys) k → times n zs ≤ k → times n (0 ∷ xs ++ ys ++ zs) ≤ 1
one_place {n = n} xs ys zs one few =
    let all : times n (xs ++ ys ++ zs) ≡ times n xs + times n ys + times n zs = omega (arith, times_join n (xs ++ ys) zs, times_join n xs ys) in
    elim (ℕ_discrete n 0) [
      | yes q ↦ omega (arith, times_here n 0 (xs ++ ys ++ zs) q, zero_or (times n xs + times n ys + times n zs) (λ h. omega (arith, one.low (omega arith))))
      | no q ↦ omega (arith, times_past n 0 (xs ++ ys ++ zs) q, one.one)
    ]

module _ (G : Geometry) (u : Bounded G) (d : Disc) (z : Full G d) (e : broken G d ≡ 0) where
  laid : Laid G d (directory G d) (free G d)
  laid = sound_laid G d e

  -- ---- save: the system sector is written, the entry is not

  module _ (nine : List ℕ) (m : Module) (room : needed G d (length m.bytes) ≤ length (free G d)) (j : ℕ) (few : suc j < length (save_writes G d nine m)) where
    taken : List ℕ
    taken = all_taken G d m

    rest : List ℕ
    rest = drop (needed G d (length m.bytes)) (free G d)

    split : free G d ≡ taken ++ rest
    unfolding taken rest needed
    split = sym (take-append-drop (sectors_for (length m.bytes) + growth G d) (free G d))

    many : length taken ≡ needed G d (length m.bytes)
    unfolding taken
    many = taken_long G d nine m room

    some_taken : 0 < sectors_for (length m.bytes)
    some_taken = (sectors_fit (length m.bytes)).some_sector

    now : Disc
    now = written (take (suc j) (save_writes G d nine m)) d

    rest_chain : Chain G d (link_of G (sector d (last_or 0 taken))) rest
    unfolding needed
    rest_chain = chain_rest taken rest (omega (arith, many, some_taken)) (subst (Chain G d (free_pointer G d)) split laid.free_chain)

    into : All (Into (0 ∷ taken)) (take (suc j) (save_writes G d nine m))
    unfolding taken
    into = first_into G u d z e nine m room (suc j) few

    sys : Write
    sys = system_write G d (link_of G (sector d (last_or 0 taken))) (free_count d - length taken) (used_count d + sectors_for (length m.bytes))

    some_sector : 0 < length d
    some_sector = omega (arith, (savable G d e).used_fits, z.many)

    at_zero : sector now 0 ≡ sys.bytes
    unfolding now sys save_writes taken system_write
    at_zero = low_stays (set d 0 _) (all_take j (later_low G u d z e nine m room)) ∙ sector_same d 0 _ some_sector

    to_rest : Pointable G (link_of G (sector d (last_or 0 taken)))
    to_rest = chain_pointable rest_chain (pointed_on G _ _)

    full_system : length (system d) ≡ 256
    full_system = sector_full z 0 (omega (arith, some_sector, z.many))

    total : length (directory G d) + sum (map length_of (entries_of d (directory G d))) + length (free G d) ≡ sectors G - 1
    total = laid_sum laid

    rest_long : length (free G d) ≡ length taken + length rest
    rest_long = ap length split ∙ length-append taken rest

    free_now : free_pointer G now ≡ link_of G (sector d (last_or 0 taken))
    unfolding sys
    free_now = ap (λ (r : List ℕ). pair_at G r free_offset) at_zero ∙ system_free G u d full_system _ to_rest _ _

    freed_now : free_count now ≡ length rest
    unfolding sys
    freed_now =
        ap (λ (r : List ℕ). word_at r free_count_offset) at_zero
        ∙ system_freed G u d full_system _ to_rest (free_count d - length taken) _ (omega (arith, laid.free_counted, total, u.few))
        ∙ omega (arith, laid.free_counted, rest_long)

    used_now : used_count now ≡ used_count d + sectors_for (length m.bytes)
    unfolding sys needed
    used_now =
        ap (λ (r : List ℕ). word_at r used_count_offset) at_zero
        ∙ system_used G u d full_system _ to_rest _ (used_count d + sectors_for (length m.bytes))
        (omega (arith, laid.used_counted, total, many, rest_long, u.few))

    within : Within G d now
    unfolding now
    within = save_before G u d z e nine m room (suc j) few

    free_times : (n : ℕ) → times n (free G d) ≡ times n taken + times n rest
    free_times n = ap (times n) split ∙ times_join n taken rest

    -- the sectors that are left are not written
    rest_stays : (n : ℕ) → 0 < times n rest → sector now n ≡ sector d n
    unfolding now
    rest_stays n h =
        let one = laid_one laid n in
        let low : n ≢ 0 = λ q. omega (arith, one.low (omega (arith, free_times n))) in
        into_other (0 ∷ taken) d into n (times_past n 0 taken low ∙ omega (arith, one.one, free_times n))

    chain_now : Chain G now (free_pointer G now) rest
    chain_now = rw free_now (chain_frame now rest_chain (at_all rest (λ n h. ap (link_of G) (rest_stays n h))))

    met_now : chains_of G now (entries_of now (directory G d)) ≡ chains_of G d (entries_of d (directory G d))
    met_now = frame_met now laid.filed within.pointer (in_place laid within)

    apart : (n : ℕ) → times n (0 ∷ directory G d ++ chains_of G now (entries_of now (directory G d)) ++ rest) ≤ 1
    apart n = rw met_now (one_place (directory G d) _ rest (laid_one laid n) (omega (arith, free_times n)))

    save_cut : broken G (written (take (suc j) (save_writes G d nine m)) d) ≡ 7
    unfolding now
    save_cut =
        reports_7 (within_filed laid within) chain_now (omega (arith, free_few laid, rest_long)) apart freed_now
        (λ q. omega (arith, q, used_now, some_taken, laid.used_counted, ap (λ (ss : List Slot). sum (map length_of ss)) (within_entries laid within)))

  -- ---- delete: the entry is gone, the system sector is not written

  module _ (nine : List ℕ) (s : Slot) (q : find G d nine ≡ some s) (vs : List Write) (low : All (λ w. 0 < w.at) vs)
      (apart_free : All (λ w. times w.at (free G d) ≡ 0) vs) (within : Within G (written (delete_writes G d s) d) (written vs d)) where
    deleted : Laid G (written (delete_writes G d s) d) (directory G d) (file_chain G d s ++ free G d)
    deleted = (delete_leaves u laid z s (found laid.filed q)).laid

    cut_now : Disc
    cut_now = written vs d

    zero_stays : sector cut_now 0 ≡ sector d 0
    unfolding cut_now
    zero_stays = low_stays d low

    free_stays : (n : ℕ) → 0 < times n (free G d) → sector cut_now n ≡ sector d n
    unfolding cut_now
    free_stays n h = others d apart_free
      where
        others : {ws : List Write} (x : Disc) → All (λ w. times w.at (free G d) ≡ 0) ws → sector (written ws x) n ≡ sector x n
        others x done = refl
        others x (◌also◌ {x = w} k ks) =
            others (set x w.at w.bytes) ks ∙ sector_other x w.at n w.bytes (λ e. omega (arith, k, ap (λ (i : ℕ). times i (free G d)) e))

    same_chain : Chain G cut_now (free_pointer G cut_now) (free G d)
    same_chain = rw zero_stays (chain_frame cut_now laid.free_chain (at_all (free G d) (λ n h. ap (link_of G) (free_stays n h))))

    met_after : let x = written (delete_writes G d s) d in
        chains_of G cut_now (entries_of cut_now (directory G d)) ≡ chains_of G x (entries_of x (directory G d))
    unfolding cut_now
    met_after = frame_met cut_now deleted.filed within.pointer (in_place deleted within)

    all_apart : (n : ℕ) → times n (0 ∷ directory G d ++ chains_of G cut_now (entries_of cut_now (directory G d)) ++ free G d) ≤ 1
    all_apart n = rw met_after (one_place (directory G d) _ (free G d) (laid_one deleted n) (omega (arith, times_join n (file_chain G d s) (free G d))))

    delete_reports : broken G (written vs d) ≡ 7
    unfolding cut_now
    delete_reports =
        let r = removable G d nine s e q in
        let fewer = length-append (file_chain G d s) (free G d) in
        let counted = ap (λ (x : List ℕ). word_at x free_count_offset) zero_stays ∙ laid.free_counted in
        reports_7 (within_filed deleted within) same_chain (free_few laid) all_apart counted
        (λ w. omega (
          arith,
          w,
          ap (λ (x : List ℕ). word_at x used_count_offset) zero_stays,
          laid.used_counted,
          laid_sum laid,
          laid_sum deleted,
          fewer,
          r.as_long,
          r.some_sector,
          ap (λ (ss : List Slot). sum (map length_of ss)) (within_entries deleted within),
        ))

  delete_cut : (nine : List ℕ) (s : Slot) → find G d nine ≡ some s → (j : ℕ) → suc j < length (delete_writes G d s)
      → broken G (written (take (suc j) (delete_writes G d s)) d) ≡ 7
  unfolding delete_writes
  delete_cut nine s q j few = by j few (delete_after G u d z e nine s q j)
    where
      f : Found G d (directory G d) nine s
      f = found laid.filed q

      r : Removable G d s
      r = removable G d nine s e q

      last : ℕ
      last = last_or 0 (file_chain G d s)

      home_kept : times s.home (free G d) ≡ 0
      home_kept = omega (arith, (laid_one laid s.home).one, home_once laid.filed s f.slot_of)

      last_kept : times last (free G d) ≡ 0
      last_kept = omega (arith, (laid_one laid last).one, f.within last, file_last laid.filed s f)

      by : (j : ℕ) → suc j < 3 → Within G (written (delete_writes G d s) d) (written (take (suc j) (delete_writes G d s)) d)
          → broken G (written (take (suc j) (delete_writes G d s)) d) ≡ 7
      by zero h w = delete_reports nine s q _ (r.home_low also done) (home_kept also done) w
      by (suc zero) h w = delete_reports nine s q _ (r.home_low also r.last_low also done) (home_kept also last_kept also done) w
      by (suc (suc j)) h w = absurd (omega arith)

-- ---- the four

-- where some of the writes were made and not all
reported : (G : Geometry) → Bounded G → (d : Disc) → Full G d → (w : Writing) (ws : List Write) → writes_on w G d ≡ ok ws → (k : ℕ) → 0 < k → k < length ws
    → broken G (written (take k ws) d) ≡ 7
unfolding writes_on
reported G u d z w ws p zero h few = absurd (omega arith)
reported G u d z (save name m) ws p (suc j) h few =
    let q = save_ok G d name m ws p in
    rw (← q.writes) (save_cut G u d z (eqb-true _ _ q.checked) q.nine m q.room j (rw q.writes few))
reported G u d z (delete name) ws p (suc j) h few =
    let q = delete_ok G d name ws p in
    rw (← q.writes) (delete_cut G u d z (eqb-true _ _ q.checked) q.nine q.s q.found j (rw q.writes few))
reported G u d z (rename old new) ws p (suc j) h few = let q = rename_ok G d old new ws p in absurd (omega (arith, few, ap length q.writes))
reported G u d z (protect name on) ws p (suc j) h few = let q = protect_ok G d name on ws p in absurd (omega (arith, few, ap length q.writes))

-- ---- the claim

module _ (F : Format) (o : GoodFormat F) (image : List ℕ) (G : Geometry) (g : geometry F (length image) ≡ ok G) (w : Writing) (buffer : List ℕ)
    (handed : Handed (as_command w buffer)) (ws : List Write) (p : writes_on w G (cut F G image) ≡ ok ws) (k : ℕ) where
  -- by how many writes were made
  by_count : broken G (written (take k ws) (cut F G image)) ≡ cond (leb 1 k && ltb k (length ws)) 7 0
  by_count =
      let u = bounded_here o image G g in
      let full = full_here o image G g in
      elim (dec_le 1 k) [
        | yes low ↦ elim (dec_le (length ws) k) [
          | yes high ↦
              let st = writing_state u (opening_state G (cut F G image) full (writing_sound G (cut F G image) w ws p)) w buffer ws handed p in
              rw (le-leb 1 k low, le-ltb k (length ws) high, take_all k ws high) (laid_sound st.laid)
          | no high ↦ rw (le-leb 1 k low, lt-ltb k (length ws) (omega arith)) (reported G u (cut F G image) full w ws p k low (omega arith))
        ]
        | no low ↦
            let none : k ≡ 0 = omega arith in
            rw (lt-leb 1 k (omega arith), none) (writing_sound G (cut F G image) w ws p)
      ]

  check_reports : after_check F (after_cut F image w k).image ≡ record { number = 0; rule = cond (leb 1 k && ltb k (length ws)) 7 0 }
  check_reports =
      let arr = arranged_here o image G g in
      let z = cut_full (full_here o image G g) w ws p k in
      let is = now_cut F G arr image g (take k ws) z in
      rw (cut_done F image G g w k ws p) (rule_reported F _ G (now_sized F G arr image g (take k ws) z) _ (rw is by_count))

cut_reports_of : (F : Format) → GoodFormat F → CutReports F
unfolding CutReports
cut_reports_of F o image G g w buffer handed z k =
    let m = made_by F image G g w buffer z in
    let whole = writing_whole G (cut F G image) (full_here o image G g) w m.ws m.passed in
    rw (writes_in_list F image G g w m whole) (check_reports F o image G g w buffer handed m.ws m.passed k)

none_reports : CutReports unknown
unfolding CutReports
none_reports image G g = absurd (refused_ok (sym (no_disc (length image)) ∙ g))

-- for whatever sectors and arrangement a caller states
pub cut_reports : (k a : ℕ) → CutReports (stated k a)
cut_reports = stated_cases CutReports cut_reports_of none_reports
