-- The walk over a list of entries finds what the definitions say of the history that the list shows.
use Rattle.history.specs.Legal.{Setup}
use Rattle.gates.proofs.Common.{Behind, Bool, Entry, Event, IsPlaced, IsReplied, List, None, Option, Shows, Slot, Some, Traits, [], and_left, and_right, ap, arith, before_in, behind, cond, drains, fails, false, hosts, hosts_of, is_failed, is_invalid, is_link_timeout, is_link_timeout_in, is_pending, is_placed_invalid, is_severing, is_target_timer, is_unanswered, joins, joins_of, length, links_hard, ne_eqb, next_in, none-some, not, nth, phase, placed, placed_from, previous, refl, replied_of_reply, reply, severs, slice_get, submission, suc, sym, test_at, true, true≢false, zero, ℕ, ℤ, ◌&&◌, ◌-◌, ◌||◌, ◌∙◌, ◌≡◌, ◌≤◌}
use Rattle.gates.proofs.Lists.{get_there, one_some}

-- the entry as it is placed, where the entry before it hosts a LINK_TIMEOUT or not
abbrev pub placed_as : Bool → Entry → Entry
placed_as hosted e = cond (is_link_timeout e.op && not hosted) (record e { op = Rattle.entry.specs.declared.op.Op.TheVariants.Invalid }) e

-- what placing an entry as Invalid leaves of it
drains_placed : (b : Bool) (e : Entry) → drains (cond b (record e { op = Rattle.entry.specs.declared.op.Op.TheVariants.Invalid }) e) ≡ drains e
drains_placed true e = refl
drains_placed false e = refl

hard_placed : (b : Bool) (e : Entry) → links_hard (cond b (record e { op = Rattle.entry.specs.declared.op.Op.TheVariants.Invalid }) e) ≡ links_hard e
hard_placed true e = refl
hard_placed false e = refl

invalid_placed : (b : Bool) (e : Entry) → let x : Entry = cond b (record e { op = Rattle.entry.specs.declared.op.Op.TheVariants.Invalid }) e in is_invalid x.op ≡ (is_invalid e.op || b)
invalid_placed true e = elim (is_invalid e.op) as (λ z. true ≡ (z || true)) [ true ↦ refl | false ↦ refl ]
invalid_placed false e = elim (is_invalid e.op) as (λ z. z ≡ (z || false)) [ true ↦ refl | false ↦ refl ]

timer_placed : (b : Bool) (e : Entry) → let x : Entry = cond b (record e { op = Rattle.entry.specs.declared.op.Op.TheVariants.Invalid }) e in is_link_timeout x.op ≡ cond b false (is_link_timeout e.op)
timer_placed true e = refl
timer_placed false e = refl

timer_hosted : (l b : Bool) → cond (l && not b) false l ≡ (b && l)
timer_hosted true true = refl
timer_hosted true false = refl
timer_hosted false true = refl
timer_hosted false false = refl

pub next_severed : (k : ℕ) (o : Option Slot) (b : Behind) (s : Slot) → o ≡ Some s → let n : Behind = next_in k o b in n.severed ≡ (test_at joins_of o && (test_at (is_severing b.hosted) o || b.severed))
next_severed k None b s e = absurd (none-some s e)
next_severed k (Some x) b s e = refl

pub next_held : (k : ℕ) (o : Option Slot) (b : Behind) (s : Slot) → o ≡ Some s → let n : Behind = next_in k o b in n.held ≡ (test_at joins_of o && (test_at is_pending o || b.held))
next_held k None b s e = absurd (none-some s e)
next_held k (Some x) b s e = refl

-- a slot that severs has failed
pub severing_parts : (hosted : Bool) (s : Slot) (r : Option Bool) → s.reply ≡ r → is_severing hosted s ≡ true → (r ≡ Some true) × ((not s.traits.links_hard || is_placed_invalid hosted s) ≡ true)
severing_parts hosted s None e is = absurd (true≢false (sym is ∙ ap (λ z. is_failed z && (not s.traits.links_hard || is_placed_invalid hosted s)) e))
severing_parts hosted s (Some false) e is = absurd (true≢false (sym is ∙ ap (λ z. is_failed z && (not s.traits.links_hard || is_placed_invalid hosted s)) e))
severing_parts hosted s (Some true) e is = (refl, sym (ap (λ z. is_failed z && (not s.traits.links_hard || is_placed_invalid hosted s)) e) ∙ is)

pub nobody : Setup
nobody = record { rings = 0; caps = [] }

module _ (h : List Event) (i : ℕ) (xs : List Slot) (shows : Shows h i xs) where
  pub joins_shown : (k : ℕ) (s : Slot) → slice_get xs k ≡ Some s → joins (submission h (nth i k)) ≡ joins_of s
  joins_shown k s e = let a = (shows k s e).handed in
      ap joins a.1 ∙ ap (λ (z : Traits). (z.links_soft || z.links_hard) && not a.0.last) a.2 ∙ ap (λ z. (s.traits.links_soft || s.traits.links_hard) && not z) a.3

  hosts_shown : (k : ℕ) (s : Slot) → slice_get xs k ≡ Some s → hosts (submission h (nth i k)) ≡ hosts_of s
  hosts_shown k s e = let a = (shows k s e).handed in
      ap hosts a.1 ∙ ap (λ (z : Traits). ((z.links_soft || z.links_hard) && not a.0.last) && not z.link_timeout) a.2 ∙ ap (λ z. ((s.traits.links_soft || s.traits.links_hard) && not z) && not s.traits.link_timeout) a.3

  hosted_shown : (k : ℕ) → k ≤ length xs → hosts (before_in h (nth i k)) ≡ (behind xs k).hosted
  hosted_shown zero le = refl
  hosted_shown (suc k) le = let t = get_there xs k (omega arith) in
      ap (λ z. hosts (cond z None (submission h (previous (nth i (suc k)))))) (ne_eqb (suc k) 0 (λ u. absurd (omega arith)))
      ∙ ap (λ z. hosts (submission h (nth i z))) (let e : suc k - 1 ≡ k = omega arith in e) ∙ hosts_shown k t.0 t.1 ∙ ap (λ z. let b : Behind = next_in k z (behind xs k) in b.hosted) (sym t.1)

  -- what was handed in as the entry of a slot
  abbrev pub handed_in : (k : ℕ) (s : Slot) → slice_get xs k ≡ Some s → Entry
  handed_in k s e = (shows k s e).handed.0.entry

  -- the entry of a slot as it is placed
  abbrev pub placed_slot : (k : ℕ) (s : Slot) → slice_get xs k ≡ Some s → Entry
  placed_slot k s e = placed_as (behind xs k).hosted (handed_in k s e)

  pub placed_shown : (k : ℕ) (s : Slot) (e : slice_get xs k ≡ Some s) → k ≤ length xs → placed h (nth i k) ≡ Some (placed_slot k s e)
  placed_shown k s e le = let a = (shows k s e).handed in
      ap (placed_from (before_in h (nth i k))) a.1
      ∙ ap (λ z. Some (cond (is_link_timeout a.0.entry.op && not z) (record a.0.entry { op = Rattle.entry.specs.declared.op.Op.TheVariants.Invalid }) a.0.entry)) (hosted_shown k le)

  -- whether a slot's reply ends the rest of its chain
  hard_shown : (k : ℕ) (s : Slot) (e : slice_get xs k ≡ Some s) → (not (links_hard (placed_slot k s e)) || is_invalid (placed_slot k s e).op) ≡ (not s.traits.links_hard || is_placed_invalid (behind xs k).hosted s)
  hard_shown k s e = let x = handed_in k s e in let b : Bool = is_link_timeout x.op && not (behind xs k).hosted in
      ap (λ z. not z || is_invalid (placed_slot k s e).op) (hard_placed b x) ∙ ap (λ z. not (links_hard x) || z) (invalid_placed b x)
      ∙ ap (λ (z : Traits). not z.links_hard || (z.invalid || (z.link_timeout && not (behind xs k).hosted))) (shows k s e).handed.2

  pub severs_shown : (k : ℕ) (s : Slot) → slice_get xs k ≡ Some s → k ≤ length xs → is_severing (behind xs k).hosted s ≡ true → (e : Entry) × (res : ℤ) × IsPlaced h (nth i k) e × (reply h (nth i k) ≡ Some res) × (severs e res ≡ true)
  severs_shown k s e le is =
      let t = severing_parts (behind xs k).hosted s s.reply refl is in let p = placed_shown k s e le in let r = (shows k s e).replied true t.0 in
      (placed_slot k s e, r.0, p, r.1, rw (r.2 (placed_slot k s e) p) (hard_shown k s e ∙ t.1))

  pub replied_shown : (k : ℕ) (s : Slot) → slice_get xs k ≡ Some s → is_pending s ≡ false → IsReplied (phase h (nth i k))
  replied_shown k s e is = answered_shown s.reply refl where
    answered_shown : (r : Option Bool) → s.reply ≡ r → IsReplied (phase h (nth i k))
    answered_shown None u = absurd (true≢false (sym (ap is_unanswered u) ∙ is))
    answered_shown (Some f) u = let r = (shows k s e).replied f u in replied_of_reply nobody (phase h (nth i k)) r.0 r.1

  pub severs_found : (k : ℕ) (s : Slot) → slice_get xs k ≡ Some s → k ≤ length xs → (e : Entry) (res : ℤ) → IsPlaced h (nth i k) e → reply h (nth i k) ≡ Some res → severs e res ≡ true → is_severing (behind xs k).hosted s ≡ true
  severs_found k s x le e res p r is = by_reply s.reply refl where
    same : placed_slot k s x ≡ e
    same = one_some _ _ (sym (placed_shown k s x le) ∙ p)

    by_reply : (o : Option Bool) → s.reply ≡ o → is_severing (behind xs k).hosted s ≡ true
    by_reply None u = absurd ((shows k s x).pending (ap is_unanswered u) (replied_of_reply nobody (phase h (nth i k)) res r))
    by_reply (Some f) u =
        let t = (shows k s x).replied f u in let one : t.0 ≡ res = one_some _ _ (sym t.1 ∙ r) in
        let ff : f ≡ true = sym (t.2 e p) ∙ ap (fails e) one ∙ and_left (fails e res) (not (links_hard e) || is_invalid e.op) is in
        let hd : (not s.traits.links_hard || is_placed_invalid (behind xs k).hosted s) ≡ true = sym (hard_shown k s x) ∙ ap (λ (z : Entry). not (links_hard z) || is_invalid z.op) same ∙ and_right (fails e res) (not (links_hard e) || is_invalid e.op) is in
        rw (u, ff) hd

  pub drains_same : (k : ℕ) (s : Slot) (e : slice_get xs k ≡ Some s) → drains (placed_slot k s e) ≡ s.traits.drains
  drains_same k s e = drains_placed (is_link_timeout (handed_in k s e).op && not (behind xs k).hosted) (handed_in k s e) ∙ ap (λ (z : Traits). z.drains) (shows k s e).handed.2

  -- it is placed as a LINK_TIMEOUT
  pub timer_shown : (k : ℕ) (s : Slot) → slice_get xs k ≡ Some s → k ≤ length xs → is_link_timeout_in (placed h (nth i k)) ≡ is_target_timer (behind xs k).hosted s
  timer_shown k s e le = let x = handed_in k s e in ap is_link_timeout_in (placed_shown k s e le) ∙ timer_placed (is_link_timeout x.op && not (behind xs k).hosted) x ∙ timer_hosted (is_link_timeout x.op) (behind xs k).hosted
      ∙ ap (λ (z : Traits). (behind xs k).hosted && z.link_timeout) (shows k s e).handed.2
