-- What a submitter knows of a request that it reaps, or that it can't reap.
use Rattle.board.specs.declared.phase.Phase.{Phase as Standing}
use Rattle.board.proofs.Common.{Armed, Cause, Did, Done, Extends, ExtendsTwice, Facts, Gone, Held, IsDone, IsOf, IsReplied, Legal, Lending, Lent, Line, List, Pass, Ready, Reap, Req, Role, Running, Setup, Shown, Some, Stands, Submitter, Unborn, View, after_reap, ap, cond, data_of, done_word, events_of, false, legal_tail, live_tail, of_z, phase, reaped, refl, replied, reply, reply_in, request_at, rings, same_itself, seen_of, setup_of, stands_for, still_data, still_replied, submits, submitter_can, subst, to_z, true, unborn_yet, w32, was_shut, ℕ, ℤ, ◌++◌, ◌∙◌, ◌∷◌, ◌≡◌, ◌≤◌}
use Rattle.board.proofs.Standings.{signed_is}
use Rattle.board.proofs.SubmitterSeats.{lends_it}

-- what the claim word of an answered request tells its submitter
pub is_done : (K : List ℕ) (j : List Line) (x w g : ℕ) (c : Cause) (res : ℤ) → Shown K j x w → phase (events_of j) (request_at K x g) ≡ replied c res → IsDone j (request_at K x g) g w
is_done K j x w g c res shown is = let d = done_word K j x w shown.0 shown.1 g c res is in record {
  cause = c;
  res = res;
  entry = d.entry;
  bits = d.payload;
  replied_is = is;
  placed_is = d.placed_is;
  bits_are = d.bits;
  word_is = d.word_is;
}

-- and its reply is one of 32 bits
pub signed_reply : (K : List ℕ) (j : List Line) (x w g : ℕ) (c : Cause) (res : ℤ) → Shown K j x w → phase (events_of j) (request_at K x g) ≡ replied c res → to_z w32 (of_z w32 res) ≡ res
signed_reply K j x w g c res shown is = let d = done_word K j x w shown.0 shown.1 g c res is in signed_is res d.payload d.bits

-- the lines of others leave an answered request and its data as they are
stays : (v w : View) (l : Line) (role : Role) (r : Req) (c : Cause) (res : ℤ) (x : Extends v l role w) → stands_for v.role (rings r.ring) ≡ true → phase (events_of v.seen) r ≡ replied c res → (phase (events_of x.mid) r ≡ replied c res) × (data_of (events_of x.mid) r ≡ data_of (events_of v.seen) r)
stays v w l role r c res x mine is =
    let s : Setup = setup_of v.layout in let legal : Legal s (events_of (x.saw.later ++ v.seen)) = subst (λ (j : List Line). Legal s (events_of j)) x.saw.is (legal_tail s l x.mid x.legal) in
    let live : was_shut (events_of (x.saw.later ++ v.seen)) ≡ false = subst (λ (j : List Line). was_shut (events_of j) ≡ false) x.saw.is (live_tail s l x.mid x.live) in (
      ap (λ (j : List Line). phase (events_of j) r) x.saw.is ∙ still_replied s r v.role c res mine x.saw.later v.seen legal live x.saw.none is,
      ap (λ (j : List Line). data_of (events_of j) r) x.saw.is ∙ still_data s r v.role c res mine x.saw.later v.seen legal live x.saw.none is,
    )

-- the submitter's note and its Reap
module _ (v w : View) (r : Req) (word value : ℕ) (c : Cause) (res : ℤ) (role : v.role ≡ Submitter r.ring) (x : ExtendsTwice v (Lent r word value) (Lending r) (Did (Reap r)) (Submitter r.ring) w) (is : phase (events_of v.seen) r ≡ replied c res) where
  first : (phase (events_of x.1.mid) r ≡ replied c res) × (data_of (events_of x.1.mid) r ≡ data_of (events_of v.seen) r)
  first = stays v x.0 (Lent r word value) (Lending r) r c res x.1 (submitter_can v r.ring role) is

  between : x.0.seen ≡ Lent r word value ∷ x.1.mid
  between = ap (λ (z : View). z.seen) x.1.is

  second : (phase (events_of x.2.mid) r ≡ replied c res) × (data_of (events_of x.2.mid) r ≡ data_of (events_of x.0.seen) r)
  second = stays x.0 w (Did (Reap r)) (Submitter r.ring) r c res x.2 (lends_it x.0 r r.ring (ap (λ (z : View). z.role) x.1.is) refl) (ap (λ (j : List Line). phase (events_of j) r) between ∙ first.0)

  now : w.seen ≡ Did (Reap r) ∷ x.2.mid
  now = ap (λ (z : View). z.seen) x.2.is

  pub reaped_now : phase (events_of w.seen) r ≡ reaped c res
  reaped_now = ap (λ (j : List Line). phase (events_of j) r) now ∙ (ap (λ b. cond b (after_reap (phase (events_of x.2.mid) r)) (phase (events_of x.2.mid) r)) (same_itself r) ∙ ap after_reap second.0)

  pub data_now : data_of (events_of w.seen) r ≡ data_of (events_of v.seen) r
  data_now = ap (λ (j : List Line). data_of (events_of j) r) now ∙ (second.1 ∙ (ap (λ (j : List Line). data_of (events_of j) r) between ∙ first.1))

  pub reply_now : reply (events_of w.seen) r ≡ Some res
  reply_now = ap reply_in reaped_now

-- who is neither Done nor Gone has no reply
pub unreplied : (j : List Line) (r : Req) (s : Standing) → Stands j r s → ((res : ℤ) → s ≡ Done res → ⊥) → (s ≡ Gone → ⊥) → ¬ IsReplied (phase (events_of j) r)
unreplied j r Unborn k a b y = subst IsReplied k y
unreplied j r Held k a b y = subst IsReplied k.0 y
unreplied j r Ready k a b y = subst IsReplied k.0 y
unreplied j r Running k a b y = subst IsReplied k y
unreplied j r (Armed d) k a b y = subst IsReplied k y
unreplied j r (Done res) k a b y = a res refl
unreplied j r Gone k a b y = b refl

-- nor has a request that wasn't submitted
pub unreplied_yet : (b : Facts) (p : Pass) (r : Req) → IsOf b p → submits (seen_of p) r.ring ≤ r.k → ¬ IsReplied (phase (seen_of p) r)
unreplied_yet b p r o le y = subst IsReplied (unborn_yet (setup_of b.layout) (seen_of p) r o.legal le) y
