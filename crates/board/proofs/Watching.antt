-- The poller's seat looks, and the steps of its looks are paid for.
use Rattle.board.specs.declared.looks.Outcome.TheVariants.{Pending}
use Rattle.history.proofs.Opening.{chain_stays}
use Rattle.board.proofs.Common.{Begins, Bool, Decided, Decides, Did, Event, Extends, Facts, Found, FoundHeld, FoundPending, Gated, Gating, HaveGoneOn, IsBlocked, IsChainBefore, IsHeld, IsOurs, IsPollerSeat, IsReaped, IsReplied, IsSameSeat, IsShutOut, IsStep, IsUnended, Kept, LastAt, Lasting, Legal, Line, List, Looks, NotHeld, Option, Paid, Poller, Released, Req, Seat, Step, Stepped, TellsOutcome, Thing, View, WasHeld, Watched, [], ap, append_assoc, arith, events_of, false, gone_on_stays, inl, inr, lasts, length, length-append, pass_of, phase, reaped_later, refl, replied_later, setup_of, submits, submits_grow, subst, suc, sym, true, ℕ, ⊎_elim, ◌++◌, ◌+◌, ◌<◌, ◌∙◌, ◌∷◌, ◌≡◌, ◌≤◌}
use Rattle.board.proofs.GoesLaws.{goes_looked, goes_still, goes_then}
use Rattle.board.proofs.PassFacts.{freed_looked}

abbrev pub TableSeat : Type 0
TableSeat = Seat (Option Thing) View

pub seat_looked : (s t : TableSeat) → IsPollerSeat s → t.me.1 ≡ s.me.1 → Looks s.me.0 t.me.0 → IsPollerSeat t
seat_looked s t k same x = record { role = ap (λ (z : View). z.role) x.is ∙ (k.role ∙ ap (λ (z : View). Poller (length z.layout.cells)) (sym x.is)); bare = same ∙ k.bare }

-- and so does one that continues with an event of its own
pub seat_own : (s t : TableSeat) (e : Event) → IsPollerSeat s → t.me.1 ≡ s.me.1 → Extends s.me.0 (Did e) s.me.0.role t.me.0 → IsPollerSeat t
seat_own s t e k same x = record { role = ap (λ (z : View). z.role) x.is ∙ (k.role ∙ ap (λ (z : View). Poller (length z.layout.cells)) (sym x.is)); bare = same ∙ k.bare }

pub watched_look : (b : Facts) (s t : TableSeat) → IsOurs b s → IsSameSeat s t × (t.me.1 ≡ s.me.1) → Looks s.me.0 t.me.0 → Watched b s t
watched_look b s t o same x = record {
  seat = seat_looked s t o.seat same.1 x;
  goes = goes_looked b (pass_of s) (pass_of t) o.ours same.0.0 x;
  freed_is = freed_looked s.me.0 t.me.0 (length s.me.0.layout.cells) o.seat.role x;
}

pub watched_none : (b : Facts) (s : TableSeat) → IsOurs b s → Watched b s s
watched_none b s o = record { seat = o.seat; goes = goes_still b (pass_of s) o.ours; freed_is = λ q. refl }

pub watched_then : (b : Facts) (s t u : TableSeat) → Watched b s t → Watched b t u → Watched b s u
watched_then b s t u x y = record { seat = y.seat; goes = goes_then b (pass_of s) (pass_of t) (pass_of u) [] x.goes y.goes; freed_is = λ q. y.freed_is q ∙ x.freed_is q }

pub still_ours : (b : Facts) (s t : TableSeat) → Watched b s t → IsOurs b t
still_ours b s t x = record { ours = x.goes.kept; seat = x.seat }

-- what was seen stays
pub legal_on : (b : Facts) (s t : TableSeat) (x : Watched b s t) → Legal (setup_of b.layout) (events_of (x.goes.later ++ s.me.0.seen))
legal_on b s t x = subst (λ (j : List Line). Legal (setup_of b.layout) (events_of j)) x.goes.seen_is x.goes.kept.legal

pub born_on : (b : Facts) (s t : TableSeat) (i k : ℕ) → Watched b s t → k < submits (events_of s.me.0.seen) i → k < submits (events_of t.me.0.seen) i
born_on b s t i k x lt = subst (λ (j : List Line). k < submits (events_of j) i) (sym x.goes.seen_is) (let z = submits_grow (setup_of b.layout) x.goes.later s.me.0.seen i in omega arith)

pub replied_on : (b : Facts) (s t : TableSeat) (q : Req) → Watched b s t → IsReplied (phase (events_of s.me.0.seen) q) → IsReplied (phase (events_of t.me.0.seen) q)
replied_on b s t q x is = subst (λ (j : List Line). IsReplied (phase (events_of j) q)) (sym x.goes.seen_is) (replied_later (setup_of b.layout) x.goes.later s.me.0.seen q (legal_on b s t x) is)

pub reaped_on : (b : Facts) (s t : TableSeat) (q : Req) → Watched b s t → IsReaped (phase (events_of s.me.0.seen) q) → IsReaped (phase (events_of t.me.0.seen) q)
reaped_on b s t q x is = subst (λ (j : List Line). IsReaped (phase (events_of j) q)) (sym x.goes.seen_is) (reaped_later (setup_of b.layout) x.goes.later s.me.0.seen q (legal_on b s t x) is)

pub lasts_on : (b : Facts) (s t : TableSeat) → Watched b s t → (P : List Event → Type 0) (q : Req) → Lasting (setup_of b.layout) P q → q.k < submits (events_of s.me.0.seen) q.ring → P (events_of s.me.0.seen) → P (events_of t.me.0.seen)
lasts_on b s t x P q k born p = subst (λ (j : List Line). P (events_of j)) (sym x.goes.seen_is) (lasts (setup_of b.layout) P q k x.goes.later s.me.0.seen (legal_on b s t x) born p)

-- ---- steps

pub paid_none : (v : View) (n : ℕ) → Paid v v n n
paid_none v n = ([], refl, omega arith)

pub paid_one : (word found : ℕ) (v w : View) → IsStep word found v w → Paid v w 0 1
paid_one word found v w is = (record { word = word; found = found; seen = w.seen } ∷ [], is, omega arith)

pub paid_then : (u v w : View) (a b c d n : ℕ) → Paid u v b a → Paid v w d c → c + n ≡ b → Paid u w (d + n) a
paid_then u v w a b c d n x y e = (y.0 ++ x.0, y.1 ∙ (ap (λ (l : List Step). y.0 ++ l) x.1 ∙ sym (append_assoc y.0 x.0 u.steps)), (let l = length-append y.0 x.0 in let p = x.2 in let q = y.2 in omega arith))

pub paid_on : (u v w : View) (a b c : ℕ) → Paid u v b a → Paid v w c b → Paid u w c a
paid_on u v w a b c x y = (y.0 ++ x.0, y.1 ∙ (ap (λ (l : List Step). y.0 ++ l) x.1 ∙ sym (append_assoc y.0 x.0 u.steps)), (let l = length-append y.0 x.0 in let p = x.2 in let q = y.2 in omega arith))

-- one step of two
pub paid_first : (word found : ℕ) (v w : View) → IsStep word found v w → Paid v w 1 2
paid_first word found v w is = let z = paid_one word found v w is in (z.0, z.1, omega arith)

pub paid_with : (v w : View) (a b c d : ℕ) → Paid v w b a → (n : ℕ) → a + n ≤ c → d ≤ b + n → Paid v w d c
paid_with v w a b c d x n p q = (x.0, x.1, (let z = x.2 in omega arith))

-- what was spared is paid too
pub paid_spared : (v w : View) (n a : ℕ) → Paid v w n a → Paid v w 0 a
paid_spared v w n a x = (x.0, x.1, (let z = x.2 in omega arith))

pub paid_most : (v w : View) (a c : ℕ) → Paid v w 0 a → a ≤ c → Paid v w 0 c
paid_most v w a c x le = (x.0, x.1, (let z = x.2 in omega arith))

pub paid_add : (u v w : View) (a c : ℕ) → Paid u v 0 a → Paid v w 0 c → Paid u w 0 (a + c)
paid_add u v w a c x y = paid_on u v w (a + c) c 0 (paid_with u v a 0 (a + c) c x c (omega arith) (omega arith)) y

-- ---- what a look before a decision leaves

pub last_after : (K : List ℕ) (r : Req) (s t u : TableSeat) (b : Facts) (cell gen found n m : ℕ) → Paid s.me.0 t.me.0 n m → LastAt K r (pass_of t) (pass_of u) cell gen found → LastAt K r (pass_of s) (pass_of u) cell gen found
last_after K r s t u b cell gen found n m x k = record {
  others = k.others ++ x.0;
  cell_is = k.cell_is;
  last = k.last ∙ ap (λ (l : List Step). record { word = Rattle.steps.specs.Cells.claim_at cell; found = found; seen = u.me.0.seen } ∷ l) (ap (λ (l : List Step). k.others ++ l) x.1 ∙ sym (append_assoc k.others x.0 s.me.0.steps));
}

pub stepped_after : (K : List ℕ) (r : Req) (s t u : TableSeat) (b : Facts) (n m : ℕ) → Paid s.me.0 t.me.0 n m → Stepped K r (pass_of t) (pass_of u) → Stepped K r (pass_of s) (pass_of u)
stepped_after K r s t u b n m x k = (k.0, k.1, k.2, last_after K r s t u b k.0 k.1 k.2 n m x k.3, k.4)

pub found_after : (K : List ℕ) (r : Req) (s t u : TableSeat) (b : Facts) (n m : ℕ) → Paid s.me.0 t.me.0 n m → FoundHeld K r (pass_of t) (pass_of u) → FoundHeld K r (pass_of s) (pass_of u)
found_after K r s t u b n m x k = (k.0, k.1, last_after K r s t u b k.0 k.1 _ n m x k.2)

-- ---- what looks found on the way

pub found_pending : (K : List ℕ) (r : Req) (s t : TableSeat) → TellsOutcome K r (pass_of s) (pass_of t) Pending → FoundPending K r (pass_of s) (pass_of t)
found_pending K r s t x = let y = x.1 in record { cell = y.0; gen = y.1; found = y.2; seen = t.me.0.seen; later = []; others = y.3.others; cell_is = y.3.cell_is; steps = y.3.last; shown = y.4; pending = x.0 }

pub pending_before : (K : List ℕ) (r : Req) (s t u : TableSeat) (n m : ℕ) → FoundPending K r (pass_of s) (pass_of t) → Paid t.me.0 u.me.0 n m → FoundPending K r (pass_of s) (pass_of u)
pending_before K r s t u n m x p = record { cell = x.cell; gen = x.gen; found = x.found; seen = x.seen; later = p.0 ++ x.later; others = x.others; cell_is = x.cell_is; steps = p.1 ∙ (ap (λ (l : List Step). p.0 ++ l) x.steps ∙ sym (append_assoc p.0 x.later _)); shown = x.shown; pending = x.pending }

pub pending_after : (K : List ℕ) (r : Req) (s t u : TableSeat) (n m : ℕ) → Paid s.me.0 t.me.0 n m → FoundPending K r (pass_of t) (pass_of u) → FoundPending K r (pass_of s) (pass_of u)
pending_after K r s t u n m p x = record {
  cell = x.cell;
  gen = x.gen;
  found = x.found;
  seen = x.seen;
  later = x.later;
  others = x.others ++ p.0;
  cell_is = x.cell_is;
  steps = x.steps ∙ ap (λ (l : List Step). x.later ++ (record { word = Rattle.steps.specs.Cells.claim_at x.cell; found = x.found; seen = x.seen } ∷ l)) (ap (λ (l : List Step). x.others ++ l) p.1 ∙ sym (append_assoc x.others p.0 s.me.0.steps));
  shown = x.shown;
  pending = x.pending;
}

-- a look that found the request Held
pub was_held : (K : List ℕ) (r : Req) (s t : TableSeat) → Begins t.me.0.seen s.me.0.seen → Stepped K r (pass_of s) (pass_of t) → IsHeld t.me.0.seen r → WasHeld K r (pass_of s) (pass_of t)
was_held K r s t on x held = record { cell = x.0; gen = x.1; found = x.2; seen = t.me.0.seen; later = []; others = x.3.others; cell_is = x.3.cell_is; steps = x.3.last; within = (on, ([], refl)); shown = x.4; held = held }

begins_then : (j k l : List Line) → Begins k j → Begins l k → Begins l j
begins_then j k l x y = (y.0 ++ x.0, y.1 ∙ (ap (λ (z : List Line). y.0 ++ z) x.1 ∙ sym (append_assoc y.0 x.0 j)))

-- and looks after it
pub held_before : (b : Facts) (r : Req) (s t u : TableSeat) (n m : ℕ) → WasHeld b.layout.cells r (pass_of s) (pass_of t) → Watched b t u → Paid t.me.0 u.me.0 n m → WasHeld b.layout.cells r (pass_of s) (pass_of u)
held_before b r s t u n m x w p = record {
  cell = x.cell;
  gen = x.gen;
  found = x.found;
  seen = x.seen;
  later = p.0 ++ x.later;
  others = x.others;
  cell_is = x.cell_is;
  steps = p.1 ∙ (ap (λ (l : List Step). p.0 ++ l) x.steps ∙ sym (append_assoc p.0 x.later _));
  within = (x.within.0, begins_then x.seen t.me.0.seen u.me.0.seen x.within.1 (w.goes.later, w.goes.seen_is));
  shown = x.shown;
  held = x.held;
}

-- and before it
pub held_after : (b : Facts) (r : Req) (s t u : TableSeat) (n m : ℕ) → Watched b s t → Paid s.me.0 t.me.0 n m → WasHeld b.layout.cells r (pass_of t) (pass_of u) → WasHeld b.layout.cells r (pass_of s) (pass_of u)
held_after b r s t u n m w p x = record {
  cell = x.cell;
  gen = x.gen;
  found = x.found;
  seen = x.seen;
  later = x.later;
  others = x.others ++ p.0;
  cell_is = x.cell_is;
  steps = x.steps ∙ ap (λ (l : List Step). x.later ++ (record { word = Rattle.steps.specs.Cells.claim_at x.cell; found = x.found; seen = x.seen } ∷ l)) (ap (λ (l : List Step). x.others ++ l) p.1 ∙ sym (append_assoc x.others p.0 s.me.0.steps));
  within = (begins_then s.me.0.seen t.me.0.seen x.seen (w.goes.later, w.goes.seen_is) x.within.0, x.within.1);
  shown = x.shown;
  held = x.held;
}

pub blocked_after : (b : Facts) (r : Req) (s t u : TableSeat) (n m : ℕ) → Paid s.me.0 t.me.0 n m → IsBlocked b.layout.cells r (pass_of t) (pass_of u) → IsBlocked b.layout.cells r (pass_of s) (pass_of u)
blocked_after b r s t u n m x d = let w = d.1.1 in (d.0, (d.1.0, (w.0, w.1, stepped_after b.layout.cells d.1.0 s t u b n m x w.2)))

-- nobody of the chain ended it: this is known by more steps before it
pub unended_after : (K : List ℕ) (r : Req) (s t u : TableSeat) (n m : ℕ) → Paid s.me.0 t.me.0 n m → IsUnended K r (pass_of t) (pass_of u) → IsUnended K r (pass_of s) (pass_of u)
unended_after K r s t u n m x = ⊎_elim (λ g. inl g) (λ w. inr (w.0, w.1, pending_after K w.0 s t u n m x w.2, w.3))

-- and stays so
pub gone_on : (b : Facts) (s t : TableSeat) (r : Req) (n : ℕ) → Watched b s t → r.k < submits (events_of s.me.0.seen) r.ring → HaveGoneOn (events_of s.me.0.seen) r n → HaveGoneOn (events_of t.me.0.seen) r n
gone_on b s t r n x born g = lasts_on b s t x (λ h. HaveGoneOn h r n) r (λ e h l a c. gone_on_stays (setup_of b.layout) e h l a r n c) born g

pub unended_before : (b : Facts) (r : Req) (s t u : TableSeat) (n m : ℕ) → r.k < submits (events_of t.me.0.seen) r.ring → IsUnended b.layout.cells r (pass_of s) (pass_of t) → Watched b t u → Paid t.me.0 u.me.0 n m → IsUnended b.layout.cells r (pass_of s) (pass_of u)
unended_before b r s t u n m born x w p = ⊎_elim
    (λ g. inl (gone_on b t u r 0 w born g))
    (λ f. inr (f.0, lasts_on b t u w (λ h. IsChainBefore h f.0 r) r (λ e h l a c. chain_stays (setup_of b.layout) e h l a f.0 r c) born f.1, pending_before b.layout.cells f.0 s t u n m f.2 p, gone_on b t u r (suc f.0.k) w born f.3))
    x

pub shut_after : (b : Facts) (r : Req) (s t u : TableSeat) (n m : ℕ) → Paid s.me.0 t.me.0 n m → IsShutOut b.layout.cells r (pass_of t) (pass_of u) → IsShutOut b.layout.cells r (pass_of s) (pass_of u)
shut_after b r s t u n m x d = (blocked_after b r s t u n m x d.0, unended_after b.layout.cells r s t u n m x d.1)

decided_after : (b : Facts) (r : Req) (s t u : TableSeat) (n m : ℕ) (y : Released) → Paid s.me.0 t.me.0 n m → Decided b r (pass_of t) (pass_of u) y → Decided b r (pass_of s) (pass_of u) y
decided_after b r s t u n m Released.Severed x d = (d.0, found_after b.layout.cells r s t u b n m x d.1)
decided_after b r s t u n m Released.Freed x d = (d.0, d.1, found_after b.layout.cells r s t u b n m x d.2)
decided_after b r s t u n m Released.Shut x d = shut_after b r s t u n m x d
decided_after b r s t u n m Released.Timer x d = d
decided_after b r s t u n m NotHeld x d = (d.0, stepped_after b.layout.cells r s t u b n m x d.1)

pub decides_after : (b : Facts) (r : Req) (s t u : TableSeat) (n m : ℕ) (y : Released) → Watched b s t → Paid s.me.0 t.me.0 n m → Decides b r (pass_of t) (pass_of u) y → Decides b r (pass_of s) (pass_of u) y
decides_after b r s t u n m y x p d = record {
  goes = goes_then b (pass_of s) (pass_of t) (pass_of u) _ x.goes d.goes;
  decided = decided_after b r s t u n m y p d.decided;
  was_free = λ is. sym (x.freed_is r) ∙ d.was_free is;
  others = λ i ne. d.others i ne ∙ x.freed_is i;
}

pub gated_after : (b : Facts) (r : Req) (s t u : TableSeat) (n m : ℕ) (l : Kept) (y : Gating) → Watched b s t → Paid s.me.0 t.me.0 n m → Gated b r t u l y → Gated b r s u l y
gated_after b r s t u n m l Gating.Severed x p g = (watched_then b s t u x g.0, g.1, g.2)
gated_after b r s t u n m l Gating.Open x p g = (watched_then b s t u x g.0, g.1, g.2, g.3)
gated_after b r s t u n m l Gating.Linked x p g = (watched_then b s t u x g.0, g.1, g.2, g.3, g.4)
gated_after b r s t u n m l Gating.Shut x p g = (watched_then b s t u x g.0, g.1, shut_after b r s t u n m p g.2)
gated_after b r s t u n m l Gating.Lost x p g = (decides_after b r s t u n m NotHeld x p g.0, g.1, g.2)

-- what the last of several looks found, where the nearest of the chain of r was looked at before it, as `looked` says
pub gated_found : (b : Facts) (r : Req) (s t u : TableSeat) (n m n' m' : ℕ) (l : Kept) (looked : Bool) (y : Gating) → r.k < submits (events_of t.me.0.seen) r.ring → Watched b s t → Paid s.me.0 t.me.0 n m → Paid t.me.0 u.me.0 n' m' → (looked ≡ true → IsUnended b.layout.cells r (pass_of s) (pass_of t)) → Found b r looked t u l y → Gated b r s u l y
gated_found b r s t u n m n' m' l true Gating.Shut born x p p' f g = (watched_then b s t u x g.0, g.1, (blocked_after b r s t u n m p g.2, unended_before b r s t u n' m' born (f refl) g.0 p'))
gated_found b r s t u n m n' m' l false Gating.Shut born x p p' f g = gated_after b r s t u n m l Gating.Shut x p g
gated_found b r s t u n m n' m' l true Gating.Severed born x p p' f g = gated_after b r s t u n m l Gating.Severed x p g
gated_found b r s t u n m n' m' l false Gating.Severed born x p p' f g = gated_after b r s t u n m l Gating.Severed x p g
gated_found b r s t u n m n' m' l true Gating.Open born x p p' f g = gated_after b r s t u n m l Gating.Open x p g
gated_found b r s t u n m n' m' l false Gating.Open born x p p' f g = gated_after b r s t u n m l Gating.Open x p g
gated_found b r s t u n m n' m' l true Gating.Linked born x p p' f g = gated_after b r s t u n m l Gating.Linked x p g
gated_found b r s t u n m n' m' l false Gating.Linked born x p p' f g = gated_after b r s t u n m l Gating.Linked x p g
gated_found b r s t u n m n' m' l true Gating.Lost born x p p' f g = gated_after b r s t u n m l Gating.Lost x p g
gated_found b r s t u n m n' m' l false Gating.Lost born x p p' f g = gated_after b r s t u n m l Gating.Lost x p g
