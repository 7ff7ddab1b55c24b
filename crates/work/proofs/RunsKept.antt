-- What the single steps of a run come to: which events the pass went on by, how many steps it took, and whose pass it stays.
use Rattle.std.proofs.Common.{vec_capacity}
use Rattle.answers.specs.declared.named.NamedPipes.{NamedPipes}
use Rattle.history.specs.{IsPlacedAs, uses_at}
use Rattle.steps.proofs.CancelOnce.{IsEarly, unhit as not_hit}
use Rattle.steps.proofs.Submissions.{fits_is}
use Rattle.work.specs.declared.run.Ran.{Ran}
use Rattle.work.proofs.Common.{AreFew, AreMade, AreNamed, AsyncCancel, Begin, Begins, Bool, Busy, Conduit, Did, DidReply, EndsBy, Entry, Event, Extends, Facts, FitsOp, Flow, FoundOut, Full, HasBoth, HasRooms, Hold, Idle, Invalid, IsCell, IsGridOf, IsOf, IsSubmission, IsPipe, IsPlaced, IsSamePipe, IsStep, JoinsPipes, Layout, Leaving, Legal, Line, LinkTimeout, List, Lists, Looks, MayReply, MissedPipe, None, NoneOf, Op, OpAnswers, Option, Orderly, Submission, Pass, PipeIs, Piped, Reply, Req, Role, Running, RunsIt, Seated, Setup, Some, Step, StepsAt, StepsBy, Submitted, TableId, Thing, Timeout, TimeoutRemove, Took, UsesBoth, UsesNone, UsesOne, View, WaitedPipe, Wanted, [], ap, append_assoc, arith, before_in, bool_cases, cases_eq, claim_at, cond, contents, eq-eqb, event_of, events_of, false, flow, flows, flows_as, hit, holder, hosts, is_link_timeout, is_pipe, is_plain, is_timer, lasts, layout_after, leaves, leaves_one, length, length-append, ltb-true, not, nothing, offered, only_joined, op_run, over, own_of, owns, submission_after, parts_after, pipe_at, placed_behind, placed_from, placed_lasts, refl, request_at, rest, role_after, run_as, same_hit, setup_of, share_of, slice_index, slot_at, submission, submission_lasts, submitted_in, subst, suc, sym, total, true, true≢false, turned, uses_joined, wanted_in, was_shut, ℕ, ℤ, ⊎_elim, ◌&&◌, ◌++◌, ◌+◌, ◌<◌, ◌∙◌, ◌∷◌, ◌≡◌, ◌≤◌}
use Rattle.work.proofs.OwnEvents.{own_append, silent_line}
use Rattle.work.proofs.PassesKept.{extended_of}

-- a worker runs the entry as it was placed, which is no timer
run_op : (b : Option Submitted) (op : Op) (e : Entry) → is_timer (cond (is_link_timeout op && not (hosts b)) (record e { op = Invalid }) (record e { op = op })).op ≡ false → cond (is_link_timeout op && not (hosts b)) (record e { op = Invalid }) (record e { op = op }) ≡ record e { op = op_run op }
run_op b (LinkTimeout ticks) e s = ⊎_elim
    (λ (w : hosts b ≡ true). absurd (true≢false (sym (ap (λ (z : Bool). is_timer (cond (not z) (record e { op = Invalid }) (record e { op = LinkTimeout ticks })).op) w) ∙ s)))
    (λ (w : hosts b ≡ false). ap (λ (z : Bool). cond (not z) (record e { op = Invalid }) (record e { op = LinkTimeout ticks })) w) (bool_cases (hosts b))
run_op b op e s = refl

pub entry_run : (v : View) (r : Req) (data' : List ℕ) (p : Submission) → IsPlacedAs (events_of v.seen) r is_timer false → IsSubmission v.seen r data' p → IsPlaced (events_of v.seen) r (run_as p.sqe)
entry_run v r d p o k =
    let b = before_in (events_of v.seen) r in let is : IsPlaced (events_of v.seen) r (placed_behind b p.sqe) = ap (placed_from b) k.1 in
    let same' : o.0 ≡ placed_behind b p.sqe = (let z = sym o.1 ∙ is in cc) in
    is ∙ ap Some (run_op b p.sqe.op p.sqe (ap (λ (e : Entry). is_timer e.op) (sym same') ∙ o.2))

-- what is answered from a pipe is run as it was handed in
pub run_named : (op : Op) (n : ℕ) → uses_at (op_run op) n ≡ uses_at op n
run_named (LinkTimeout ticks) n = refl
run_named op n = refl

pub run_used : (op : Op) (n : ℕ) → uses_at op n ≡ true → op_run op ≡ op
run_used (LinkTimeout ticks) n u = absurd (true≢false (sym u))
run_used op n u = refl

pub run_piped : (e : Entry) (n : ℕ) → uses_at e.op n ≡ true → run_as e ≡ e
run_piped e n u = ap (λ (op : Op). (let z : Entry = record e { op = op } in z)) (run_used e.op n u)

-- the worker of r went on by these events of its own, and has it still
pub record Went (v m : View) (r : Req) (events : List Event) : Type 0 where
  pub later : List Line
  pub seen_is : m.seen ≡ later ++ v.seen
  pub own : own_of (Busy r) later ≡ events
  pub role_is : m.role ≡ Busy r

pub quiet_still : (v : View) (r : Req) → v.role ≡ Busy r → Went v v r []
quiet_still v r busy = record { later = []; seen_is = refl; own = refl; role_is = busy }

module _ (v m n : View) (r : Req) {events : List Event} (q : Went v m r events) where
  further : (later : List Line) → NoneOf m.role later → own_of (Busy r) (later ++ q.later) ≡ events
  further later none = own_append (Busy r) later q.later (subst (λ (z : Role). NoneOf z later) q.role_is none) ∙ q.own

  behind : (later : List Line) → later ++ m.seen ≡ (later ++ q.later) ++ v.seen
  behind later = ap (λ (j : List Line). later ++ j) q.seen_is ∙ sym (append_assoc later q.later v.seen)

  pub quiet_look : Looks m n → Went v n r events
  quiet_look x = record { later = x.saw.later ++ q.later; seen_is = ap (λ (z : View). z.seen) x.is ∙ (x.saw.is ∙ behind x.saw.later); own = further x.saw.later x.saw.none; role_is = ap (λ (z : View). z.role) x.is ∙ q.role_is }

  pub quiet_line : (l : Line) → ((h : List Event) → event_of l h ≡ h) → Extends m l (Busy r) n → Went v n r events
  quiet_line l silent x = record {
    later = l ∷ (x.saw.later ++ q.later);
    seen_is = ap (λ (z : View). z.seen) x.is ∙ ap (λ (j : List Line). l ∷ j) (x.saw.is ∙ behind x.saw.later);
    own = silent_line (Busy r) l (x.saw.later ++ q.later) silent ∙ further x.saw.later x.saw.none;
    role_is = ap (λ (z : View). z.role) x.is;
  }

  pub own_event : (e : Event) → owns (Busy r) (Did e) ≡ true → Extends m (Did e) (Busy r) n → Went v n r (e ∷ events)
  own_event e mine x = record {
    later = Did e ∷ (x.saw.later ++ q.later);
    seen_is = ap (λ (z : View). z.seen) x.is ∙ ap (λ (j : List Line). Did e ∷ j) (x.saw.is ∙ behind x.saw.later);
    own = ap (λ (b : Bool). cond b (e ∷ own_of (Busy r) (x.saw.later ++ q.later)) (own_of (Busy r) (x.saw.later ++ q.later))) mine ∙ ap (λ (h : List Event). e ∷ h) (further x.saw.later x.saw.none);
    role_is = ap (λ (z : View). z.role) x.is;
  }

  -- and then by one
  pub ends_by : (w : View) (e : Event) (role : Role) → Extends m (Did e) role n → w.seen ≡ n.seen → w.role ≡ Idle → EndsBy v w r events e
  ends_by w e role x same idle = record {
    later = x.saw.later ++ q.later;
    seen_is = same ∙ (ap (λ (z : View). z.seen) x.is ∙ ap (λ (j : List Line). Did e ∷ j) (x.saw.is ∙ behind x.saw.later));
    own = further x.saw.later x.saw.none;
    role_is = idle;
  }

-- a run that is no cancel's did nothing before its reply
few_none : (o : Option Wanted) → AreFew o []
few_none (Some u) = λ _. omega arith
few_none None = refl

pub bare_reply : (b : Running) (w : Pass) (res : ℤ) (data' : List ℕ) → EndsBy b.pass.view w.view b.req [] (Reply b.req res data') → w.took ≡ [] → DidReply b w res
bare_reply b w res d ends none' = record { data' = d; own = []; ends = ends; hits = tt; took_is = none'; few = λ e is. few_none (wanted_in e.op) }

-- one step more
pub took_none : (v : View) → Took v v 0
took_none v = ([], refl, refl)

pub took_more : (u v w : View) (n : ℕ) (word found : ℕ) → Took u v n → IsStep word found v w → Took u w (suc n)
took_more u v w n word found t is = let last : Step = record { word = word; found = found; seen = w.seen } in (last ∷ t.0, ap suc t.1, is ∙ ap (λ (s : List Step). last ∷ s) t.2)

pub took_both : (u v w : View) (n m : ℕ) → Took u v n → Took v w m → Took u w (m + n)
took_both u v w n m x y = (y.0 ++ x.0, length-append y.0 x.0 ∙ (λ i. y.1 i + x.1 i), y.2 ∙ (ap (λ (s : List Step). y.0 ++ s) x.2 ∙ sym (append_assoc y.0 x.0 u.steps)))

-- a step that found a pipe out is one of the run's
pub missed_out : (u v m w : View) (p : ℕ) (r : Req) (before after : ℕ) → Took u v before → MissedPipe v m p r → Took m w after → FoundOut u w r p
missed_out u v m w p r before after first k t = let last : Step = record { word = pipe_at p; found = k.0; seen = m.seen } in record {
  before = first.0;
  step = last;
  after = t.0;
  steps = t.2 ∙ ap (λ (s : List Step). t.0 ++ s) (k.1 ∙ ap (λ (s : List Step). last ∷ s) first.2);
  word_is = refl;
  out = k.2;
  other = k.3;
  holds = k.4;
  is_other = k.5;
}

-- a worker's pass stays one of the board's, whatever its role
module _ (b : Facts) (p q : Pass) (r : Req) (o : IsOf b p) (same : q.table ≡ p.table) (busy : p.view.role ≡ Busy r) where
  pub worker_on : (l : Line) → Extends p.view l (Busy r) q.view → IsOf b q
  worker_on l x = extended_of b p q l (Busy r) o (ap (share_of b) (sym busy)) same x

  pub worker_idle : (l : Line) → Extends p.view l Idle q.view → IsOf b q
  worker_idle l x = extended_of b p q l Idle o (ap (share_of b) (sym busy)) same x

-- also once it has replied and has given its pipes back
worker_gone : (b : Facts) (p q : Pass) (r : Req) (mid : View) (l : Line) → IsOf b p → q.table ≡ p.table → p.view.role ≡ Busy r → Extends p.view l (Leaving r) mid → q.view.role ≡ Idle → q.view.layout ≡ mid.layout → q.view.parts ≡ mid.parts → q.view.seen ≡ mid.seen → q.view.heard ≡ mid.heard → (AreMade mid.seen mid.steps → AreMade q.view.seen q.view.steps) → IsOf b q
worker_gone b p q r mid l o same busy x idle layout parts seen heard made =
    let m : Pass = record { table = p.table; view = mid; took = []; woken = [] } in let k = extended_of b p m l (Leaving r) o (ap (share_of b) (sym busy)) refl x in record {
      table_is = same ∙ o.table_is;
      layout_is = layout ∙ k.layout_is;
      share_is = parts ∙ (k.share_is ∙ (ap (share_of b) (ap (λ (z : View). z.role) x.is) ∙ ap (share_of b) (sym idle)));
      legal = subst (λ (j : List Line). Legal (setup_of b.layout) (events_of j)) (sym seen) k.legal;
      live = ap (λ (j : List Line). was_shut (events_of j)) seen ∙ k.live;
      orderly = subst (Orderly b.layout) (sym seen) k.orderly;
      looked = heard ∙ k.looked;
      made = made k.made;
    }

pub worker_left : (b : Facts) (p q : Pass) (r : Req) (mid : View) (l : Line) (word found : ℕ) → IsOf b p → q.table ≡ p.table → p.view.role ≡ Busy r → Extends p.view l (Leaving r) mid → q.view ≡ leaves word found mid → IsOf b q
worker_left b p q r mid l word found o same busy x is = worker_gone b p q r mid l o same busy x (ap (λ (z : View). z.role) is) (ap (λ (z : View). z.layout) is) (ap (λ (z : View). z.parts) is) (ap (λ (z : View). z.seen) is) (ap (λ (z : View). z.heard) is) (λ m. subst (λ (z : View). AreMade z.seen z.steps) (sym is) (([], refl), m))

pub worker_left_both : (b : Facts) (p q : Pass) (r : Req) (mid : View) (l : Line) (kept first found second last : ℕ) → IsOf b p → q.table ≡ p.table → p.view.role ≡ Busy r → Extends p.view l (Leaving r) mid → q.view ≡ leaves second last (leaves_one r kept first found mid) → IsOf b q
worker_left_both b p q r mid l kept first found second last o same busy x is = worker_gone b p q r mid l o same busy x (ap (λ (z : View). z.role) is) (ap (λ (z : View). z.layout) is) (ap (λ (z : View). z.parts) is) (ap (λ (z : View). z.seen) is) (ap (λ (z : View). z.heard) is) (λ m. subst (λ (z : View). AreMade z.seen z.steps) (sym is) (([], refl), (([], refl), m)))

-- what was seen before an own line is a beginning of what was seen after it
pub begins_on : (v w : View) (l : Line) (role : Role) → Extends v l role w → Begins w.seen v.seen
begins_on v w l role x = (l ∷ x.saw.later, ap (λ (z : View). z.seen) x.is ∙ ap (λ (j : List Line). l ∷ j) x.saw.is)

pub begins_both : (a b c : List Line) → Begins b a → Begins c b → Begins c a
begins_both a b c x y = (y.0 ++ x.0, y.1 ∙ (ap (λ (j : List Line). y.0 ++ j) x.1 ∙ sym (append_assoc y.0 x.0 a)))

-- ---- who runs a request continues to run it

module _ (table : TableId) (v w : View) (x g : ℕ) (r : Req) (p : Submission) (pipes : ℕ) (k : RunsIt table v x g r p pipes) where
  kept_by : w.layout ≡ v.layout → w.role ≡ Busy r → w.parts ≡ v.parts → IsSubmission w.seen r [] p → IsPlacedAs (events_of w.seen) r is_timer false → Orderly w.layout w.seen → Legal (setup_of w.layout) (events_of w.seen) → RunsIt table w x g r p pipes
  kept_by same role parts submission kind orderly legal = record {
    req_is = ap (λ (L : Layout). request_at L.cells x g) same ∙ k.req_is;
    fits = (k.fits.0, subst (λ (L : Layout). IsCell L.cells x) (sym same) k.fits.1, k.fits.2, k.fits.3);
    pipes_are = (ap (λ (L : Layout). length L.caps) same ∙ k.pipes_are.0, k.pipes_are.1);
    role = role;
    parts = subst (λ (n : ℕ). 0 < n) (sym parts) k.parts;
    submission = submission;
    kind = kind;
    orderly = orderly;
    legal = legal;
  }

  -- the kind that was placed stays
  kind_on : (j : List Line) → Legal (setup_of v.layout) (events_of (j ++ v.seen)) → IsPlacedAs (events_of (j ++ v.seen)) r is_timer false
  kind_on j l = let S : Setup = setup_of v.layout in (k.kind.0, lasts S (λ h. IsPlaced h r k.kind.0) r (placed_lasts S r k.kind.0) j v.seen l (submitted_in S v.seen r _ k.legal k.submission.1) k.kind.1, k.kind.2)

  pub runs_on : (l : Line) → Extends v l (Busy r) w → RunsIt table w x g r p pipes
  runs_on l e = let S : Setup = setup_of v.layout in let all : w.seen ≡ (l ∷ e.saw.later) ++ v.seen = ap (λ (z : View). z.seen) e.is ∙ ap (λ (j : List Line). l ∷ j) e.saw.is in
      let same = layout_after v w l (Busy r) e in let seen = ap (λ (z : View). z.seen) e.is in
      kept_by same (role_after v w l (Busy r) e) (parts_after v w l (Busy r) e) (submission_after v w l (Busy r) e r [] p k.submission)
      (subst (λ (j : List Line). IsPlacedAs (events_of j) r is_timer false) (sym all) (kind_on (l ∷ e.saw.later) (subst (λ (j : List Line). Legal S (events_of (l ∷ j))) e.saw.is e.legal)))
      (subst (λ (z : Layout × List Line). Orderly z.0 z.1) (λ i. (sym same i, sym seen i)) e.orderly) (subst (λ (z : Layout × List Line). Legal (setup_of z.0) (events_of z.1)) (λ i. (sym same i, sym seen i)) e.legal)

  pub runs_look : Looks v w → RunsIt table w x g r p pipes
  runs_look e = let same = ap (λ (z : View). z.layout) e.is in let seen = ap (λ (z : View). z.seen) e.is in let S : Setup = setup_of v.layout in
      let legal : Legal S (events_of (e.saw.later ++ v.seen)) = subst (λ (j : List Line). Legal S (events_of j)) e.saw.is e.legal in
      kept_by same (ap (λ (z : View). z.role) e.is ∙ k.role) (ap (λ (z : View). z.parts) e.is)
      (k.submission.0, subst (λ (j : List Line). submission (events_of j) r ≡ Some (record { entry = p.sqe; bytes = k.submission.0; last = p.last })) (sym (seen ∙ e.saw.is)) (lasts S (λ h. submission h r ≡ Some (record { entry = p.sqe; bytes = k.submission.0; last = p.last })) r (submission_lasts S r _) e.saw.later v.seen legal (submitted_in S v.seen r _ k.legal k.submission.1) k.submission.1), k.submission.2)
      (subst (λ (j : List Line). IsPlacedAs (events_of j) r is_timer false) (sym (seen ∙ e.saw.is)) (kind_on e.saw.later legal))
      (subst (λ (z : Layout × List Line). Orderly z.0 z.1) (λ i. (sym same i, sym seen i)) e.orderly) (subst (λ (z : Layout × List Line). Legal (setup_of z.0) (events_of z.1)) (λ i. (sym same i, sym seen i)) e.legal)

  -- the entry that was placed, and its buffer
  pub runs_placed : IsPlaced (events_of v.seen) r (run_as p.sqe)
  runs_placed = entry_run v r [] p k.kind k.submission

  pub runs_entry : (e : Entry) → IsPlaced (events_of v.seen) r e → run_as p.sqe ≡ e
  runs_entry e is = let z = sym runs_placed ∙ is in cc

  -- of an entry that is answered from a pipe
  pub piped_entry : (n : ℕ) → uses_at p.sqe.op n ≡ true → (e : Entry) → IsPlaced (events_of v.seen) r e → p.sqe ≡ e
  piped_entry n named e is = sym (run_piped p.sqe n named) ∙ runs_entry e is

  -- what is said of the entry as it is placed, of which it follows that it is answered from a pipe, is true of what was handed in
  pub handed_by : (P : Op → Type 0) (n : ℕ) → ((op : Op) → P op → uses_at op n ≡ true) → ((e : Entry) → IsPlaced (events_of v.seen) r e → P e.op) → P p.sqe.op
  handed_by P n used f = let z = f (run_as p.sqe) runs_placed in subst P (run_used p.sqe.op n (sym (run_named p.sqe.op n) ∙ used (op_run p.sqe.op) z)) z

  pub one_handed : (n : ℕ) → ((e : Entry) → IsPlaced (events_of v.seen) r e → UsesOne e.op (length v.layout.caps) n) → UsesOne p.sqe.op (length v.layout.caps) n
  one_handed n = handed_by (λ (o : Op). UsesOne o (length v.layout.caps) n) n (λ o u. u.used)

  pub both_handed : (s t : ℕ) → ((e : Entry) → IsPlaced (events_of v.seen) r e → UsesBoth e.op (length v.layout.caps) s t) → UsesBoth p.sqe.op (length v.layout.caps) s t
  both_handed s t = handed_by (λ (o : Op). UsesBoth o (length v.layout.caps) s t) s (λ o u. (uses_joined o s t u.joins).0)

  -- and the other way round
  pub placed_by : (P : Op → Type 0) (n : ℕ) → uses_at p.sqe.op n ≡ true → P p.sqe.op → (e : Entry) → IsPlaced (events_of v.seen) r e → P e.op
  placed_by P n used x e is = subst (λ (d : Entry). P d.op) (piped_entry n used e is) x

  pub runs_fits : FitsOp p.sqe.op (length p.buffer.items)
  runs_fits = subst (λ (bytes : List ℕ). FitsOp p.sqe.op (length bytes)) (sym k.submission.2) (fits_is (setup_of v.layout) (events_of v.seen) r _ k.legal k.submission.1)

  -- it is no timer
  pub runs_kind : is_timer (op_run p.sqe.op) ≡ false
  runs_kind = let same' : k.kind.0 ≡ run_as p.sqe = (let z = sym k.kind.1 ∙ runs_placed in cc) in ap (λ (e : Entry). is_timer e.op) (sym same') ∙ k.kind.2

  -- the same with another submission of the same entry and bytes
  pub runs_same : (c : Submission) → c.sqe ≡ p.sqe → c.last ≡ p.last → c.buffer.items ≡ p.buffer.items → RunsIt table v x g r c pipes
  runs_same c sqe last items = record {
    req_is = k.req_is;
    fits = k.fits;
    pipes_are = k.pipes_are;
    role = k.role;
    parts = k.parts;
    kind = k.kind;
    submission = (k.submission.0, k.submission.1 ∙ (λ i. Some (record { entry = sym sqe i; bytes = k.submission.0; last = sym last i })), items ∙ k.submission.2);
    orderly = k.orderly;
    legal = k.legal;
  }

  pub one_placed : (n : ℕ) → UsesOne p.sqe.op pipes n → (e : Entry) → IsPlaced (events_of v.seen) r e → UsesOne e.op (length v.layout.caps) n
  one_placed n one = placed_by (λ (o : Op). UsesOne o (length v.layout.caps) n) n one.used (subst (λ (m : ℕ). UsesOne p.sqe.op m n) (sym k.pipes_are.0) one)

  pub both_placed : (s t : ℕ) → UsesBoth p.sqe.op pipes s t → (e : Entry) → IsPlaced (events_of v.seen) r e → UsesBoth e.op (length v.layout.caps) s t
  both_placed s t both = placed_by (λ (o : Op). UsesBoth o (length v.layout.caps) s t) s (uses_joined p.sqe.op s t both.joins).0 (subst (λ (m : ℕ). UsesBoth p.sqe.op m s t) (sym k.pipes_are.0) both)

  -- it is answered from no pipe, as it was handed in and as it is placed
  pub past_is : UsesNone p.sqe.op pipes → (e : Entry) → IsPlaced (events_of v.seen) r e → UsesNone e.op (length v.layout.caps)
  past_is past e placed' q lt = ap (λ (d : Entry). uses_at d.op q) (sym (runs_entry e placed')) ∙ (run_named p.sqe.op q ∙ past q (subst (λ (m : ℕ). q < m) k.pipes_are.0 lt))

  -- it is still placed so once others went on
  pub placed_on : (l : Line) (role : Role) → Extends v l role w → (e : Entry) → IsPlaced (events_of v.seen) r e → IsPlaced (events_of w.seen) r e
  placed_on l role x e is = let S : Setup = setup_of v.layout in let seen : w.seen ≡ (l ∷ x.saw.later) ++ v.seen = ap (λ (z : View). z.seen) x.is ∙ ap (λ (j : List Line). l ∷ j) x.saw.is in
      subst (λ (j : List Line). IsPlaced (events_of j) r e) (sym seen) (lasts S (λ h. IsPlaced h r e) r (placed_lasts S r e) (l ∷ x.saw.later) v.seen (subst (λ (j : List Line). Legal S (events_of (l ∷ j))) x.saw.is x.legal) (submitted_in S v.seen r _ k.legal k.submission.1) is)

  -- what is said of it stays true
  pub named_on : (l : Line) (role : Role) → Extends v l role w → (P : Entry → Type 0) → ((e : Entry) → IsPlaced (events_of v.seen) r e → P e) → (e : Entry) → IsPlaced (events_of w.seen) r e → P e
  named_on l role x P f e is = let same' : run_as p.sqe ≡ e = (let z = sym (placed_on l role x (run_as p.sqe) runs_placed) ∙ is in cc) in subst P same' (f (run_as p.sqe) runs_placed)

-- who begins a request runs it
pub runs_begun : (table : TableId) (v w : View) (x g : ℕ) (r : Req) (p : Submission) (pipes : ℕ) → Extends v (Did (Begin r)) (Busy r) w → request_at v.layout.cells x g ≡ r → (x < 16384) × IsCell v.layout.cells x × (claim_at x + 7 < table.words) × (g < 16777216) → (length v.layout.caps ≡ pipes) × (pipes ≤ 64) → 0 < v.parts → IsSubmission w.seen r [] p → RunsIt table w x g r p pipes
runs_begun table v w x g r p pipes e req_is fits pipes_are parts submission =
    let same = sym (layout_after v w (Did (Begin r)) (Busy r) e) in let seen = sym (ap (λ (z : View). z.seen) e.is) in let may = e.legal.0.1 in record {
      req_is = subst (λ (L : Layout). request_at L.cells x g ≡ r) same req_is;
      fits = (fits.0, subst (λ (L : Layout). IsCell L.cells x) same fits.1, fits.2, fits.3);
      pipes_are = (subst (λ (L : Layout). length L.caps ≡ pipes) same pipes_are.0, pipes_are.1);
      role = role_after v w (Did (Begin r)) (Busy r) e;
      parts = subst (λ (n : ℕ). 0 < n) (sym (parts_after v w (Did (Begin r)) (Busy r) e)) parts;
      submission = submission;
      kind = subst (λ (j : List Line). IsPlacedAs (events_of j) r is_timer false) seen may.2;
      orderly = subst (λ (z : Layout × List Line). Orderly z.0 z.1) (λ i. (same i, seen i)) e.orderly;
      legal = subst (λ (z : Layout × List Line). Legal (setup_of z.0) (events_of z.1)) (λ i. (same i, seen i)) e.legal;
    }

-- and has done nothing yet
pub unhit_begun : (v w : View) (r : Req) → Extends v (Did (Begin r)) (Busy r) w → hit (events_of w.seen) r ≡ nothing
unhit_begun v w r e = subst (λ (j : List Line). hit (events_of j) r ≡ nothing) (sym (ap (λ (z : View). z.seen) e.is)) (not_hit v.layout r e.mid e.legal.1 e.orderly.1 (subst IsEarly (sym e.legal.0.1.0) tt))

-- what it did is only what it did itself
module _ (v w : View) (r : Req) (busy : v.role ≡ Busy r) where
  pub same_hit_looked : Looks v w → hit (events_of w.seen) r ≡ hit (events_of v.seen) r
  same_hit_looked e = ap (λ (j : List Line). hit (events_of j) r) (ap (λ (z : View). z.seen) e.is ∙ e.saw.is) ∙ same_hit r e.saw.later v.seen (subst (λ (z : Role). NoneOf z e.saw.later) busy e.saw.none)

  pub same_hit_silent : (l : Line) (role : Role) → ((j : List Line) → events_of (l ∷ j) ≡ events_of j) → Extends v l role w → hit (events_of w.seen) r ≡ hit (events_of v.seen) r
  same_hit_silent l role silent e = ap (λ (j : List Line). hit (events_of j) r) (ap (λ (z : View). z.seen) e.is ∙ ap (λ (j : List Line). l ∷ j) e.saw.is) ∙ (ap (λ (h : List Event). hit h r) (silent (e.saw.later ++ v.seen)) ∙ same_hit r e.saw.later v.seen (subst (λ (z : Role). NoneOf z e.saw.later) busy e.saw.none))

-- a table's cells stay
pub grid_on : (table : TableId) (K : List ℕ) (v w : View) → w.layout ≡ v.layout → IsGridOf table K v → IsGridOf table K w
grid_on table K v w same o = record { cells_are = ap (λ (L : Layout). L.cells) same ∙ o.cells_are; wide = o.wide }

-- and so does the room of its lists
pub room_on : (table : TableId) (K : List ℕ) (v w : View) (lists : Lists) → IsGridOf table K v → w.layout ≡ v.layout → HasRooms K lists → HasRooms w.layout.cells lists
room_on table K v w lists grid same spare = subst (λ (L : List ℕ). HasRooms L lists) (sym (ap (λ (L : Layout). L.cells) same ∙ grid.cells_are)) spare

-- ---- which pipe an operation names

pub plain_run : (op : Op) → is_timer op ≡ false → wanted_in op ≡ None → is_plain op ≡ true
plain_run (Timeout ticks etime_success count) t w = absurd (true≢false t)
plain_run (LinkTimeout ticks) t w = absurd (true≢false t)
plain_run (AsyncCancel u all) t w = absurd (let z = w in cc)
plain_run (TimeoutRemove u) t w = absurd (let z = w in cc)
plain_run op t w = refl

-- what is placed is a cancel where what was handed in is one, and names no pipe then
pub wanted_run : (op : Op) → wanted_in (op_run op) ≡ wanted_in op
wanted_run (LinkTimeout ticks) = refl
wanted_run op = refl

pub steps_plain : (b : Running) (w : View) (e : Entry) (ran : Ran) → wanted_in e.op ≡ None → (named : NamedPipes) → AreNamed e.op (length b.pass.view.layout.caps) named → StepsAt 0 named b.pass.view w b.req ran → StepsBy 0 (wanted_in e.op) b w e ran
steps_plain b w e ran is named are t = subst (λ (u : Option Wanted). StepsBy 0 u b w e ran) (sym is) (named, are, t)

is_below : (caps : List ℕ) (n : ℕ) → is_pipe caps n ≡ true → n < length caps
is_below caps n there = ltb-true n (length caps) there

-- ---- which pipes it has

pub held_now : (v w : View) (r : Req) (p : ℕ) (role : Role) → Extends v (Hold r p) role w → holder w.seen p ≡ Some r
held_now v w r p role x = ap (λ (z : View). holder z.seen p) x.is ∙ ap (λ (b : Bool). cond b (Some r) (holder x.mid p)) (eq-eqb p p refl)

-- of the pipes of a board it has those that the operation is answered from
abbrev pub HasEach : List ℕ → List Line → Op → Req → Type 0
HasEach caps j op r = (n : ℕ) → n < length caps → uses_at op n ≡ true → holder j n ≡ Some r

pub has_one : (caps : List ℕ) (j : List Line) (op : Op) (r : Req) (p : ℕ) → UsesOne op (length caps) p → holder j p ≡ Some r → HasEach caps j op r
has_one caps j op r p one has n lt u = ⊎_elim
    (λ (e : n ≡ p). subst (λ (z : ℕ). holder j z ≡ Some r) (sym e) has)
    (λ (ne : n ≡ p → ⊥). absurd (true≢false (sym u ∙ one.alone n lt ne))) (cases_eq n p)

pub has_both : (caps : List ℕ) (j : List Line) (op : Op) (r : Req) (s t : ℕ) → JoinsPipes op s t → holder j s ≡ Some r → holder j t ≡ Some r → HasEach caps j op r
has_both caps j op r s t joins first second n lt u = ⊎_elim
    (λ (e : n ≡ s). subst (λ (z : ℕ). holder j z ≡ Some r) (sym e) first)
    (λ (e : n ≡ t). subst (λ (z : ℕ). holder j z ≡ Some r) (sym e) second) (only_joined op s t n joins u)

-- the held pipe, with those that lie there
pub piped_in : (L : Layout) (n : ℕ) (c : WaitedPipe) (w : Flow) (rs : List Req) → IsPipe (slice_index L.caps n) c.pipe w → (c.lying.items ≡ rs) × (vec_capacity c.lying ≡ total L.cells) → PipeIs L n (Some (Piped c)) (w, rs)
piped_in L n c w rs is lies = (is.cap_is, is.content_is, is.read_is, is.write_is, lies.0, lies.1)

-- nobody lies there, and there is a place for each cell
abbrev pub HasEmpty : Layout → WaitedPipe → Type 0
HasEmpty L c = (c.lying.items ≡ []) × (vec_capacity c.lying ≡ total L.cells)

-- ---- when a worker may reply

module _ (table : TableId) (me : Seated) (x g : ℕ) (r : Req) (p : Submission) (pipes : ℕ) (k : RunsIt table me.0 x g r p pipes) where
  abbrev q : Req
  q = request_at me.0.layout.cells x g

  may_by : (c : Submission) (e : Entry) (res : ℤ) (data' : List ℕ) → IsPlaced (events_of me.0.seen) r e → me.1 ≡ (slot_at x, Some (Full c)) ∷ rest me.1 → c.sqe ≡ p.sqe → c.last ≡ p.last → c.buffer.items ≡ over data' p.buffer.items
      → OpAnswers me.0.layout.caps (events_of me.0.seen) r e.op res data' → ((n : ℕ) → is_pipe me.0.layout.caps n ≡ true → uses_at e.op n ≡ true → holder me.0.seen n ≡ Some r) → MayReply me x q e res data'
  may_by c e res data' placed_is out sqe last items answers has = subst (λ (z : Req). MayReply me x z e res data') (sym k.req_is) record {
    placed_is = placed_is;
    answers = answers;
    has = has;
    submission = (c, out, (k.submission.0, k.submission.1 ∙ (λ i. Some (record { entry = sym sqe i; bytes = k.submission.0; last = sym last i })), items ∙ ap (over data') k.submission.2));
  }

  -- a request that is answered from no pipe of the board
  pub plain_may : (res : ℤ) → me.1 ≡ (slot_at x, Some (Full p)) ∷ rest me.1 → UsesNone (op_run p.sqe.op) (length me.0.layout.caps) → OpAnswers me.0.layout.caps (events_of me.0.seen) r (op_run p.sqe.op) res [] → MayReply me x q (run_as p.sqe) res []
  plain_may res out past answers = may_by p (run_as p.sqe) res [] (runs_placed table me.0 me.0 x g r p pipes k) out refl refl refl answers (λ n there u. absurd (true≢false (sym u ∙ past n (is_below me.0.layout.caps n there))))

  -- a request that has its held pipes, of which the pipe n is one
  pub pipe_may : (c : Submission) (n : ℕ) (res : ℤ) (data' : List ℕ) → me.1 ≡ (slot_at x, Some (Full c)) ∷ rest me.1 → c.sqe ≡ p.sqe → c.last ≡ p.last → c.buffer.items ≡ over data' p.buffer.items
      → OpAnswers me.0.layout.caps (events_of me.0.seen) r p.sqe.op res data' → uses_at p.sqe.op n ≡ true → HasEach me.0.layout.caps me.0.seen p.sqe.op r → MayReply me x q p.sqe res data'
  pipe_may c n res data' out sqe last items answers used has = may_by c p.sqe res data' (subst (λ (e : Entry). IsPlaced (events_of me.0.seen) r e) (run_piped p.sqe n used) (runs_placed table me.0 me.0 x g r p pipes k)) out sqe last items answers
      (λ m there u. has m (is_below me.0.layout.caps m there) u)

  -- the held pipe is what the reply makes of it
  pub pipe_after : (n : ℕ) (c : WaitedPipe) (res : ℤ) → HasEmpty me.0.layout c → IsPipe (slice_index me.0.layout.caps n) c.pipe (flows p.sqe.op (offered p.sqe.op (contents (events_of me.0.seen)) p.buffer.items) res n (flow (events_of me.0.seen) n)) → PipeIs me.0.layout n (Some (Piped c)) (flows_as (Some p.sqe) (submission (events_of me.0.seen) q) (contents (events_of me.0.seen)) res n (flow (events_of me.0.seen) n), [])
  pipe_after n c res none is =
      let given : submission (events_of me.0.seen) q ≡ Some (record { entry = p.sqe; bytes = p.buffer.items; last = p.last }) = subst (λ (z : Req). submission (events_of me.0.seen) z ≡ Some (record { entry = p.sqe; bytes = p.buffer.items; last = p.last })) (sym k.req_is) (k.submission.1 ∙ (λ i. Some (record { entry = p.sqe; bytes = sym k.submission.2 i; last = p.last }))) in
      subst (λ (o : Option Submitted). PipeIs me.0.layout n (Some (Piped c)) (flows_as (Some p.sqe) o (contents (events_of me.0.seen)) res n (flow (events_of me.0.seen) n), [])) (sym given) (piped_in me.0.layout n c _ [] is none)

pub both_turned : (j : List Line) (p n : ℕ) (r : Req) → HasBoth j p n r → HasBoth j n p r
both_turned j p n r both = (λ e. both.0 (sym e), both.2, both.1, λ m ne nk. both.3 m nk ne)

-- a pipe that others left alone is still the one in hand
pub pipe_still : (v w : View) (n : ℕ) (c : Conduit) → w.layout ≡ v.layout → IsSamePipe v w n → IsPipe (slice_index v.layout.caps n) c (flow (events_of v.seen) n) → IsPipe (slice_index w.layout.caps n) c (flow (events_of w.seen) n)
pipe_still v w n c layout same' is = subst (λ (z : Layout × Flow). IsPipe (slice_index z.0.caps n) c z.1) (λ i. (sym layout i, (sym same' i).0)) is

-- what a worker has in hand that has two pipes, once both were put back, the upper one first, and its submission's slot is in front
pub in_three_hands : (old a b c d : Seated) (n m s : ℕ) (x y z : Option Thing) → old.1 ≡ (n, None) ∷ (m, None) ∷ (s, z) ∷ [] → a ≡ (old.0, (n, x) ∷ rest old.1) → b ≡ (a.0, turned a.1) → c ≡ (b.0, (m, y) ∷ rest b.1) → d ≡ (c.0, turned c.1) → d ≡ (old.0, (s, z) ∷ (n, x) ∷ (m, y) ∷ [])
in_three_hands old a b c d n m s x y z out ea eb ec ed =
    let first : a ≡ (old.0, (n, x) ∷ (m, None) ∷ (s, z) ∷ []) = ea ∙ ap (λ (cs : List (ℕ × Option Thing)). (let k : Seated = (old.0, (n, x) ∷ rest cs) in k)) out in
    let second : b ≡ (old.0, (m, None) ∷ (s, z) ∷ (n, x) ∷ []) = eb ∙ ap (λ (k : Seated). (let l : Seated = (k.0, turned k.1) in l)) first in
    let third : c ≡ (old.0, (m, y) ∷ (s, z) ∷ (n, x) ∷ []) = ec ∙ ap (λ (k : Seated). (let l : Seated = (k.0, (m, y) ∷ rest k.1) in l)) second in
    ed ∙ ap (λ (k : Seated). (let l : Seated = (k.0, turned k.1) in l)) third
