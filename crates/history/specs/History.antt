-- A history: the list of the events so far, the newest first. What became of a request is read off the whole list.
-- With the newest at the head, what one more event makes of a request, and whether it is allowed, compute by one case each.
use Rattle.std.specs.Prelude.{ℕ, zero, suc, ◌+◌, ◌-◌, ◌==◌, ◌&&◌, ◌||◌, Bool, true, false, cond, ℤ, pos, negsuc, List, [], ◌∷◌, Option, Some, None}
use Rattle.entry.specs.Entry.{Entry}
use Rattle.history.specs.declared.req.Req.{Req}
use Rattle.history.specs.declared.event.Event.{Event}
use Rattle.history.specs.declared.event.Event.TheVariants.{Submit, Begin, Park, Reply, Take, Miss, Tick, Arm, Expire, Count, Fire, FireMiss, Settle, Sever, Reap, Shut, Cut}

-- which event answered a request
pub data Cause : Type 0 where
  by_reply : Cause
  by_take : Cause
  by_expire : Cause
  by_count : Cause
  by_fire : Cause
  by_settle : Cause
  by_sever : Cause
  by_cut : Cause

-- where a request stands: an armed timer has its deadline, an answered request its reply, also once it was reaped
-- (a chain asks whether the reply failed)
pub data Phase : Type 0 where
  unborn : Phase
  waits : Phase
  runs : Phase
  armed : ℕ → Phase
  replied : Cause → ℤ → Phase
  reaped : Cause → ℤ → Phase

-- what a cancel did, the newest first: it took a request, or it found one running
pub data Hit : Type 0 where
  nothing : Hit
  took : Req → Hit → Hit
  missed : Req → Hit → Hit

-- an entry as it was handed in: with its buffer, and whether it ended its batch
pub record Submitted : Type 0 where
  pub entry : Entry
  pub bytes : List ℕ
  pub last : Bool

abbrev pub same : Req → Req → Bool
same a b = (a.ring == b.ring) && (a.k == b.k)

-- the event changes where this request stands
abbrev pub concerns : Event → Req → Bool
concerns (Submit r e bytes last) q = same r q
concerns (Begin r) q = same r q
concerns (Park r) q = same r q
concerns (Reply r res data') q = same r q
concerns (Take c t) q = same t q
concerns (Miss c t) q = false
concerns (Tick n) q = false
concerns (Arm r d) q = same r q
concerns (Expire r) q = same r q
concerns (Count r) q = same r q
concerns (Fire l t) q = same t q
concerns (FireMiss l t) q = false
concerns (Settle l) q = same l q
concerns (Sever r) q = same r q
concerns (Reap r) q = same r q
concerns Shut q = false
concerns (Cut r) q = same r q

-- the timer ran out in time: it ended its target or found it running
abbrev pub fires : Event → Req → Bool
fires (Fire l t) q = same l q
fires (FireMiss l t) q = same l q
fires _ q = false

abbrev pub fired : List Event → Req → Bool
fired [] q = false
fired (e ∷ h) q = cond (fires e q) true (fired h q)

abbrev pub after_reap : Phase → Phase
after_reap (replied c res) = reaped c res
after_reap p = p

-- where the request of an event stands after it. The answers without a result of their own are -125 (ECANCELED), -62 (ETIME), and 0 of a TIMEOUT that counted
abbrev pub becomes : List Event → Event → Phase → Phase
becomes h (Submit r e bytes last) p = waits
becomes h (Begin r) p = runs
becomes h (Park r) p = waits
becomes h (Reply r res data') p = replied by_reply res
becomes h (Take c t) p = replied by_take (negsuc 124)
becomes h (Arm r d) p = armed d
becomes h (Expire r) p = replied by_expire (negsuc 61)
becomes h (Count r) p = replied by_count (pos 0)
becomes h (Fire l t) p = replied by_fire (negsuc 124)
becomes h (Settle l) p = replied by_settle (cond (fired h l) (negsuc 61) (negsuc 124))
becomes h (Sever r) p = replied by_sever (negsuc 124)
becomes h (Reap r) p = after_reap p
becomes h (Cut r) p = replied by_cut (negsuc 124)
becomes h _ p = p

abbrev pub phase : List Event → Req → Phase
phase [] q = unborn
phase (e ∷ h) q = cond (concerns e q) (becomes h e (phase h q)) (phase h q)

-- what the request was answered
abbrev pub reply_in : Phase → Option ℤ
reply_in (replied c res) = Some res
reply_in (reaped c res) = Some res
reply_in _ = None

abbrev pub reply : List Event → Req → Option ℤ
reply h q = reply_in (phase h q)

-- it has been answered
abbrev pub IsReplied : Phase → Type 0
IsReplied (replied c res) = Unit {0}
IsReplied (reaped c res) = Unit {0}
IsReplied _ = ⊥

abbrev pub is_replied : Phase → Bool
is_replied (replied c res) = true
is_replied (reaped c res) = true
is_replied _ = false

-- it was submitted, and has not been answered
abbrev pub IsPending : Phase → Type 0
IsPending waits = Unit {0}
IsPending runs = Unit {0}
IsPending (armed d) = Unit {0}
IsPending _ = ⊥

-- it was submitted, has not been answered, and does not run
abbrev pub IsIdle : Phase → Type 0
IsIdle waits = Unit {0}
IsIdle (armed d) = Unit {0}
IsIdle _ = ⊥

-- the data that came with an answer: none but what a READ took
abbrev pub data_in : Event → List ℕ
data_in (Reply r res data') = data'
data_in _ = []

-- the event answers this request
abbrev pub answers : Event → Req → Bool
answers (Reply r res data') q = same r q
answers (Take c t) q = same t q
answers (Expire r) q = same r q
answers (Count r) q = same r q
answers (Fire l t) q = same t q
answers (Settle l) q = same l q
answers (Sever r) q = same r q
answers (Cut r) q = same r q
answers _ q = false

abbrev pub data_of : List Event → Req → List ℕ
data_of [] q = []
data_of (e ∷ h) q = cond (answers e q) (data_in e) (data_of h q)

abbrev pub hits : Event → Req → Hit → Hit
hits (Take c t) q x = cond (same c q) (took t x) x
hits (Miss c t) q x = cond (same c q) (missed t x) x
hits _ q x = x

abbrev pub hit : List Event → Req → Hit
hit [] q = nothing
hit (e ∷ h) q = hits e q (hit h q)

-- how many requests it took
abbrev pub taken_count : Hit → ℕ
taken_count nothing = 0
taken_count (took t x) = suc (taken_count x)
taken_count (missed t x) = taken_count x

-- it found the request k of its ring running
abbrev pub has_missed : Hit → ℕ → Bool
has_missed nothing k = false
has_missed (took t x) k = has_missed x k
has_missed (missed t x) k = (t.k == k) || has_missed x k

abbrev pub hands_in : Event → Req → Option Submitted → Option Submitted
hands_in (Submit r e bytes last) q x = cond (same r q) (Some (record { entry = e; bytes = bytes; last = last })) x
hands_in _ q x = x

-- what was handed in as this request
abbrev pub submission : List Event → Req → Option Submitted
submission [] q = None
submission (e ∷ h) q = hands_in e q (submission h q)

abbrev pub adds_to : Event → ℕ → ℕ
adds_to (Submit r e bytes last) i = cond (r.ring == i) 1 0
adds_to _ i = 0

-- how many requests of the ring were submitted
abbrev pub submits : List Event → ℕ → ℕ
submits [] i = 0
submits (e ∷ h) i = adds_to e i + submits h i

abbrev pub ticks : Event → ℕ → ℕ
ticks (Tick n) m = n
ticks _ m = m

-- the clock: the last tick, or 0
abbrev pub clock_of : List Event → ℕ
clock_of [] = 0
clock_of (e ∷ h) = ticks e (clock_of h)

abbrev pub shuts : Event → Bool → Bool
shuts Shut b = true
shuts _ b = b

abbrev pub was_shut : List Event → Bool
was_shut [] = false
was_shut (e ∷ h) = shuts e (was_shut h)

-- how many of the n requests of the ring i from its k-th on have been answered
abbrev pub replies_from : List Event → ℕ → ℕ → ℕ → ℕ
replies_from h i k zero = 0
replies_from h i k (suc n) = replies_from h i k n + cond (is_replied (phase h (record { ring = i; k = k + n }))) 1 0

-- how many later requests of its ring have been answered
abbrev pub later_replies : List Event → Req → ℕ
later_replies h r = replies_from h r.ring (suc r.k) (submits h r.ring - suc r.k)
