-- When a list of entries with their replies is what a history says of the first requests of a ring, and what a row then answers.
use Rattle.std.specs.Prelude.{IsTrue, ◌≡◌, ◌⊎◌, ℕ, suc, ◌-◌, ◌<◌, ◌≤◌, ℤ, Bool, true, false, List, Option, Some, None, slice_get}
use Rattle.entry.specs.Entry.{Entry, drains, fails}
use Rattle.history.specs.declared.req.Req.{Req}
use Rattle.history.specs.declared.event.Event.{Event}
use Rattle.history.specs.{Submitted, submission, phase, reply, IsReplied, joins, is_link_timeout, IsPlaced, IsChainBefore, IsChained, IsChainDone, IsTarget, Severed, Open, severs}
use Rattle.gates.specs.declared.gate.Gate.{Gate}
use Rattle.gates.specs.declared.gate.Asked.{Asked}
use Rattle.gates.specs.Slots.{Slot, traits_of, IsPlain, is_pending, passes}

abbrev pub nth : ℕ → ℕ → Req
nth i k = record { ring = i; k = k }

-- the slot has the traits of the request's entry as it was handed in, and its reply
pub record ShownAt (h : List Event) (q : Req) (s : Slot) : Type 0 where
  pub handed : (x : Submitted) × (submission h q ≡ Some x) × (traits_of x.entry ≡ s.traits) × (x.last ≡ s.last)
  pub pending : is_pending s ≡ true → ¬ IsReplied (phase h q)
  pub replied : (f : Bool) → s.reply ≡ Some f → (res : ℤ) × (reply h q ≡ Some res) × ((e : Entry) → IsPlaced h q e → fails e res ≡ f)

-- the slots are those of the first requests of the ring i
abbrev pub Shows : List Event → ℕ → List Slot → Type 0
Shows h i xs = (k : ℕ) (s : Slot) → slice_get xs k ≡ Some s → ShownAt h (nth i k) s

-- severed first, then open, else shut
abbrev pub IsGate : List Event → Req → Gate → Type 0
IsGate h r Gate.Severed = Severed h r
IsGate h r Gate.Open = (¬ Severed h r) × Open h r
IsGate h r Gate.Shut = (¬ Severed h r) × ¬ Open h r

-- the request before a LINK_TIMEOUT in its chain
abbrev pub IsTargetOf : List Event → Req → Option ℕ → Type 0
IsTargetOf h l None = (t : Req) → ¬ IsTarget h l t
IsTargetOf h l (Some k) = IsTarget h l (nth l.ring k)

-- p is q, or a member of its chain
abbrev pub IsOfChain : List Event → Req → Req → Type 0
IsOfChain h p q = (p ≡ q) ⊎ IsChained h p q

-- of n cells the one of the request r, which comes next, is free: no earlier request had it, or the last one that had it has
-- replied, and each member of that one's chain (in a row a request counts as reaped once it has replied)
abbrev pub HasFreeCell : List Event → ℕ → Req → Type 0
HasFreeCell h n r = (r.k < n) ⊎ (IsReplied (phase h (nth r.ring (r.k - n))) × ((p : Req) → p.k < r.k → IsChained h p (nth r.ring (r.k - n)) → IsReplied (phase h p)))

-- the slot stands in for a request whose whole chain has replied: it has no flags, and a reply that doesn't fail
pub record StandsIn (h : List Event) (q : Req) (s : Slot) : Type 0 where
  pub plain : IsPlain s.traits
  pub done : s.reply ≡ Some false
  pub replied : IsReplied (phase h q)
  pub chain : (p : Req) → IsChained h p q → IsReplied (phase h p)

-- what may be kept as the outcome of q: whether its reply fails; or, once its whole chain has replied, that it doesn't
abbrev pub IsOutcome : List Event → Req → Bool → Type 0
IsOutcome h q f = ((e : Entry) × (res : ℤ) × IsPlaced h q e × (reply h q ≡ Some res) × (fails e res ≡ f)) ⊎ ((f ≡ false) × IsChainDone h q)

-- the slot has the traits of the request's entry as it was placed, and, if it has one, the request's outcome. One that is
-- pending in the slot may have replied
pub record TrailedAt (h : List Event) (q : Req) (s : Slot) : Type 0 where
  pub handed : (x : Submitted) × (submission h q ≡ Some x) × (x.last ≡ s.last)
  pub placed : (e : Entry) × IsPlaced h q e × (traits_of e ≡ s.traits)
  pub outcome : (f : Bool) → s.reply ≡ Some f → IsOutcome h q f

abbrev pub TrailsAt : List Event → Req → Slot → Type 0
TrailsAt h q s = TrailedAt h q s ⊎ StandsIn h q s

-- the slots are those of the first requests of the ring i, with the entries as they were placed, but for stand-ins, and the
-- outcomes that were looked for: later replies are not among them
abbrev pub Trails : List Event → ℕ → List Slot → Type 0
Trails h i xs = (k : ℕ) (s : Slot) → slice_get xs k ≡ Some s → TrailsAt h (nth i k) s

-- they trail the history, and have each reply: who is pending in the list has not replied
pub record Mirrors (h : List Event) (i : ℕ) (xs : List Slot) : Type 0 where
  pub trails : Trails h i xs
  pub fresh : (k : ℕ) → IsTrue (passes is_pending xs k) → ¬ IsReplied (phase h (nth i k))

-- it was handed in, and neither links nor drains, nor is it placed as a LINK_TIMEOUT
pub record IsPlainAt (h : List Event) (q : Req) : Type 0 where
  pub handed : (x : Submitted) × (submission h q ≡ Some x) × (joins (Some x) ≡ false)
  pub placed : (e : Entry) × IsPlaced h q e × (drains e ≡ false) × (is_link_timeout e.op ≡ false)

-- the first n requests of the ring i are so
abbrev pub ArePlain : List Event → ℕ → ℕ → Type 0
ArePlain h i n = (m : ℕ) → m < n → IsPlainAt h (nth i m)

-- it has replied, and not so that the rest of its chain is ended
abbrev pub HasNotSevered : List Event → Req → Type 0
HasNotSevered h q = IsReplied (phase h q) × ((e : Entry) (res : ℤ) → IsPlaced h q e → reply h q ≡ Some res → severs e res ≡ false)

-- each member of its chain before r, from the ring's n-th request on, has replied, and not so that the rest of the chain is ended
abbrev pub HaveGoneOn : List Event → Req → ℕ → Type 0
HaveGoneOn h r n = (q : Req) → n ≤ q.k → IsChainBefore h q r → HasNotSevered h q

-- this earlier member of r's chain is the nearest one that may have no reply, or may have ended the chain; or there is none
abbrev pub IsLink : List Event → Req → Option ℕ → Type 0
IsLink h r None = HaveGoneOn h r 0
IsLink h r (Some p) = IsChainBefore h (nth r.ring p) r × HaveGoneOn h r (suc p)

-- what a row that trails may answer of r. The history may know of replies that the row doesn't
abbrev pub IsAsked : List Event → Req → Asked → Type 0
IsAsked h r Asked.Severed = Severed h r
IsAsked h r Asked.Open = (¬ Severed h r) × Open h r
IsAsked h r (Asked.OpenWith t) = IsTarget h r (nth r.ring t) × Open h r × (¬ IsReplied (phase h (nth r.ring t)) → ¬ Severed h r)
IsAsked h r (Asked.Blocked b p) = (¬ IsReplied (phase h (nth r.ring b)) → ¬ Open h r) × IsLink h r p

-- the request that an answer names
abbrev pub named_in : Asked → Option ℕ
named_in (Asked.OpenWith t) = Some t
named_in (Asked.Blocked b p) = Some b
named_in _ = None

-- the nearest earlier member of its chain that is pending in the row, as an answer names it
abbrev pub linked_in : Asked → Option ℕ
linked_in (Asked.Blocked b p) = p
linked_in _ = None

-- the gate, by an answer from which no reply is missing
abbrev pub gate_by : Asked → Gate
gate_by Asked.Severed = Gate.Severed
gate_by (Asked.Blocked b p) = Gate.Shut
gate_by _ = Gate.Open
