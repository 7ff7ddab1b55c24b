-- The data of an answered request are as many as its reply says of a READ, and none of another entry.
use Rattle.entry.specs.declared.op.Offset.{Offset}
use Rattle.entry.specs.declared.op.Op.{Op}
use Rattle.entry.specs.declared.op.Op.TheVariants.{Timeout, TimeoutRemove, AsyncCancel, LinkTimeout, Read, Invalid}
use Rattle.entry.specs.Entry.{Entry}
use Rattle.history.specs.declared.event.Event.TheVariants as event
use Rattle.history.specs.{is_link_timeout, hosts, placed_behind, placed_from, before_in, flow, size, end_of}
use Rattle.history.specs.Answers.{OpAnswers, Answers}
use Rattle.history.proofs.Growth.{MayChange, may_change, changed, unchanged}
use Rattle.history.proofs.PipeAnswers.{answer_bare, read_long}
use Rattle.script.specs.Rows.{data_count}
use Rattle.script.proofs.Common.{Bool, Event, Legal, List, None, Option, Phase, Req, Setup, Some, Submitted, [], ap, armed, becomes, bool_cases, concerns, cond, data_of, false, fired, length, negsuc, not, phase, pos, refl, replied, reply, reply_in, runs, same_true, submission, subst, sym, true, true≢false, waits, ℕ, ℤ, ⊎_elim, ◌&&◌, ◌∙◌, ◌∷◌, ◌≡◌}

-- ---- what answers come with

read_count : (fd : ℤ) (offset : Offset) (len : ℕ) (res : ℤ) → size res ≡ data_count (Read fd offset len) res
read_count fd offset len (pos n) = refl
read_count fd offset len (negsuc n) = refl

answer_long : (caps : List ℕ) (h : List Event) (r : Req) (op : Op) (res : ℤ) (data' : List ℕ) → OpAnswers caps h r op res data' → length data' ≡ data_count op res
answer_long caps h r (Read fd offset len) res data' a = read_long caps (flow h) (end_of fd) len res data' a ∙ read_count fd offset len res
answer_long caps h r (AsyncCancel user_data all) res data' a = ap length a.1
answer_long caps h r (TimeoutRemove user_data) res data' a = ap length a.1
answer_long caps h r (Timeout ticks etime_success count) res data' a = absurd a
answer_long caps h r (LinkTimeout ticks) res data' a = absurd a
answer_long caps h r op res data' a = ap length (answer_bare caps (flow h) op res data' a)

-- ---- the entry as it is placed, and as it was handed in

linked_none : (op : Op) (res : ℤ) → is_link_timeout op ≡ true → 0 ≡ data_count op res
linked_none (LinkTimeout ticks) res w = refl
linked_none _ res w = absurd (true≢false (sym w))

behind_count : (a b : Bool) (e : Entry) (res : ℤ) → (a ≡ true → 0 ≡ data_count e.op res) → data_count (cond (a && b) (record e { op = Invalid }) e).op res ≡ data_count e.op res
behind_count true true e res z = z refl
behind_count true false e res z = refl
behind_count false b e res z = refl

placed_count : (before o : Option Submitted) (s : Submitted) (e : Entry) (res : ℤ) → o ≡ Some s → placed_from before o ≡ Some e → data_count e.op res ≡ data_count s.entry.op res
placed_count before None s e res is at = absurd (let z = is in cc)
placed_count before (Some t) s e res is at =
    let one : t ≡ s = cc in
    let two : placed_behind before t.entry ≡ e = cc in
    ap (λ (x : Entry). data_count x.op res) (sym two) ∙ (behind_count (is_link_timeout t.entry.op) (not (hosts before)) t.entry res (linked_none t.entry.op res) ∙ ap (λ (x : Submitted). data_count x.entry.op res) one)

-- ---- a request's data, event by event

abbrev IsLong : List Event → Req → Type 0
IsLong h r = (res : ℤ) (y : Submitted) → reply h r ≡ Some res → submission h r ≡ Some y → length (data_of h r) ≡ data_count y.entry.op res

none_some : {X : Type 0} → (x : X) → None ≡ Some x → ⊥
none_some x e = cc

cut_count : (op : Op) (n : ℕ) → data_count op (negsuc n) ≡ 0
cut_count (Read fd offset len) n = refl
cut_count op n = refl

none_count : (op : Op) → data_count op (pos 0) ≡ 0
none_count (Read fd offset len) = refl
none_count op = refl

-- another's event, or one that answers nothing
same_sub : (e : Event) (h : List Event) (r : Req) → concerns e r ≡ false → submission (e ∷ h) r ≡ submission h r
same_sub (event.Submit q d bytes last) h r w = ap (λ (b : Bool). cond b (Some (record { entry = d; bytes = bytes; last = last })) (submission h r)) w
same_sub _ h r w = refl

same_data : (e : Event) (h : List Event) (r : Req) → concerns e r ≡ false → data_of (e ∷ h) r ≡ data_of h r
same_data (event.Reply q res data') h r w = ap (λ (b : Bool). cond b data' (data_of h r)) w
same_data (event.Take c t) h r w = ap (λ (b : Bool). cond b [] (data_of h r)) w
same_data (event.Expire q) h r w = ap (λ (b : Bool). cond b [] (data_of h r)) w
same_data (event.Count q) h r w = ap (λ (b : Bool). cond b [] (data_of h r)) w
same_data (event.Fire l t) h r w = ap (λ (b : Bool). cond b [] (data_of h r)) w
same_data (event.Settle q) h r w = ap (λ (b : Bool). cond b [] (data_of h r)) w
same_data (event.Sever q) h r w = ap (λ (b : Bool). cond b [] (data_of h r)) w
same_data (event.Cut q) h r w = ap (λ (b : Bool). cond b [] (data_of h r)) w
same_data _ h r w = refl

no_reply : (p q : Phase) (res : ℤ) → p ≡ q → reply_in q ≡ None → reply_in p ≡ Some res → ⊥
no_reply p q res e n w = none_some res (sym n ∙ (ap reply_in (sym e) ∙ w))

some_same : {X : Type 0} → (a b : X) → Some a ≡ Some b → a ≡ b
some_same a b e = cc

-- answered with 0 or an error number, and no data
ended : (h : List Event) (e : Event) (r : Req) (p : Phase) (v res : ℤ) (op : Op) → data_count op v ≡ 0 → phase (e ∷ h) r ≡ p → reply_in p ≡ Some v → reply (e ∷ h) r ≡ Some res → data_of (e ∷ h) r ≡ [] → length (data_of (e ∷ h) r) ≡ data_count op res
ended h e r p v res op nothing is says re d = ap length d ∙ (sym nothing ∙ ap (data_count op) (some_same v res (sym says ∙ (ap reply_in (sym is) ∙ re))))

bare : (h : List Event) (e : Event) (r : Req) (p : Phase) (res : ℤ) (op : Op) → phase (e ∷ h) r ≡ p → reply_in p ≡ Some (pos 0) → reply (e ∷ h) r ≡ Some res → data_of (e ∷ h) r ≡ [] → length (data_of (e ∷ h) r) ≡ data_count op res
bare h e r p res op = ended h e r p (pos 0) res op (none_count op)

failed : (h : List Event) (e : Event) (r : Req) (p : Phase) (n : ℕ) (res : ℤ) (op : Op) → phase (e ∷ h) r ≡ p → reply_in p ≡ Some (negsuc n) → reply (e ∷ h) r ≡ Some res → data_of (e ∷ h) r ≡ [] → length (data_of (e ∷ h) r) ≡ data_count op res
failed h e r p n res op = ended h e r p (negsuc n) res op (cut_count op n)

long_after : (s : Setup) (e : Event) (h : List Event) (r : Req) → Legal s (e ∷ h) → concerns e r ≡ true → IsLong h r → IsLong (e ∷ h) r
long_after s (event.Submit q d bytes last) h r l w k res y re sub = absurd (no_reply (phase (event.Submit q d bytes last ∷ h) r) waits res (changed s (event.Submit q d bytes last) h r w) refl re)
long_after s (event.Begin q) h r l w k res y re sub = absurd (no_reply (phase (event.Begin q ∷ h) r) runs res (changed s (event.Begin q) h r w) refl re)
long_after s (event.Park q) h r l w k res y re sub = absurd (no_reply (phase (event.Park q ∷ h) r) waits res (changed s (event.Park q) h r w) refl re)
long_after s (event.Arm q d) h r l w k res y re sub = absurd (no_reply (phase (event.Arm q d ∷ h) r) (armed d) res (changed s (event.Arm q d) h r w) refl re)
long_after s (event.Reply q v data') h r l w k res y re sub =
    let is : phase (event.Reply q v data' ∷ h) r ≡ replied Rattle.history.specs.History.by_reply v = changed s (event.Reply q v data') h r w in
    let one : v ≡ res = some_same v res (ap reply_in (sym is) ∙ re) in
    let a : Answers s.caps h r v data' = subst (λ (z : Req). Answers s.caps h z v data') (same_true q r w) l.0.1.1 in
    ap length (ap (λ (b : Bool). cond b data' (data_of h r)) w) ∙ (answer_long s.caps h r a.0.op v data' a.2 ∙ (placed_count (before_in h r) (submission h r) y a.0 v sub a.1 ∙ ap (data_count y.entry.op) one))
long_after s (event.Take c t) h r l w k res y re sub = failed h (event.Take c t) r (becomes h (event.Take c t) (phase h r)) 124 res y.entry.op (changed s (event.Take c t) h r w) refl re (ap (λ (b : Bool). cond b [] (data_of h r)) w)
long_after s (event.Expire q) h r l w k res y re sub = failed h (event.Expire q) r (becomes h (event.Expire q) (phase h r)) 61 res y.entry.op (changed s (event.Expire q) h r w) refl re (ap (λ (b : Bool). cond b [] (data_of h r)) w)
long_after s (event.Count q) h r l w k res y re sub = bare h (event.Count q) r (becomes h (event.Count q) (phase h r)) res y.entry.op (changed s (event.Count q) h r w) refl re (ap (λ (b : Bool). cond b [] (data_of h r)) w)
long_after s (event.Fire q t) h r l w k res y re sub = failed h (event.Fire q t) r (becomes h (event.Fire q t) (phase h r)) 124 res y.entry.op (changed s (event.Fire q t) h r w) refl re (ap (λ (b : Bool). cond b [] (data_of h r)) w)
long_after s (event.Settle q) h r l w k res y re sub = ⊎_elim
    (λ (f : fired h q ≡ true). failed h (event.Settle q) r (replied Rattle.history.specs.History.by_settle (negsuc 61)) 61 res y.entry.op (changed s (event.Settle q) h r w ∙ ap (λ (b : Bool). replied Rattle.history.specs.History.by_settle (cond b (negsuc 61) (negsuc 124))) f) refl re (ap (λ (b : Bool). cond b [] (data_of h r)) w))
    (λ (f : fired h q ≡ false). failed h (event.Settle q) r (replied Rattle.history.specs.History.by_settle (negsuc 124)) 124 res y.entry.op (changed s (event.Settle q) h r w ∙ ap (λ (b : Bool). replied Rattle.history.specs.History.by_settle (cond b (negsuc 61) (negsuc 124))) f) refl re (ap (λ (b : Bool). cond b [] (data_of h r)) w))
    (bool_cases (fired h q))
long_after s (event.Sever q) h r l w k res y re sub = failed h (event.Sever q) r (becomes h (event.Sever q) (phase h r)) 124 res y.entry.op (changed s (event.Sever q) h r w) refl re (ap (λ (b : Bool). cond b [] (data_of h r)) w)
long_after s (event.Cut q) h r l w k res y re sub = failed h (event.Cut q) r (becomes h (event.Cut q) (phase h r)) 124 res y.entry.op (changed s (event.Cut q) h r w) refl re (ap (λ (b : Bool). cond b [] (data_of h r)) w)
long_after s (event.Reap q) h r l w k res y re sub = k res y (reaped_same (phase h r) (may_change s (event.Reap q) h r l.1 l.0.1 w) (ap reply_in (sym (changed s (event.Reap q) h r w)) ∙ re)) sub where
  reaped_same : (p : Phase) → MayChange p (event.Reap q) → reply_in (becomes h (event.Reap q) p) ≡ Some res → reply_in p ≡ Some res
  reaped_same (replied c v) m e = e
  reaped_same _ m e = e
long_after s _ h r l w k res y re sub = absurd (true≢false (sym w))

pub data_long : (s : Setup) (h : List Event) (r : Req) → Legal s h → IsLong h r
data_long s [] r l = λ res y re sub. absurd (none_some res re)
data_long s (e ∷ h) r l = ⊎_elim
    (λ (w : concerns e r ≡ true). long_after s e h r l w (data_long s h r l.1))
    (λ (w : concerns e r ≡ false) res y re sub.
    ap length (same_data e h r w) ∙ data_long s h r l.1 res y (ap reply_in (sym (unchanged s e h r w)) ∙ re) (sym (same_sub e h r w) ∙ sub))
    (bool_cases (concerns e r))
