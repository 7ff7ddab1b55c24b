-- Every event of the requests of one ring: whether it may come, and that what is kept continues agreeing.
use Rattle.model.proofs.Common.{Agrees, AimsAt, Arm, Begin, Bool, Count, Cut, Event, Expire, Fire, FireMiss, List, Machine, MayCome, MayFollow, Miss, Park, Reap, Req, Request, Settle, Sever, Take, [], and_left, and_right, ap, arith, common_steps, eq-eqb, eqb-true, false, is_all, is_step, may_fire, may_fire_miss, may_miss, may_step, may_take, put_step, refl, ring_of, setup_of, shut_for, subst, sym, true, true≢false, ℕ, ◌&&◌, ◌==◌, ◌∙◌, ◌∷◌, ◌≡◌}
use Rattle.model.proofs.RingWrites.{row, put_row, same_setup, IsDecided, decides}
use Rattle.model.proofs.SingleEvents.{begin_may, may_begin_is, begin_kept, park_may, may_park_is, park_kept, sever_may, may_sever_is, sever_kept, reap_may, may_reap_is, reap_kept, cut_may, may_cut_is, cut_kept}
use Rattle.model.proofs.TimerEvents.{arm_may, may_arm_is, arm_kept, expire_may, may_expire_is, expire_kept, fire_may, may_fire_is, fire_kept, fire_miss_may, may_fire_miss_is, fire_miss_kept, settle_may, may_settle_is, settle_kept}
use Rattle.model.proofs.CountEvents.{count_may, may_count_is, count_kept}
use Rattle.model.proofs.Cancels.{take_may, may_take_is, take_kept, miss_may, may_miss_is, miss_kept}

-- a request that is named beside another is of the same ring
named : (i : ℕ) (t : Req) → i ≡ t.ring → record { ring = i; k = t.k } ≡ t
named i t e = λ j. record { ring = e j; k = t.k }

aimed : (b : Bool) (h : List Event) (c t : Req) → AimsAt b h c t → c.ring ≡ t.ring
aimed = grind (arith, common_steps)

one_ring : (b : Bool) (c t : Req) → (b && (c.ring == t.ring)) ≡ true → c.ring ≡ t.ring
one_ring b c t w = eqb-true c.ring t.ring (and_right b (c.ring == t.ring) w)

and_so : (b : Bool) (c t : Req) → c.ring ≡ t.ring → b ≡ true → (b && (c.ring == t.ring)) ≡ true
and_so b c t e w = rw (w, eq-eqb c.ring t.ring e) refl

none_come : (clock : ℕ) (e : Event) → is_step e ≡ true → may_step clock [] e ≡ false
none_come = grind (arith, common_steps)

module _ (m : Machine) (h : List Event) (a : Agrees h m) where
  abbrev at : Event → List Request
  at e = row m.rings (ring_of e)

  step_may : (e : Event) → may_step m.clock (at e) e ≡ true → MayCome (setup_of m) h e
  step_may (Begin r) b = begin_may m h a r.ring r.k b
  step_may (Park r) b = park_may m h a r.ring r.k b
  step_may (Arm r d) b = arm_may m h a r.ring r.k d b
  step_may (Expire r) b = expire_may m h a r.ring r.k b
  step_may (Count r) b = count_may m h a r.ring r.k b
  step_may (Settle r) b = settle_may m h a r.ring r.k b
  step_may (Sever r) b = sever_may m h a r.ring r.k b
  step_may (Reap r) b = reap_may m h a r.ring r.k b
  step_may (Cut r) b = cut_may m h a r.ring r.k b
  step_may (Take c t) b = subst (λ z. MayCome (setup_of m) h (Take c z)) (named c.ring t (one_ring _ c t b)) (take_may m h a c.ring c.k t.k (and_left (may_take (row m.rings c.ring) c.k t.k) _ b))
  step_may (Miss c t) b = subst (λ z. MayCome (setup_of m) h (Miss c z)) (named c.ring t (one_ring _ c t b)) (miss_may m h a c.ring c.k t.k (and_left (may_miss (row m.rings c.ring) c.k t.k) _ b))
  step_may (Fire c t) b = subst (λ z. MayCome (setup_of m) h (Fire c z)) (named c.ring t (one_ring _ c t b)) (fire_may m h a c.ring c.k t.k (and_left (may_fire m.clock (row m.rings c.ring) c.k t.k) _ b))
  step_may (FireMiss c t) b = subst (λ z. MayCome (setup_of m) h (FireMiss c z)) (named c.ring t (one_ring _ c t b)) (fire_miss_may m h a c.ring c.k t.k (and_left (may_fire_miss m.clock (row m.rings c.ring) c.k t.k) _ b))
  step_may _ b = absurd (true≢false (sym b))

  may_step_is : (e : Event) → is_step e ≡ true → MayCome (setup_of m) h e → may_step m.clock (at e) e ≡ true
  may_step_is (Begin r) w y = may_begin_is m h a r.ring r.k y
  may_step_is (Park r) w y = may_park_is m h a r.ring r.k y
  may_step_is (Arm r d) w y = may_arm_is m h a r.ring r.k d y
  may_step_is (Expire r) w y = may_expire_is m h a r.ring r.k y
  may_step_is (Count r) w y = may_count_is m h a r.ring r.k y
  may_step_is (Settle r) w y = may_settle_is m h a r.ring r.k y
  may_step_is (Sever r) w y = may_sever_is m h a r.ring r.k y
  may_step_is (Reap r) w y = may_reap_is m h a r.ring r.k y
  may_step_is (Cut r) w y = may_cut_is m h a r.ring r.k y
  may_step_is (Take c t) w y = let e = aimed (is_all y.1.0.op) h c t y.1.2 in and_so _ c t e (may_take_is m h a c.ring c.k t.k (subst (λ z. MayCome (setup_of m) h (Take c z)) (sym (named c.ring t e)) y))
  may_step_is (Miss c t) w y = let e = aimed (is_all y.1.0.op) h c t y.1.2 in and_so _ c t e (may_miss_is m h a c.ring c.k t.k (subst (λ z. MayCome (setup_of m) h (Miss c z)) (sym (named c.ring t e)) y))
  may_step_is (Fire c t) w y = let e = sym y.2.1 in and_so _ c t e (may_fire_is m h a c.ring c.k t.k (subst (λ z. MayCome (setup_of m) h (Fire c z)) (sym (named c.ring t e)) y))
  may_step_is (FireMiss c t) w y = let e = sym y.2.1 in and_so _ c t e (may_fire_miss_is m h a c.ring c.k t.k (subst (λ z. MayCome (setup_of m) h (FireMiss c z)) (sym (named c.ring t e)) y))
  may_step_is _ w y = absurd (true≢false (sym w))

  step_kept : (e : Event) → may_step m.clock (at e) e ≡ true → m.shut ≡ shut_for e → Agrees (e ∷ h) (put_row m (ring_of e) (put_step (at e) e))
  step_kept (Begin r) b s = begin_kept m h a r.ring r.k b s
  step_kept (Park r) b s = park_kept m h a r.ring r.k b s
  step_kept (Arm r d) b s = arm_kept m h a r.ring r.k d b s
  step_kept (Expire r) b s = expire_kept m h a r.ring r.k b s
  step_kept (Count r) b s = count_kept m h a r.ring r.k b s
  step_kept (Settle r) b s = settle_kept m h a r.ring r.k b s
  step_kept (Sever r) b s = sever_kept m h a r.ring r.k b s
  step_kept (Reap r) b s = reap_kept m h a r.ring r.k b s
  step_kept (Cut r) b s = cut_kept m h a r.ring r.k b s
  step_kept (Take c t) b s = subst (λ z. Agrees (Take c z ∷ h) (put_row m c.ring (put_step (row m.rings c.ring) (Take c z)))) (named c.ring t (one_ring _ c t b)) (take_kept m h a c.ring c.k t.k (and_left (may_take (row m.rings c.ring) c.k t.k) _ b) s)
  step_kept (Miss c t) b s = subst (λ z. Agrees (Miss c z ∷ h) (put_row m c.ring (put_step (row m.rings c.ring) (Miss c z)))) (named c.ring t (one_ring _ c t b)) (miss_kept m h a c.ring c.k t.k (and_left (may_miss (row m.rings c.ring) c.k t.k) _ b) s)
  step_kept (Fire c t) b s = subst (λ z. Agrees (Fire c z ∷ h) (put_row m c.ring (put_step (row m.rings c.ring) (Fire c z)))) (named c.ring t (one_ring _ c t b)) (fire_kept m h a c.ring c.k t.k (and_left (may_fire m.clock (row m.rings c.ring) c.k t.k) _ b) s)
  step_kept (FireMiss c t) b s = subst (λ z. Agrees (FireMiss c z ∷ h) (put_row m c.ring (put_step (row m.rings c.ring) (FireMiss c z)))) (named c.ring t (one_ring _ c t b)) (fire_miss_kept m h a c.ring c.k t.k (and_left (may_fire_miss m.clock (row m.rings c.ring) c.k t.k) _ b) s)
  step_kept _ b s = absurd (true≢false (sym b))

-- as the code meets it
pub step_decides : (e : Event) (i : ℕ) → i ≡ ring_of e → is_step e ≡ true → IsDecided e i (λ m r. may_step m.clock r e) (λ r. put_step r e)
step_decides e i n w = subst (λ (z : ℕ). IsDecided e z (λ m r. may_step m.clock r e) (λ r. put_step r e)) (sym n)
    (λ m n' b s is after. decides b m (put_row m (ring_of e) (put_step (row m.rings (ring_of e)) e)) n' e after
    (λ u. (same_setup m (ring_of e) _, λ h a. (step_may m h a e (sym is ∙ u), step_kept m h a e (sym is ∙ u) s)))
    (λ u h a y. true≢false (sym (may_step_is m h a e w y) ∙ sym is ∙ u)))

pub step_follows : (e : Event) (i : ℕ) → i ≡ ring_of e → (m : Machine) → may_step m.clock (row m.rings i) e ≡ true → MayFollow m e
step_follows e i n m b = λ h a. step_may m h a e (ap (λ z. may_step m.clock (row m.rings z) e) (sym n) ∙ b)

pub step_missing : (e : Event) → is_step e ≡ true → (clock : ℕ) → may_step clock [] e ≡ false
step_missing e w clock = none_come clock e w
