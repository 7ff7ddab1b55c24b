-- What a worker's marks tell stays true, whatever it sees.
use Rattle.work.proofs.Common.{AreMarked, ArePast, Extends, HasRooms, IsIdleSeat, Layout, Legal, Line, List, Lists, Looks, Marks, Req, Role, Setup, View, WentOn, WorkerSeat, ap, events_of, mark_of, replied_later, setup_of, subst, sym, ℕ, ⊎_elim, ◌++◌, ◌<◌, ◌∙◌, ◌∷◌, ◌≡◌, ◌⊎◌}
use Rattle.work.proofs.CancelGrowth.{Grown}

pub past_later : (S : Setup) (later j : List Line) (ring n : ℕ) → Legal S (events_of (later ++ j)) → ArePast j ring n → ArePast (later ++ j) ring n
past_later S later j ring n legal p k lt = replied_later S later j (record { ring = ring; k = k }) legal (p k lt)

-- once the worker has looked
pub past_looked : (v w : View) (ring n : ℕ) → Looks v w → ArePast v.seen ring n → ArePast w.seen ring n
past_looked v w ring n x p = subst (λ (j : List Line). ArePast j ring n) (sym (ap (λ (z : View). z.seen) x.is ∙ x.saw.is)) (past_later (setup_of v.layout) x.saw.later v.seen ring n (subst (λ (j : List Line). Legal (setup_of v.layout) (events_of j)) x.saw.is x.legal) p)

module _ (m : Marks) where
  pub marked_later : (S : Setup) (later j : List Line) → Legal S (events_of (later ++ j)) → AreMarked m j → AreMarked m (later ++ j)
  marked_later S later j legal a ring = past_later S later j ring (mark_of m ring) legal (a ring)

  pub marked_looked : (v w : View) → Looks v w → AreMarked m v.seen → AreMarked m w.seen
  marked_looked v w x a ring = past_looked v w ring (mark_of m ring) x (a ring)

  -- once it has added a line
  pub marked_after : (v w : View) (l : Line) (role : Role) → Extends v l role w → AreMarked m v.seen → AreMarked m w.seen
  marked_after v w l role x a =
      let is = ap (λ (j : List Line). l ∷ j) x.saw.is in
      subst (AreMarked m) (sym (ap (λ (z : View). z.seen) x.is ∙ is)) (marked_later (setup_of v.layout) (l ∷ x.saw.later) v.seen (subst (λ (j : List Line). Legal (setup_of v.layout) (events_of j)) is x.legal) a)

  pub marked_went : (v w : View) → WentOn v w → AreMarked m v.seen → AreMarked m w.seen
  marked_went v w d a = ⊎_elim (λ (e : w ≡ v). subst (λ (z : View). AreMarked m z.seen) (sym e) a) (λ (x : Looks v w). marked_looked v w x a) d

  pub marked_grown : (v w : View) (c : Req) → Grown v w c → AreMarked m v.seen → AreMarked m w.seen
  marked_grown v w c g a = subst (AreMarked m) (sym g.seen_is) (marked_later (setup_of v.layout) g.later v.seen g.legal a)

  -- once it has replied and has given its pipes back
  pub marked_left : (v mid w : View) (l : Line) (role : Role) → Extends v l role mid → w.seen ≡ mid.seen → AreMarked m v.seen → AreMarked m w.seen
  marked_left v mid w l role x same a = subst (AreMarked m) (sym same) (marked_after v mid l role x a)

-- a mark of one ring more
pub marked_set : (old new : Marks) (ring n : ℕ) (j : List Line) → ((i : ℕ) → (mark_of new i ≡ mark_of old i) ⊎ ((i ≡ ring) × (mark_of new i ≡ n))) → ArePast j ring n → AreMarked old j → AreMarked new j
marked_set old new ring n j is p a i = ⊎_elim (λ (e : mark_of new i ≡ mark_of old i). subst (ArePast j i) (sym e) (a i)) (λ b. subst (ArePast j i) (sym b.1) (subst (λ (r : ℕ). ArePast j r n) (sym b.0) p)) (is i)

-- a worker without a request that has looked
pub worker_looked : (s t : WorkerSeat) (lists : Lists) → IsIdleSeat s × HasRooms s.me.0.layout.cells lists × AreMarked lists.marks s.me.0.seen → Looks s.me.0 t.me.0 → t.me.1 ≡ s.me.1 → IsIdleSeat t × HasRooms t.me.0.layout.cells lists × AreMarked lists.marks t.me.0.seen
worker_looked s t lists i x same = (
  record { role = ap (λ (z : View). z.role) x.is ∙ i.0.role; parts = subst (λ (n : ℕ). 0 < n) (sym (ap (λ (z : View). z.parts) x.is)) i.0.parts; bare = same ∙ i.0.bare },
  subst (λ (L : Layout). HasRooms L.cells lists) (sym (ap (λ (z : View). z.layout) x.is)) i.1,
  marked_looked lists.marks s.me.0 t.me.0 x i.2,
)
