-- A pass that looked, or went on by one event of its own, from what the single steps of its seat tell.
use Rattle.board.proofs.Common.{AreMade, Bool, Did, EndsWith, Event, Extends, ExtendsAfter, ExtendsNoted, ExtendsTwice, Facts, Freed, Goes, IsOf, Legal, Lending, Lent, Line, List, Looks, NoneOf, Noted, Orderly, Owner, Pass, Req, Role, Submitter, View, [], ap, append_assoc, bool_cases, cond, eq-eqb, event_of, events_of, extended_of, false, holders, looked_of, nobody, own_append, own_before, own_none, own_of, owner, owns, pollers, refl, rings, setup_of, share_of, silent_own, stands_for, subst, sym, true, was_shut, workers, ℕ, ⊎_elim, ◌++◌, ◌==◌, ◌∙◌, ◌∷◌, ◌≡◌}

-- a pass that looked
pub goes_looked : (b : Facts) (p q : Pass) → IsOf b p → q.table ≡ p.table → Looks p.view q.view → Goes b p [] q
goes_looked b p q o t x = record {
  kept = looked_of b p q o t x;
  role_is = ap (λ (z : View). z.role) x.is;
  later = x.saw.later;
  seen_is = ap (λ (z : View). z.seen) x.is ∙ x.saw.is;
  own = own_none p.view.role x.saw.later x.saw.none;
  last = tt;
}

-- a pass that knows what one of the board's own knows
pub goes_same : (b : Facts) (p q : Pass) → IsOf b p → q.table ≡ p.table → q.view ≡ p.view → Goes b p [] q
goes_same b p q o t v = record {
  kept = record {
    table_is = t ∙ o.table_is;
    layout_is = ap (λ (z : View). z.layout) v ∙ o.layout_is;
    share_is = subst (λ (z : View). z.parts ≡ share_of b z.role) (sym v) o.share_is;
    legal = subst (λ (z : View). Legal (setup_of b.layout) (events_of z.seen)) (sym v) o.legal;
    live = subst (λ (z : View). was_shut (events_of z.seen) ≡ false) (sym v) o.live;
    orderly = subst (λ (z : View). Orderly b.layout z.seen) (sym v) o.orderly;
    looked = ap (λ (z : View). z.heard) v ∙ o.looked;
    made = subst (λ (z : View). AreMade z.seen z.steps) (sym v) o.made;
  };
  role_is = ap (λ (z : View). z.role) v;
  later = [];
  seen_is = ap (λ (z : View). z.seen) v;
  own = refl;
  last = tt;
}

-- a pass that did nothing
pub goes_still : (b : Facts) (p : Pass) → IsOf b p → Goes b p [] p
goes_still b p o = goes_same b p p o refl refl

pub event_before : (x : Line) (h g : List Event) → event_of x (h ++ g) ≡ event_of x h ++ g
event_before (Did e) h g = refl
event_before x h g = refl

pub events_before : (k l : List Line) → events_of (k ++ l) ≡ events_of k ++ events_of l
events_before [] l = refl
events_before (x ∷ k) l = ap (event_of x) (events_before k l) ∙ event_before x (events_of k) (events_of l)

pub ends_before : (es : List Event) (h g : List Event) → EndsWith es h → EndsWith es (h ++ g)
ends_before [] h g w = tt
ends_before (e ∷ es) h g w = (w.0 ++ g, ap (λ (z : List Event). z ++ g) w.1)

-- a pass that looked twice, or looked and then went on
pub goes_then : (b : Facts) (p m q : Pass) (es : List Event) → Goes b p [] m → Goes b m es q → Goes b p es q
goes_then b p m q es x y = record {
  kept = y.kept;
  role_is = y.role_is ∙ x.role_is;
  later = y.later ++ x.later;
  seen_is = y.seen_is ∙ (ap (λ (j : List Line). y.later ++ j) x.seen_is ∙ sym (append_assoc y.later x.later p.view.seen));
  own = own_before p.view.role y.later x.later x.own ∙ (ap (λ (z : Role). own_of z y.later) (sym x.role_is) ∙ y.own);
  last = subst (EndsWith es) (sym (events_before y.later x.later)) (ends_before es (events_of y.later) (events_of x.later) y.last);
}

-- the own events of two parts
pub own_both : (role : Role) (k l : List Line) → own_of role (k ++ l) ≡ own_of role k ++ own_of role l
own_both role [] l = refl
own_both role (x ∷ k) l = ⊎_elim
    (λ (w : owns role x ≡ true). ap (λ (c : Bool). cond c (event_of x (own_of role (k ++ l))) (own_of role (k ++ l))) w ∙ (ap (event_of x) (own_both role k l) ∙ (event_before x (own_of role k) (own_of role l) ∙ ap (λ (h : List Event). h ++ own_of role l) (sym (ap (λ (c : Bool). cond c (event_of x (own_of role k)) (own_of role k)) w)))))
    (λ (w : owns role x ≡ false). ap (λ (c : Bool). cond c (event_of x (own_of role (k ++ l))) (own_of role (k ++ l))) w ∙ (own_both role k l ∙ ap (λ (h : List Event). h ++ own_of role l) (sym (ap (λ (c : Bool). cond c (event_of x (own_of role k)) (own_of role k)) w))))
    (bool_cases (owns role x))

-- a pass that went on by events of its own, and then by more
pub goes_more : (b : Facts) (p m q : Pass) (e : Event) (es fs : List Event) → Goes b p es m → Goes b m (e ∷ fs) q → Goes b p (e ∷ (fs ++ es)) q
goes_more b p m q e es fs x y = record {
  kept = y.kept;
  role_is = y.role_is ∙ x.role_is;
  later = y.later ++ x.later;
  seen_is = y.seen_is ∙ (ap (λ (j : List Line). y.later ++ j) x.seen_is ∙ sym (append_assoc y.later x.later p.view.seen));
  own = own_both p.view.role y.later x.later ∙ ((λ i. own_of (sym x.role_is i) y.later ++ own_of p.view.role x.later) ∙ (λ i. y.own i ++ x.own i));
  last = (y.last.0 ++ events_of x.later, events_before y.later x.later ∙ ap (λ (h : List Event). h ++ events_of x.later) y.last.1);
}

-- the poller moved a request to Ready, which is no event
pub goes_freed : (b : Facts) (p q : Pass) (r : Req) → IsOf b p → q.table ≡ p.table → Extends p.view (Freed r) p.view.role q.view → Goes b p [] q
goes_freed b p q r o t x = record {
  kept = extended_of b p q (Freed r) p.view.role o refl t x;
  role_is = ap (λ (z : View). z.role) x.is;
  later = Freed r ∷ x.saw.later;
  seen_is = ap (λ (z : View). z.seen) x.is ∙ ap (λ (j : List Line). Freed r ∷ j) x.saw.is;
  own = ⊎_elim (λ w. ap (λ b. cond b (own_of p.view.role x.saw.later) (own_of p.view.role x.saw.later)) w ∙ own_none p.view.role x.saw.later x.saw.none) (λ w. ap (λ b. cond b (own_of p.view.role x.saw.later) (own_of p.view.role x.saw.later)) w ∙ own_none p.view.role x.saw.later x.saw.none) (bool_cases (owns p.view.role (Freed r)));
  last = tt;
}

same_owner : (i : ℕ) (r : Req) → r.ring ≡ i → (o : Owner) → stands_for (Submitter i) o ≡ stands_for (Lending r) o
same_owner i r is nobody = refl
same_owner i r is pollers = refl
same_owner i r is (rings l) = ap (λ (z : ℕ). z == l) (sym is)
same_owner i r is (workers q) = refl
same_owner i r is (holders q p) = refl

lent_none : (i : ℕ) (r : Req) → r.ring ≡ i → (l : List Line) → NoneOf (Lending r) l → NoneOf (Submitter i) l
lent_none i r is [] n = tt
lent_none i r is (x ∷ l) n = (same_owner i r is (owner x) ∙ n.0, lent_none i r is l n.1)

-- a submitter that has noted for its request r, which is no event, and has the slot
pub record Noting (b : Facts) (p m : Pass) (r : Req) : Type 0 where
  pub kept : IsOf b m
  pub role : m.view.role ≡ Lending r
  pub later : List Line
  pub seen_is : m.view.seen ≡ later ++ p.view.seen
  pub own : own_of (Submitter r.ring) later ≡ []

pub notes_first : (b : Facts) (p m : Pass) (r : Req) (l : Line) → ((h : List Event) → event_of l h ≡ h) → IsOf b p → m.table ≡ p.table → p.view.role ≡ Submitter r.ring → Extends p.view l (Lending r) m.view → Noting b p m r
notes_first b p m r l silent o t role x = record {
  kept = extended_of b p m l (Lending r) o (ap (share_of b) (sym role)) t x;
  role = ap (λ (z : View). z.role) x.is;
  later = l ∷ x.saw.later;
  seen_is = ap (λ (z : View). z.seen) x.is ∙ ap (λ (j : List Line). l ∷ j) x.saw.is;
  own = silent_own (Submitter r.ring) l x.saw.later silent (own_none (Submitter r.ring) x.saw.later (subst (λ (z : Role). NoneOf z x.saw.later) role x.saw.none));
}

pub notes_more : (b : Facts) (p m q : Pass) (r : Req) (l : Line) → ((h : List Event) → event_of l h ≡ h) → q.table ≡ m.table → Noting b p m r → Extends m.view l (Lending r) q.view → Noting b p q r
notes_more b p m q r l silent t k x = let none = lent_none r.ring r refl x.saw.later (subst (λ (z : Role). NoneOf z x.saw.later) k.role x.saw.none) in record {
  kept = extended_of b m q l (Lending r) k.kept (ap (share_of b) (sym k.role)) t x;
  role = ap (λ (z : View). z.role) x.is;
  later = l ∷ (x.saw.later ++ k.later);
  seen_is = ap (λ (z : View). z.seen) x.is ∙ ap (λ (j : List Line). l ∷ j) (x.saw.is ∙ (ap (λ (j : List Line). x.saw.later ++ j) k.seen_is ∙ sym (append_assoc x.saw.later k.later p.view.seen)));
  own = silent_own (Submitter r.ring) l (x.saw.later ++ k.later) silent (own_append (Submitter r.ring) x.saw.later k.later none ∙ k.own);
}

-- and continues with one event of its own
pub notes_end : (b : Facts) (p m q : Pass) (r : Req) (e : Event) → p.view.role ≡ Submitter r.ring → owner (Did e) ≡ rings r.ring → q.table ≡ m.table → Noting b p m r → Extends m.view (Did e) (Submitter r.ring) q.view → Goes b p (e ∷ []) q
notes_end b p m q r e role mine t k x =
    let i = r.ring in let none = lent_none i r refl x.saw.later (subst (λ (z : Role). NoneOf z x.saw.later) k.role x.saw.none) in
    let before : own_of (Submitter i) (x.saw.later ++ k.later) ≡ [] = own_append (Submitter i) x.saw.later k.later none ∙ k.own in
    let yes : owns (Submitter i) (Did e) ≡ true = ap (stands_for (Submitter i)) mine ∙ eq-eqb i i refl in record {
      kept = extended_of b m q (Did e) (Submitter i) k.kept (ap (share_of b) (sym k.role)) t x;
      role_is = ap (λ (z : View). z.role) x.is ∙ sym role;
      later = Did e ∷ (x.saw.later ++ k.later);
      seen_is = ap (λ (z : View). z.seen) x.is ∙ ap (λ (j : List Line). Did e ∷ j) (x.saw.is ∙ (ap (λ (j : List Line). x.saw.later ++ j) k.seen_is ∙ sym (append_assoc x.saw.later k.later p.view.seen)));
      own = subst (λ (z : Role). own_of z (Did e ∷ (x.saw.later ++ k.later)) ≡ e ∷ []) (sym role) (ap (λ c. cond c (e ∷ own_of (Submitter i) (x.saw.later ++ k.later)) (own_of (Submitter i) (x.saw.later ++ k.later))) yes ∙ ap (λ (h : List Event). e ∷ h) before);
      last = (events_of (x.saw.later ++ k.later), refl);
    }

-- a submitter that noted once, or twice, and then went on by one event of its own
pub goes_twice : (b : Facts) (p q : Pass) (r : Req) (k : Line) (e : Event) → ((h : List Event) → event_of k h ≡ h) → IsOf b p → q.table ≡ p.table → p.view.role ≡ Submitter r.ring → owner (Did e) ≡ rings r.ring
    → ExtendsTwice p.view k (Lending r) (Did e) (Submitter r.ring) q.view → Goes b p (e ∷ []) q
goes_twice b p q r k e silent o t role mine x = let m : Pass = record p { view = x.0 } in notes_end b p m q r e role mine t (notes_first b p m r k silent o refl role x.1) x.2

-- a submitter that has noted for its request stores these notes as well, and then continues with one event of its own
notes_then : (b : Facts) (p m q : Pass) (r : Req) (notes : List (ℕ × ℕ)) (e : Event) → p.view.role ≡ Submitter r.ring → owner (Did e) ≡ rings r.ring → q.table ≡ m.table → Noting b p m r → ExtendsAfter m.view r notes (Did e) (Submitter r.ring) q.view → Goes b p (e ∷ []) q
notes_then b p m q r [] e role mine t k x = notes_end b p m q r e role mine t k x
notes_then b p m q r (n ∷ notes) e role mine t k x = let w : Pass = record m { view = x.0 } in notes_then b p w q r notes e role mine t (notes_more b p m w r (Noted r n.0 n.1) (λ h. refl) refl k x.1) x.2

pub goes_noted : (b : Facts) (p q : Pass) (r : Req) (facts : ℕ × ℕ) (notes : List (ℕ × ℕ)) (e : Event) → IsOf b p → q.table ≡ p.table → p.view.role ≡ Submitter r.ring → owner (Did e) ≡ rings r.ring
    → ExtendsNoted p.view r facts notes (Did e) (Submitter r.ring) q.view → Goes b p (e ∷ []) q
goes_noted b p q r facts notes e o t role mine x = let m : Pass = record p { view = x.0 } in notes_then b p m q r notes e role mine t (notes_first b p m r (Lent r facts.0 facts.1) (λ h. refl) o refl role x.1) x.2
