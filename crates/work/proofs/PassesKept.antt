-- A pass of a board stays one of its own.
use Rattle.steps.specs.declared.view.Heard.{Heard}
use Rattle.steps.proofs.Sleepers.{none_sleeps}
use Rattle.work.proofs.Common.{AllBegin, AreMade, Extends, Facts, IsOf, IsStep, Layout, Legal, Line, List, Looks, NoneOf, NoneSleeps, Orderly, Pass, Role, Took, View, [], ap, append_assoc, events_of, false, refl, seeing, setup_of, share_of, subst, sym, was_shut, ℕ, ◌++◌, ◌∙◌, ◌∷◌, ◌≡◌}

pub looked_of : (b : Facts) (p q : Pass) → IsOf b p → q.table ≡ p.table → Looks p.view q.view → IsOf b q
looked_of b p q o t x =
    let seen : q.view.seen ≡ x.now = ap (λ (z : View). z.seen) x.is in record {
      table_is = t ∙ o.table_is;
      layout_is = ap (λ (z : View). z.layout) x.is ∙ o.layout_is;
      share_is = ap (λ (z : View). z.parts) x.is ∙ (o.share_is ∙ ap (share_of b) (sym (ap (λ (z : View). z.role) x.is)));
      legal = subst (λ (j : List Line). Legal (setup_of b.layout) (events_of j)) (sym seen) (subst (λ (L : Layout). Legal (setup_of L) (events_of x.now)) o.layout_is x.legal);
      live = subst (λ (j : List Line). was_shut (events_of j) ≡ false) (sym seen) x.live;
      orderly = subst (Orderly b.layout) (sym seen) (subst (λ (L : Layout). Orderly L x.now) o.layout_is x.orderly);
      looked = ap (λ (z : View). z.heard) x.is;
      made = subst (λ (z : View). AreMade z.seen z.steps) (sym x.is) x.made;
    }

pub extended_of : (b : Facts) (p q : Pass) (l : Line) (role : Role) → IsOf b p → share_of b role ≡ share_of b p.view.role → q.table ≡ p.table → Extends p.view l role q.view → IsOf b q
extended_of b p q l role o same t x =
    let seen : q.view.seen ≡ l ∷ x.mid = ap (λ (z : View). z.seen) x.is in record {
      table_is = t ∙ o.table_is;
      layout_is = ap (λ (z : View). z.layout) x.is ∙ o.layout_is;
      share_is = ap (λ (z : View). z.parts) x.is ∙ (o.share_is ∙ (sym same ∙ ap (share_of b) (sym (ap (λ (z : View). z.role) x.is))));
      legal = subst (λ (j : List Line). Legal (setup_of b.layout) (events_of j)) (sym seen) (subst (λ (L : Layout). Legal (setup_of L) (events_of (l ∷ x.mid))) o.layout_is x.legal);
      live = subst (λ (j : List Line). was_shut (events_of j) ≡ false) (sym seen) x.live;
      orderly = subst (Orderly b.layout) (sym seen) (subst (λ (L : Layout). Orderly L (l ∷ x.mid)) o.layout_is x.orderly);
      looked = ap (λ (z : View). z.heard) x.is;
      made = subst (λ (z : View). AreMade z.seen z.steps) (sym x.is) x.made;
    }

-- by what a pass of a board has seen, none sleeps at a pipe that could answer it
pub awake_of : (b : Facts) (p : Pass) → IsOf b p → NoneSleeps b.layout p.view.seen
awake_of b p o = none_sleeps b.layout p.view.seen o.legal o.orderly

-- one step, with nothing before it
pub took_one : (v m w u : View) (word n : ℕ) → m ≡ v → IsStep word n m w → u ≡ w → Took v u 1
took_one v m w u word n e is same' = (record { word = word; found = n; seen = w.seen } ∷ [], refl, ap (λ (z : View). z.steps) same' ∙ (is ∙ ap (λ (z : View). record { word = word; found = n; seen = w.seen } ∷ z.steps) e))

-- ---- two looks are one

none_both : (role : Role) (k l : List Line) → NoneOf role k → NoneOf role l → NoneOf role (k ++ l)
none_both role [] l a b = b
none_both role (x ∷ k) l a b = (a.0, none_both role k l a.1 b)

begins_later : (k j : List Line) (xs : List Heard) → AllBegin j xs → AllBegin (k ++ j) xs
begins_later k j xs a x h = let b = a x h in (k ++ b.0, ap (λ (z : List Line). k ++ z) b.1 ∙ sym (append_assoc k b.0 x.seen))

pub looks_both : (u v w : View) → Looks u v → Looks v w → Looks u w
looks_both u v w a b =
    let then : v.seen ≡ a.now = ap (λ (z : View). z.seen) a.is in let layout : v.layout ≡ u.layout = ap (λ (z : View). z.layout) a.is in let on : b.now ≡ b.saw.later ++ a.now = b.saw.is ∙ ap (λ (j : List Line). b.saw.later ++ j) then in record {
      now = b.now;
      saw = record {
        later = b.saw.later ++ a.saw.later;
        is = on ∙ (ap (λ (j : List Line). b.saw.later ++ j) a.saw.is ∙ sym (append_assoc b.saw.later a.saw.later u.seen));
        none = none_both u.role b.saw.later a.saw.later (subst (λ (z : Role). NoneOf z b.saw.later) (ap (λ (z : View). z.role) a.is) b.saw.none) a.saw.none;
      };
      heard = subst (λ (j : List Line). AllBegin j u.heard) (sym on) (begins_later b.saw.later a.now u.heard a.heard);
      legal = subst (λ (L : Layout). Legal (setup_of L) (events_of b.now)) layout b.legal;
      live = b.live;
      orderly = subst (λ (L : Layout). Orderly L b.now) layout b.orderly;
      steps = b.steps;
      made = b.made;
      is = b.is ∙ ap (λ (z : View). seeing z z.role b.now b.steps) a.is;
    }
