-- Who lies with the pipes that a worker has in hand, as it gives them back.
use Rattle.steps.proofs.PipesKept.{still_has}
use Rattle.work.proofs.Common.{Begins, Busy, Did, Event, Extends, Flow, Free, HasNone, HasWaited, IsSamePipe, Laid, LaidDown, LiesAs, LiesIn, Line, List, MayLay, NoRequest, Orderly, Reply, Req, Role, Some, TookAlong, View, WaitedPipe, [], ap, goes_out, holder, holders, inl, is_pipe, lays, lying, refl, same_itself, stands, stands_for, subst, sym, true, ℕ, ℤ, ◌∙◌, ◌∷◌, ◌≡◌}
use Rattle.work.proofs.RunsKept.{begins_both}

-- what has no answer now may be laid down
pub waited_now : (caps : List ℕ) (r : Req) (p : ℕ) (h : List Event) → HasNone caps h r p → HasWaited caps r p h
waited_now caps r p [] k = absurd (let z = k.1 in cc)
waited_now caps r p (e ∷ h) k = inl k

pub may_lay : (caps : List ℕ) (h : List Event) (r : Req) (p : ℕ) (laid : Laid) → HasWaited caps r p h → MayLay caps h r p laid
may_lay caps h r p NoRequest k = tt
may_lay caps h r p laid k = k

-- a pipe that others left alone has those still that lay there
pub lies_still : (K : List ℕ) (v w : View) (n : ℕ) (c : WaitedPipe) → IsSamePipe v w n → LiesAs K v n c → LiesAs K w n c
lies_still K v w n c same lies = (lies.0 ∙ ap (λ (z : Flow × List Req). z.1) (sym same), lies.1)

module _ (v w : View) (r : Req) (p : ℕ) (busy : v.role ≡ Busy r) (there : is_pipe v.layout.caps p ≡ true) (has : holder v.seen p ≡ Some r) (l : Line) (role : Role) (x : Extends v l role w) where
  -- until its next line those lie there that did
  pub lying_kept : lying x.mid p ≡ lying v.seen p
  lying_kept = let mine : stands_for v.role (holders r p) ≡ true = subst (λ (z : Role). stands_for z (holders r p) ≡ true) (sym busy) (same_itself r) in
      let k = still_has v.layout v.role r p mine there (stands v.seen p) x.saw.later v.seen (subst (Orderly v.layout) x.saw.is x.orderly.1) x.saw.none (has, refl) in
      ap (λ (j : List Line). lying j p) x.saw.is ∙ ap (λ (z : Flow × List Req). z.1) k.1

  seen_is : w.seen ≡ l ∷ x.mid
  seen_is = ap (λ (z : View). z.seen) x.is

  -- it took along all that lay there
  pub took_along : (u : View) (res : ℤ) (data' : List ℕ) (out : List Req) → l ≡ Did (Reply r res data') → u.seen ≡ w.seen → out ≡ lying v.seen p → TookAlong r p res u out
  took_along u res data' out is same out_is = (x.mid, data', same ∙ (seen_is ∙ ap (λ (k : Line). k ∷ x.mid) is), out_is ∙ sym lying_kept)

  -- its number lies there since
  pub laid_down : (laid : Laid) (out : List Req) → l ≡ Free r p laid → LiesIn (lays laid r (lying v.seen p)) r → out ≡ goes_out laid (lying v.seen p) → LaidDown v w r p out
  laid_down laid out is lies out_is = record {
    at = x.mid;
    laid = laid;
    after = (x.saw.later, x.saw.is);
    before = ([], seen_is ∙ ap (λ (k : Line). k ∷ x.mid) is);
    lies = subst (λ (rs : List Req). LiesIn (lays laid r rs) r) (sym lying_kept) lies;
    out_is = out_is ∙ ap (goes_out laid) (sym lying_kept);
  }

-- seen from before, and from later
pub down_later : (v m w : View) (r : Req) (p : ℕ) (out : List Req) → Begins w.seen m.seen → LaidDown v m r p out → LaidDown v w r p out
down_later v m w r p out on d = record { at = d.at; laid = d.laid; after = d.after; before = begins_both _ m.seen w.seen d.before on; lies = d.lies; out_is = d.out_is }

pub down_sooner : (v m w : View) (r : Req) (p : ℕ) (out : List Req) → Begins m.seen v.seen → LaidDown m w r p out → LaidDown v w r p out
down_sooner v m w r p out on d = record { at = d.at; laid = d.laid; after = begins_both v.seen m.seen d.at on d.after; before = d.before; lies = d.lies; out_is = d.out_is }
