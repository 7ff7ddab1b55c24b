-- What a Submit says of its own request: the entry before it, that its buffer fits, and what a TIMEOUT is placed as.
use Rattle.std.proofs.Common.{◌==◌}
use Rattle.steps.proofs.Common.{Bool, Entry, Event, Fits, Invalid, Legal, List, None, Op, Option, Req, Setup, Some, Submitted, Submit, [], ap, arith, before_in, bool_cases, cond, count_in, count_of, eq-eqb, false, hosts, is_link_timeout, is_timeout, not, placed_behind, previous, same, same_false, submission, subst, sym, true, true≢false, ℕ, ⊎_elim, ◌&&◌, ◌-◌, ◌∙◌, ◌∷◌, ◌≡◌}

-- its own Submit leaves what stands before a request
pub before_own : (h : List Event) (q : Req) (e : Entry) (bytes : List ℕ) (last : Bool) → before_in (Submit q e bytes last ∷ h) q ≡ before_in h q
before_own h q e bytes last = ⊎_elim
    (λ (w : (q.k == 0) ≡ true). ap (λ b. cond b None (submission (Submit q e bytes last ∷ h) (previous q))) w ∙ sym (ap (λ b. cond b None (submission h (previous q))) w))
    (λ (w : (q.k == 0) ≡ false). ap (λ x. cond (q.k == 0) None x) (ap (λ b. cond b (Some (record { entry = e; bytes = bytes; last = last })) (submission h (previous q)))
    (same_false q (previous q) (λ u. let k : q.k ≡ q.k - 1 = ap (λ (z : Req). z.k) u in let n : ¬ (q.k ≡ 0) = λ z. true≢false (sym (eq-eqb q.k 0 z) ∙ w) in omega arith))))
    (bool_cases (q.k == 0))

-- the buffer that was handed in fits the entry
pub fits_is : (s : Setup) (h : List Event) (q : Req) (x : Submitted) → Legal s h → submission h q ≡ Some x → Fits x.entry x.bytes
fits_is s [] q x l is = absurd (let z = is in cc)
fits_is s (Submit r e bytes last ∷ h) q x l is = let y : Submitted = record { entry = e; bytes = bytes; last = last } in ⊎_elim
    (λ (w : same r q ≡ true). let z : Some y ≡ Some x = sym (ap (λ b. cond b (Some y) (submission h q)) w) ∙ is in let same' : y ≡ x = cc in subst (λ (k : Submitted). Fits k.entry k.bytes) same' l.0.1.2)
    (λ (w : same r q ≡ false). fits_is s h q x l.1 (sym (ap (λ b. cond b (Some y) (submission h q)) w) ∙ is)) (bool_cases (same r q))
fits_is s (e ∷ h) q x l is = fits_is s h q x l.1 is

-- what is placed as a TIMEOUT was handed in so
pub placed_timeout : (before : Option Submitted) (e : Entry) → is_timeout (placed_behind before e).op ≡ true → placed_behind before e ≡ e
placed_timeout before e t = ⊎_elim
    (λ (w : (is_link_timeout e.op && not (hosts before)) ≡ true). absurd (true≢false (sym t ∙ ap (λ (b : Bool). is_timeout (cond b (record e { op = Invalid }) e).op) w)))
    (λ (w : (is_link_timeout e.op && not (hosts before)) ≡ false). ap (λ (b : Bool). cond b (record e { op = Invalid }) e) w)
    (bool_cases (is_link_timeout e.op && not (hosts before)))

-- what is noted of a TIMEOUT is its count, and of no other entry is there one
pub count_is : (op : Op) (n : ℕ) → count_in op ≡ Some n → is_timeout op ≡ true → n ≡ count_of op
count_is op n is t = let z = sym is ∙ ap (λ (b : Bool). cond b (Some (count_of op)) None) t in cc

pub no_count : (op : Op) → count_in op ≡ None → is_timeout op ≡ true → ⊥
no_count op is t = let z = sym is ∙ ap (λ (b : Bool). cond b (Some (count_of op)) None) t in cc
