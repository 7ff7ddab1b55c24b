-- Numbers that a worker's desk moves, however they are counted.
use Rattle.runtime.specs.WorkTurns.{Desk}
use Rattle.runtime.proofs.Common.{List, Moves, PutsBack, Req, Shifts, [], ap, append-nil, append_assoc, arith, subst, sum_by, sum_by-append, sum_by-cons, sum_by_push, sym, ◌++◌, ◌∙◌, ◌∷◌, ◌≡◌}

puts_then : (x y z : Moves) (ps ts qs us : List Req) → y ≡ record x { put = x.put ++ ps; taken = x.taken ++ ts } → z ≡ record y { put = y.put ++ qs; taken = y.taken ++ us } → z ≡ record x { put = x.put ++ (ps ++ qs); taken = x.taken ++ (ts ++ us) }
puts_then x y z ps ts qs us a b = b ∙ (ap (λ (w : Moves). record w { put = w.put ++ qs; taken = w.taken ++ us }) a ∙ (λ i. record x { put = append_assoc x.put ps qs i; taken = append_assoc x.taken ts us i }))

-- two parts, one after the other
pub shifts_then : (d e f : Desk) (g1 o1 g2 o2 : List Req) → Shifts d g1 o1 e → Shifts e g2 o2 f → Shifts d (g1 ++ g2) (o1 ++ o2) f
shifts_then d e f g1 o1 g2 o2 x y = record {
  puts = x.puts ++ y.puts;
  takes = x.takes ++ y.takes;
  ready = puts_then d.ready e.ready f.ready x.puts x.takes y.puts y.takes x.ready y.ready;
  numbers = λ h. let a = x.numbers h in let b = y.numbers h in
      omega (arith, a, b, sum_by-append h x.puts y.puts, sum_by-append h x.takes y.takes, sum_by-append h g1 g2, sum_by-append h o1 o2);
}

-- a number was taken from the queue, or from those that are kept
pub shifts_taken : (d e : Desk) (r : Req) → e.ready ≡ record d.ready { taken = d.ready.taken ++ r ∷ [] } → e.kept ≡ d.kept → Shifts d [] (r ∷ []) e
shifts_taken d e r is kept = record {
  puts = [];
  takes = r ∷ [];
  ready = is ∙ ap (λ (l : List Req). record d.ready { put = l; taken = d.ready.taken ++ r ∷ [] }) (sym (append-nil d.ready.put));
  numbers = λ h. let k : sum_by h e.kept ≡ sum_by h d.kept = ap (sum_by h) kept in omega (arith, k, sum_by-cons h r []);
}

-- the oldest of those that are kept was given out
pub shifts_out : (d e : Desk) (r : Req) → e.ready ≡ d.ready → d.kept ≡ r ∷ e.kept → Shifts d [] (r ∷ []) e
shifts_out d e r same kept = record {
  puts = [];
  takes = [];
  ready = same ∙ (λ i. record d.ready { put = sym (append-nil d.ready.put) i; taken = sym (append-nil d.ready.taken) i });
  numbers = λ h. let k : sum_by h d.kept ≡ sum_by h (r ∷ e.kept) = ap (sum_by h) kept in omega (arith, k, sum_by-cons h r e.kept, sum_by-cons h r []);
}

-- numbers that were given went beside the others
pub shifts_kept : (d e : Desk) (ws : List Req) → e ≡ record d { kept = d.kept ++ ws } → Shifts d ws [] e
shifts_kept d e ws is = subst (Shifts d ws []) (sym is) (record {
  puts = [];
  takes = [];
  ready = λ i. record d.ready { put = sym (append-nil d.ready.put) i; taken = sym (append-nil d.ready.taken) i };
  numbers = λ h. omega (arith, sum_by-append h d.kept ws);
})

-- numbers were put back, and none was taken
pub shifts_put : (d e : Desk) → PutsBack d e → Shifts d [] [] e
shifts_put d e x = record {
  puts = x.puts;
  takes = [];
  ready = x.ready ∙ ap (λ (l : List Req). record d.ready { put = d.ready.put ++ x.puts; taken = l }) (sym (append-nil d.ready.taken));
  numbers = λ h. let a = x.numbers h in omega (arith, a);
}

-- a number that was given out and given again
pub shifts_back : (d e : Desk) (ws : List Req) (r : Req) → Shifts d (ws ++ r ∷ []) (r ∷ []) e → Shifts d ws [] e
shifts_back d e ws r x = record { puts = x.puts; takes = x.takes; ready = x.ready; numbers = λ h. let a = x.numbers h in omega (arith, a, sum_by_push h ws r, sum_by-cons h r []) }

-- the numbers of a turn that tried one: what was kept was put, the number was taken out, what its run took along was kept, and put
pub shifts_tried : (d a b c e : Desk) (r : Req) (ws : List Req) → PutsBack d a → Shifts a [] (r ∷ []) b → c ≡ record b { kept = b.kept ++ ws } → PutsBack c e → Shifts d ws (r ∷ []) e
shifts_tried d a b c e r ws first out kept last =
    let taken = shifts_then d a b [] [] [] (r ∷ []) (shifts_put d a first) out in
    let along = shifts_then d b c [] (r ∷ []) ws [] taken (shifts_kept b c ws kept) in
    subst (λ (l : List Req). Shifts d l (r ∷ []) e) (append-nil ws) (shifts_then d c e ws (r ∷ []) [] [] along (shifts_put c e last))

-- and the number was kept, to be tried again
pub shifts_again : (d e f : Desk) (r : Req) (ws : List Req) → Shifts d ws (r ∷ []) e → f ≡ record e { kept = e.kept ++ r ∷ [] } → Shifts d ws [] f
shifts_again d e f r ws tried kept = shifts_back d f ws r (shifts_then d e f ws (r ∷ []) (r ∷ []) [] tried (shifts_kept e f (r ∷ []) kept))

-- the same of a desk that has other places
pub back_same : (d a b : Desk) → PutsBack d a → (b.ready ≡ a.ready) × (b.kept ≡ a.kept) → PutsBack d b
back_same d a b x same = record {
  puts = x.puts;
  ready = same.0 ∙ x.ready;
  numbers = λ h. let k = x.numbers h in let l : sum_by h b.kept ≡ sum_by h a.kept = ap (sum_by h) same.1 in omega (arith, k, l);
}
