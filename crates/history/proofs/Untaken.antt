-- No data came with a request that was not answered.
use Rattle.history.proofs.Common.{Count, Cut, Event, Expire, Fire, IsReplied, Legal, List, Reply, Req, Settle, Setup, Sever, Take, [], answers, ap, cond, data_in, data_of, false, phase, refl, sym, true, true≢false, ⊎_elim, ◌∙◌, ◌∷◌, ◌≡◌}
use Rattle.history.proofs.Requests.{bool_cases}
use Rattle.history.proofs.Growth.{replied_stays}

answers_replied : (h : List Event) (e : Event) (q : Req) → answers e q ≡ true → IsReplied (phase (e ∷ h) q)
answers_replied h (Reply r res bs) q w = rw w tt
answers_replied h (Take c t) q w = rw w tt
answers_replied h (Expire r) q w = rw w tt
answers_replied h (Count r) q w = rw w tt
answers_replied h (Fire l t) q w = rw w tt
answers_replied h (Settle l) q w = rw w tt
answers_replied h (Sever r) q w = rw w tt
answers_replied h (Cut r) q w = rw w tt
answers_replied h e q w = absurd (true≢false (sym w))

pub untaken : (s : Setup) (h : List Event) (q : Req) → Legal s h → ¬ IsReplied (phase h q) → data_of h q ≡ []
untaken s [] q l n = refl
untaken s (e ∷ h) q l n = ⊎_elim
    (λ (w : answers e q ≡ true). absurd (n (answers_replied h e q w)))
    (λ (w : answers e q ≡ false). ap (λ b. cond b (data_in e) (data_of h q)) w ∙ untaken s h q l.1 (λ r. n (replied_stays s e h q l.1 l.0.1 r)))
    (bool_cases (answers e q))
