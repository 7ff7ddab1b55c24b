-- What a client's calls make of what it has carried out and taken.
use Rattle.std.proofs.Math.ListN.{get_or-append}
use Rattle.std.proofs.lemmas.Bool.Decides.{nat_tests}
use Rattle.entry.specs.Entry.{Entry}
use Rattle.history.specs.History.{Phase}
use Rattle.history.proofs.Requests.{bool_cases}
use Rattle.history.proofs.Growth.{MayChange, may_change, counted, replied_of_reply, reply_stays, submission_stays}
use Rattle.steps.specs.declared.line.Line.TheVariants.{Did, Freed, Lent, Noted, Hold, Free}
use Rattle.steps.specs.Rule.{owns, NoneOf}
use Rattle.board.specs.{Entries, is_empty, submits_of, nth}
use Rattle.script_run.proofs.Common.{Act, AreEntries, AreTaken, Bool, Completion, Event, HasCarried, IsCompletion, IsEntryAt, IsReplied, Legal, Line, List, Req, Role, Script, Setup, Some, Submit, Submitter, Vec, [], adds_to, answers, ap, arith, carried_on, concerns, cond, data_in, data_of, drop, drop-cons, event_of, events_of, false, get_or, get_or-append_seam, hands_next, length, length-append, none-some, own_of, phase, reaped, refl, replied, slice_get, slice_index, submits, subst, suc, sym, true, true≢false, unborn, zero, ℕ, ⊎_elim, ◌++◌, ◌+◌, ◌<◌, ◌==◌, ◌∙◌, ◌∷◌, ◌≡◌, ◌≤◌}

-- ---- a completion stays one

answers_concern : (e : Event) (q : Req) → answers e q ≡ true → concerns e q ≡ true
answers_concern (Event.Reply r res data') q w = w
answers_concern (Event.Take c t) q w = w
answers_concern (Event.Expire r) q w = w
answers_concern (Event.Count r) q w = w
answers_concern (Event.Fire l t) q w = w
answers_concern (Event.Settle l) q w = w
answers_concern (Event.Sever r) q w = w
answers_concern (Event.Cut r) q w = w
answers_concern e q w = absurd (true≢false (sym w))

no_answer : (p : Phase) (e : Event) (q : Req) → IsReplied p → MayChange p e → answers e q ≡ false
no_answer (replied c res) (Event.Reap r) q i m = refl
no_answer (replied c res) e q i m = absurd m
no_answer (reaped c res) e q i m = absurd m
no_answer _ e q i m = absurd i

-- the data of an answered request stay
pub data_lasts : (s : Setup) (e : Event) (h : List Event) (q : Req) → Legal s (e ∷ h) → IsReplied (phase h q) → data_of (e ∷ h) q ≡ data_of h q
data_lasts s e h q l i = ap (λ (b : Bool). cond b (data_in e) (data_of h q)) (⊎_elim
    (λ (w : answers e q ≡ true). no_answer (phase h q) e q i (may_change s e h q l.1 l.0.1 (answers_concern e q w)))
    (λ (w : answers e q ≡ false). w) (bool_cases (answers e q)))

not_unborn : (p : Phase) → IsReplied p → ¬ (p ≡ unborn)
not_unborn p i e = subst IsReplied e i

pub completion_lasts : (s : Setup) (e : Event) (h : List Event) (r : Req) (x : Completion) → Legal s (e ∷ h) → IsCompletion h r x → IsCompletion (e ∷ h) r x
completion_lasts s e h r x l k =
    let i : IsReplied (phase h r) = replied_of_reply s (phase h r) x.cqe.res k.reply_is in
    let born : r.k < submits h r.ring = counted s h r l.1 (not_unborn (phase h r) i) in
    record {
      entry = k.entry;
      bytes = k.bytes;
      end_of_batch = k.end_of_batch;
      handed_in = submission_stays s e h r l.0.1 born ∙ k.handed_in;
      req_is = k.req_is;
      user_data = k.user_data;
      reply_is = reply_stays s e h r x.cqe.res l.1 l.0.1 k.reply_is;
      buffer = k.buffer ∙ ap (λ (d : List ℕ). d ++ drop (length d) k.bytes) (sym (data_lasts s e h r l i));
    }

pub all_taken : (s : Setup) (e : Event) (h : List Event) (xs : List Completion) → Legal s (e ∷ h) → AreTaken h xs → AreTaken (e ∷ h) xs
all_taken s e h [] l k = tt
all_taken s e h (x ∷ xs) l k = (completion_lasts s e h x.req x l k.0, all_taken s e h xs l k.1)

pub taken_by_line : (s : Setup) (later seen : List Line) (xs : List Completion) → Legal s (events_of (later ++ seen)) → AreTaken (events_of seen) xs → AreTaken (events_of (later ++ seen)) xs
taken_by_line s [] seen xs l k = k
taken_by_line s (Did e ∷ later) seen xs l k = all_taken s e (events_of (later ++ seen)) xs l (taken_by_line s later seen xs l.1 k)
taken_by_line s (_ ∷ later) seen xs l k = taken_by_line s later seen xs l k

pub taken_more : (h : List Event) (xs : List Completion) (x : Completion) → AreTaken h xs → IsCompletion h x.req x → AreTaken h (xs ++ x ∷ [])
taken_more h [] x k i = (i, tt)
taken_more h (y ∷ xs) x k i = (k.0, taken_more h xs x k.1 i)

-- ---- what others do, and what it reaps, leaves it where it is

foreign : (i : ℕ) (e : Event) → owns (Submitter i) (Did e) ≡ false → adds_to e i ≡ 0
foreign i (Event.Submit r e bytes last) n = grind (arith, nat_tests)
foreign i _ n = refl

zero_sum : (b : Bool) (i : ℕ) (e : Event) (own : List Event) → (b ≡ false → adds_to e i ≡ 0) → submits (cond b (e ∷ own) own) i ≡ 0 → (adds_to e i ≡ 0) × (submits own i ≡ 0)
zero_sum true i e own f z = (omega arith, omega arith)
zero_sum false i e own f z = (f refl, z)

both_same : (b : Bool) (own : List Event) → cond b own own ≡ own
both_same true own = refl
both_same false own = refl

pub carried_by : (c : Script) (s : Setup) (i : ℕ) (acts : List Act) (n : ℕ) (later seen : List Line) → Legal s (events_of (later ++ seen)) → submits (own_of (Submitter i) later) i ≡ 0 → HasCarried c i acts n (events_of seen) → HasCarried c i acts n (events_of (later ++ seen))
carried_by c s i acts n [] seen l z k = k
carried_by c s i acts n (Did e ∷ later) seen l z k =
    let w = zero_sum (owns (Submitter i) (Did e)) i e (own_of (Submitter i) later) (foreign i e) z in
    carried_on c s i acts n e (events_of (later ++ seen)) l w.0 (carried_by c s i acts n later seen l.1 w.1 k)
carried_by c s i acts n (Freed r ∷ later) seen l z k = carried_by c s i acts n later seen l (ap (λ h. submits h i) (sym (both_same (owns (Submitter i) (Freed r)) (own_of (Submitter i) later))) ∙ z) k
carried_by c s i acts n (Lent r word value ∷ later) seen l z k = carried_by c s i acts n later seen l (ap (λ h. submits h i) (sym (both_same (owns (Submitter i) (Lent r word value)) (own_of (Submitter i) later))) ∙ z) k
carried_by c s i acts n (Noted r word value ∷ later) seen l z k = carried_by c s i acts n later seen l (ap (λ h. submits h i) (sym (both_same (owns (Submitter i) (Noted r word value)) (own_of (Submitter i) later))) ∙ z) k
carried_by c s i acts n (Hold r p ∷ later) seen l z k = carried_by c s i acts n later seen l (ap (λ h. submits h i) (sym (both_same (owns (Submitter i) (Hold r p)) (own_of (Submitter i) later))) ∙ z) k
carried_by c s i acts n (Free r p laid ∷ later) seen l z k = carried_by c s i acts n later seen l (ap (λ h. submits h i) (sym (both_same (owns (Submitter i) (Free r p laid)) (own_of (Submitter i) later))) ∙ z) k

none_own : (role : Role) (later : List Line) → NoneOf role later → own_of role later ≡ []
none_own role [] n = refl
none_own role (l ∷ later) n = ap (λ (b : Bool). cond b (event_of l (own_of role later)) (own_of role later)) n.0 ∙ none_own role later n.1

pub carried_without : (c : Script) (s : Setup) (i : ℕ) (acts : List Act) (n : ℕ) (later seen : List Line) → Legal s (events_of (later ++ seen)) → NoneOf (Submitter i) later → HasCarried c i acts n (events_of seen) → HasCarried c i acts n (events_of (later ++ seen))
carried_without c s i acts n later seen l none k = carried_by c s i acts n later seen l (ap (λ h. submits h i) (none_own (Submitter i) later none)) k

-- ---- the Submits of a batch, the newest first

submits_long : (i k : ℕ) (xs : Entries) → length (submits_of i k xs) ≡ length xs
submits_long i k [] = refl
submits_long i k (x ∷ xs) = let a = length-append (submits_of i (suc k) xs) (Event.Submit (nth i k) x.0 x.1.items (is_empty xs) ∷ []) in let b = submits_long i (suc k) xs in omega arith

-- the entry at n of a batch
abbrev HasAt : ℕ → ℕ → Entries → ℕ → Event → Type 0
HasAt i k xs n e = (x : Entry × Vec ℕ) × (slice_get xs n ≡ Some x) × (e ≡ Event.Submit (nth i (k + n)) x.0 x.1.items (n + 1 == length xs))

is_last : (xs : Entries) → is_empty xs ≡ (0 + 1 == suc (length xs))
is_last [] = refl
is_last (x ∷ xs) = grind (arith, nat_tests)

submit_at : (i k : ℕ) (xs : Entries) (m n : ℕ) (d : Event) → n + suc m ≡ length xs → HasAt i k xs n (get_or (submits_of i k xs) m d)
submit_at i k [] m n d e = absurd (omega arith)
submit_at i k (x ∷ xs) m zero d e =
    let long = submits_long i (suc k) xs in
    let here : m ≡ length (submits_of i (suc k) xs) = omega arith in
    let a : Event = Event.Submit (nth i k) x.0 x.1.items (is_empty xs) in (
      x,
      refl,
      ap (λ (z : ℕ). get_or (submits_of i (suc k) xs ++ a ∷ []) z d) here ∙ (get_or-append_seam (submits_of i (suc k) xs) a [] d
          ∙ (λ j. Event.Submit (nth i (add-none j)) x.0 x.1.items (is_last xs j))),
    ) where
      add-none : k ≡ k + 0
      add-none = omega arith
submit_at i k (x ∷ xs) m (suc n) d e =
    let long = submits_long i (suc k) xs in
    let a : Event = Event.Submit (nth i k) x.0 x.1.items (is_empty xs) in
    let r = submit_at i (suc k) xs m n d (omega arith) in
    (r.0, r.1, get_or-append (submits_of i (suc k) xs) (a ∷ []) d m (omega arith) ∙ (r.2 ∙ (λ j. Event.Submit (nth i (moved j)) r.0.0 r.0.1.items (flag j)))) where
      moved : suc k + n ≡ k + suc n
      moved = omega arith

      flag : (n + 1 == length xs) ≡ (suc n + 1 == suc (length xs))
      flag = grind (arith, nat_tests)

nil_cons : {X : Type 0} → (x : X) (xs : List X) → [] ≡ x ∷ xs → ⊥
nil_cons x xs e = cc

drop_short : (S : List Event) (m : ℕ) (e : Event) (t : List Event) → drop m S ≡ e ∷ t → m < length S
drop_short [] zero e t q = absurd (nil_cons e t q)
drop_short [] (suc m) e t q = absurd (nil_cons e t q)
drop_short (x ∷ S) zero e t q = omega arith
drop_short (x ∷ S) (suc m) e t q = let i = drop_short S m e t q in omega arith

drop_none : (S : List Event) (m : ℕ) → drop m S ≡ [] → length S ≤ m
drop_none [] m q = omega arith
drop_none (x ∷ S) zero q = absurd (nil_cons x S (sym q))
drop_none (x ∷ S) (suc m) q = let i = drop_none S m q in omega arith

-- places and entries go side by side
entry_at : (c : Script) (ps : List ℕ) (xs : Entries) → AreEntries c ps xs → (length ps ≡ length xs) × ((n : ℕ) (x : Entry × Vec ℕ) → slice_get xs n ≡ Some x → IsEntryAt c (slice_index ps n) x)
entry_at c [] [] a = (refl, λ n x e. absurd (nothing n x e)) where
  nothing : (n : ℕ) (x : Entry × Vec ℕ) → slice_get (let z : Entries = [] in z) n ≡ Some x → ⊥
  nothing zero x e = none-some x e
  nothing (suc n) x e = none-some x e
entry_at c [] (x ∷ xs) a = absurd a
entry_at c (p ∷ ps) [] a = absurd a
entry_at c (p ∷ ps) (x ∷ xs) a =
    let r = entry_at c ps xs a.1 in
    (ap suc r.0, λ n y e. at n y e r.1) where
      at : (n : ℕ) (y : Entry × Vec ℕ) → slice_get (x ∷ xs) n ≡ Some y → ((n : ℕ) (x : Entry × Vec ℕ) → slice_get xs n ≡ Some x → IsEntryAt c (slice_index ps n) x) → IsEntryAt c (slice_index (p ∷ ps) n) y
      at zero y e more = let same : x ≡ y = cc in subst (IsEntryAt c p) same a.0
      at (suc n) y e more = more n y e

pub entries_more : (c : Script) (ps : List ℕ) (p : ℕ) (xs : Entries) (x : Entry × Vec ℕ) → AreEntries c ps xs → IsEntryAt c p x → AreEntries c (ps ++ p ∷ []) (xs ++ x ∷ [])
entries_more c [] p [] x a i = (i, tt)
entries_more c [] p (y ∷ xs) x a i = absurd a
entries_more c (q ∷ ps) p [] x a i = absurd a
entries_more c (q ∷ ps) p (y ∷ xs) x a i = (a.0, entries_more c ps p xs x a.1 i)

module _ (c : Script) (s : Setup) (i k : ℕ) (v : Vec Act) (acts left : List Act) (places : Vec ℕ) (xs : Entries) (seen : List Line) (at : slice_get c.acts.items i ≡ Some v) (lines : v.items ≡ acts ++ Submit places ∷ left) (are : AreEntries c places.items xs) where
  abbrev S : List Event
  S = submits_of i k xs

  -- one of its own, which is that of the next place
  next_handed : (e : Event) (own : List Event) (later : List Line) (m n : ℕ) → n + m ≡ length xs → Legal s (e ∷ events_of (later ++ seen)) → e ∷ own ≡ drop m S
      → ((n' : ℕ) → n' + suc m ≡ length xs → own ≡ drop (suc m) S → HasCarried c i acts n' (events_of (later ++ seen))) → HasCarried c i acts n (e ∷ events_of (later ++ seen))
  next_handed e own later m zero sum l q more = absurd (let lt = drop_short S m e own (sym q) in let long = submits_long i k xs in omega arith)
  next_handed e own later m (suc n) sum l q more =
      let lt : m < length S = drop_short S m e own (sym q) in
      let parts : e ∷ own ≡ get_or S m e ∷ drop (suc m) S = q ∙ drop-cons S m e lt in
      let head : e ≡ get_or S m e = cc in
      let tail : own ≡ drop (suc m) S = cc in
      let x = submit_at i k xs m n e (omega arith) in
      let both = entry_at c places.items xs are in
      let long : length places.items ≡ length xs = both.0 in
      let y = both.1 n x.0 x.1 in
      let flag : (n + 1 == length xs) ≡ (n + 1 == length places.items) = ap (λ (z : ℕ). n + 1 == z) (sym long) in
      let is : e ≡ Event.Submit (nth i (k + n)) y.0.sqe y.0.buffer.items (n + 1 == length places.items) = head ∙ (x.2 ∙ (λ j. Event.Submit (nth i (k + n)) (y.2 j) (y.3 j) (flag j))) in
      let old : HasCarried c i acts n (events_of (later ++ seen)) = more n (omega arith) tail in
      let new = hands_next c s i v acts left places n (nth i (k + n)) y.0 (n + 1 == length places.items) (events_of (later ++ seen)) at lines (omega arith) y.1 refl refl (subst (λ (z : Event). Legal s (z ∷ events_of (later ++ seen))) is l) old in
      subst (λ (z : Event). HasCarried c i acts (suc n) (z ∷ events_of (later ++ seen))) (sym is) (subst (λ (z : ℕ). HasCarried c i acts z (Event.Submit (nth i (k + n)) y.0.sqe y.0.buffer.items (n + 1 == length places.items) ∷ events_of (later ++ seen))) (let z : n + 1 ≡ suc n = omega arith in z) new)

  -- this many of the entries are handed in by these lines
  handed_by : (later : List Line) (m n : ℕ) → n + m ≡ length xs → Legal s (events_of (later ++ seen)) → own_of (Submitter i) later ≡ drop m S → HasCarried c i acts 0 (events_of seen) → HasCarried c i acts n (events_of (later ++ seen))
  handed_by [] m n sum l q carried = let le = drop_none S m (sym q) in let long = submits_long i k xs in subst (λ (z : ℕ). HasCarried c i acts z (events_of seen)) (let z : 0 ≡ n = omega arith in z) carried
  handed_by (Did e ∷ later) m n sum l q carried = ⊎_elim
      (λ (w : owns (Submitter i) (Did e) ≡ true). next_handed e (own_of (Submitter i) later) later m n sum l (ap (λ (b : Bool). cond b (e ∷ own_of (Submitter i) later) (own_of (Submitter i) later)) (sym w) ∙ q) (λ n' sum' q'. handed_by later (suc m) n' sum' l.1 q' carried))
      (λ (w : owns (Submitter i) (Did e) ≡ false). carried_on c s i acts n e (events_of (later ++ seen)) l (foreign i e w) (handed_by later m n sum l.1 (ap (λ (b : Bool). cond b (e ∷ own_of (Submitter i) later) (own_of (Submitter i) later)) (sym w) ∙ q) carried))
      (bool_cases (owns (Submitter i) (Did e)))
  handed_by (Freed r ∷ later) m n sum l q carried = handed_by later m n sum l (sym (both_same (owns (Submitter i) (Freed r)) (own_of (Submitter i) later)) ∙ q) carried
  handed_by (Lent r word value ∷ later) m n sum l q carried = handed_by later m n sum l (sym (both_same (owns (Submitter i) (Lent r word value)) (own_of (Submitter i) later)) ∙ q) carried
  handed_by (Noted r word value ∷ later) m n sum l q carried = handed_by later m n sum l (sym (both_same (owns (Submitter i) (Noted r word value)) (own_of (Submitter i) later)) ∙ q) carried
  handed_by (Hold r p ∷ later) m n sum l q carried = handed_by later m n sum l (sym (both_same (owns (Submitter i) (Hold r p)) (own_of (Submitter i) later)) ∙ q) carried
  handed_by (Free r p laid ∷ later) m n sum l q carried = handed_by later m n sum l (sym (both_same (owns (Submitter i) (Free r p laid)) (own_of (Submitter i) later)) ∙ q) carried

  -- all of them are
  pub batch_handed : (later : List Line) → Legal s (events_of (later ++ seen)) → own_of (Submitter i) later ≡ S → HasCarried c i acts 0 (events_of seen) → HasCarried c i acts (length places.items) (events_of (later ++ seen))
  batch_handed later l q carried = let both = entry_at c places.items xs are in let long : length places.items ≡ length xs = both.0 in handed_by later 0 (length places.items) (omega arith) l q carried
