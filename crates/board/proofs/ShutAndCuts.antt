-- The history after Shut and the Cuts of a report.
use Rattle.board.proofs.Common.{AllTell, AreLines, Bool, Completion, Cut, Event, IsCutOrNot, IsIdle, IsLeft, IsLine, IsListed, IsPending, IsReaped, Legal, List, Ordered, Phase, Req, Setup, Some, Tells, [], ap, arith, armed, bool_cases, born_once, by_cut, cond, counted, data_left, data_of, ended, false, inl, inr, negsuc, phase, reaped, refl, replied, reply_in, runs, same, same_false, same_itself, submission, submits, subst, sym, true, true≢false, unborn, waits, was_shut, ℕ, ℤ, ⊎_elim, ◌<◌, ◌∙◌, ◌∷◌, ◌≡◌, ◌⊎◌}
use Rattle.board.proofs.ReportLines.{unlisted_later}
use Rattle.board.proofs.Standings.{cut_shuts}

abbrev Lines : Type 0
Lines = List (Completion × Bool)

by_flag : (P : List Event → Type 0) (b : Bool) (g h : List Event) → (b ≡ true → P g) → (b ≡ false → P h) → P (cond b g h)
by_flag P true g h x y = x refl
by_flag P false g h x y = y refl

not_same : (r q : Req) → ¬ (r ≡ q) → same r q ≡ false
not_same r q n = same_false r q n

-- what a Cut of another request leaves alone
cut_phase : (r q : Req) (h : List Event) → ¬ (r ≡ q) → phase (Cut r ∷ h) q ≡ phase h q
cut_phase r q h n = ap (λ b. cond b (replied by_cut (negsuc 124)) (phase h q)) (not_same r q n)

cut_data : (r q : Req) (h : List Event) → ¬ (r ≡ q) → data_of (Cut r ∷ h) q ≡ data_of h q
cut_data r q h n = ap (λ b. cond b [] (data_of h q)) (not_same r q n)

was_cut : (r : Req) (h : List Event) → phase (Cut r ∷ h) r ≡ replied by_cut (negsuc 124)
was_cut r h = ap (λ b. cond b (replied by_cut (negsuc 124)) (phase h r)) (same_itself r)

no_data : (r : Req) (h : List Event) → data_of (Cut r ∷ h) r ≡ []
no_data r h = ap (λ b. cond b [] (data_of h r)) (same_itself r)

module _ (h : List Event) where
  pub ended_shut : (lines : Lines) → was_shut (ended lines h) ≡ true
  ended_shut [] = refl
  ended_shut (x ∷ lines) = by_flag (λ z. was_shut z ≡ true) x.1 _ _ (λ w. ended_shut lines) (λ w. ended_shut lines)

  pub ended_submission : (lines : Lines) (q : Req) → submission (ended lines h) q ≡ submission h q
  ended_submission [] q = refl
  ended_submission (x ∷ lines) q = by_flag (λ z. submission z q ≡ submission h q) x.1 _ _ (λ w. ended_submission lines q) (λ w. ended_submission lines q)

  pub ended_submits : (lines : Lines) (i : ℕ) → submits (ended lines h) i ≡ submits h i
  ended_submits [] i = omega arith
  ended_submits (x ∷ lines) i = let n = ended_submits lines i in by_flag (λ z. submits z i ≡ submits h i) x.1 _ _ (λ w. omega arith) (λ w. n)

  -- a request without a line stands as before
  pub ended_phase : (lines : Lines) (q : Req) → ¬ IsListed q lines → phase (ended lines h) q ≡ phase h q
  ended_phase [] q n = refl
  ended_phase (x ∷ lines) q n = let i = ended_phase lines q (λ l. n (inr l)) in by_flag (λ z. phase z q ≡ phase h q) x.1 _ _ (λ w. cut_phase x.0.req q (ended lines h) (λ e. n (inl e)) ∙ i) (λ w. i)

  pub ended_data : (lines : Lines) (q : Req) → ¬ IsListed q lines → data_of (ended lines h) q ≡ data_of h q
  ended_data [] q n = refl
  ended_data (x ∷ lines) q n = let i = ended_data lines q (λ l. n (inr l)) in by_flag (λ z. data_of z q ≡ data_of h q) x.1 _ _ (λ w. cut_data x.0.req q (ended lines h) (λ e. n (inl e)) ∙ i) (λ w. i)

  -- or it is cut off
  cut_or_stays : (r q : Req) (g : List Event) → (phase (Cut r ∷ g) q ≡ replied by_cut (negsuc 124)) ⊎ (phase (Cut r ∷ g) q ≡ phase g q)
  cut_or_stays r q g = ⊎_elim (λ (w : same r q ≡ true). inl (ap (λ b. cond b (replied by_cut (negsuc 124)) (phase g q)) w)) (λ (w : same r q ≡ false). inr (ap (λ b. cond b (replied by_cut (negsuc 124)) (phase g q)) w)) (bool_cases (same r q))

  pub ended_either : (lines : Lines) (q : Req) → (phase (ended lines h) q ≡ replied by_cut (negsuc 124)) ⊎ (phase (ended lines h) q ≡ phase h q)
  ended_either [] q = inr refl
  ended_either (x ∷ lines) q = let i = ended_either lines q in by_flag (λ z. (phase z q ≡ replied by_cut (negsuc 124)) ⊎ (phase z q ≡ phase h q)) x.1 _ _
      (λ w. ⊎_elim (λ e. inl e) (λ e. ⊎_elim (λ f. inl (e ∙ f)) (λ f. inr (e ∙ f)) i) (cut_or_stays x.0.req q (ended lines h))) (λ w. i)

idle_left : (p : Phase) → IsIdle p → IsLeft p
idle_left waits i = tt
idle_left (armed d) i = tt
idle_left unborn i = absurd i
idle_left runs i = absurd i
idle_left (replied c res) i = absurd i
idle_left (reaped c res) i = absurd i

idle_pending : (p : Phase) → IsIdle p → IsPending p
idle_pending waits i = tt
idle_pending (armed d) i = tt
idle_pending unborn i = absurd i
idle_pending runs i = absurd i
idle_pending (replied c res) i = absurd i
idle_pending (reaped c res) i = absurd i

line_left_by : (h : List Event) (r : Req) (res : ℤ) (b : Bool) → IsCutOrNot h r res b → IsLeft (phase h r)
line_left_by h r res true c = idle_left _ c.1
line_left_by h r res false c = subst IsLeft (sym c.1) tt

pub listed_left : (h : List Event) (lines : Lines) (r : Req) → AreLines h lines → IsListed r lines → IsLeft (phase h r)
listed_left h [] r a l = absurd l
listed_left h (x ∷ lines) r a (inl e) = subst (λ z. IsLeft (phase h z)) e (line_left_by h x.0.req x.0.cqe.res x.1 a.0.cut)
listed_left h (x ∷ lines) r a (inr l) = listed_left h lines r a.1 l

left_unreaped : (p : Phase) → IsLeft p → ¬ IsReaped p
left_unreaped (reaped c res) l r = l
left_unreaped p l r = r

left_born : (p : Phase) → IsLeft p → ¬ (p ≡ unborn)
left_born p l u = subst IsLeft u l

no_data_left : (h : List Event) (r : Req) (p : Phase) → IsIdle p → data_left h r p ≡ []
no_data_left h r waits i = refl
no_data_left h r (armed d) i = refl
no_data_left h r unborn i = absurd i
no_data_left h r runs i = absurd i
no_data_left h r (replied c res) i = absurd i
no_data_left h r (reaped c res) i = absurd i

module _ (s : Setup) (h : List Event) (legal : Legal s h) (live : was_shut h ≡ false) (still : (q : Req) → ¬ (phase h q ≡ runs)) where
  -- the Cuts of the lines are allowed after Shut
  pub ended_legal : (lines : Lines) → Ordered lines → AreLines h lines → Legal s (ended lines h)
  ended_legal [] o a = ((live, still), legal)
  ended_legal (x ∷ lines) o a = let i = ended_legal lines o.1 a.1 in by_flag (Legal s) x.1 _ _
      (λ w. ((ended_shut h lines, subst IsPending (sym (ended_phase h lines x.0.req (unlisted_later x.0.req lines o.0))) (idle_pending _ (subst (IsCutOrNot h x.0.req x.0.cqe.res) w a.0.cut).1)), i))
      (λ w. i)

  -- each line tells its request's reply, also after the Cuts of the others
  tells_on : (r : Req) (x : Completion × Bool) (g : List Event) → ¬ (r ≡ x.0.req) → Tells g x → Tells (Cut r ∷ g) x
  tells_on r x g n t =
      let p = cut_phase r x.0.req g n in let c = t.completion in record {
        completion = record {
          entry = c.entry;
          bytes = c.bytes;
          end_of_batch = c.end_of_batch;
          handed_in = c.handed_in;
          req_is = c.req_is;
          user_data = c.user_data;
          reply_is = ap reply_in p ∙ c.reply_is;
          buffer = c.buffer ∙ sym (ap (λ (d : List ℕ). Rattle.steps.specs.Cells.over d c.bytes) (cut_data r x.0.req g n));
        };
        cut = (λ w. p ∙ t.cut.0 w, λ e. t.cut.1 (sym p ∙ e));
      }

  all_on : (r : Req) (lines : Lines) (g : List Event) → ¬ IsListed r lines → AllTell g lines → AllTell (Cut r ∷ g) lines
  all_on r [] g n t = tt
  all_on r (x ∷ lines) g n t = (tells_on r x g (λ e. n (inl (sym e))) t.0, all_on r lines g (λ l. n (inr l)) t.1)

  tells_cut : (x : Completion × Bool) (g : List Event) → x.1 ≡ true → submission g x.0.req ≡ submission h x.0.req → IsLine h x → Tells (Cut x.0.req ∷ g) x
  tells_cut x g w sub l =
      let r : Req = x.0.req in let c = subst (IsCutOrNot h r x.0.cqe.res) w l.cut in let p = was_cut r g in record {
        completion = record {
          entry = l.entry;
          bytes = l.bytes;
          end_of_batch = l.end_of_batch;
          handed_in = sub ∙ l.handed_in;
          req_is = refl;
          user_data = l.user_data;
          reply_is = ap reply_in p ∙ ap Some (sym c.0);
          buffer = l.buffer ∙ ap (λ (d : List ℕ). Rattle.steps.specs.Cells.over d l.bytes) (no_data_left h r (phase h r) c.1 ∙ sym (no_data r g));
        };
        cut = (λ e. p, λ e. w);
      }

  tells_replied : (x : Completion × Bool) (g : List Event) → x.1 ≡ false → submission g x.0.req ≡ submission h x.0.req → phase g x.0.req ≡ phase h x.0.req → data_of g x.0.req ≡ data_of h x.0.req → IsLine h x → Tells g x
  tells_replied x g w sub p d l =
      let r : Req = x.0.req in let c = subst (IsCutOrNot h r x.0.cqe.res) w l.cut in record {
        completion = record {
          entry = l.entry;
          bytes = l.bytes;
          end_of_batch = l.end_of_batch;
          handed_in = sub ∙ l.handed_in;
          req_is = refl;
          user_data = l.user_data;
          reply_is = ap reply_in (p ∙ c.1);
          buffer = l.buffer ∙ ap (λ (z : List ℕ). Rattle.steps.specs.Cells.over z l.bytes) (ap (data_left h r) c.1 ∙ sym d);
        };
        cut = (λ e. absurd (true≢false (sym e ∙ w)), λ e. absurd (true≢false (sym (cut_shuts s h r (negsuc 124) legal (sym p ∙ e)) ∙ live)));
      }

  pub all_tell : (lines : Lines) → Ordered lines → AreLines h lines → AllTell (ended lines h) lines
  all_tell [] o a = tt
  all_tell (x ∷ lines) o a =
      let i = all_tell lines o.1 a.1 in let r : Req = x.0.req in let n : ¬ IsListed r lines = unlisted_later r lines o.0 in let sub = ended_submission h lines r in
      by_flag (λ z. Tells z x × AllTell z lines) x.1 (Cut r ∷ ended lines h) (ended lines h)
      (λ w. (tells_cut x (ended lines h) w sub a.0, all_on r lines (ended lines h) n i))
      (λ w. (tells_replied x (ended lines h) w sub (ended_phase h lines r n) (ended_data h lines r n) a.0, i))

  -- who was submitted has been reaped or has a line
  module _ (lines : Lines) (right : AreLines h lines) (listed : (r : Req) → IsLeft (phase h r) → IsListed r lines) where
    by_phase : (r : Req) (p : Phase) → phase h r ≡ p → r.k < submits h r.ring → IsReaped (phase (ended lines h) r) ⊎ IsListed r lines
    by_phase r unborn e lt = absurd (born_once s h r legal lt e)
    by_phase r runs e lt = absurd (still r e)
    by_phase r waits e lt = inr (listed r (subst IsLeft (sym e) tt))
    by_phase r (armed d) e lt = inr (listed r (subst IsLeft (sym e) tt))
    by_phase r (replied c res) e lt = inr (listed r (subst IsLeft (sym e) tt))
    by_phase r (reaped c res) e lt = inl (subst IsReaped (sym (ended_phase h lines r (λ l. subst IsLeft e (listed_left h lines r right l)) ∙ e)) tt)

    pub all_answered : (r : Req) → r.k < submits (ended lines h) r.ring → IsReaped (phase (ended lines h) r) ⊎ IsListed r lines
    all_answered r lt = by_phase r (phase h r) refl (subst (λ (z : ℕ). r.k < z) (ended_submits h lines r.ring) lt)

    pub listed_unreaped : (r : Req) → IsListed r lines → (r.k < submits (ended lines h) r.ring) × (¬ IsReaped (phase (ended lines h) r))
    listed_unreaped r l = let left = listed_left h lines r right l in (
      subst (λ (z : ℕ). r.k < z) (sym (ended_submits h lines r.ring)) (counted s h r legal (left_born _ left)),
      λ u. ⊎_elim (λ e. subst IsReaped e u) (λ e. left_unreaped _ left (subst IsReaped e u)) (ended_either h lines r),
    )
