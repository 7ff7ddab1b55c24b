-- What a cancel has come to, and what it replies by that.
use Rattle.model.proofs.Common.{AllTried, Bool, CancelAnswers, CancelBy, Catch, Event, Hit, List, NoneLeft, Req, [], answer_all, answer_one, answers_one, ap, arith, bool_cases, catch_in, common_steps, cond, false, is_none, later, nat_lt, negsuc, none_yet, nothing, now, one_answer, one_answers, pos, refl, subst, sym, taken_count_in, true, true≢false, uncaught, ℕ, ℤ, ⊎_elim, ◌∙◌, ◌≡◌}

none_is : (x : Catch) → is_none x ≡ true → x ≡ none_yet
none_is = grind (arith, common_steps)

pub none_from : (x : Hit) → is_none (catch_in x) ≡ true → x ≡ nothing
none_from x w = uncaught x (none_is (catch_in x) w)

pub none_by : (x : Hit) → x ≡ nothing → is_none (catch_in x) ≡ true
none_by x e = ap (λ (z : Hit). is_none (catch_in z)) e

same_reply : (a b : ℤ) (ds bs : List ℕ) → now a ds ≡ now b bs → (b ≡ a) × (bs ≡ ds)
same_reply a b ds bs e = (cc, cc)

no_reply : (b : ℤ) (bs : List ℕ) → later ≡ now b bs → ⊥
no_reply b bs e = cc

-- of a cancel of one target, which has done something
done_reply : (x : Catch) (left : Bool) → is_none x ≡ false → answer_one x left ≡ now (one_answer x.ended) []
done_reply x left w = (rw w refl) ∙ elim (nat_lt 0 x.ended) as (λ b. cond b (now (pos 0) []) (now (negsuc 113) []) ≡ now (cond b (pos 0) (negsuc 113)) []) [ true ↦ refl | false ↦ refl ]

module _ (h : List Event) (c : Req) where
  nothing_by : (left : Bool) (res : ℤ) (bs : List ℕ) → (left ≡ false → NoneLeft h c) → answer_one none_yet left ≡ now res bs → CancelAnswers h c nothing res × (bs ≡ [])
  nothing_by = grind (arith, common_steps, no_reply, same_reply)

  nothing_from : (left : Bool) (res : ℤ) → (NoneLeft h c → left ≡ false) → CancelAnswers h c nothing res → answer_one none_yet left ≡ now res []
  nothing_from left res f a = ap (answer_one none_yet) (f a.1) ∙ ap (λ z. now z []) (sym a.0)

  some_done : (x : Hit) → is_none (catch_in x) ≡ false → ¬ (x ≡ nothing)
  some_done x w e = true≢false (sym (none_by x e) ∙ w)

  pub one_by : (x : Hit) (left : Bool) (res : ℤ) (bs : List ℕ) → (left ≡ false → NoneLeft h c) → answer_one (catch_in x) left ≡ now res bs → CancelAnswers h c x res × (bs ≡ [])
  one_by x left res bs f e = ⊎_elim
      (λ (w : is_none (catch_in x) ≡ true). let n = none_from x w in
      subst (λ (z : Hit). CancelAnswers h c z res × (bs ≡ [])) (sym n) (nothing_by left res bs f (sym (ap (λ (z : Hit). answer_one (catch_in z) left) n) ∙ e)))
      (λ (w : is_none (catch_in x) ≡ false). let s = same_reply _ res _ bs (sym (done_reply (catch_in x) left w) ∙ e) in
      (one_answers h c x res (some_done x w) (s.0 ∙ ap one_answer (taken_count_in x)), s.1))
      (bool_cases (is_none (catch_in x)))

  pub one_from : (x : Hit) (left : Bool) (res : ℤ) → (NoneLeft h c → left ≡ false) → CancelAnswers h c x res → answer_one (catch_in x) left ≡ now res []
  one_from x left res f a = ⊎_elim
      (λ (w : is_none (catch_in x) ≡ true). let n = none_from x w in
      ap (λ (z : Hit). answer_one (catch_in z) left) n ∙ nothing_from left res f (subst (λ (z : Hit). CancelAnswers h c z res) n a))
      (λ (w : is_none (catch_in x) ≡ false).
      done_reply (catch_in x) left w ∙ ap (λ n. now (one_answer n) []) (taken_count_in x) ∙ ap (λ z. now z []) (sym (answers_one h c x res (some_done x w) a)))
      (bool_cases (is_none (catch_in x)))

  pub all_by : (x : Hit) (left : Bool) (res : ℤ) (bs : List ℕ) → (left ≡ false → AllTried h c x) → answer_all (catch_in x) left ≡ now res bs → CancelBy true h c x res × (bs ≡ [])
  all_by = grind (arith, common_steps, no_reply, same_reply, taken_count_in)

  pub all_from : (x : Hit) (left : Bool) (res : ℤ) → (AllTried h c x → left ≡ false) → CancelBy true h c x res → answer_all (catch_in x) left ≡ now res []
  all_from x left res f a = ap (answer_all (catch_in x)) (f a.1) ∙ ap (λ n. now (pos n) []) (taken_count_in x) ∙ ap (λ z. now z []) (sym a.0)
