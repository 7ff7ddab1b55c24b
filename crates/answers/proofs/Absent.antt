-- What an operation answers that is answered from no pipe of the board.
use Rattle.history.proofs.PipeAnswers.{answer_none}
use Rattle.answers.proofs.Common.{AsyncCancel, Event, Invalid, LinkTimeout, List, Nop, Op, OpAnswers, Req, Timeout, TimeoutRemove, UsesNone, [], cases_Bool, false, flow, is_pipe, is_plain, length, ltb-true, refl, reply_without, sym, true, true≢false, ℕ, ⊎_elim, ◌<◌, ◌∙◌, ◌≡◌}

-- a pipe that is none of the board's
pub not_there : (caps : List ℕ) (q : ℕ) → (q < length caps → ⊥) → is_pipe caps q ≡ false
not_there caps q n = ⊎_elim (λ (t : is_pipe caps q ≡ true). absurd (n (ltb-true q (length caps) t))) (λ (t : is_pipe caps q ≡ false). t) (cases_Bool (is_pipe caps q))

-- the table answers so what is no cancel and no timer
pub answers_off : (caps : List ℕ) (h : List Event) (r : Req) (op : Op) → is_plain op ≡ true → UsesNone op (length caps) → OpAnswers caps h r op (reply_without op) []
answers_off caps h r Nop y n = refl
answers_off caps h r Invalid y n = refl
answers_off caps h r (Timeout ticks etime_success count) y n = absurd (true≢false (sym y))
answers_off caps h r (LinkTimeout ticks) y n = absurd (true≢false (sym y))
answers_off caps h r (AsyncCancel user_data all) y n = absurd (true≢false (sym y))
answers_off caps h r (TimeoutRemove user_data) y n = absurd (true≢false (sym y))
answers_off caps h r op y n = answer_none caps (flow h) op (λ q u. not_there caps q (λ lt. true≢false (sym u ∙ n q lt)))
