-- What a cancel means and what it replies, by what it has come to so far.
use Rattle.std.specs.Prelude.{ℕ, ◌==◌, ◌&&◌, not, nat_lt, Bool, false, cond, pos, negsuc, List, [], length, Option, Some, None, slice_get}
use Rattle.std.specs.List.{list_any}
use Rattle.entry.specs.Entry.{Entry}
use Rattle.entry.specs.declared.op.Op.{Op}
use Rattle.model.specs.declared.request.Request.{Request}
use Rattle.history.specs.{Catch, Answer, now, later, is_all}
use Rattle.model.specs.Seen.{stage_at, found_in, placed_in}
use Rattle.model.specs.Decides.{any_below, wanted}
use Rattle.model.specs.Moves.{is_running, is_idle}

-- it has ended none, and found none running
abbrev pub is_none : Catch → Bool
is_none x = (x.ended == 0) && (length x.escaped == 0)

-- it has found the request k running
abbrev pub is_escaped : Catch → ℕ → Bool
is_escaped x k = list_any (λ m. m == k) x.escaped

-- a cancel of this operation means it, which was not answered and has not escaped
abbrev pub untried : List Request → Op → Catch → ℕ → Bool
untried xs op x m = wanted xs op m && not (is_escaped x m)

-- a cancel of all means each match once; another one the first alone, and only as long as it has done nothing
abbrev pub aims_at : Bool → List Request → Op → Catch → ℕ → Bool
aims_at all xs op x t = cond all (not (is_escaped x t)) (is_none x && not (any_below (wanted xs op) t))

abbrev pub aims_as : List Request → Catch → Option Entry → ℕ → Bool
aims_as xs x None t = false
aims_as xs x (Some d) t = wanted xs d.op t && aims_at (is_all d.op) xs d.op x t

-- the cancel c comes upon t
abbrev pub comes_upon : List Request → ℕ → ℕ → Bool
comes_upon xs c t = is_running (stage_at (slice_get xs c)) && (nat_lt t c && aims_as xs (found_in (slice_get xs c)) (placed_in xs c) t)

abbrev pub may_take : List Request → ℕ → ℕ → Bool
may_take xs c t = comes_upon xs c t && is_idle (stage_at (slice_get xs t))

abbrev pub may_miss : List Request → ℕ → ℕ → Bool
may_miss xs c t = comes_upon xs c t && is_running (stage_at (slice_get xs t))

-- of a cancel of all its matches, where one is left that it has not tried, or none. A reply comes with no data
abbrev pub answer_all : Catch → Bool → Answer
answer_all x left = cond left later (now (pos x.ended) [])

-- of one of a single target, where a match is left, or none
abbrev pub answer_one : Catch → Bool → Answer
answer_one x left = cond (nat_lt 0 x.ended) (now (pos 0) []) (cond (is_none x) (cond left later (now (negsuc 1) [])) (now (negsuc 113) []))

abbrev pub answer_cancel : Bool → List Request → ℕ → Op → Catch → Answer
answer_cancel all xs k op x = cond all (answer_all x (any_below (untried xs op x) k)) (answer_one x (any_below (wanted xs op) k))

-- what the cancel k of this operation is answered now
abbrev pub cancel_answer : List Request → ℕ → Op → Answer
cancel_answer xs k op = answer_cancel (is_all op) xs k op (found_in (slice_get xs k))
