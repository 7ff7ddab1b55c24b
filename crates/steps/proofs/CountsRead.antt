-- What the note of a count tells of its request, where that was not reaped since.
use Rattle.steps.proofs.Common.{Entry, Event, IsPlaced, IsReaped, Layout, Legal, Line, List, None, NotesTell, Option, Req, Some, Submitted, before_in, count_at, count_of, events_of, is_timeout, noted, phase, placed_from, refl, request_at, setup_of, submission, true, ℕ, ◌++◌, ◌≡◌}
use Rattle.steps.proofs.FreeCells.{reaped_later}

handed_in : (before after : Option Submitted) (e : Entry) → placed_from before after ≡ Some e → (y : Submitted) × (after ≡ Some y)
handed_in before None e is = absurd (cc)
handed_in before (Some y) e is = (y, refl)

-- what is placed was handed in
pub placed_handed : (h : List Event) (q : Req) (e : Entry) → IsPlaced h q e → (y : Submitted) × (submission h q ≡ Some y)
placed_handed h q e is = handed_in (before_in h q) (submission h q) e is

-- the journal j was seen where the note was loaded, and later the request was not reaped yet
pub count_told : (L : Layout) (later j : List Line) (x g : ℕ) → Legal (setup_of L) (events_of (later ++ j)) → NotesTell L.cells j x → (e : Entry) → IsPlaced (events_of j) (request_at L.cells x g) e → is_timeout e.op ≡ true → ¬ IsReaped (phase (events_of (later ++ j)) (request_at L.cells x g)) → noted j (count_at x) ≡ count_of e.op
count_told L later j x g legal tells e is timeout alive = let q : Req = request_at L.cells x g in let y = placed_handed (events_of j) q e is in
    (tells g y.0 e y.1 is (λ r. alive (reaped_later (setup_of L) later j q legal r))).count timeout
