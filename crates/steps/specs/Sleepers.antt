-- Who lies with a pipe, and that none of them sleeps where it could be answered.
use Rattle.std.specs.Prelude.{◌≡◌, ◌⊎◌, ℕ, true, ℤ, List, [], ◌∷◌}
use Rattle.entry.specs.Entry.{Entry}
use Rattle.history.specs.declared.req.Req.{Req}
use Rattle.history.specs.{IsPlaced, OpAnswers, is_pipe, uses_at}
use Rattle.steps.specs.declared.line.Line.{Line}
use Rattle.steps.specs.declared.view.Layout.{Layout}
use Rattle.steps.specs.Journal.{events_of, lying}

-- the request is one of these
abbrev pub LiesIn : List Req → Req → Type 0
LiesIn [] r = ⊥
LiesIn (q ∷ rs) r = (q ≡ r) ⊎ LiesIn rs r

-- a request that lies with each pipe of the board that its entry names has no answer there, as they stand
abbrev pub NoneSleeps : Layout → List Line → Type 0
NoneSleeps L j = (r : Req) (e : Entry) (p : ℕ) → IsPlaced (events_of j) r e → is_pipe L.caps p ≡ true → LiesIn (lying j p) r → ((n : ℕ) → is_pipe L.caps n ≡ true → uses_at e.op n ≡ true → LiesIn (lying j n) r)
    → (res : ℤ) (data' : List ℕ) → ¬ OpAnswers L.caps (events_of j) r e.op res data'
