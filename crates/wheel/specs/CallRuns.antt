-- Runs: lists of calls on a set of timers with what they answer.
use Rattle.std.specs.Prelude.{◌≡◌, ℕ, List, [], ◌∷◌, Option, IsTrue, IsSome, ◌↔◌}
use Rattle.history.specs.declared.req.Req.{Req}
use Rattle.wheel.specs.declared.calls.Call.{Call}
use Rattle.wheel.specs.declared.calls.Call.TheVariants.{Arm, DropTimer, Due}
use Rattle.wheel.specs.declared.calls.Answer.{Answer}
use Rattle.wheel.specs.declared.calls.Answer.TheVariants.{Armed, Dropped, First}
use Rattle.wheel.specs.Deadlines.{armed, dropped, IsFirstDue}

-- where the deadlines are f, the call may answer so, and makes g of them
abbrev pub Answers : (Req → Option ℕ) → Call → Answer → (Req → Option ℕ) → Type 0
Answers f (Arm r d) Armed g = g ≡ armed f r d
Answers f (DropTimer r) (Dropped b) g = (IsTrue b ↔ IsSome (f r)) × (g ≡ dropped f r)
Answers f (Due now) (First x) g = IsFirstDue f now x × (g ≡ f)
Answers f _ _ g = ⊥

-- the calls, one after another, may answer so, and make g of the deadlines f
abbrev pub Runs : (Req → Option ℕ) → List Call → List Answer → (Req → Option ℕ) → Type 0
Runs f [] [] g = g ≡ f
Runs f (c ∷ cs) (a ∷ xs) g = (h : Req → Option ℕ) × Answers f c a h × Runs h cs xs g
Runs f _ _ g = ⊥
