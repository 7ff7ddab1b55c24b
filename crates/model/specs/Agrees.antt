-- When what is kept agrees with a history.
use Rattle.std.specs.Prelude.{◌≡◌, ℕ, ◌≤◌, Bool, true, false, List, [], ◌∷◌, length, Some, slice_get, get_or}
use Rattle.history.specs.declared.req.Req.{Req}
use Rattle.history.specs.declared.event.Event.{Event}
use Rattle.history.specs.{submits, clock_of, was_shut, Flow, content, flow}
use Rattle.history.specs.Legal.{MayCome, Allowed, Legal}
use Rattle.model.specs.Content.{Content}
use Rattle.model.specs.Machine.{Machine, setup_of}
use Rattle.model.specs.Seen.{seen, seen_of, find}

-- what is in the pipe, and its closed ends
pub record PipeIs (w : Flow) (x : Content) : Type 0 where
  pub bytes : content w ≡ x.bytes
  pub within : w.out ≤ length w.into
  pub read_closed : w.read_closed ≡ x.read_closed
  pub write_closed : w.write_closed ≡ x.write_closed

-- each request, each ring's count, each pipe, the clock and the end are as the history says
pub record Agrees (h : List Event) (m : Machine) : Type 0 where
  pub legal : Legal (setup_of m) h
  pub requests : (q : Req) → seen h q ≡ seen_of (find m.rings q)
  pub counts : (i : ℕ) → submits h i ≡ length (get_or m.rings i [])
  pub pipes : (p : ℕ) (x : Content) → slice_get m.pipes p ≡ Some x → PipeIs (flow h p) x
  pub clock : clock_of h ≡ m.clock
  pub shut : was_shut h ≡ m.shut

-- the event may come, and what is kept after it agrees with the longer history
abbrev pub Carries : Machine → Event → Machine → Type 0
Carries m e n = (setup_of n ≡ setup_of m) × ((h : List Event) → Agrees h m → MayCome (setup_of m) h e × Agrees (e ∷ h) n)

-- the event may not come, and nothing has changed
abbrev pub Refuses : Machine → Event → Machine → Type 0
Refuses m e n = (n ≡ m) × ((h : List Event) → Agrees h m → ¬ MayCome (setup_of m) h e)

-- the event may come
abbrev pub MayFollow : Machine → Event → Type 0
MayFollow m e = (h : List Event) → Agrees h m → MayCome (setup_of m) h e

-- the end allows it, too
abbrev pub IsNext : Machine → Event → Type 0
IsNext m e = (h : List Event) → Agrees h m → Allowed (setup_of m) h e

abbrev pub Decided : Bool → Machine → Event → Machine → Type 0
Decided true m e n = Carries m e n
Decided false m e n = Refuses m e n

-- as the code decides it, the end included
abbrev pub Decision : Bool → Machine → Event → Machine → Type 0
Decision true m e n = (setup_of n ≡ setup_of m) × ((h : List Event) → Agrees h m → Allowed (setup_of m) h e × Agrees (e ∷ h) n)
Decision false m e n = (n ≡ m) × ((h : List Event) → Agrees h m → ¬ Allowed (setup_of m) h e)
