-- What the clients of a run have done: the lines that they carried out, and the completions that they took.
use Rattle.std.specs.Prelude.{◌≡◌, ℕ, ◌++◌, List, [], ◌∷◌, All, Some, None, slice_get}
use Rattle.std.specs.Global.{Vec}
use Rattle.entry.specs.Entry.{Entry}
use Rattle.history.specs.declared.event.Event.{Event}
use Rattle.history.specs.History.{submits}
use Rattle.work.specs.{Facts, seen_of}
use Rattle.steps.specs.declared.view.Role.TheVariants.{Submitter}
use Rattle.board.specs.declared.completion.Completion.{Completion}
use Rattle.board.specs.{Entries, submits_of, Goes, IsCompletion}
use Rattle.runtime.specs.Clients.{ClientFacts}
use Rattle.script.specs.declared.act.Act.{Act}
use Rattle.script.specs.declared.named.Named.{Named}
use Rattle.script.specs.declared.script.Script.{Script}
use Rattle.script.specs.Carried.{HasCarried}
use Rattle.script_run.specs.declared.actor.Actor.{Actor}

abbrev pub client_of : Actor → ClientFacts
client_of h = h.client

abbrev pub board_of : Actor → Facts
board_of h = h.client.board

-- what the submitter of its client has seen
abbrev pub seen_by : Actor → List Event
seen_by h = seen_of h.client.submitter

-- the clients are those of a runtime over this board
abbrev pub AreActors : Facts → List Actor → Type 0
AreActors b actors = All (λ h. h.client.board ≡ b) actors

-- these are completions of their requests in this history
abbrev pub AreTaken : List Event → List Completion → Type 0
AreTaken h [] = Unit {0}
AreTaken h (x ∷ xs) = IsCompletion h x.req x × AreTaken h xs

-- the client is the same, and nothing of what it had taken is lost
pub record Stayed (old new : Actor) : Type 0 where
  pub board : new.client.board ≡ old.client.board
  pub ring : new.client.ring ≡ old.client.ring
  pub role : new.client.submitter.view.role ≡ old.client.submitter.view.role
  pub taken : AreTaken (seen_by old) old.taken.items → AreTaken (seen_by new) new.taken.items

-- the client of the ring has carried out these lines of the script, and handed in n entries of the next
pub record ActorAt (c : Script) (acts : List Act) (n : ℕ) (h : Actor) : Type 0 where
  pub role : h.client.submitter.view.role ≡ Submitter h.client.ring
  pub carried : HasCarried c h.client.ring acts n (seen_by h)

-- it looked, took completions, or was refused: it has handed nothing in
pub record Went (old new : Actor) : Type 0 where
  pub stayed : Stayed old new
  pub at : (c : Script) (acts : List Act) (n : ℕ) → ActorAt c acts n old → ActorAt c acts n new
  pub halt : new.halt ≡ old.halt

-- it handed these entries in as one batch
pub record SubmittedBatch (xs : Entries) (old new : Actor) : Type 0 where
  pub stayed : Stayed old new
  pub goes : Goes old.client.board old.client.submitter (submits_of old.client.ring (submits (seen_by old) old.client.ring) xs) new.client.submitter

-- the entry of the script at a place, with its buffer
abbrev pub IsEntryAt : Script → ℕ → Entry × Vec ℕ → Type 0
IsEntryAt c p x = (e : Named) × (slice_get c.entries.items p ≡ Some e) × (x.0 ≡ e.sqe) × (x.1.items ≡ e.buffer.items)

abbrev pub AreEntries : Script → List ℕ → Entries → Type 0
AreEntries c [] [] = Unit {0}
AreEntries c (p ∷ ps) (x ∷ xs) = IsEntryAt c p x × AreEntries c ps xs
AreEntries c _ _ = ⊥

-- it carried this line out, after those before it
pub record Carries (c : Script) (act : Act) (old new : Actor) : Type 0 where
  pub stayed : Stayed old new
  pub at : (v : Vec Act) (acts left : List Act) → slice_get c.acts.items old.client.ring ≡ Some v → v.items ≡ acts ++ act ∷ left → ActorAt c acts 0 old → ActorAt c (acts ++ act ∷ []) 0 new

-- it has carried out all lines of its ring
abbrev pub IsThrough : Script → Actor → Type 0
IsThrough c h = (v : Vec Act) → slice_get c.acts.items h.client.ring ≡ Some v → ActorAt c v.items 0 h

-- it has carried out no line yet
pub record IsNewActor (c : Script) (h : Actor) : Type 0 where
  pub at : ActorAt c [] 0 h
  pub taken : AreTaken (seen_by h) h.taken.items

-- they have done nothing yet
abbrev pub AreNew : List Actor → Type 0
AreNew actors = All (λ h. (h.taken.items ≡ []) × (h.halt ≡ None)) actors

-- it was stopped, or it is through and what it took are completions
pub record IsCarried (c : Script) (h : Actor) : Type 0 where
  pub through : IsThrough c h
  pub taken : AreTaken (seen_by h) h.taken.items

-- all that they took
abbrev pub taken_by : List Actor → List Completion
taken_by [] = []
taken_by (h ∷ hs) = h.taken.items ++ taken_by hs
