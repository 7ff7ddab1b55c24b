-- How far the actors of a script have come along their lines, in a history.
use Rattle.std.specs.Prelude.{◌≡◌, ℕ, ◌+◌, length, true, List, [], ◌∷◌}
use Rattle.history.specs.declared.event.Event.{Event}
use Rattle.history.specs.declared.event.Event.TheVariants as event
use Rattle.history.specs.{submits, clock_of, ticked}
use Rattle.script.specs.declared.act.Act.{Act}
use Rattle.script.specs.declared.act.Act.TheVariants.{Submit, Wait, Armed, Tick}
use Rattle.script.specs.declared.script.Script.{Script}
use Rattle.script.specs.Rules.{rises}
use Rattle.script.specs.Tables.{is_done, MayFollow}

-- how many steps these lines ask for
abbrev pub steps_in : List Act → ℕ
steps_in [] = 0
steps_in (Submit places ∷ acts) = length places.items + steps_in acts
steps_in (Tick n ∷ acts) = 1 + steps_in acts
steps_in (Wait p ∷ acts) = steps_in acts
steps_in (Armed p ∷ acts) = steps_in acts

-- those that wait for something are done
abbrev pub AreDone : Script → List Event → List Act → Type 0
AreDone c h [] = Unit {0}
AreDone c h (a ∷ acts) = (is_done c h a ≡ true) × AreDone c h acts

-- what the ring hands in is what its lines say, each line that waits passed only when it is done
abbrev pub FollowsRing : Script → ℕ → List Event → Event → Type 0
FollowsRing c i h (event.Submit r e bytes last) = r.ring ≡ i → MayFollow c h (event.Submit r e bytes last)
FollowsRing c i h _ = Unit {0}

abbrev pub KeepsRing : Script → ℕ → List Event → Type 0
KeepsRing c i [] = Unit {0}
KeepsRing c i (e ∷ h) = FollowsRing c i h e × KeepsRing c i h

-- the clock is set as its lines say
abbrev pub FollowsClock : Script → List Event → Event → Type 0
FollowsClock c h (event.Tick n) = MayFollow c h (event.Tick n)
FollowsClock c h _ = Unit {0}

abbrev pub KeepsClock : Script → List Event → Type 0
KeepsClock c [] = Unit {0}
KeepsClock c (e ∷ h) = FollowsClock c h e × KeepsClock c h

-- the ring's actor has carried these lines out, and of the next one n entries were handed in
pub record HasCarried (c : Script) (i : ℕ) (acts : List Act) (n : ℕ) (h : List Event) : Type 0 where
  pub keeps : KeepsRing c i h
  pub count : submits h i ≡ steps_in acts + n
  pub are_done : AreDone c h acts

-- the clock has carried these lines out, and may be set on by those that are left
pub record HasTimed (c : Script) (acts left : List Act) (h : List Event) : Type 0 where
  pub keeps : KeepsClock c h
  pub count : ticked h ≡ steps_in acts
  pub are_done : AreDone c h acts
  pub on_time : rises (clock_of h) left ≡ true
