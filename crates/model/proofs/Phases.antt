-- What a stage tells of the phase.
use Rattle.model.proofs.Common.{Bool, Cause, IsIdle, IsPending, IsReplied, None, Option, Phase, Request, Some, RequestStage, arith, armed, common_steps, false, is_answered, is_armed, is_due, is_idle, is_pending, is_replied, is_running, is_waits, leb-true, pending_of, replied, runs, stage_at, stage_of, true, waits, ℕ, ℤ, ◌≡◌, ◌≤◌}

pub waits_from : (p : Phase) → is_waits (stage_of p) ≡ true → p ≡ waits
waits_from = grind (arith, common_steps)

pub runs_from : (p : Phase) → is_running (stage_of p) ≡ true → p ≡ runs
runs_from = grind (arith, common_steps)

pub due_from : (clock : ℕ) (p : Phase) → is_due clock (stage_of p) ≡ true → (d : ℕ) × (p ≡ armed d) × (d ≤ clock)
due_from = grind (arith, common_steps, leb-true)

pub armed_from : (p : Phase) → is_armed (stage_of p) ≡ true → (d : ℕ) × (p ≡ armed d)
armed_from = grind (arith, common_steps)

pub idle_from : (p : Phase) → is_idle (stage_of p) ≡ true → IsIdle p
idle_from = grind (arith, common_steps)

pub from_idle : (p : Phase) → IsIdle p → is_idle (stage_of p) ≡ true
from_idle = grind (arith, common_steps)

pub replied_from : (p : Phase) → is_replied (stage_of p) ≡ true → (c : Cause) × (res : ℤ) × (p ≡ replied c res)
replied_from = grind (arith, common_steps)

pub answered_from : (p : Phase) → is_answered (stage_of p) ≡ true → IsReplied p
answered_from = grind (arith, common_steps)

pub from_answered : (p : Phase) → IsReplied p → is_answered (stage_of p) ≡ true
from_answered = grind (arith, common_steps)

abbrev pub pending_as : Option RequestStage → Bool
pending_as None = false
pending_as (Some s) = is_pending s

pub pending_at : (o : Option Request) → pending_of o ≡ pending_as (stage_at o)
pending_at = grind (arith, common_steps)

pub pending_from : (p : Phase) → pending_as (stage_of p) ≡ true → IsPending p
pending_from = grind (arith, common_steps)

pub from_pending : (p : Phase) → IsPending p → pending_as (stage_of p) ≡ true
from_pending = grind (arith, common_steps)
