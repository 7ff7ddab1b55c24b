-- The text of a history, one event further; and where a label stands.
use Rattle.history.specs.declared.req.Req.{Req}
use Rattle.history.specs.declared.event.Event.{Event}
use Rattle.script.specs.declared.script.Script.{Script}
use Rattle.script.specs.Steps.{step_at}
use Rattle.script_text.specs.HistoryText.{label_among, label_by, label_of, event_text, history_text, text_after}
use Rattle.script.proofs.Items.{rest_at, front_at}
use Rattle.script_text.proofs.Common.{Act, List, Vec, [], ap, append_assoc, drop, get_or, length, refl, slice_get_past, slice_get_read, sym, take, ℕ, ◌++◌, ◌+◌, ◌<◌, ◌∙◌, ◌∷◌, ◌≡◌, ◌≤◌}

pub event_more : (c : Script) (events : List Event) (i : ℕ) (e : Event) (old new : List ℕ) → i < length events → e ≡ get_or events i e
    → old ++ text_after c (take i events) (drop i events) ≡ history_text c events
    → new ≡ old ++ event_text c (take i events) e
    → new ++ text_after c (take (i + 1) events) (drop (i + 1) events) ≡ history_text c events
event_more c events i e old new lt is so_far told =
    let rest = rw (rest_at events i e lt is) at so_far in
    rw (told, front_at events i e lt is) (append_assoc old (event_text c (take i events) e) (text_after c (take i events ++ e ∷ []) (drop (i + 1) events)) ∙ rest)

-- a ring that isn't there hands nothing in
pub label_of_none : (c : Script) (r : Req) → length c.acts.items ≤ r.ring → [] ≡ label_of c r
label_of_none c r past = sym (ap (λ lines. label_among c.entries.items lines r.k) (slice_get_past c.acts.items r.ring past))

pub label_of_one : (c : Script) (r : Req) (lines : Vec Act) → r.ring < length c.acts.items → lines ≡ get_or c.acts.items r.ring lines
    → label_of c r ≡ label_by c.entries.items (step_at lines.items r.k)
label_of_one c r lines lt is = ap (λ one. label_among c.entries.items one r.k) (slice_get_read c.acts.items (length c.acts.items) r.ring lines refl lt is)
