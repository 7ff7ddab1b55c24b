-- From the notes of a search to the lines that are told of it.
use Rattle.explore.specs.Noted.{Noted, NotedBy}
use Rattle.explore.specs.Search.{HasStates}
use Rattle.commands.specs.Told.{states_line}
use Rattle.commands.specs.Progress.{Says, SaysBy, SaysFor, SaysOf}
use Rattle.commands.proofs.Common.{AppendsSome, Bool, Keeps, Keeps-refl, List, Option, Reads, Script, ap, false, inl, inr, subst, suc, sym, true, zero, ℕ, ◌∙◌, ◌≡◌}

-- each note keeps what it writes to, and writes a line or a beginning of it
abbrev Tells : {O N : Type 0} → (O → ℕ → O → Type 0) → (O → N) → (O → Option (List ℕ)) → Type 0
Tells {O} notes name contents = (a b : O) (n : ℕ) → notes a n b → (name b ≡ name a) × AppendsSome (contents a) (contents b) (states_line n)

says_by : {O N : Type 0} (notes : O → ℕ → O → Type 0) (name : O → N) (contents : O → Option (List ℕ)) (c : Script) → Tells notes name contents
    → (n : ℕ) (a b : O) → NotedBy notes (HasStates c) n a b → (name b ≡ name a) × SaysBy c n (contents a) (contents b)
says_by notes name contents c tells zero a b same = (ap name same, subst (λ (x : Option (List ℕ)). Keeps (contents a) x) (sym (ap contents same)) (Keeps-refl (contents a)))
says_by notes name contents c tells (suc n) a b (o, states, before, met, last) =
    let so_far = says_by notes name contents c tells n a o before in
    let now = tells o b states last in
    (now.0 ∙ so_far.0, (contents o, states, so_far.1, met, now.1))

pub says_all : {O N : Type 0} (notes : O → ℕ → O → Type 0) (name : O → N) (contents : O → Option (List ℕ)) (c : Script) → Tells notes name contents
    → (a b : O) → Noted notes (HasStates c) a b → (name b ≡ name a) × Says c (contents a) (contents b)
says_all notes name contents c tells a b noted = let all = says_by notes name contents c tells noted.0 a b noted.1 in (all.0, (noted.0, all.1))

pub unsaid : (b : Bool) (s x : Option (List ℕ)) → SaysOf b s x x
unsaid true s x = inr (Keeps-refl x)
unsaid false s x = Keeps-refl x

pub said_of : (b : Bool) (s : Option (List ℕ)) (c : Script) (x y : Option (List ℕ)) → Reads s c → SaysFor b c x y → SaysOf b s x y
said_of true s c x y reads lines = inl (record { says = c; reads = reads; lines = lines })
said_of false s c x y reads kept = kept
