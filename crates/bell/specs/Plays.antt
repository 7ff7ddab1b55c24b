-- What each kind of step tells its seat.
use Rattle.std.specs.Prelude.{◌≡◌, ℕ, ◌+◌, ◌≤◌, ◌==◌, ◌⊎◌, true, false, cond, List, ◌∷◌, length, slice_index, slice_set}
use Rattle.atomic_table.specs.Table.{Me, Step}
use Rattle.bell.specs.declared.view.Change.{Change}
use Rattle.bell.specs.declared.view.Change.TheVariants.{Asked}
use Rattle.bell.specs.declared.view.Role.TheVariants.{Ringer}
use Rattle.bell.specs.declared.view.View.{View}
use Rattle.bell.specs.Wakes.{bit, cleared, stands, taken_back, IsSince, SawFinds}

abbrev pub Seated : Type 0
Seated = Me ℕ View

abbrev pub At : Type 0
At = Step ℕ

abbrev pub storing : ℕ → View → View
storing t v = record v { tail = t; between = true }

-- of a ringer's store of its tail
abbrev pub stored : At → Seated → ℕ → Seated → Type 0
stored st m n m' = (m'.0 ≡ storing st.first m.0) × (m'.1 ≡ m.1)

abbrev pub looking : ℕ → List Change → View → View
looking r h v = record v { between = false; found = stands h ∷ v.found; wakes = cleared r h }

-- of a ringer's exchange of the wake word for 0: the history of that word, by which the bit stood there or not
abbrev pub looked : At → Seated → ℕ → Seated → Type 0
looked st m n m' = (r : ℕ) → m.0.role ≡ Ringer r → ((h : List Change) × SawFinds r m.0.wakes h × (n ≡ bit (stands h)) × (m'.0 ≡ looking r h m.0)) × (m'.1 ≡ m.1)

abbrev pub arming : List Change → View → View
arming h v = record v { armed = true; checked = 0; wakes = Asked ∷ h }

-- of the sleeper's exchange of the wake word for 1
abbrev pub armed : At → Seated → ℕ → Seated → Type 0
armed st m n m' = ((h : List Change) × IsSince (length m.0.tails) h m.0.wakes × (n ≡ bit (stands h)) × (m'.0 ≡ arming h m.0)) × (m'.1 ≡ m.1)

abbrev pub reading : ℕ → ℕ → View → View
reading r n v = record v { tails = slice_set v.tails r n; loads = record { ring = r; tail = n } ∷ v.loads; checked = cond (v.checked == r) (r + 1) v.checked }

-- of the sleeper's load of the tail of the ring r, which never falls
abbrev pub read : At → Seated → ℕ → Seated → Type 0
read st m n m' = (r : ℕ) → st.word ≡ r + 1 → (m'.0 ≡ reading r n m.0) × (slice_index m.0.tails r ≤ n) × (m'.1 ≡ m.1)

abbrev pub waking : List Change → View → View
waking h v = record v { armed = false; wakes = h }

-- of the sleeper's exchange of the wake word for 0
abbrev pub took_back : At → Seated → ℕ → Seated → Type 0
took_back st m n m' = ((h : List Change) × IsSince (length m.0.tails) h m.0.wakes × (n ≡ bit (stands h)) × (m'.0 ≡ waking (taken_back h) m.0)) × (m'.1 ≡ m.1)

-- of the sleeper's load of the wake word: where it is 0, the sleeper is awake, and has seen the history of that word
abbrev pub asked : At → Seated → ℕ → Seated → Type 0
asked st m n m' = ((n ≡ 0) × ((h : List Change) × IsSince (length m.0.tails) h m.0.wakes × (stands h ≡ false) × (m'.0 ≡ waking h m.0)) ⊎ ((n ≡ 1) × (m'.0 ≡ m.0))) × (m'.1 ≡ m.1)
