-- The slots of a new table, as far as they are made.
use Rattle.pipe.specs.{Conduit, new_conduit}
use Rattle.steps.specs.declared.slot.WaitedPipe.{WaitedPipe}
use Rattle.steps.proofs.Common.{List, None, Option, PipeIn, Piped, Some, Thing, [], ap, arith, at_longer, dite, get_elem?, get_or, length, length-append, refl, slot_at, slots_of, some, subst, sym, untouched, vec_capacity, ℕ, ℕ_discrete, ◌++◌, ◌+◌, ◌<◌, ◌∙◌, ◌∷◌, ◌≡◌}

at_last : {A : Type 0} (l : List A) (a : A) → get_elem? (l ++ a ∷ []) (length l) ≡ some a
at_last [] a = refl
at_last (x ∷ l) a = at_last l a

-- the first n slots have their pipes
pub record PipesUpTo (caps : List ℕ) (cells n : ℕ) (slots : List (Option Thing)) : Type 0 where
  pub long : length slots ≡ n
  pub pipes : (p : ℕ) → p < n → (o : Option Thing) × (get_elem? slots p ≡ some o) × PipeIn caps cells p o (untouched, [])

-- all pipes are there, and then n empty slots
pub record CellsUpTo (caps : List ℕ) (cells n : ℕ) (slots : List (Option Thing)) : Type 0 where
  pub long : length slots ≡ slots_of n
  pub pipes : (p : ℕ) → p < 64 → (o : Option Thing) × (get_elem? slots p ≡ some o) × PipeIn caps cells p o (untouched, [])
  pub empty : (x : ℕ) → x < n → get_elem? slots (slot_at x) ≡ some None

pub pipe_pushed : (caps : List ℕ) (cells n : ℕ) (slots after : List (Option Thing)) (o : Option Thing) → after ≡ slots ++ o ∷ [] → PipesUpTo caps cells n slots → PipeIn caps cells n o (untouched, []) → PipesUpTo caps cells (n + 1) after
pipe_pushed caps cells n slots after o is u new = rw is record {
  long = (let l = u.long in omega (arith, length-append slots (o ∷ [])));
  pipes = λ p lt. dite (ℕ_discrete p n)
      (λ e. (o, subst (λ z. get_elem? (slots ++ o ∷ []) z ≡ some o) (u.long ∙ sym e) (at_last slots o), subst (λ z. PipeIn caps cells z o (untouched, [])) (sym e) new))
      (λ ne. (let k = u.pipes p (omega arith) in (k.0, at_longer slots (o ∷ []) p k.0 k.1, k.2)));
}

pub cell_pushed : (caps : List ℕ) (cells n : ℕ) (slots after : List (Option Thing)) → after ≡ slots ++ None ∷ [] → CellsUpTo caps cells n slots → CellsUpTo caps cells (n + 1) after
cell_pushed caps cells n slots after is u = rw is record {
  long = (let l = u.long in omega (arith, length-append slots (None ∷ [])));
  pipes = λ p lt. (let k = u.pipes p lt in (k.0, at_longer slots (None ∷ []) p k.0 k.1, k.2));
  empty = λ x lt. dite (ℕ_discrete x n)
      (λ e. (let l = u.long in subst (λ z. get_elem? (slots ++ None ∷ []) z ≡ some None) (let same : length slots ≡ slot_at x = omega arith in same) (at_last slots None)))
      (λ ne. at_longer slots (None ∷ []) (slot_at x) None (u.empty x (omega arith)));
}

pub new_pipe_is : (caps : List ℕ) (cells p n : ℕ) (v : WaitedPipe) → (v.pipe ≡ new_conduit n) × (v.lying.items ≡ []) × (vec_capacity v.lying ≡ cells) → n ≡ get_or caps p 0 → PipeIn caps cells p (Some (Piped v)) (untouched, [])
new_pipe_is caps cells p n v is at = (ap (λ (z : Conduit). z.cap) is.0 ∙ at, ap (λ (z : Conduit). z.content) is.0, ap (λ (z : Conduit). z.read_closed) is.0, ap (λ (z : Conduit). z.write_closed) is.0, is.1, is.2)
