-- A client that waits: it takes posts until one of them gives a completion.
use Rattle.board.specs.declared.error.ReapError.{ReapError}
use Rattle.runtime.proofs.Common.{All, All-push, Begins, ClientFacts, Completion, Event, Facts, Goes, HasAwaited, HasTaken, List, None, Option, Pass, RefusesReap, Req, Some, WasRefused, [], ap, append-nil, append_assoc, arith, goes_then, inl, inr, kept_in, refl, seen_of, submits, subst, sym, ℕ, ◌++◌, ◌∙◌, ◌∷◌, ◌≡◌, ◌⊎◌}

-- the client has found posts, and passed by those whose requests could not be reaped
pub record Awaits (old m : ClientFacts) : Type 0 where
  pub same : (m.board ≡ old.board) × (m.ring ≡ old.ring) × (m.tail ≡ old.tail) × (m.publishes ≡ old.publishes)
  pub goes : (m.submitter ≡ old.submitter) ⊎ Goes old.board old.submitter [] m.submitter
  pub found : List Req
  pub passed : List Req
  pub order : old.posts ++ found ≡ passed ++ m.posts
  pub refused : All (λ r. WasRefused old r) passed

pub awaits_none : (old : ClientFacts) → Awaits old old
awaits_none old = record { same = (refl, refl, refl, refl); goes = inl refl; found = []; passed = []; order = append-nil old.posts; refused = λ k d lt. absurd (omega (arith, lt)) }

moved : (o f t p k q : List Req) → o ++ f ≡ p ++ k → k ++ t ≡ q → o ++ (f ++ t) ≡ p ++ q
moved o f t p k q a b = sym (append_assoc o f t) ∙ (ap (λ (l : List Req). l ++ t) a ∙ (append_assoc p k t ∙ ap (λ (l : List Req). p ++ l) b))

abbrev pub IsSameClient : ClientFacts → ClientFacts → Type 0
IsSameClient m n = (n.board ≡ m.board) × (n.ring ≡ m.ring) × (n.tail ≡ m.tail) × (n.publishes ≡ m.publishes)

still_same : (old m n : ClientFacts) → IsSameClient old m → IsSameClient m n → IsSameClient old n
still_same old m n a b = (b.0 ∙ a.0, b.1 ∙ a.1, b.2 ∙ a.2, b.3 ∙ a.3)

-- it found more posts
pub awaits_more : (old m k : ClientFacts) (more : List Req) → Awaits old m → IsSameClient m k → k.submitter ≡ m.submitter → k.posts ≡ m.posts ++ more → Awaits old k
awaits_more old m k more a same pass is = record {
  same = still_same old m k a.same same;
  goes = subst (λ (p : Pass). (p ≡ old.submitter) ⊎ Goes old.board old.submitter [] p) (sym pass) a.goes;
  found = a.found ++ more;
  passed = a.passed;
  order = moved old.posts a.found more a.passed m.posts k.posts a.order (sym is);
  refused = a.refused;
}

-- it went on
goes_on : (old k : ClientFacts) (es : List Event) (q : Pass) → (k.submitter ≡ old.submitter) ⊎ Goes old.board old.submitter [] k.submitter → Goes old.board k.submitter es q → Goes old.board old.submitter es q
goes_on old k es q (inl e) g = subst (λ (p : Pass). Goes old.board p es q) e g
goes_on old k es q (inr h) g = goes_then old.board old.submitter k.submitter q es h g

pub goes_after : (old k : ClientFacts) (es : List Event) (q : Pass) → Awaits old k → Goes k.board k.submitter es q → Goes old.board old.submitter es q
goes_after old k es q a g = goes_on old k es q a.goes (subst (λ (b : Facts). Goes b k.submitter es q) a.same.0 g)

-- what it had seen before
seen_before : (old k : ClientFacts) → (k.submitter ≡ old.submitter) ⊎ Goes old.board old.submitter [] k.submitter → Begins k.submitter.view.seen old.submitter.view.seen
seen_before old k (inl e) = ([], ap (λ (p : Pass). p.view.seen) e)
seen_before old k (inr g) = (g.later, g.seen_is)

refused_one : (old k : ClientFacts) (q : Pass) (r : Req) → Awaits old k → (e : ReapError) × RefusesReap k.board.layout.cells r k.ring (submits (seen_of k.submitter) k.ring) k.submitter q e → WasRefused old r
refused_one old k q r a why = (
  k.submitter,
  q,
  seen_before old k a.goes,
  why.0,
  subst (λ (b : Facts). RefusesReap b.layout.cells r old.ring (submits (seen_of k.submitter) old.ring) k.submitter q why.0) a.same.0
      (subst (λ (i : ℕ). RefusesReap k.board.layout.cells r i (submits (seen_of k.submitter) i) k.submitter q why.0) a.same.1 why.1),
)

passed_by : (old k n : ClientFacts) (first : Option Req) (found : List Req) → Awaits old k → IsSameClient k n → Goes k.board k.submitter [] n.submitter → k.posts ++ found ≡ kept_in first ++ n.posts → ((r : Req) → first ≡ Some r → WasRefused old r) → Awaits old n
passed_by old k n None found a same goes rest why = record {
  same = still_same old k n a.same same;
  goes = inr (goes_after old k [] n.submitter a goes);
  found = a.found ++ found;
  passed = a.passed;
  order = moved old.posts a.found found a.passed k.posts n.posts a.order rest;
  refused = a.refused;
}
passed_by old k n (Some r) found a same goes rest why = record {
  same = still_same old k n a.same same;
  goes = inr (goes_after old k [] n.submitter a goes);
  found = a.found ++ found;
  passed = a.passed ++ r ∷ [];
  order = moved old.posts a.found found a.passed k.posts (r ∷ n.posts) a.order rest ∙ sym (append_assoc a.passed (r ∷ []) n.posts);
  refused = All-push (λ (q : Req). WasRefused old q) a.passed r a.refused (why r refl);
}

-- a take gave nothing
pub awaits_on : (old k n : ClientFacts) → Awaits old k → IsSameClient k n → Goes k.board k.submitter [] n.submitter → HasTaken k n None → Awaits old n
awaits_on old k n a same goes t = passed_by old k n t.first t.found a same goes t.rest (λ r is. refused_one old k n.submitter r a (t.refused refl r is))

-- a take gave a completion
pub awaited : (old k n : ClientFacts) (x : Completion) → Awaits old k → HasTaken k n (Some x) → HasAwaited old n x.req
awaited old k n x a t = record {
  found = a.found ++ t.found;
  passed = a.passed;
  order = moved old.posts a.found t.found a.passed k.posts (x.req ∷ n.posts) a.order (t.rest ∙ ap (λ (o : Option Req). kept_in o ++ n.posts) (t.gives x refl));
  refused = a.refused;
}
