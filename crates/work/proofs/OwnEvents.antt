-- Which events of a part of the journal are a role's own.
use Rattle.work.proofs.Common.{Event, Line, List, NoneOf, Role, [], ap, bool_cases, cond, event_of, own_of, owns, refl, ⊎_elim, ◌++◌, ◌∙◌, ◌∷◌, ◌≡◌}

-- lines of others have no own event
pub own_none : (role : Role) (l : List Line) → NoneOf role l → own_of role l ≡ []
own_none role [] n = refl
own_none role (x ∷ l) n = ap (λ b. cond b (event_of x (own_of role l)) (own_of role l)) n.0 ∙ own_none role l n.1

pub own_append : (role : Role) (k l : List Line) → NoneOf role k → own_of role (k ++ l) ≡ own_of role l
own_append role [] l n = refl
own_append role (x ∷ k) l n = ap (λ b. cond b (event_of x (own_of role (k ++ l))) (own_of role (k ++ l))) n.0 ∙ own_append role k l n.1

pub own_before : (role : Role) (k l : List Line) → own_of role l ≡ [] → own_of role (k ++ l) ≡ own_of role k
own_before role [] l n = n
own_before role (x ∷ k) l n = let i = own_before role k l n in ap (λ (h : List Event). cond (owns role x) (event_of x h) h) i

-- lines that are no events
pub silent_line : (role : Role) (l : Line) (j : List Line) → ((h : List Event) → event_of l h ≡ h) → own_of role (l ∷ j) ≡ own_of role j
silent_line role l j silent = ⊎_elim (λ w. ap (λ c. cond c (event_of l (own_of role j)) (own_of role j)) w ∙ silent (own_of role j)) (λ w. ap (λ c. cond c (event_of l (own_of role j)) (own_of role j)) w) (bool_cases (owns role l))

pub silent_own : (role : Role) (l : Line) (j : List Line) → ((h : List Event) → event_of l h ≡ h) → own_of role j ≡ [] → own_of role (l ∷ j) ≡ []
silent_own role l j silent none = silent_line role l j silent ∙ none
