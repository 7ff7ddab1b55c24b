-- The rule of the queue, between any two steps: what was put is what was taken and what is left, however spans are weighed.
use Rattle.std.specs.Prelude.{◌≡◌, ℕ, ◌+◌, ◌-◌, List, [], ◌++◌, ◌∷◌, sum_by}
use mathlib.Core.Option.{some}
use lib.ListN.{get_elem?}
use Rattle.ready.specs.declared.span.Span.{Span}
use Rattle.ready.specs.declared.account.Account.{Account}

abbrev pub account : ℕ → List Span → List Span → Account
account share put taken = record { share = share; put = put; taken = taken }

-- how many shares there are
abbrev pub all_shares : ℕ
all_shares = 4294967295

abbrev pub share_of : Account → ℕ
share_of v = v.share

-- the weights of what a pass put, and of what it took
abbrev pub weight_put : (Span → ℕ) → Account → ℕ
weight_put h v = sum_by h v.put

abbrev pub weight_taken : (Span → ℕ) → Account → ℕ
weight_taken h v = sum_by h v.taken

-- of the spans in the queue and of all passes
pub record Balanced (items : List Span) (views : List Account) : Type 0 where
  pub whole : sum_by share_of views ≡ all_shares
  pub even : (h : Span → ℕ) → sum_by (weight_put h) views ≡ sum_by (weight_taken h) views + sum_by h items
  pub spent : (i : ℕ) (v : Account) → get_elem? views i ≡ some v → v.share ≡ 0 → (v.put ≡ []) × (v.taken ≡ [])

-- the pass knows of all puts and takes: they account for what is in the queue
abbrev pub Accounts : Account → List Span → Type 0
Accounts v items = (h : Span → ℕ) → sum_by h v.put ≡ sum_by h v.taken + sum_by h items

abbrev pub with_put : Span → Account → Account
with_put s v = account v.share (v.put ++ s ∷ []) v.taken

abbrev pub with_taken : Span → Account → Account
with_taken s v = account v.share v.put (v.taken ++ s ∷ [])

-- a new pass gets one share of this one's
abbrev pub without_share : Account → Account
without_share v = account (v.share - 1) v.put v.taken

abbrev pub new_account : Account
new_account = account 1 [] []

-- two passes become one
abbrev pub both_accounts : Account → Account → Account
both_accounts v w = account (v.share + w.share) (v.put ++ w.put) (v.taken ++ w.taken)

abbrev pub no_account : Account
no_account = account 0 [] []
