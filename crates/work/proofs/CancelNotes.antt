-- What the notes of a cell tell a cancel of the cell's request: whether it is meant for that.
use Rattle.claim.specs.Facts.{Facts as FactsParts}
use Rattle.steps.specs.FactsTold.{TellsFacts}
use Rattle.steps.proofs.FactsRead.{own_facts, other_facts, reaped_or}
use Rattle.work.proofs.Common.{AsyncCancel, Bool, Entry, Event, FactsTell, IsBefore, IsCell, IsMeant, IsPlaced, IsReaped, IsReplied, IsTrue, Layout, Legal, Line, List, Looks, Matches, NotesTell, Op, Option, Orderly, Phase, Req, Setup, Some, Submitted, TimeoutRemove, View, Wanted, and_left, and_right, ap, arith, asks_for, before_in, bool_cases, cond, eq-eqb, eqb-true, events_of, facts_at, false, fits_facts, hosts, inl, inr, is_kind, is_link_timeout, lasts, not, noted, packed_facts, phase, placed_behind, placed_from, placed_lasts, reaped, replied_later, request_at, setup_of, submission, submission_some, submits, submits_grow, subst, sym, true, true≢false, user_at, wanted_in, ℕ, ⊎_elim, ◌&&◌, ◌++◌, ◌<◌, ◌==◌, ◌∙◌, ◌≡◌, ◌⊎◌}

-- ---- by the entries

abbrev pub asked : Wanted → Entry → Bool
asked w e = (e.user_data == w.user_data) && is_kind w.timeout e.op

asks_as : (o : Op) (w : Wanted) (e : Entry) → wanted_in o ≡ Some w → asks_for o e ≡ asked w e
asks_as (AsyncCancel u all) w e is = ap (λ (z : Wanted). asked z e) (wanted_of _ w is) where
  wanted_of : (a b : Wanted) → Some a ≡ Some b → a ≡ b
  wanted_of a b e = cc
asks_as (TimeoutRemove u) w e is = ap (λ (z : Wanted). asked z e) (wanted_of _ w is) where
  wanted_of : (a b : Wanted) → Some a ≡ Some b → a ≡ b
  wanted_of a b e = cc
asks_as o w e is = absurd (let z = is in cc)

-- the cancel c, placed as d, asks for w; q before it is placed as e
module _ (h : List Event) (c q : Req) (w : Wanted) (d e : Entry) (before : IsBefore q c) (is_c : IsPlaced h c d) (wants : wanted_in d.op ≡ Some w) (is_q : IsPlaced h q e) where
  pub asked_match : asked w e ≡ true → Matches h c q
  asked_match a = (before, d, e, is_c, is_q, asks_as d.op w e wants ∙ a)

  pub match_asked : Matches h c q → asked w e ≡ true
  match_asked m = let one : m.1 ≡ d = (let z = sym m.3 ∙ is_c in cc) in let two : m.2 ≡ e = (let z = sym m.4 ∙ is_q in cc) in sym (asks_as d.op w e wants) ∙ ((λ i. asks_for (sym one i).op (sym two i)) ∙ m.5)

pub asked_by : (w : Wanted) (e : Entry) → e.user_data ≡ w.user_data → is_kind w.timeout e.op ≡ true → asked w e ≡ true
asked_by w e u k = ap (λ (b : Bool). b && is_kind w.timeout e.op) (eq-eqb e.user_data w.user_data u) ∙ k

pub asked_user : (w : Wanted) (e : Entry) → asked w e ≡ true → e.user_data ≡ w.user_data
asked_user w e a = eqb-true e.user_data w.user_data (and_left _ _ a)

pub asked_kind : (w : Wanted) (e : Entry) → asked w e ≡ true → is_kind w.timeout e.op ≡ true
asked_kind w e a = and_right (e.user_data == w.user_data) _ a

-- what is placed has the user_data that was handed in
same_user : (b : Option Submitted) (e : Entry) → (placed_behind b e).user_data ≡ e.user_data
same_user b e = ⊎_elim
    (λ (w : (is_link_timeout e.op && not (hosts b)) ≡ true). ap (λ (z : Bool). (cond z (record e { op = Rattle.entry.specs.declared.op.Op.TheVariants.Invalid }) e).user_data) w)
    (λ (w : (is_link_timeout e.op && not (hosts b)) ≡ false). ap (λ (z : Bool). (cond z (record e { op = Rattle.entry.specs.declared.op.Op.TheVariants.Invalid }) e).user_data) w) (bool_cases (is_link_timeout e.op && not (hosts b)))

-- ---- by the note of its user_data

reaped_done : (p : Phase) → IsReaped p → IsReplied p
reaped_done (reaped c res) r = tt
reaped_done p r = absurd r

module _ (v m : View) (x g : ℕ) (a : Looks v m) (born : (request_at v.layout.cells x g).k < submits (events_of v.seen) (request_at v.layout.cells x g).ring) where
  abbrev pub the_request : Req
  the_request = request_at v.layout.cells x g

  abbrev S : Setup
  S = setup_of v.layout

  pub legal_then : Legal S (events_of m.seen)
  legal_then = subst (λ (j : List Line). Legal S (events_of j)) (sym (ap (λ (z : View). z.seen) a.is)) a.legal

  pub born_then : the_request.k < submits (events_of m.seen) the_request.ring
  born_then = subst (λ (j : List Line). the_request.k < submits (events_of j) the_request.ring) (sym (ap (λ (z : View). z.seen) a.is ∙ a.saw.is)) (let z = submits_grow S a.saw.later v.seen the_request.ring in let b = born in omega arith)

  module _ (told : NotesTell v.layout.cells m.seen x) where
    -- what was handed in, and how it is placed
    pub handed : (y : Submitted) × (submission (events_of m.seen) the_request ≡ Some y)
    handed = submission_some S (events_of m.seen) the_request legal_then born_then

    abbrev pub entry_then : Entry
    entry_then = placed_behind (before_in (events_of m.seen) the_request) handed.0.entry

    pub placed_then : IsPlaced (events_of m.seen) the_request entry_then
    placed_then = ap (placed_from (before_in (events_of m.seen) the_request)) handed.1

    -- it has replied, or the note is its own
    pub user_then : IsReplied (phase (events_of m.seen) the_request) ⊎ (noted m.seen (user_at x) ≡ entry_then.user_data)
    user_then = ⊎_elim (λ (r : IsReaped (phase (events_of m.seen) the_request)). inl (reaped_done _ r))
        (λ (alive : ¬ IsReaped (phase (events_of m.seen) the_request)). inr ((told g handed.0 entry_then handed.1 placed_then alive).user_data ∙ sym (same_user (before_in (events_of m.seen) the_request) handed.0.entry)))
        (reaped_or (phase (events_of m.seen) the_request))

    -- the note is another user_data than the cancel c asks for, which is placed as d
    pub passed_by : (c : Req) (w : Wanted) (d : Entry) → IsPlaced (events_of m.seen) c d → wanted_in d.op ≡ Some w → ¬ (noted m.seen (user_at x) ≡ w.user_data) → Matches (events_of m.seen) c the_request → IsReplied (phase (events_of m.seen) the_request)
    passed_by c w d is_c wants ne y = ⊎_elim (λ (r : IsReplied (phase (events_of m.seen) the_request)). r)
        (λ (e : noted m.seen (user_at x) ≡ entry_then.user_data). absurd (ne (e ∙ asked_user w entry_then (match_asked (events_of m.seen) c the_request w d entry_then y.0 is_c wants placed_then y)))) user_then

    -- ---- and then by its facts

    module _ (n : View) (b : Looks m n) (inside : IsCell v.layout.cells x) (small : g < 16777216) (tells : NotesTell m.layout.cells n.seen x) (left : FactsTell m.layout.cells n.seen x) (word : FactsParts) (fits : IsTrue (fits_facts word)) (packed : packed_facts word ≡ noted n.seen (facts_at x)) where
      layout_is : m.layout ≡ v.layout
      layout_is = ap (λ (z : View). z.layout) a.is

      seen_now : n.seen ≡ b.saw.later ++ m.seen
      seen_now = ap (λ (z : View). z.seen) b.is ∙ b.saw.is

      legal_on : Legal S (events_of (b.saw.later ++ m.seen))
      legal_on = subst (λ (z : Layout × List Line). Legal (setup_of z.0) (events_of z.1)) (λ i. (layout_is i, b.saw.is i)) b.legal

      legal_now : Legal S (events_of n.seen)
      legal_now = subst (λ (j : List Line). Legal S (events_of j)) (sym seen_now) legal_on

      orderly_now : Orderly v.layout n.seen
      orderly_now = subst (λ (z : Layout × List Line). Orderly z.0 z.1) (λ i. (layout_is i, sym (ap (λ (z : View). z.seen) b.is) i)) b.orderly

      born_now : the_request.k < submits (events_of n.seen) the_request.ring
      born_now = subst (λ (j : List Line). the_request.k < submits (events_of j) the_request.ring) (sym seen_now) (let z = submits_grow S b.saw.later m.seen the_request.ring in let y = born_then in omega arith)

      tells_now : NotesTell v.layout.cells n.seen x
      tells_now = subst (λ (L : Layout). NotesTell L.cells n.seen x) layout_is tells

      left_now : FactsTell v.layout.cells n.seen x
      left_now = subst (λ (L : Layout). FactsTell L.cells n.seen x) layout_is left

      -- the facts of another generation
      pub gone_on : ¬ (word.generation ≡ g) → IsReplied (phase (events_of n.seen) the_request)
      gone_on ne = (other_facts v.layout n.seen x g inside small legal_now orderly_now tells_now left_now born_now word fits packed ne).replied

      module _ (own : word.generation ≡ g) where
        pub facts_told : TellsFacts (events_of n.seen) the_request word
        facts_told = own_facts v.layout n.seen x g inside small legal_now orderly_now tells_now left_now born_now word fits packed own

        placed_still : IsPlaced (events_of n.seen) the_request entry_then
        placed_still = subst (λ (j : List Line). IsPlaced (events_of j) the_request entry_then) (sym seen_now) (lasts S (λ h. IsPlaced h the_request entry_then) the_request (placed_lasts S the_request entry_then) b.saw.later m.seen legal_on born_then placed_then)

        same_entry : facts_told.1 ≡ entry_then
        same_entry = (let z = sym facts_told.3 ∙ placed_still in cc)

        module _ (c : Req) (w : Wanted) (d : Entry) (before : IsBefore the_request c) (is_c : IsPlaced (events_of n.seen) c d) (wants : wanted_in d.op ≡ Some w) where
          pub other_kind : is_kind w.timeout facts_told.1.op ≡ false → ¬ (Matches (events_of n.seen) c the_request)
          other_kind another y = true≢false (sym (asked_kind w facts_told.1 (match_asked (events_of n.seen) c the_request w d facts_told.1 before is_c wants facts_told.3 y)) ∙ another)

          pub meant_by : noted m.seen (user_at x) ≡ w.user_data → is_kind w.timeout facts_told.1.op ≡ true → IsMeant n c the_request
          meant_by u k = ⊎_elim
              (λ (r : IsReplied (phase (events_of m.seen) the_request)). inr (subst (λ (j : List Line). IsReplied (phase (events_of j) the_request)) (sym seen_now) (replied_later S b.saw.later m.seen the_request legal_on r)))
              (λ (e : noted m.seen (user_at x) ≡ entry_then.user_data). inl (asked_match (events_of n.seen) c the_request w d facts_told.1 before is_c wants facts_told.3 (asked_by w facts_told.1 (ap (λ (z : Entry). z.user_data) same_entry ∙ (sym e ∙ u)) k))) user_then
