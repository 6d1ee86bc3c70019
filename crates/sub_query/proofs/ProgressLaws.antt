-- One subquery more leads to the rows of the plan.
use Rattle.std.proofs.Common.{◌≡◌, ◌∙◌, ℕ, ◌+◌, ◌≤◌, List, [], ◌∷◌, ◌++◌, Option, Some, None, Result, Ok, Err, IfOk, drop, length, slice_get, refl, sym, ap, subst, inl, inr}
use Rattle.std.proofs.lemmas.List.{drop_all, drop_more, length_push}
use Rattle.std.proofs.lemmas.Option.{get_or_from_slice_get, slice_get_cases, slice_get_within}
use Rattle.sub_types.specs.Stream.{Stream, rows_alone, ended}
use Rattle.sub_types.specs.declared.fault.Fault.{Fault}
use Rattle.plan_typed.specs.declared.rel.Rel.{Rel}
use Rattle.plan_typed.specs.declared.sub.Holed.{Holed}
use Rattle.plan_typed.specs.declared.sub.Sub.{Sub}
use Rattle.plan_denote.specs.Denote.{Tables, denote}
use Rattle.plan_denote.specs.Holes.{Worth, Known, filled}
use Rattle.plan_denote.specs.Rows.{Row, ◌>>=◌}
use Rattle.plan_denote.specs.Subqueries.{worth_of, worth_of_stream, worth_unless, worths, rows_with, denote_plan}
use Rattle.sub_query.specs.declared.worth.KnownWorth.{KnownWorth}
use Rattle.sub_query.specs.Progress.{Progress, progress, next_of, Follows, denoted, Leads}

module _ (tables : Tables) (old new : Progress) (sub : Sub) where
  abbrev place : ℕ
  place = length old.known

  -- the rows of the main relation by what all are worth
  abbrev with_main : Result Known Fault → Stream Row
  with_main = rows_with tables old.plan.typed.rel

  -- what follows the next one's worth
  abbrev rest : Worth → Result Known Fault
  rest worth = worths tables (drop (place + 1) old.plan.subs) (old.known ++ (sub.hole, worth) ∷ [])

  whole : (s : Stream Row) → next_of old ≡ Some sub → denote tables (filled old.known sub.rel) ≡ s → denoted tables old ≡ with_main (worth_of_stream sub s >>= rest)
  whole s is denotes =
      let below = slice_get_within old.plan.subs place sub is in
      let next = get_or_from_slice_get old.plan.subs place sub sub is in
      ap (λ list. with_main (worths tables list old.known)) (drop_more old.plan.subs place sub below ∙ ap (λ one. one ∷ drop (place + 1) old.plan.subs) next)
      ∙ ap (λ (s : Stream Row). with_main (worth_of_stream sub s >>= rest)) denotes

  by_worth : (found : Result Worth Fault) (fault : Option Fault) → denoted tables old ≡ with_main (found >>= rest) → Follows old sub.hole found fault new → Leads tables old fault new
  by_worth (Ok worth) None end is = ap (denoted tables) is ∙ ap (λ (n : ℕ). with_main (worths tables (drop n old.plan.subs) (old.known ++ (sub.hole, worth) ∷ []))) (length_push old.known (sub.hole, worth)) ∙ sym end
  by_worth (Ok worth) (Some given) end is = absurd is
  by_worth (Err fault) None end is = absurd is
  by_worth (Err fault) (Some given) end is = end ∙ ap (λ (one : Fault). ended (Some one)) (sym is.0)

  pub stepped : (rows : List Row) (fault : Option Fault) → next_of old ≡ Some sub → denote tables (filled old.known sub.rel) ≡ rows_alone rows
      → Follows old sub.hole (worth_of sub.rel sub.kind rows) fault new → Leads tables old fault new
  stepped rows fault is denotes follows = by_worth (worth_of sub.rel sub.kind rows) fault (whole (rows_alone rows) is denotes) follows

  -- a subquery whose rows end in a fault
  pub at_fault : (fault : Fault) → next_of old ≡ Some sub → (denote tables (filled old.known sub.rel)).end ≡ Some fault → denoted tables old ≡ ended (Some fault)
  at_fault fault is ends =
      let s = denote tables (filled old.known sub.rel) in
      whole s is refl ∙ ap (λ (end : Option Fault). with_main (worth_unless end (worth_of sub.rel sub.kind s.rows) >>= rest)) ends

-- after the last subquery
pub at_end : (tables : Tables) (state : Progress) → next_of state ≡ None → denote tables (filled state.known state.plan.typed.rel) ≡ denoted tables state
at_end tables state is = ap (λ list. rows_with tables state.plan.typed.rel (worths tables list state.known)) (sym (behind (length state.known) state.plan.subs is))
  where
    past : (n : ℕ) (subs : List Sub) → slice_get subs n ≡ None → length subs ≤ n
    past n subs is = elim (slice_get_cases subs n).1 [ inl found ↦ absurd (cc (found.2, is)) | inr far ↦ far.0 ]

    behind : (n : ℕ) (subs : List Sub) → slice_get subs n ≡ None → drop n subs ≡ []
    behind n subs is = drop_all n subs (past n subs is)

pub leads : (tables : Tables) (old new : Progress) (one sub : Sub) (rows : List Row) (found : Result Worth Fault) (fault : Option Fault) → next_of old ≡ Some one → found ≡ worth_of one.rel one.kind rows
    → Follows old one.hole found fault new → next_of old ≡ Some sub → denote tables (filled old.known sub.rel) ≡ rows_alone rows → Leads tables old fault new
leads tables old new one sub rows found fault is_one is_found follows is_sub denotes =
    let same : one ≡ sub = cc (is_one, is_sub) in
    stepped tables old new sub rows fault is_sub denotes (subst (λ (next : Sub). Follows old next.hole (worth_of next.rel next.kind rows) fault new) same (subst (λ (r : Result Worth Fault). Follows old one.hole r fault new) is_found follows))

-- where nothing is known yet
pub start : (tables : Tables) (plan : Holed) (known : List KnownWorth) → known ≡ [] → denoted tables (progress plan known) ≡ denote_plan tables plan
unfolding denote_plan
start tables plan known none = ap (λ list. denoted tables (progress plan list)) none

-- the relation that is made of the next subquery ends in a fault
pub next_fault : (tables : Tables) (state : Progress) (sub : Sub) (made rel : Rel) (fault : Fault) → next_of state ≡ Some sub → made ≡ filled state.known sub.rel → made ≡ rel → (denote tables rel).end ≡ Some fault
    → denoted tables state ≡ ended (Some fault)
next_fault tables state sub made rel fault is is_made same ends = at_fault tables state state sub fault is (subst (λ (one : Rel). (denote tables one).end ≡ Some fault) (sym same ∙ is_made) ends)

-- the main relation that is made after the last subquery
pub main_made : {E : Type 0} (state : Progress) (made : Result Rel E) → IfOk made (λ rel. rel ≡ filled state.known state.plan.typed.rel)
    → IfOk made (λ rel. (tables : Tables) → next_of state ≡ None → denote tables rel ≡ denoted tables state)
main_made state (Ok rel) is = λ tables end. ap (denote tables) is ∙ at_end tables state end
main_made state (Err error) is = tt
