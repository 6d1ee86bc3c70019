-- One subquery after the other.
use Rattle.std.proofs.Common.{◌≡◌, ◌∙◌, ℕ, ◌+◌, ◌<◌, List, [], ◌∷◌, ◌++◌, Result, Ok, Err, drop, get_or, length, sym, ap}
use Rattle.std.proofs.lemmas.List.{drop_more, map_push}
use Rattle.sub_types.specs.declared.fault.Fault.{Fault}
use Rattle.plan_typed.specs.declared.sub.Holed.{Holed}
use Rattle.plan_typed.specs.declared.sub.Sub.{Sub}
use Rattle.plan_denote.specs.Denote.{Tables, denote}
use Rattle.plan_denote.specs.Holes.{Worth, Known, filled}
use Rattle.plan_denote.specs.Rows.{◌>>=◌}
use Rattle.plan_denote.specs.Subqueries.{denote_plan, rows_with, worth_of_stream, worths}
use Rattle.sub_query.specs.Known.{known_seen, worth_seen}
use Rattle.sub_query.specs.declared.worth.KnownWorth.{KnownWorth}

module _ (tables : Tables) (subs : List Sub) (place : ℕ) (sub : Sub) (known : List KnownWorth) (below : place < length subs) (here : sub ≡ get_or subs place sub) where
  -- what the subquery at the place is worth
  abbrev own : Result Worth Fault
  own = worth_of_stream sub (denote tables (filled (known_seen known) sub.rel))

  -- what follows it
  abbrev rest : Worth → Result Known Fault
  rest worth = worths tables (drop (place + 1) subs) (known_seen known ++ (sub.hole, worth) ∷ [])

  whole : worths tables (drop place subs) (known_seen known) ≡ (own >>= rest)
  whole = ap (λ list. worths tables list (known_seen known)) (drop_more subs place sub below ∙ ap (λ one. one ∷ drop (place + 1) subs) (sym here))

  -- one more is known
  pub one_more : (made : KnownWorth) (all : Result Known Fault) → made.hole ≡ sub.hole → Ok (worth_seen made.worth) ≡ own → worths tables (drop place subs) (known_seen known) ≡ all
      → worths tables (drop (place + 1) subs) (known_seen (known ++ made ∷ [])) ≡ all
  one_more made all hole is so_far =
      ap (worths tables (drop (place + 1) subs)) (map_push (λ (one : KnownWorth). (one.hole, worth_seen one.worth)) known made)
      ∙ ap (λ place_of. worths tables (drop (place + 1) subs) (known_seen known ++ (place_of, worth_seen made.worth) ∷ [])) hole
      ∙ ap (λ (found : Result Worth Fault). found >>= rest) is ∙ sym whole ∙ so_far

  -- a fault ends them
  pub stopped : (fault : Fault) (all : Result Known Fault) → Err fault ≡ own → worths tables (drop place subs) (known_seen known) ≡ all → Err fault ≡ all
  stopped fault all is so_far = ap (λ (found : Result Worth Fault). found >>= rest) is ∙ sym whole ∙ so_far

-- what a plan denotes, by what its subqueries are worth
pub plan_is : (tables : Tables) (plan : Holed) (found : Result Known Fault) → found ≡ worths tables plan.subs [] → rows_with tables plan.typed.rel found ≡ denote_plan tables plan
unfolding denote_plan
plan_is tables plan found is = ap (rows_with tables plan.typed.rel) is
