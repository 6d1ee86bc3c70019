-- A plan whose subqueries are worked out one after the other: the plan as it was checked, and what the first so many are worth.
use Rattle.std.specs.Prelude.{◌≡◌, List, [], ◌∷◌, ◌++◌, Option, Some, None, Result, Ok, Err, length, drop, slice_get}
use Rattle.sub_types.specs.declared.fault.Fault.{Fault}
use Rattle.plan_typed.specs.declared.sub.Hole.{Hole}
use Rattle.plan_typed.specs.declared.sub.Holed.{Holed}
use Rattle.plan_typed.specs.declared.sub.Sub.{Sub}
use Rattle.plan_denote.specs.Denote.{Tables}
use Rattle.plan_denote.specs.Holes.{Worth, Known}
use Rattle.plan_denote.specs.Rows.{Row}
use Rattle.plan_denote.specs.Subqueries.{worths, rows_with}
use Rattle.sub_types.specs.Stream.{Stream, ended}
use Rattle.sub_query.specs.Known.{known_seen}
use Rattle.sub_query.specs.declared.worth.KnownWorth.{KnownWorth}

pub record Progress : Type 0 where
  pub plan : Holed
  pub known : Known

abbrev pub progress : Holed → List KnownWorth → Progress
progress plan known = record { plan = plan; known = known_seen known }

-- the subquery that comes next
abbrev pub next_of : Progress → Option Sub
next_of state = slice_get state.plan.subs (length state.known)

-- the value of a subquery is known, or its fault is given and nothing has changed
abbrev pub Follows : Progress → Hole → Result Worth Fault → Option Fault → Progress → Type 0
Follows old hole (Ok worth) None new = new ≡ record { plan = old.plan; known = old.known ++ (hole, worth) ∷ [] }
Follows old hole (Err fault) (Some given) new = (given ≡ fault) × (new ≡ old)
Follows old hole _ _ new = ⊥

-- the rows of the plan by what the first so many are worth
abbrev pub denoted : Tables → Progress → Stream Row
denoted tables state = rows_with tables state.plan.typed.rel (worths tables (drop (length state.known) state.plan.subs) state.known)

-- a step leaves the rows of the plan, or gives the fault that is all that the plan has
abbrev pub Leads : Tables → Progress → Option Fault → Progress → Type 0
Leads tables old None new = denoted tables new ≡ denoted tables old
Leads tables old (Some fault) new = denoted tables old ≡ ended (Some fault)
