-- What subqueries are worth, as the definitions see it.
use Rattle.std.specs.Prelude.{◌≡◌, ℕ, List, Option, Result, Ok, Err, map}
use Rattle.std.specs.Borrow.{Bor}
use Rattle.std.specs.BTreeMap.{BTreeMap, get}
use Rattle.std.specs.Option.{option_map}
use Rattle.std.specs.Ordering.{nat_cmp}
use Rattle.sub_types.specs.declared.fault.Fault.{Fault}
use Rattle.plan_denote.specs.Holes.{Worth, Single, Among, Known, worth_at}
use Rattle.sub_query.specs.declared.worth.Worth.{Worth as MadeWorth}
use Rattle.sub_query.specs.declared.worth.Worth.TheVariants as made
use Rattle.sub_query.specs.declared.worth.KnownWorth.{KnownWorth}
use Rattle.sub_query.specs.declared.node_worths.NodeWorths.{NodeWorths}

-- one worth, and those that are known with the places where they go
abbrev pub worth_seen : MadeWorth → Worth
worth_seen (made.Single value) = Single value
worth_seen (made.Among column found) = Among column found

abbrev pub known_seen : List KnownWorth → Known
known_seen known = map (λ one. (one.hole, worth_seen one.worth)) known

-- what goes to a node, by a map of the nodes
abbrev pub found_at : BTreeMap ℕ (Bor MadeWorth) → ℕ → Option Worth
found_at worths node = option_map (λ worth. worth_seen worth.now) (get nat_cmp worths node)

-- the map has what goes to the nodes of a relation
abbrev pub IsOfRelation : List KnownWorth → ℕ → BTreeMap ℕ (Bor MadeWorth) → Type 0
IsOfRelation known relation worths = (node : ℕ) → found_at worths node ≡ worth_at (known_seen known) relation node

-- what goes to the nodes of a relation
abbrev pub worths_at : NodeWorths → ℕ → Option Worth
worths_at worths = found_at worths.by_node

-- what a subquery gives, or its fault
abbrev pub found_seen : Result MadeWorth Fault → Result Worth Fault
found_seen (Ok worth) = Ok (worth_seen worth)
found_seen (Err fault) = Err fault
