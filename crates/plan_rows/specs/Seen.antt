-- What all subqueries are worth, as the definitions see it.
use Rattle.std.specs.Prelude.{Result, Ok, Err, Vec}
use Rattle.std.specs.declared.alloc.Global.{Global}
use Rattle.sub_types.specs.declared.fault.Fault.{Fault}
use Rattle.plan_denote.specs.Holes.{Known}
use Rattle.sub_query.specs.Known.{known_seen}
use Rattle.sub_query.specs.declared.worth.KnownWorth.{KnownWorth}

-- what they are worth with the places where the values go, or the first fault
abbrev pub all_seen : Result (Vec KnownWorth Global) Fault → Result Known Fault
all_seen (Ok known) = Ok (known_seen known.items)
all_seen (Err fault) = Err fault
