-- What is known, with the subqueries that are left, gives what all of them give.
use Rattle.std.proofs.Common.{◌≡◌, [], drop}
use Rattle.plan_denote.specs.Subqueries.{worths}
use Rattle.row_engine.specs.Tables.{tables_seen}
use Rattle.sub_query.specs.Known.{known_seen}
use Rattle.plan_rows.proofs.run.worths_of.Given as goal

abbrev pub invariant-loop-sub : goal.invariant-loop-sub
invariant-loop-sub l = worths (tables_seen l.tables) (drop l.sub-index l.subs) (known_seen l.known.items) ≡ worths (tables_seen l.tables) l.subs []
