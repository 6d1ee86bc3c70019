-- The relations before this one have their rows.
use Rattle.std.proofs.Common.{◌≡◌, map, take}
use Rattle.plan_denote.specs.Denote.{denote}
use Rattle.row_engine.specs.Tables.{tables_seen}
use Rattle.row_steps.specs.Seen.{seen}
use Rattle.row_engine.proofs.run.+run.Given as goal

abbrev pub invariant-run_all-loop-rel : goal.invariant-run_all-loop-rel
invariant-run_all-loop-rel l = map seen l.streams ≡ map (denote (tables_seen l.tables)) (take l.rel-index l.rels)
