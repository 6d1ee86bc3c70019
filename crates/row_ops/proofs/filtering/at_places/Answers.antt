use Rattle.std.proofs.Common.{◌∙◌, ℕ, List, [], ap, sym, arith}
use Rattle.sub_types.specs.Rows.{picked}
use Rattle.batch.specs.BatchRows.{rows_of}
use Rattle.row_ops.proofs.PlaceLaws.{picked_all}
use Rattle.row_ops.proofs.filtering.at_places.Goals as goal

pub returns-then-places-batch-clause-rows : goal.returns-then-places-batch-clause-rows
returns-then-places-batch-clause-rows c =
    sym (ap (λ (places : List ℕ). picked [] places (rows_of c.args.batch)) (c.requires.all (omega (arith, c.if-places-batch.true))) ∙ picked_all c.args.batch)
