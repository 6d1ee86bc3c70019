use Rattle.std.proofs.Common.{◌≡◌, Option, sym, subst}
use Rattle.plan_typed.specs.declared.expr.Expr.{Expr}
use Rattle.plan_denote.specs.Denote.{maybe_condition}
use Rattle.plan_denote.specs.Filter.{filtered}
use Rattle.batch.specs.BatchRows.{stream_of_piece}
use Rattle.pipe_steps.proofs.ReadLaws.{unfiltered}
use Rattle.pipe_steps.proofs.reading.chosen.Goals as goal

pub returns-in-None-clause-stream : goal.returns-in-None-clause-stream
returns-in-None-clause-stream c =
    let s = stream_of_piece c.args.input in
    let P : Option Expr → Type 0 = λ condition. s ≡ filtered c.args.relation (maybe_condition condition) s in
    subst P (sym c.in-None.is) (sym (unfiltered c.args.relation s))
