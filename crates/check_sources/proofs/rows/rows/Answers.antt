use Rattle.std.proofs.Common.{ℕ, List, map, sym, subst, rules}
use Rattle.plan_raw.specs.declared.source.VirtualTable.{out-VirtualTable}
use Rattle.plan_verdict.specs.Reads.{rows_in}
use Rattle.plan_verdict.specs.Verdict.{checked_row}
use Rattle.sub_types.specs.declared.kind.Ty.{Ty}
use Rattle.plan_typed.specs.declared.expr.Expr.{Expr}
use Rattle.plan_verdict.specs.Checking.{Checking, Comes}
use Rattle.plan_verdict.proofs.FoldLaws.{checked_table-out}
use Rattle.check_sources.proofs.rows.rows.Goals as goal

pub returns : goal.returns
returns g c =
    let found : Comes c.rows_of.result (rows_in (out-VirtualTable c.args.table.now).values (map (checked_row c.args.terms.now) (out-VirtualTable c.args.table.now).expressions) c.args.number c.args.types.now c.args.progress) = search rules in
    subst (λ (check : ℕ → List Ty → Checking (List (List Expr))). Comes c.rows_of.result (check c.args.number c.args.types.now c.args.progress)) (sym (checked_table-out c.args.terms.now c.args.table.now)) found
