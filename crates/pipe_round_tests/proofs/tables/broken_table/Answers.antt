use Rattle.std.proofs.Common.{List, sym, ap, subst}
use Rattle.std.specs.List.{All}
use Rattle.sub_types.specs.declared.kind.Ty.{Ty}
use Rattle.sub_types.specs.Value.{Fits}
use Rattle.rel_specs.specs.declared.join.JoinSpec.{JoinSpec}
use Rattle.pipe_round_tests.proofs.TableLaws.{none_have, no_rows_fit}
use Rattle.pipe_round_tests.proofs.tables.broken_table.Goals as goal

pub build-requires-clause-parts : goal.build-requires-clause-parts
build-requires-clause-parts c = none_have c.args.spec.right.items c.new-parts.result.items c.new-parts.ensures.items

pub invariant_of-result : goal.invariant_of-result
invariant_of-result c =
    record {
      fit = subst (λ (types : List Ty). All (Fits types) c.in_ok-table.table.rows) (sym (ap (λ (spec : JoinSpec). spec.right.items) c.in_ok-table.ensures.spec))
          (no_rows_fit c.args.spec.right.items c.new-parts.result.items c.in_ok-table.table.rows c.new-parts.ensures.items c.in_ok-table.ensures.rows);
    }
