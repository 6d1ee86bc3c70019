use Rattle.std.proofs.Common.{◌∙◌, List, sym, ap, subst}
use Rattle.std.specs.List.{All}
use Rattle.sub_types.specs.declared.kind.Ty.{Ty}
use Rattle.sub_types.specs.Value.{Fits}
use Rattle.rel_specs.specs.declared.join.JoinSpec.{JoinSpec}
use Rattle.batch.specs.BatchRows.{types_of}
use Rattle.pipe_round_tests.proofs.TableLaws.{one_has, rows_fit}
use Rattle.pipe_round_tests.proofs.tables.table_of.Goals as goal

pub build-requires-clause-parts : goal.build-requires-clause-parts
build-requires-clause-parts c =
    let right = c.args.spec.right.items in
    one_has right c.push.new.self.items c.new-parts.result.items c.in_ok-part.part c.in_ok-push.ensures.items c.new-parts.ensures.items (ap types_of c.in_ok-part.ensures ∙ c.requires.typed ∙ sym c.requires.right)

pub invariant_of-result : goal.invariant_of-result
invariant_of-result c =
    let right = c.args.spec.right.items in
    record {
      fit = subst (λ (types : List Ty). All (Fits types) c.in_ok-table.table.rows) (sym (ap (λ (spec : JoinSpec). spec.right.items) c.in_ok-table.ensures.spec))
          (rows_fit right c.push.new.self.items c.new-parts.result.items c.in_ok-part.part c.args.batch c.in_ok-table.table.rows c.in_ok-push.ensures.items c.new-parts.ensures.items c.in_ok-part.ensures (c.requires.typed ∙ sym c.requires.right) c.requires.fit c.in_ok-table.ensures.rows);
    }
