-- The arguments' values are those at the rows before the stop.
use Rattle.std.proofs.Common.{◌≡◌, ◌∙◌, List, sym, subst}
use Rattle.eval_row.specs.Lists.{kinds_of}
use Rattle.batch_nodes.specs.Parts.{AreColumns}
use Rattle.batch_nodes.specs.declared.found.Found.{Found}
use Rattle.eval_batch.proofs.ValueLaws.{call_in_kind, call_made}
use Rattle.batch_nodes.proofs.CallLaws.{call_kind}
use Rattle.eval_batch.proofs.nodes.call_values.Goals as goal

pub apply_columns-requires : goal.apply_columns-requires
apply_columns-requires c =
    let columns = c.args.columns.now in
    let are = subst (λ (found : List Found). AreColumns c.args.args.now c.args.batch.now c.args.rows.now found columns.len columns.stop) (sym c.as_slice-2.ensures.value) c.requires.are in
    let given_is : c.as_slice.result.now ≡ kinds_of c.args.args.now = c.as_slice.ensures.value ∙ c.in_ok-given.ensures in
    record {
      valid_kind = call_kind c.args.batch.now c.args.func c.args.mode c.args.args.now c.args.ty c.requires.typed;
      long = are.long;
      in_kind = call_in_kind c.args.batch.now c.args.func c.args.mode c.args.args.now c.args.ty c.requires.typed c.requires.strict c.args.rows.now c.as_slice-2.result.now columns.len columns.stop are c.as_slice.result.now given_is c.requires.fit c.requires.exist;
    }

pub returns : goal.returns
returns c =
    let columns = c.args.columns.now in
    let are = subst (λ (found : List Found). AreColumns c.args.args.now c.args.batch.now c.args.rows.now found columns.len columns.stop) (sym c.as_slice-2.ensures.value) c.requires.are in
    let given_is : c.as_slice.result.now ≡ kinds_of c.args.args.now = c.as_slice.ensures.value ∙ c.in_ok-given.ensures in
    call_made c.args.batch.now c.args.func c.args.mode c.args.args.now c.args.ty c.requires.typed c.requires.strict c.args.rows.now c.as_slice-2.result.now columns.len columns.stop are c.as_slice.result.now given_is
    c.in_ok-column.column c.in_ok-column.stop c.stop_of.result c.in_ok-column.ensures.values c.in_ok-column.ensures.stop c.in_ok-column.ensures.ty c.stop_of.ensures
