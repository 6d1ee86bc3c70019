use Rattle.std.proofs.Common.{◌≤◌, length, arith}
use Rattle.std.proofs.lemmas.List.{length-map}
use Rattle.sub_types.specs.declared.value.Value.TheVariants.{Null}
use Rattle.batch.specs.BatchRows.{types_of, rows_of, columns_of}
use Rattle.batch.specs.Column.{column_type}
use Rattle.batch.proofs.RowLaws.{length-transpose}
use Rattle.arrow_write.specs.Progress.{IsMessage}
use Rattle.arrow_write.proofs.OkLaws.{if_ok}
use Rattle.arrow_write.proofs.MessageLaws.{few_nodes, few_places}
use Rattle.arrow_write.proofs.message.batch_message.Goals as goal

pub message_of-requires-clause-few_nodes : goal.message_of-requires-clause-few_nodes
message_of-requires-clause-few_nodes c =
    let batch = c.args.batch.now in
    let body = c.in_ok-batch_body.field-0 in
    let few : length (types_of batch) ≤ 1024 = omega (arith, c.requires, length-map batch.columns.items column_type, batch.columns.ok.0) in
    omega (arith, few_nodes (types_of batch) (rows_of batch) body c.in_ok-batch_body.ensures few, body.nodes.ok.0)

pub message_of-requires-clause-few_buffers : goal.message_of-requires-clause-few_buffers
message_of-requires-clause-few_buffers c =
    let batch = c.args.batch.now in
    let body = c.in_ok-batch_body.field-0 in
    let few : length (types_of batch) ≤ 1024 = omega (arith, c.requires, length-map batch.columns.items column_type, batch.columns.ok.0) in
    omega (arith, few_places (types_of batch) (rows_of batch) body c.in_ok-batch_body.ensures few, body.places.ok.0)

pub returns : goal.returns
returns c =
    let batch = c.args.batch.now in
    if_ok _ (IsMessage (types_of batch) (rows_of batch)) c.message_of.result
    (λ message all. all (types_of batch) (rows_of batch) (length-transpose Null batch.rows (columns_of batch)) c.in_ok-batch_body.ensures) c.message_of.ensures
