use Rattle.std.proofs.Common.{[], arith}
use Rattle.arrow_write.proofs.MessageLaws.{few_nodes, few_places}
use Rattle.arrow_write.proofs.message.empty_message.Goals as goal

pub message_of-requires-clause-few_nodes : goal.message_of-requires-clause-few_nodes
message_of-requires-clause-few_nodes c =
    let body = c.in_ok-empty_body.field-0 in
    omega (arith, few_nodes c.args.types.now [] body c.in_ok-empty_body.ensures c.requires, body.nodes.ok.0)

pub message_of-requires-clause-few_buffers : goal.message_of-requires-clause-few_buffers
message_of-requires-clause-few_buffers c =
    let body = c.in_ok-empty_body.field-0 in
    omega (arith, few_places c.args.types.now [] body c.in_ok-empty_body.ensures c.requires, body.places.ok.0)
