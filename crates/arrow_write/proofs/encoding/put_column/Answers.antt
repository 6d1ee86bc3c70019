use Rattle.arrow_write.specs.Bodies.{Puts, buffers_of}
use Rattle.arrow_write.proofs.Parts.{at_ok}
use Rattle.arrow_write.proofs.KindBuffers.{Puts-column}
use Rattle.arrow_write.proofs.encoding.put_column.Goals as goal

pub returns-clause-put : goal.returns-clause-put
returns-clause-put c =
    at_ok (Puts c.args.body.now c.put_node.new.self (buffers_of c.args.column.now)) c.put_node.result
    (Puts-column c.args.column.now c.validity_of-valid.result.now c.args.body.now c.put_validity.new.body c.put_values.new.body c.put_node.new.self c.validity_of-valid.ensures c.in_ok-nulls.ensures.put c.in_ok-put_values.ensures.put c.put_node.ensures.bytes c.put_node.ensures.places)
