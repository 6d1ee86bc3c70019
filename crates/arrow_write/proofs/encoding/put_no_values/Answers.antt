use Rattle.std.proofs.Common.{[]}
use Rattle.arrow_meta.specs.Buffers.{column_buffers}
use Rattle.arrow_write.specs.Bodies.{Puts}
use Rattle.arrow_write.proofs.Parts.{at_ok}
use Rattle.arrow_write.proofs.KindBuffers.{Puts-none}
use Rattle.arrow_write.proofs.encoding.put_no_values.Goals as goal

pub returns-clause-put : goal.returns-clause-put
returns-clause-put c =
    at_ok (Puts c.args.body.now c.put_node.new.self (column_buffers c.args.kind [])) c.put_node.result
    (Puts-none c.args.kind c.args.body.now c.put.new.self c.put_no_slots.new.body c.put_node.new.self c.in_ok-put.ensures.put c.in_ok-put_no_slots.ensures.put c.put_node.ensures.bytes c.put_node.ensures.places)
