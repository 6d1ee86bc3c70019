use Rattle.pb_write.proofs.WriteLaws.{message_read}
use Rattle.pb_write.proofs.laws.messages_read_back.Goals as goal

pub returns-clause-fields : goal.returns-clause-fields
returns-clause-fields c fields can = (message_read fields can).0

pub returns-clause-whole : goal.returns-clause-whole
returns-clause-whole c fields can = (message_read fields can).1
