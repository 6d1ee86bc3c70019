use Rattle.pb_wire.proofs.FieldLaws.{joined}
use Rattle.pb_wire.proofs.laws.records_of_joined.Goals as goal

pub returns-clause-fields : goal.returns-clause-fields
returns-clause-fields c first second whole = (joined first second whole).fields

pub returns-clause-whole : goal.returns-clause-whole
returns-clause-whole c first second whole = (joined first second whole).whole
