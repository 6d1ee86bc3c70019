use Rattle.std.proofs.Common.{ap, sym, length}
use Rattle.spell_leaves.specs.declared.part.MessagesRef.{MessagesRef}
use Rattle.spell_leaves.specs.Seen.{messages_seen}
use Rattle.spell_leaves.proofs.part.MessagesRef.len.Goals as goal

pub returns-in-ExtensionFunction : goal.returns-in-ExtensionFunction
returns-in-ExtensionFunction c = ap (λ (messages : MessagesRef). length (messages_seen messages).nodes) (sym c.in-ExtensionFunction.is)

pub returns-in-Emit : goal.returns-in-Emit
returns-in-Emit c = ap (λ (messages : MessagesRef). length (messages_seen messages).nodes) (sym c.in-Emit.is)

pub returns-in-TypeStruct : goal.returns-in-TypeStruct
returns-in-TypeStruct c = ap (λ (messages : MessagesRef). length (messages_seen messages).nodes) (sym c.in-TypeStruct.is)

pub returns-in-DecimalLiteral : goal.returns-in-DecimalLiteral
returns-in-DecimalLiteral c = ap (λ (messages : MessagesRef). length (messages_seen messages).nodes) (sym c.in-DecimalLiteral.is)

pub returns-in-PlainType : goal.returns-in-PlainType
returns-in-PlainType c = ap (λ (messages : MessagesRef). length (messages_seen messages).nodes) (sym c.in-PlainType.is)

pub returns-in-DecimalType : goal.returns-in-DecimalType
returns-in-DecimalType c = ap (λ (messages : MessagesRef). length (messages_seen messages).nodes) (sym c.in-DecimalType.is)
