use Rattle.std.proofs.lemmas.Str.{is_utf8-from_IsUtf8}
use Rattle.plan_rules.proofs.literals.text_in.Goals as goal

pub returns : goal.returns
returns c = rw (is_utf8-from_IsUtf8 c.args.value.now c.utf8.value, ← c.as_bytes.ensures.value) c.bytes_in.ensures
