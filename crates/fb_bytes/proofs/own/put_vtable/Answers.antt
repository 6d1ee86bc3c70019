use Rattle.std.proofs.Common.{rules}
use Rattle.fb_bytes.proofs.OwnLemmas.{vtable_appended}
use Rattle.fb_bytes.proofs.own.put_vtable.Goals as goal

pub returns-clause-bytes : goal.returns-clause-bytes
returns-clause-bytes c =
    vtable_appended c.args.slots c.fields_width.result _ c.args.out.now.items c.loop-slot.out.items (search rules) (search rules) (search rules)
