use Rattle.std.proofs.Common.{◌/◌, length, rules, ◌∙◌}
use Rattle.fb_bytes.proofs.OwnLemmas.{structs_appended}
use Rattle.fb_bytes.proofs.own.put_structs.Goals as goal

pub returns : goal.returns
returns c =
    c.in_ok-fill.ensures ∙ structs_appended c.len-start.result c.args.width (length c.args.structs.now / c.args.width) c.args.out.now.items c.args.structs.now c.extend_from_slice.new.self.items (search rules) (search rules) (search rules)
