use Rattle.std.proofs.Common.{length, rules, ◌∙◌}
use Rattle.fb_bytes.proofs.OwnLemmas.{text_appended}
use Rattle.fb_bytes.proofs.own.put_text.Goals as goal

pub returns : goal.returns
returns c =
    c.in_ok-fill.ensures ∙ text_appended c.len-start.result (length c.args.text.now) c.args.out.now.items c.args.text.now c.push.new.self.items (search rules) (search rules) (search rules)
