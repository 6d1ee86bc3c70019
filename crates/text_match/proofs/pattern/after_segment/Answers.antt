use Rattle.std.proofs.Common.{option_copied}
use Rattle.text_match.proofs.SignLaws.{Spells-after_signs, utf8_behind}
use Rattle.text_match.proofs.pattern.after_segment.Goals as goal

pub returns : goal.returns
returns c =
    let spelled = Spells-after_signs c.args.segment.now c.args.text.now (option_copied c.after_signs.result) c.requires.segment c.requires.text c.after_signs.ensures in
    record { value = spelled.value; utf8 = utf8_behind c.after_signs.result spelled.utf8 }
