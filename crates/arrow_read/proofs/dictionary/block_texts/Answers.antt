use Rattle.std.proofs.Common.{◌∙◌, sym}
use Rattle.arrow_read.proofs.TextLaws.{decoded_texts}
use Rattle.arrow_read.proofs.dictionary.block_texts.Goals as goal

pub returns-clause-utf8 : goal.returns-clause-utf8
returns-clause-utf8 g c = λ texts is. decoded_texts c.args.wide c.args.block.now.values c.deref.result.now texts (sym c.in_ok-decode_texts.ensures ∙ is)
