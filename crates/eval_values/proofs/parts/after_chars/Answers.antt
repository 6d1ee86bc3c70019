use Rattle.std.proofs.Common.{chars, ◌∙◌, sym, arith}
use Rattle.std.specs.Str.Iter.{chars_rest}
use Rattle.std.proofs.lemmas.Str.{encodes-chars}
use Rattle.eval_values.proofs.Chars.{passed_all, passed_more}
use Rattle.eval_values.proofs.parts.after_chars.Goals as goal

pub loop-passed-init : goal.loop-passed-init
loop-passed-init c = c.chars-rest.ensures.rest ∙ sym (encodes-chars c.args.text.now c.utf8.text)

pub returns-in_default : goal.returns-in_default
returns-in_default c =
    passed_all (chars c.args.text.now) (chars_rest c.loop-passed.rest) c.loop-passed._passed c.args.count c.loop-passed.invariant c.in_default.ensures.steps.0.0 (omega arith)

pub loop-passed-preserved : goal.loop-passed-preserved
loop-passed-preserved c =
    passed_more (chars c.args.text.now) (chars_rest c.loop-passed.rest) (chars_rest c.next.new.self) c.loop-passed._passed _ c.loop-passed.invariant c.in-Some.ensures.steps.0
