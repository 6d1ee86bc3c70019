use Rattle.std.proofs.Common.{ap, length, sym, arith}
use Rattle.std.proofs.lemmas.List.{take_rest}
use Rattle.text_match.proofs.SignLaws.{after_character-some}
use Rattle.text_match.proofs.StepLaws.{no_characters}
use Rattle.text_match.proofs.EndLaws.{IsEndAsLong-from, one_less, too_short}
use Rattle.text_match.proofs.pattern.end_as_long.Goals as goal

pub returns-in_err-start : goal.returns-in_err-start
returns-in_err-start c =
    let kept = c.loop-later.invariant in
    let step = after_character-some c.loop-later.signs.now c.in-Some.later.now kept.2 (sym c.in-Some.ensures) in
    rw c.from_residual.ensures (too_short c.args.text.now c.args.segment.now c.loop-later.signs.now c.in-Some.later.now c.loop-later.start c.in_err-start.ensures step kept.3)

pub loop-later-preserved : goal.loop-later-preserved
loop-later-preserved c =
    let kept = c.loop-later.invariant in
    let step = after_character-some c.loop-later.signs.now c.in-Some.later.now kept.2 (sym c.in-Some.ensures) in
    one_less c.args.text.now c.args.segment.now c.loop-later.signs.now c.in-Some.later.now c.loop-later.start c.in_ok-start.start kept.0 c.in_ok-start.ensures step kept.3

pub returns : goal.returns
returns c =
    let kept = c.loop-later.invariant in
    let none = ap length (no_characters c.loop-later.signs.now kept.2 c.in_default.ensures) in
    IsEndAsLong-from c.args.text.now c.args.segment.now _ c.loop-later.start c.requires.text kept.1 kept.0 (take_rest c.args.text.now c.loop-later.start) (omega (arith, kept.3, none))
