use Rattle.std.proofs.Common.{◌-◌, ◌∙◌, sym, arith}
use Rattle.text_match.specs.Segments.{begins_character}
use Rattle.text_match.proofs.EndLaws.{BeginsLast-found, IsLastByte-before, no_characters-found}
use Rattle.text_match.proofs.pattern.last_character.Goals as goal

pub returns-then-begins_character : goal.returns-then-begins_character
returns-then-begins_character c =
    let start = c.loop-start.start in
    let begins = sym c.begins_character.ensures ∙ c.if-begins_character.true in
    BeginsLast-found c.args.text.now (start - 1) c.requires (IsLastByte-before begins_character c.args.text.now start (omega arith) c.loop-start.invariant.0 c.loop-start.invariant.1 begins)

pub returns : goal.returns
returns c = no_characters-found c.args.text.now c.requires (λ k from below. c.loop-start.invariant.1 k (omega arith) below)
