use Rattle.std.proofs.Common.{◌+◌, ◌∙◌, Some, None, IsUtf8, chars, length, sym, ap, subst}
use Rattle.std.proofs.lemmas.List.{take_rest}
use Rattle.text_match.proofs.SignLaws.{Spells-find}
use Rattle.text_match.proofs.pattern.after_literal.Goals as goal

pub returns-in_err-start-clause-value : goal.returns-in_err-start-clause-value
returns-in_err-start-clause-value c =
    let spelled = Spells-find c.args.text.now c.args.literal.now None c.requires.text c.requires.literal c.requires.no_wildcard c.in_err-start.ensures in
    rw c.from_residual.ensures spelled.value

pub returns-clause-value : goal.returns-clause-value
returns-clause-value c =
    let spelled = Spells-find c.args.text.now c.args.literal.now (Some c.in_ok-start.start) c.requires.text c.requires.literal c.requires.no_wildcard c.in_ok-start.ensures in
    ap Some (ap chars (take_rest c.args.text.now (c.in_ok-start.start + length c.args.literal.now))) ∙ spelled.value

pub returns-clause-utf8 : goal.returns-clause-utf8
returns-clause-utf8 c =
    let spelled = Spells-find c.args.text.now c.args.literal.now (Some c.in_ok-start.start) c.requires.text c.requires.literal c.requires.no_wildcard c.in_ok-start.ensures in
    subst IsUtf8 (sym (take_rest c.args.text.now (c.in_ok-start.start + length c.args.literal.now))) spelled.utf8
