use Rattle.std.proofs.Common.{sym, subst, ◌∙◌}
use Rattle.std.specs.Int.{w64}
use Rattle.std.proofs.lemmas.Int.{to_z-of_z}
use Rattle.plan_denote.specs.Computed.{Computed}
use Rattle.eval_values.specs.Gives.{Gives}
use Rattle.eval_values.proofs.Substring.{counted_part}
use Rattle.eval_values.proofs.texts.counted_from_start.Goals as goal

pub returns : goal.returns
returns c =
    let part = counted_part c.args.text.now c.in-Some.text.now c.after_chars-rest.result.now c.first_chars.result.now c.args.start c.args.count
    c.in-Some-chars_before.before c.in-Some-count_of.count c.in-Some.ensures.0 c.in-Some.ensures.1
    (sym (to_z-of_z w64 c.args.start c.ranges.start) ∙ c.in-Some-chars_before.ensures)
    (sym (to_z-of_z w64 c.args.count c.ranges.count) ∙ c.in-Some-count_of.ensures)
    c.after_chars-rest.utf8 c.after_chars-rest.ensures c.first_chars.ensures in
    subst (λ (z : Computed). Gives c.copied.result z) (sym part) c.copied.ensures
