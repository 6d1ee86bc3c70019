use Rattle.std.proofs.Common.{◌∙◌, ap, length, false}
use Rattle.std.proofs.lemmas.List.{length-replicate}
use Rattle.plan_rules.proofs.MarkLaws.{are_fresh, are_fresh-none}
use Rattle.plan_rules.proofs.places.are_places.Goals as goal

pub loop-one-init : goal.loop-one-init
loop-one-init c = record {
  len = ap length c.in_ok-seen.ensures ∙ length-replicate c.args.count false;
  rest = ap (λ seen. are_fresh seen c.args.set.now) c.in_ok-seen.ensures ∙ are_fresh-none c.args.count c.args.set.now;
}
