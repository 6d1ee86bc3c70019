use Rattle.std.proofs.Common.{◌≡◌, ◌∙◌, sym, refl, None}
use Rattle.std.proofs.lemmas.Bool.{and_from}
use Rattle.plan_scan.specs.Flaw.{flaw}
use Rattle.plan_scan.proofs.ReadableLaws.{plan_readable}
use Rattle.plan_scan.proofs.message.Message.plan.Goals as goal

pub invariant_of-result : goal.invariant_of-result
invariant_of-result c =
    let none : flaw c.args.bytes.now ≡ None = sym c.flaw_of.ensures ∙ c.in-None.is in
    (and_from _ _ (plan_readable c.args.bytes.now none) refl, tt)
