use Rattle.std.proofs.Common.{◌≡◌, Some, Ok, ap, codes}
use Rattle.std.proofs.lemmas.Result.{IfOk-weaker}
use Rattle.gen_data.specs.Checked.{demo_plan}
use Rattle.gen_data.specs.Files.{demo_files}
use Rattle.run_top.specs.Answer.{accepted_at}
use Rattle.run_top.proofs.DemoLaws.{is_demo_plan, no_rise, plan_or_memory}
use Rattle.run_top.proofs.demo.plan_of_demo.Goals as goal

pub returns-clause-plan : goal.returns-clause-plan
returns-clause-plan c = λ number is.
    IfOk-weaker c.accepted_plan.result (λ plan. accepted_at (demo_files number) (codes "plan") ≡ Ok plan) (λ plan. plan ≡ demo_plan) (is_demo_plan number) (c.accepted_plan.ensures.plan (demo_files number) (ap Some is))

pub returns-clause-memory : goal.returns-clause-memory
returns-clause-memory c = λ number is. plan_or_memory c.accepted_plan.result number (c.accepted_plan.ensures.refused (demo_files number) (ap Some is)) (λ read. no_rise (c.accepted_plan.ensures.read_fault read))
