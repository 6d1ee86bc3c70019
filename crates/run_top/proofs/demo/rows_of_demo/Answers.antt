use Rattle.std.proofs.Common.{Some, ap}
use Rattle.gen_data.specs.Files.{demo_files}
use Rattle.run_top.proofs.DemoLaws.{no_rise, ran_or_refused, rows_or_memory}
use Rattle.run_top.proofs.demo.rows_of_demo.Goals as goal

pub returns-clause-ran : goal.returns-clause-ran
returns-clause-ran g c =
    ran_or_refused c.args.reading.number c.args.reading.workers c.args.bindings.now c.args.plan.now c.rows_of_plan.result c.requires.few c.requires.workers c.requires.few_workers c.requires.bindings c.requires.plan
    (c.rows_of_plan.ensures.rows (demo_files c.args.reading.number) (ap Some c.requires.files))

pub returns-clause-memory : goal.returns-clause-memory
returns-clause-memory g c =
    rows_or_memory c.args.reading.number c.args.reading.workers c.args.bindings.now c.args.plan.now c.rows_of_plan.result c.requires.few c.requires.bindings c.requires.plan
    (c.rows_of_plan.ensures.rows (demo_files c.args.reading.number) (ap Some c.requires.files)) (λ read. no_rise (c.rows_of_plan.ensures.read_fault read))
