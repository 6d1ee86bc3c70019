use Rattle.std.proofs.Common.{◌∙◌, Ok, ap, sym}
use Rattle.gather_plans.specs.Over.{gathered_stream}
use Rattle.run_accepted.proofs.DoneLaws.{ran_fault, ran_rows}
use Rattle.run_accepted.proofs.rows.rows_of_gathered.Goals as goal

pub returns-in-Some-clause-rows : goal.returns-in-Some-clause-rows
returns-in-Some-clause-rows c = λ workers opened is zip. ran_fault c.args.plan.now opened (gathered_stream c.args.all) is c.in-Some.fault c.in-Some.is

pub returns-in-Ok-clause-rows : goal.returns-in-Ok-clause-rows
returns-in-Ok-clause-rows c = λ workers opened is zip.
    record {
      rows = ran_rows c.args.plan.now opened (gathered_stream c.args.all) is c.in_default.is ∙ ap Ok (sym c.in-Ok.ensures);
      receipts = zip c.in_default.is;
    }
