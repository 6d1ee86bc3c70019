use Rattle.std.proofs.Common.{◌∙◌, length, sym, ap, subst, arith}
use Rattle.std.specs.List.{AllByRecursion}
use Rattle.sub_types.specs.Stream.{Stream}
use Rattle.plan_denote.specs.Rows.{Row}
use Rattle.gen_data.specs.Summary.{demo_tables, demo_rows, IsSummaryRow}
use Rattle.demo_laws.proofs.DemoLevels.{denotes_over, demo_over}
use Rattle.demo_laws.proofs.DemoRowLaws.{demo_clean}
use Rattle.demo_laws.proofs.rows.demo_denotes_no_fault.Goals as goal

pub returns-clause-no_fault : goal.returns-clause-no_fault
returns-clause-no_fault c = λ number most. ap (λ (s : Stream Row). s.end) (denotes_over (demo_tables number)) ∙ (demo_clean number most).end

pub returns-clause-few : goal.returns-clause-few
unfolding demo_rows
returns-clause-few c = λ number most. omega (arith, ap (λ (s : Stream Row). length s.rows) (denotes_over (demo_tables number)), (demo_clean number most).rows.few)

pub returns-clause-regions : goal.returns-clause-regions
unfolding demo_rows
returns-clause-regions c = λ number most. omega (arith, ap (λ (s : Stream Row). length s.rows) (denotes_over (demo_tables number)), (demo_clean number most).rows.few)

pub returns-clause-shape : goal.returns-clause-shape
unfolding demo_rows
returns-clause-shape c = λ number most. subst (λ (s : Stream Row). AllByRecursion IsSummaryRow s.rows) (sym (denotes_over (demo_tables number))) (demo_clean number most).rows.each

pub returns-clause-same : goal.returns-clause-same
returns-clause-same c = λ number tables lines orders. denotes_over tables ∙ (λ i. demo_over (lines i) (orders i)) ∙ sym (denotes_over _)
