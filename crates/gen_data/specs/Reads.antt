-- The tables that the demo's plan reads.
use Rattle.std.specs.Prelude.{[], ◌∷◌, codes}
use Rattle.plan_reads.specs.declared.reads.Origin.TheVariants as origins
use Rattle.plan_reads.specs.declared.reads.PlanRead.{PlanRead}
use Rattle.gen_data.specs.Plan.{line_names, order_names}
use Rattle.gen_data.specs.Checked.{line_types, order_types}

abbrev pub lines_read : PlanRead
lines_read = record { relation = 3; origin = origins.Named (codes "lines" ∷ []); names = line_names; types = line_types }

abbrev pub orders_read : PlanRead
orders_read = record { relation = 4; origin = origins.Named (codes "orders" ∷ []); names = order_names; types = order_types }
