-- What is done over tables, once what the plan denotes over them is known.
use Rattle.std.proofs.Common.{◌≡◌, ◌∙◌, List, Option, Some, None, Ok, Err, map, refl, sym, ap, subst}
use Rattle.sub_types.specs.ResultSteps.{◌>>=◌}
use Rattle.sub_types.specs.Stream.{Stream}
use Rattle.sub_types.specs.declared.fault.Fault.{Fault}
use Rattle.plan_typed.specs.declared.sub.Holed.{Holed}
use Rattle.plan_denote.specs.Rows.{Row}
use Rattle.plan_denote.specs.Subqueries.{denote_plan}
use Rattle.plan_tables.specs.Tables.{Opened, tables_of}
use Rattle.run_words.specs.Words.{Reading}
use Rattle.run_words.specs.declared.status.Status.TheVariants as status
use Rattle.run_accepted.specs.Done.{input_of, whole, rows_over, done_with, done_over}

-- what is written of a stream
abbrev written_of : Reading → Holed → List Opened → Stream Row → Type 0
written_of reading plan opened s = done_over reading plan opened ≡ (whole s >>= done_with reading plan (map input_of opened))

over : (reading : Reading) (plan : Holed) (opened : List Opened) → written_of reading plan opened (denote_plan (tables_of opened) plan)
unfolding done_over
over reading plan opened = refl

module _ (reading : Reading) (plan : Holed) (opened : List Opened) (s : Stream Row) (is : s ≡ denote_plan (tables_of opened) plan) where
  -- the stream decides
  by_stream : written_of reading plan opened s
  by_stream = subst (written_of reading plan opened) (sym is) (over reading plan opened)

  pub over_fault : (fault : Fault) → s.end ≡ Some fault → done_over reading plan opened ≡ Err (status.DataFault fault)
  over_fault fault end = subst (λ (e : Option Fault). written_of reading plan opened (record { rows = s.rows; end = e })) end by_stream

  pub over_rows : s.end ≡ None → done_over reading plan opened ≡ done_with reading plan (map input_of opened) s.rows
  over_rows end = subst (λ (e : Option Fault). written_of reading plan opened (record { rows = s.rows; end = e })) end by_stream

module _ (plan : Holed) (opened : List Opened) (s : Stream Row) (is : s ≡ denote_plan (tables_of opened) plan) where
  -- these are the rows over the files
  rows_are : rows_over plan opened ≡ whole s
  unfolding rows_over
  rows_are = sym (ap whole is)

  pub ran_fault : (fault : Fault) → s.end ≡ Some fault → rows_over plan opened ≡ Err (status.DataFault fault)
  ran_fault fault end = rows_are ∙ ap (λ (e : Option Fault). whole (record { rows = s.rows; end = e })) end

  pub ran_rows : s.end ≡ None → rows_over plan opened ≡ Ok s.rows
  ran_rows end = rows_are ∙ ap (λ (e : Option Fault). whole (record { rows = s.rows; end = e })) end
