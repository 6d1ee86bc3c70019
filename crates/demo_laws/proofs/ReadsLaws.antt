-- The demo's plan reads two tables: what each of its relations reads, from the leaves.
use Rattle.std.proofs.Common.{◌≡◌, ◌∙◌, ℕ, List, [], ◌∷◌, ◌++◌, None, true, false, ap}
use Rattle.std.specs.Prelude.{codes}
use Rattle.sub_types.specs.declared.kind.Ty.{Ty}
use Rattle.plan_typed.specs.declared.expr.Expr.TheVariants as e
use Rattle.plan_typed.specs.declared.rel.JoinKind.TheVariants as joins
use Rattle.plan_typed.specs.declared.rel.Op.{Op}
use Rattle.plan_typed.specs.declared.rel.Op.TheVariants as ops
use Rattle.plan_typed.specs.declared.rel.Rel.{Rel, Rel-F, roll-Rel, out-roll-Rel}
use Rattle.plan_typed.specs.declared.rel.SortKey.{SortKey}
use Rattle.plan_typed.specs.declared.rel.Source.TheVariants as sources
use Rattle.plan_denote.specs.Sort.{arranged}
use Rattle.plan_reads.proofs.ReadLaws.{reads_of_op, of_op, of_Read, of_Join, of_Aggregate, of_Sort}
use Rattle.plan_reads.specs.Reads.{read_of, reads_in, reads_of, by_relation}
use Rattle.gen_data.specs.Checked as typed
use Rattle.gen_data.specs.Plan as raw
use Rattle.gen_data.specs.Reads.{lines_read, orders_read}

rolled : (number : ℕ) (op : Op) (emit : List ℕ) (columns : List Ty) → reads_in (roll-Rel (record { number = number; op = op; emit = emit; columns = columns })) ≡ reads_of_op op number
rolled number op emit columns =
    let level : Rel-F Op Rel = record { number = number; op = op; emit = emit; columns = columns } in
    of_op (roll-Rel level) ∙ ap (λ (level : Rel-F Op Rel). reads_of_op level.op level.number) (out-roll-Rel level)

in_table : (number : ℕ) (name : List ℕ) (names : List (List ℕ)) (types : List Ty) → reads_in (typed.table number name names types) ≡ read_of number (sources.Named (name ∷ [])) names types ∷ []
in_table number name names types =
    rolled number (ops.Read (sources.Named (name ∷ [])) names types None (0 ∷ 1 ∷ [])) (0 ∷ 1 ∷ []) types
    ∙ of_Read (sources.Named (name ∷ [])) names types None (0 ∷ 1 ∷ []) number

in_join : reads_in typed.ordered_lines ≡ lines_read ∷ orders_read ∷ []
in_join =
    rolled 2 (ops.Join typed.lines typed.orders joins.Inner typed.is_of_order None) (0 ∷ 1 ∷ 2 ∷ 3 ∷ []) (typed.whole_type ∷ typed.whole_type ∷ typed.whole_type ∷ typed.text_type ∷ [])
    ∙ of_Join typed.lines typed.orders joins.Inner typed.is_of_order None 2
    ∙ (λ i. in_table 3 (codes "lines") raw.line_names typed.line_types i ++ in_table 4 (codes "orders") raw.order_names typed.order_types i)

in_regions : reads_in typed.regions ≡ lines_read ∷ orders_read ∷ []
in_regions =
    rolled 1 (ops.Aggregate typed.ordered_lines (e.Column 3 typed.text_type ∷ []) typed.measures) (0 ∷ 1 ∷ 2 ∷ []) typed.result_types
    ∙ of_Aggregate typed.ordered_lines (e.Column 3 typed.text_type ∷ []) typed.measures 1
    ∙ in_join

abbrev keys : List SortKey
keys = record { expr = e.Column 0 typed.text_type; descending = false; nulls_first = true } ∷ []

in_sorted : reads_in typed.ordered_regions ≡ lines_read ∷ orders_read ∷ []
in_sorted = rolled 0 (ops.Sort typed.regions keys) (0 ∷ 1 ∷ 2 ∷ []) typed.result_types ∙ of_Sort typed.regions keys 0 ∙ in_regions

pub reads_are : reads_of typed.demo_plan ≡ lines_read ∷ orders_read ∷ []
unfolding reads_of typed.demo_plan
reads_are = ap (arranged by_relation) in_sorted
