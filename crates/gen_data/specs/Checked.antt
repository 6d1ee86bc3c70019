-- The demo's plan as it is checked.
use Rattle.std.specs.Prelude.{ℕ, List, [], ◌∷◌, true, false, Some, None, codes}
use Rattle.sub_types.specs.declared.kind.Kind.TheVariants as kinds
use Rattle.sub_types.specs.declared.kind.Ty.{Ty}
use Rattle.plan_typed.specs.declared.expr.Expr.{Expr}
use Rattle.plan_typed.specs.declared.expr.Expr.TheVariants as e
use Rattle.plan_typed.specs.declared.expr.Func.TheVariants as funcs
use Rattle.plan_typed.specs.declared.expr.Overflow.TheVariants as modes
use Rattle.plan_typed.specs.declared.rel.JoinKind.TheVariants as joins
use Rattle.plan_typed.specs.declared.rel.Op.TheVariants as ops
use Rattle.plan_typed.specs.declared.rel.Rel.{Rel, roll-Rel}
use Rattle.plan_typed.specs.declared.rel.Source.TheVariants as sources
use Rattle.plan_typed.specs.declared.rel.TypedMeasure.{TypedMeasure}
use Rattle.plan_typed.specs.declared.sub.Holed.{Holed}
use Rattle.gen_data.specs.Plan.{line_names, order_names, result_names}

abbrev pub whole_type : Ty
whole_type = record { kind = kinds.I64; nullable = true }

abbrev pub count_type : Ty
count_type = record { kind = kinds.I64; nullable = false }

abbrev pub text_type : Ty
text_type = record { kind = kinds.Text; nullable = true }

abbrev pub line_types : List Ty
line_types = whole_type ∷ whole_type ∷ []

abbrev pub order_types : List Ty
order_types = whole_type ∷ text_type ∷ []

abbrev pub result_types : List Ty
result_types = text_type ∷ whole_type ∷ count_type ∷ []

-- a table of two columns, read whole
abbrev pub table : ℕ → List ℕ → List (List ℕ) → List Ty → Rel
table number name names types = roll-Rel (record {
  number = number;
  op = ops.Read (sources.Named (name ∷ [])) names types None (0 ∷ 1 ∷ []);
  emit = 0 ∷ 1 ∷ [];
  columns = types;
})

abbrev pub lines : Rel
lines = table 3 (codes "lines") line_names line_types

abbrev pub orders : Rel
orders = table 4 (codes "orders") order_names order_types

abbrev pub is_of_order : Expr
is_of_order = e.Call funcs.Equal modes.Error (e.Column 0 whole_type ∷ e.Column 2 whole_type ∷ []) (record { kind = kinds.Bool; nullable = true })

abbrev pub ordered_lines : Rel
ordered_lines = roll-Rel (record {
  number = 2;
  op = ops.Join lines orders joins.Inner is_of_order None;
  emit = 0 ∷ 1 ∷ 2 ∷ 3 ∷ [];
  columns = whole_type ∷ whole_type ∷ whole_type ∷ text_type ∷ [];
})

abbrev pub quantity : Expr
quantity = e.Column 1 whole_type

abbrev pub measures : List TypedMeasure
measures =
    record { func = funcs.Sum; arg = Some quantity; filter = None; ty = whole_type }
    ∷ record { func = funcs.Count; arg = Some quantity; filter = None; ty = count_type }
    ∷ []

abbrev pub regions : Rel
regions = roll-Rel (record {
  number = 1;
  op = ops.Aggregate ordered_lines (e.Column 3 text_type ∷ []) measures;
  emit = 0 ∷ 1 ∷ 2 ∷ [];
  columns = result_types;
})

abbrev pub ordered_regions : Rel
ordered_regions = roll-Rel (record {
  number = 0;
  op = ops.Sort regions (record { expr = e.Column 0 text_type; descending = false; nulls_first = true } ∷ []);
  emit = 0 ∷ 1 ∷ 2 ∷ [];
  columns = result_types;
})

unfoldable pub demo_plan : Holed
demo_plan = record { typed = record { rel = ordered_regions; names = result_names }; subs = [] }
