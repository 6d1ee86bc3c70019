-- What the demo says: its rows, a line each.
use Rattle.std.specs.Prelude.{ℕ, List, [], ◌∷◌, ◌++◌, None, ◌==◌, codes, if◌then◌else◌}
use Rattle.std.specs.Fmt.{signed_decimal}
use Rattle.std.specs.List.{flat_map}
use Rattle.sub_types.specs.Stream.{rows_alone, ended}
use Rattle.sub_types.specs.declared.value.Value.{Value}
use Rattle.sub_types.specs.declared.value.Value.TheVariants as values
use Rattle.plan_denote.specs.Denote.{Tables}
use Rattle.plan_denote.specs.Subqueries.{denote_plan}
use Rattle.gen_data.specs.Rows.{order_rows, line_rows}
use Rattle.gen_data.specs.Checked.{demo_plan}

-- the tables of the demo's read relations: 3 reads the lines, and 4 the orders
abbrev pub demo_tables : ℕ → Tables
demo_tables number relation =
    if relation == 3 then rows_alone (line_rows number)
    else if relation == 4 then rows_alone (order_rows number)
    else ended None

-- the rows that the demo's plan denotes over so many orders and their lines
unfoldable pub demo_rows : ℕ → List (List Value)
demo_rows number = (denote_plan (demo_tables number) demo_plan).rows

-- a sum of quantities: null where a region has none
abbrev pub IsSum : Value → Type 0
IsSum values.Null = Unit {0}
IsSum (values.Int n) = Unit {0}
IsSum _ = ⊥

-- a row of the demo: a region's name, its sum and its count
abbrev pub IsSummaryRow : List Value → Type 0
IsSummaryRow (values.Bytes region ∷ sum ∷ values.Int count ∷ []) = IsSum sum
IsSummaryRow _ = ⊥

-- a text as it is, a whole number in decimal digits, and `null`; a summary row has no other values
abbrev pub value_text : Value → List ℕ
value_text values.Null = codes "null"
value_text (values.Int n) = signed_decimal n
value_text (values.Bytes text) = text
value_text _ = []

-- the line of a row: region, sum and count with one space between them
abbrev pub row_line : List Value → List ℕ
row_line (region ∷ sum ∷ count ∷ []) = value_text region ++ (codes " " ++ (value_text sum ++ (codes " " ++ (value_text count ++ codes "\n"))))
row_line _ = []

-- a line for each row
unfoldable pub summary_of : ℕ → List ℕ
summary_of number = flat_map row_line (demo_rows number)
