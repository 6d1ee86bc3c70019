-- The bytes of the demo's plan, from the leaves, and that they are few.
use Rattle.std.proofs.Common.{◌≡◌, ◌∙◌, ◌≤◌, ℕ, suc, pos, List, [], ◌∷◌, false, Some, None, length, ap, sym, subst, arith}
use Rattle.std.specs.Prelude.{codes}
use Rattle.plan_leaves.specs.declared.types.RawType.{RawType}
use Rattle.plan_leaves.specs.declared.types.RawType.TheVariants as t
use Rattle.plan_raw.specs.declared.aggregate.Grouping.{Grouping-F}
use Rattle.plan_raw.specs.declared.aggregate.Measure.{Measure-F}
use Rattle.plan_raw.specs.declared.aggregate.SortField.{SortField-F}
use Rattle.plan_tree.specs.Fold.{Opened}
use Rattle.pb_wire.specs.Payloads.{Field}
use Rattle.pb_wire.specs.Records.{Varint, Bytes}
use Rattle.pb_write.specs.Write.{varint_bytes, record_bytes, message_bytes}
use Rattle.plan_scan.specs.declared.shape.Shape.TheVariants as s
use Rattle.plan_spell.specs.Exprs as exprs
use Rattle.plan_spell.specs.Held.{messages, message, uint32, fields_by, PackedUint32s}
use Rattle.plan_spell.specs.Leaves as leaves
use Rattle.plan_spell.specs.Rels as rels
use Rattle.plan_spell.specs.Spelled.{spelled_at, spelled}
use Rattle.gen_data.specs.Plan as raw
use Rattle.demo_laws.proofs.OpenedLaws.{out_whole, out_text, out_truth, out_column, argument, out_argument, out_is_of_order, schema, out_source, out_table, out_join, grouping, out_grouping, function_of, out_function, out_measure, out_regions, key, out_key, out_sorted}

-- a record of a block, and one of a number
abbrev block : ℕ → List ℕ → Field
block number bytes = record { number = number; content = Bytes bytes }

abbrev count : ℕ → ℕ → Field
count number value = record { number = number; content = Varint value }

-- a type that has nothing but its nullability
abbrev type_bytes : ℕ → ℕ → List ℕ
type_bytes member nullability = message_bytes (block member (message_bytes (count 2 nullability ∷ [])) ∷ [])

whole_spelled : (n nullability : ℕ) → spelled_at (suc (suc n)) s.DataType (t.I64 (suc nullability)) ≡ type_bytes 7 (suc nullability)
unfolding spelled_at
whole_spelled n nullability = λ i. message_bytes (fields_by (spelled_at (suc n)) (leaves.type_parts (t.I64 (suc nullability)) (out_whole (suc nullability) i)))

text_spelled : (n : ℕ) → spelled_at (suc (suc n)) s.DataType raw.text_type ≡ type_bytes 12 1
unfolding spelled_at
text_spelled n = λ i. message_bytes (fields_by (spelled_at (suc n)) (leaves.type_parts raw.text_type (out_text 1 i)))

truth_spelled : (n : ℕ) → spelled_at (suc (suc n)) s.DataType (t.Bool 1) ≡ type_bytes 1 1
unfolding spelled_at
truth_spelled n = λ i. message_bytes (fields_by (spelled_at (suc n)) (leaves.type_parts (t.Bool 1) (out_truth 1 i)))

-- a column, and as an argument
abbrev place_bytes : ℕ → List ℕ
place_bytes place = message_bytes (fields_by (λ _ _. []) (leaves.struct_field_parts (record { field = pos place; child = false })))

abbrev column_bytes : ℕ → List ℕ
column_bytes place = message_bytes (block 2 (message_bytes (block 1 (message_bytes (block 2 (place_bytes place) ∷ [])) ∷ block 4 (message_bytes []) ∷ [])) ∷ [])

column_spelled : (n place : ℕ) → spelled_at (suc (suc (suc (suc n)))) s.Expression (raw.column place) ≡ column_bytes place
unfolding spelled_at
column_spelled n place =
    (λ i. message_bytes (fields_by (spelled_at (suc (suc (suc n)))) (exprs.expression_parts (raw.column place) (out_column place i))))
    ∙ (λ i. message_bytes (block 2 (message_bytes (fields_by (spelled_at (suc (suc n))) (exprs.reference_parts (out_column place i)))) ∷ []))

abbrev argument_bytes : ℕ → List ℕ
argument_bytes place = message_bytes (block 3 (column_bytes place) ∷ [])

argument_spelled : (n place : ℕ) → spelled_at (suc (suc (suc (suc (suc n))))) s.FunctionArgument (argument place) ≡ argument_bytes place
unfolding spelled_at
argument_spelled n place =
    (λ i. message_bytes (fields_by (spelled_at (suc (suc (suc (suc n))))) (exprs.argument_parts (out_argument place i))))
    ∙ ap (λ bytes. message_bytes (block 3 bytes ∷ [])) (column_spelled n place)

-- the condition of the join
abbrev condition_bytes : List ℕ
condition_bytes = message_bytes (block 3 (message_bytes (count 1 1 ∷ block 3 (type_bytes 1 1) ∷ block 4 (argument_bytes 0) ∷ block 4 (argument_bytes 2) ∷ [])) ∷ [])

condition_spelled : spelled_at 91 s.Expression raw.is_of_order ≡ condition_bytes
unfolding spelled_at
condition_spelled =
    (λ i. message_bytes (fields_by (spelled_at 90) (exprs.expression_parts raw.is_of_order (out_is_of_order i))))
    ∙ (λ i. message_bytes (block 3 (message_bytes (fields_by (spelled_at 89) (exprs.scalar_function_parts (out_is_of_order i)))) ∷ []))
    ∙ (λ i. message_bytes (block 3 (message_bytes (count 1 1 ∷ block 3 (truth_spelled 87 i) ∷ block 4 (argument_spelled 84 0 i) ∷ block 4 (argument_spelled 84 2 i) ∷ [])) ∷ []))

-- a table of two columns of these names, by the bytes of their types
abbrev table_bytes : List ℕ → List ℕ → List ℕ → List ℕ → List ℕ → List ℕ
table_bytes name first second first_type second_type =
    message_bytes (block 1 (message_bytes
    (block 2 (message_bytes (block 1 first ∷ block 1 second ∷ block 2 (message_bytes (block 1 first_type ∷ block 1 second_type ∷ [])) ∷ []))
    ∷ block 7 (message_bytes (block 1 name ∷ [])) ∷ [])) ∷ [])

table_spelled : (name first second : List ℕ) (first_type second_type : RawType) → spelled_at 91 s.Rel (raw.table name (first ∷ second ∷ []) (first_type ∷ second_type ∷ [])) ≡ table_bytes name first second (spelled_at 87 s.DataType first_type) (spelled_at 87 s.DataType second_type)
unfolding spelled_at
table_spelled name first second first_type second_type =
    let names = first ∷ second ∷ [] in
    let types = first_type ∷ second_type ∷ [] in
    (λ i. message_bytes (fields_by (spelled_at 90) (rels.rel_parts (raw.table name names types) (out_table name names types i))))
    ∙ (λ i. message_bytes (block 1 (message_bytes (fields_by (spelled_at 89) (rels.read_parts (out_table name names types i)))) ∷ []))
    ∙ (λ i. message_bytes (block 1 (message_bytes (fields_by (spelled_at 89) (message 1 s.RelCommon None ∷ message 2 s.NamedStruct (Some (schema names types)) ∷ message 3 s.Expression None ∷ message 4 s.MaskExpression None
    ∷ messages 5 s.VirtualTable (rels.virtual_tables (out_source name i)) ∷ messages 6 s.LocalFiles (rels.local_files (out_source name i)) ∷ messages 7 s.NamedTable (rels.named_tables (out_source name i)) ∷ message 11 s.Expression None ∷ []))) ∷ []))

abbrev lines_bytes : List ℕ
lines_bytes = table_bytes (codes "lines") (codes "oid") (codes "qty") (type_bytes 7 1) (type_bytes 7 1)

lines_spelled : spelled_at 91 s.Rel raw.lines ≡ lines_bytes
lines_spelled =
    table_spelled (codes "lines") (codes "oid") (codes "qty") raw.whole_type raw.whole_type
    ∙ (λ i. table_bytes (codes "lines") (codes "oid") (codes "qty") (whole_spelled 85 0 i) (whole_spelled 85 0 i))

abbrev orders_bytes : List ℕ
orders_bytes = table_bytes (codes "orders") (codes "id") (codes "region") (type_bytes 7 1) (type_bytes 12 1)

orders_spelled : spelled_at 91 s.Rel raw.orders ≡ orders_bytes
orders_spelled =
    table_spelled (codes "orders") (codes "id") (codes "region") raw.whole_type raw.text_type
    ∙ (λ i. table_bytes (codes "orders") (codes "id") (codes "region") (whole_spelled 85 0 i) (text_spelled 85 i))

-- the lines joined to their orders
abbrev join_bytes : List ℕ → List ℕ → List ℕ → List ℕ
join_bytes lines orders condition = message_bytes (block 6 (message_bytes (block 2 lines ∷ block 3 orders ∷ block 4 condition ∷ count 6 1 ∷ [])) ∷ [])

join_spelled : spelled_at 93 s.Rel raw.ordered_lines ≡ join_bytes lines_bytes orders_bytes condition_bytes
unfolding spelled_at
join_spelled =
    (λ i. message_bytes (fields_by (spelled_at 92) (rels.rel_parts raw.ordered_lines (out_join i))))
    ∙ (λ i. message_bytes (block 6 (message_bytes (fields_by (spelled_at 91) (rels.join_parts (out_join i)))) ∷ []))
    ∙ (λ i. join_bytes (lines_spelled i) (orders_spelled i) (condition_spelled i))

-- by region: the sum and the count of the quantities
abbrev grouping_bytes : List ℕ
grouping_bytes = message_bytes (block 1 (column_bytes 3) ∷ [])

grouping_spelled : spelled_at 93 s.Grouping grouping ≡ grouping_bytes
unfolding spelled_at
grouping_spelled =
    ap (λ (level : Opened Grouping-F). message_bytes (fields_by (spelled_at 92) (messages 1 s.Expression level.grouping_expressions ∷ record { number = 2; held = PackedUint32s level.expression_references } ∷ []))) out_grouping
    ∙ ap (λ bytes. message_bytes (block 1 bytes ∷ [])) (column_spelled 88 3)

abbrev function_bytes : ℕ → List ℕ → List ℕ → List ℕ
function_bytes function ty argument = message_bytes (count 1 function ∷ count 4 3 ∷ block 5 ty ∷ count 6 1 ∷ block 7 argument ∷ [])

function_spelled : (function nullability : ℕ) → spelled_at 92 s.AggregateFunction (function_of (suc function) (t.I64 (suc nullability))) ≡ function_bytes (suc function) (type_bytes 7 (suc nullability)) (argument_bytes 1)
unfolding spelled_at
function_spelled function nullability =
    (λ i. message_bytes (fields_by (spelled_at 91) (rels.aggregate_function_parts (out_function (suc function) (t.I64 (suc nullability)) i))))
    ∙ (λ i. function_bytes (suc function) (whole_spelled 89 nullability i) (argument_spelled 86 1 i))

abbrev measure_bytes : ℕ → ℕ → List ℕ
measure_bytes function nullability = message_bytes (block 1 (function_bytes function (type_bytes 7 nullability) (argument_bytes 1)) ∷ [])

measure_spelled : (function nullability : ℕ) → spelled_at 93 s.Measure (raw.measure_of (suc function) (t.I64 (suc nullability))) ≡ measure_bytes (suc function) (suc nullability)
unfolding spelled_at
measure_spelled function nullability =
    ap (λ (level : Opened Measure-F). message_bytes (fields_by (spelled_at 92) (message 1 s.AggregateFunction level.measure ∷ message 2 s.Expression level.filter ∷ []))) (out_measure (suc function) (t.I64 (suc nullability)))
    ∙ ap (λ bytes. message_bytes (block 1 bytes ∷ [])) (function_spelled function nullability)

abbrev regions_bytes : List ℕ → List ℕ → List ℕ → List ℕ → List ℕ
regions_bytes join grouping sums counts = message_bytes (block 4 (message_bytes (block 2 join ∷ block 3 grouping ∷ block 4 sums ∷ block 4 counts ∷ [])) ∷ [])

regions_spelled : spelled_at 95 s.Rel raw.regions ≡ regions_bytes (join_bytes lines_bytes orders_bytes condition_bytes) grouping_bytes (measure_bytes 2 1) (measure_bytes 3 2)
unfolding spelled_at
regions_spelled =
    (λ i. message_bytes (fields_by (spelled_at 94) (rels.rel_parts raw.regions (out_regions i))))
    ∙ (λ i. message_bytes (block 4 (message_bytes (fields_by (spelled_at 93) (rels.aggregate_parts (out_regions i)))) ∷ []))
    ∙ (λ i. regions_bytes (join_spelled i) (grouping_spelled i) (measure_spelled 1 0 i) (measure_spelled 2 1 i))

-- the regions from the least on
abbrev key_bytes : List ℕ
key_bytes = message_bytes (block 1 (column_bytes 0) ∷ count 2 1 ∷ [])

key_spelled : spelled_at 95 s.SortField key ≡ key_bytes
unfolding spelled_at
key_spelled =
    ap (λ (level : Opened SortField-F). message_bytes (fields_by (spelled_at 94) (message 1 s.Expression level.expr ∷ uint32 2 level.direction ∷ []))) out_key
    ∙ ap (λ bytes. message_bytes (block 1 bytes ∷ count 2 1 ∷ [])) (column_spelled 90 0)

abbrev sort_bytes : List ℕ → List ℕ → List ℕ
sort_bytes regions key = message_bytes (block 5 (message_bytes (block 2 regions ∷ block 3 key ∷ [])) ∷ [])

abbrev sorted_bytes : List ℕ
sorted_bytes = sort_bytes (regions_bytes (join_bytes lines_bytes orders_bytes condition_bytes) grouping_bytes (measure_bytes 2 1) (measure_bytes 3 2)) key_bytes

sorted_spelled : spelled_at 97 s.Rel raw.ordered_regions ≡ sorted_bytes
unfolding spelled_at
sorted_spelled =
    (λ i. message_bytes (fields_by (spelled_at 96) (rels.rel_parts raw.ordered_regions (out_sorted i))))
    ∙ (λ i. message_bytes (block 5 (message_bytes (fields_by (spelled_at 95) (rels.sort_parts (out_sorted i)))) ∷ []))
    ∙ (λ i. sort_bytes (regions_spelled i) (key_spelled i))

-- the plan: a file of functions, a function, and what has the plan's only root
abbrev uri_bytes : ℕ → List ℕ → List ℕ
uri_bytes anchor file = message_bytes (count 1 anchor ∷ block 2 (raw.uri_of file) ∷ [])

abbrev declaration_bytes : ℕ → List ℕ → List ℕ
declaration_bytes anchor name = message_bytes (block 3 (message_bytes (count 1 anchor ∷ count 2 anchor ∷ block 3 name ∷ [])) ∷ [])

abbrev plan_bytes : List ℕ → List ℕ
plan_bytes root =
    message_bytes
    (block 1 (uri_bytes 1 (codes "functions_comparison.yaml")) ∷ block 1 (uri_bytes 2 (codes "functions_arithmetic.yaml")) ∷ block 1 (uri_bytes 3 (codes "functions_aggregate_generic.yaml"))
    ∷ block 2 (declaration_bytes 1 (codes "equal:any_any")) ∷ block 2 (declaration_bytes 2 (codes "sum:i64")) ∷ block 2 (declaration_bytes 3 (codes "count:any"))
    ∷ block 3 (message_bytes (block 2 (message_bytes (block 1 root ∷ block 2 (codes "region") ∷ block 2 (codes "sum") ∷ block 2 (codes "count") ∷ [])) ∷ [])) ∷ [])

plan_spelled : spelled raw.demo_tree ≡ plan_bytes sorted_bytes
unfolding spelled spelled_at raw.demo_tree
plan_spelled = ap plan_bytes sorted_spelled

few_bytes : length (plan_bytes sorted_bytes) ≤ 16777216
unfolding message_bytes record_bytes varint_bytes
few_bytes = omega arith

pub plan_is_short : length (spelled raw.demo_tree) ≤ 16777216
plan_is_short = subst (λ bytes. length bytes ≤ 16777216) (sym plan_spelled) few_bytes
