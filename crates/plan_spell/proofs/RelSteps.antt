-- What relations and the messages in them are read back as.
use Rattle.std.proofs.Common.{◌≡◌, ◌∙◌, sym, ap, refl, cond, ℕ, ℤ, List, [], ◌∷◌, Bool, true, false, Option, Some, None, unwrap_or, ◌||◌, inl, inr}
use Rattle.std.specs.Option.{option_map, option_map_or, option_and_then, option_to_list}
use Rattle.pb_wire.specs.Records.{Varint, Bytes}
use Rattle.pb_wire.specs.Payloads.{Field, fields_of, uint32_field, int32_numbers, bool_field}
use Rattle.plan_scan.specs.declared.oneof.OneOf.TheVariants.{PlanRelType, EmitKind, ReadType, PathType, OffsetMode, CountMode, RelType, ArgumentType, RexType, LiteralType, TypeKind, SubqueryType}
use Rattle.plan_scan.specs.declared.shape.Shape.TheVariants as s
use Rattle.plan_parts.specs.Words.{part, parts, is_there}
use Rattle.plan_parts.specs.Parts as leaf
use Rattle.plan_parts.specs.Reader.{reader}
use Rattle.plan_spell.specs.Held.{whole_varint, truth_varint, Part}
use Rattle.plan_spell.specs.Spelled.{spelled_at}
use Rattle.plan_spell.specs.Leaves as leaves
use Rattle.plan_spell.specs.Exprs as exprs
use Rattle.plan_spell.specs.Exprs.{Opened}
use Rattle.plan_spell.specs.Rels as rels
use Rattle.plan_spell.specs.Known as known
use Rattle.plan_spell.proofs.HeldLaws.{winner_is, no_winner}
use Rattle.plan_spell.proofs.WrittenLaws.{IsBack, Written, records_in, read, only_back, uint32_is, int32_there, int32_is, int64_there, truth_there, truth_is, texts_are, bytes_there, bytes_are, uint32s_are, int32s_are, presence_is, other_is, absent_is, merged_is, child_is, part_is, children_are, parts_are}
use Rattle.plan_raw.specs.declared.aggregate.AggregateFunction.{AggregateFunction, AggregateFunction-F, out-AggregateFunction, roll-AggregateFunction, roll-out-AggregateFunction}
use Rattle.plan_raw.specs.declared.aggregate.Grouping.{Grouping, out-Grouping, roll-Grouping, roll-out-Grouping}
use Rattle.plan_raw.specs.declared.aggregate.Measure.{Measure, out-Measure, roll-Measure, roll-out-Measure}
use Rattle.plan_raw.specs.declared.aggregate.SortField.{SortField, out-SortField, roll-SortField, roll-out-SortField}
use Rattle.plan_raw.specs.declared.plan.PlanTree.{PlanTree}
use Rattle.plan_raw.specs.declared.plan.RootDecl.{RootDecl}
use Rattle.plan_raw.specs.declared.rel.RawCount.{RawCount, RawCount-F, out-RawCount, roll-RawCount, roll-out-RawCount}
use Rattle.plan_raw.specs.declared.rel.RawCount.TheVariants as c
use Rattle.plan_raw.specs.declared.rel.RawOffset.{RawOffset, RawOffset-F, out-RawOffset, roll-RawOffset, roll-out-RawOffset}
use Rattle.plan_raw.specs.declared.rel.RawOffset.TheVariants as f
use Rattle.plan_raw.specs.declared.rel.RawRel.{RawRel, RawRel-F, roll-RawRel}
use Rattle.plan_raw.specs.declared.rel.RawRel.TheVariants as r
use Rattle.plan_raw.specs.declared.source.ExprRow.{ExprRow, out-ExprRow, roll-ExprRow, roll-out-ExprRow}
use Rattle.plan_raw.specs.declared.source.RawSource.{RawSource, RawSource-F, out-RawSource, roll-RawSource, roll-out-RawSource}
use Rattle.plan_raw.specs.declared.source.RawSource.TheVariants as src
use Rattle.plan_raw.specs.declared.source.VirtualTable.{VirtualTable, out-VirtualTable, roll-VirtualTable, roll-out-VirtualTable}
use Rattle.plan_parts.specs.Rels.{common_in, expression_row_by, virtual_table_by, source_member, source_by, read_by, filter_by, offset_member, offset_by, count_member, count_by, fetch_by, grouping_by, sort_field_by, aggregate_function_by, measure_by, aggregate_by, sort_by, join_by, project_by, set_by, cross_by, rel_member, rel_by, root_by, no_root, plan_rel_member, plan_rel_by, plan_by}
use Rattle.plan_spell.specs.Held.{message, messages, uint32, Int64s}
use Rattle.plan_leaves.specs.declared.common.RelCommon.{RelCommon}
use Rattle.plan_leaves.specs.declared.schema.NamedStruct.{NamedStruct}
use Rattle.plan_leaves.specs.declared.mask.MaskExpression.{MaskExpression}
use Rattle.plan_raw.specs.declared.expr.RawExpr.{RawExpr}

pub virtual_table_step : {n : ℕ} (node : VirtualTable) → Written n s.VirtualTable (rels.virtual_table_parts node) → virtual_table_by (reader n) (records_in n (rels.virtual_table_parts node)) ≡ node
virtual_table_step {n} node w = (λ i. roll-VirtualTable (record { values = (children_are w 1 (read n s.LiteralRow) (spelled_at n s.LiteralRow) ((out-VirtualTable node).values) refl (w.back 1)) i; expressions = (children_are w 2 (read n s.ExpressionRow) (spelled_at n s.ExpressionRow) ((out-VirtualTable node).expressions) refl (w.back 2)) i })) ∙ roll-out-VirtualTable node

pub expression_row_step : {n : ℕ} (node : ExprRow) → Written n s.ExpressionRow (rels.expression_row_parts node) → expression_row_by (reader n) (records_in n (rels.expression_row_parts node)) ≡ node
expression_row_step {n} node w = (λ i. roll-ExprRow (record { fields = (children_are w 1 (read n s.Expression) (spelled_at n s.Expression) ((out-ExprRow node).fields) refl (w.back 1)) i })) ∙ roll-out-ExprRow node

pub grouping_step : {n : ℕ} (node : Grouping) → Written n s.Grouping (rels.grouping_parts node) → grouping_by (reader n) (records_in n (rels.grouping_parts node)) ≡ node
grouping_step {n} node w = (λ i. roll-Grouping (record { grouping_expressions = (children_are w 1 (read n s.Expression) (spelled_at n s.Expression) ((out-Grouping node).grouping_expressions) refl (w.back 1)) i; expression_references = (uint32s_are w 2 (out-Grouping node).expression_references refl) i })) ∙ roll-out-Grouping node

pub measure_step : {n : ℕ} (node : Measure) → Written n s.Measure (rels.measure_parts node) → measure_by (reader n) (records_in n (rels.measure_parts node)) ≡ node
measure_step {n} node w = (λ i. roll-Measure (record { measure = (child_is w 1 (read n s.AggregateFunction) (spelled_at n s.AggregateFunction) ((out-Measure node).measure) refl (w.back 1)) i; filter = (child_is w 2 (read n s.Expression) (spelled_at n s.Expression) ((out-Measure node).filter) refl (w.back 2)) i })) ∙ roll-out-Measure node

pub sort_field_step : {n : ℕ} (node : SortField) → Written n s.SortField (rels.sort_field_parts node) → sort_field_by (reader n) (records_in n (rels.sort_field_parts node)) ≡ node
sort_field_step {n} node w = (λ i. roll-SortField (record { expr = (child_is w 1 (read n s.Expression) (spelled_at n s.Expression) ((out-SortField node).expr) refl (w.back 1)) i; direction = (uint32_is w 2 (out-SortField node).direction refl) i })) ∙ roll-out-SortField node

pub aggregate_function_step : {n : ℕ} (node : AggregateFunction) → Written n s.AggregateFunction (rels.aggregate_function_parts (out-AggregateFunction node)) → aggregate_function_by (reader n) (records_in n (rels.aggregate_function_parts (out-AggregateFunction node))) ≡ node
aggregate_function_step {n} node w = (λ i. roll-AggregateFunction (record { function_reference = (uint32_is w 1 (out-AggregateFunction node).function_reference refl) i; sorts = (children_are w 3 (read n s.SortField) (spelled_at n s.SortField) ((out-AggregateFunction node).sorts) refl (w.back 3)) i; phase = (uint32_is w 4 (out-AggregateFunction node).phase refl) i; output_type = (child_is w 5 (read n s.DataType) (spelled_at n s.DataType) ((out-AggregateFunction node).output_type) refl (w.back 5)) i; invocation = (uint32_is w 6 (out-AggregateFunction node).invocation refl) i; arguments = (children_are w 7 (read n s.FunctionArgument) (spelled_at n s.FunctionArgument) ((out-AggregateFunction node).arguments) refl (w.back 7)) i; options = (parts_are w 8 (λ b. leaf.option_of (fields_of b)) (spelled_at n s.FunctionOption) ((out-AggregateFunction node).options) refl (w.back 8)) i })) ∙ roll-out-AggregateFunction node

pub filter_step : {n : ℕ} (o : Opened RawRel-F) (rel : RawRel) → roll-RawRel o ≡ rel → known.IsFilter o → Written n s.FilterRel (rels.filter_parts o) → filter_by (reader n) (records_in n (rels.filter_parts o)) ≡ rel
filter_step {n} (RawRel-F.Filter common input condition) rel is form w = (λ i. r.Filter ((part_is w 1 (λ b. leaf.common_of (fields_of b)) (spelled_at n s.RelCommon) (common) refl (w.back 1)) i) ((child_is w 2 (read n s.Rel) (spelled_at n s.Rel) (input) refl (w.back 2)) i) ((child_is w 3 (read n s.Expression) (spelled_at n s.Expression) (condition) refl (w.back 3)) i)) ∙ sym (r.rolls-Filter common input condition) ∙ is
filter_step _ rel is form w = absurd form

pub aggregate_step : {n : ℕ} (o : Opened RawRel-F) (rel : RawRel) → roll-RawRel o ≡ rel → known.IsAggregate o → Written n s.AggregateRel (rels.aggregate_parts o) → aggregate_by (reader n) (records_in n (rels.aggregate_parts o)) ≡ rel
aggregate_step {n} (RawRel-F.Aggregate common input groupings measures exprs) rel is form w = (λ i. r.Aggregate ((part_is w 1 (λ b. leaf.common_of (fields_of b)) (spelled_at n s.RelCommon) (common) refl (w.back 1)) i) ((child_is w 2 (read n s.Rel) (spelled_at n s.Rel) (input) refl (w.back 2)) i) ((children_are w 3 (read n s.Grouping) (spelled_at n s.Grouping) (groupings) refl (w.back 3)) i) ((children_are w 4 (read n s.Measure) (spelled_at n s.Measure) (measures) refl (w.back 4)) i) ((children_are w 5 (read n s.Expression) (spelled_at n s.Expression) (exprs) refl (w.back 5)) i)) ∙ sym (r.rolls-Aggregate common input groupings measures exprs) ∙ is
aggregate_step _ rel is form w = absurd form

pub sort_step : {n : ℕ} (o : Opened RawRel-F) (rel : RawRel) → roll-RawRel o ≡ rel → known.IsSort o → Written n s.SortRel (rels.sort_parts o) → sort_by (reader n) (records_in n (rels.sort_parts o)) ≡ rel
sort_step {n} (RawRel-F.Sort common input sorts) rel is form w = (λ i. r.Sort ((part_is w 1 (λ b. leaf.common_of (fields_of b)) (spelled_at n s.RelCommon) (common) refl (w.back 1)) i) ((child_is w 2 (read n s.Rel) (spelled_at n s.Rel) (input) refl (w.back 2)) i) ((children_are w 3 (read n s.SortField) (spelled_at n s.SortField) (sorts) refl (w.back 3)) i)) ∙ sym (r.rolls-Sort common input sorts) ∙ is
sort_step _ rel is form w = absurd form

pub join_step : {n : ℕ} (o : Opened RawRel-F) (rel : RawRel) → roll-RawRel o ≡ rel → known.IsJoin o → Written n s.JoinRel (rels.join_parts o) → join_by (reader n) (records_in n (rels.join_parts o)) ≡ rel
join_step {n} (RawRel-F.Join common left right condition post_join_filter type) rel is form w = (λ i. r.Join ((part_is w 1 (λ b. leaf.common_of (fields_of b)) (spelled_at n s.RelCommon) (common) refl (w.back 1)) i) ((child_is w 2 (read n s.Rel) (spelled_at n s.Rel) (left) refl (w.back 2)) i) ((child_is w 3 (read n s.Rel) (spelled_at n s.Rel) (right) refl (w.back 3)) i) ((child_is w 4 (read n s.Expression) (spelled_at n s.Expression) (condition) refl (w.back 4)) i) ((child_is w 5 (read n s.Expression) (spelled_at n s.Expression) (post_join_filter) refl (w.back 5)) i) ((uint32_is w 6 type refl) i)) ∙ sym (r.rolls-Join common left right condition post_join_filter type) ∙ is
join_step _ rel is form w = absurd form

pub project_step : {n : ℕ} (o : Opened RawRel-F) (rel : RawRel) → roll-RawRel o ≡ rel → known.IsProject o → Written n s.ProjectRel (rels.project_parts o) → project_by (reader n) (records_in n (rels.project_parts o)) ≡ rel
project_step {n} (RawRel-F.Project common input exprs) rel is form w = (λ i. r.Project ((part_is w 1 (λ b. leaf.common_of (fields_of b)) (spelled_at n s.RelCommon) (common) refl (w.back 1)) i) ((child_is w 2 (read n s.Rel) (spelled_at n s.Rel) (input) refl (w.back 2)) i) ((children_are w 3 (read n s.Expression) (spelled_at n s.Expression) (exprs) refl (w.back 3)) i)) ∙ sym (r.rolls-Project common input exprs) ∙ is
project_step _ rel is form w = absurd form

pub set_step : {n : ℕ} (o : Opened RawRel-F) (rel : RawRel) → roll-RawRel o ≡ rel → known.IsSet o → Written n s.SetRel (rels.set_parts o) → set_by (reader n) (records_in n (rels.set_parts o)) ≡ rel
set_step {n} (RawRel-F.Set common inputs op) rel is form w = (λ i. r.Set ((part_is w 1 (λ b. leaf.common_of (fields_of b)) (spelled_at n s.RelCommon) (common) refl (w.back 1)) i) ((children_are w 2 (read n s.Rel) (spelled_at n s.Rel) (inputs) refl (w.back 2)) i) ((uint32_is w 3 op refl) i)) ∙ sym (r.rolls-Set common inputs op) ∙ is
set_step _ rel is form w = absurd form

pub cross_step : {n : ℕ} (o : Opened RawRel-F) (rel : RawRel) → roll-RawRel o ≡ rel → known.IsCross o → Written n s.CrossRel (rels.cross_parts o) → cross_by (reader n) (records_in n (rels.cross_parts o)) ≡ rel
cross_step {n} (RawRel-F.Cross common left right) rel is form w = (λ i. r.Cross ((part_is w 1 (λ b. leaf.common_of (fields_of b)) (spelled_at n s.RelCommon) (common) refl (w.back 1)) i) ((child_is w 2 (read n s.Rel) (spelled_at n s.Rel) (left) refl (w.back 2)) i) ((child_is w 3 (read n s.Rel) (spelled_at n s.Rel) (right) refl (w.back 3)) i)) ∙ sym (r.rolls-Cross common left right) ∙ is
cross_step _ rel is form w = absurd form

-- the fields of a read, by its opened source
abbrev read_with : Option RelCommon → Option NamedStruct → Option RawExpr → Option MaskExpression → Opened RawSource-F → Option RawExpr → List Part
read_with common schema filter projection o best =
    message 1 s.RelCommon common ∷ message 2 s.NamedStruct schema ∷ message 3 s.Expression filter ∷ message 4 s.MaskExpression projection
    ∷ messages 5 s.VirtualTable (rels.virtual_tables o) ∷ messages 6 s.LocalFiles (rels.local_files o) ∷ messages 7 s.NamedTable (rels.named_tables o)
    ∷ message 11 s.Expression best ∷ []

source_step : {n : ℕ} (common : Option RelCommon) (schema : Option NamedStruct) (filter : Option RawExpr) (projection : Option MaskExpression) (o : Opened RawSource-F) (best : Option RawExpr) →
    Written n s.ReadRel (read_with common schema filter projection o best) → source_by (reader n) (records_in n (read_with common schema filter projection o best)) ≡ roll-RawSource o
source_step {n} common schema filter projection RawSource-F.«RawSource::Missing» best w = no_winner ReadType src.Missing (source_member (reader n)) (spelled_at n) (read_with common schema filter projection RawSource-F.«RawSource::Missing» best) refl ∙ sym src.rolls-Missing
source_step {n} common schema filter projection (RawSource-F.VirtualTable table) best w = winner_is ReadType src.Missing (source_member (reader n)) (spelled_at n) (read_with common schema filter projection (RawSource-F.VirtualTable table) best) 5 (Bytes (spelled_at n s.VirtualTable table)) refl refl
    ∙ ap (λ o. option_map_or src.VirtualTable o src.Missing) (child_is w 5 (read n s.VirtualTable) (spelled_at n s.VirtualTable) (Some table) refl (w.back 5)) ∙ sym (src.rolls-VirtualTable table)
source_step {n} common schema filter projection (RawSource-F.LocalFiles files) best w = winner_is ReadType src.Missing (source_member (reader n)) (spelled_at n) (read_with common schema filter projection (RawSource-F.LocalFiles files) best) 6 (Bytes (spelled_at n s.LocalFiles files)) refl refl
    ∙ ap (λ o. option_map_or src.LocalFiles o src.Missing) (part_is w 6 (λ b. leaf.local_files_of (fields_of b)) (spelled_at n s.LocalFiles) (Some files) refl (w.back 6)) ∙ sym (src.rolls-LocalFiles files)
source_step {n} common schema filter projection (RawSource-F.NamedTable table) best w = winner_is ReadType src.Missing (source_member (reader n)) (spelled_at n) (read_with common schema filter projection (RawSource-F.NamedTable table) best) 7 (Bytes (spelled_at n s.NamedTable table)) refl refl
    ∙ ap (λ o. option_map_or src.NamedTable o src.Missing) (part_is w 7 (λ b. leaf.named_table_of (fields_of b)) (spelled_at n s.NamedTable) (Some table) refl (w.back 7)) ∙ sym (src.rolls-NamedTable table)

pub read_step : {n : ℕ} (o : Opened RawRel-F) (rel : RawRel) → roll-RawRel o ≡ rel → known.IsRead o → Written n s.ReadRel (rels.read_parts o) → read_by (reader n) (records_in n (rels.read_parts o)) ≡ rel
read_step {n} (RawRel-F.Read common schema filter projection source best) rel is form w = (λ i. r.Read ((part_is w 1 (λ b. leaf.common_of (fields_of b)) (spelled_at n s.RelCommon) (common) refl (w.back 1)) i) ((child_is w 2 (read n s.NamedStruct) (spelled_at n s.NamedStruct) (schema) refl (w.back 2)) i) ((child_is w 3 (read n s.Expression) (spelled_at n s.Expression) (filter) refl (w.back 3)) i) ((part_is w 4 (λ b. leaf.mask_of (fields_of b)) (spelled_at n s.MaskExpression) (projection) refl (w.back 4)) i) ((source_step common schema filter projection (out-RawSource source) best w ∙ roll-out-RawSource source) i) ((child_is w 11 (read n s.Expression) (spelled_at n s.Expression) (best) refl (w.back 11)) i)) ∙ sym (r.rolls-Read common schema filter projection source best) ∙ is
read_step _ rel is form w = absurd form

-- the fields of a fetch, by its opened offset and count
abbrev fetch_with : Option RelCommon → Option RawRel → Opened RawOffset-F → Opened RawCount-F → List Part
fetch_with common input o k =
    message 1 s.RelCommon common ∷ message 2 s.Rel input ∷ record { number = 3; held = Int64s (rels.offsets o) } ∷ record { number = 4; held = Int64s (rels.counts k) }
    ∷ messages 5 s.Expression (rels.offset_exprs o) ∷ messages 6 s.Expression (rels.count_exprs k) ∷ []

offset_step : {n : ℕ} (common : Option RelCommon) (input : Option RawRel) (o : Opened RawOffset-F) (k : Opened RawCount-F) → Written n s.FetchRel (fetch_with common input o k) → offset_by (reader n) (records_in n (fetch_with common input o k)) ≡ roll-RawOffset o
offset_step {n} common input RawOffset-F.«RawOffset::Missing» k w = no_winner OffsetMode f.Missing (offset_member (reader n)) (spelled_at n) (fetch_with common input RawOffset-F.«RawOffset::Missing» k) refl ∙ sym f.rolls-Missing
offset_step {n} common input (RawOffset-F.Offset value) k w = winner_is OffsetMode f.Missing (offset_member (reader n)) (spelled_at n) (fetch_with common input (RawOffset-F.Offset value) k) 3 (Varint (whole_varint value)) refl refl ∙ ap f.Offset (int64_there w 3 value refl) ∙ sym (f.rolls-Offset value)
offset_step {n} common input (RawOffset-F.OffsetExpr expr) k w = winner_is OffsetMode f.Missing (offset_member (reader n)) (spelled_at n) (fetch_with common input (RawOffset-F.OffsetExpr expr) k) 5 (Bytes (spelled_at n s.Expression expr)) refl refl
    ∙ ap (λ o. option_map_or f.OffsetExpr o f.Missing) (child_is w 5 (read n s.Expression) (spelled_at n s.Expression) (Some expr) refl (w.back 5)) ∙ sym (f.rolls-OffsetExpr expr)

count_step : {n : ℕ} (common : Option RelCommon) (input : Option RawRel) (o : Opened RawCount-F) (k : Opened RawOffset-F) → Written n s.FetchRel (fetch_with common input k o) → count_by (reader n) (records_in n (fetch_with common input k o)) ≡ roll-RawCount o
count_step {n} common input RawCount-F.«RawCount::Missing» k w = no_winner CountMode c.Missing (count_member (reader n)) (spelled_at n) (fetch_with common input k RawCount-F.«RawCount::Missing») refl ∙ sym c.rolls-Missing
count_step {n} common input (RawCount-F.Count value) k w = winner_is CountMode c.Missing (count_member (reader n)) (spelled_at n) (fetch_with common input k (RawCount-F.Count value)) 4 (Varint (whole_varint value)) refl refl ∙ ap c.Count (int64_there w 4 value refl) ∙ sym (c.rolls-Count value)
count_step {n} common input (RawCount-F.CountExpr expr) k w = winner_is CountMode c.Missing (count_member (reader n)) (spelled_at n) (fetch_with common input k (RawCount-F.CountExpr expr)) 6 (Bytes (spelled_at n s.Expression expr)) refl refl
    ∙ ap (λ o. option_map_or c.CountExpr o c.Missing) (child_is w 6 (read n s.Expression) (spelled_at n s.Expression) (Some expr) refl (w.back 6)) ∙ sym (c.rolls-CountExpr expr)

pub fetch_step : {n : ℕ} (o : Opened RawRel-F) (rel : RawRel) → roll-RawRel o ≡ rel → known.IsFetch o → Written n s.FetchRel (rels.fetch_parts o) → fetch_by (reader n) (records_in n (rels.fetch_parts o)) ≡ rel
fetch_step {n} (RawRel-F.Fetch common input offset count) rel is form w = (λ i. r.Fetch ((part_is w 1 (λ b. leaf.common_of (fields_of b)) (spelled_at n s.RelCommon) (common) refl (w.back 1)) i) ((child_is w 2 (read n s.Rel) (spelled_at n s.Rel) (input) refl (w.back 2)) i) ((offset_step common input (out-RawOffset offset) (out-RawCount count) w ∙ roll-out-RawOffset offset) i) ((count_step common input (out-RawCount count) (out-RawOffset offset) w ∙ roll-out-RawCount count) i)) ∙ sym (r.rolls-Fetch common input offset count) ∙ is
fetch_step _ rel is form w = absurd form

pub rel_step : {n : ℕ} (o : Opened RawRel-F) (rel : RawRel) → roll-RawRel o ≡ rel → known.IsKnownRel o → Written n s.Rel (rels.rel_parts rel o) → rel_by (reader n) (records_in n (rels.rel_parts rel o)) ≡ rel
rel_step {n} RawRel-F.«RawRel::Missing» rel is form w = no_winner RelType r.Missing (rel_member (reader n)) (spelled_at n) (rels.rel_parts rel RawRel-F.«RawRel::Missing») refl ∙ sym r.rolls-Missing ∙ is
rel_step (RawRel-F.«RawRel::Unknown» number) rel is form w = absurd form
rel_step {n} (RawRel-F.Read common schema filter projection source best) rel is form w = winner_is RelType r.Missing (rel_member (reader n)) (spelled_at n) (rels.rel_parts rel (RawRel-F.Read common schema filter projection source best)) 1 (Bytes (spelled_at n s.ReadRel rel)) refl refl
    ∙ ap (λ o. unwrap_or o r.Missing) (child_is w 1 (read n s.ReadRel) (spelled_at n s.ReadRel) (Some rel) refl (w.back 1))
rel_step {n} (RawRel-F.Filter common input condition) rel is form w = winner_is RelType r.Missing (rel_member (reader n)) (spelled_at n) (rels.rel_parts rel (RawRel-F.Filter common input condition)) 2 (Bytes (spelled_at n s.FilterRel rel)) refl refl
    ∙ ap (λ o. unwrap_or o r.Missing) (child_is w 2 (read n s.FilterRel) (spelled_at n s.FilterRel) (Some rel) refl (w.back 2))
rel_step {n} (RawRel-F.Fetch common input offset count) rel is form w = winner_is RelType r.Missing (rel_member (reader n)) (spelled_at n) (rels.rel_parts rel (RawRel-F.Fetch common input offset count)) 3 (Bytes (spelled_at n s.FetchRel rel)) refl refl
    ∙ ap (λ o. unwrap_or o r.Missing) (child_is w 3 (read n s.FetchRel) (spelled_at n s.FetchRel) (Some rel) refl (w.back 3))
rel_step {n} (RawRel-F.Aggregate common input groupings measures exprs) rel is form w = winner_is RelType r.Missing (rel_member (reader n)) (spelled_at n) (rels.rel_parts rel (RawRel-F.Aggregate common input groupings measures exprs)) 4 (Bytes (spelled_at n s.AggregateRel rel)) refl refl
    ∙ ap (λ o. unwrap_or o r.Missing) (child_is w 4 (read n s.AggregateRel) (spelled_at n s.AggregateRel) (Some rel) refl (w.back 4))
rel_step {n} (RawRel-F.Sort common input sorts) rel is form w = winner_is RelType r.Missing (rel_member (reader n)) (spelled_at n) (rels.rel_parts rel (RawRel-F.Sort common input sorts)) 5 (Bytes (spelled_at n s.SortRel rel)) refl refl
    ∙ ap (λ o. unwrap_or o r.Missing) (child_is w 5 (read n s.SortRel) (spelled_at n s.SortRel) (Some rel) refl (w.back 5))
rel_step {n} (RawRel-F.Join common left right condition post_join_filter type) rel is form w = winner_is RelType r.Missing (rel_member (reader n)) (spelled_at n) (rels.rel_parts rel (RawRel-F.Join common left right condition post_join_filter type)) 6 (Bytes (spelled_at n s.JoinRel rel)) refl refl
    ∙ ap (λ o. unwrap_or o r.Missing) (child_is w 6 (read n s.JoinRel) (spelled_at n s.JoinRel) (Some rel) refl (w.back 6))
rel_step {n} (RawRel-F.Project common input exprs) rel is form w = winner_is RelType r.Missing (rel_member (reader n)) (spelled_at n) (rels.rel_parts rel (RawRel-F.Project common input exprs)) 7 (Bytes (spelled_at n s.ProjectRel rel)) refl refl
    ∙ ap (λ o. unwrap_or o r.Missing) (child_is w 7 (read n s.ProjectRel) (spelled_at n s.ProjectRel) (Some rel) refl (w.back 7))
rel_step {n} (RawRel-F.Set common inputs op) rel is form w = winner_is RelType r.Missing (rel_member (reader n)) (spelled_at n) (rels.rel_parts rel (RawRel-F.Set common inputs op)) 8 (Bytes (spelled_at n s.SetRel rel)) refl refl
    ∙ ap (λ o. unwrap_or o r.Missing) (child_is w 8 (read n s.SetRel) (spelled_at n s.SetRel) (Some rel) refl (w.back 8))
rel_step {n} (RawRel-F.Cross common left right) rel is form w = winner_is RelType r.Missing (rel_member (reader n)) (spelled_at n) (rels.rel_parts rel (RawRel-F.Cross common left right)) 12 (Bytes (spelled_at n s.CrossRel rel)) refl refl
    ∙ ap (λ o. unwrap_or o r.Missing) (child_is w 12 (read n s.CrossRel) (spelled_at n s.CrossRel) (Some rel) refl (w.back 12))

root_path : (root : RootDecl) {input : Option RawRel} {names : List (List ℕ)} → input ≡ root.input → names ≡ root.names → root.is_root ≡ true → ◌≡◌ {A = RootDecl} (record { is_root = true; input = input; names = names }) root
root_path root p q e = λ i. record { is_root = sym e i; input = p i; names = q i }

pub root_step : {n : ℕ} (root : RootDecl) → root.is_root ≡ true → Written n s.RelRoot (rels.root_parts root) → root_by (reader n) (records_in n (rels.root_parts root)) ≡ root
root_step {n} root is w = root_path root (child_is w 1 (read n s.Rel) (spelled_at n s.Rel) (root.input) refl (w.back 1)) (texts_are w 2 root.names refl) is

root_there : {n : ℕ} (root : RootDecl) (b : Bool) → b ≡ true → Written n s.PlanRel (messages 2 s.RelRoot (cond b (root ∷ []) []) ∷ []) → plan_rel_by (reader n) (records_in n (messages 2 s.RelRoot (cond b (root ∷ []) []) ∷ [])) ≡ root
root_there {n} root true e w = winner_is PlanRelType no_root (plan_rel_member (reader n)) (spelled_at n) (messages 2 s.RelRoot (root ∷ []) ∷ []) 2 (Bytes (spelled_at n s.RelRoot root)) refl refl ∙ ap (λ o. unwrap_or o no_root) (child_is w 2 (read n s.RelRoot) (spelled_at n s.RelRoot) (Some root) refl (w.back 2))
root_there root false e w = absurd (cc)

none_there : (n : ℕ) (root : RootDecl) (b : Bool) → b ≡ false → root ≡ no_root → plan_rel_by (reader n) (records_in n (messages 2 s.RelRoot (cond b (root ∷ []) []) ∷ [])) ≡ root
none_there n root false e is = no_winner PlanRelType no_root (plan_rel_member (reader n)) (spelled_at n) (messages 2 s.RelRoot [] ∷ []) refl ∙ sym is
none_there n root true e is = absurd (cc)

pub plan_rel_step : {n : ℕ} (root : RootDecl) → known.IsRootOrNone root → Written n s.PlanRel (rels.plan_rel_parts root) → plan_rel_by (reader n) (records_in n (rels.plan_rel_parts root)) ≡ root
plan_rel_step root (inl is) w = root_there root root.is_root is w
plan_rel_step {n} root (inr is) w = none_there n root root.is_root (ap (λ (root : RootDecl). root.is_root) is) is

pub plan_step : {n : ℕ} (plan : PlanTree) → Written n s.Plan (rels.plan_parts plan) → plan_by (reader n) (records_in n (rels.plan_parts plan)) ≡ plan
plan_step {n} plan w = λ i. record {
  uris = (parts_are w 1 (λ b. leaf.uri_of (fields_of b)) (spelled_at n s.ExtensionUri) (plan.uris) refl (w.back 1)) i;
  functions = (children_are w 2 (λ b. part leaf.function_of 3 (fields_of b)) (spelled_at n s.ExtensionDeclaration) plan.functions refl (w.back 2)) i;
  roots = (children_are w 3 (read n s.PlanRel) (spelled_at n s.PlanRel) (plan.roots) refl (w.back 3)) i;
}
