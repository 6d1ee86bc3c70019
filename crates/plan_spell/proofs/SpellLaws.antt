-- The bytes of a spellable tree read back as the tree.
use Rattle.std.proofs.Common.{◌≡◌, ◌∙◌, ap, refl, ℕ, zero, suc, List, [], ◌∷◌, map, true, Option, Some, None, Result, Ok, Err, length}
use Rattle.std.specs.List.{All, AllByRecursion, list_all}
use Rattle.std.proofs.lemmas.Bool.{and_from}
use Rattle.std.proofs.lemmas.List.Elements.{All-head, All-tail, All-nil, All-cons, All-from_recursion}
use Rattle.pb_wire.specs.Records.{Bytes}
use Rattle.pb_wire.specs.Payloads.{Field, fields_of, uint32_field, int32_numbers, is_whole}
use Rattle.pb_write.specs.Write.{message_bytes, IsLong, IsWritable}
use Rattle.pb_write.proofs.WriteLaws.{message_read}
use Rattle.plan_scan.specs.declared.shape.Shape.{Shape}
use Rattle.plan_scan.specs.declared.shape.Shape.TheVariants as s
use Rattle.plan_scan.specs.declared.shape.Use.{Use}
use Rattle.plan_scan.specs.declared.shape.Use.TheVariants as uses
use Rattle.plan_scan.specs.declared.flaw.Flaw.{Flaw}
use Rattle.plan_scan.specs.Table.{use_of}
use Rattle.plan_scan.specs.Flaw.{flaw}
use Rattle.plan_scan.specs.Scanned.{field_well, is_readable}
use Rattle.plan_leaves.specs.declared.types.RawType.{out-RawType, roll-out-RawType}
use Rattle.plan_raw.specs.declared.argument.FunctionArgument.{out-FunctionArgument, roll-out-FunctionArgument}
use Rattle.plan_raw.specs.declared.expr.RawExpr.{out-RawExpr, roll-out-RawExpr}
use Rattle.plan_raw.specs.declared.plan.PlanTree.{PlanTree}
use Rattle.plan_raw.specs.declared.rel.RawRel.{out-RawRel, roll-out-RawRel}
use Rattle.plan_parts.specs.Words.{part}
use Rattle.plan_parts.specs.Parts as leaf
use Rattle.plan_parts.specs.Types.{type_by, struct_type_by, literal_by, decimal_of, decimal_type_of}
use Rattle.plan_parts.specs.Exprs.{argument_by, scalar_function_by, if_clause_by, if_then_by, if_value_by, switch_by, singular_or_list_by, cast_by, scalar_by, in_predicate_by, set_predicate_by, subquery_by, expression_by}
use Rattle.plan_parts.specs.Rels.{named_struct_by, literal_row_by, expression_row_by, virtual_table_by, read_by, filter_by, fetch_by, grouping_by, sort_field_by, aggregate_function_by, measure_by, aggregate_by, sort_by, join_by, project_by, set_by, cross_by, rel_by, root_by, plan_rel_by, plan_by}
use Rattle.plan_parts.specs.Reader.{reader, tree_of, plan_of}
use Rattle.plan_spell.specs.Nodes.{Node}
use Rattle.plan_spell.specs.Held.{Held, Blocks, Messages, Part, part_fields, fields_by}
use Rattle.plan_spell.specs.Parts.{parts_of}
use Rattle.plan_spell.specs.Known.{IsKnown}
use Rattle.plan_spell.specs.Spelled.{spelled_at, spelled, IsOfUse, IsFitting, HasFitting, IsSpellableAt, IsSpellable}
use Rattle.plan_spell.proofs.HeldLaws.{held_at, field_with}
use Rattle.plan_spell.proofs.WrittenLaws.{IsBack, IsHeldBack, Written, records_in, is_nullable}
use Rattle.plan_spell.proofs.LeafSteps as leaves
use Rattle.plan_spell.proofs.ExprSteps as exprs
use Rattle.plan_spell.proofs.RelSteps as rels
use Rattle.plan_spell.proofs.NumberedLaws.{parts_are_numbered}
use Rattle.plan_spell.proofs.UseLaws.{parts_of_use}
use Rattle.plan_spell.proofs.ReadableLaws.{HasShortBlock, short_blocks, writable, split_each, to_each, IsHeldReadable, fields_well, at_number, no_flaw}

-- a message is read back from its records
back_step : (n : ℕ) (shape : Shape) (node : Node shape) → IsKnown shape node → Written n shape (parts_of shape node) → (bytes : List ℕ) → fields_of bytes ≡ records_in n (parts_of shape node) → IsBack (suc n) shape bytes node
unfolding reader
back_step n s.Empty node known w bytes same = tt
back_step n s.Plan node known w bytes same = ap (plan_by (reader n)) same ∙ rels.plan_step node w
back_step n s.ExtensionUri node known w bytes same = ap (leaf.uri_of) same ∙ leaves.uri_step node w
back_step n s.ExtensionDeclaration node known w bytes same = ap (part leaf.function_of 3) same ∙ leaves.declaration_step node w
back_step n s.ExtensionFunction node known w bytes same = ap (leaf.function_of) same ∙ leaves.function_step node w
back_step n s.RelCommon node known w bytes same = ap (leaf.common_of) same ∙ leaves.common_step node w
back_step n s.Emit node known w bytes same = ap (int32_numbers 1) same ∙ leaves.emit_step node w
back_step n s.NamedTable node known w bytes same = ap (leaf.named_table_of) same ∙ leaves.named_table_step node w
back_step n s.LocalFiles node known w bytes same = ap (leaf.local_files_of) same ∙ leaves.local_files_step node w
back_step n s.FileItem node known w bytes same = ap (leaf.file_item_of) same ∙ leaves.file_item_step node w
back_step n s.MaskExpression node known w bytes same = ap (leaf.mask_of) same ∙ leaves.mask_step node w
back_step n s.StructSelect node known w bytes same = ap (leaf.mask_struct_of) same ∙ leaves.mask_struct_step node w
back_step n s.StructItem node known w bytes same = ap (leaf.mask_item_of) same ∙ leaves.mask_item_step node w
back_step n s.FunctionOption node known w bytes same = ap (leaf.option_of) same ∙ leaves.option_step node w
back_step n s.ReferenceSegment node known w bytes same = ap (leaf.segment_of) same ∙ leaves.segment_step node w
back_step n s.StructField node known w bytes same = ap (leaf.struct_field_of) same ∙ leaves.struct_field_step node w
back_step n s.PlainType node known w bytes same = ap (uint32_field 2) same ∙ leaves.plain_step node w
back_step n s.DecimalLiteral node known w bytes same = ap (decimal_of (is_nullable node)) same ∙ leaves.decimal_step node known w
back_step n s.DecimalType node known w bytes same = ap (decimal_type_of) same ∙ leaves.decimal_type_step node known w
back_step n s.FieldReference node known w bytes same = ap (leaf.selection_of) same ∙ exprs.reference_step (out-RawExpr node) node (roll-out-RawExpr node) known w
back_step n s.Rel node known w bytes same = ap (λ fields. Some (rel_by (reader n) fields)) same ∙ ap Some (rels.rel_step (out-RawRel node) node (roll-out-RawRel node) known w)
back_step n s.ReadRel node known w bytes same = ap (λ fields. Some (read_by (reader n) fields)) same ∙ ap Some (rels.read_step (out-RawRel node) node (roll-out-RawRel node) known w)
back_step n s.FilterRel node known w bytes same = ap (λ fields. Some (filter_by (reader n) fields)) same ∙ ap Some (rels.filter_step (out-RawRel node) node (roll-out-RawRel node) known w)
back_step n s.FetchRel node known w bytes same = ap (λ fields. Some (fetch_by (reader n) fields)) same ∙ ap Some (rels.fetch_step (out-RawRel node) node (roll-out-RawRel node) known w)
back_step n s.AggregateRel node known w bytes same = ap (λ fields. Some (aggregate_by (reader n) fields)) same ∙ ap Some (rels.aggregate_step (out-RawRel node) node (roll-out-RawRel node) known w)
back_step n s.SortRel node known w bytes same = ap (λ fields. Some (sort_by (reader n) fields)) same ∙ ap Some (rels.sort_step (out-RawRel node) node (roll-out-RawRel node) known w)
back_step n s.JoinRel node known w bytes same = ap (λ fields. Some (join_by (reader n) fields)) same ∙ ap Some (rels.join_step (out-RawRel node) node (roll-out-RawRel node) known w)
back_step n s.ProjectRel node known w bytes same = ap (λ fields. Some (project_by (reader n) fields)) same ∙ ap Some (rels.project_step (out-RawRel node) node (roll-out-RawRel node) known w)
back_step n s.SetRel node known w bytes same = ap (λ fields. Some (set_by (reader n) fields)) same ∙ ap Some (rels.set_step (out-RawRel node) node (roll-out-RawRel node) known w)
back_step n s.CrossRel node known w bytes same = ap (λ fields. Some (cross_by (reader n) fields)) same ∙ ap Some (rels.cross_step (out-RawRel node) node (roll-out-RawRel node) known w)
back_step n s.NamedStruct node known w bytes same = ap (λ fields. Some (named_struct_by (reader n) fields)) same ∙ ap Some (leaves.named_struct_step node w)
back_step n s.StructType node known w bytes same = ap (λ fields. Some (struct_type_by (reader n) fields)) same ∙ ap Some (leaves.struct_type_step node w)
back_step n s.LiteralRow node known w bytes same = ap (λ fields. Some (literal_row_by (reader n) fields)) same ∙ ap Some (leaves.literal_row_step node w)
back_step n s.Literal node known w bytes same = ap (λ fields. Some (literal_by (reader n) fields)) same ∙ ap Some (leaves.literal_step node known w)
back_step n s.DataType node known w bytes same = ap (λ fields. Some (type_by (reader n) fields)) same ∙ ap Some (leaves.type_step (out-RawType node) node (roll-out-RawType node) known w)
back_step n s.VirtualTable node known w bytes same = ap (λ fields. Some (virtual_table_by (reader n) fields)) same ∙ ap Some (rels.virtual_table_step node w)
back_step n s.ExpressionRow node known w bytes same = ap (λ fields. Some (expression_row_by (reader n) fields)) same ∙ ap Some (rels.expression_row_step node w)
back_step n s.Grouping node known w bytes same = ap (λ fields. Some (grouping_by (reader n) fields)) same ∙ ap Some (rels.grouping_step node w)
back_step n s.Measure node known w bytes same = ap (λ fields. Some (measure_by (reader n) fields)) same ∙ ap Some (rels.measure_step node w)
back_step n s.AggregateFunction node known w bytes same = ap (λ fields. Some (aggregate_function_by (reader n) fields)) same ∙ ap Some (rels.aggregate_function_step node w)
back_step n s.SortField node known w bytes same = ap (λ fields. Some (sort_field_by (reader n) fields)) same ∙ ap Some (rels.sort_field_step node w)
back_step n s.PlanRel node known w bytes same = ap (λ fields. Some (plan_rel_by (reader n) fields)) same ∙ ap Some (rels.plan_rel_step node known w)
back_step n s.RelRoot node known w bytes same = ap (λ fields. Some (root_by (reader n) fields)) same ∙ ap Some (rels.root_step node known w)
back_step n s.FunctionArgument node known w bytes same = ap (λ fields. Some (argument_by (reader n) fields)) same ∙ ap Some (exprs.argument_step (out-FunctionArgument node) node (roll-out-FunctionArgument node) w)
back_step n s.IfClause node known w bytes same = ap (λ fields. Some (if_clause_by (reader n) fields)) same ∙ ap Some (exprs.if_clause_step node w)
back_step n s.IfValue node known w bytes same = ap (λ fields. Some (if_value_by (reader n) fields)) same ∙ ap Some (exprs.if_value_step node w)
back_step n s.Expression node known w bytes same = ap (λ fields. Some (expression_by (reader n) fields)) same ∙ ap Some (exprs.expression_step (out-RawExpr node) node (roll-out-RawExpr node) known w)
back_step n s.ScalarFunction node known w bytes same = ap (λ fields. Some (scalar_function_by (reader n) fields)) same ∙ ap Some (exprs.scalar_function_step (out-RawExpr node) node (roll-out-RawExpr node) known w)
back_step n s.IfThen node known w bytes same = ap (λ fields. Some (if_then_by (reader n) fields)) same ∙ ap Some (exprs.if_then_step (out-RawExpr node) node (roll-out-RawExpr node) known w)
back_step n s.SwitchExpression node known w bytes same = ap (λ fields. Some (switch_by (reader n) fields)) same ∙ ap Some (exprs.switch_step (out-RawExpr node) node (roll-out-RawExpr node) known w)
back_step n s.SingularOrList node known w bytes same = ap (λ fields. Some (singular_or_list_by (reader n) fields)) same ∙ ap Some (exprs.singular_or_list_step (out-RawExpr node) node (roll-out-RawExpr node) known w)
back_step n s.Cast node known w bytes same = ap (λ fields. Some (cast_by (reader n) fields)) same ∙ ap Some (exprs.cast_step (out-RawExpr node) node (roll-out-RawExpr node) known w)
back_step n s.Subquery node known w bytes same = ap (λ fields. Some (subquery_by (reader n) fields)) same ∙ ap Some (exprs.subquery_step (out-RawExpr node) node (roll-out-RawExpr node) known w)
back_step n s.ScalarSubquery node known w bytes same = ap (λ fields. Some (scalar_by (reader n) fields)) same ∙ ap Some (exprs.scalar_step (out-RawExpr node) node (roll-out-RawExpr node) known w)
back_step n s.InPredicate node known w bytes same = ap (λ fields. Some (in_predicate_by (reader n) fields)) same ∙ ap Some (exprs.in_predicate_step (out-RawExpr node) node (roll-out-RawExpr node) known w)
back_step n s.SetPredicate node known w bytes same = ap (λ fields. Some (set_predicate_by (reader n) fields)) same ∙ ap Some (exprs.set_predicate_step (out-RawExpr node) node (roll-out-RawExpr node) known w)

-- a message's bytes are read back and readable
abbrev IsGood : ℕ → (shape : Shape) → Node shape → Type 0
IsGood n shape node = IsBack n shape (spelled_at n shape node) node × (is_readable n shape (spelled_at n shape node) ≡ true)

abbrev IsHeldGood : ℕ → Held → Type 0
IsHeldGood n (Messages shape nodes) = All (IsGood n shape) nodes
IsHeldGood n _ = Unit {0}

module _ (n : ℕ) (law : (shape : Shape) (node : Node shape) → IsSpellableAt n shape node → IsLong (length (spelled_at n shape node)) → IsGood n shape node) where
  nodes_good : (number : ℕ) (shape : Shape) (nodes : List (Node shape)) → All (IsSpellableAt n shape) nodes → AllByRecursion HasShortBlock (map (field_with number) (map Bytes (map (spelled_at n shape) nodes))) → All (IsGood n shape) nodes
  nodes_good number shape [] can short = All-nil (IsGood n shape)
  nodes_good number shape (node ∷ nodes) can short =
      All-cons (IsGood n shape) node nodes (law shape node (All-head (IsSpellableAt n shape) node nodes can) short.0) (nodes_good number shape nodes (All-tail (IsSpellableAt n shape) node nodes can) short.1)

  held_good : (number : ℕ) (holds : Use) (held : Held) → IsFitting (IsSpellableAt n) holds held → AllByRecursion HasShortBlock (part_fields (spelled_at n) (record { number = number; held = held })) → IsHeldGood n held
  held_good number holds (Messages shape nodes) fits short = nodes_good number shape nodes fits short
  held_good number holds _ fits short = tt

  parts_good : (shape : Shape) (parts : List Part) → AllByRecursion (HasFitting (IsSpellableAt n) shape) parts → AllByRecursion HasShortBlock (records_in n parts) → AllByRecursion (λ part. IsHeldGood n part.held) parts
  parts_good shape [] fits short = tt
  parts_good shape (part ∷ parts) fits short =
      let both = split_each HasShortBlock (part_fields (spelled_at n) part) (records_in n parts) short in
      (held_good part.number (use_of shape part.number) part.held fits.0 both.0, parts_good shape parts fits.1 both.1)

held_back : (n : ℕ) (held : Held) → IsHeldGood n held → IsHeldBack n held
held_back n (Messages shape nodes) good = λ k d h. (good k d h).0
held_back n _ good = tt

held_readable : (n : ℕ) (held : Held) → IsHeldGood n held → IsHeldReadable (is_readable n) (spelled_at n) held
held_readable n (Messages shape nodes) good = λ k d h. (good k d h).1
held_readable n _ good = tt

each_back : (n : ℕ) (parts : List Part) → AllByRecursion (λ part. IsHeldGood n part.held) parts → AllByRecursion (λ part. IsHeldBack n part.held) parts
each_back n [] good = tt
each_back n (part ∷ parts) good = (held_back n part.held good.0, each_back n parts good.1)

each_readable : (n : ℕ) (parts : List Part) → AllByRecursion (λ part. IsHeldGood n part.held) parts → AllByRecursion (λ part. IsHeldReadable (is_readable n) (spelled_at n) part.held) parts
each_readable n [] good = tt
each_readable n (part ∷ parts) good = (held_readable n part.held good.0, each_readable n parts good.1)

no_blocks : (holds : Use) → IsOfUse holds []
no_blocks uses.Text = All-nil _
no_blocks _ = tt

-- one level, where the messages one level further down are good
level_good : (n : ℕ) → ((shape : Shape) (node : Node shape) → IsSpellableAt n shape node → IsLong (length (spelled_at n shape node)) → IsGood n shape node) →
    (shape : Shape) (node : Node shape) → IsKnown shape node → All (HasFitting (IsSpellableAt n) shape) (parts_of shape node) → IsLong (length (message_bytes (records_in n (parts_of shape node)))) →
    IsBack (suc n) shape (message_bytes (records_in n (parts_of shape node))) node × (is_whole (message_bytes (records_in n (parts_of shape node))) ≡ true) × (list_all (field_well (is_readable n) shape) (fields_of (message_bytes (records_in n (parts_of shape node)))) ≡ true)
level_good n law shape node known all long =
    let parts : List Part = parts_of shape node in
    let fits : AllByRecursion (HasFitting (IsSpellableAt n) shape) parts = to_each (HasFitting (IsSpellableAt n) shape) parts all in
    let short : AllByRecursion HasShortBlock (records_in n parts) = short_blocks (records_in n parts) long in
    let can : All IsWritable (records_in n parts) = All-from_recursion IsWritable (records_in n parts) (writable (IsSpellableAt n) shape (spelled_at n) parts (parts_are_numbered shape node) fits short) in
    let written = message_read (records_in n parts) can in
    let good : AllByRecursion (λ part. IsHeldGood n part.held) parts = parts_good n law shape parts fits short in
    let w : Written n shape parts = record {
      numbered = parts_are_numbered shape node;
      fits = at_number (λ number held. IsFitting (IsSpellableAt n) (use_of shape number) held) (λ number. no_blocks (use_of shape number)) parts fits;
      back = at_number (λ number held. IsHeldBack n held) (λ number. tt) parts (each_back n parts good);
    } in (
      back_step n shape node known w (message_bytes (records_in n parts)) written.0,
      written.1,
      ap (list_all (field_well (is_readable n) shape)) written.0 ∙ fields_well (is_readable n) (IsSpellableAt n) shape (spelled_at n) parts (parts_of_use shape node) fits (each_readable n parts good),
    )

good_at : (n : ℕ) (shape : Shape) (node : Node shape) → IsSpellableAt n shape node → IsLong (length (spelled_at n shape node)) → IsGood n shape node
unfolding spelled_at IsSpellableAt is_readable
good_at zero shape node can long = absurd can
good_at (suc n) shape node can long =
    let level = level_good n (good_at n) shape node can.0 can.1 long in
    (level.0, and_from _ _ level.1 level.2)

-- the bytes of a spellable tree are readable, and read back as the tree
pub read_back : (tree : PlanTree) → IsSpellable tree → plan_of (spelled tree) ≡ Ok tree
unfolding spelled
read_back tree can =
    let good = good_at 100 s.Plan tree can.fits can.short in
    ap (λ (found : Option Flaw). elim found [ None ↦ Ok (tree_of (spelled_at 100 s.Plan tree)) | Some flaw ↦ Err flaw ]) (no_flaw (spelled_at 100 s.Plan tree) good.1)
    ∙ ap Ok good.0
