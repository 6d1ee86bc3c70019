-- Worked trees and their bytes.
use Rattle.std.proofs.Common.{◌≡◌, refl, ℕ, ℤ, pos, negsuc, List, [], ◌∷◌, true, false, Option, Some, None, ◌∙◌, sym, ap}
use Rattle.plan_leaves.specs.declared.literal.LiteralRow.{LiteralRow}
use Rattle.plan_leaves.specs.declared.literal.RawLiteral.TheVariants as l
use Rattle.plan_leaves.specs.declared.schema.NamedStruct.{NamedStruct}
use Rattle.plan_leaves.specs.declared.types.RawType.{RawType-F, out-RawType, out-roll-RawType}
use Rattle.plan_leaves.specs.declared.types.RawType.TheVariants as t
use Rattle.plan_raw.specs.declared.plan.PlanTree.{PlanTree}
use Rattle.plan_raw.specs.declared.rel.RawRel.{RawRel, RawRel-F, out-RawRel, out-roll-RawRel}
use Rattle.plan_raw.specs.declared.rel.RawRel.TheVariants as r
use Rattle.plan_raw.specs.declared.source.RawSource.TheVariants as source
use Rattle.plan_raw.specs.declared.source.RawSource.{RawSource-F, out-RawSource, out-roll-RawSource}
use Rattle.plan_raw.specs.declared.source.VirtualTable.{VirtualTable, out-VirtualTable, roll-VirtualTable, out-roll-VirtualTable}
use Rattle.plan_spell.specs.Exprs.{Opened}
use Rattle.pb_write.specs.Write.{varint_bytes, record_bytes, message_bytes}
use Rattle.plan_scan.specs.declared.shape.Shape.TheVariants as s
use Rattle.pb_wire.specs.Records.{Bytes}
use Rattle.plan_spell.specs.Leaves as leaves
use Rattle.plan_spell.specs.Rels as rels
use Rattle.plan_spell.specs.Held.{message, messages, fields_by}
use Rattle.plan_spell.specs.Spelled.{spelled_at, spelled}
use Rattle.plan_spell.proofs.HeldLaws.{field_with}

abbrev row : ℤ → LiteralRow
row value = record { fields = l.I64 value false ∷ [] }

abbrev table : VirtualTable
table = roll-VirtualTable (record { values = row (pos 1) ∷ row (pos 2) ∷ row (negsuc 0) ∷ []; expressions = [] })

abbrev schema : Option NamedStruct
schema = Some (record { names = (120 ∷ []) ∷ []; struct_ = Some (record { types = t.I64 2 ∷ [] }) })

-- a read of a required column x of whole numbers, with the rows 1, 2 and -1
abbrev three_rows : PlanTree
three_rows = record {
  uris = [];
  functions = [];
  roots = record {
    is_root = true;
    input = Some (r.Read None schema None None (source.VirtualTable table) None);
    names = (120 ∷ []) ∷ [];
  } ∷ [];
}

out_read : out-RawRel (r.Read None schema None None (source.VirtualTable table) None) ≡ RawRel-F.Read None schema None None (source.VirtualTable table) None
out_read = ap out-RawRel (sym (r.rolls-Read None schema None None (source.VirtualTable table) None)) ∙ out-roll-RawRel (RawRel-F.Read None schema None None (source.VirtualTable table) None)

out_source : out-RawSource (source.VirtualTable table) ≡ RawSource-F.VirtualTable table
out_source = ap out-RawSource (sym (source.rolls-VirtualTable table)) ∙ out-roll-RawSource (RawSource-F.VirtualTable table)

out_table : out-VirtualTable table ≡ record { values = row (pos 1) ∷ row (pos 2) ∷ row (negsuc 0) ∷ []; expressions = [] }
out_table = out-roll-VirtualTable (record { values = row (pos 1) ∷ row (pos 2) ∷ row (negsuc 0) ∷ []; expressions = [] })

abbrev read : RawRel
read = r.Read None schema None None (source.VirtualTable table) None

out_type : out-RawType (t.I64 2) ≡ RawType-F.I64 2
out_type = ap out-RawType (sym (t.rolls-I64 2)) ∙ out-roll-RawType (RawType-F.I64 2)

type_bytes : spelled_at 93 s.DataType (t.I64 2) ≡ 58 ∷ 2 ∷ 16 ∷ 2 ∷ []
unfolding spelled_at message_bytes record_bytes varint_bytes
type_bytes = λ i. message_bytes (fields_by (spelled_at 92) (leaves.type_parts (t.I64 2) (out_type i)))

table_bytes : spelled_at 95 s.VirtualTable table ≡ 10 ∷ 4 ∷ 10 ∷ 2 ∷ 56 ∷ 1 ∷ 10 ∷ 4 ∷ 10 ∷ 2 ∷ 56 ∷ 2 ∷ 10 ∷ 13 ∷ 10 ∷ 11 ∷ 56 ∷ 255 ∷ 255 ∷ 255 ∷ 255 ∷ 255 ∷ 255 ∷ 255 ∷ 255 ∷ 255 ∷ 1 ∷ []
unfolding spelled_at message_bytes record_bytes varint_bytes
table_bytes = λ i. message_bytes (fields_by (spelled_at 94) (messages 1 s.LiteralRow (out_table i).values ∷ messages 2 s.ExpressionRow (out_table i).expressions ∷ []))

read_bytes : spelled_at 96 s.ReadRel read ≡ 18 ∷ 11 ∷ 10 ∷ 1 ∷ 120 ∷ 18 ∷ 6 ∷ 10 ∷ 4 ∷ 58 ∷ 2 ∷ 16 ∷ 2 ∷ 42 ∷ 27 ∷ 10 ∷ 4 ∷ 10 ∷ 2 ∷ 56 ∷ 1 ∷ 10 ∷ 4 ∷ 10 ∷ 2 ∷ 56 ∷ 2 ∷ 10 ∷ 13 ∷ 10 ∷ 11 ∷ 56 ∷ 255 ∷ 255 ∷ 255 ∷ 255 ∷ 255 ∷ 255 ∷ 255 ∷ 255 ∷ 255 ∷ 1 ∷ []
unfolding spelled_at message_bytes record_bytes varint_bytes
read_bytes =
    (λ i. message_bytes (fields_by (spelled_at 95) (rels.read_parts (out_read i))))
    ∙ (λ i. message_bytes (fields_by (spelled_at 95) (message 1 s.RelCommon None ∷ message 2 s.NamedStruct schema ∷ message 3 s.Expression None ∷ message 4 s.MaskExpression None
    ∷ messages 5 s.VirtualTable (rels.virtual_tables (out_source i)) ∷ messages 6 s.LocalFiles (rels.local_files (out_source i)) ∷ messages 7 s.NamedTable (rels.named_tables (out_source i)) ∷ message 11 s.Expression None ∷ [])))
    ∙ ap (λ ty. message_bytes (field_with 2 (Bytes (message_bytes (field_with 1 (Bytes (120 ∷ [])) ∷ field_with 2 (Bytes (message_bytes (field_with 1 (Bytes ty) ∷ []))) ∷ []))) ∷ field_with 5 (Bytes (spelled_at 95 s.VirtualTable table)) ∷ [])) type_bytes
    ∙ ap (λ bytes. message_bytes (field_with 2 (Bytes (10 ∷ 1 ∷ 120 ∷ 18 ∷ 6 ∷ 10 ∷ 4 ∷ 58 ∷ 2 ∷ 16 ∷ 2 ∷ [])) ∷ field_with 5 (Bytes bytes) ∷ [])) table_bytes

rel_bytes : spelled_at 97 s.Rel read ≡ 10 ∷ 42 ∷ 18 ∷ 11 ∷ 10 ∷ 1 ∷ 120 ∷ 18 ∷ 6 ∷ 10 ∷ 4 ∷ 58 ∷ 2 ∷ 16 ∷ 2 ∷ 42 ∷ 27 ∷ 10 ∷ 4 ∷ 10 ∷ 2 ∷ 56 ∷ 1 ∷ 10 ∷ 4 ∷ 10 ∷ 2 ∷ 56 ∷ 2 ∷ 10 ∷ 13 ∷ 10 ∷ 11 ∷ 56 ∷ 255 ∷ 255 ∷ 255 ∷ 255 ∷ 255 ∷ 255 ∷ 255 ∷ 255 ∷ 255 ∷ 1 ∷ []
unfolding spelled_at message_bytes record_bytes varint_bytes
rel_bytes = (λ i. message_bytes (fields_by (spelled_at 96) (rels.rel_parts read (out_read i)))) ∙ ap (λ bytes. message_bytes (field_with 1 (Bytes bytes) ∷ [])) read_bytes

pub three_rows_spelled : spelled three_rows ≡ 26 ∷ 51 ∷ 18 ∷ 49 ∷ 10 ∷ 44 ∷ 10 ∷ 42 ∷ 18 ∷ 11 ∷ 10 ∷ 1 ∷ 120 ∷ 18 ∷ 6 ∷ 10 ∷ 4 ∷ 58 ∷ 2 ∷ 16 ∷ 2 ∷ 42 ∷ 27 ∷ 10 ∷ 4 ∷ 10 ∷ 2 ∷ 56 ∷ 1 ∷ 10 ∷ 4 ∷ 10 ∷ 2 ∷ 56 ∷ 2 ∷ 10 ∷ 13 ∷ 10 ∷ 11 ∷ 56 ∷ 255 ∷ 255 ∷ 255 ∷ 255 ∷ 255 ∷ 255 ∷ 255 ∷ 255 ∷ 255 ∷ 1 ∷ 18 ∷ 1 ∷ 120 ∷ []
unfolding spelled spelled_at message_bytes record_bytes varint_bytes
three_rows_spelled =
    ap (λ bytes. message_bytes (field_with 3 (Bytes (message_bytes (field_with 2 (Bytes (message_bytes (field_with 1 (Bytes bytes) ∷ field_with 2 (Bytes (120 ∷ [])) ∷ []))) ∷ []))) ∷ [])) rel_bytes
