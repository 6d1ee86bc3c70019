-- What a reader finds in the metadata that was written.
use Rattle.std.specs.Prelude.{ℕ, ℤ, List, [], ◌∷◌, FitsSigned}
use Rattle.std.specs.List.{All}
use Rattle.std.specs.Int.{w32, w64}
use Rattle.sub_types.specs.declared.kind.Ty.{Ty}
use Rattle.arrow_meta.specs.declared.field.FieldMeta.{FieldMeta}
use Rattle.arrow_meta.specs.declared.field.Layout.TheVariants.{Plain}
use Rattle.arrow_meta.specs.declared.field.Shape.TheVariants.{Known}
use Rattle.arrow_meta.specs.declared.meta.Block.{Block}
use Rattle.arrow_meta.specs.declared.meta.RecordMeta.{RecordMeta}
use Rattle.arrow_meta.specs.Footer.{Footer}

-- a column of a name and a type
abbrev pub column_of : List ℕ → Ty → FieldMeta
column_of name ty = record { name = name; nullable = ty.nullable; shape = Known ty.kind Plain }

-- a column for each name and type
abbrev pub columns_of : List (List ℕ) → List Ty → List FieldMeta
columns_of (name ∷ names) (ty ∷ types) = column_of name ty ∷ columns_of names types
columns_of _ _ = []

-- these columns, no dictionaries, and these blocks
abbrev pub written_footer : List (List ℕ) → List Ty → List Block → Footer
written_footer names types blocks = record { columns = columns_of names types; dictionaries = []; records = blocks }

-- both numbers have 64 bits
pub record IsPair (pair : ℤ × ℤ) : Type 0 where
  pub first : FitsSigned w64 pair.0
  pub second : FitsSigned w64 pair.1

-- the numbers of a block have their widths
pub record IsBlock (block : Block) : Type 0 where
  pub offset : FitsSigned w64 block.offset
  pub meta_len : FitsSigned w32 block.meta_len
  pub body_len : FitsSigned w64 block.body_len

-- the numbers of a record batch have their widths
pub record IsMeta (meta : RecordMeta) : Type 0 where
  pub length : FitsSigned w64 meta.length
  pub nodes : All IsPair meta.nodes
  pub buffers : All IsPair meta.buffers
