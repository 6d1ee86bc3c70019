-- What is so of the head of any file.
use Rattle.std.specs.Prelude.{◌≡◌, ℕ, ◌-◌, ◌^◌, List, [], ◌∷◌, map, Option, Some, None, IsSome}
use Rattle.std.specs.List.{All, filter_map, enumerate_from}
use Rattle.std.specs.Option.{option_map}
use Rattle.std.proofs.Props.{props}
use Rattle.batch.specs.KindLaws.{IsKind-prop}
use Rattle.arrow_meta.specs.declared.field.FieldMeta.{FieldMeta}
use Rattle.arrow_meta.specs.declared.field.Shape.{Shape}
use Rattle.arrow_meta.specs.declared.field.Shape.TheVariants.{Known, Skip}
use Rattle.arrow_meta.specs.declared.meta.Block.{Block}
use Rattle.arrow_meta.specs.declared.meta.RecordMeta.{RecordMeta}
use Rattle.arrow_meta.specs.Dictionary.{index_of}
use Rattle.arrow_meta.specs.Known.{IsShape}
use Rattle.arrow_meta.specs.Places.{place_in}
use Rattle.arrow_decode.specs.RawColumn.{IsLayout-prop}
use Rattle.arrow_decode.specs.declared.dictionary.DictColumn.{DictColumn}

-- the block lies within the first 2^64 - 1 bytes: none of its numbers is below 0, and its metadata has at least 8 bytes
abbrev pub IsPlaced : Block → Type 0
IsPlaced block = IsSome (place_in (2 ^ 64 - 1) block)

-- each block with metadata is placed
abbrev pub ArePlaced : List Block → List (Option RecordMeta) → Type 0
ArePlaced (block ∷ blocks) (Some meta ∷ metas) = IsPlaced block × ArePlaced blocks metas
ArePlaced (block ∷ blocks) (None ∷ metas) = ArePlaced blocks metas
ArePlaced _ _ = Unit {0}

-- the shape of each column is one that a file's column can have
abbrev pub AreShapes : List FieldMeta → Type 0
AreShapes columns = All (λ field. IsShape field.shape) columns

-- the place of a numbered column, none where the column isn't one of indices
abbrev pub index_place : ℕ × FieldMeta → Option ℕ
index_place column = option_map (λ index. column.0) (index_of column.1.shape)

-- the places of the columns of indices, in their order
abbrev pub index_places : List FieldMeta → List ℕ
index_places columns = filter_map index_place (enumerate_from 0 columns)

-- there is a dictionary for each column of indices, in their order
abbrev pub AreIndexed : List FieldMeta → List DictColumn → Type 0
AreIndexed columns dictionaries = map (λ dictionary. dictionary.column) dictionaries ≡ index_places columns

pub IsPlaced-prop : (block : Block) → IsProp (IsPlaced block)
IsPlaced-prop block = hlevel props

pub ArePlaced-prop : (blocks : List Block) (metas : List (Option RecordMeta)) → IsProp (ArePlaced blocks metas)
ArePlaced-prop [] metas = hlevel props
ArePlaced-prop (block ∷ blocks) [] = hlevel props
ArePlaced-prop (block ∷ blocks) (Some meta ∷ metas) = hlevel (props, IsPlaced-prop block, ArePlaced-prop blocks metas)
ArePlaced-prop (block ∷ blocks) (None ∷ metas) = ArePlaced-prop blocks metas

pub IsShape-prop : (shape : Shape) → IsProp (IsShape shape)
IsShape-prop (Known kind layout) = hlevel (props, IsKind-prop, IsLayout-prop)
IsShape-prop (Skip buffers) = hlevel props

pub AreShapes-prop : (columns : List FieldMeta) → IsProp (AreShapes columns)
AreShapes-prop columns = hlevel (props, IsShape-prop)
