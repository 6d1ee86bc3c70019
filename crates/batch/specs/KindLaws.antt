-- A value is of a kind in one way at most, and so is a kind one that a plan may name.
use Rattle.std.proofs.Common.{List}
use Rattle.std.specs.List.{All}
use Rattle.sub_types.specs.Kind.{IsKind}
use Rattle.sub_types.specs.Value.{InKind}
use Rattle.sub_types.specs.declared.kind.Kind.{Kind}
use Rattle.sub_types.specs.declared.kind.Kind.TheVariants as kinds
use Rattle.sub_types.specs.declared.value.Value.{Value}
use Rattle.sub_types.specs.declared.value.Value.TheVariants as values
use Rattle.std.proofs.Props.{props}

pub IsKind-prop : (kind : Kind) → IsProp (IsKind kind)
IsKind-prop (kinds.Decimal precision scale) = hlevel props
IsKind-prop _ = hlevel props

pub InKind-prop : (kind : Kind) (value : Value) → IsProp (InKind kind value)
InKind-prop _ values.Null = hlevel props
InKind-prop kinds.Bool (values.Bool b) = hlevel props
InKind-prop kinds.I8 (values.Int n) = hlevel props
InKind-prop kinds.I16 (values.Int n) = hlevel props
InKind-prop kinds.I32 (values.Int n) = hlevel props
InKind-prop kinds.I64 (values.Int n) = hlevel props
InKind-prop kinds.Date (values.Int n) = hlevel props
InKind-prop kinds.Timestamp (values.Int n) = hlevel props
InKind-prop (kinds.Decimal precision scale) (values.Dec n) = hlevel props
InKind-prop kinds.Text (values.Bytes bytes) = hlevel props
InKind-prop kinds.Binary (values.Bytes bytes) = hlevel props
InKind-prop _ _ = hlevel props

pub InKinds-prop : (kind : Kind) (column : List Value) → IsProp (All (InKind kind) column)
InKinds-prop kind column = hlevel (props, InKind-prop kind)
