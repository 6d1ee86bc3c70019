-- Rows fit their types in one way at most.
use Rattle.std.proofs.Common.{List, [], ◌∷◌}
use Rattle.std.proofs.Props.{props}
use Rattle.std.specs.List.{All}
use Rattle.sub_types.specs.Value.{IsShort, FitsTy, Fits}
use Rattle.sub_types.specs.declared.kind.Ty.{Ty}
use Rattle.sub_types.specs.declared.value.Value.{Value}
use Rattle.sub_types.specs.declared.value.Value.TheVariants as values
use Rattle.batch.specs.KindLaws.{InKind-prop}

IsShort-prop : (value : Value) → IsProp (IsShort value)
IsShort-prop (values.Bytes bytes) = hlevel props
IsShort-prop _ = hlevel props

FitsTy-prop : (ty : Ty) (value : Value) → IsProp (FitsTy ty value)
FitsTy-prop ty value = hlevel (props, InKind-prop ty.kind value, IsShort-prop value)

Fits-prop : (types : List Ty) (row : List Value) → IsProp (Fits types row)
Fits-prop [] [] = hlevel props
Fits-prop [] (value ∷ row) = hlevel props
Fits-prop (ty ∷ types) [] = hlevel props
Fits-prop (ty ∷ types) (value ∷ row) = hlevel (props, FitsTy-prop ty value, Fits-prop types row)

pub AllFit-prop : (types : List Ty) (rows : List (List Value)) → IsProp (All (Fits types) rows)
AllFit-prop types rows = hlevel (props, Fits-prop types)
