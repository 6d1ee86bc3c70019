-- Truth values are of the kind of truth values.
use Rattle.std.proofs.Common.{List, [], ◌∷◌, Bool, Option, Some, None, map}
use Rattle.std.specs.List.{All}
use Rattle.std.proofs.lemmas.List.Elements.{All-cons, All-nil}
use Rattle.sub_types.specs.Nullable.{bool_value}
use Rattle.sub_types.specs.Value.{InKind}
use Rattle.sub_types.specs.declared.kind.Kind.TheVariants as kinds
use Rattle.sub_types.specs.declared.value.Value.TheVariants as values

pub truths_in_kind : (truths : List (Option Bool)) → All (InKind kinds.Bool) (map bool_value truths)
truths_in_kind [] = All-nil (InKind kinds.Bool)
truths_in_kind (Some truth ∷ truths) = All-cons (InKind kinds.Bool) (values.Bool truth) (map bool_value truths) tt (truths_in_kind truths)
truths_in_kind (None ∷ truths) = All-cons (InKind kinds.Bool) values.Null (map bool_value truths) tt (truths_in_kind truths)
