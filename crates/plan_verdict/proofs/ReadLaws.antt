-- A read is well typed over a source of its columns' types.
use Rattle.std.proofs.Common.{◌≡◌, ◌<◌, ℕ, List, ◌∷◌, ◌++◌, Bool, true, false, cond, Option, Some, None, Result, Ok, Err, map, refl, arith}
use Rattle.std.specs.Prelude.{length, ◌==◌}
use Rattle.std.specs.List.{AllByRecursion}
use Rattle.std.specs.Option.{ok_or}
use Rattle.std.proofs.lemmas.Bool.Decides.{nat_tests}
use Rattle.sub_types.specs.Kind.{IsKind}
use Rattle.sub_types.specs.ResultSteps.{collect}
use Rattle.sub_types.specs.declared.kind.Ty.{Ty}
use Rattle.plan_leaves.specs.declared.common.RelCommon.{RelCommon}
use Rattle.plan_leaves.specs.declared.mask.MaskExpression.{MaskExpression}
use Rattle.plan_leaves.specs.declared.mask.MaskItem.{MaskItem}
use Rattle.plan_leaves.specs.declared.schema.NamedStruct.{NamedStruct}
use Rattle.plan_leaves.specs.declared.types.StructType.{StructType}
use Rattle.plan_typed.specs.declared.rel.Op.TheOpen.{Op-F}
use Rattle.plan_typed.specs.declared.rel.Op.TheVariants as ops
use Rattle.plan_typed.specs.declared.rel.Source.{Source}
use Rattle.plan_typed.specs.Numbers.{numbers_of}
use Rattle.well_typed.specs.Columns.{columns_at}
use Rattle.well_typed.specs.WellTyped.{MayBe, AreTyped, AreBelow}
use Rattle.well_typed.proofs.MadeRel.{all_same, all_places}
use Rattle.plan_verdict.specs.declared.rule.Rule.{Rule}
use Rattle.plan_verdict.specs.declared.rule.Rule.TheVariants as rules
use Rattle.plan_verdict.specs.Checking.{Checking}
use Rattle.plan_verdict.specs.Columns.{types_in, schema_in, place_in, mask_item, mask_items, mask_in}
use Rattle.plan_verdict.specs.Meaning.{Expression}
use Rattle.plan_verdict.specs.Rels.{over, read}
use Rattle.plan_verdict.specs.Types.{type_in}
use Rattle.plan_verdict.proofs.CallLaws.{type_valid}
use Rattle.plan_verdict.proofs.ExprLaws.{IsSoundExpr}
use Rattle.plan_verdict.proofs.RelLaws.{anything_given, place_sound, maybe_sound, finished_sound}
use Rattle.plan_verdict.proofs.RowLaws.{IsSoundSource}
use Rattle.plan_verdict.proofs.Sound.{Sound, then, parted, Given, given_then, given_ok_or, given_collect, AllOf}

given_known : {A : Type 0} (P Q : A → Type 0) (r : Result A Rule) → ((value : A) → P value → Q value) → Given P r → Given Q r
given_known P Q (Ok value) k p = k value p
given_known P Q (Err rule) k p = tt

-- valid types, as many as names
abbrev AreTypes : List (List ℕ) → List Ty → Type 0
AreTypes names types = (length names ≡ length types) × AllByRecursion (λ (ty : Ty). IsKind ty.kind) types

types_where : (names : List (List ℕ)) (struct : StructType) (test : Bool) → (length names == length struct.types) ≡ test → Given (AreTypes names) (cond test (collect (map type_in struct.types)) (Err rules.BadNames))
types_where names struct true e =
    let same : length names ≡ length struct.types = grind (arith, nat_tests) in
    given_known (AllOf (λ (ty : Ty). IsKind ty.kind) (length struct.types)) (AreTypes names) (collect (map type_in struct.types)) (λ types p. (omega (arith, same, p.1), p.0))
    (given_collect (λ (ty : Ty). IsKind ty.kind) type_in struct.types (λ raw. type_valid raw rules.UnsupportedType))
types_where names struct false e = tt

abbrev IsSchema : List (List ℕ) × List Ty → Type 0
IsSchema schema = AreTypes schema.0 schema.1

schema_given : (schema : Option NamedStruct) → Given IsSchema (schema_in schema)
schema_given schema =
    given_then (λ _. Unit {0}) IsSchema (ok_or schema rules.MissingField) _ (anything_given (ok_or schema rules.MissingField)) (λ named _.
    given_then (λ _. Unit {0}) IsSchema (ok_or named.struct_ rules.MissingField) _ (anything_given (ok_or named.struct_ rules.MissingField)) (λ struct _.
    given_then (AreTypes named.names) IsSchema (types_in named.names struct) _ (types_where named.names struct (length named.names == length struct.types) refl) (λ types is. is)))

-- the places of a mask are of the columns
item_where : (count : ℕ) (item : MaskItem) (child : Bool) → Given (λ place. place < count) (cond child (Err rules.UnsupportedForm) (ok_or (place_in count item.field) rules.BadReference))
item_where count item true = tt
item_where count item false = given_ok_or (λ place. place < count) (place_in count item.field) rules.BadReference (place_sound count item.field)

mask_given : (count : ℕ) (mask : Option MaskExpression) → Given (AreBelow count) (mask_in count mask)
mask_given count None = all_places count
mask_given count (Some mask) =
    given_known (AllOf (λ place. place < count) (length (mask_items mask))) (AreBelow count) (collect (map (mask_item count) (mask_items mask))) (λ places p. p.0)
    (given_collect (λ place. place < count) (mask_item count) (mask_items mask) (λ item. item_where count item item.child))

module _ (number : ℕ) (common : Option RelCommon) where
  pub read_sound : (schema : Option NamedStruct) (filter : Option Expression) (projection : Option MaskExpression) (source : ℕ → List Ty → Checking Source) → MayBe IsSoundExpr filter → IsSoundSource source
      → (extra : List ℕ) → Sound AreTyped (λ rel. numbers_of rel ++ extra) (number ∷ extra) (read number common schema filter projection source)
  read_sound schema filter projection source ok rows extra =
      let held = number ∷ extra in
      then (parted IsSchema held number (schema_in schema) (schema_given schema)) (λ found is.
      then (rows number found.1 held) (λ table of_types.
      then (maybe_sound (over number found.1) is.1 filter ok held) (λ kept may.
      then (parted (AreBelow (length found.1)) held number (mask_in (length found.1) projection) (mask_given (length found.1) projection)) (λ mask below.
      let direct = columns_at found.1 mask in
      finished_sound number common (ops.Read table found.0 found.1 kept mask) direct (Op-F.Read table found.0 found.1 kept mask) (ops.rolls-Read table found.0 found.1 kept mask) held extra tt
      (is.0, is.1, of_types, may, below) (all_same direct) (λ n. omega arith)))))
