-- The checks of relations but for aggregates don't depend on the numbers of nodes.
use Rattle.std.proofs.Common.{ℕ, ℤ, List, ◌++◌, Option, Some, None, map}
use Rattle.std.specs.Prelude.{length}
use Rattle.std.specs.List.{AllByRecursion}
use Rattle.std.specs.Option.{ok_or}
use Rattle.sub_types.specs.declared.kind.Ty.{Ty}
use Rattle.plan_leaves.specs.declared.common.RelCommon.{RelCommon}
use Rattle.plan_leaves.specs.declared.mask.MaskExpression.{MaskExpression}
use Rattle.plan_leaves.specs.declared.schema.NamedStruct.{NamedStruct}
use Rattle.plan_typed.specs.declared.rel.Op.{Op}
use Rattle.plan_typed.specs.declared.rel.Op.TheVariants as ops
use Rattle.plan_typed.specs.declared.rel.Rel.{Rel}
use Rattle.plan_typed.specs.declared.rel.SortKey.{SortKey}
use Rattle.plan_typed.specs.declared.rel.Source.{Source}
use Rattle.plan_typed.specs.Types.{ty_of, columns_of}
use Rattle.well_typed.specs.Columns.{columns_at, join_columns}
use Rattle.well_typed.specs.WellTyped.{MayBe}
use Rattle.plan_verdict.specs.declared.rule.Rule.TheVariants as rules
use Rattle.plan_verdict.specs.Amounts.{amounts_in}
use Rattle.plan_verdict.specs.Checking.{Checking}
use Rattle.plan_verdict.specs.Columns.{schema_in, mask_in, finished_in}
use Rattle.plan_verdict.specs.Meaning.{Scope, Expression}
use Rattle.plan_verdict.specs.Relation.{numbered, finished}
use Rattle.plan_verdict.specs.Rels.{over, maybe_condition, read, filter, fetch, sort, sort_key, direction_of, join, join_kind, cross, project, set}
use Rattle.plan_verdict.specs.Sets.{set_in}
use Rattle.verdict_nodes.specs.Alike.{IsBlind}
use Rattle.verdict_nodes.proofs.ExprLaws.{IsBlindExpr, IsBlindRel, numbered_alike, input_alike, required_alike, condition_alike, each_in_alike}
use Rattle.verdict_nodes.proofs.RowLaws.{IsBlindSource}
use Rattle.verdict_nodes.proofs.Steps.{then, accepted, parted, each_alike}

pub finished_alike : (number : ℕ) (common : Option RelCommon) (op : Op) (direct : List Ty) → IsBlind (finished number common op direct)
finished_alike number common op direct = parted number (finished_in number common op direct)

-- a condition that may be absent
pub maybe_alike : (scope : Scope) (written : Option Expression) → MayBe IsBlindExpr written → IsBlind (maybe_condition scope written)
maybe_alike scope None ok = accepted None
maybe_alike scope (Some written) ok = then (condition_alike scope (Some written) ok) (λ expr. accepted (Some expr))

-- a key of a sort
abbrev pub IsBlindKey : (Scope → Checking SortKey) → Type 0
IsBlindKey key = (scope : Scope) → IsBlind (key scope)

pub sort_key_alike : (written : Option Expression) (direction : ℕ) → MayBe IsBlindExpr written → IsBlindKey (sort_key written direction)
sort_key_alike written direction ok scope =
    then (required_alike scope written ok) (λ expr.
    then (parted scope.relation (ok_or (direction_of direction) rules.UnsupportedForm)) (λ found.
    accepted (record { expr = expr; descending = found.0; nulls_first = found.1 })))

module _ (number : ℕ) (common : Option RelCommon) where
  pub read_alike : (schema : Option NamedStruct) (filter : Option Expression) (projection : Option MaskExpression) (source : ℕ → List Ty → Checking Source) → MayBe IsBlindExpr filter → IsBlindSource source → IsBlind (read number common schema filter projection source)
  read_alike schema filter projection source ok rows =
      then (parted number (schema_in schema)) (λ found.
      then (rows number found.1) (λ table.
      then (maybe_alike (over number found.1) filter ok) (λ kept.
      then (parted number (mask_in (length found.1) projection)) (λ mask.
      finished_alike number common (ops.Read table found.0 found.1 kept mask) (columns_at found.1 mask)))))

  pub filter_alike : (written : Option (ℕ → Checking Rel)) (test : Option Expression) → MayBe IsBlindRel written → MayBe IsBlindExpr test → IsBlind (filter number common written test)
  filter_alike written test s ok =
      then (input_alike number written s) (λ rel.
      then (condition_alike (over number (columns_of rel)) test ok) (λ expr.
      finished_alike number common (ops.Filter rel expr) (columns_of rel)))

  pub fetch_alike : (written : Option (ℕ → Checking Rel)) (from many : Option (Option ℤ)) → MayBe IsBlindRel written → IsBlind (fetch number common written from many)
  fetch_alike written from many s =
      then (input_alike number written s) (λ rel.
      then (parted number (amounts_in from many)) (λ amounts.
      finished_alike number common (ops.Fetch rel amounts.0 amounts.1) (columns_of rel)))

  pub sort_alike : (written : Option (ℕ → Checking Rel)) (sorts : List (Scope → Checking SortKey)) → MayBe IsBlindRel written → AllByRecursion IsBlindKey sorts → IsBlind (sort number common written sorts)
  sort_alike written sorts s all =
      then (input_alike number written s) (λ rel.
      then (each_alike IsBlindKey (λ key. key (over number (columns_of rel))) sorts all (λ key q. q (over number (columns_of rel)))) (λ keys.
      finished_alike number common (ops.Sort rel keys) (columns_of rel)))

  pub project_alike : (written : Option (ℕ → Checking Rel)) (expressions : List Expression) → MayBe IsBlindRel written → AllByRecursion IsBlindExpr expressions → IsBlind (project number common written expressions)
  project_alike written expressions s all =
      then (input_alike number written s) (λ rel.
      then (each_in_alike (over number (columns_of rel)) expressions all) (λ exprs.
      finished_alike number common (ops.Project rel exprs) (columns_of rel ++ map ty_of exprs)))

  pub cross_alike : (left right : Option (ℕ → Checking Rel)) → MayBe IsBlindRel left → MayBe IsBlindRel right → IsBlind (cross number common left right)
  cross_alike left right s s' =
      then (input_alike number left s) (λ l.
      then (input_alike number right s') (λ r.
      finished_alike number common (ops.Cross l r) (columns_of l ++ columns_of r)))

  pub join_alike : (left right : Option (ℕ → Checking Rel)) (expression post_filter : Option Expression) (type : ℕ) → MayBe IsBlindRel left → MayBe IsBlindRel right → MayBe IsBlindExpr expression → MayBe IsBlindExpr post_filter
      → IsBlind (join number common left right expression post_filter type)
  join_alike left right expression post_filter type s s' ok ok' =
      then (input_alike number left s) (λ l.
      then (input_alike number right s') (λ r.
      then (parted number (ok_or (join_kind type) rules.UnsupportedForm)) (λ kind.
      then (condition_alike (over number (columns_of l ++ columns_of r)) expression ok) (λ on.
      then (maybe_alike (over number (join_columns kind (columns_of l) (columns_of r))) post_filter ok') (λ post.
      finished_alike number common (ops.Join l r kind on post) (join_columns kind (columns_of l) (columns_of r)))))))

  -- SetRel
  pub set_alike : (written : List (ℕ → Checking Rel)) (code : ℕ) → AllByRecursion IsBlindRel written → IsBlind (set number common written code)
  set_alike written code all =
      then (each_alike IsBlindRel numbered written all numbered_alike) (λ rels.
      parted number (set_in number common rels code))
