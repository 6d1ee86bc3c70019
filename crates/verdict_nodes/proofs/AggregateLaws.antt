-- The checks of aggregates don't depend on the numbers of nodes.
use Rattle.std.proofs.Common.{ℕ, List, [], ◌∷◌, ◌++◌, Option, Some, None, map}
use Rattle.std.specs.Prelude.{length, ◌==◌, ◌&&◌, not, is_none, nat_le, position}
use Rattle.std.specs.List.{AllByRecursion, range_with_len}
use Rattle.plan_leaves.specs.declared.common.RelCommon.{RelCommon}
use Rattle.plan_leaves.specs.declared.options.FunctionOption.{FunctionOption}
use Rattle.plan_leaves.specs.declared.types.RawType.{RawType}
use Rattle.plan_typed.specs.declared.expr.Expr.{Expr}
use Rattle.plan_typed.specs.declared.rel.Rel.{Rel}
use Rattle.plan_typed.specs.declared.rel.SetMeasure.{SetMeasure}
use Rattle.plan_typed.specs.Types.{ty_of, columns_of}
use Rattle.func_table.specs.declared.row.Class.TheVariants.{Aggregate}
use Rattle.well_typed.specs.Columns.{MAX_GROUPINGS}
use Rattle.well_typed.specs.WellTyped.{MayBe}
use Rattle.plan_verdict.specs.declared.groups.Group.{Group}
use Rattle.plan_verdict.specs.declared.rule.Rule.TheVariants as rules
use Rattle.plan_verdict.specs.Aggregates.{first_of, measured, measure_in, is_same_group, sets_of_places, referred, found_at, group_in, set_in, sets_in, written_out, groups_in, aggregate, aggregate_op, aggregate_columns}
use Rattle.plan_verdict.specs.Calls.{named_in, call_in}
use Rattle.plan_verdict.specs.Checking.{Checking, accept}
use Rattle.plan_verdict.specs.Exprs.{Terms}
use Rattle.plan_verdict.specs.Meaning.{Scope, Expression, Aggregation, Sets}
use Rattle.plan_verdict.specs.Rels.{over}
use Rattle.verdict_nodes.specs.Alike.{Alike, IsBlind}
use Rattle.verdict_nodes.proofs.ExprLaws.{IsBlindExpr, IsBlindRel, input_alike, each_in_alike, arguments_alike}
use Rattle.verdict_nodes.proofs.RelLaws.{finished_alike, maybe_alike}
use Rattle.verdict_nodes.proofs.Steps.{then, and_then, accepted, refused, parted, tested, relations_alike, nodes_alike, from_alike, each_alike}

-- the check of an aggregate function over a filter that is checked, and that of a measure
abbrev pub IsBlindFunction : Aggregation → Type 0
IsBlindFunction function = (scope : Scope) (kept : Option Expr) → IsBlind (function.check scope kept)

abbrev pub IsBlindMeasure : (Scope → Checking SetMeasure) → Type 0
IsBlindMeasure one = (scope : Scope) → IsBlind (one scope)

-- the expressions of a grouping
abbrev pub AreBlindSets : Sets → Type 0
AreBlindSets one = AllByRecursion IsBlindExpr one.expressions

pub measured_alike : (terms : Terms) (reference : ℕ) (output : Option RawType) (written : List (Option Expression)) (options : List FunctionOption) → AllByRecursion (MayBe IsBlindExpr) written
    → (scope : Scope) (kept : Option Expr) → IsBlind (measured terms reference output written options scope kept)
measured_alike terms reference output written options all scope kept =
    then (parted scope.relation (named_in terms.declared Aggregate reference)) (λ named.
    then (arguments_alike scope written all) (λ args.
    then (parted scope.relation (call_in named Aggregate (map ty_of args) output options)) (λ call.
    accepted (record { func = call.func; arg = first_of args; filter = kept; ty = call.ty }))))

pub measure_alike : (written : Option Aggregation) (filter : Option Expression) → MayBe IsBlindFunction written → MayBe IsBlindExpr filter → IsBlindMeasure (measure_in written filter)
measure_alike None filter s ok scope = refused scope.relation rules.MissingField
measure_alike (Some function) filter s ok scope =
    and_then (tested scope.relation function.is_supported rules.UnsupportedForm)
    (then (maybe_alike scope filter ok) (λ kept.
    then (s scope kept) (λ measure.
    and_then (tested scope.relation (not (function.is_distinct && is_none measure.arg)) rules.BadArguments)
    (accepted (record { measure = measure; distinct = function.is_distinct })))))

module _ (scope : Scope) where
  placed_at : (groups : List Group) (m n : ℕ) (group : Group) (o : Option ℕ)
      → Alike {A = List Group × ℕ} (elim o [ Some place ↦ found_at groups m place | None ↦ accept (groups ++ group ∷ [], length groups) ]) (elim o [ Some place ↦ found_at groups n place | None ↦ accept (groups ++ group ∷ [], length groups) ])
  placed_at groups m n group (Some place) = and_then (from_alike m n) (accepted (groups, place))
  placed_at groups m n group None = accepted (groups ++ group ∷ [], length groups)

  pub group_alike : (groups : List Group) (written : Expression) → IsBlindExpr written → IsBlind (group_in scope groups written)
  group_alike groups written ok =
      nodes_alike (λ m n.
      then relations_alike (λ before.
      then (ok scope) (λ expr.
      then relations_alike (λ after.
      let group : Group = record { expr = expr; holds_subquery = not (before == after) } in
      placed_at groups m n group (position (is_same_group group) groups)))))

  pub set_alike : (groups : List Group) (written : List Expression) → AllByRecursion IsBlindExpr written → IsBlind (set_in scope groups written)
  set_alike groups [] ok = accepted (groups, [])
  set_alike groups (first ∷ rest) ok =
      then (group_alike groups first ok.0) (λ one.
      then (set_alike one.0 rest ok.1) (λ others. accepted (others.0, one.1 ∷ others.1)))

  pub sets_alike : (groups : List Group) (written : List Sets) → AllByRecursion AreBlindSets written → IsBlind (sets_in scope groups written)
  sets_alike groups [] ok = accepted (groups, [])
  sets_alike groups (first ∷ rest) ok =
      then (set_alike groups first.expressions ok.0) (λ one.
      then (sets_alike one.0 rest ok.1) (λ others. accepted (others.0, one.1 ∷ others.1)))

  written_alike : (groupings : List Sets) → AllByRecursion AreBlindSets groupings → IsBlind (written_out scope groupings)
  written_alike [] ok = accepted (record { groups = []; sets = [] ∷ [] })
  written_alike (one ∷ []) ok =
      then (each_in_alike scope one.expressions ok.0) (λ exprs. accepted (record { groups = exprs; sets = range_with_len 0 (length exprs) ∷ [] }))
  written_alike (one ∷ two ∷ rest) ok =
      then (sets_alike [] (one ∷ two ∷ rest) ok) (λ found. accepted (record { groups = map (λ (group : Group). group.expr) found.0; sets = found.1 }))

  referred_alike : (expressions : List Expression) (groupings : List Sets) → AllByRecursion IsBlindExpr expressions → IsBlind (referred scope expressions groupings)
  referred_alike expressions groupings ok =
      then (each_in_alike scope expressions ok) (λ exprs.
      then (parted scope.relation (sets_of_places (length exprs) (map (λ (one : Sets). one.references) groupings))) (λ sets.
      accepted (record { groups = exprs; sets = sets })))

  groups_alike : (expressions : List Expression) (groupings : List Sets) → AllByRecursion IsBlindExpr expressions → AllByRecursion AreBlindSets groupings → IsBlind (groups_in scope expressions groupings)
  groups_alike [] groupings ok all = written_alike groupings all
  groups_alike (first ∷ rest) groupings ok all = referred_alike (first ∷ rest) groupings ok

pub aggregate_alike : (number : ℕ) (common : Option RelCommon) (written : Option (ℕ → Checking Rel)) (groupings : List Sets) (measures : List (Scope → Checking SetMeasure)) (expressions : List Expression) → MayBe IsBlindRel written → AllByRecursion AreBlindSets groupings
    → AllByRecursion IsBlindMeasure measures → AllByRecursion IsBlindExpr expressions → IsBlind (aggregate number common written groupings measures expressions)
aggregate_alike number common written groupings measures expressions s sets all ok =
    then (input_alike number written s) (λ rel.
    and_then (tested number (nat_le (length groupings) MAX_GROUPINGS) rules.TooMany)
    (then (groups_alike (over number (columns_of rel)) expressions groupings ok sets) (λ found.
    then (each_alike IsBlindMeasure (λ one. one (over number (columns_of rel))) measures all (λ one q. q (over number (columns_of rel)))) (λ checked.
    finished_alike number common (aggregate_op rel found checked) (aggregate_columns found checked)))))
