-- Steps over two columns of numbers, one after the other.
use Rattle.std.proofs.Common.{◌≡◌, ◌∙◌, ℕ, zero, suc, ◌<◌, List, [], ◌∷◌, ◌++◌, Option, Some, None, All, length, slice_index_or, refl, sym, ap, subst, arith}
use Rattle.std.specs.List.{AllByRecursion}
use Rattle.std.proofs.lemmas.List.Elements.{All-head, All-tail, recursion_from_All}
use Rattle.sub_types.specs.declared.kind.Ty.{Ty}
use Rattle.batch.specs.declared.batch.Batch.{Batch}
use Rattle.plan_typed.specs.declared.expr.Expr.{Expr}
use Rattle.plan_typed.specs.declared.rel.JoinKind.{JoinKind}
use Rattle.plan_typed.specs.declared.rel.JoinKind.TheVariants as joins
use Rattle.well_typed.specs.Columns.{columns_at, join_columns}
use Rattle.well_typed.specs.WellTyped.{AreBelow, IsConditionOver}
use Rattle.rel_specs.specs.declared.join.JoinSpec.{JoinSpec}
use Rattle.join_columns.specs.Sides.{kinds_of}
use Rattle.plan_pipes.specs.declared.pipe.Step.{Step}
use Rattle.plan_pipes.specs.declared.pipe.Step.TheVariants as steps
use Rattle.plan_pipes.specs.Run.{stepped, through}
use Rattle.pipe_types.specs.Exact.{exact_steps}
use Rattle.pipe_types.specs.Over.{AreStepsOver, IsStepOver}
use Rattle.pipe_steps.specs.declared.built.BuiltTable.{BuiltTable}
use Rattle.pipe_steps.specs.Ready.{IsReady}
use Rattle.pipe_steps.specs.Tables.{joins_of}
use Rattle.pipe_round_tests.specs.Steps.{AreSteps, IsJoinOf, IsReadAll, StartWithRead, number, sides}

abbrev two : List Ty
two = number ∷ number ∷ []

-- ---- steps behind others

over_more : (known : List (Option JoinSpec)) (given : List Ty) (first more : List Step) → AreStepsOver known given first → AreStepsOver known (through exact_steps known first given) more → AreStepsOver known given (first ++ more)
over_more known given [] more over next = next
over_more known given (step ∷ first) more over next = (over.0, over_more known (stepped exact_steps known step given) first more over.1 next)

through_more : (known : List (Option JoinSpec)) (given : List Ty) (first more : List Step) → through exact_steps known (first ++ more) given ≡ through exact_steps known more (through exact_steps known first given)
through_more known given [] more = refl
through_more known given (step ∷ first) more = through_more known (stepped exact_steps known step given) first more

starts_more : (first more : List Step) → StartWithRead first → StartWithRead (first ++ more)
starts_more [] more starts = absurd starts
starts_more (steps.Read relation names types filter mask ∷ first) more starts = tt
starts_more (steps.Filter relation condition ∷ first) more starts = absurd starts
starts_more (steps.Project relation exprs ∷ first) more starts = absurd starts
starts_more (steps.Keep columns ∷ first) more starts = absurd starts
starts_more (steps.Probe built ∷ first) more starts = absurd starts

pub steps_more : (known : List (Option JoinSpec)) (first more : List Step) → AreSteps known first → AreStepsOver known two more → through exact_steps known more two ≡ two → AreSteps known (first ++ more)
steps_more known first more all over same = record {
  over = over_more known two first more all.over (subst (λ given. AreStepsOver known given more) (sym all.same) over);
  same = through_more known two first more ∙ ap (through exact_steps known more) all.same ∙ same;
  starts = starts_more first more all.starts;
}

-- ---- a read relation's step

pub read_steps : (known : List (Option JoinSpec)) (step : Step) → IsReadAll step → AreSteps known (step ∷ [])
read_steps known (steps.Read relation names types filter mask) (is, none, places) =
    let parts : AreSteps known (steps.Read relation names two None (0 ∷ 1 ∷ []) ∷ []) = record { over = (((tt, (tt, tt)), refl, tt, (omega arith, (omega arith, tt))), tt); same = refl; starts = tt } in
    subst (λ (q : List Ty × Option Expr × List ℕ). AreSteps known (steps.Read relation names q.0 q.1 q.2 ∷ [])) (λ i. (sym is i, sym none i, sym places i)) parts
read_steps known (steps.Filter relation condition) is = absurd is
read_steps known (steps.Project relation exprs) is = absurd is
read_steps known (steps.Keep columns) is = absurd is
read_steps known (steps.Probe built) is = absurd is

pub ready_any : (all : List Step) (batch : Batch) → StartWithRead all → IsReady all batch
ready_any [] batch starts = absurd starts
ready_any (steps.Read relation names types filter mask ∷ more) batch starts = tt
ready_any (steps.Filter relation condition ∷ more) batch starts = absurd starts
ready_any (steps.Project relation exprs ∷ more) batch starts = absurd starts
ready_any (steps.Keep columns ∷ more) batch starts = absurd starts
ready_any (steps.Probe built ∷ more) batch starts = absurd starts

-- ---- two of the columns

kept_same : (first second : ℕ) → first < 2 → second < 2 → columns_at two (first ∷ second ∷ []) ≡ two
kept_same zero zero a b = refl
kept_same zero (suc zero) a b = refl
kept_same zero (suc (suc k)) a b = absurd (omega (arith, b))
kept_same (suc zero) zero a b = refl
kept_same (suc zero) (suc zero) a b = refl
kept_same (suc zero) (suc (suc k)) a b = absurd (omega (arith, b))
kept_same (suc (suc k)) second a b = absurd (omega (arith, a))

pub kept_more : (known : List (Option JoinSpec)) (all : List Step) (first second : ℕ) → first < 2 → second < 2 → AreSteps known all → AreSteps known (all ++ steps.Keep (first ∷ second ∷ []) ∷ [])
kept_more known all first second a b done = steps_more known all (steps.Keep (first ∷ second ∷ []) ∷ []) done ((a, (b, tt)), tt) (kept_same first second a b)

-- ---- a join

left_kept : (kind : JoinKind) → AreBelow (length (join_columns kind two two)) (0 ∷ 1 ∷ []) × (columns_at (join_columns kind two two) (0 ∷ 1 ∷ []) ≡ two)
left_kept joins.Inner = ((omega arith, (omega arith, tt)), refl)
left_kept joins.Outer = ((omega arith, (omega arith, tt)), refl)
left_kept joins.Left = ((omega arith, (omega arith, tt)), refl)
left_kept joins.Right = ((omega arith, (omega arith, tt)), refl)
left_kept joins.LeftSemi = ((omega arith, (omega arith, tt)), refl)
left_kept joins.LeftAnti = ((omega arith, (omega arith, tt)), refl)

joined_at : (tables : List BuiltTable) (built : ℕ) → built < length tables → All IsJoinOf tables → (join : JoinSpec) × (slice_index_or (joins_of tables) built None ≡ Some join) × (join.left.items ≡ two) × (join.right.items ≡ two) × All (IsConditionOver sides) join.rest.items
joined_at [] built below all = absurd (omega (arith, below))
joined_at (table ∷ tables) zero below all = let own = All-head IsJoinOf table tables all in (table.table.spec, refl, own.left, own.right, own.rest)
joined_at (table ∷ tables) (suc built) below all = joined_at tables built (omega (arith, below)) (All-tail IsJoinOf table tables all)

abbrev JoinIn : Option JoinSpec → Type 0
JoinIn found = IsStepOver (found ∷ []) two (steps.Probe 0) × AreBelow (length (stepped exact_steps (found ∷ []) (steps.Probe 0) two)) (0 ∷ 1 ∷ []) × (columns_at (stepped exact_steps (found ∷ []) (steps.Probe 0) two) (0 ∷ 1 ∷ []) ≡ two)

join_in : (join : JoinSpec) → join.left.items ≡ two → join.right.items ≡ two → All (IsConditionOver sides) join.rest.items → JoinIn (Some join)
join_in join left right rest =
    let kept = subst (λ types. AreBelow (length (join_columns join.kind two types)) (0 ∷ 1 ∷ []) × (columns_at (join_columns join.kind two types) (0 ∷ 1 ∷ []) ≡ two)) (sym right) (left_kept join.kind) in
    let typed : AllByRecursion (IsConditionOver (two ++ two)) join.rest.items = recursion_from_All (IsConditionOver sides) join.rest.items rest in
    ((ap kinds_of (sym left), subst (λ types. AllByRecursion (IsConditionOver (two ++ types)) join.rest.items) (sym right) typed), kept.0, kept.1)

pub joined_more : (tables : List BuiltTable) (all : List Step) (built : ℕ) → built < length tables → All IsJoinOf tables → AreSteps (joins_of tables) all
    → AreSteps (joins_of tables) (all ++ steps.Probe built ∷ steps.Keep (0 ∷ 1 ∷ []) ∷ [])
joined_more tables all built below joins done =
    let found = joined_at tables built below joins in
    let parts : JoinIn (slice_index_or (joins_of tables) built None) = subst JoinIn (sym found.1) (join_in found.0 found.2 found.3 found.4) in
    steps_more (joins_of tables) all (steps.Probe built ∷ steps.Keep (0 ∷ 1 ∷ []) ∷ []) done (parts.0, (parts.1, tt)) parts.2
