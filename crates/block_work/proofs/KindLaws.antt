-- The kinds of what is read.
use Rattle.std.proofs.Common.{◌≡◌, ◌∙◌, ℕ, ◌+◌, ◌<◌, List, [], ◌∷◌, ◌++◌, Option, true, false, length, map, get_or, take, sym, ap, subst, arith}
use Rattle.std.proofs.Math.ListN.{get_or-map as get_or-of_map}
use Rattle.std.proofs.lemmas.List.{length-map, take_more}
use Rattle.std.specs.List.{All, AllByRecursion}
use Rattle.std.proofs.lemmas.List.Elements.{All-nil, All-cons}
use Rattle.sub_types.specs.Kind.{IsKind}
use Rattle.sub_types.specs.declared.kind.Kind.{Kind}
use Rattle.sub_types.specs.declared.kind.Ty.{Ty}
use Rattle.func_table.proofs.KindLaws.{equal_kinds, is_equal-same}
use Rattle.func_table.specs.Kinds.{is_equal}
use Rattle.batch.specs.Column.{column_type}
use Rattle.batch.specs.declared.batch.Batch.{Batch}
use Rattle.batch.specs.declared.column.Column.{Column}
use Rattle.rel_specs.specs.declared.join.JoinSpec.{JoinSpec}
use Rattle.table_rows.proofs.RetypeLaws.{kind_at}
use Rattle.table_rows.specs.Read.{kinds_of}
use Rattle.plan_pipes.specs.declared.pipe.Step.{Step}
use Rattle.plan_pipes.specs.declared.pipe.Step.TheVariants as steps
use Rattle.pipe_types.specs.Over.{AreStepsOver}
use Rattle.pipe_steps.specs.Ready.{IsReady}
use Rattle.block_work.specs.Reads.{StartsWithRead}

abbrev kind_of : Ty → Kind
kind_of ty = ty.kind

-- ---- columns of the kinds of types, one after the other

-- one more is of its type's kind
pub kinds_more : (columns : List Column) (types : List Ty) (i : ℕ) (column : Column) (none : Ty) → length columns ≡ length types → i < length types
    → is_equal (get_or columns i column).ty.kind (get_or types i none).kind ≡ true
    → take i (kinds_of (map column_type columns)) ≡ take i (kinds_of types) → take (i + 1) (kinds_of (map column_type columns)) ≡ take (i + 1) (kinds_of types)
kinds_more columns types i column none many below alike done =
    let own = kinds_of (map column_type columns) in
    let within : i < length own = omega (arith, below, many, length-map columns column_type, length-map (map column_type columns) kind_of) in
    let also : i < length (kinds_of types) = omega (arith, below, length-map types kind_of) in
    let here : get_or own i column.ty.kind ≡ get_or (kinds_of types) i none.kind =
    get_or-of_map kind_of (map column_type columns) i (column_type column) ∙ ap kind_of (get_or-of_map column_type columns i column)
    ∙ equal_kinds (get_or columns i column).ty.kind (get_or types i none).kind alike
    ∙ sym (get_or-of_map kind_of types i none) in
    take_more own i column.ty.kind within ∙ (λ k. done k ++ here k ∷ []) ∙ sym (take_more (kinds_of types) i none.kind also)

-- one is not of its type's kind
pub kinds_differ : (columns : List Column) (types : List Ty) (i : ℕ) (column : Column) (none : Ty) → i < length types → is_equal (get_or columns i column).ty.kind (get_or types i none).kind ≡ false
    → kinds_of (map column_type columns) ≡ kinds_of types → ⊥
kinds_differ columns types i column none below differ same =
    let own = (get_or columns i column).ty.kind in
    let both : true ≡ false = sym (is_equal-same own) ∙ ap (is_equal own) (kind_at columns types i column none same below) ∙ differ in
    absurd (cc)

-- ---- the input of a pipeline

kinds_as : (given types : List Ty) → kinds_of given ≡ kinds_of types → AllByRecursion (λ (ty : Ty). IsKind ty.kind) types → All (λ (ty : Ty). IsKind ty.kind) given
kinds_as [] types same kinds = All-nil (λ (ty : Ty). IsKind ty.kind)
kinds_as (one ∷ given) [] same kinds = absurd (cc)
kinds_as (one ∷ given) (ty ∷ types) same kinds =
    let here : ty.kind ≡ one.kind = cc in
    let rest : kinds_of given ≡ kinds_of types = cc in
    All-cons (λ (own : Ty). IsKind own.kind) one given (subst IsKind here kinds.0) (kinds_as given types rest kinds.1)

-- the input of a read relation's step has kinds that a plan may name
pub kinds_over : (joins : List (Option JoinSpec)) (given : List Ty) (all : List Step) → StartsWithRead all → AreStepsOver joins given all → All (λ (ty : Ty). IsKind ty.kind) given
kinds_over joins given [] starts over = absurd starts
kinds_over joins given (steps.Read relation names types filter mask ∷ more) starts over = kinds_as given types over.0.1 over.0.0
kinds_over joins given (steps.Filter relation condition ∷ more) starts over = absurd starts
kinds_over joins given (steps.Project relation exprs ∷ more) starts over = absurd starts
kinds_over joins given (steps.Keep columns ∷ more) starts over = absurd starts
kinds_over joins given (steps.Probe built ∷ more) starts over = absurd starts

-- any batch may go through it
pub ready_any : (all : List Step) (batch : Batch) → StartsWithRead all → IsReady all batch
ready_any [] batch starts = absurd starts
ready_any (steps.Read relation names types filter mask ∷ more) batch starts = tt
ready_any (steps.Filter relation condition ∷ more) batch starts = absurd starts
ready_any (steps.Project relation exprs ∷ more) batch starts = absurd starts
ready_any (steps.Keep columns ∷ more) batch starts = absurd starts
ready_any (steps.Probe built ∷ more) batch starts = absurd starts
