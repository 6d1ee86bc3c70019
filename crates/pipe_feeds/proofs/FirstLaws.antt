-- Rows that the first step has read.
use Rattle.std.proofs.Common.{◌≡◌, ◌∙◌, ℕ, List, [], ◌∷◌, Option, Some, drop, take, refl, sym, ap, subst, arith}
use Rattle.std.specs.Prelude.{slice_get}
use Rattle.std.specs.List.{All, AllByRecursion}
use Rattle.std.proofs.lemmas.List.Elements.{All-weaker}
use Rattle.sub_types.specs.Value.{Fits}
use Rattle.sub_types.specs.declared.kind.Kind.{Kind}
use Rattle.sub_types.specs.declared.kind.Ty.{Ty}
use Rattle.sub_types.specs.Stream.{Stream}
use Rattle.batch.specs.declared.batch.Piece.{Piece}
use Rattle.batch.specs.BatchRows.{rows_of, types_of}
use Rattle.plan_typed.specs.declared.expr.Expr.{Expr}
use Rattle.plan_typed.specs.declared.rel.Source.TheVariants as sources
use Rattle.rel_specs.specs.declared.join.JoinSpec.{JoinSpec}
use Rattle.well_typed.specs.Columns.{columns_at}
use Rattle.well_typed.specs.WellTyped.{IsRowOf, IsSourceOf}
use Rattle.plan_denote.specs.Denote.{maybe_condition}
use Rattle.plan_denote.specs.Read.{read_rows}
use Rattle.plan_denote.specs.Rows.{Row}
use Rattle.join_columns.specs.Sides.{kinds_of}
use Rattle.set_rels.specs.Inputs.{stream_of}
use Rattle.plan_pipes.specs.declared.pipe.Step.{Step}
use Rattle.plan_pipes.specs.declared.pipe.Step.TheVariants as steps
use Rattle.plan_pipes.specs.Run.{through}
use Rattle.plan_pipes.specs.RowMeaning.{row_steps}
use Rattle.pipe_types.specs.Exact.{exact_steps}
use Rattle.pipe_types.specs.Over.{AreStepsOver}
use Rattle.pipe_steps.specs.Ready.{IsFit}
use Rattle.pipe_ends.specs.Given.{IsInput}
use Rattle.virtual_pieces.specs.Pieces.{HoldsRows}
use Rattle.pipe_feeds.specs.Ready.{HasPassed, IsReadFirst}
use Rattle.pipe_feeds.specs.declared.feed.Through.{Through}

-- rows of expressions of these kinds
row_as : (given types : List Ty) (fields : List Expr) → kinds_of given ≡ kinds_of types → IsRowOf given fields → IsRowOf types fields
row_as [] [] fields same is = is
row_as [] (ty ∷ types) fields same is = absurd (cc)
row_as (ty ∷ given) [] fields same is = absurd (cc)
row_as (one ∷ given) (ty ∷ types) [] same is = absurd is
row_as (one ∷ given) (ty ∷ types) (field ∷ fields) same is = (is.0, is.1 ∙ first_kind one.kind ty.kind (kinds_of given) (kinds_of types) same, row_as given types fields (other_kinds one.kind ty.kind (kinds_of given) (kinds_of types) same) is.2)
  where
    first_kind : (a b : Kind) (xs ys : List Kind) → a ∷ xs ≡ b ∷ ys → a ≡ b
    first_kind a b xs ys e = cc

    other_kinds : (a b : Kind) (xs ys : List Kind) → a ∷ xs ≡ b ∷ ys → xs ≡ ys
    other_kinds a b xs ys e = cc

rows_as : (given types : List Ty) (rows : List (List Expr)) → kinds_of given ≡ kinds_of types → AllByRecursion (IsRowOf given) rows → AllByRecursion (IsRowOf types) rows
rows_as given types [] same all = tt
rows_as given types (row ∷ rows) same all = (row_as given types row same all.0, rows_as given types rows same all.1)

pub source_as : (given types : List Ty) (rows : List (List Expr)) → kinds_of given ≡ kinds_of types → IsSourceOf given (sources.Rows rows) → IsSourceOf types (sources.Rows rows)
source_as given types rows same all = rows_as given types rows same all

-- the first step reads
module _ (joins : List (Option JoinSpec)) (given : List Ty) (reader : ℕ) (names : List (List ℕ)) (types : List Ty) (filter : Option Expr) (mask : List ℕ) where
  abbrev reading : Step
  reading = steps.Read reader names types filter mask

  some_is : {A : Type 0} (x y : A) → Some x ≡ Some y → x ≡ y
  some_is x y e = cc

  abbrev IsFirst : List Step → Type 0
  IsFirst all = IsReadFirst joins given types reader filter mask all

  by_first : (first : Step) (more : List Step) → first ≡ reading → AreStepsOver joins given (first ∷ more) → IsFirst (first ∷ more)
  by_first first more is over =
      subst (λ (step : Step). AreStepsOver joins given (step ∷ more) → IsFirst (step ∷ more)) (sym is) (λ now. record {
        kinds = now.0.0;
        same = now.0.1;
        below = now.0.3;
        stored = refl;
        within = omega arith;
        over = now.1;
        types_later = refl;
        rows_later = λ rights s. refl;
      }) over

  pub read_first : (all : List Step) → slice_get all 0 ≡ Some reading → AreStepsOver joins given all → IsFirst all
  read_first [] is over = absurd (cc)
  read_first (first ∷ more) is over = by_first first more (some_is first reading is) over

-- pieces of rows that fit these types are an input
fit_as : (types : List Ty) (piece : Piece) → HoldsRows types piece → IsFit piece.batch
fit_as types piece holds = subst (λ (own : List Ty). All (Fits own) (rows_of piece.batch)) (sym holds.typed) holds.fit

pub held_input : (types own : List Ty) (pieces : List Piece) → own ≡ types → All (HoldsRows own) pieces → IsInput types pieces
held_input types own pieces same held = subst (λ (all : List Ty). IsInput all pieces) same (record {
  typed = All-weaker (HoldsRows own) (λ (piece : Piece). types_of piece.batch ≡ own) (λ piece holds. holds.typed) pieces held;
  fit = All-weaker (HoldsRows own) (λ (piece : Piece). IsFit piece.batch) (fit_as own) pieces held;
})

-- the rows that the first step has read
pub has_passed : (joins : List (Option JoinSpec)) (given types : List Ty) (reader : ℕ) (filter : Option Expr) (mask : List ℕ) (all : List Step) (stream : Stream Row) (fed : Through) → IsReadFirst joins given types reader filter mask all
    → fed.types.items ≡ through exact_steps joins (take 1 all) given → IsInput fed.types.items fed.pieces.items → stream_of fed.pieces.items ≡ read_rows reader types (maybe_condition filter) mask stream → HasPassed joins all given stream fed
has_passed joins given types reader filter mask all stream fed first is input rows =
    let columns : fed.types.items ≡ columns_at types mask = is ∙ first.stored in
    record {
      within = first.within;
      stores = ap (through exact_steps joins (drop 1 all)) columns ∙ first.types_later;
      over = subst (λ (own : List Ty). AreStepsOver joins own (drop 1 all)) (sym columns) first.over;
      input = input;
      rows = λ rights. ap (through row_steps rights (drop 1 all)) rows ∙ first.rows_later rights stream;
    }
