-- Rows that fit, and the rows that are made of them.
use Rattle.std.proofs.Common.{◌<◌, ℕ, zero, suc, List, [], ◌∷◌, ◌++◌, IfOk, true, refl, map, length, slice_index_or, subst, sym, arith}
use Rattle.std.specs.Prelude.{slice_get}
use Rattle.std.specs.List.{AllByRecursion, cons_option}
use Rattle.std.proofs.lemmas.Simd.{map-map}
use Rattle.sub_types.specs.Rows.{picked}
use Rattle.sub_types.specs.Value.{Fits}
use Rattle.sub_types.specs.declared.kind.Ty.{Ty}
use Rattle.sub_types.specs.declared.value.Value.{Value}
use Rattle.sub_types.specs.declared.value.Value.TheVariants as values
use Rattle.plan_typed.specs.declared.expr.Expr.{Expr}
use Rattle.plan_typed.specs.Types.{ty_of}
use Rattle.well_typed.specs.Columns.{columns_at, nullable}
use Rattle.well_typed.specs.ExprTyped.{IsTypedOver}
use Rattle.well_typed.specs.WellTyped.{AreAll, AreBelow}
use Rattle.plan_denote.specs.Computed.{Computed, collect}
use Rattle.plan_denote.specs.Eval.{eval}
use Rattle.plan_denote.specs.Join.{nulls}
use Rattle.plan_denote.specs.Rows.{values_at}
use Rattle.eval_typed.proofs.Fit.{moved, null_fits}
use Rattle.eval_typed.proofs.Law.{law_of_rows}

-- a row behind another
pub beside : (types others : List Ty) (row more : List Value) → Fits types row → Fits others more → Fits (types ++ others) (row ++ more)
beside [] others [] more fits fit = fit
beside [] others (value ∷ row) more fits fit = absurd fits
beside (ty ∷ types) others [] more fits fit = absurd fits
beside (ty ∷ types) others (value ∷ row) more fits fit = (fits.0, beside types others row more fits.1 fit)

-- types that others imply
pub as_given : (implied given : List Ty) (row : List Value) → AreAll implied given → Fits implied row → Fits given row
as_given [] [] row all fits = fits
as_given [] (ty ∷ given) row all fits = absurd all
as_given (ty ∷ implied) [] row all fits = absurd all
as_given (ty ∷ implied) (to ∷ given) [] all fits = absurd fits
as_given (ty ∷ implied) (to ∷ given) (value ∷ row) all fits = (moved ty to value all.0.kind all.0.nullable fits.0, as_given implied given row all.1 fits.1)

-- nullable types
pub as_nullable : (types : List Ty) (row : List Value) → Fits types row → Fits (nullable types) row
as_nullable [] row fits = fits
as_nullable (ty ∷ types) [] fits = absurd fits
as_nullable (ty ∷ types) (value ∷ row) fits = (moved ty (record ty { nullable = true }) value refl (λ _. refl) fits.0, as_nullable types row fits.1)

pub nulls_fit : (types : List Ty) → Fits (nullable types) (nulls (length types))
nulls_fit [] = tt
nulls_fit (ty ∷ types) = (null_fits (record ty { nullable = true }) refl, nulls_fit types)

-- the values at some places
with_value : (types : List Ty) (row : List Value) (place : ℕ) (rest : List Ty) (more : List Value) → place < length types → Fits types row → Fits rest more
    → Fits (cons_option (slice_get types place) rest) (slice_index_or row place values.Null ∷ more)
with_value [] row place rest more below fits fit = absurd (omega (arith, below))
with_value (ty ∷ types) [] place rest more below fits fit = absurd fits
with_value (ty ∷ types) (value ∷ row) zero rest more below fits fit = (fits.0, fit)
with_value (ty ∷ types) (value ∷ row) (suc place) rest more below fits fit = with_value types row place rest more (omega (arith, below)) fits.1 fit

pub at_places : (types : List Ty) (row : List Value) (places : List ℕ) → AreBelow (length types) places → Fits types row → Fits (columns_at types places) (picked values.Null places row)
at_places types row [] below fits = tt
at_places types row (place ∷ places) below fits = with_value types row place (columns_at types places) (picked values.Null places row) below.0 fits (at_places types row places below.1 fits)

-- the values of well-typed expressions
pub values_fit : (types : List Ty) (exprs : List Expr) (row : List Value) → AllByRecursion (IsTypedOver types) exprs → Fits types row → IfOk (values_at (map eval exprs) row) (λ values. Fits (map ty_of exprs) values)
values_fit types exprs row typed fits =
    subst (λ (all : List Computed). IfOk (collect all) (λ values. Fits (map ty_of exprs) values)) (sym (map-map _ _ exprs)) (law_of_rows types exprs typed row fits)
