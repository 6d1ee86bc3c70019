-- Tables whose rows fit the types that they are read as are well kinded.
use Rattle.std.proofs.Common.{List, [], ◌∷◌, ℕ}
use Rattle.std.specs.List.{AllByRecursion}
use Rattle.sub_types.specs.Value.{Fits}
use Rattle.sub_types.specs.declared.kind.Ty.{Ty}
use Rattle.sub_types.specs.declared.value.Value.{Value}
use Rattle.plan_typed.specs.declared.rel.Op.{Op, out-Op}
use Rattle.plan_typed.specs.declared.rel.Op.TheOpen.{Op-F}
use Rattle.plan_typed.specs.declared.rel.Rel.{Rel}
use Rattle.plan_typed.specs.declared.rel.Source.{Source}
use Rattle.plan_typed.specs.declared.rel.Source.TheVariants as sources
use Rattle.plan_denote.specs.Denote.{Tables}
use Rattle.denote_typed.specs.Kinded.{AreInKinds, IsKindedSource, IsKindedRead, IsKindedRel, AreWellKinded}
use Rattle.plan_reads.specs.Reads.{read_of}
use Rattle.plan_laws.specs.Fitting.{IsFittingRead, AreFitting}
use Rattle.plan_laws.proofs.EveryLaws.{every_from_reads}
use Rattle.plan_laws.proofs.Levels.{OwnRead}

-- a row that fits types is of their kinds
pub row_kinds : (types : List Ty) (row : List Value) → Fits types row → AreInKinds types row
row_kinds [] [] fits = tt
row_kinds [] (value ∷ row) fits = absurd fits
row_kinds (ty ∷ types) [] fits = absurd fits
row_kinds (ty ∷ types) (value ∷ row) fits = (fits.0.in_kind, row_kinds types row fits.1)

pub rows_kinds : (types : List Ty) (rows : List (List Value)) → AllByRecursion (Fits types) rows → AllByRecursion (AreInKinds types) rows
rows_kinds types [] all = tt
rows_kinds types (row ∷ rows) all = (row_kinds types row all.0, rows_kinds types rows all.1)

module _ (tables : Tables) where
  source_kinds : (number : ℕ) (source : Source) (names : List (List ℕ)) (types : List Ty) → IsFittingRead tables (read_of number source names types) → IsKindedSource types source (tables number)
  source_kinds number (sources.Named words) names types fits = rows_kinds types (tables number).rows fits
  source_kinds number (sources.Rows rows) names types fits = tt

  level_kinds : (level : Op-F Op Rel) (number : ℕ) → OwnRead (IsFittingRead tables) level number → IsKindedRead level (tables number)
  level_kinds (Op-F.Read source names types filter mask) number own = source_kinds number source names types own
  level_kinds (Op-F.Filter input condition) number own = tt
  level_kinds (Op-F.Project input exprs) number own = tt
  level_kinds (Op-F.Fetch input offset count) number own = tt
  level_kinds (Op-F.Sort input keys) number own = tt
  level_kinds (Op-F.Aggregate input groups measures) number own = tt
  level_kinds (Op-F.GroupSets input groups sets measures) number own = tt
  level_kinds (Op-F.Join left right kind on post) number own = tt
  level_kinds (Op-F.Cross left right) number own = tt
  level_kinds (Op-F.Set inputs op) number own = tt

  pub law_of_fitting : (rel : Rel) → AreFitting tables rel → AreWellKinded tables rel
  law_of_fitting = every_from_reads (IsFittingRead tables) (IsKindedRel tables) (λ rel own. level_kinds (out-Op rel.op) rel.number own)
