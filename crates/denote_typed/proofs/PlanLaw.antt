-- The rows of plans with subqueries fit their columns.
use Rattle.std.proofs.Common.{◌≡◌, ℕ, ◌+◌, suc, List, [], ◌∷◌, ◌++◌, Bool, true, false, ◌&&◌, ◌==◌, Option, Some, None, Result, Ok, Err, IfOk, map, slice_get, eqb-true, refl, sym, ap, ◌∙◌, subst, arith}
use Rattle.std.specs.Prelude.{not, unwrap_or, if◌then◌else◌}
use Rattle.std.specs.List.{AllByRecursion}
use Rattle.std.proofs.lemmas.Bool.{and_parts}
use Rattle.sub_types.specs.Value.{FitsTy, Fits}
use Rattle.sub_types.specs.declared.fault.Fault.{Fault}
use Rattle.sub_types.specs.declared.kind.Ty.{Ty}
use Rattle.sub_types.specs.declared.value.Value.TheVariants as values
use Rattle.plan_typed.specs.declared.rel.Op.{Op, out-Op}
use Rattle.plan_typed.specs.declared.rel.Rel.{Rel, Rel-F}
use Rattle.plan_typed.specs.declared.sub.Hole.{Hole}
use Rattle.plan_typed.specs.declared.sub.Holed.{Holed}
use Rattle.plan_typed.specs.declared.sub.Sub.{Sub}
use Rattle.plan_typed.specs.declared.sub.SubKind.{SubKind}
use Rattle.plan_typed.specs.declared.sub.SubKind.TheVariants as subs
use Rattle.plan_typed.specs.Types.{columns_of}
use Rattle.sub_types.specs.Kind.{IsKind}
use Rattle.well_typed.proofs.ValidColumns.{typed_columns}
use Rattle.well_typed.proofs.ValidKinds.{AreKinds, all_both}
use Rattle.well_typed.specs.WellTyped.{IsRelation, AreTyped, IsTypedSub, IsWellTyped}
use Rattle.plan_denote.specs.Denote.{Tables, denote}
use Rattle.plan_denote.specs.Rows.{Row, is_empty}
use Rattle.plan_denote.specs.Holes.{Worth, Single, Among, Known, worth_at, filled}
use Rattle.plan_denote.specs.Subqueries.{value_in, first_type, worth_of, worth_unless, worth_of_stream, worths, rows_with, denote_plan}
use Rattle.eval_typed.proofs.Fit.{null_fits, truth_fits, moved}
use Rattle.denote_typed.specs.Holes.{Slot, OfValue, OfList, OfNone, slots_of_op, Takes, AreTaken, Awaits, AwaitsAt, AwaitsIn, AreAwaited}
use Rattle.denote_typed.specs.Kinded.{AreWellKinded}
use Rattle.denote_typed.proofs.FillRelLaws.{Every, every_both, IsTakenBy, filled_typed, filled_kinded, same_columns}
use Rattle.denote_typed.proofs.Law.{law_of_relations}
use Rattle.denote_typed.proofs.RowsLaws.{mapped, stepped}

-- what is known, and the worth of one more hole
module _ (hole : Hole) (worth : Worth) where
  abbrev pub more : Known → Known
  more known = known ++ (hole, worth) ∷ []

  more_where : (w : Worth) (old new : Option Worth) (slot : Slot) (test : Bool) → (Takes old slot → Takes new slot) → Takes (if test then Some w else old) slot → Takes (if test then Some w else new) slot
  more_where w old new slot true k takes = takes
  more_where w old new slot false k takes = k takes

  here_where : (slot : Slot) (test : Bool) → Takes None slot → (test ≡ true → Takes (Some worth) slot) → Takes (if test then Some worth else None) slot
  here_where slot true takes k = k refl
  here_where slot false takes k = takes

  takes_more : (known : Known) (relation number : ℕ) (slot : Slot) → Takes (worth_at known relation number) slot → (relation ≡ hole.relation → number ≡ hole.node → Takes (Some worth) slot)
      → Takes (worth_at (more known) relation number) slot
  takes_more [] relation number slot takes k =
      here_where slot (hole.relation == relation && hole.node == number) takes (λ is.
      let both = and_parts (hole.relation == relation) (hole.node == number) is in k (sym (eqb-true hole.relation relation both.0)) (sym (eqb-true hole.node number both.1)))
  takes_more ((other, w) ∷ known) relation number slot takes k =
      more_where w (worth_at known relation number) (worth_at (more known) relation number) slot (other.relation == relation && other.node == number) (λ rest. takes_more known relation number slot rest k) takes

  slots_more : (known : Known) (relation start : ℕ) (slots : List Slot) → AreTaken (worth_at known relation) start slots
      → ((place : ℕ) (slot : Slot) → slice_get slots place ≡ Some slot → relation ≡ hole.relation → start + place ≡ hole.node → Takes (Some worth) slot) → AreTaken (worth_at (more known) relation) start slots
  slots_more known relation start [] taken k = tt
  slots_more known relation start (slot ∷ slots) taken k = (
    takes_more known relation start slot taken.0 (λ same at. k 0 slot refl same (omega (arith, at))),
    slots_more known relation (start + 1) slots taken.1 (λ place one is same at. k (suc place) one is same (omega (arith, at))),
  )

-- what goes to the nodes of a relation, with the worth of one more subquery
pub level_more : (known : Known) (sub : Sub) (worth : Worth) → ((slot : Slot) → Awaits sub.kind (columns_of sub.rel) slot → Takes (Some worth) slot)
    → (rel : Rel-F Op Rel) → IsTakenBy known rel → AwaitsAt sub rel → IsTakenBy (more sub.hole worth known) rel
level_more known sub worth k rel taken awaits =
    slots_more sub.hole worth known rel.number 0 (slots_of_op (out-Op rel.op)) taken (λ place slot is same at.
    let there : place ≡ sub.hole.node = omega (arith, at) in
    let found = awaits same in
    let one_slot : found.0 ≡ slot = ap (λ (o : Option Slot). unwrap_or o slot) (sym found.1 ∙ subst (λ (one : ℕ). slice_get (slots_of_op (out-Op rel.op)) one ≡ Some slot) there is) in
    k slot (subst (λ (one : Slot). Awaits sub.kind (columns_of sub.rel) one) one_slot found.2))

none_taken : (start number : ℕ) (slots : List Slot) → AreTaken (worth_at [] number) start slots
none_taken start number [] = tt
none_taken start number (slot ∷ slots) = (tt, none_taken (start + 1) number slots)

pub none_known : (rel : Rel) → AreTyped rel → Every (IsTakenBy []) rel
none_known rel typed = every_both IsRelation IsRelation (IsTakenBy []) (λ one _ _. none_taken 0 one.number (slots_of_op (out-Op one.op))) rel typed typed

-- the value of a row of one column
value_fits : (columns : List Ty) (row : Row) → Fits columns row → FitsTy (first_type columns) (value_in row)
value_fits [] [] fits = null_fits (first_type []) refl
value_fits [] (value ∷ row) fits = absurd fits
value_fits (ty ∷ columns) [] fits = absurd fits
value_fits (ty ∷ columns) (value ∷ row) fits = fits.0

first_kind : (columns : List Ty) → AreKinds columns → IsKind (first_type columns).kind
first_kind [] all = tt
first_kind (ty ∷ columns) all = all.0

-- a worth may go wherever the subquery is awaited
abbrev pub Goes : SubKind → List Ty → Worth → Type 0
Goes kind columns worth = (slot : Slot) → Awaits kind columns slot → Takes (Some worth) slot

null_goes : (columns : List Ty) → Goes subs.Scalar columns (Single values.Null)
null_goes columns (OfValue ty) awaits = null_fits ty awaits.1
null_goes columns (OfList value ty) awaits = absurd awaits
null_goes columns OfNone awaits = absurd awaits

value_goes : (columns : List Ty) (row : Row) → Fits columns row → Goes subs.Scalar columns (Single (value_in row))
value_goes columns row fits (OfValue ty) awaits = moved (first_type columns) ty (value_in row) awaits.0 (λ _. awaits.1) (value_fits columns row fits)
value_goes columns row fits (OfList value ty) awaits = absurd awaits
value_goes columns row fits OfNone awaits = absurd awaits

values_go : (columns : List Ty) (rows : List Row) → AreKinds columns → AllByRecursion (Fits columns) rows → Goes subs.In columns (Among (first_type columns) (map value_in rows))
values_go columns rows kinds all (OfValue ty) awaits = absurd awaits
values_go columns rows kinds all (OfList value ty) awaits =
    (awaits.0, awaits.1, first_kind columns kinds, mapped (Fits columns) (FitsTy (first_type columns)) value_in rows all (λ row fits. value_fits columns row fits))
values_go columns rows kinds all OfNone awaits = absurd awaits

test_goes : (columns : List Ty) (test : Bool) → Goes subs.Exists columns (Single (values.Bool test))
test_goes columns test (OfValue ty) awaits = truth_fits ty test awaits
test_goes columns test (OfList value ty) awaits = absurd awaits
test_goes columns test OfNone awaits = absurd awaits

pub worth_goes : (rel : Rel) (kind : SubKind) (rows : List Row) → AreKinds (columns_of rel) → AllByRecursion (Fits (columns_of rel)) rows → IfOk (worth_of rel kind rows) (Goes kind (columns_of rel))
worth_goes rel subs.Scalar [] kinds all = null_goes (columns_of rel)
worth_goes rel subs.Scalar (row ∷ []) kinds all = value_goes (columns_of rel) row all.0
worth_goes rel subs.Scalar (row ∷ second ∷ rows) kinds all = tt
worth_goes rel subs.In rows kinds all = values_go (columns_of rel) rows kinds all
worth_goes rel subs.Exists rows kinds all = test_goes (columns_of rel) (not (is_empty rows))

pub unless_goes : (P : Worth → Type 0) (end : Option Fault) (worth : Result Worth Fault) → IfOk worth P → IfOk (worth_unless end worth) P
unless_goes P None worth is = is
unless_goes P (Some fault) worth is = tt

module _ (tables : Tables) (main : Rel) where
  -- a filled relation's rows fit the relation's columns
  rows_fit : (known : Known) (rel : Rel) → AreTyped rel → AreWellKinded tables rel → Every (IsTakenBy known) rel → AllByRecursion (Fits (columns_of rel)) (denote tables (filled known rel)).rows
  rows_fit known rel typed kinded taken =
      subst (λ (columns : List Ty). AllByRecursion (Fits columns) (denote tables (filled known rel)).rows) (same_columns known rel)
      (law_of_relations tables (filled known rel) (filled_typed known rel typed taken) (filled_kinded known tables rel kinded))

  abbrev TakenIn : Known → Sub → Type 0
  TakenIn known sub = Every (IsTakenBy known) sub.rel

  worths_go : (subs : List Sub) (known : Known) → AllByRecursion IsTypedSub subs → AllByRecursion (λ (sub : Sub). AreWellKinded tables sub.rel) subs → AllByRecursion (TakenIn known) subs → Every (IsTakenBy known) main → AreAwaited subs main
      → IfOk (worths tables subs known) (λ found. Every (IsTakenBy found) main)
  worths_go [] known typed kinded taken own awaited = own
  worths_go (sub ∷ rest) known typed kinded taken own awaited =
      let s = denote tables (filled known sub.rel) in
      stepped (Goes sub.kind (columns_of sub.rel)) (λ found. Every (IsTakenBy found) main) (worth_of_stream sub s) (λ worth. worths tables rest (more sub.hole worth known))
      (unless_goes (Goes sub.kind (columns_of sub.rel)) s.end (worth_of sub.rel sub.kind s.rows)
      (worth_goes sub.rel sub.kind s.rows (typed_columns sub.rel typed.0.0) (rows_fit known sub.rel typed.0.0 kinded.0 taken.0)))
      (λ worth goes.
      let also = λ (rel : Rel). every_both (IsTakenBy known) (AwaitsAt sub) (IsTakenBy (more sub.hole worth known)) (level_more known sub worth goes) rel in
      worths_go rest (more sub.hole worth known) typed.1 kinded.1
      (all_both (TakenIn known) (λ (later : Sub). AwaitsIn sub later.rel) (TakenIn (more sub.hole worth known)) rest (λ later one two. also later.rel one two) taken.1 awaited.0) (also main own awaited.1) awaited.2)

  nothing_known : (subs : List Sub) → AllByRecursion IsTypedSub subs → AllByRecursion (TakenIn []) subs
  nothing_known [] typed = tt
  nothing_known (sub ∷ subs) typed = (none_known sub.rel typed.0.0, nothing_known subs typed.1)

  with_known : (found : Result Known Fault) → AreTyped main → AreWellKinded tables main → IfOk found (λ known. Every (IsTakenBy known) main) → AllByRecursion (Fits (columns_of main)) (rows_with tables main found).rows
  with_known (Ok known) typed kinded taken = rows_fit known main typed kinded taken
  with_known (Err fault) typed kinded taken = tt

-- the rows of a well-typed plan
pub law_of_plans : (tables : Tables) (plan : Holed) → IsWellTyped plan → AreAwaited plan.subs plan.typed.rel → AllByRecursion (λ (sub : Sub). AreWellKinded tables sub.rel) plan.subs → AreWellKinded tables plan.typed.rel
    → AllByRecursion (Fits (columns_of plan.typed.rel)) (denote_plan tables plan).rows
unfolding denote_plan
law_of_plans tables plan typed awaited kinded own =
    with_known tables plan.typed.rel (worths tables plan.subs []) typed.plan own
    (worths_go tables plan.typed.rel plan.subs [] typed.subqueries kinded (nothing_known tables plan.typed.rel plan.subs typed.subqueries) (none_known plan.typed.rel typed.plan) awaited)
