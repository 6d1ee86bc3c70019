-- What is known of an accepted plan.
use Rattle.std.proofs.Common.{◌≡◌, ◌≤◌, ℕ, suc, List, [], ◌∷◌, Option, Some, None, length, slice_get, refl, sym, ap, subst, true, arith}
use Rattle.std.specs.List.{All, filter_map, cons_option}
use Rattle.std.proofs.lemmas.List.Elements.{All-from_recursion, All-weaker}
use Rattle.sub_types.specs.declared.kind.Ty.{Ty}
use Rattle.plan_typed.specs.declared.rel.Op.{Op, out-Op}
use Rattle.plan_typed.specs.declared.rel.Op.TheOpen.{Op-F}
use Rattle.plan_typed.specs.declared.rel.Rel.{Rel, out-Rel, every_here-Rel}
use Rattle.plan_typed.specs.declared.sub.Holed.{Holed}
use Rattle.plan_typed.specs.Types.{columns_of}
use Rattle.denote_typed.specs.Holes.{AreAwaited}
use Rattle.plan_reads.specs.Reads.{reads_of}
use Rattle.plan_reads.specs.declared.reads.PlanRead.{PlanRead}
use Rattle.plan_verdict.proofs.VerdictLaw.{verdict_is_well_typed}
use Rattle.verdict_awaits.proofs.Law.{law_of_verdicts}
use Rattle.well_typed.specs.Columns.{columns_at}
use Rattle.well_typed.specs.WellTyped.{IsWellTyped, IsRelation, AreTyped, AreAll, direct_in}
use Rattle.plan_tables.specs.Open.{IsShaped}
use Rattle.plan_laws.specs.Shaped as laws
use Rattle.plan_laws.proofs.ShapeLaws.{law_of_shapes}
use Rattle.run_accepted.specs.Done.{IsAccepted}

pub accepted_typed : (plan : Holed) → IsAccepted plan → IsWellTyped plan
accepted_typed plan accepted = verdict_is_well_typed true accepted.0 plan accepted.1

-- the hole of each of its subqueries awaits what the subquery gives
pub accepted_awaits : (plan : Holed) → IsAccepted plan → AreAwaited plan.subs plan.typed.rel
accepted_awaits plan accepted = law_of_verdicts accepted.0 plan accepted.1

-- as many as are implied
same_length : (implied given : List Ty) → AreAll implied given → length given ≡ length implied
same_length [] [] are = refl
same_length (one ∷ implied) (ty ∷ given) are = ap suc (same_length implied given are.1)
same_length [] (ty ∷ given) are = absurd are
same_length (one ∷ implied) [] are = absurd are

-- no more than there are places
no_more : {B : Type 0} (found : Option B) (ys : List B) (n : ℕ) → length ys ≤ n → length (cons_option found ys) ≤ suc n
no_more None ys n few = omega (arith, few)
no_more (Some y) ys n few = omega (arith, few)

few_found : {A B : Type 0} (f : A → Option B) (xs : List A) → length (filter_map f xs) ≤ length xs
few_found f [] = omega arith
few_found f (x ∷ xs) = no_more (f x) (filter_map f xs) (length xs) (few_found f xs)

abbrev Nothing : Op-F Op Rel → Type 0
Nothing _ = Unit {0}

few_columns : (rel : Rel) → AreTyped rel → length (columns_of rel) ≤ 1024
few_columns rel typed =
    let direct = direct_in (out-Op (out-Rel rel).op) in
    let is = (every_here-Rel Nothing IsRelation rel typed).1 in
    omega (arith, is.few_emitted, same_length (columns_at direct (out-Rel rel).emit) (columns_of rel) is.as_implied, few_found (slice_get direct) (out-Rel rel).emit)

pub accepted_few : (plan : Holed) → IsAccepted plan → length (columns_of plan.typed.rel) ≤ 1024
accepted_few plan accepted = few_columns plan.typed.rel (accepted_typed plan accepted).plan

pub accepted_names : (plan : Holed) → IsAccepted plan → length plan.typed.names ≡ length (columns_of plan.typed.rel)
accepted_names plan accepted = (accepted_typed plan accepted).names

-- its read relations have as many names as types
pub accepted_shaped : (plan : Holed) (reads : List PlanRead) → IsAccepted plan → reads ≡ reads_of plan → All IsShaped reads
accepted_shaped plan reads accepted is =
    subst (All IsShaped) (sym is)
    (All-weaker laws.IsShaped IsShaped (λ read shaped. shaped.0) (reads_of plan) (All-from_recursion laws.IsShaped (reads_of plan) (law_of_shapes plan (accepted_typed plan accepted))))
