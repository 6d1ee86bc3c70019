-- A set operation is well typed.
use Rattle.std.proofs.Common.{◌≡◌, ◌≤◌, ℕ, List, [], ◌∷◌, ◌++◌, Bool, true, Option, IsTrue, map, refl, sym, ap, subst, ◌∙◌, arith}
use Rattle.std.specs.List.{AllByRecursion, concat, list_all}
use Rattle.std.specs.Option.{ok_or}
use Rattle.std.proofs.lemmas.Bool.{and_parts}
use Rattle.sub_types.specs.declared.kind.Ty.{Ty}
use Rattle.plan_leaves.specs.declared.common.RelCommon.{RelCommon}
use Rattle.plan_typed.specs.declared.rel.Op.TheOpen.{Op-F}
use Rattle.plan_typed.specs.declared.rel.Op.TheVariants as ops
use Rattle.plan_typed.specs.declared.rel.Rel.{Rel}
use Rattle.plan_typed.specs.Numbers.{numbers_of}
use Rattle.plan_typed.specs.Types.{columns_of}
use Rattle.well_typed.specs.Columns.{set_columns, are_of_kinds}
use Rattle.well_typed.specs.ExprTyped.{HasOne}
use Rattle.well_typed.specs.WellTyped.{MayBe, AreTyped, AreAll, AreInputs, set_columns_of}
use Rattle.well_typed.proofs.MadeRel.{all_same}
use Rattle.plan_verdict.specs.declared.rule.Rule.TheVariants as rules
use Rattle.plan_verdict.specs.Checking.{Checking, in_order, part}
use Rattle.plan_verdict.specs.Relation.{numbered}
use Rattle.plan_verdict.specs.Rels.{set}
use Rattle.plan_verdict.specs.Sets.{set_op, set_in, first_and_others, set_columns_in}
use Rattle.plan_verdict.proofs.NumberLaws.{IsSoundRel, numbered_sound}
use Rattle.plan_verdict.proofs.RelLaws.{anything_given, finished_given}
use Rattle.plan_verdict.proofs.Sound.{Sound, then, accepted, parted, reheld, holds_is, same_held, times, times-append, times-cons, Given, given_then, given_ok_or, given_if}

-- the numbers of several relations
abbrev numbers_of_all : List Rel → List ℕ
numbers_of_all rels = concat (map numbers_of rels)

-- the inputs, each numbered after the one before it
pub inputs_sound : (written : List (ℕ → Checking Rel)) → AllByRecursion IsSoundRel written → (extra : List ℕ) → Sound (AllByRecursion AreTyped) (λ rels. concat (map numbers_of rels) ++ extra) extra (in_order (map numbered written))
inputs_sound [] all extra = accepted (AllByRecursion AreTyped) (λ rels. numbers_of_all rels ++ extra) extra [] tt (same_held extra)
inputs_sound (first ∷ rest) all extra =
    then (numbered_sound extra first all.0) (λ rel typed.
    then (inputs_sound rest all.1 (numbers_of rel ++ extra)) (λ rels others.
    let others_held = numbers_of_all rels ++ (numbers_of rel ++ extra) in
    accepted (AllByRecursion AreTyped) (λ all. numbers_of_all all ++ extra) others_held (rel ∷ rels) (typed, others)
    (holds_is (numbers_of_all (rel ∷ rels) ++ extra) others_held (λ n.
    omega (arith, times-append n (numbers_of_all (rel ∷ rels)) extra, times-append n (numbers_of rel) (numbers_of_all rels), times-append n (numbers_of_all rels) (numbers_of rel ++ extra), times-append n (numbers_of rel) extra)))))

all_pass : {A : Type 0} (test : A → Bool) (xs : List A) → list_all test xs ≡ true → AllByRecursion (λ x. IsTrue (test x)) xs
all_pass test [] e = tt
all_pass test (x ∷ xs) e = let parts = and_parts (test x) (list_all test xs) e in (parts.0, all_pass test xs parts.1)

are_inputs : (first : List Ty) (others : List (List Ty)) → HasOne others → list_all (are_of_kinds first) others ≡ true → AreInputs (first ∷ others)
are_inputs first [] one test = absurd one
are_inputs first (second ∷ rest) one test = all_pass (are_of_kinds first) (second ∷ rest) test

-- the first input and the others, where there are some
abbrev AreParts : List (List Ty) → List Ty × List (List Ty) → Type 0
AreParts columns parts = (columns ≡ parts.0 ∷ parts.1) × HasOne parts.1

parts_found : (columns : List (List Ty)) → MayBe (AreParts columns) (first_and_others columns)
parts_found [] = tt
parts_found (first ∷ []) = tt
parts_found (first ∷ second ∷ others) = (refl, tt)

module _ (number : ℕ) (common : Option RelCommon) where
  abbrev IsMade : List Rel → Rel → Type 0
  IsMade rels rel = AreTyped rel × (numbers_of rel ≡ number ∷ numbers_of_all rels)

  set_given : (rels : List Rel) (code : ℕ) → AllByRecursion AreTyped rels → Given (IsMade rels) (set_in number common rels code)
  set_given rels code typed =
      let columns = map columns_of rels in
      given_then (AreParts columns) (IsMade rels) (ok_or (first_and_others columns) rules.UnsupportedForm) _ (given_ok_or (AreParts columns) (first_and_others columns) rules.UnsupportedForm (parts_found columns)) (λ parts is.
      given_then (λ _. Unit {0}) (IsMade rels) (ok_or (set_op code) rules.UnsupportedForm) _ (anything_given (ok_or (set_op code) rules.UnsupportedForm)) (λ op _.
      given_then (λ direct. (direct ≡ set_columns op parts.0 parts.1) × (list_all (are_of_kinds parts.0) parts.1 ≡ true)) (IsMade rels) (set_columns_in op parts.0 parts.1) _
      (given_if (λ direct. (direct ≡ set_columns op parts.0 parts.1) × (list_all (are_of_kinds parts.0) parts.1 ≡ true)) (list_all (are_of_kinds parts.0) parts.1) (set_columns op parts.0 parts.1) rules.TypeMismatch (λ test. (refl, test))) (λ direct d.
      finished_given number common (ops.Set rels op) direct (Op-F.Set rels op) (ops.rolls-Set rels op) typed (subst AreInputs (sym is.0) (are_inputs parts.0 parts.1 is.1 d.1))
      (subst (λ l. AreAll l direct) (sym (ap (set_columns_of op) is.0 ∙ sym d.0)) (all_same direct)))))

  pub set_sound : (written : List (ℕ → Checking Rel)) (code : ℕ) → AllByRecursion IsSoundRel written → (extra : List ℕ) → Sound AreTyped (λ rel. numbers_of rel ++ extra) (number ∷ extra) (set number common written code)
  set_sound written code all extra =
      then (inputs_sound written all (number ∷ extra)) (λ rels typed.
      let held = numbers_of_all rels ++ (number ∷ extra) in
      reheld (IsMade rels) AreTyped (λ rel. numbers_of rel ++ extra) held (part number (set_in number common rels code))
      (λ rel p. (
        p.0,
        holds_is (numbers_of rel ++ extra) held (λ n. subst (λ l. times n (l ++ extra) ≤ times n held) (sym p.1)
            (omega (arith, times-append n (number ∷ numbers_of_all rels) extra, times-cons n number (numbers_of_all rels), times-append n (numbers_of_all rels) (number ∷ extra), times-cons n number extra))),
      ))
      (parted (IsMade rels) held number (set_in number common rels code) (set_given rels code typed)))
