-- What the check of a row gives, by whether it has as many fields as there are columns.
use Rattle.std.proofs.Common.{◌≡◌, ◌∙◌, refl, sym, ap, subst, ℕ, Bool, true, false, List, length, map, ◌==◌, Result, Err}
use Rattle.std.proofs.lemmas.Bool.{eq-eqb, ne_eqb}
use Rattle.std.proofs.lemmas.List.{length-map}
use Rattle.sub_types.specs.declared.kind.Ty.{Ty}
use Rattle.plan_typed.specs.declared.expr.Expr.{Expr}
use Rattle.plan_verdict.specs.declared.progress.Progress.{Progress}
use Rattle.plan_verdict.specs.declared.rule.CheckError.{CheckError}
use Rattle.plan_verdict.specs.declared.rule.Rule.TheVariants as rules
use Rattle.plan_verdict.specs.Checking.{Checking, Comes}
use Rattle.plan_verdict.specs.Reads.{row_in, fields_in}

module _ {A : Type 0} (number : ℕ) (types : List Ty) (f : A → Checking Expr) (fields : List A) (before : Progress) where
  pub row_refused : (length fields ≡ length types → ⊥) → row_in number types (map f fields) before ≡ Err (record { relation = number; rule = rules.TypeMismatch })
  row_refused other =
      let test : (length (map f fields) == length types) ≡ false = ap (λ (count : ℕ). count == length types) (length-map fields f) ∙ ne_eqb (length fields) (length types) other in
      rw test refl

  pub row_comes : (result : Result (List Expr × Progress) CheckError) → length fields ≡ length types → Comes result (fields_in number types (map f fields) before) → Comes result (row_in number types (map f fields) before)
  row_comes result same comes =
      let test : (length (map f fields) == length types) ≡ true = eq-eqb (length (map f fields)) (length types) (length-map fields f ∙ same) in
      rw test comes
