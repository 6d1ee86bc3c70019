use Rattle.std.proofs.Common.{◌≡◌, ℕ, ℤ, Option, Some, None, Err, nat_lt, false, min, FitsSigned, unsigned_abs, ◌^◌, ◌≤◌, subst, ap, sym, ◌∙◌, arith, rules}
use Rattle.std.specs.Int.{w128}
use Rattle.std.proofs.lemmas.Int.{to_z-of_z}
use Rattle.std.proofs.lemmas.Bool.{le-ltb}
use Rattle.sub_types.specs.declared.fault.FaultKind.{FaultKind}
use Rattle.sub_types.specs.declared.kind.Kind.{Kind}
use Rattle.sub_types.specs.declared.kind.Kind.TheVariants as kinds
use Rattle.plan_denote.specs.Computed.{Computed}
use Rattle.plan_denote.specs.Decimals.{decimal_or}
use Rattle.eval_values.specs.Number.{IsNumber}
use Rattle.eval_values.proofs.Exact.{power_small}
use Rattle.eval_values.proofs.decimals.decimal_or.Goals as goal

exact_number : (fault : FaultKind) (kind : Kind) (precision scale : ℕ) (given : Option ℤ) (n : ℤ) (computed : Computed) → kind ≡ kinds.Decimal precision scale → given ≡ Some n → computed ≡ decimal_or fault (kinds.Decimal precision scale) n → (exact : ℤ) → IsNumber given exact → computed ≡ decimal_or fault kind exact
exact_number fault kind precision scale given n computed k g e exact h =
    let same : n ≡ exact = subst (λ (o : Option ℤ). IsNumber o exact) g h in
    e ∙ ap (λ z. decimal_or fault (kinds.Decimal precision scale) z) same ∙ ap (λ one. decimal_or fault one exact) (sym k)

too_large : (fault : FaultKind) (precision scale : ℕ) (exact : ℤ) → 10 ^ 38 ≤ unsigned_abs exact → decimal_or fault (kinds.Decimal precision scale) exact ≡ Err fault
too_large fault precision scale exact h =
    let l : min precision 38 ≤ 38 = omega arith in
    let t : nat_lt (unsigned_abs exact) (10 ^ min precision 38) ≡ false = le-ltb _ _ (omega (arith, power_small (min precision 38) l)) in
    rw t

no_number : (fault : FaultKind) (kind : Kind) (precision scale : ℕ) (given : Option ℤ) → kind ≡ kinds.Decimal precision scale → given ≡ None → (exact : ℤ) → IsNumber given exact → ◌≡◌ {A = Computed} (Err fault) (decimal_or fault kind exact)
no_number fault kind precision scale given k g exact h =
    sym (ap (λ one. decimal_or fault one exact) k ∙ too_large fault precision scale exact (subst (λ (o : Option ℤ). IsNumber o exact) g h))

pub returns-in-Some : goal.returns-in-Some
returns-in-Some c =
    let fits : FitsSigned w128 c.in-Some.n = search rules in
    exact_number _ _ _ _ _ _ _ c.in-Decimal.is c.in-Some.is (c.if_within.ensures ∙ ap (λ z. decimal_or c.args.fault (kinds.Decimal c.in-Decimal.precision 0) z) (to_z-of_z w128 c.in-Some.n fits))

pub returns-in-None : goal.returns-in-None
returns-in-None c = no_number _ _ _ _ _ c.in-Decimal.is c.in-None.is
