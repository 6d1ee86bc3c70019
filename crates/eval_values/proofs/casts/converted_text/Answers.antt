use Rattle.std.proofs.Common.{◌≡◌, ◌^◌, ◌≤◌, ℤ, pos, negsuc, Option, Some, None, Err, false, refl, sym, ap, arith, lit<}
use Rattle.std.specs.Prelude.{unsigned_abs, if◌then◌else◌, Ok}
use Rattle.std.proofs.Math.Nat.{pow-le-pow_right}
use Rattle.std.proofs.lemmas.Bool.{le-ltb}
use Rattle.sub_types.specs.declared.fault.FaultKind.TheVariants as faults
use Rattle.sub_types.specs.declared.kind.Kind.{Kind}
use Rattle.sub_types.specs.declared.kind.Kind.TheVariants as kinds
use Rattle.sub_types.specs.declared.value.Value.TheVariants as values
use Rattle.plan_denote.specs.Computed.{Computed}
use Rattle.plan_denote.specs.Whole.{bits_of, is_within}
use Rattle.plan_denote.specs.Casts.{fitting, number_of}
use Rattle.eval_values.proofs.casts.converted_text.Goals as goal

few_bits : (kind : Kind) → bits_of kind ≤ 63
few_bits kinds.I8 = omega arith
few_bits kinds.I16 = omega arith
few_bits kinds.I32 = omega arith
few_bits kinds.Date = omega arith
few_bits _ = omega arith

small : (kind : Kind) → 2 ^ bits_of kind ≤ 2 ^ 63
small kind = pow-le-pow_right (lit< tt) (few_bits kind)

beyond : (kind : Kind) (n : ℤ) → 2 ^ 64 ≤ unsigned_abs n → is_within (bits_of kind) n ≡ false
beyond kind (pos n) h = le-ltb n (2 ^ bits_of kind) (omega (arith, small kind))
beyond kind (negsuc n) h = le-ltb n (2 ^ bits_of kind) (omega (arith, small kind))

unfit : (kind : Kind) (n : ℤ) → 2 ^ 64 ≤ unsigned_abs n → ◌≡◌ {A = Computed} (Err faults.BadCast) (fitting kind n)
unfit kind n h = sym (ap (λ t. if t then Ok (values.Int n) else Err faults.BadCast) (beyond kind n h))

unwritten : (to : Kind) (written : Option ℤ) → ((n : ℤ) → written ≡ Some n → 2 ^ 64 ≤ unsigned_abs n) → ◌≡◌ {A = Computed} (Err faults.BadCast) (elim written [ Some n ↦ fitting to n | None ↦ Err faults.BadCast ])
unwritten to (Some n) h = unfit to n (h n refl)
unwritten to None h = refl

pub returns-in-None : goal.returns-in-None
returns-in-None c = unwritten c.args.to (number_of c.args.text.now) c.in-None.ensures
