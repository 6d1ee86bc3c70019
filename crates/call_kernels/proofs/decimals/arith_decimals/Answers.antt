-- The numbers are the arguments' values, and the results are of their kind.
use Rattle.std.proofs.Common.{ℤ, sym, ap, subst, refl}
use Rattle.sub_types.specs.Kind.{IsKind}
use Rattle.batch.specs.ColumnValues.{kind_storage}
use Rattle.kernels.specs.Numbers.{decs}
use Rattle.call_kernels.specs.Numbers.{listed}
use Rattle.call_kernels.specs.Operand.{values}
use Rattle.call_kernels.proofs.DecimalLaws.{decimals_fit, decimals_made, plain_divides}
use Rattle.call_kernels.proofs.PlaceLaws.{long_decs}
use Rattle.call_kernels.proofs.decimals.arith_decimals.Goals as goal

pub arith_numbers-requires-clause-a : goal.arith_numbers-requires-clause-a
arith_numbers-requires-clause-a c = long_decs {T = ℤ} (λ x. x) (listed c.args.n c.in-Some.left) (values c.args.n c.args.a) c.args.n (c.in-Some.ensures c.args.n) c.requires.a

pub arith_numbers-requires-clause-b : goal.arith_numbers-requires-clause-b
arith_numbers-requires-clause-b c = long_decs {T = ℤ} (λ x. x) (listed c.args.n c.in-Some-i128_numbers.right) (values c.args.n c.args.b) c.args.n (c.in-Some-i128_numbers.ensures c.args.n) c.requires.b

pub invariant_of-column : goal.invariant_of-column
invariant_of-column c =
    let plain = c.are_plain.ensures c.if-not-are_plain.false in
    let law = (rw c.in-Some-2.is at c.in_ok-found.ensures.decimal) c.args.precision c.args.scale c.ends-range.ensures (plain_divides c.args.op c.args.scale c.args.given.now plain) in
    record {
      valid_kind = subst IsKind (sym c.requires.kind) (c.is_decimal.ensures c.if-not-is_decimal.false);
      stored = ap kind_storage (sym c.requires.kind);
      in_kind = decimals_fit c.args.op c.args.mode c.args.ty c.args.precision c.args.scale c.requires.kind c.args.given.now plain c.args.n (decs (λ (x : ℤ). x) (listed c.args.n c.in-Some.left)) (decs (λ (x : ℤ). x) (listed c.args.n c.in-Some-i128_numbers.right)) (values c.args.n c.args.a) (values c.args.n c.args.b)
          (c.in-Some.ensures c.args.n) (c.in-Some-i128_numbers.ensures c.args.n) c.in-Some-2.found.0 c.in-Some-2.found.1 law c.requires.in_kind;
    }

pub returns : goal.returns
returns c =
    let plain = c.are_plain.ensures c.if-not-are_plain.false in
    let law = (rw c.in-Some-2.is at c.in_ok-found.ensures.decimal) c.args.precision c.args.scale c.ends-range.ensures (plain_divides c.args.op c.args.scale c.args.given.now plain) in
    decimals_made c.args.op c.args.mode c.args.ty c.args.precision c.args.scale c.requires.kind c.args.given.now plain c.args.n (decs (λ (x : ℤ). x) (listed c.args.n c.in-Some.left)) (decs (λ (x : ℤ). x) (listed c.args.n c.in-Some-i128_numbers.right)) (values c.args.n c.args.a) (values c.args.n c.args.b)
    (c.in-Some.ensures c.args.n) (c.in-Some-i128_numbers.ensures c.args.n) c.in-Some-2.found.0 c.in-Some-2.found.1 law _ refl refl
