-- The numbers are the arguments' values, and the results are of their kind.
use Rattle.std.proofs.Common.{ℤ, sym, ap, subst, refl}
use Rattle.sub_types.specs.Kind.{IsKind}
use Rattle.sub_types.specs.declared.kind.Kind.TheVariants as kinds
use Rattle.batch.specs.ColumnValues.{kind_storage}
use Rattle.kernels.specs.Numbers.{ints}
use Rattle.call_kernels.specs.Numbers.{listed}
use Rattle.call_kernels.specs.Operand.{values}
use Rattle.call_kernels.proofs.PlaceLaws.{is_i16, long_ints, results_fit, results_made}
use Rattle.call_kernels.proofs.arithmetic.arith_i16.Goals as goal

pub arith_numbers-requires-clause-a : goal.arith_numbers-requires-clause-a
arith_numbers-requires-clause-a c = long_ints {T = ℤ} (λ x. x) (listed c.args.n c.in-Some.left) (values c.args.n c.args.a) c.args.n (c.in-Some.ensures c.args.n) c.requires.a

pub arith_numbers-requires-clause-b : goal.arith_numbers-requires-clause-b
arith_numbers-requires-clause-b c = long_ints {T = ℤ} (λ x. x) (listed c.args.n c.in-Some-i16_numbers.right) (values c.args.n c.args.b) c.args.n (c.in-Some-i16_numbers.ensures c.args.n) c.requires.b

pub invariant_of-column : goal.invariant_of-column
invariant_of-column c =
    let law = (rw c.in-Some-2.is at c.in_ok-found.ensures.whole) kinds.I16 is_i16 in
    record {
      valid_kind = subst IsKind (sym c.requires.kind) tt;
      stored = ap kind_storage (sym c.requires.kind);
      in_kind = results_fit c.args.op c.args.mode c.args.ty kinds.I16 c.requires.kind c.args.n (ints (λ (x : ℤ). x) (listed c.args.n c.in-Some.left)) (ints (λ (x : ℤ). x) (listed c.args.n c.in-Some-i16_numbers.right)) (values c.args.n c.args.a) (values c.args.n c.args.b)
          (c.in-Some.ensures c.args.n) (c.in-Some-i16_numbers.ensures c.args.n) c.in-Some-2.found.0 c.in-Some-2.found.1 law c.requires.in_kind;
    }

pub returns : goal.returns
returns c =
    let law = (rw c.in-Some-2.is at c.in_ok-found.ensures.whole) kinds.I16 is_i16 in
    results_made c.args.op c.args.mode c.args.ty kinds.I16 c.requires.kind c.args.n (ints (λ (x : ℤ). x) (listed c.args.n c.in-Some.left)) (ints (λ (x : ℤ). x) (listed c.args.n c.in-Some-i16_numbers.right)) (values c.args.n c.args.a) (values c.args.n c.args.b)
    (c.in-Some.ensures c.args.n) (c.in-Some-i16_numbers.ensures c.args.n) c.in-Some-2.found.0 c.in-Some-2.found.1 law _ refl refl
