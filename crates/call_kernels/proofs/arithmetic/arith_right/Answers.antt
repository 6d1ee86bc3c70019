-- The results at each place.
use Rattle.std.proofs.Common.{[], ◌∷◌, refl}
use Rattle.sub_types.specs.declared.kind.Kind.TheVariants as kinds
use Rattle.plan_denote.specs.Calls.{binary}
use Rattle.kernels.specs.Arith.{func_of}
use Rattle.kernels.specs.Numbers.{dec_of, decs, int_of, ints}
use Rattle.call_kernels.proofs.PlaceLaws.{right_seen}
use Rattle.call_kernels.proofs.arithmetic.arith_right.Goals as goal

pub returns-clause-whole : goal.returns-clause-whole
returns-clause-whole g c kind is =
    let number = g.T.Native.number in
    right_seen (int_of number) refl (binary (func_of c.args.op) kind c.args.mode (kind ∷ kind ∷ [])) c.args.a.now c.view.result c.args.b c.args.n (record { values = ints number c.in_ok-found.found.0; stop = c.in_ok-found.found.1 })
    c.view.ensures c.requires (c.in_ok-found.ensures.whole kind is)

pub returns-clause-decimal : goal.returns-clause-decimal
returns-clause-decimal g c precision scale is plain =
    let number = g.T.Native.number in
    right_seen (dec_of number) refl (binary (func_of c.args.op) (kinds.Decimal precision scale) c.args.mode (kinds.Decimal precision scale ∷ kinds.Decimal precision scale ∷ [])) c.args.a.now c.view.result c.args.b c.args.n (record { values = decs number c.in_ok-found.found.0; stop = c.in_ok-found.found.1 })
    c.view.ensures c.requires (c.in_ok-found.ensures.decimal precision scale is plain)
