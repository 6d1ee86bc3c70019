use Rattle.std.proofs.Common.{◌≡◌, ◌∙◌, [], ◌∷◌, Option, replicate, length, ap}
use Rattle.sub_types.specs.declared.kind.Kind.TheVariants as kinds
use Rattle.plan_denote.specs.Calls.{binary}
use Rattle.kernels.specs.Arith.{func_of}
use Rattle.kernels.specs.Numbers.{int_of, dec_of}
use Rattle.kernels.proofs.ConstantLaws.{from-left}
use Rattle.kernels.proofs.constants.arith_from.Goals as goal

pub returns-clause-whole : goal.returns-clause-whole
returns-clause-whole g c kind is =
    let number = g.T.Native.number in
    let k = c.args.constant in
    let laid : c.view.result ≡ replicate (length c.args.b) k = c.view.ensures ∙ c.in_ok-constants.ensures ∙ ap (λ n. replicate n k) c.len.ensures in
    let f = λ (x y : Option g.row.T.Denot). binary (func_of c.args.op) kind c.args.mode (kind ∷ kind ∷ []) (int_of number x) (int_of number y) in
    from-left f c.view.result c.args.b k laid ∙ c.in_ok-column.ensures.whole kind is

pub returns-clause-decimal : goal.returns-clause-decimal
returns-clause-decimal g c precision scale is exact =
    let number = g.T.Native.number in
    let kind = kinds.Decimal precision scale in
    let k = c.args.constant in
    let laid : c.view.result ≡ replicate (length c.args.b) k = c.view.ensures ∙ c.in_ok-constants.ensures ∙ ap (λ n. replicate n k) c.len.ensures in
    let f = λ (x y : Option g.row.T.Denot). binary (func_of c.args.op) kind c.args.mode (kind ∷ kind ∷ []) (dec_of number x) (dec_of number y) in
    from-left f c.view.result c.args.b k laid ∙ c.in_ok-column.ensures.decimal precision scale is exact
