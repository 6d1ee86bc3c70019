use Rattle.std.proofs.Common.{◌∙◌, ◌∷◌, [], ℕ, None, get_or, map, option_map, length, sym, ap}
use Rattle.std.specs.List.{range_with_len}
use Rattle.std.proofs.lemmas.Simd.{map-map}
use Rattle.sub_types.specs.Nullable.{int_value, dec_value}
use Rattle.sub_types.specs.declared.kind.Kind.TheVariants as kinds
use Rattle.plan_denote.specs.Calls.{binary}
use Rattle.kernels.specs.Arith.{row, func_of}
use Rattle.kernels.proofs.UntilLaws.{until-same, until-mapped}
use Rattle.kernels.proofs.ArithLaws.{value, decimal_value, row-whole, row-decimal}
use Rattle.kernels.proofs.arithmetic.arith.Goals as goal

pub returns-clause-whole : goal.returns-clause-whole
returns-clause-whole g c kind is =
    let number = g.T.Native.number in
    let w = g.T.Native.width in
    let least = number c.args.least in
    let greatest = number c.args.greatest in
    let x = λ (i : ℕ). option_map number (get_or c.args.a i None) in
    let y = λ (i : ℕ). option_map number (get_or c.args.b i None) in
    let rows = range_with_len 0 (length c.args.a) in
    let f = λ (i : ℕ). row c.args.op c.args.mode w least greatest (x i) (y i) in
    until-same (λ i. binary (func_of c.args.op) kind c.args.mode (kind ∷ kind ∷ []) (int_value (x i)) (int_value (y i))) (λ i. value (f i)) (λ i. sym (row-whole kind w least greatest is c.args.op c.args.mode (x i) (y i))) rows
    ∙ until-mapped int_value f rows
    ∙ ap (λ u. record { values = map int_value u.values; stop = u.stop }) c.in_ok-column.ensures
    ∙ ap (λ values. record { values = values; stop = c.in_ok-column.column.1 }) (map-map int_value (option_map number) c.in_ok-column.column.0)

pub returns-clause-decimal : goal.returns-clause-decimal
returns-clause-decimal g c precision scale is exact =
    let number = g.T.Native.number in
    let kind = kinds.Decimal precision scale in
    let w = g.T.Native.width in
    let least = number c.args.least in
    let greatest = number c.args.greatest in
    let x = λ (i : ℕ). option_map number (get_or c.args.a i None) in
    let y = λ (i : ℕ). option_map number (get_or c.args.b i None) in
    let rows = range_with_len 0 (length c.args.a) in
    let f = λ (i : ℕ). row c.args.op c.args.mode w least greatest (x i) (y i) in
    until-same (λ i. binary (func_of c.args.op) kind c.args.mode (kind ∷ kind ∷ []) (dec_value (x i)) (dec_value (y i))) (λ i. decimal_value (f i)) (λ i. sym (row-decimal precision scale w least greatest is c.args.op c.args.mode (x i) (y i) exact)) rows
    ∙ until-mapped dec_value f rows
    ∙ ap (λ u. record { values = map dec_value u.values; stop = u.stop }) c.in_ok-column.ensures
    ∙ ap (λ values. record { values = values; stop = c.in_ok-column.column.1 }) (map-map dec_value (option_map number) c.in_ok-column.column.0)
