use Rattle.std.proofs.Common.{◌∙◌, Some, map, sym, ap}
use Rattle.std.specs.Option.{option_map}
use Rattle.sub_types.specs.Optional.{optional}
use Rattle.arrow_decode.proofs.ListLaws.{optional-map}
use Rattle.arrow_decode.proofs.fixed.fixed.Goals as goal

pub returns-in-Some : goal.returns-in-Some
returns-in-Some g c =
    let number = g.T.Native.number in
    let read = ap (option_map (λ numbers. map number numbers.items)) (sym c.in-Some.is) ∙ c.in_ok-numbers.ensures.numbers in
    let made = ap (map (option_map number)) c.from_parts.ensures ∙ optional-map number c.in-Some.numbers.items c.args.valid in
    ap (λ column. Some column) made ∙ ap (option_map (λ numbers. optional numbers c.args.valid)) read
