-- The bit of the place says whether its value is there.
use Rattle.std.proofs.Common.{◌∙◌, sym, ap, get_or, Some, None}
use Rattle.sub_types.specs.OptionalLaws.{get_or-optional_valid, get_or-optional_null}
use Rattle.col_fixed.proofs.fixed.Fixed.value_at.Goals as goal

pub returns-then-get : goal.returns-then-get
returns-then-get g c =
    let column = c.self.inside in
    let read = get_or-optional_valid column.values.items column.valid c.args.i c.index.result.now c.self.invariant.same_length (sym c.get.ensures ∙ c.if-get.true) in
    ap Some c.index.ensures ∙ sym read ∙ ap (λ xs. get_or xs c.args.i None) c.self.view_is

pub returns : goal.returns
returns g c =
    let column = c.self.inside in
    sym (get_or-optional_null column.values.items column.valid c.args.i (sym c.get.ensures ∙ c.if-get.false)) ∙ ap (λ xs. get_or xs c.args.i None) c.self.view_is
