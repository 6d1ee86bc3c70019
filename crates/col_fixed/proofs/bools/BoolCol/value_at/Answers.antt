-- The bit of the place says whether its value is there.
use Rattle.std.proofs.Common.{◌∙◌, sym, ap, get_or, Some, None, false}
use Rattle.sub_types.specs.OptionalLaws.{get_or-optional_valid, get_or-optional_null}
use Rattle.col_fixed.proofs.bools.BoolCol.value_at.Goals as goal

pub returns-then-get : goal.returns-then-get
returns-then-get c =
    let column = c.self.inside in
    let read = get_or-optional_valid column.values column.valid c.args.i false c.self.invariant.same_length (sym c.get.ensures ∙ c.if-get.true) in
    ap Some c.get-then-get.ensures ∙ sym read ∙ ap (λ xs. get_or xs c.args.i None) c.self.view_is

pub returns : goal.returns
returns c =
    let column = c.self.inside in
    sym (get_or-optional_null column.values column.valid c.args.i (sym c.get.ensures ∙ c.if-get.false)) ∙ ap (λ xs. get_or xs c.args.i None) c.self.view_is
