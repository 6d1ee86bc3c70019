use Rattle.std.proofs.Common.{◌∙◌, [], false, sym, ap, get_or, Some, arith}
use Rattle.sub_types.specs.Slots.{slots, length-slots}
use Rattle.col_text.proofs.TextLaws.{HoldsTexts-seen, concat-one, get_or-valid}
use Rattle.col_text.proofs.column.TextCol.value_at.Goals as goal

pub returns-then-get : goal.returns-then-get
returns-then-get c =
    let own = c.self.inside in
    let column = c.args.self.now in
    let holds = HoldsTexts-seen column own.ends own.bytes.items own.valid c.self.view_is c.self.invariant in
    let text = concat-one (slots [] column) c.args.i (omega (arith, length-slots [] column)) in
    let is_valid = sym (ap (λ bits. get_or bits c.args.i false) holds.valid_are) ∙ sym c.get.ensures ∙ c.if-get.true in
    ap Some (c.bytes_between.ensures ∙ text) ∙ sym (get_or-valid column c.args.i is_valid)
