use Rattle.std.proofs.Common.{map, is_some}
use Rattle.sub_types.specs.Slots.{slots}
use Rattle.sub_types.specs.Slots.{optional-slots}
use Rattle.col_fixed.proofs.ColumnLaws.{IsColumn-append, IsColumn-slots}
use Rattle.sub_types.specs.OptionalLaws.{optional-append}
use Rattle.col_fixed.proofs.fixed.Fixed.append.Goals as goal

pub invariant_of-self-in_default : goal.invariant_of-self-in_default
invariant_of-self-in_default g c =
    let column = c.self.inside in
    let zero = g.T.Native.zero in
    let more = c.args.more.now in
    rw (c.in_ok-extend_from_slice.ensures.items, c.in_default.ensures.ok, c.values.ensures, c.validity-from.ensures.bits) (IsColumn-append zero column.values.items (slots zero more) column.valid (map is_some more) c.self.invariant (IsColumn-slots zero more))

pub returns-clause-ok : goal.returns-clause-ok
returns-clause-ok g c =
    let column = c.self.inside in
    let zero = g.T.Native.zero in
    let more = c.args.more.now in
    let join = optional-append column.values.items (slots zero more) column.valid (map is_some more) c.self.invariant.same_length in
    rw (c.in_ok-extend_from_slice.ensures.items, c.in_default.ensures.ok, c.values.ensures, c.validity-from.ensures.bits, join, optional-slots zero more, c.self.view_is)
