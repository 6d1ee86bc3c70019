use Rattle.std.proofs.Common.{map, is_some, false}
use Rattle.sub_types.specs.Slots.{slots}
use Rattle.sub_types.specs.Slots.{optional-slots}
use Rattle.col_fixed.proofs.ColumnLaws.{IsColumn-append, IsColumn-slots}
use Rattle.sub_types.specs.OptionalLaws.{optional-append}
use Rattle.col_fixed.proofs.bools.BoolCol.append.Goals as goal

pub invariant_of-self-in_default : goal.invariant_of-self-in_default
invariant_of-self-in_default c =
    let column = c.self.inside in
    let more = c.args.more.now in
    rw (c.in_ok-append.ensures.ok, c.in_default.ensures.ok, c.parts-from.ensures.values, c.parts-from.ensures.validity) (IsColumn-append false column.values (slots false more) column.valid (map is_some more) c.self.invariant (IsColumn-slots false more))

pub returns-clause-ok : goal.returns-clause-ok
returns-clause-ok c =
    let column = c.self.inside in
    let more = c.args.more.now in
    let join = optional-append column.values (slots false more) column.valid (map is_some more) c.self.invariant.same_length in
    rw (c.in_ok-append.ensures.ok, c.in_default.ensures.ok, c.parts-from.ensures.values, c.parts-from.ensures.validity, join, optional-slots false more, c.self.view_is)
