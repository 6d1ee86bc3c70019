use Rattle.std.proofs.Common.{◌∙◌, false}
use Rattle.col_fixed.proofs.GatherLaws.{IsColumn-picked, optional-picked}
use Rattle.col_fixed.proofs.bool_view.BoolView.gather.Goals as goal

pub from_zeroed-requires : goal.from_zeroed-requires
from_zeroed-requires c =
    rw (c.in_ok-values.ensures, c.in_ok-valid.ensures, c.parts-from.ensures.values, c.parts-from.ensures.validity) (IsColumn-picked false c.args.self.now c.args.at.now)

pub returns : goal.returns
returns c =
    c.from_zeroed.ensures ∙ rw (c.in_ok-values.ensures, c.in_ok-valid.ensures, c.parts-from.ensures.values, c.parts-from.ensures.validity) (optional-picked false c.args.self.now c.args.at.now)
