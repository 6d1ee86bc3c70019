use Rattle.std.proofs.Common.{◌∙◌}
use Rattle.col_fixed.proofs.GatherLaws.{IsColumn-picked, optional-picked}
use Rattle.col_fixed.proofs.view.View.gather.Goals as goal

pub from_zeroed-requires : goal.from_zeroed-requires
from_zeroed-requires g c =
    rw (c.in_ok-values.ensures, c.in_ok-valid.ensures, c.values.ensures, c.validity-from.ensures.bits) (IsColumn-picked g.T.Native.zero c.args.self.now c.args.at.now)

pub returns : goal.returns
returns g c =
    c.from_zeroed.ensures ∙ rw (c.in_ok-values.ensures, c.in_ok-valid.ensures, c.values.ensures, c.validity-from.ensures.bits) (optional-picked g.T.Native.zero c.args.self.now c.args.at.now)
