use Rattle.std.proofs.Common.{refl}
use Rattle.kernels.proofs.AllLaws.{not_lost}
use Rattle.kernels.proofs.all_rows.combine.Goals as goal

pub returns-in-Add : goal.returns-in-Add
returns-in-Add g c = λ fine. rw c.in-Add.is (record { divisible = refl; is = not_lost g.T.Native.width _ _ _ c.plus.ensures.value c.plus.ensures.lost fine })

pub returns-in-Subtract : goal.returns-in-Subtract
returns-in-Subtract g c = λ fine. rw c.in-Subtract.is (record { divisible = refl; is = not_lost g.T.Native.width _ _ _ c.minus.ensures.value c.minus.ensures.lost fine })

pub returns-in-Multiply : goal.returns-in-Multiply
returns-in-Multiply g c = λ fine. rw c.in-Multiply.is (record { divisible = refl; is = not_lost g.T.Native.width _ _ _ c.times.ensures.value c.times.ensures.lost fine })
