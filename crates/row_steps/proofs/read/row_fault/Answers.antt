use Rattle.std.proofs.Common.{⊎_elim, ◌∙◌}
use Rattle.row_steps.proofs.ZipLaws.{no_types, no_values}
use Rattle.row_steps.proofs.read.row_fault.Goals as goal

pub returns : goal.returns
returns c =
    let types = c.loop-ty.ty-iterator.a.rest.now in
    let row = c.loop-ty.ty-iterator.b.rest.now in
    ⊎_elim (λ e. no_types types row e.1.0) (λ e. no_values types row e.1.0) c.in-None.ensures.steps ∙ c.loop-ty.invariant
