use Rattle.std.proofs.Common.{◌∙◌, ap}
use Rattle.std.specs.Int.{w128}
use Rattle.std.proofs.lemmas.Int.{to_z-of_z}
use Rattle.kernels.specs.Total as totals
use Rattle.kernels.proofs.TotalLaws.{total-ints, total-decs}
use Rattle.kernels.proofs.total.sum.Goals as goal

pub returns-in-Some : goal.returns-in-Some
returns-in-Some g c =
    let number = g.T.Native.number in
    let zero = g.T.Native.zero in
    let is = c.split-in-Some.ensures.number ∙ to_z-of_z w128 c.in-Some.total c.in-Some.ensures.fits ∙ c.in-Some.ensures.number ∙ ap (totals.total number) c.values-values.ensures in
    record {
      whole = is ∙ total-ints number zero g.met.T.Native.number_of_zero c.args.a;
      decimal = is ∙ total-decs number zero g.met.T.Native.number_of_zero c.args.a;
      least = c.split-in-Some.ensures.least;
      below = c.split-in-Some.ensures.below;
    }

pub returns-in-None : goal.returns-in-None
returns-in-None g c =
    let number = g.T.Native.number in
    let zero = g.T.Native.zero in
    let is = c.split_total.ensures.number ∙ ap (totals.total number) c.values-values.ensures in
    record {
      whole = is ∙ total-ints number zero g.met.T.Native.number_of_zero c.args.a;
      decimal = is ∙ total-decs number zero g.met.T.Native.number_of_zero c.args.a;
      least = c.split_total.ensures.least;
      below = c.split_total.ensures.below;
    }

pub returns-then-SIZE-le8 : goal.returns-then-SIZE-le8
returns-then-SIZE-le8 g c =
    let number = g.T.Native.number in
    let zero = g.T.Native.zero in
    let part = c.split in
    let is = part.ensures.number ∙ to_z-of_z w128 c.narrow_total.result c.narrow_total.ensures.fits ∙ c.narrow_total.ensures.number ∙ ap (totals.total number) c.values-values.ensures in
    record {
      whole = is ∙ total-ints number zero g.met.T.Native.number_of_zero c.args.a;
      decimal = is ∙ total-decs number zero g.met.T.Native.number_of_zero c.args.a;
      least = part.ensures.least;
      below = part.ensures.below;
    }
