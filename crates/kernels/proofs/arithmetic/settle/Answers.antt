use Rattle.std.proofs.Common.{◌≡◌, ◌∙◌, false, sym, ap, ap₂}
use Rattle.std.specs.Prelude.{int_lt}
use Rattle.std.specs.Int.{w128, int_wrap}
use Rattle.std.proofs.lemmas.Int.{to_z-of_z, int_wrap_fits}
use Rattle.kernels.proofs.ArithLaws.{between, settled-within}
use Rattle.kernels.proofs.arithmetic.settle.Goals as goal

pub returns-else-wide-n : goal.returns-else-wide-n
returns-else-wide-n g c =
    let w = g.T.Native.width in
    let n = c.args.n in
    let least = g.T.Native.number c.args.range.0 in
    let greatest = g.T.Native.number c.args.range.1 in
    let held = to_z-of_z w128 n c.ranges.n in
    let is_least = to_z-of_z w128 c.wide.result (record { sfits = c.wide.type_inv }) ∙ c.wide.ensures.value in
    let is_greatest = to_z-of_z w128 c.wide-else-n-wide.result (record { sfits = c.wide-else-n-wide.type_inv }) ∙ c.wide-else-n-wide.ensures.value in
    let low : int_lt n least ≡ false = ap₂ int_lt (sym held) (sym is_least) ∙ c.if-n-wide.false in
    let high : int_lt greatest n ≡ false = ap₂ int_lt (sym is_greatest) (sym held) ∙ c.if-wide-n.false in
    settled-within c.args.mode w least greatest n (g.T.Native.number c.wrapped.result) low high
    (c.wrapped.ensures ∙ ap (int_wrap w) held ∙ int_wrap_fits w n (between w least n greatest c.wide.ensures.fits c.wide-else-n-wide.ensures.fits low high))
