-- The slice has 16 bytes, so nothing of it stays behind those that are written.
use Rattle.std.proofs.Common.{◌≡◌, [], drop, arith}
use Rattle.std.specs.Int.{w128}
use Rattle.std.proofs.lemmas.List.{drop_all}
use Rattle.std.proofs.lemmas.Int.{to_z-of_z}
use Rattle.col_fixed.proofs.native.I128Native.write_le.Goals as goal

pub returns : goal.returns
returns c =
    let rest : drop 16 c.args.into.now ≡ [] = drop_all 16 c.args.into.now (omega arith) in
    let h = c.write_i128.ensures in
    rw (h, rest, to_z-of_z w128 c.args.self c.ranges.self)
