use Rattle.std.proofs.Common.{◌≡◌, ◌∙◌, ◌%◌, ◌∷◌, [], ◌++◌, length, get_or, take, rules, sym, ap, arith}
use Rattle.std.specs.Prelude.{pos}
use Rattle.std.specs.Int.{w8, cast_unsigned}
use Rattle.std.specs.List.{flat_map}
use Rattle.std.proofs.lemmas.Grind.{flat_map-append}
use Rattle.std.proofs.lemmas.Int.{to_z-of_z}
use Rattle.std.proofs.lemmas.List.{append-nil, take_all, take_more, take_more_set}
use Rattle.std.proofs.Math.Facts.{Fits-of_z}
use Rattle.byteorder.specs.Endian.{little_bytes}
use mir.Val.{SFits}
use Rattle.col_fixed.proofs.native.I8Native.write_all.Goals as goal

pub values-preserved : goal.values-preserved
values-preserved c =
    let len = c.values.auto.into in
    let below = c.values-test.true in
    let item = get_or c.args.values.now c.values.i (pos 0) in
    let fits : SFits w8 item = search rules in
    let made : c.cast_unsigned.result ≡ cast_unsigned w8 item = simp to_z-of_z at c.cast_unsigned.ensures in
    let small = (Fits-of_z fits).fits in
    let byte : cast_unsigned w8 item ≡ cast_unsigned w8 item % 256 = omega (arith, small) in
    rw (
      take_more_set c.values.into c.values.i c.cast_unsigned.result (omega (arith, c.requires)),
      c.values.invariant,
      take_more c.args.values.now c.values.i (pos 0) below,
      flat_map-append,
      made,
      append-nil,
    ) (ap (λ b. flat_map (λ z. little_bytes 1 (cast_unsigned w8 z)) (take c.values.i c.args.values.now) ++ b ∷ []) byte)

pub returns : goal.returns
returns c =
    let len = c.values.auto.into in
    let done : c.values.i ≡ length c.args.values.now = omega arith in
    sym (take_all c.values.i c.values.into (omega (arith, c.requires))) ∙ rw (take_all c.values.i c.args.values.now (omega arith)) at c.values.invariant
