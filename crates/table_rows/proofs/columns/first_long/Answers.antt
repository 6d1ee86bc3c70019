use Rattle.std.proofs.Common.{length, ap, arith}
use Rattle.table_rows.proofs.PlaceLaws.{none_long}
use Rattle.table_rows.proofs.columns.first_long.Goals as goal

pub returns-then-bytes-le-MAX_TEXT : goal.returns-then-bytes-le-MAX_TEXT
returns-then-bytes-le-MAX_TEXT c = λ k below.
    let total = ap length c.bytes.ensures in
    none_long c.args.texts.now k (omega (arith, total))
