use Rattle.std.proofs.Common.{◌≡◌, ◌+◌, ◌*◌, subst, arith}
use Rattle.col_fixed.specs.Column.{IsClearedBelow}
use Rattle.col_fixed.proofs.Cleared.{IsClearedBelow-full, IsColumn-cleared}
use Rattle.col_fixed.proofs.fixed.clear_nulls.Goals as goal
use Rattle.col_fixed.proofs.fixed.clear_nulls.Goals.{then-bytes-place, else-bytes-place}

pub bytes-preserved : goal.bytes-preserved
bytes-preserved g c =
    let zero = g.T.Native.zero in
    let valid = c.args.valid.now in
    let place = c.bytes.place in
    let next : 8 * place + 8 ≡ 8 * (place + 1) = omega arith in
    subst (λ i. IsClearedBelow zero c.args.values.now.items c.if-bytes-place.values.items valid i) next (elim c.if-bytes-place.branch [
      | then-bytes-place w ↦ rw w.values-is (w.clear_eight.ensures c.args.values.now.items c.bytes.invariant)
      | else-bytes-place w ↦ rw w.values-is (IsClearedBelow-full zero c.args.values.now.items c.bytes.values.items valid c.bytes-bytes.result.now place c.bytes.invariant c.bytes-bytes.ensures.bits w.if-bytes-place.false)
    ])

pub returns-clause-column : goal.returns-clause-column
returns-clause-column g c =
    IsColumn-cleared g.T.Native.zero c.args.values.now.items c.bytes.values.items c.args.valid.now (8 * c.bytes.place) c.bytes.invariant (omega (arith, c.bytes-bytes.ensures.packed.enough))
