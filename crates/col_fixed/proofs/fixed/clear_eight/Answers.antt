use Rattle.std.proofs.Common.{◌≡◌, ◌∙◌, ℕ, ◌+◌, ◌*◌, ◌/◌, ◌%◌, ◌==◌, Bool, get_or, false, sym, subst, ap, arith}
use Rattle.std.specs.Int.{bit_at}
use Rattle.std.proofs.lemmas.List.{length-set}
use Rattle.col_fixed.specs.Column.{IsClearedBelow}
use Rattle.col_fixed.proofs.Cleared.{valid_bit, IsClearedBelow-null, IsClearedBelow-valid, IsClearedBelow-past}
use Rattle.col_fixed.proofs.fixed.clear_eight.Goals as goal
use Rattle.col_fixed.proofs.fixed.clear_eight.Goals.{then-not-is_set, else-not-is_set, then-rest-lt8, else-rest-lt8}

pub loop-i-preserved : goal.loop-i-preserved
loop-i-preserved g c =
    let zero = g.T.Native.zero in
    let kept = c.loop-i.invariant in
    let values = c.loop-i.values.items in
    let valid = c.args.valid.now in
    let i = c.loop-i.i in
    let here : i / 8 ≡ c.args.place = omega (arith, kept.from, kept.to) in
    let bit : get_or valid i false ≡ c.is_set.result = valid_bit valid c.args.bytes.now i c.requires.bits (omega (arith, kept.within)) ∙ ap (λ k. bit_at (get_or c.args.bytes.now k 0) (i % 8) == 1) here ∙ sym c.is_set.ensures in
    elim c.if-not-is_set.branch [
      | then-not-is_set w ↦ rw (w.values-is, w.zero.ensures) record {
        long = length-set values i zero ∙ kept.long;
        within = kept.within;
        from = omega (arith, kept.from);
        to = kept.to;
        cleared = λ start before. IsClearedBelow-null zero start values valid i (kept.cleared start before) (omega (arith, kept.long, kept.within)) (bit ∙ w.if-not-is_set.true);
      }
      | else-not-is_set w ↦ rw w.values-is record {
        long = kept.long;
        within = kept.within;
        from = omega (arith, kept.from);
        to = kept.to;
        cleared = λ start before. IsClearedBelow-valid zero start values valid i (kept.cleared start before) (bit ∙ w.if-not-is_set.false);
      }
    ]

pub returns : goal.returns
returns g c start before =
    let kept = c.loop-i.invariant.cleared start before in
    let P : ℕ → Type 0 = λ i. IsClearedBelow g.T.Native.zero start c.loop-i.values.items c.args.valid.now i in
    elim c.if-rest-lt8.branch [
      | then-rest-lt8 w ↦ IsClearedBelow-past g.T.Native.zero start c.loop-i.values.items c.args.valid.now c.loop-i.i (8 * c.args.place + 8) kept (omega arith)
      | else-rest-lt8 w ↦ let end : c.loop-i.i ≡ 8 * c.args.place + 8 = omega arith in subst P end kept
    ]
