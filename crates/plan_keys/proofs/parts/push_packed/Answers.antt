use Rattle.std.proofs.Common.{rules, ◌≡◌, ◌∙◌, ◌++◌, ◌<◌, ◌≤◌, ◌^◌, ◌*◌, arith, [], length, get_or, drop}
use Rattle.std.proofs.lemmas.List.{drop_all}
use Rattle.plan_keys.specs.Keys as spec
use Rattle.plan_keys.proofs.PackLaws.{more_in, more_behind, at_end}
use Rattle.plan_keys.proofs.PlaceLaws.{on_ok}
use Rattle.plan_keys.proofs.parts.push_packed.Goals.{then-limit-lt-FULL, else-limit-lt-FULL+in_ok-push_digits}
use Rattle.plan_keys.proofs.parts.push_packed.Goals as goal

pub loop-byte-preserved : goal.loop-byte-preserved
loop-byte-preserved c =
    let bytes = c.args.bytes.now in
    let i = c.loop-byte.byte-index in
    let out = c.loop-byte.out.items in
    let start = c.args.out.now.items ++ spec.packed 1 0 bytes in
    let kept = c.loop-byte.invariant in
    let inside : i < length bytes = search rules in
    elim c.if-limit-lt-FULL.branch [
      | then-limit-lt-FULL w ↦
          let is_small : w.from.result < 256 = search rules in
          let at : get_or bytes i w.from.result ≡ w.from.result = search rules in
          let room : c.loop-byte.limit < 2 ^ 112 = search rules in
          let after = more_in out start bytes i c.loop-byte.limit c.loop-byte.number w.from.result inside at is_small room kept.below kept.written kept.bytes in
          let most : c.loop-byte.limit * 256 ≤ 2 ^ 120 = omega (arith, room) in
          rw (w.out-is, w.limit-is, w.number-is) (record { below = after.0; written = after.1; bytes = after.2; most = most })
      | else-limit-lt-FULL+in_ok-push_digits w ↦
          let is_small : w.from-number.result < 256 = search rules in
          let at : get_or bytes i w.from-number.result ≡ w.from-number.result = search rules in
          let full : 2 ^ 112 ≤ c.loop-byte.limit = search rules in
          let after = more_behind out start bytes i c.loop-byte.limit c.loop-byte.number w.from-number.result inside at is_small full kept.written kept.bytes in
          let most : 256 ≤ 2 ^ 120 = search rules in
          rw (w.out-is, w.limit-is, w.number-is, w.in_ok-push_digits.ensures) (record { below = after.0; written = after.1; bytes = after.2; most = most })
    ]

pub returns-clause-packed : goal.returns-clause-packed
returns-clause-packed c =
    let past : length c.args.bytes.now ≤ c.loop-byte.byte-index = search rules in
    let none : drop c.loop-byte.byte-index c.args.bytes.now ≡ [] = drop_all c.loop-byte.byte-index c.args.bytes.now past in
    on_ok c.push_last.result
    (λ put. put ∙ at_end c.loop-byte.out.items (c.args.out.now.items ++ spec.packed 1 0 c.args.bytes.now) c.args.bytes.now c.loop-byte.byte-index c.loop-byte.limit c.loop-byte.number none c.loop-byte.invariant.written)
    c.push_last.ensures
