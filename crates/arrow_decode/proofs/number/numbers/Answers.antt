use Rattle.std.proofs.Common.{◌≡◌, ◌∙◌, ◌*◌, ap, sym, length, map, arith, Some}
use Rattle.std.specs.List.{range_with_len}
use Rattle.arrow_decode.proofs.NumberLaws.{signed_in-short, signed_in-long, signed_number}
use Rattle.arrow_decode.proofs.ChunkLaws.{chunk_numbers, length-chunk_values}
use Rattle.arrow_decode.proofs.number.numbers.Goals as goal

pub returns-in_default-clause-numbers : goal.returns-in_default-clause-numbers
returns-in_default-clause-numbers g c =
    let native = g.T.Native in
    let size : c.SIZE.result * c.args.count ≡ native.SIZE * c.args.count = ap (λ n. n * c.args.count) c.SIZE.ensures in
    sym (signed_in-short native.width native.SIZE c.args.count c.args.buffer.now (omega (arith, c.in_default.ensures, size)))

pub returns-then-size-buffer-clause-numbers : goal.returns-then-size-buffer-clause-numbers
returns-then-size-buffer-clause-numbers g c =
    let native = g.T.Native in
    let size : c.SIZE.result * c.args.count ≡ native.SIZE * c.args.count = ap (λ n. n * c.args.count) c.SIZE.ensures in
    sym (signed_in-short native.width native.SIZE c.args.count c.args.buffer.now (omega (arith, c.in-Some.ensures, size)))

pub returns-clause-numbers : goal.returns-clause-numbers
returns-clause-numbers g c =
    let native = g.T.Native in
    let count = c.args.count in
    let front = c.split_at.result.0.now in
    let back = c.split_at.result.1.now in
    let size : c.SIZE.result * count ≡ native.SIZE * count = ap (λ n. n * count) c.SIZE.ensures in
    let long : length front ≡ native.SIZE * count = omega (arith, c.split_at.ensures.front_len, c.in-Some.ensures, size) in
    let parts = sym c.split_at.ensures.by_index.0 in
    let read = chunk_numbers native.number native.value_of native.width native.SIZE count front back g.met.T.Native.number_of_read g.met.T.Native.has_bytes long in
    let all = signed_in-long native.width native.SIZE count c.args.buffer.now (omega (arith, c.in-Some.ensures, size)) in
    ap (λ xs. Some xs) (ap (map native.number) c.in_ok-numbers.ensures ∙ read ∙ ap (λ bytes. map (signed_number native.width native.SIZE bytes) (range_with_len 0 count)) parts) ∙ sym all

pub returns-clause-long : goal.returns-clause-long
returns-clause-long g c =
    let native = g.T.Native in
    let count = c.args.count in
    let front = c.split_at.result.0.now in
    let size : c.SIZE.result * count ≡ native.SIZE * count = ap (λ n. n * count) c.SIZE.ensures in
    let long : length front ≡ native.SIZE * count = omega (arith, c.split_at.ensures.front_len, c.in-Some.ensures, size) in
    c.in_ok-numbers.numbers.ok.0 ∙ ap length c.in_ok-numbers.ensures ∙ length-chunk_values native.value_of native.SIZE count front g.met.T.Native.has_bytes long
