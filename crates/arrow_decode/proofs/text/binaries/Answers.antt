use Rattle.std.proofs.Common.{rules, tests, ◌≡◌, ◌∙◌, ℕ, ◌+◌, ◌-◌, ◌*◌, Some, length, ap, sym, arith}
use Rattle.std.proofs.Math.Facts.{Fits-lt-pow}
use Rattle.sub_types.specs.Optional.{optional}
use Rattle.col_text.specs.Text.{pieces}
use Rattle.arrow_meta.specs.Values.{binaries_in}
use Rattle.arrow_decode.proofs.TextLaws.{is_read_as, binaries_in-none, binaries_in-short, binaries_in-above, found_long, ends_found, ends_missing, most-fits, Rise-size}
use Rattle.arrow_decode.proofs.text.binaries.Goals as goal

pub returns-then-count-eq0 : goal.returns-then-count-eq0
returns-then-count-eq0 c =
    let none : c.args.count ≡ 0 = search (rules, tests) in
    let empty = c.from_parts.ensures ∙ ap (λ ends. optional (pieces 0 ends c.new-then-count-eq0.result.items) c.args.valid) c.new.ensures.items in
    ap (λ column. Some column) empty ∙ sym (ap (λ n. binaries_in c.args.wide n c.args.valid c.args.offsets.now c.args.bytes.now) none ∙ binaries_in-none c.args.wide c.args.valid c.args.offsets.now c.args.bytes.now)

pub returns-then-offset_size-count : goal.returns-then-offset_size-count
returns-then-offset_size-count c =
    let size = ap (λ (n : ℕ). n * (c.args.count + 1)) c.offset_size.ensures.size in
    sym (binaries_in-short c.args.wide c.args.count c.args.valid c.args.offsets.now c.args.bytes.now (omega arith) (omega (arith, size)))

pub returns-then-begin-most : goal.returns-then-begin-most
returns-then-begin-most c =
    let is = is_read_as c.args.wide c.args.count c.offset_size.result c.first_offset-begin.result c.last_place-most.result c.args.offsets.now c.args.bytes.now (omega arith) c.offset_size.ensures.size (omega arith) (λ i. Fits-lt-pow (c.type_inv.offsets i)) c.first_offset-begin.ensures c.last_place-most.ensures in
    sym (binaries_in-above c.args.wide c.args.count c.first_offset-begin.result c.last_place-most.result c.args.valid c.args.offsets.now c.args.bytes.now is (omega arith))

pub returns-in_default : goal.returns-in_default
returns-in_default c =
    let is = is_read_as c.args.wide c.args.count c.offset_size.result c.first_offset-begin.result c.last_place-most.result c.args.offsets.now c.args.bytes.now (omega arith) c.offset_size.ensures.size (omega arith) (λ i. Fits-lt-pow (c.type_inv.offsets i)) c.first_offset-begin.ensures c.last_place-most.ensures in
    sym (ends_missing c.args.wide c.args.count c.first_offset-begin.result c.last_place-most.result c.args.valid c.args.offsets.now c.args.bytes.now c.in_ok-ends.field-0 is (omega arith) c.in_default.is c.in_ok-ends.ensures)

pub get-requires : goal.get-requires
get-requires c =
    let long = found_long c.args.wide c.args.count c.first_offset-begin.result (c.last_place-most.result - c.first_offset-begin.result) c.args.offsets.now c.in-Some.ends c.in_ok-ends.field-0 c.in-Some.is c.in_ok-ends.ensures in
    omega (arith, long)

pub overflow_add-end : goal.overflow_add-end
overflow_add-end c =
    let is = is_read_as c.args.wide c.args.count c.offset_size.result c.first_offset-begin.result c.last_place-most.result c.args.offsets.now c.args.bytes.now (omega arith) c.offset_size.ensures.size (omega arith) (λ i. Fits-lt-pow (c.type_inv.offsets i)) c.first_offset-begin.ensures c.last_place-most.ensures in
    let ends = ends_found c.args.wide c.args.count c.first_offset-begin.result c.last_place-most.result c.get.result c.args.valid c.args.offsets.now c.args.bytes.now c.in-Some.ends c.in_ok-ends.field-0 is (omega arith) c.in-Some.is c.in_ok-ends.ensures c.get.ensures in
    let fits = most-fits c.args.wide c.args.count c.first_offset-begin.result c.last_place-most.result c.args.offsets.now c.args.bytes.now is in
    omega (arith, ends.within, fits.0)

pub part-requires-clause-within : goal.part-requires-clause-within
part-requires-clause-within c =
    let is = is_read_as c.args.wide c.args.count c.offset_size.result c.first_offset-begin.result c.last_place-most.result c.args.offsets.now c.args.bytes.now (omega arith) c.offset_size.ensures.size (omega arith) (λ i. Fits-lt-pow (c.type_inv.offsets i)) c.first_offset-begin.ensures c.last_place-most.ensures in
    let ends = ends_found c.args.wide c.args.count c.first_offset-begin.result c.last_place-most.result c.get.result c.args.valid c.args.offsets.now c.args.bytes.now c.in-Some.ends c.in_ok-ends.field-0 is (omega arith) c.in-Some.is c.in_ok-ends.ensures c.get.ensures in
    let fits = most-fits c.args.wide c.args.count c.first_offset-begin.result c.last_place-most.result c.args.offsets.now c.args.bytes.now is in
    omega (arith, ends.within, fits.1)

pub column_of-requires-clause-rising : goal.column_of-requires-clause-rising
column_of-requires-clause-rising c =
    let is = is_read_as c.args.wide c.args.count c.offset_size.result c.first_offset-begin.result c.last_place-most.result c.args.offsets.now c.args.bytes.now (omega arith) c.offset_size.ensures.size (omega arith) (λ i. Fits-lt-pow (c.type_inv.offsets i)) c.first_offset-begin.ensures c.last_place-most.ensures in
    let ends = ends_found c.args.wide c.args.count c.first_offset-begin.result c.last_place-most.result c.get.result c.args.valid c.args.offsets.now c.args.bytes.now c.in-Some.ends c.in_ok-ends.field-0 is (omega arith) c.in-Some.is c.in_ok-ends.ensures c.get.ensures in
    let fits = most-fits c.args.wide c.args.count c.first_offset-begin.result c.last_place-most.result c.args.offsets.now c.args.bytes.now is in
    Rise-size c.in-Some.ends c.get.result c.first_offset-begin.result (length c.part.result.now) c.args.bytes.now ends.rising (omega (arith, ends.within, fits.1)) (ap length c.part.ensures)

pub column_of-requires-clause-counted : goal.column_of-requires-clause-counted
column_of-requires-clause-counted c =
    let long = found_long c.args.wide c.args.count c.first_offset-begin.result (c.last_place-most.result - c.first_offset-begin.result) c.args.offsets.now c.in-Some.ends c.in_ok-ends.field-0 c.in-Some.is c.in_ok-ends.ensures in
    omega (arith, long, c.requires.long)

pub returns : goal.returns
returns c =
    let is = is_read_as c.args.wide c.args.count c.offset_size.result c.first_offset-begin.result c.last_place-most.result c.args.offsets.now c.args.bytes.now (omega arith) c.offset_size.ensures.size (omega arith) (λ i. Fits-lt-pow (c.type_inv.offsets i)) c.first_offset-begin.ensures c.last_place-most.ensures in
    let ends = ends_found c.args.wide c.args.count c.first_offset-begin.result c.last_place-most.result c.get.result c.args.valid c.args.offsets.now c.args.bytes.now c.in-Some.ends c.in_ok-ends.field-0 is (omega arith) c.in-Some.is c.in_ok-ends.ensures c.get.ensures in
    ap (λ column. Some column) (c.in_ok-column_of.ensures ∙ ap (λ bytes. optional (pieces 0 c.in-Some.ends bytes) c.args.valid) c.part.ensures) ∙ ends.texts
