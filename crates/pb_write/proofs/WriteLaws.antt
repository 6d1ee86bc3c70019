-- What is written is read back: varints, records, messages and packed payloads.
use Rattle.std.proofs.Common.{◌≡◌, ◌∙◌, sym, ap, refl, subst, ℕ, zero, suc, ◌+◌, ◌-◌, ◌*◌, ◌/◌, ◌%◌, ◌^◌, ◌<◌, ◌≤◌, List, [], ◌∷◌, ◌++◌, true, false, cond, length, drop, take, nat_lt, nat_le, ◌&&◌, Option, Some, None, arith, append_assoc, length-append}
use Rattle.std.specs.List.{All, flat_map}
use Rattle.std.specs.Option.{option_map, option_and_then}
use Rattle.std.proofs.Math.Seq.{drop-append_seam, take-append_seam}
use Rattle.std.proofs.Math.Nat.{pow-suc}
use Rattle.std.proofs.lemmas.Bool.{le-ltb, lt-ltb, ltb-false, le-leb}
use Rattle.std.proofs.lemmas.List.Elements.{All-head, All-tail}
use Rattle.pb_wire.specs.Varint.{varint_within, varint_of, behind_byte}
use Rattle.pb_wire.specs.Records.{Content, Varint, Eight, Bytes, Four, Entry, stands, payload_of, block_of}
use Rattle.pb_wire.specs.Payloads.{Field, fields_of, is_whole, packed_numbers}
use Rattle.pb_wire.proofs.FieldLaws.{begun, none_left}
use Rattle.pb_wire.proofs.PackedLaws.{packed-first, packed-end}
use Rattle.pb_write.specs.Write.{varint_bytes_within, varint_bytes, key_bytes, record_bytes, message_bytes, packed_bytes, IsLong, HasPayload, IsWritable}

-- a byte before the last, and the rest
more_read : (left value : ℕ) (rest : List ℕ) → 128 ≤ value → varint_within (suc left) (varint_bytes_within (suc left) (value / 128) ++ rest) ≡ Some (value / 128, length (varint_bytes_within (suc left) (value / 128)))
    → varint_within (suc (suc left)) ((value % 128 + 128) ∷ varint_bytes_within (suc left) (value / 128) ++ rest) ≡ Some (value, suc (length (varint_bytes_within (suc left) (value / 128))))
more_read left value rest high inner =
    let byte : nat_lt (value % 128 + 128) 128 ≡ false = le-ltb (value % 128 + 128) 128 (omega arith) in
    let whole : value % 128 + 128 - 128 + 128 * (value / 128) ≡ value = omega arith in
    let size : length (varint_bytes_within (suc left) (value / 128)) + 1 ≡ suc (length (varint_bytes_within (suc left) (value / 128))) = omega arith in
    ap (λ b. cond b (Some (value % 128 + 128, 1)) (option_map (behind_byte (value % 128 + 128)) (varint_within (suc left) (varint_bytes_within (suc left) (value / 128) ++ rest)))) byte
    ∙ ap (option_map (behind_byte (value % 128 + 128))) inner
    ∙ (λ i. Some (whole i, size i))

within_read : (left value : ℕ) (rest : List ℕ) → value < 2 * 128 ^ left → varint_within (suc left) (varint_bytes_within (suc left) value ++ rest) ≡ Some (value, length (varint_bytes_within (suc left) value))
within_read zero value rest small = ap (λ b. cond b (Some (value, 1)) None) (lt-ltb value 2 (omega arith))
within_read (suc left) value rest small = (elim (nat_lt value 128) as (λ b. nat_lt value 128 ≡ b → varint_within (suc (suc left)) (cond b (value ∷ []) ((value % 128 + 128) ∷ varint_bytes_within (suc left) (value / 128)) ++ rest) ≡ Some (value, length (cond b (value ∷ []) ((value % 128 + 128) ∷ varint_bytes_within (suc left) (value / 128))))) [
  | true ↦ λ low. ap (λ b. cond b (Some (value, 1)) (option_map (behind_byte value) (varint_within (suc left) rest))) low
  | false ↦ λ high.
      let scale : 128 ^ suc left ≡ 128 ^ left * 128 = pow-suc 128 left in
      more_read left value rest (ltb-false value 128 high) (within_read left (value / 128) rest (omega (arith, scale)))
]) refl

-- a varint before other bytes
pub varint_read : (value : ℕ) (rest : List ℕ) → IsLong value → varint_of (varint_bytes value ++ rest) ≡ Some (value, length (varint_bytes value))
unfolding varint_of varint_bytes
varint_read value rest small = within_read 9 value rest small

-- the key of a record, and what its payload is read as
key_read : (number wire : ℕ) (rest : List ℕ) → 1 ≤ number → number < 2 ^ 29 → wire < 8
    → stands (key_bytes number wire ++ rest) ≡ option_map (λ (payload : Content × ℕ). record { number = number; content = payload.0; size = length (key_bytes number wire) + payload.1 }) (payload_of wire rest)
unfolding stands
key_read number wire rest some within kind =
    let key : ℕ = number * 8 + wire in
    let low : nat_lt key (2 ^ 32) ≡ true = lt-ltb key (2 ^ 32) (omega arith) in
    let high : nat_le 8 key ≡ true = le-leb 8 key (omega arith) in
    let field : key / 8 ≡ number = omega arith in
    let type : key % 8 ≡ wire = omega arith in
    let behind : drop (length (key_bytes number wire)) (key_bytes number wire ++ rest) ≡ rest = drop-append_seam (key_bytes number wire) rest in
    ap (option_and_then (λ found. cond (nat_lt found.0 (2 ^ 32) && nat_le 8 found.0)
    (option_map (λ (payload : Content × ℕ). record { number = found.0 / 8; content = payload.0; size = found.1 + payload.1 }) (payload_of (found.0 % 8) (drop found.1 (key_bytes number wire ++ rest)))) None)) (varint_read key rest (omega arith))
    ∙ (λ i. cond (low i && high i) (option_map (λ (payload : Content × ℕ). record { number = field i; content = payload.0; size = length (key_bytes number wire) + payload.1 }) (payload_of (type i) (behind i))) None)

-- a block behind its length
block_read : (bytes rest : List ℕ) → IsLong (length bytes) → block_of (varint_bytes (length bytes) ++ (bytes ++ rest)) ≡ Some (Bytes bytes, length (varint_bytes (length bytes)) + length bytes)
block_read bytes rest small =
    let size = varint_bytes (length bytes) in
    let behind : drop (length size) (size ++ (bytes ++ rest)) ≡ bytes ++ rest = drop-append_seam size (bytes ++ rest) in
    let fits : nat_le (length size + length bytes) (length (size ++ (bytes ++ rest))) ≡ true =
    le-leb (length size + length bytes) (length (size ++ (bytes ++ rest))) (omega (arith, length-append size (bytes ++ rest), length-append bytes rest)) in
    ap (option_and_then (λ len. cond (nat_le (len.1 + len.0) (length (size ++ (bytes ++ rest)))) (Some (Bytes (take len.0 (drop len.1 (size ++ (bytes ++ rest)))), len.1 + len.0)) None)) (varint_read (length bytes) (bytes ++ rest) small)
    ∙ (λ i. cond (fits i) (Some (Bytes (take (length bytes) (behind i)), length size + length bytes)) None)
    ∙ ap (λ b. Some (Bytes b, length size + length bytes)) (take-append_seam bytes rest)

-- a record before other bytes
abbrev IsRead : Field → List ℕ → List ℕ → Type 0
IsRead field bytes rest = (fields_of (bytes ++ rest) ≡ field ∷ fields_of rest) × (is_whole (bytes ++ rest) ≡ is_whole rest)

-- the record that stands there takes its own bytes
taken : (number : ℕ) (content : Content) (bytes rest : List ℕ) → stands (bytes ++ rest) ≡ Some (record { number = number; content = content; size = length bytes }) → IsRead (record { number = number; content = content }) bytes rest
taken number content bytes rest stand =
    let first = begun (bytes ++ rest) (record { number = number; content = content; size = length bytes }) stand in
    let behind : drop (length bytes) (bytes ++ rest) ≡ rest = drop-append_seam bytes rest in
    (first.fields ∙ ap (λ b. record { number = number; content = content } ∷ fields_of b) behind, first.whole ∙ ap is_whole behind)

varint_record : (number value : ℕ) (rest : List ℕ) → 1 ≤ number → number < 2 ^ 29 → IsLong value → IsRead (record { number = number; content = Varint value }) (key_bytes number 0 ++ varint_bytes value) rest
varint_record number value rest some within small =
    let key = key_bytes number 0 in
    let size : length key + length (varint_bytes value) ≡ length (key ++ varint_bytes value) = sym (length-append key (varint_bytes value)) in
    taken number (Varint value) (key ++ varint_bytes value) rest
    (ap stands (append_assoc key (varint_bytes value) rest)
    ∙ key_read number 0 (varint_bytes value ++ rest) some within (omega arith)
    ∙ ap (λ (found : Option (ℕ × ℕ)). option_map (λ (payload : Content × ℕ). record { number = number; content = payload.0; size = length key + payload.1 }) (option_map (λ value. (Content.Varint value.0, value.1)) found)) (varint_read value rest small)
    ∙ ap (λ n. Some (record { number = number; content = Varint value; size = n })) size)

block_record : (number : ℕ) (bytes rest : List ℕ) → 1 ≤ number → number < 2 ^ 29 → IsLong (length bytes) → IsRead (record { number = number; content = Bytes bytes }) (key_bytes number 2 ++ (varint_bytes (length bytes) ++ bytes)) rest
block_record number bytes rest some within small =
    let key = key_bytes number 2 in
    let len = varint_bytes (length bytes) in
    let size : length key + (length len + length bytes) ≡ length (key ++ (len ++ bytes)) = omega (arith, length-append key (len ++ bytes), length-append len bytes) in
    taken number (Bytes bytes) (key ++ (len ++ bytes)) rest
    (ap stands (append_assoc key (len ++ bytes) rest ∙ ap (λ b. key ++ b) (append_assoc len bytes rest))
    ∙ key_read number 2 (len ++ (bytes ++ rest)) some within (omega arith)
    ∙ ap (option_map (λ (payload : Content × ℕ). record { number = number; content = payload.0; size = length key + payload.1 })) (block_read bytes rest small)
    ∙ ap (λ n. Some (record { number = number; content = Bytes bytes; size = n })) size)

record_read : (number : ℕ) (content : Content) (rest : List ℕ) → IsWritable (record { number = number; content = content }) → IsRead (record { number = number; content = content }) (record_bytes (record { number = number; content = content })) rest
unfolding record_bytes
record_read number (Varint value) rest can = varint_record number value rest can.some can.within can.payload
record_read number (Eight value) rest can = absurd can.payload
record_read number (Bytes bytes) rest can = block_record number bytes rest can.some can.within can.payload
record_read number (Four value) rest can = absurd can.payload

-- a message's records are those that were written, and fill its bytes
pub message_read : (fields : List Field) → All IsWritable fields → (fields_of (message_bytes fields) ≡ fields) × (is_whole (message_bytes fields) ≡ true)
unfolding message_bytes
message_read [] can = none_left [] refl
message_read (field ∷ fields) can =
    let first = record_read field.number field.content (message_bytes fields) (All-head IsWritable field fields can) in
    let rest = message_read fields (All-tail IsWritable field fields can) in
    (first.0 ∙ ap (λ later. field ∷ later) rest.0, first.1 ∙ rest.1)

-- the numbers of a packed payload are those that were written
pub packed_read : (numbers : List ℕ) → All IsLong numbers → packed_numbers (packed_bytes numbers) ≡ Some numbers
unfolding packed_bytes
packed_read [] can = packed-end [] refl
packed_read (number ∷ numbers) can =
    packed-first (varint_bytes number ++ packed_bytes numbers) number (length (varint_bytes number)) (varint_read number (packed_bytes numbers) (All-head IsLong number numbers can))
    ∙ ap (λ b. option_map (λ rest. number ∷ rest) (packed_numbers b)) (drop-append_seam (varint_bytes number) (packed_bytes numbers))
    ∙ ap (option_map (λ rest. number ∷ rest)) (packed_read numbers (All-tail IsLong number numbers can))
