-- Which values of a column are null, and its values beside that.
use Rattle.std.proofs.Common.{◌≡◌, ◌∙◌, ◌*◌, ◌<◌, ◌==◌, List, [], ◌∷◌, Bool, true, false, Some, length, map, replicate, refl, sym, ap, arith, nat_le, if◌then◌else◌}
use Rattle.std.specs.List.{list_all}
use Rattle.std.proofs.lemmas.Bool.{le-leb}
use Rattle.std.proofs.lemmas.List.{length-map}
use Rattle.sub_types.specs.declared.value.Value.{Value}
use Rattle.sub_types.specs.declared.value.Value.TheVariants as values
use Rattle.arrow_meta.specs.Buffers.{is_valid, packed, validity_buffer}
use Rattle.arrow_meta.specs.Values.{bits_in, validity_in}
use Rattle.arrow_law.proofs.PackedBits.{bits_back, length-packed}

-- packed truth values are read back
pub bits_in_back : (bits : List Bool) → bits_in (length bits) (packed bits) ≡ Some bits
unfolding bits_in
bits_in_back bits =
    let long = length-packed bits in
    let enough : nat_le (length bits) (8 * length (packed bits)) ≡ true = le-leb (length bits) (8 * length (packed bits)) (omega (arith, long)) in
    rw enough (ap (λ xs. Some xs) (bits_back bits))

-- where all are valid
all_valid : (column : List Value) → list_all is_valid column ≡ true → replicate (length column) true ≡ map is_valid column
all_valid [] all = refl
all_valid (values.Null ∷ column) all = absurd (cc)
all_valid (value ∷ column) all = ap (λ rest. true ∷ rest) (all_valid column all)

-- where one isn't, there are bytes
some_bytes : (column : List Value) → list_all is_valid column ≡ false → (length (packed (map is_valid column)) == 0) ≡ false
some_bytes [] one = absurd (cc)
some_bytes (value ∷ column) one =
    let long = length-packed (map is_valid (value ∷ column)) in
    let same = length-map (value ∷ column) is_valid in
    let some : 0 < length (packed (map is_valid (value ∷ column))) = omega (arith, long, same) in
    grind arith

-- the validity of a column is read back
pub validity_back : (column : List Value) → validity_in (length column) (validity_buffer column) ≡ Some (map is_valid column)
unfolding validity_in validity_buffer
validity_back column =
    let motive = λ (b : Bool). list_all is_valid column ≡ b → (if length (if b then [] else packed (map is_valid column)) == 0 then Some (replicate (length column) true) else bits_in (length column) (if b then [] else packed (map is_valid column))) ≡ Some (map is_valid column) in
    elim (list_all is_valid column) as motive [
      | true ↦ λ all. ap (λ xs. Some xs) (all_valid column all)
      | false ↦ λ one.
          let long : length (map is_valid column) ≡ length column = length-map column is_valid in
          rw (some_bytes column one) (ap (λ n. bits_in n (packed (map is_valid column))) (sym long) ∙ bits_in_back (map is_valid column))
    ] refl
