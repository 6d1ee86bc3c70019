-- Numbers and structs that were written read back.
use Rattle.std.proofs.Common.{◌≡◌, ◌∙◌, ℕ, zero, suc, ◌+◌, ◌*◌, ◌<◌, ℤ, List, [], ◌∷◌, ◌++◌, length, map, take, drop, get_or, replicate, refl, sym, ap, arith, zero-add, FitsSigned, Result, Ok, Err, IfOk, Vec}
use Rattle.std.specs.List.{range_with_len, flat_map, All}
use Rattle.std.specs.Int.{w32, w64, cast_signed, cast_unsigned}
use Rattle.std.proofs.Math.Nat.{mul-suc, mul-zero}
use Rattle.std.proofs.Math.Facts.{to_z-of_z, Fits-of_z, Fits-lt-pow}
use Rattle.std.proofs.lemmas.List.{take_at, drop_at, drop-drop, same_lists}
use Rattle.std.proofs.lemmas.List.FromFn.{length-map-range_with_len, get_or-map-range_with_len}
use Rattle.byteorder.specs.Endian.{little_number, little_bytes}
use Rattle.byteorder.specs.Numbers.{little_number-reads_back}
use Rattle.arrow_meta.specs.declared.meta.Block.{Block}
use Rattle.arrow_meta.specs.Messages.{pair_bytes, block_bytes}
use Rattle.arrow_meta.specs.Meta.{unsigned_pair, place_of}
use Rattle.arrow_meta.specs.Footer.{block_in}
use Rattle.arrow_meta.specs.Message.{pair_in}
use Rattle.arrow_meta.specs.Written.{IsPair, IsBlock}

-- signed numbers of eight and of four bytes
signed8_back : (z : ℤ) (rest : List ℕ) → FitsSigned w64 z → cast_signed w64 (little_number 8 (little_bytes 8 (cast_unsigned w64 z) ++ rest)) ≡ z
signed8_back z rest fits = ap (cast_signed w64) (little_number-reads_back 8 (cast_unsigned w64 z) rest (Fits-lt-pow (Fits-of_z fits))) ∙ to_z-of_z fits

signed4_back : (z : ℤ) (rest : List ℕ) → FitsSigned w32 z → cast_signed w32 (little_number 4 (little_bytes 4 (cast_unsigned w32 z) ++ rest)) ≡ z
signed4_back z rest fits = ap (cast_signed w32) (little_number-reads_back 4 (cast_unsigned w32 z) rest (Fits-lt-pow (Fits-of_z fits))) ∙ to_z-of_z fits

abbrev pair_of : ℤ → ℤ → ℤ × ℤ
pair_of a b = (a, b)

abbrev block_of : ℤ → ℤ → ℤ → Block
block_of a b c = record { offset = a; meta_len = b; body_len = c }

pub pair_back : (pair : ℤ × ℤ) → IsPair pair → pair_in (pair_bytes (unsigned_pair pair)) ≡ pair
pair_back pair fits =
    let number = λ (x : ℕ). cast_signed w64 (little_number 8 (little_bytes 8 x)) in
    let first = signed8_back pair.0 (little_bytes 8 (cast_unsigned w64 pair.1)) fits.first in
    let second = signed8_back pair.1 [] fits.second in
    ap (λ (a : ℤ). pair_of a (number (cast_unsigned w64 pair.1))) first ∙ ap (λ (b : ℤ). pair_of pair.0 b) second

pub block_back : (block : Block) → IsBlock block → block_in (block_bytes (place_of block)) ≡ block
block_back block fits =
    let offset = cast_unsigned w64 block.offset in
    let meta_len = cast_unsigned w32 block.meta_len in
    let body_len = cast_unsigned w64 block.body_len in
    let four = λ (x : ℕ). cast_signed w32 (little_number 4 (little_bytes 4 x)) in
    let eight = λ (x : ℕ). cast_signed w64 (little_number 8 (little_bytes 8 x)) in
    let first = signed8_back block.offset (little_bytes 4 meta_len ++ (replicate 4 0 ++ little_bytes 8 body_len)) fits.offset in
    let second = signed4_back block.meta_len (replicate 4 0 ++ little_bytes 8 body_len) fits.meta_len in
    let third = signed8_back block.body_len [] fits.body_len in
    ap (λ (a : ℤ). block_of a (four meta_len) (eight body_len)) first
    ∙ ap (λ (b : ℤ). block_of block.offset b (eight body_len)) second
    ∙ ap (λ (c : ℤ). block_of block.offset block.meta_len c) third

-- the bytes of the struct at a place
struct_at : {A : Type 0} (f : A → List ℕ) (width : ℕ) → ((x : A) → length (f x) ≡ width) → (xs : List A) (k : ℕ) (d : A) → k < length xs
    → take width (drop (width * k) (flat_map f xs)) ≡ f (get_or xs k d)
struct_at f width long [] k d below = absurd (omega arith)
struct_at f width long (x ∷ xs) zero d below = rw (mul-zero width) (take_at (f x) (flat_map f xs) width (long x))
struct_at f width long (x ∷ xs) (suc k) d below =
    let place : width * suc k ≡ width + width * k = omega (arith, mul-suc width k) in
    ap (λ n. take width (drop n (f x ++ flat_map f xs))) place
    ∙ ap (take width) (sym (drop-drop (width * k) width (f x ++ flat_map f xs)))
    ∙ ap (λ rest. take width (drop (width * k) rest)) (drop_at (f x) (flat_map f xs) width (long x))
    ∙ struct_at f width long xs k d (omega arith)

-- structs of one width read back one by one
pub structs_back : {A : Type 0} (f : A → List ℕ) (read : List ℕ → A) (width n : ℕ) (item : ℕ → List ℕ) (xs : List A)
    → ((x : A) → length (f x) ≡ width) → n ≡ length xs → ((i : ℕ) → i < n → item i ≡ take width (drop (width * i) (flat_map f xs)))
    → All (λ x. read (f x) ≡ x) xs → map (λ i. read (item i)) (range_with_len 0 n) ≡ xs
structs_back f read width n item xs long count items back =
    same_lists _ _ (length-map-range_with_len (λ i. read (item i)) 0 n ∙ count) (λ k d h.
    let below : k < n = omega (arith, h, length-map-range_with_len (λ i. read (item i)) 0 n) in
    let within : k < length xs = omega arith in
    get_or-map-range_with_len (λ i. read (item i)) 0 n k k d below (zero-add k)
    ∙ ap read (items k below ∙ struct_at f width long xs k d within) ∙ back k d within)

-- what is laid out of each of several values
pub flat_map-map : {A B : Type 0} (f : B → List ℕ) (g : A → B) (xs : List A) → flat_map f (map g xs) ≡ flat_map (λ x. f (g x)) xs
flat_map-map f g [] = refl
flat_map-map f g (x ∷ xs) = ap (λ rest. f (g x) ++ rest) (flat_map-map f g xs)

-- what a vector of these bytes reads as
pub back_vec : {A Z E : Type 0} (r : Result (Vec ℕ Z) E) (all : List ℕ) (read : List ℕ → A) (x : A) → IfOk r (λ bytes. bytes.items ≡ all) → read all ≡ x → IfOk r (λ bytes. read bytes.items ≡ x)
back_vec (Ok v) all read x e h = ap read e ∙ h
back_vec (Err d) all read x e h = tt
