-- What the first and the last bytes of a file and of a message say.
use Rattle.std.proofs.Common.{◌≡◌, ◌∙◌, ℕ, ◌+◌, ◌-◌, ◌<◌, ◌≤◌, List, length, take, drop, replicate, Bool, true, false, ◌&&◌, Option, Some, None, Ok, Err, nat_le, refl, sym, ap, arith, rules, tests, length-drop}
use Rattle.std.specs.Option.{option_map}
use Rattle.std.specs.Str.{bytes_eq}
use Rattle.std.specs.Int.{w32, cast_signed}
use Rattle.std.proofs.lemmas.List.{drop-take, drop-drop, take-take, take_all}
use Rattle.byteorder.specs.Endian.{little_number}
use Rattle.byteorder.specs.Numbers.{little_from-take}
use Rattle.arrow_meta.specs.File.{magic}
use Rattle.arrow_meta.specs.Messages.{Place}
use Rattle.arrow_meta.specs.Natural.{natural}
use Rattle.sub_types.specs.OptionSteps.{◌>>=◌, when}
use Rattle.arrow_meta.specs.Places.{is_arrow, signed_at, footer_size, metadata_in}
use Rattle.arrow_meta.specs.Head.{NotArrow, BadFooter, footer_place}
use Rattle.arrow_read.specs.Sizes.{size_of_footer, size_of_metadata}

-- a function of what passes a test
when-map : (found : Option ℕ) (test : ℕ → Bool) (f : ℕ → List ℕ) → (found >>= λ size. when (test size) (Some (f size))) ≡ option_map f (found >>= λ size. when (test size) (Some size))
when-map None test f = refl
when-map (Some size) test f = elim (test size) as (λ b. when b (Some (f size)) ≡ option_map f (when b (Some size))) [ true ↦ refl | false ↦ refl ]

-- the size of the metadata stands in the first eight bytes
pub metadata_is : (told : List ℕ) (place : Place) (head : List ℕ) → head ≡ take 8 (drop place.offset told)
    → metadata_in told place ≡ option_map (λ size. take size (drop (place.offset + 8) told)) (size_of_metadata place.meta_len head)
unfolding metadata_in
metadata_is told place head is =
    let rest = drop place.offset told in
    let f : ℕ → List ℕ = λ size. take size (drop (place.offset + 8) told) in
    let mark : take 4 head ≡ take 4 rest = ap (take 4) is ∙ take-take 4 8 rest (omega arith) in
    let part : drop 4 head ≡ take 4 (drop 4 rest) = ap (drop 4) is ∙ drop-take 4 4 rest in
    let number : little_number 4 (drop 4 head) ≡ little_number 4 (drop (place.offset + 4) told) =
    ap (little_number 4) part ∙ little_from-take 0 4 4 (drop 4 rest) (omega arith) ∙ ap (little_number 4) (drop-drop 4 place.offset told) in
    let found : ℕ → List ℕ → Option (List ℕ) = λ n m.
    option_map f (natural (cast_signed w32 n) >>= λ size. when (bytes_eq m (replicate 4 255) && nat_le 1 size && nat_le (size + 8) place.meta_len) (Some size)) in
    when-map (natural (signed_at told (place.offset + 4))) (λ size. bytes_eq (take 4 rest) (replicate 4 255) && nat_le 1 size && nat_le (size + 8) place.meta_len) f
    ∙ ap (λ n. found n (take 4 rest)) (sym number) ∙ ap (found (little_number 4 (drop 4 head))) (sym mark)

not_arrow : (told : List ℕ) → is_arrow told ≡ false → footer_place told ≡ Err NotArrow
unfolding footer_place
not_arrow told h = rw h refl

no_size : (told : List ℕ) → is_arrow told ≡ true → footer_size told ≡ None → footer_place told ≡ Err (BadFooter (length told - 10))
unfolding footer_place
no_size told h n = rw (h, n) refl

some_size : (told : List ℕ) (size : ℕ) → is_arrow told ≡ true → footer_size told ≡ Some size → footer_place told ≡ Ok (length told - 10 - size)
unfolding footer_place
some_size told size h n = rw (h, n) refl

-- both ends in the bytes that were read
arrow_is : (told front back : List ℕ) → 18 ≤ length told → front ≡ take 6 told → back ≡ take 10 (drop (length told - 10) told)
    → is_arrow told ≡ (bytes_eq front magic && bytes_eq (drop 4 back) magic)
arrow_is told front back long first last =
    let enough : nat_le 18 (length told) ≡ true = search (rules, tests) in
    let whole : back ≡ drop (length told - 10) told = last ∙ take_all 10 (drop (length told - 10) told) (omega (arith, length-drop (length told - 10) told)) in
    let place : length told - 10 + 4 ≡ length told - 6 = omega arith in
    let end : drop 4 back ≡ drop (length told - 6) told = ap (drop 4) whole ∙ drop-drop 4 (length told - 10) told ∙ ap (λ n. drop n told) place in
    rw (enough, first, end) refl

size_is : (told back : List ℕ) → back ≡ take 10 (drop (length told - 10) told) → footer_size told ≡ size_of_footer (length told) back
unfolding footer_size
size_is told back last =
    let number : little_number 4 back ≡ little_number 4 (drop (length told - 10) told) =
    ap (little_number 4) last ∙ little_from-take 0 4 10 (drop (length told - 10) told) (omega arith) in
    ap (λ n. natural (cast_signed w32 n) >>= λ size. when (nat_le 1 size && nat_le (size + 18) (length told)) (Some size)) (sym number)

-- a file that is too short
pub short_file : (told : List ℕ) → length told < 18 → footer_place told ≡ Err NotArrow
short_file told short =
    let few : nat_le 18 (length told) ≡ false = search (rules, tests) in
    let other : is_arrow told ≡ false = rw few refl in
    not_arrow told other

-- a file without the magic
pub other_file : (told front back : List ℕ) → 18 ≤ length told → front ≡ take 6 told → back ≡ take 10 (drop (length told - 10) told)
    → (bytes_eq front magic && bytes_eq (drop 4 back) magic) ≡ false → footer_place told ≡ Err NotArrow
other_file told front back long first last other = not_arrow told (arrow_is told front back long first last ∙ other)

-- a file whose footer has no size that it can have
pub unsized_file : (told front back : List ℕ) → 18 ≤ length told → front ≡ take 6 told → back ≡ take 10 (drop (length told - 10) told)
    → (bytes_eq front magic && bytes_eq (drop 4 back) magic) ≡ true → size_of_footer (length told) back ≡ None → footer_place told ≡ Err (BadFooter (length told - 10))
unsized_file told front back long first last arrow none =
    no_size told (arrow_is told front back long first last ∙ arrow) (size_is told back last ∙ none)

-- a file with its footer
pub sized_file : (told front back : List ℕ) (size : ℕ) → 18 ≤ length told → front ≡ take 6 told → back ≡ take 10 (drop (length told - 10) told)
    → (bytes_eq front magic && bytes_eq (drop 4 back) magic) ≡ true → size_of_footer (length told) back ≡ Some size → footer_place told ≡ Ok (length told - 10 - size)
sized_file told front back size long first last arrow some =
    some_size told size (arrow_is told front back long first last ∙ arrow) (size_is told back last ∙ some)
