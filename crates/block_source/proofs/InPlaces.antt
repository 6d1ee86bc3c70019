-- Each place is one of a block of a file.
use Rattle.std.proofs.Common.{◌≡◌, ℕ, suc, ◌+◌, ◌<◌, List, [], ◌∷◌, vec_len, All, Option, Some, None, slice_get, arith, refl, sym, subst, ◌∙◌}
use Rattle.std.specs.Option.{option_map}
use Rattle.std.specs.List.{range_with_len}
use Rattle.std.proofs.lemmas.List.Elements.{All-nil, All-append, All-map}
use Rattle.std.proofs.lemmas.List.FromFn.{length-range_with_len, get_or-range_with_len}
use Rattle.std.proofs.lemmas.Option.{slice_get-map, slice_get_within, get_or_from_slice_get}
use Rattle.block_source.specs.declared.file.BlockFile.{BlockFile}
use Rattle.block_source.specs.declared.file.BlockPlace.{BlockPlace}
use Rattle.block_source.specs.Places.{place_in, places_in, places_from, places_of, counts_of}
use Rattle.block_source.specs.Seen.{IsPlaceIn}

-- the place of a block of one of so many files, the first of which has this place among the files
record IsOf (counts : List ℕ) (from : ℕ) (p : BlockPlace) : Type 0 where
  file : ℕ
  blocks : ℕ
  is : p.file ≡ from + file
  counted : slice_get counts file ≡ Some blocks
  exists : p.block < blocks

below_all : (n : ℕ) → All (λ b. b < n) (range_with_len 0 n)
below_all n k d below =
    let within : k < n = omega (arith, below, length-range_with_len 0 n) in
    omega (arith, get_or-range_with_len 0 n k d within, within)

all_of : (counts : List ℕ) (from : ℕ) → All (IsOf counts from) (places_from from counts)
all_of [] from = All-nil (IsOf [] from)
all_of (blocks ∷ more) from =
    All-append (IsOf (blocks ∷ more) from) (places_in from blocks) (places_from (from + 1) more)
    (All-map (IsOf (blocks ∷ more) from) (place_in from) (range_with_len 0 blocks)
    (λ k d below. record { file = 0; blocks = blocks; is = omega arith; counted = refl; exists = below_all blocks k d below }))
    (λ k d below. let p = all_of more (from + 1) k d below in record { file = suc p.file; blocks = p.blocks; is = omega (arith, p.is); counted = p.counted; exists = p.exists })

-- an element that was mapped
pub mapped_from : {X Y : Type 0} (f : X → Y) (found : Option X) (y : Y) → option_map f found ≡ Some y → (x : X) × (found ≡ Some x) × (f x ≡ y)
mapped_from f None y e = absurd cc
mapped_from f (Some x) y e = (x, refl, cc)

-- the place at a number is that of a block of one of the files
pub place_counted : (counts : List ℕ) (number : ℕ) (p : BlockPlace) → slice_get (places_from 0 counts) number ≡ Some p → (blocks : ℕ) × (slice_get counts p.file ≡ Some blocks) × (p.block < blocks)
place_counted counts number p at =
    let below = slice_get_within (places_from 0 counts) number p at in
    let same = get_or_from_slice_get (places_from 0 counts) number p p at in
    let found = subst (IsOf counts 0) same (all_of counts 0 number p below) in
    let is : found.file ≡ p.file = omega (arith, found.is) in
    (found.blocks, subst (λ k. slice_get counts k ≡ Some found.blocks) is found.counted, found.exists)

pub place_is_in : (files : List BlockFile) (number : ℕ) (p : BlockPlace) → slice_get (places_of files) number ≡ Some p → IsPlaceIn files p
place_is_in files number p at =
    let c = place_counted (counts_of files) number p at in
    let m = mapped_from (λ (o : BlockFile). vec_len o.head.blocks) (slice_get files p.file) c.0 (sym (slice_get-map (λ (o : BlockFile). vec_len o.head.blocks) files p.file) ∙ c.1) in
    record { one = m.0; is = m.1; exists = subst (λ n. p.block < n) (sym m.2) c.2 }
