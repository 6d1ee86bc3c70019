-- What is told after the read of a block.
use Rattle.std.proofs.Common.{◌≡◌, ◌≢◌, ℕ, ◌==◌, Bool, true, false, List, [], ◌∷◌, ◌++◌, ◌<◌, length, get_or, slice_get, Option, Some, None, Result, Err, if◌then◌else◌, append-nil, refl, sym, ap, ◌∙◌}
use Rattle.std.proofs.lemmas.Option.{slice_get-get_or}
use Rattle.std.specs.Option.{option_map}
use Rattle.world.specs.Reads.{Reads}
use Rattle.arrow_meta.specs.declared.meta.Block.{Block}
use Rattle.arrow_meta.specs.declared.meta.RecordMeta.{RecordMeta}
use Rattle.arrow_decode.specs.declared.raw.Raw.{Raw}
use Rattle.arrow_read.specs.declared.error.BlockError.{BlockError}
use Rattle.arrow_read.specs.declared.error.BlockError.TheVariants.{ReadFault, BadBatch}
use Rattle.arrow_read.specs.BlockReads.{reads_block, body_start, body_len}
use Rattle.block_source.specs.Bodies.{read_with}

with_nothing : (reads : Option Reads) → reads ≡ option_map (λ told. told ++ []) reads
with_nothing None = refl
with_nothing (Some told) = ap Some (sym (append-nil told))

one_read : (empty : Bool) (place len : ℕ) (reads : Option Reads)
    → (if empty then reads else option_map (λ told. told ++ (place, len) ∷ []) reads) ≡ option_map (λ told. told ++ (if empty then [] else (place, len) ∷ [])) reads
one_read true place len reads = with_nothing reads
one_read false place len reads = refl

asked : (found : Option (Option RecordMeta)) (at : Option Block) (before after : Option Reads) → found ≢ None → found ≢ Some None
    → after ≡ reads_block {A = Raw} (Err ReadFault) before at → after ≡ option_map (λ told. told ++ read_with found at) before
unfolding reads_block
asked None at before after some good e = absurd (some refl)
asked (Some None) at before after some good e = absurd (good refl)
asked (Some (Some meta)) None before after some good e = e ∙ with_nothing before
asked (Some (Some meta)) (Some block) before after some good e = e ∙ one_read (body_len block == 0) (body_start block) (body_len block) before

some_is : {X : Type 0} (found : Option X) (x : X) → found ≡ Some x → found ≢ None
some_is None x e none = cc
some_is (Some y) x e none = cc

-- a block whose read failed was asked for, since its metadata is good
pub failed_read : (metas : List (Option RecordMeta)) (blocks : List Block) (block : ℕ) (result : Result Raw BlockError) (before after : Option Reads) → block < length metas
    → result ≡ Err ReadFault → (slice_get metas block ≡ Some None → result ≡ Err BadBatch) → after ≡ reads_block result before (slice_get blocks block)
    → after ≡ option_map (λ told. told ++ read_with (slice_get metas block) (slice_get blocks block)) before
failed_read metas blocks block result before after below is bad e =
    asked (slice_get metas block) (slice_get blocks block) before after
    (some_is (slice_get metas block) (get_or metas block None) (slice_get-get_or metas block None below))
    (λ none. let b = sym is ∙ bad none in absurd cc)
    (e ∙ ap (λ (r : Result Raw BlockError). reads_block r before (slice_get blocks block)) is)
