-- What the blocks of a file say, unless one is compressed.
use Rattle.std.specs.Prelude.{ℕ, List, map, Bool, Option, Result, Ok}
use Rattle.std.specs.List.{list_any}
use Rattle.std.specs.Result.{result_ok}
use Rattle.arrow_meta.specs.declared.meta.Block.{Block}
use Rattle.arrow_meta.specs.declared.meta.RecordMeta.{RecordMeta}
use Rattle.arrow_meta.specs.Dictionary.{DictionaryBlock}
use Rattle.arrow_meta.specs.Head.{Refusal, Compressed, refuse_if, is_compressed, record_at, dictionary_at, dictionary_block}

-- the metadata of a record batch, none for a bad one
abbrev pub meta_of : List ℕ → ℕ → Block → Result (Option RecordMeta) Refusal
meta_of told footer block = refuse_if (is_compressed (record_at told footer block)) Compressed (Ok (result_ok (record_at told footer block)))

-- the block of a dictionary, none for a bad one
abbrev pub text_of : List ℕ → ℕ → Block → Result (Option DictionaryBlock) Refusal
text_of told footer block = refuse_if (is_compressed (dictionary_at told footer block)) Compressed (Ok (dictionary_block told footer block))

-- what each block says, unless one is compressed
abbrev pub refuse_if_any : {A : Type 0} → (Block → Bool) → (Block → A) → List Block → Result (List A) Refusal
refuse_if_any compressed said blocks = refuse_if (list_any compressed blocks) Compressed (Ok (map said blocks))

abbrev pub metas_of : List ℕ → ℕ → List Block → Result (List (Option RecordMeta)) Refusal
metas_of told footer blocks = refuse_if_any (λ block. is_compressed (record_at told footer block)) (λ block. result_ok (record_at told footer block)) blocks

abbrev pub texts_of : List ℕ → ℕ → List Block → Result (List (Option DictionaryBlock)) Refusal
texts_of told footer blocks = refuse_if_any (λ block. is_compressed (dictionary_at told footer block)) (dictionary_block told footer) blocks
