-- What the workers made of the blocks, in the order of their numbers.
use Rattle.std.proofs.Common.{◌≡◌, ◌∙◌, ℕ, suc, ◌+◌, List, [], ◌∷◌, Option, Some, None, length, map, slice_get, refl, sym, ap, subst, arith}
use Rattle.std.specs.List.{All, range_with_len}
use Rattle.std.specs.Option.{option_map}
use Rattle.std.proofs.lemmas.List.Elements.{All-nil, All-cons, All-head, All-tail}
use Rattle.std.proofs.lemmas.Option.{slice_get_within, get_or_from_slice_get}
use Rattle.sub_types.specs.Stream.{Stream, rows_alone}
use Rattle.world.specs.Counts.{Rose}
use Rattle.plan_denote.specs.Rows.{Row}
use Rattle.arrow_meta.specs.Table.{rows_of}
use Rattle.arrow_decode.specs.declared.dictionary.DictColumn.{DictColumn}
use Rattle.pipe_labour.specs.declared.item.Item.{Item}
use Rattle.round_end.specs.declared.outcome.Outcome.{Outcome}
use Rattle.round_end.specs.declared.outcome.Outcome.TheVariants.{Made, Ended, ReadFault}
use Rattle.round_end.specs.Decided.{Decided, decided, made_before}
use Rattle.block_source.specs.declared.block.BlockRead.{BlockRead}
use Rattle.block_source.specs.declared.block.BlockRead.TheVariants as reads
use Rattle.block_source.specs.declared.file.BlockFile.{BlockFile}
use Rattle.block_source.specs.declared.file.BlockPlace.{BlockPlace}
use Rattle.block_source.specs.Made.{IsMadeOf}
use Rattle.block_source.specs.Places.{places_of}
use Rattle.block_source.specs.Seen.{bytes_of, GivesAt, GivesFor}
use Rattle.table_rows.specs.Blocks.{HaveKinds}
use Rattle.table_rows.proofs.KindLaws.{kinds_are}
use Rattle.pipe_round.specs.Below.{Kept, Passed, IsKeptOf, IsMade, IsWorkedTo}
use Rattle.block_work.specs.declared.reading.TableSteps.{TableSteps}
use Rattle.block_work.specs.Blocks as work
use Rattle.block_work.specs.Blocks.{block_at, rows_with, dictionaries_in}
use Rattle.pipe_round.specs.Settled.{IsSettled, AreSettled}
use Rattle.table_round.specs.Streams.{IsBlock, AreBlocks}

-- the kinds of a file's wanted columns
file_kinds : (steps : TableSteps) (at : ℕ) (one : BlockFile) → slice_get steps.table.now.files.items at ≡ Some one → All (λ (file : BlockFile). HaveKinds file.head.schema.columns file.wanted.items steps.pipe.now.types) steps.table.now.files.items
    → HaveKinds one.head.schema.columns one.wanted.items steps.pipe.now.types
file_kinds steps at one is kinds =
    let files = steps.table.now.files.items in
    let P : BlockFile → Type 0 = λ file. HaveKinds file.head.schema.columns file.wanted.items steps.pipe.now.types in
    subst P (get_or_from_slice_get files at one one is) (kinds at one (slice_get_within files at one is))

module _ (steps : TableSteps) (bytes : List (Option (List ℕ))) (before now : ℕ) where
  -- what was made of a block: a stream that is the block's, settled, and a count that rose where its read failed
  record Came (place : BlockPlace) (made : Outcome Kept) : Type 0 where
    piece : Stream Row
    of_block : IsBlock steps bytes place piece
    settled : IsSettled steps.pipe.now piece made
    rose : made ≡ ReadFault → Rose before now

  -- a stream of the block, whatever was read
  told_stream : (place : BlockPlace) (one : BlockFile) (told : Option (List ℕ)) → slice_get steps.table.now.files.items place.file ≡ Some one → bytes_of bytes place.file ≡ told → (piece : Stream Row) × IsBlock steps bytes place piece
  told_stream place one None is none = (rows_alone [], λ other also found tells. absurd (cc))
  told_stream place one (Some found) is some = (
    block_at steps place (rows_of found place.block one.wanted.items),
    λ other also same tells.
        let first : one ≡ other = cc in
        let second : found ≡ same = cc in
        λ i. block_at steps place (rows_of (second i) place.block (first i).wanted.items),
  )

  -- a read that didn't fail isn't one that did
  no_fault : (piece : Stream Row) (passed : Outcome Passed) → IsWorkedTo steps.pipe.now piece passed → IsKeptOf steps.pipe.now.breaker passed ReadFault → ⊥
  no_fault piece (Made one) worked kept = kept
  no_fault piece (Ended one fault) worked kept = kept
  no_fault piece ReadFault worked kept = worked

  came_made : (place : BlockPlace) (piece : Stream Row) (made : Outcome Kept) → IsBlock steps bytes place piece → IsMade steps.pipe.now piece made → Came place made
  came_made place piece (Made one) block worked = record { piece = piece; of_block = block; settled = worked; rose = λ is. absurd (cc) }
  came_made place piece (Ended one fault) block worked = record { piece = piece; of_block = block; settled = worked; rose = λ is. absurd (cc) }
  came_made place piece ReadFault block worked = absurd (no_fault piece worked.passed worked.worked worked.kept)

  came_of : (place : BlockPlace) (number : ℕ) (given : BlockRead) (made : Outcome Kept) → slice_get (places_of steps.table.now.files.items) number ≡ Some place
      → All (λ (file : BlockFile). HaveKinds file.head.schema.columns file.wanted.items steps.pipe.now.types) steps.table.now.files.items
      → GivesAt steps.table.now.files.items bytes place given → (given ≡ reads.Failed → Rose before now) → work.IsMadeOf steps number given made → Came place made
  came_of place number (reads.Whole raw) made at kinds (one, is, whole) failed so =
      let columns = one.head.schema.columns in
      let dictionaries : dictionaries_in (slice_get steps.table.now.files.items place.file) ≡ one.head.dictionaries.items = ap dictionaries_in is in
      let block : IsBlock steps bytes place (block_at steps place (rows_with steps place raw)) = λ other also told tells.
      let same : one ≡ other = cc in
      ap (block_at steps place)
      (ap (λ (of : List DictColumn). work.rows_by of raw) dictionaries ∙ sym (whole.rows told tells) ∙ ap (λ (file : BlockFile). rows_of told place.block file.wanted.items) same) in
      came_made place (block_at steps place (rows_with steps place raw)) made block (so place at (kinds_are columns raw.columns.items one.wanted.items steps.pipe.now.types whole.columns (file_kinds steps place.file one is kinds)))
  came_of place number reads.Bad made at kinds (one, is, bad) failed so =
      came_made place (block_at steps place None) made
      (λ other also told tells. let same : one ≡ other = cc in ap (block_at steps place) (sym (bad.rows told tells) ∙ ap (λ (file : BlockFile). rows_of told place.block file.wanted.items) same))
      (so place at)
  came_of place number reads.Failed made at kinds (one, is, any_read) failed so =
      let any = told_stream place one (bytes_of bytes place.file) is refl in
      record { piece = any.0; of_block = any.1; settled = subst (IsSettled steps.pipe.now any.0) (sym so) tt; rose = λ _. failed refl }
  came_of place number reads.Absent made at kinds (one, is, none) failed so = absurd none

  abbrev pub Own : Item (Outcome Kept) → Type 0
  Own out = IsMadeOf (work.IsMadeOf steps) steps.table.now.files.items bytes before now out.number out.value

  came : (place : BlockPlace) (out : Item (Outcome Kept)) → slice_get (places_of steps.table.now.files.items) out.number ≡ Some place
      → All (λ (file : BlockFile). HaveKinds file.head.schema.columns file.wanted.items steps.pipe.now.types) steps.table.now.files.items → Own out → Came place out.value
  came place out at kinds made =
      came_of place out.number made.given out.value at kinds (subst (λ found. GivesFor steps.table.now.files.items bytes found made.given) at made.gives) made.failed made.made_of

  -- the streams of the blocks from a place on
  pub record AllCame (places : List BlockPlace) (outs : List (Item (Outcome Kept))) : Type 0 where
    pub input : List (Stream Row)
    pub of_blocks : AreBlocks steps bytes places input
    pub settled : AreSettled steps.pipe.now input (map (λ (out : Item (Outcome Kept)). out.value) outs)
    pub rose : All (λ (out : Item (Outcome Kept)). out.value ≡ ReadFault → Rose before now) outs

  all_from : (start : ℕ) (rest : List BlockPlace) (outs : List (Item (Outcome Kept))) → ((j : ℕ) → slice_get rest j ≡ slice_get (places_of steps.table.now.files.items) (start + j))
      → All (λ (file : BlockFile). HaveKinds file.head.schema.columns file.wanted.items steps.pipe.now.types) steps.table.now.files.items
      → map (λ (out : Item (Outcome Kept)). out.number) outs ≡ range_with_len start (length rest) → All Own outs → AllCame rest outs
  all_from start [] [] at kinds numbers made = record { input = []; of_blocks = tt; settled = tt; rose = All-nil (λ (out : Item (Outcome Kept)). out.value ≡ ReadFault → Rose before now) }
  all_from start [] (out ∷ outs) at kinds numbers made = absurd (cc)
  all_from start (place ∷ rest) [] at kinds numbers made = absurd (cc)
  all_from start (place ∷ rest) (out ∷ outs) at kinds numbers made =
      let R : Item (Outcome Kept) → Type 0 = λ one. one.value ≡ ReadFault → Rose before now in
      let number : out.number ≡ start = cc in
      let later : map (λ (one : Item (Outcome Kept)). one.number) outs ≡ range_with_len (start + 1) (length rest) = cc in
      let first : start ≡ start + 0 = omega arith in
      let here : slice_get (places_of steps.table.now.files.items) out.number ≡ Some place = ap (slice_get (places_of steps.table.now.files.items)) (number ∙ first) ∙ sym (at 0) in
      let one = came place out here kinds (All-head Own out outs made) in
      let more = all_from (start + 1) rest outs (λ j. let next : start + suc j ≡ start + 1 + j = omega arith in at (suc j) ∙ ap (slice_get (places_of steps.table.now.files.items)) next) kinds later (All-tail Own out outs made) in
      record { input = one.piece ∷ more.input; of_blocks = (one.of_block, more.of_blocks); settled = (one.settled, more.settled); rose = All-cons R out outs one.rose more.rose }

  -- the streams of all blocks
  pub all_came : (places : List BlockPlace) (outs : List (Item (Outcome Kept))) → places ≡ places_of steps.table.now.files.items
      → All (λ (file : BlockFile). HaveKinds file.head.schema.columns file.wanted.items steps.pipe.now.types) steps.table.now.files.items
      → map (λ (out : Item (Outcome Kept)). out.number) outs ≡ range_with_len 0 (length places) → All Own outs → AllCame places outs
  all_came places outs is kinds numbers made =
      all_from 0 places outs (λ j. let same : j ≡ 0 + j = omega arith in ap (λ all. slice_get all j) is ∙ ap (slice_get (places_of steps.table.now.files.items)) same) kinds numbers made

  no_found : (one : Kept) (found : Option (Decided Kept)) → option_map (made_before (one ∷ [])) found ≡ None → found ≡ None
  no_found one None none = refl
  no_found one (Some d) none = absurd (cc)

  rose_at : (value : Outcome Kept) (outs : List (Outcome Kept)) → (value ≡ ReadFault → Rose before now) → (decided outs ≡ None → Rose before now) → decided (value ∷ outs) ≡ None → Rose before now
  rose_at (Made one) outs own later none = later (no_found one (decided outs) none)
  rose_at (Ended one fault) outs own later none = absurd (cc)
  rose_at ReadFault outs own later none = own refl

  -- where no outcomes count, a read failed
  pub rose_of : (outs : List (Item (Outcome Kept))) → All (λ (out : Item (Outcome Kept)). out.value ≡ ReadFault → Rose before now) outs → decided (map (λ (out : Item (Outcome Kept)). out.value) outs) ≡ None → Rose before now
  rose_of [] rose none = absurd (cc)
  rose_of (out ∷ outs) rose none =
      let R : Item (Outcome Kept) → Type 0 = λ one. one.value ≡ ReadFault → Rose before now in
      rose_at out.value (map (λ (one : Item (Outcome Kept)). one.value) outs) (All-head R out outs rose) (rose_of outs (All-tail R out outs rose)) none
