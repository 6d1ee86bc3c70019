-- The rows of a file, block by block.
use Rattle.std.proofs.Common.{◌≡◌, ◌∙◌, ℕ, zero, suc, ◌+◌, ◌<◌, ◌≤◌, ◌-◌, List, [], ◌∷◌, ◌++◌, map, true, false, Option, Some, None, is_some, add-zero, refl, sym, ap, arith}
use Rattle.std.specs.List.{range_with_len, flat_map}
use Rattle.std.proofs.lemmas.List.{append-nil, append_assoc}
use Rattle.std.proofs.lemmas.List.Concat.{flat_map-append}
use Rattle.std.proofs.lemmas.List.Elements.{All-push, All-nil}
use Rattle.std.proofs.lemmas.List.FromFn.{map-range_with_len_more}
use Rattle.sub_types.specs.Stream.{Stream, rows_alone, followed_by, glue, stream_of, each}
use Rattle.sub_types.specs.declared.fault.Fault.{Fault}
use Rattle.sub_types.specs.declared.kind.Ty.{Ty}
use Rattle.sub_types.specs.declared.value.Value.{Value}
use Rattle.sub_types.proofs.StreamLaws.{glue-append, each_stream-followed_by}
use Rattle.arrow_meta.specs.Table as table
use Rattle.batch.specs.declared.batch.Batch.{Batch}
use Rattle.batch.specs.BatchRows.{rows_of}
use Rattle.table_rows.specs.Read.{read_row}
use Rattle.table_rows.specs.Blocks.{block_stream, file_streams, file_stream, HoldsTypes, AddsBatches}

-- the rows of one block
abbrev pub block_rows : ℕ → ℕ → List Ty → List ℕ → List ℕ → ℕ → Stream (List Value)
block_rows relation file types bytes wanted block = each (read_row relation types) (block_stream relation file block (table.rows_of bytes block wanted))

alone_parts : {R : Type 0} (rows : List R) (end : Option Fault) → followed_by (record { rows = rows; end = end }) (rows_alone []) ≡ record { rows = rows; end = end }
alone_parts rows None = ap rows_alone (append-nil rows)
alone_parts rows (Some fault) = refl

glue_of_one : {R : Type 0} (s : Stream R) → glue (s ∷ []) ≡ s
glue_of_one s = alone_parts s.rows s.end

-- no block
pub file_stream-none : (relation file : ℕ) (types : List Ty) (bytes wanted : List ℕ) → file_stream relation file types bytes 0 wanted ≡ rows_alone []
unfolding file_stream file_streams
file_stream-none relation file types bytes wanted = refl

-- one block more
pub file_stream-more : (relation file : ℕ) (types : List Ty) (bytes wanted : List ℕ) (i : ℕ)
    → file_stream relation file types bytes (i + 1) wanted ≡ followed_by (file_stream relation file types bytes i wanted) (block_rows relation file types bytes wanted i)
unfolding file_stream file_streams
file_stream-more relation file types bytes wanted i =
    let block : ℕ → Stream (List Value) = λ k. block_stream relation file k (table.rows_of bytes k wanted) in
    let before = map block (range_with_len 0 i) in
    ap (λ streams. each (read_row relation types) (glue streams)) (map-range_with_len_more block 0 i i (omega arith))
    ∙ ap (each (read_row relation types)) (glue-append before (block i ∷ []) ∙ ap (followed_by (glue before)) (glue_of_one (block i)))
    ∙ each_stream-followed_by (λ row. stream_of (read_row relation types row)) (glue before) (block i)

followed_parts : {R : Type 0} (rows : List R) (end : Option Fault) (fault : Fault) (rest : Stream R) → end ≡ Some fault → followed_by (record { rows = rows; end = end }) rest ≡ record { rows = rows; end = end }
followed_parts rows None fault rest h = absurd (cc)
followed_parts rows (Some one) fault rest h = refl

-- nothing follows a fault
followed_by-ended : {R : Type 0} (s rest : Stream R) (fault : Fault) → s.end ≡ Some fault → followed_by s rest ≡ s
followed_by-ended s rest fault h = followed_parts s.rows s.end fault rest h

stays : (relation file : ℕ) (types : List Ty) (bytes wanted : List ℕ) (i extra : ℕ) (fault : Fault) → (file_stream relation file types bytes i wanted).end ≡ Some fault
    → file_stream relation file types bytes (i + extra) wanted ≡ file_stream relation file types bytes i wanted
stays relation file types bytes wanted i zero fault h = ap (λ n. file_stream relation file types bytes n wanted) (add-zero i)
stays relation file types bytes wanted i (suc extra) fault h =
    let next : i + suc extra ≡ i + extra + 1 = omega arith in
    let before = stays relation file types bytes wanted i extra fault h in
    ap (λ n. file_stream relation file types bytes n wanted) next ∙ file_stream-more relation file types bytes wanted (i + extra)
    ∙ ap (λ s. followed_by s (block_rows relation file types bytes wanted (i + extra))) before
    ∙ followed_by-ended (file_stream relation file types bytes i wanted) (block_rows relation file types bytes wanted (i + extra)) fault h

-- the blocks behind a fault aren't read
pub file_stream-stays : (relation file : ℕ) (types : List Ty) (bytes wanted : List ℕ) (i n : ℕ) (fault : Fault) → i ≤ n → (file_stream relation file types bytes i wanted).end ≡ Some fault
    → file_stream relation file types bytes n wanted ≡ file_stream relation file types bytes i wanted
file_stream-stays relation file types bytes wanted i n fault within h =
    let whole : n ≡ i + (n - i) = omega arith in
    ap (λ m. file_stream relation file types bytes m wanted) whole ∙ stays relation file types bytes wanted i (n - i) fault h

follows_parts : {R : Type 0} (rows : List R) (end : Option Fault) (rest : Stream R) → end ≡ None → followed_by (record { rows = rows; end = end }) rest ≡ record { rows = rows ++ rest.rows; end = rest.end }
follows_parts rows None rest h = refl
follows_parts rows (Some fault) rest h = absurd (cc)

-- the blocks so far without a fault, and the rows of one more
pub file_stream-step : (relation file : ℕ) (types : List Ty) (bytes wanted : List ℕ) (i : ℕ) (more : Stream (List Value)) → (file_stream relation file types bytes i wanted).end ≡ None
    → more ≡ block_rows relation file types bytes wanted i
    → file_stream relation file types bytes (i + 1) wanted ≡ record { rows = (file_stream relation file types bytes i wanted).rows ++ more.rows; end = more.end }
file_stream-step relation file types bytes wanted i more none is =
    let before = file_stream relation file types bytes i wanted in
    file_stream-more relation file types bytes wanted i ∙ ap (followed_by before) (sym is) ∙ follows_parts before.rows before.end more none

-- the rows of one batch more
pub rows-push : (old new : List Batch) (batch : Batch) (rows : List (List Value)) → flat_map rows_of new ≡ flat_map rows_of old ++ rows
    → flat_map rows_of (new ++ batch ∷ []) ≡ flat_map rows_of old ++ (rows ++ rows_of batch)
rows-push old new batch rows so_far =
    flat_map-append rows_of new (batch ∷ []) ∙ ap (λ front. front ++ flat_map rows_of (batch ∷ [])) so_far
    ∙ ap (λ back. flat_map rows_of old ++ rows ++ back) (append-nil (rows_of batch)) ∙ append_assoc (flat_map rows_of old) rows (rows_of batch)

-- one batch more
pub AddsBatches-push : (types : List Ty) (old new : List Batch) (batch : Batch) → AddsBatches types old new → HoldsTypes types batch → AddsBatches types old (new ++ batch ∷ [])
AddsBatches-push types old new batch adds holds = record {
  more = adds.more ++ batch ∷ [];
  added = ap (λ front. front ++ batch ∷ []) adds.added ∙ append_assoc old adds.more (batch ∷ []);
  typed = All-push (HoldsTypes types) adds.more batch adds.typed holds;
}

pub AddsBatches-none : (types : List Ty) (old : List Batch) → AddsBatches types old old
AddsBatches-none types old = record { more = []; added = sym (append-nil old); typed = All-nil (HoldsTypes types) }

pub is_none : (end : Option Fault) → false ≡ is_some end → end ≡ None
is_none None h = refl
is_none (Some fault) h = absurd (cc)

has_fault : (end : Option Fault) → true ≡ is_some end → (fault : Fault) × (end ≡ Some fault)
has_fault None h = absurd (cc)
has_fault (Some fault) h = (fault, refl)

-- the first block with a fault ends the file
pub file_stream-stops : (relation file : ℕ) (types : List Ty) (bytes wanted : List ℕ) (i n : ℕ) (more : Stream (List Value)) → i < n → (file_stream relation file types bytes i wanted).end ≡ None
    → more ≡ block_rows relation file types bytes wanted i → true ≡ is_some more.end
    → file_stream relation file types bytes n wanted ≡ record { rows = (file_stream relation file types bytes i wanted).rows ++ more.rows; end = more.end }
file_stream-stops relation file types bytes wanted i n more within none is ends =
    let step = file_stream-step relation file types bytes wanted i more none is in
    let fault = has_fault more.end ends in
    file_stream-stays relation file types bytes wanted (i + 1) n fault.0 (omega arith) (ap (λ (s : Stream (List Value)). s.end) step ∙ fault.1) ∙ step
