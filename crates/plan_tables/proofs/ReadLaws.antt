-- The tables of read relations, one after another.
use Rattle.std.proofs.Common.{◌≡◌, ◌∙◌, ℕ, ◌==◌, cond, List, [], ◌∷◌, ◌++◌, map, None, Some, Result, Ok, Err, OnOk, OnErr, Option, append_assoc, refl, sym, ap, subst}
use Rattle.std.specs.List.{All, AllZip, flat_map}
use Rattle.std.proofs.lemmas.List.{append-nil}
use Rattle.std.proofs.lemmas.List.Elements.{All-head, All-tail, All-append}
use Rattle.sub_types.specs.declared.fault.Fault.{Fault}
use Rattle.sub_types.specs.declared.kind.Ty.{Ty}
use Rattle.sub_types.specs.Stream.{glue, each}
use Rattle.batch.specs.declared.batch.Batch.{Batch}
use Rattle.row_engine.specs.declared.tables.Table.{Table}
use Rattle.row_engine.specs.Tables.{table_stream, tables_seen}
use Rattle.table_open.specs.Files.{TableFile}
use Rattle.table_rows.specs.Read.{read_row}
use Rattle.table_rows.specs.Blocks.{HoldsTypes, AddsBatches}
use Rattle.world.specs.declared.error.FolderError.{FolderError}
use Rattle.plan_tables.specs.declared.open.OpenRead.{OpenRead}
use Rattle.plan_tables.specs.declared.read.TableEnd.TheVariants.{Whole, Faulty}
use Rattle.plan_tables.specs.Open.{table_seen, open_seen, AreTold, AllTold}
use Rattle.plan_tables.specs.Read.{files_stream, HasRead, IsTableFault, IsTableOf, IsReadOf, AddsTables}
use Rattle.plan_tables.proofs.CountLaws.{flat}
use Rattle.plan_tables.specs.Tables.{blocks_of, stream_in, tested_in, tested_tables}

-- the rows of a read relation are those of all its files
pub tested_is : {R : Type 0} (bytes : R → Option (List ℕ)) (one : OpenRead R) → tested_in (open_seen bytes one) ≡ files_stream one.read.relation one.read.types (flat_map (table_seen bytes) one.tables.items)
unfolding tested_in stream_in files_stream
tested_is bytes one = ap (λ (files : List TableFile). each (read_row one.read.relation one.read.types) (glue (flat_map (blocks_of one.read.relation) files))) (flat (table_seen bytes) one.tables.items)

-- all rows were read
pub whole_read : {R : Type 0} (bytes : R → Option (List ℕ)) (one : OpenRead R) (batches : List Batch)
    → (AreTold bytes one.tables.items → HasRead one.read.relation one.read.types (flat_map (table_seen bytes) one.tables.items) batches Whole)
    → All (HoldsTypes one.read.types) batches
    → IsReadOf bytes one (record { relation = one.read.relation; batches = batches; end = None })
whole_read bytes one batches has typed = record {
  table_of = record { relation = refl; typed = typed; fault = tt };
  rows = λ told. sym (tested_is bytes one ∙ has told);
}

-- those up to a fault
pub faulty_read : {R : Type 0} (bytes : R → Option (List ℕ)) (one : OpenRead R) (batches : List Batch) (fault : Fault)
    → (AreTold bytes one.tables.items → HasRead one.read.relation one.read.types (flat_map (table_seen bytes) one.tables.items) batches (Faulty fault))
    → All (HoldsTypes one.read.types) batches → IsTableFault one.read.relation fault
    → IsReadOf bytes one (record { relation = one.read.relation; batches = batches; end = Some fault })
faulty_read bytes one batches fault has typed is_fault = record {
  table_of = record { relation = refl; typed = typed; fault = is_fault };
  rows = λ told. sym (tested_is bytes one ∙ has told);
}

-- more batches of the types
pub typed_more : (types : List Ty) (old new : List Batch) → AddsBatches types old new → All (HoldsTypes types) old → All (HoldsTypes types) new
typed_more types old new adds typed = subst (All (HoldsTypes types)) (sym adds.added) (All-append (HoldsTypes types) old adds.more typed adds.typed)

zip-append : {A B : Type 0} (R : A → B → Type 0) (xs more_xs : List A) (ys more_ys : List B) → AllZip R xs ys → AllZip R more_xs more_ys → AllZip R (xs ++ more_xs) (ys ++ more_ys)
zip-append R [] more_xs [] more_ys h more = more
zip-append R [] more_xs (y ∷ ys) more_ys h more = absurd h
zip-append R (x ∷ xs) more_xs [] more_ys h more = absurd h
zip-append R (x ∷ xs) more_xs (y ∷ ys) more_ys h more = (h.0, zip-append R xs more_xs ys more_ys h.1 more)

module _ {R : Type 0} (bytes : R → Option (List ℕ)) where
  -- one table more
  pub adds_one : (one : OpenRead R) (table : Table) (old new : List Table) → new ≡ old ++ table ∷ [] → IsReadOf bytes one table → AddsTables bytes (one ∷ []) old new
  adds_one one table old new pushed read = record { more = table ∷ []; added = pushed; each_read = (read, tt) }

  adds_none : (old : List Table) → AddsTables bytes [] old old
  adds_none old = record { more = []; added = sym (append-nil old); each_read = tt }

  adds_more : (done next : List (OpenRead R)) (old mid new : List Table) → AddsTables bytes done old mid → AddsTables bytes next mid new → AddsTables bytes (done ++ next) old new
  adds_more done next old mid new first second = record {
    more = first.more ++ second.more;
    added = second.added ∙ ap (λ front. front ++ second.more) first.added ∙ append_assoc old first.more second.more;
    each_read = zip-append (IsReadOf bytes) done next first.more second.more first.each_read second.each_read;
  }

  -- of these read relations some were read, unless that failed, and these are left
  pub record TablesSoFar (all left : List (OpenRead R)) (old new : List Table) (so_far : Result (Unit {0}) FolderError) : Type 0 where
    pub done : List (OpenRead R)
    pub split : all ≡ done ++ left
    pub has : OnOk so_far (AddsTables bytes done old new)

  pub none_so_far : (all : List (OpenRead R)) (old : List Table) → TablesSoFar all all old old (Ok tt)
  none_so_far all old = record { done = []; split = refl; has = adds_none old }

  has_more : (done : List (OpenRead R)) (one : OpenRead R) (old mid new : List Table) (so_far after : Result (Unit {0}) FolderError)
      → OnOk so_far (AddsTables bytes done old mid) → OnErr so_far (after ≡ so_far) → OnOk after (AddsTables bytes (one ∷ []) mid new)
      → OnOk after (AddsTables bytes (done ++ one ∷ []) old new)
  has_more done one old mid new so_far (Err e) has stays read = tt
  has_more done one old mid new (Err e) (Ok u) has stays read = absurd (cc)
  has_more done one old mid new (Ok v) (Ok u) has stays read = adds_more done (one ∷ []) old mid new has read

  -- one read relation more
  pub one_so_far : (all left : List (OpenRead R)) (one : OpenRead R) (rest : List (OpenRead R)) (old mid new : List Table) (so_far after : Result (Unit {0}) FolderError)
      → left ≡ one ∷ rest → TablesSoFar all left old mid so_far → OnErr so_far (after ≡ so_far) → OnOk after (AddsTables bytes (one ∷ []) mid new)
      → TablesSoFar all rest old new after
  one_so_far all left one rest old mid new so_far after next before stays read = record {
    done = before.done ++ one ∷ [];
    split = before.split ∙ ap (λ (l : List (OpenRead R)). before.done ++ l) next ∙ sym (append_assoc before.done (one ∷ []) rest);
    has = has_more before.done one old mid new so_far after before.has stays read;
  }

  -- all were read
  pub all_so_far : (all left : List (OpenRead R)) (old new : List Table) (so_far : Result (Unit {0}) FolderError) → left ≡ [] → TablesSoFar all left old new so_far
      → OnOk so_far (AddsTables bytes all old new)
  all_so_far all left old new so_far none before =
      subst (λ (done : List (OpenRead R)). OnOk so_far (AddsTables bytes done old new)) (sym (before.split ∙ ap (λ (l : List (OpenRead R)). before.done ++ l) none ∙ append-nil before.done)) before.has

  pub all_read_of : (opened : List (OpenRead R)) (old tables : List Table) → old ≡ [] → AddsTables bytes opened old tables → AllZip (IsReadOf bytes) opened tables
  all_read_of opened old tables empty adds = subst (AllZip (IsReadOf bytes) opened) (sym (adds.added ∙ ap (λ (front : List Table). front ++ adds.more) empty)) adds.each_read

  -- the tables have the numbers of the read relations
  pub same_relations : (opened : List (OpenRead R)) (tables : List Table) → AllZip (IsReadOf bytes) opened tables → map (λ (table : Table). table.relation) tables ≡ map (λ (one : OpenRead R). one.read.relation) opened
  same_relations [] [] h = refl
  same_relations [] (table ∷ tables) h = absurd h
  same_relations (one ∷ opened) [] h = absurd h
  same_relations (one ∷ opened) (table ∷ tables) h =
      ap (λ (n : ℕ). n ∷ map (λ (t : Table). t.relation) tables) h.0.table_of.relation ∙ ap (λ (l : List ℕ). one.read.relation ∷ l) (same_relations opened tables h.1)

  -- and their types
  pub same_types : (opened : List (OpenRead R)) (tables : List Table) → AllZip (IsReadOf bytes) opened tables → AllZip IsTableOf (map (λ (one : OpenRead R). one.read) opened) tables
  same_types [] [] h = tt
  same_types [] (table ∷ tables) h = absurd h
  same_types (one ∷ opened) [] h = absurd h
  same_types (one ∷ opened) (table ∷ tables) h = (h.0.table_of, same_types opened tables h.1)

  -- and their rows
  pub same_rows : (opened : List (OpenRead R)) (tables : List Table) → AllZip (IsReadOf bytes) opened tables → AllTold bytes opened → (relation : ℕ)
      → tables_seen tables relation ≡ tested_tables (map (open_seen bytes) opened) relation
  same_rows [] [] h told relation = refl
  same_rows [] (table ∷ tables) h told relation = absurd h
  same_rows (one ∷ opened) [] h told relation = absurd h
  same_rows (one ∷ opened) (table ∷ tables) h told relation =
      let tells : OpenRead R → Type 0 = λ o. AreTold bytes o.tables.items in
      let here = h.0.rows (All-head tells one opened told) in
      let later = same_rows opened tables h.1 (All-tail tells one opened told) relation in
      ap (λ (n : ℕ). cond (n == relation) (table_stream table) (tables_seen tables relation)) h.0.table_of.relation
      ∙ ap (λ s. cond (one.read.relation == relation) s (tables_seen tables relation)) here
      ∙ ap (λ s. cond (one.read.relation == relation) (tested_in (open_seen bytes one)) s) later
