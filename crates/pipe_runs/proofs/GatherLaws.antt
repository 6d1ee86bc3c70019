-- What pipelines gather.
use Rattle.std.proofs.Common.{◌≡◌, ◌∙◌, List, [], ◌∷◌, ◌++◌, sym, ap, subst}
use Rattle.std.proofs.lemmas.List.{map_push}
use Rattle.std.specs.List.{All}
use Rattle.sub_types.specs.declared.kind.Ty.{Ty}
use Rattle.batch.specs.declared.batch.Piece.{Piece}
use Rattle.batch.specs.BatchRows.{types_of}
use Rattle.plan_pipes.specs.RowMeaning.{Table}
use Rattle.pipe_steps.specs.Ready.{IsFit}
use Rattle.pipe_steps.specs.Tables.{table_seen, tables_seen}
use Rattle.pipe_steps.specs.declared.built.BuiltTable.{BuiltTable}
use Rattle.pipe_feeds.specs.Kept.{IsInput}

-- pieces that are stored with types by another name
pub input_as : (types other : List Ty) (pieces : List Piece) → types ≡ other → All (λ (piece : Piece). types_of piece.batch ≡ other) pieces → All (λ (piece : Piece). IsFit piece.batch) pieces → IsInput types pieces
input_as types other pieces same typed fit = subst (λ (own : List Ty). IsInput own pieces) (sym same) (record { typed = typed; fit = fit })

-- one table more
pub tables_more : (old mid new : List BuiltTable) (built : BuiltTable) (table : Table) → mid ≡ old → new ≡ mid ++ built ∷ [] → table_seen built ≡ table → tables_seen new ≡ tables_seen old ++ table ∷ []
tables_more old mid new built table stay pushed same =
    ap tables_seen (pushed ∙ ap (λ (all : List BuiltTable). all ++ built ∷ []) stay) ∙ map_push table_seen old built ∙ ap (λ (one : Table). tables_seen old ++ one ∷ []) same
