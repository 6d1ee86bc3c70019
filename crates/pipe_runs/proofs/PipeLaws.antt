-- One pipeline: what stands after it.
use Rattle.std.proofs.Common.{◌≡◌, ◌∙◌, ℕ, List, [], ◌∷◌, ◌++◌, Option, sym, ap, ap₂, subst}
use Rattle.sub_types.specs.declared.kind.Ty.{Ty}
use Rattle.sub_types.specs.Stream.{Stream}
use Rattle.rel_specs.specs.declared.join.JoinSpec.{JoinSpec}
use Rattle.plan_denote.specs.Denote.{Tables}
use Rattle.plan_denote.specs.Rows.{Row}
use Rattle.set_rels.specs.Inputs.{stream_of}
use Rattle.plan_pipes.specs.declared.pipe.Pipe.{Pipe}
use Rattle.plan_pipes.specs.Run.{Past, after, built, flow}
use Rattle.plan_pipes.specs.RowMeaning.{Table, gathered, rows_over}
use Rattle.pipe_types.specs.Exact.{exact_over, gathered_types}
use Rattle.pipe_types.specs.Over.{IsBreakerOver}
use Rattle.pipe_steps.specs.Tables.{joins_of, tables_seen}
use Rattle.pipe_steps.specs.declared.built.BuiltTable.{BuiltTable}
use Rattle.pipe_flows.specs.Inputs.{Part, ArePartsOf}
use Rattle.pipe_feeds.specs.Kept.{AreStreams, AreTypedAs, IsInput, IsLeft}
use Rattle.cut_laws.specs.Found.{ReadRel}
use Rattle.open_blocks.specs.Files.{FilesSeen}
use Rattle.pipe_runs.specs.Stands.{FlowsFrom, HasRunPipe, IsPipeOn, StandsFor, types_in}
use Rattle.pipe_feeds.specs.declared.stores.Stores.{Stores}
use Rattle.pipe_feeds.proofs.KeptLaws.{kept_left}

module _ (old mid : Stores) (pipe : Pipe) (left : IsLeft old.streams.items mid.streams.items) (types_stay : mid.types.items ≡ old.types.items) (tables_stay : mid.tables.items ≡ old.tables.items) where
  -- what stands before the breaker is typed as it was
  pub mid_typed : AreTypedAs old.types.items old.streams.items → AreTypedAs mid.types.items mid.streams.items
  mid_typed typed = rw types_stay (kept_left IsInput old.types.items old.streams.items mid.streams.items typed left)

  pub breaker_on : (columns : ℕ → List Ty) (given : List Ty) → given ≡ flow (exact_over columns) (types_in old) pipe.feed pipe.steps → IsPipeOn columns (types_in old) pipe → IsBreakerOver given pipe.breaker
  breaker_on columns given is over = subst (λ (types : List Ty). IsBreakerOver types pipe.breaker) (sym is) over.breaker

  pub types_after : (columns : ℕ → List Ty) (new : Stores) (given : List Ty) → given ≡ flow (exact_over columns) (types_in old) pipe.feed pipe.steps
      → new.types.items ≡ mid.types.items ++ gathered_types pipe.breaker given ∷ [] → joins_of new.tables.items ≡ joins_of mid.tables.items ++ built (exact_over columns) pipe.breaker given
      → types_in new ≡ after (exact_over columns) (types_in old) pipe
  types_after columns new given is types joins =
      ap₂ (λ (streams : List (List Ty)) (tables : List (Option JoinSpec)). record { streams = streams; tables = tables })
      (types ∙ ap₂ (λ (all : List (List Ty)) (one : List Ty). all ++ gathered_types pipe.breaker one ∷ []) types_stay is)
      (joins ∙ ap₂ (λ (all : List BuiltTable) (one : List Ty). joins_of all ++ built (exact_over columns) pipe.breaker one) tables_stay is)

  module _ (new : Stores) (types : List Ty) (parts : List Part)
      (rows_close : (rows : Stream Row) → ArePartsOf pipe.breaker types rows parts → (streams : List (Stream Row)) → AreStreams streams mid.streams.items → AreStreams (streams ++ gathered pipe.breaker rows ∷ []) new.streams.items)
      (tables_close : (rows : Stream Row) → ArePartsOf pipe.breaker types rows parts → (inputs : Tables) → tables_seen new.tables.items ≡ tables_seen mid.tables.items ++ built (rows_over inputs) pipe.breaker rows) where
    rows_after : (inputs : Tables) (past : Past (Stream Row) Table) → StandsFor past old → ArePartsOf pipe.breaker types (flow (rows_over inputs) past pipe.feed pipe.steps) parts → StandsFor (after (rows_over inputs) past pipe) new
    rows_after inputs past stands are =
        let given = flow (rows_over inputs) past pipe.feed pipe.steps in
        record {
          streams = rows_close given are past.streams (kept_left (λ stream pieces. stream_of pieces ≡ stream) past.streams old.streams.items mid.streams.items stands.streams left);
          tables =
              tables_close given are inputs ∙ ap (λ (all : List BuiltTable). tables_seen all ++ built (rows_over inputs) pipe.breaker given) tables_stay
              ∙ ap (λ (all : List Table). all ++ built (rows_over inputs) pipe.breaker given) stands.tables;
        }

    -- what fed it gives what it gathers
    pub ran_pipe : (files : List FilesSeen) (reads : List ReadRel) → FlowsFrom files reads pipe.feed pipe.steps pipe.breaker old types parts → HasRunPipe files reads pipe old new
    ran_pipe files reads flows = record {
      given = flows.given;
      fed_by = flows.fed_by;
      stands = λ inputs feeds past stands. rows_after inputs past stands (flows.rows inputs feeds past stands);
    }
