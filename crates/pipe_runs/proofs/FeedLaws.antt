-- The parts of what comes through steps, by what feeds them.
use Rattle.std.proofs.Common.{◌≡◌, ◌∙◌, ℕ, List, [], map, slice_index_or, sym, ap, ap₂, subst}
use Rattle.sub_types.specs.declared.kind.Ty.{Ty}
use Rattle.sub_types.specs.Stream.{Stream, rows_alone}
use Rattle.plan_typed.specs.declared.rel.SetOp.{SetOp}
use Rattle.plan_denote.specs.Rows.{Row}
use Rattle.plan_denote.specs.Sets.{set_rows}
use Rattle.plan_pipes.specs.declared.pipe.Breaker.{Breaker}
use Rattle.plan_pipes.specs.declared.pipe.Feed.{Feed}
use Rattle.plan_pipes.specs.declared.pipe.Feed.TheVariants as feeds
use Rattle.plan_pipes.specs.declared.pipe.Step.{Step}
use Rattle.plan_pipes.specs.Run.{through}
use Rattle.plan_pipes.specs.RowMeaning.{Table, row_steps}
use Rattle.pipe_steps.specs.Tables.{tables_seen}
use Rattle.pipe_steps.specs.declared.built.BuiltTable.{BuiltTable}
use Rattle.cut_laws.specs.Found.{ReadRel}
use Rattle.fed_laws.specs.Fed.{IsReadAt}
use Rattle.open_blocks.specs.Files.{FilesSeen}
use Rattle.pipe_feeds.specs.Kept.{AreStreams}
use Rattle.pipe_feeds.specs.declared.stores.Stores.{Stores}
use Rattle.pipe_flows.specs.Inputs.{Part, ArePartsOf, told_by}
use Rattle.pipe_runs.specs.Stands.{FlowsFrom}

module _ (files : List FilesSeen) (reads : List ReadRel) (feed : Feed) (steps : List Step) (breaker : Breaker) (stores : Stores) (stored : List Ty) (parts : List Part) where
  -- these are parts of rows by another name
  parts_of : (rows other : Stream Row) → rows ≡ other → ArePartsOf breaker stored rows parts → ArePartsOf breaker stored other parts
  parts_of rows other same are = subst (λ (all : Stream Row). ArePartsOf breaker stored all parts) same are

  pub read_flows : (relation : ℕ) (own : List BuiltTable) (input : Stream Row) → feed ≡ feeds.Read relation → own ≡ stores.tables.items → IsReadAt (told_by files) reads relation input
      → ArePartsOf breaker stored (through row_steps (tables_seen own) steps input) parts → FlowsFrom files reads feed steps breaker stores stored parts
  read_flows relation own input is same read are = subst (λ (one : Feed). FlowsFrom files reads one steps breaker stores stored parts) (sym is) (record {
    given = input;
    fed_by = read;
    rows = λ inputs feeds past stands.
        parts_of (through row_steps (tables_seen own) steps input) (through row_steps past.tables steps (inputs relation))
        (ap (λ (all : List BuiltTable). through row_steps (tables_seen all) steps input) same ∙ ap₂ (λ (tables : List Table) (s : Stream Row). through row_steps tables steps s) stands.tables (sym feeds)) are;
  })

  pub stored_flows : (at : ℕ) → feed ≡ feeds.Pipe at
      → ((streams : List (Stream Row)) → AreStreams streams stores.streams.items → ArePartsOf breaker stored (through row_steps (tables_seen stores.tables.items) steps (slice_index_or streams at (rows_alone []))) parts)
      → FlowsFrom files reads feed steps breaker stores stored parts
  stored_flows at is rows = subst (λ (one : Feed). FlowsFrom files reads one steps breaker stores stored parts) (sym is) (record {
    given = rows_alone [];
    fed_by = tt;
    rows = λ inputs feeds past stands.
        let stream = slice_index_or past.streams at (rows_alone []) in
        parts_of (through row_steps (tables_seen stores.tables.items) steps stream) (through row_steps past.tables steps stream)
        (ap (λ (tables : List Table). through row_steps tables steps stream) stands.tables) (rows past.streams stands.streams);
  })

  pub set_flows : (op : SetOp) (pipes own : List ℕ) (types : List Ty) → feed ≡ feeds.Set op pipes types → own ≡ pipes
      → ((streams : List (Stream Row)) → AreStreams streams stores.streams.items → ArePartsOf breaker stored (through row_steps (tables_seen stores.tables.items) steps (set_rows op (map (λ at. slice_index_or streams at (rows_alone [])) own))) parts)
      → FlowsFrom files reads feed steps breaker stores stored parts
  set_flows op pipes own types is same rows = subst (λ (one : Feed). FlowsFrom files reads one steps breaker stores stored parts) (sym is) (record {
    given = rows_alone [];
    fed_by = tt;
    rows = λ inputs feeds past stands.
        let given : List ℕ → Stream Row = λ places. set_rows op (map (λ at. slice_index_or past.streams at (rows_alone [])) places) in
        parts_of (through row_steps (tables_seen stores.tables.items) steps (given own)) (through row_steps past.tables steps (given pipes))
        (ap (λ (places : List ℕ). through row_steps (tables_seen stores.tables.items) steps (given places)) same ∙ ap (λ (tables : List Table). through row_steps tables steps (given pipes)) stands.tables)
        (rows past.streams stands.streams);
  })
