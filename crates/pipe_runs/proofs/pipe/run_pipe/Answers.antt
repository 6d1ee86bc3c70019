use Rattle.std.proofs.Common.{map}
use Rattle.open_blocks.specs.Files.{files_seen}
use Rattle.pipe_flows.specs.Inputs.{columns_of, reads_seen}
use Rattle.pipe_runs.proofs.PipeLaws.{breaker_on, mid_typed, ran_pipe, types_after}
use Rattle.pipe_runs.proofs.pipe.run_pipe.Goals as goal

pub close_pipe-requires-clause-over : goal.close_pipe-requires-clause-over
close_pipe-requires-clause-over g c =
    let flows = c.in_ok-through.ensures in
    breaker_on c.args.stores.now c.flow_pipe.new.stores c.args.pipe flows.left flows.types flows.tables (columns_of (reads_seen c.args.reads.now)) c.in_ok-through.through.types.items flows.stored c.requires.over

pub close_pipe-requires-clause-parts : goal.close_pipe-requires-clause-parts
close_pipe-requires-clause-parts g c = c.in_ok-through.ensures.parts

pub close_pipe-requires-clause-typed : goal.close_pipe-requires-clause-typed
close_pipe-requires-clause-typed g c =
    let flows = c.in_ok-through.ensures in
    mid_typed c.args.stores.now c.flow_pipe.new.stores c.args.pipe flows.left flows.types flows.tables c.requires.typed

pub returns-clause-types : goal.returns-clause-types
returns-clause-types g c =
    let flows = c.in_ok-through.ensures in
    let closes = c.in_ok-close_pipe.ensures in
    let columns = columns_of (reads_seen c.args.reads.now) in
    types_after c.args.stores.now c.flow_pipe.new.stores c.args.pipe flows.left flows.types flows.tables columns c.close_pipe.new.stores c.in_ok-through.through.types.items flows.stored closes.types (closes.joins columns)

pub returns-clause-rows : goal.returns-clause-rows
returns-clause-rows g c =
    let flows = c.in_ok-through.ensures in
    let closes = c.in_ok-close_pipe.ensures in
    ran_pipe c.args.stores.now c.flow_pipe.new.stores c.args.pipe flows.left flows.types flows.tables c.close_pipe.new.stores c.in_ok-through.through.types.items c.in_ok-through.through.parts.items closes.rows closes.tables
    (map (files_seen g.R.Reader.bytes) c.args.files.now.items) (reads_seen c.args.reads.now) flows.rows
