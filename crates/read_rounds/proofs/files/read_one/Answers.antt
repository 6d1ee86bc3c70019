use Rattle.std.proofs.Common.{◌≡◌, ℕ, List, map, subst}
use Rattle.std.specs.Prelude.{IfOk}
use Rattle.sub_types.specs.Stream.{Stream}
use Rattle.plan_denote.specs.Rows.{Row}
use Rattle.open_blocks.specs.Files.{AllTell, stream_in}
use Rattle.read_rounds.specs.Given.{ArePartsThrough}
use Rattle.read_rounds.specs.Told.{parts_seen}
use Rattle.read_rounds.specs.declared.round.FeedRound.{FeedRound}
use Rattle.read_rounds.proofs.OpenLaws.{blocks_counted, open_count, open_numbers, parts_stay}
use Rattle.read_rounds.proofs.files.read_one.Goals as goal

pub read_parts-requires-clause-numbers : goal.read_parts-requires-clause-numbers
read_parts-requires-clause-numbers g c κs within = open_numbers g.R.Reader.bytes c.args.pipe.now.types c.args.one.now c.requires.open c.deref.result.now c.deref.ensures.value

pub read_parts-requires-clause-count : goal.read_parts-requires-clause-count
read_parts-requires-clause-count g c κs within = open_count g.R.Reader.bytes c.args.pipe.now.types c.args.one.now c.requires.open

pub read_parts-requires-clause-heads : goal.read_parts-requires-clause-heads
read_parts-requires-clause-heads g c κs within = c.requires.open.heads

pub read_parts-requires-clause-kinds : goal.read_parts-requires-clause-kinds
read_parts-requires-clause-kinds g c κs within = c.requires.open.kinds

pub returns-clause-batches : goal.returns-clause-batches
returns-clause-batches g c =
    subst (λ (n : ℕ). IfOk c.read_parts.result (λ (r : FeedRound). r.batches ≡ n)) (blocks_counted g.R.Reader.bytes c.args.pipe.now.types c.args.one.now c.requires.open) c.read_parts.ensures.batches

pub returns-clause-parts : goal.returns-clause-parts
returns-clause-parts g c =
    let one = c.args.one.now in
    let pipe = c.args.pipe.now in
    let bytes = map g.R.Reader.bytes one.readers.items in
    subst
    (λ (numbers : List ℕ). IfOk c.read_parts.result (λ (r : FeedRound). (given : Stream Row) × (AllTell bytes → given ≡ stream_in (parts_seen one.relation one.blocks.files.items numbers bytes))
    × ArePartsThrough pipe given r.parts.items))
    c.deref.ensures.value c.read_parts.ensures.parts

pub returns-clause-seen : goal.returns-clause-seen
returns-clause-seen g c =
    let one = c.args.one.now in
    parts_stay one.relation one.blocks.files.items one.numbers.items (map g.R.Reader.bytes one.readers.items) (map g.R.Reader.bytes c.read_parts.new.readers.items) c.read_parts.ensures.bytes
