use Rattle.std.proofs.Common.{◌≡◌, ◌∙◌, ℕ, Option, sym, ap, subst}
use Rattle.std.proofs.lemmas.Result.{on_ok_weaker}
use Rattle.std.specs.Prelude.{IfOk}
use Rattle.sub_types.specs.Stream.{Stream}
use Rattle.plan_denote.specs.Rows.{Row}
use Rattle.crew_round.proofs.Giving.{set_map}
use Rattle.open_blocks.specs.Files.{FilesSeen, files_seen}
use Rattle.read_rounds.specs.Given.{ArePartsThrough}
use Rattle.read_rounds.specs.Told.{TellsRows, blocks_at}
use Rattle.read_rounds.specs.declared.round.FeedRound.{FeedRound}
use Rattle.read_rounds.proofs.PlaceLaws.{cause_at, have_read, is_place}
use Rattle.read_rounds.proofs.files.read_at.Goals as goal

pub read_one-requires-clause-open : goal.read_one-requires-clause-open
read_one-requires-clause-open g c κs within =
    (is_place g.R.Reader.bytes c.args.relation c.args.pipe.now.types c.args.files.now.items c.args.at c.index_mut.result.now c.requires.at c.index_mut.ensures.value c.requires.open).opened

pub returns-clause-batches : goal.returns-clause-batches
returns-clause-batches g c =
    let place = is_place g.R.Reader.bytes c.args.relation c.args.pipe.now.types c.args.files.now.items c.args.at c.index_mut.result.now c.requires.at c.index_mut.ensures.value c.requires.open in
    subst (λ (n : ℕ). IfOk c.read_one.result (λ (r : FeedRound). r.batches ≡ n)) (sym (ap blocks_at place.found)) c.read_one.ensures.batches

pub returns-clause-parts : goal.returns-clause-parts
returns-clause-parts g c =
    let pipe = c.args.pipe.now in
    let place = is_place g.R.Reader.bytes c.args.relation pipe.types c.args.files.now.items c.args.at c.index_mut.result.now c.requires.at c.index_mut.ensures.value c.requires.open in
    subst
    (λ (found : Option FilesSeen). IfOk c.read_one.result (λ (r : FeedRound). (given : Stream Row) × TellsRows found given × ArePartsThrough pipe given r.parts.items))
    (sym place.found) c.read_one.ensures.parts

pub returns-clause-seen : goal.returns-clause-seen
returns-clause-seen g c =
    let files = c.args.files.now.items in
    let one = c.index_mut.result.now in
    let place = is_place g.R.Reader.bytes c.args.relation c.args.pipe.now.types files c.args.at one c.requires.at c.index_mut.ensures.value c.requires.open in
    set_map (files_seen g.R.Reader.bytes) files c.args.at one c.read_one.new.one place.within (c.read_one.ensures.seen ∙ ap (files_seen g.R.Reader.bytes) c.index_mut.ensures.value)

pub returns-clause-cause : goal.returns-clause-cause
returns-clause-cause g c =
    let files = c.args.files.now.items in
    let one = c.index_mut.result.now in
    let place = is_place g.R.Reader.bytes c.args.relation c.args.pipe.now.types files c.args.at one c.requires.at c.index_mut.ensures.value c.requires.open in
    cause_at g.R.Reader.faults files c.args.at one c.read_one.new.one c.read_one.result place.within c.index_mut.ensures.value c.read_one.ensures.cause

pub returns-clause-reads : goal.returns-clause-reads
returns-clause-reads g c =
    on_ok_weaker c.read_one.result
    (have_read g.R.Reader.bytes c.args.relation g.R.Reader.reads c.args.files.now.items c.args.at c.index_mut.result.now c.read_one.new.one c.requires.at c.index_mut.ensures.value) c.read_one.ensures.reads
