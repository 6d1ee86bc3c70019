use Rattle.std.proofs.Common.{◌≡◌, ◌<◌, Option, None, length, map, set, arith, ap, sym, ◌∙◌}
use Rattle.std.proofs.lemmas.List.{get_or-map, map-set}
use Rattle.world.specs.Reads.{Reads, joined_reads}
use Rattle.crew_round.proofs.Giving.{set_map}
use Rattle.block_source.specs.Told.{told_of}
use Rattle.block_source.proofs.Joining.{joined_where}
use Rattle.block_source.proofs.absorb.absorb_one.Goals as goal

pub returns-then-complete-clause-reads : goal.returns-then-complete-clause-reads
returns-then-complete-clause-reads g c = λ done.
    let readers = c.args.readers.now.items in
    let reader = c.index_mut.result.now in
    let file = c.args.file in
    let below : file < length readers = omega (arith, c.requires, c.args.readers.now.ok.0) in
    let told : g.R.Reader.reads reader ≡ told_of (map g.R.Reader.reads readers) file =
    ap g.R.Reader.reads c.index_mut.ensures.value ∙ sym (get_or-map g.R.Reader.reads readers file reader None below) in
    map-set g.R.Reader.reads readers file c.absorb-absorbed.new.self
    ∙ ap (set (map g.R.Reader.reads readers) file)
    (joined_where c.absorb-absorbed.result c.is_ok-done.result _ _ _ c.absorb-absorbed.ensures.reads c.is_ok-done.ensures.value done
    ∙ ap (λ (r : Option Reads). joined_reads r (g.R.Reader.reads c.args.second)) told)

pub returns-then-complete-clause-bytes : goal.returns-then-complete-clause-bytes
returns-then-complete-clause-bytes g c =
    let readers = c.args.readers.now.items in
    let reader = c.index_mut.result.now in
    let below : c.args.file < length readers = omega (arith, c.requires, c.args.readers.now.ok.0) in
    set_map g.R.Reader.bytes readers c.args.file reader c.absorb-absorbed.new.self below (c.absorb-absorbed.ensures.bytes ∙ ap g.R.Reader.bytes c.index_mut.ensures.value)

pub returns-else-complete-clause-bytes : goal.returns-else-complete-clause-bytes
returns-else-complete-clause-bytes g c =
    let readers = c.args.readers.now.items in
    let reader = c.index_mut.result.now in
    let below : c.args.file < length readers = omega (arith, c.requires, c.args.readers.now.ok.0) in
    set_map g.R.Reader.bytes readers c.args.file reader c.absorb-absorbed.new.self below (c.absorb-absorbed.ensures.bytes ∙ ap g.R.Reader.bytes c.index_mut.ensures.value)
