use Rattle.std.proofs.Common.{◌≡◌, ◌<◌, ◌++◌, List, Option, Some, None, map, length, slice_get, arith, ap, sym, subst, ◌∙◌}
use Rattle.std.specs.Option.{option_map}
use Rattle.std.proofs.lemmas.List.{get_or-map, map-set, length-map}
use Rattle.std.proofs.lemmas.Option.{get_or_from_slice_get}
use Rattle.world.specs.Counts.{Rose}
use Rattle.world.specs.Reads.{Reads}
use Rattle.crew_round.proofs.Giving.{set_map}
use Rattle.block_source.specs.Bodies.{body_read, reading}
use Rattle.block_source.specs.Seen.{GivesBlock, GivesAt, bytes_of}
use Rattle.block_source.specs.Told.{told_of}
use Rattle.block_source.proofs.Results.{ok_mapped, on_ok, on_err}
use Rattle.block_source.proofs.Rising.{rose_in}
use Rattle.block_source.proofs.Numbers.{reading_here, reading_other, place_below}
use Rattle.block_source.proofs.ReadLaws.{read_more}
use Rattle.block_source.proofs.read.read_place.Goals as goal

pub returns-clause-given : goal.returns-clause-given
returns-clause-given g c =
    let readers = c.args.readers.now.items in
    let files = c.args.files.now in
    let k = c.args.place.file in
    let below : k < length readers = omega (arith, place_below c.args.files.now c.args.place c.requires.place, c.requires.count, c.args.readers.now.ok.0) in
    let file = c.index-files-index.result in
    let reader = c.index_mut.result.now in
    let is : slice_get files k ≡ Some file =
    c.requires.place.is ∙ ap Some (sym (c.index-files-index.is ∙ get_or_from_slice_get files k c.requires.place.one file c.requires.place.is)) in
    let bytes : g.R.Reader.bytes reader ≡ bytes_of (map g.R.Reader.bytes readers) k =
    ap g.R.Reader.bytes c.index_mut.ensures.value ∙ sym (get_or-map g.R.Reader.bytes readers k reader None below) in
    ok_mapped c.read_one.result (GivesBlock file (g.R.Reader.bytes reader) c.args.place.block) (GivesAt files (map g.R.Reader.bytes readers) c.args.place)
    (λ given p. (file, is, subst (λ b. GivesBlock file b c.args.place.block given) bytes p)) c.read_one.ensures.given

pub returns-clause-failed : goal.returns-clause-failed
returns-clause-failed g c = λ failed.
    let reader = c.index_mut.result.now in
    let readers = c.args.readers.now.items in
    let k = c.args.place.file in
    let below : k < length readers = omega (arith, place_below c.args.files.now c.args.place c.requires.place, c.requires.count, c.args.readers.now.ok.0) in
    let rose = c.read_one.ensures.failed failed in
    rose_in g.R.Reader.faults readers k reader c.read_one.new.reader below
    (subst (λ r. Rose (g.R.Reader.faults r) (g.R.Reader.faults c.read_one.new.reader)) c.index_mut.ensures.value rose)

pub returns-clause-reads : goal.returns-clause-reads
returns-clause-reads g c =
    let readers = c.args.readers.now.items in
    let files = c.args.files.now in
    let place = c.args.place in
    let k = place.file in
    let below : k < length readers = omega (arith, place_below c.args.files.now c.args.place c.requires.place, c.requires.count, c.args.readers.now.ok.0) in
    let file = c.index-files-index.result in
    let reader = c.index_mut.result.now in
    let new = g.R.Reader.reads c.read_one.new.reader in
    let before : List (Option Reads) = map g.R.Reader.reads readers in
    let is : slice_get files k ≡ Some file =
    c.requires.place.is ∙ ap Some (sym (c.index-files-index.is ∙ get_or_from_slice_get files k c.requires.place.one file c.requires.place.is)) in
    let told : g.R.Reader.reads reader ≡ told_of before k =
    ap g.R.Reader.reads c.index_mut.ensures.value ∙ sym (get_or-map g.R.Reader.reads readers k reader None below) in
    on_ok c.read_one.result _ _
    (λ grew loaded number at are.
    read_more (reading files) before _ k number new loaded
    (map-set g.R.Reader.reads readers k c.read_one.new.reader)
    (omega (arith, below, length-map readers g.R.Reader.reads))
    (grew ∙ ap (λ (r : Option Reads). option_map (λ t. t ++ body_read file.head place.block) r) told
    ∙ ap (λ (m : Reads). option_map (λ t. t ++ m) (told_of before k)) (sym (reading_here files place number file at is)))
    (λ other differs. reading_other files place number other at differs)
    are)
    c.read_one.ensures.reads

pub returns-clause-not_read : goal.returns-clause-not_read
returns-clause-not_read g c =
    let readers = c.args.readers.now.items in
    let reader = c.index_mut.result.now in
    let below : c.args.place.file < length readers = omega (arith, place_below c.args.files.now c.args.place c.requires.place, c.requires.count, c.args.readers.now.ok.0) in
    on_err c.read_one.result _ _
    (λ same. set_map g.R.Reader.reads readers c.args.place.file reader c.read_one.new.reader below (same ∙ ap g.R.Reader.reads c.index_mut.ensures.value))
    c.read_one.ensures.not_read

pub returns-clause-bytes : goal.returns-clause-bytes
returns-clause-bytes g c =
    let readers = c.args.readers.now.items in
    let reader = c.index_mut.result.now in
    let below : c.args.place.file < length readers = omega (arith, place_below c.args.files.now c.args.place c.requires.place, c.requires.count, c.args.readers.now.ok.0) in
    set_map g.R.Reader.bytes readers c.args.place.file reader c.read_one.new.reader below (c.read_one.ensures.bytes ∙ ap g.R.Reader.bytes c.index_mut.ensures.value)
