use Rattle.std.proofs.Common.{◌∙◌, Some, ap, sym}
use Rattle.std.proofs.lemmas.Option.{get_or_from_slice_get, slice_get_within}
use Rattle.block_work.proofs.pieces.file_at.Goals as goal

pub bounds-files-place : goal.bounds-files-place
bounds-files-place c = slice_get_within c.args.files.now c.args.place.file c.requires.one c.requires.is

pub returns : goal.returns
returns c =
    let files = c.args.files.now in
    let file = c.index-files-place.result in
    c.requires.is ∙ ap Some (sym (c.index-files-place.is ∙ get_or_from_slice_get files c.args.place.file c.requires.one file c.requires.is))
