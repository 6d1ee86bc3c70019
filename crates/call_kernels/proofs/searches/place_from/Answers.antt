-- What is found in the bytes from a place on stands so much further.
use Rattle.call_kernels.proofs.SearchLaws.{none_further, found_further}
use Rattle.call_kernels.proofs.searches.place_from.Goals as goal

pub returns-in_err-found : goal.returns-in_err-found
returns-in_err-found c = rw c.from_residual.ensures (none_further c.args.bytes.now c.args.finder.now c.args.from c.requires c.in_err-found.ensures)

pub returns : goal.returns
returns c = found_further c.args.bytes.now c.args.finder.now c.args.from c.in_ok-found.found c.requires c.in_ok-found.ensures
