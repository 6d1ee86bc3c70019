-- What the proofs above cite of what workers keep.
pub use Rattle.pipe_work.proofs.Crosses.{kept_row}
