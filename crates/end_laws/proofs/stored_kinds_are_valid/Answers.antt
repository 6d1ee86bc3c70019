use Rattle.end_laws.proofs.KindLaws.{each_fed, each_through, each_gathered}
use Rattle.end_laws.proofs.stored_kinds_are_valid.Goals as goal

pub returns : goal.returns
returns c = record {
  fed = λ columns before more pipe valid. each_fed columns valid before more pipe;
  through = λ columns before more pipe valid. each_through columns valid before more pipe;
  gathered = λ columns before more pipe valid. each_gathered columns valid before more pipe;
}
