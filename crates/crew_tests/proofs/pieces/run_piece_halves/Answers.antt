use Rattle.std.proofs.Common.{◌/◌, ℕ, get_or, ap, sym, ◌∙◌}
use Rattle.crew_tests.proofs.HalfLaws.{half_at}
use Rattle.crew_tests.proofs.pieces.run_piece_halves.Goals as goal

pub returns-clause-halves : goal.returns-clause-halves
returns-clause-halves g c = λ k d below.
    let pieces = c.args.pieces.now in
    let f = c.in_ok-round.ensures.fair (pieces, tt) (λ j e low. λ i. ((c.in_ok-labours.ensures.unused j e low).pieces_are i, tt)) k d below in
    half_at pieces f.0.number f.0.value _ f.1 f.3.0 ∙ ap (λ (n : ℕ). get_or pieces n 0 / 2) (sym f.3.1)
