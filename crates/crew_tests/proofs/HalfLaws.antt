-- What is made of the piece of a number.
use Rattle.std.proofs.Common.{◌≡◌, ℕ, ◌/◌, List, Option, Some, None, slice_get, get_or, unwrap_or, ap, sym, ◌∙◌}
use Rattle.std.specs.Borrow.{Bor}
use Rattle.std.proofs.lemmas.Option.{unwrap_or-slice_get}
use Rattle.piece_source.specs.Pieces.{IsPieceAt}
use Rattle.crew_tests.specs.Pieces.{IsHalfOf}

pub half_at : (pieces : List ℕ) (number : ℕ) (given : Option (Bor ℕ)) (made : ℕ) → IsPieceAt pieces number given → IsHalfOf given made → made ≡ get_or pieces number 0 / 2
half_at pieces number None made is half = half ∙ ap (λ (p : Option ℕ). unwrap_or p 0 / 2) (sym is) ∙ ap (λ n. n / 2) (unwrap_or-slice_get pieces number 0)
half_at pieces number (Some piece) made is half = half ∙ ap (λ (p : Option ℕ). unwrap_or p 0 / 2) (sym is) ∙ ap (λ n. n / 2) (unwrap_or-slice_get pieces number 0)
