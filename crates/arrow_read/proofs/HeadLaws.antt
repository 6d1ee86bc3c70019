-- The parts of a head.
use Rattle.std.proofs.Common.{◌≡◌, ℕ, ◌-◌, ◌≤◌, List, length, not, Result, Ok, Err, refl, arith}
use Rattle.std.specs.Option.{ok_or}
use Rattle.arrow_meta.specs.Footer.{Footer}
use Rattle.arrow_meta.specs.Places.{is_arrow, footer_size}
use Rattle.arrow_meta.specs.Head.{Refusal, NotArrow, BadFooter, Compressed, Head, refuse_if, footer_place, footer_at, has_compression, head_with, head_of}
use Rattle.sub_types.specs.ResultSteps.{◌>>=◌}
use Rattle.arrow_read.proofs.MetaLaws.{said_same}

-- the head of a file with its footer at a place
pub record IsHeadOf (told : List ℕ) (head : Head) : Type 0 where
  pub start : ℕ
  pub footer : Footer
  pub place : footer_place told ≡ Ok start
  pub within : start ≤ length told
  pub parts : head_with told start footer ≡ head

-- what a good second step stands on
bound : {A B : Type 0} (read : Result A Refusal) (next : A → Result B Refusal) (y : B) → (read >>= next) ≡ Ok y → (x : A) × ((read ≡ Ok x) × (next x ≡ Ok y))
bound (Ok x) next y h = (x, (refl, h))
bound (Err e) next y h = absurd (cc)

start_within : (told : List ℕ) (start : ℕ) → footer_place told ≡ Ok start → start ≤ length told
unfolding footer_place
start_within told start h =
    let found = bound (refuse_if (not (is_arrow told)) NotArrow (ok_or (footer_size told) (BadFooter (length told - 10)))) (λ size. Ok (length told - 10 - size)) start h in
    let last = found.1.1 in
    let same : length told - 10 - found.0 ≡ start = cc in
    omega (arith, same)

pub head_parts : (told : List ℕ) (head : Head) → head_of told ≡ Ok head → IsHeadOf told head
unfolding head_of
head_parts told head h =
    let placed = bound (footer_place told) (λ place. footer_at told place >>= λ footer. refuse_if (has_compression told place footer) Compressed (Ok (head_with told place footer))) head h in
    let footed = bound (footer_at told placed.0) (λ footer. refuse_if (has_compression told placed.0 footer) Compressed (Ok (head_with told placed.0 footer))) head placed.1.1 in
    record {
      start = placed.0;
      footer = footed.0;
      place = placed.1.0;
      within = start_within told placed.0 placed.1.0;
      parts = said_same (has_compression told placed.0 footed.0) (head_with told placed.0 footed.0) head footed.1.1;
    }
