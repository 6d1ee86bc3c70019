-- The buffers of a batch are found in its body.
use Rattle.std.proofs.Common.{◌≡◌, ◌∙◌, ℕ, suc, ◌+◌, ◌-◌, ℤ, pos, List, [], ◌∷◌, ◌++◌, true, Some, length, map, replicate, refl, sym, ap, arith, append_assoc, length-append, nat_le, add-zero}
use Rattle.std.proofs.lemmas.Bool.{le-leb}
use Rattle.std.proofs.lemmas.List.{take_at, drop_at}
use Rattle.std.proofs.lemmas.List.Concat.{flat_map-append}
use Rattle.fb_bytes.specs.Layout.{filled, round_up}
use Rattle.arrow_meta.specs.Buffers.{body_of, buffer_places}
use Rattle.sub_types.specs.OptionSteps.{all_of}
use Rattle.arrow_meta.specs.Batch.{buffer_in}

-- two numbers as signed ones
abbrev pub signed_pair : ℕ × ℕ → ℤ × ℤ
signed_pair pair = (pos pair.0, pos pair.1)

-- a buffer in a body
buffer_back : (before buffer after : List ℕ) (place : ℕ) → length before ≡ place
    → buffer_in (before ++ (filled buffer ++ after)) (signed_pair (place, length buffer)) ≡ Some buffer
unfolding buffer_in filled
buffer_back before buffer after place long =
    let pad : List ℕ = replicate (round_up (length buffer) - length buffer) 0 in
    let body : List ℕ = before ++ (filled buffer ++ after) in
    let rest = append_assoc buffer pad after in
    let size : length body ≡ length before + (length buffer + length pad + length after) =
    length-append before (filled buffer ++ after) ∙ ap (λ n. length before + n) (length-append (filled buffer) after ∙ ap (λ n. n + length after) (length-append buffer pad)) in
    let within : nat_le (place + length buffer) (length body) ≡ true = le-leb (place + length buffer) (length body) (omega (arith, size, long)) in
    let count : place + length buffer - place ≡ length buffer = omega arith in
    rw (within, drop_at before (filled buffer ++ after) place long, count, rest, take_at buffer (pad ++ after) (length buffer) refl) refl

-- all buffers of a body
pub buffers_back : (before : List ℕ) (buffers : List (List ℕ)) (after body : List ℕ) (place : ℕ) → length before ≡ place → body ≡ before ++ (body_of buffers ++ after)
    → all_of (map (buffer_in body) (map signed_pair (buffer_places place buffers))) ≡ Some buffers
buffers_back before [] after body place long same = refl
buffers_back before (buffer ∷ buffers) after body place long same =
    let first : body ≡ before ++ (filled buffer ++ (body_of buffers ++ after)) = same ∙ ap (λ bytes. before ++ bytes) (append_assoc (filled buffer) (body_of buffers) after) in
    let here : buffer_in body (signed_pair (place, length buffer)) ≡ Some buffer =
    ap (λ bytes. buffer_in bytes (signed_pair (place, length buffer))) first ∙ buffer_back before buffer (body_of buffers ++ after) place long in
    let longer : length (before ++ filled buffer) ≡ place + length (filled buffer) = length-append before (filled buffer) ∙ ap (λ n. n + length (filled buffer)) long in
    let others = buffers_back (before ++ filled buffer) buffers after body (place + length (filled buffer)) longer (first ∙ sym (append_assoc before (filled buffer) (body_of buffers ++ after))) in
    rw (here, others) refl

-- the places of some buffers and of those behind them
pub buffer_places-append : (place : ℕ) (xs ys : List (List ℕ)) → buffer_places place (xs ++ ys) ≡ buffer_places place xs ++ buffer_places (place + length (body_of xs)) ys
buffer_places-append place [] ys = ap (λ n. buffer_places n ys) (sym (add-zero place))
buffer_places-append place (x ∷ xs) ys =
    let size : place + length (filled x) + length (body_of xs) ≡ place + length (body_of (x ∷ xs)) = omega (arith, length-append (filled x) (body_of xs)) in
    ap (λ rest. (place, length x) ∷ rest) (buffer_places-append (place + length (filled x)) xs ys ∙ ap (λ n. buffer_places (place + length (filled x)) xs ++ buffer_places n ys) size)

pub length-buffer_places : (place : ℕ) (buffers : List (List ℕ)) → length (buffer_places place buffers) ≡ length buffers
length-buffer_places place [] = refl
length-buffer_places place (buffer ∷ buffers) = ap (λ n. suc n) (length-buffer_places (place + length (filled buffer)) buffers)

pub body_of-append : (xs ys : List (List ℕ)) → body_of (xs ++ ys) ≡ body_of xs ++ body_of ys
body_of-append xs ys = flat_map-append filled xs ys
