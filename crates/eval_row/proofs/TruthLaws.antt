-- The walk along the arguments of `and` or `or`, which keeps whether a null was seen, gives what the three-valued table gives.
use Rattle.std.proofs.Common.{◌≡◌, ◌∙◌, List, [], ◌∷◌, Bool, true, false, not, ◌&&◌, ◌||◌, Ok, Err, refl, sym, ap, if◌then◌else◌}
use Rattle.std.proofs.Math.Bool.{beq}
use Rattle.sub_types.specs.declared.value.Value.{Value}
use Rattle.sub_types.specs.declared.value.Value.TheVariants as values
use Rattle.plan_denote.specs.Computed.{Computed, ◌>>=◌, truth, null}
use Rattle.plan_denote.specs.Logic.{is_truth, three_valued, ends_at}

-- what follows the value of one argument: the truth value that ends the walk, or the rest, with a null seen or not
abbrev pub after : Bool → Bool → Value → (Bool → Computed) → Computed
after end seen_null (values.Bool test) rest = if beq test end then truth end else rest seen_null
after end seen_null _ rest = rest true

abbrev pub walked : Bool → Bool → List Computed → Computed
walked end seen_null [] = if seen_null then null else truth (not end)
walked end seen_null (arg ∷ args) = arg >>= (λ value. after end seen_null value (λ seen. walked end seen args))

-- what the arguments so far come to, where none is the end
abbrev so_far : Bool → Bool → Value
so_far end seen_null = if seen_null then values.Null else values.Bool (not end)

-- a value with the rest
abbrev joined : Bool → Value → Computed → Computed
joined end value rest = rest >>= (λ found. Ok (three_valued end value found))

-- the outcome of the table
abbrev outcome : Bool → Bool → Bool → Value
outcome end is_end is_other = if is_end then values.Bool end else if is_other then values.Bool (not end) else values.Null

null_before : (end is_end is_other : Bool) → three_valued end values.Null (outcome end is_end is_other) ≡ outcome end is_end false
null_before true true is_other = refl
null_before true false true = refl
null_before true false false = refl
null_before false true is_other = refl
null_before false false true = refl
null_before false false false = refl

other_before : (end is_end is_other : Bool) → three_valued end (values.Bool (not end)) (outcome end is_end is_other) ≡ outcome end is_end is_other
other_before true true is_other = refl
other_before true false true = refl
other_before true false false = refl
other_before false true is_other = refl
other_before false false true = refl
other_before false false false = refl

-- the other truth value among the arguments changes nothing
other_between : (end seen_null : Bool) (rest : Computed) → joined end (so_far end seen_null) rest ≡ joined end (so_far end seen_null) (joined end (values.Bool (not end)) rest)
other_between end seen_null (Err kind) = refl
other_between true true (Ok value) = ap (λ one. Ok one) (sym (null_before true (is_truth true value) (is_truth false value)))
other_between true false (Ok value) = ap (λ one. Ok one) (sym (other_before true (is_truth true value) (is_truth false value)))
other_between false true (Ok value) = ap (λ one. Ok one) (sym (null_before false (is_truth false value) (is_truth true value)))
other_between false false (Ok value) = ap (λ one. Ok one) (sym (other_before false (is_truth false value) (is_truth true value)))

-- a null among them is seen
null_between : (end seen_null : Bool) (rest : Computed) → joined end values.Null rest ≡ joined end (so_far end seen_null) (joined end values.Null rest)
null_between end seen_null (Err kind) = refl
null_between true true (Ok value) = ap (λ one. Ok one) (sym (null_before true (is_truth true value) false))
null_between true false (Ok value) = ap (λ one. Ok one) (sym (other_before true (is_truth true value) false))
null_between false true (Ok value) = ap (λ one. Ok one) (sym (null_before false (is_truth false value) false))
null_between false false (Ok value) = ap (λ one. Ok one) (sym (other_before false (is_truth false value) false))

-- the end is the outcome, whatever came before
end_after : (end seen_null : Bool) → truth end ≡ joined end (so_far end seen_null) (truth end)
end_after true true = refl
end_after true false = refl
end_after false true = refl
end_after false false = refl

nothing_after : (end seen_null : Bool) → walked end seen_null [] ≡ joined end (so_far end seen_null) (truth (not end))
nothing_after true true = refl
nothing_after true false = refl
nothing_after false true = refl
nothing_after false false = refl

from_here : (end seen_null : Bool) (args : List Computed) → walked end seen_null args ≡ joined end (so_far end seen_null) (ends_at end args)
from_here end seen_null [] = nothing_after end seen_null
from_here end seen_null (Err kind ∷ args) = refl
from_here true seen_null (Ok (values.Bool true) ∷ args) = end_after true seen_null
from_here true seen_null (Ok (values.Bool false) ∷ args) = from_here true seen_null args ∙ other_between true seen_null (ends_at true args)
from_here false seen_null (Ok (values.Bool true) ∷ args) = from_here false seen_null args ∙ other_between false seen_null (ends_at false args)
from_here false seen_null (Ok (values.Bool false) ∷ args) = end_after false seen_null
from_here end seen_null (Ok values.Null ∷ args) = from_here end true args ∙ null_between end seen_null (ends_at end args)
from_here end seen_null (Ok (values.Int number) ∷ args) = from_here end true args ∙ null_between end seen_null (ends_at end args)
from_here end seen_null (Ok (values.Dec number) ∷ args) = from_here end true args ∙ null_between end seen_null (ends_at end args)
from_here end seen_null (Ok (values.Bytes bytes) ∷ args) = from_here end true args ∙ null_between end seen_null (ends_at end args)

-- the table gives a truth value or null
three_valued_all : (end : Bool) (args : List Computed) → joined end (values.Bool (not end)) (ends_at end args) ≡ ends_at end args
three_valued_all true [] = refl
three_valued_all false [] = refl
three_valued_all end (Err kind ∷ args) = refl
three_valued_all end (Ok value ∷ args) = by (is_truth end value) (ends_at end args)
  where
    by : (is_end : Bool) (rest : Computed)
        → joined end (values.Bool (not end)) (if is_end then truth end else joined end value rest) ≡ (if is_end then truth end else joined end value rest)
    by true rest = sym (end_after end false)
    by false (Err kind) = refl
    by false (Ok found) = ap (λ one. Ok one) (other_before end (is_truth end value || is_truth end found) (is_truth (not end) value && is_truth (not end) found))

-- the whole walk
pub walked-all : (end : Bool) (args : List Computed) → walked end false args ≡ ends_at end args
walked-all end args = from_here end false args ∙ three_valued_all end args
