-- Values, keys and rows by their keys have total orders.
use Rattle.std.proofs.Common.{List, [], ◌∷◌, Bool, true, false, refl, drop}
use Rattle.std.proofs.lemmas.Cmp.{nat_cmp_total, int_cmp_total, nat_list_cmp_total, on_total, then_total, back_total}
use Rattle.std.specs.Cmp.{IsTotalOrder, bool_cmp_total}
use Rattle.plan_denote.specs.Computed.{is_null}
use Rattle.plan_denote.specs.Order.{kind_place, truth_in, number_in, bytes_in, value_cmp}
use Rattle.plan_denote.specs.Sort.{Direction, null_cmp, sized_cmp, directed_cmp, first_key, key_cmp}

pub value_cmp_total : IsTotalOrder value_cmp
value_cmp_total = then_total (on_total kind_place nat_cmp_total) (then_total (on_total truth_in bool_cmp_total) (then_total (on_total number_in int_cmp_total) (on_total bytes_in nat_list_cmp_total)))

null_total : (first : Bool) → IsTotalOrder (null_cmp first)
null_total true = on_total is_null (back_total bool_cmp_total)
null_total false = on_total is_null bool_cmp_total

rising_total : (descending : Bool) → IsTotalOrder (sized_cmp descending)
rising_total true = back_total value_cmp_total
rising_total false = value_cmp_total

pub directed_total : (direction : Direction) → IsTotalOrder (directed_cmp direction)
directed_total direction = then_total (null_total direction.nulls_first) (rising_total direction.descending)

pub key_cmp_total : (directions : List Direction) → IsTotalOrder (key_cmp directions)
key_cmp_total [] = record { antisymm = λ x y. refl; trans = λ x y z h k. h; congr = λ x y z h. refl }
key_cmp_total (direction ∷ directions) = then_total (on_total first_key (directed_total direction)) (on_total (drop 1) (key_cmp_total directions))
