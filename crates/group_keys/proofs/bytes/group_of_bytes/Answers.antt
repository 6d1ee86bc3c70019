use Rattle.std.proofs.Common.{◌≡◌, ◌∙◌, ℕ, List, Vec, Global, map, ap, sym, refl}
use Rattle.std.specs.Cmp.Lexicographic.{same_text}
use Rattle.group_keys.specs.Keys.{with_item, is_same_bytes}
use Rattle.group_keys.proofs.ItemLaws.{inserted, stored_at, found_keys, found_at}
use Rattle.group_keys.proofs.bytes.group_of_bytes.Goals as goal

abbrev bytes_of : Vec ℕ Global → List ℕ
bytes_of key = key.items

pub returns-in-Some-clause-keys : goal.returns-in-Some-clause-keys
returns-in-Some-clause-keys c = found_keys bytes_of is_same_bytes c.args.key.now c.args.keys.now.keys c.in-Some.number c.in-Some.ensures.index

pub returns-in-Some-clause-number : goal.returns-in-Some-clause-number
returns-in-Some-clause-number c = found_at bytes_of is_same_bytes same_text c.args.key.now c.args.keys.now.keys c.in-Some.number c.in-Some.ensures.index

pub returns-clause-keys : goal.returns-clause-keys
returns-clause-keys c =
    ap (map bytes_of) c.in_ok-number.ensures.keys
    ∙ inserted bytes_of (λ x y. is_same_bytes (bytes_of x) (bytes_of y)) is_same_bytes (λ x y. refl) c.args.keys.now.keys c.in_ok-copy.copy
    ∙ ap (with_item is_same_bytes (map bytes_of c.args.keys.now.keys)) c.in_ok-copy.ensures.items

pub returns-clause-number : goal.returns-clause-number
returns-clause-number c =
    let stored = c.in_ok-number.ensures.stored in
    stored_at bytes_of c.insert_full.new.self.keys c.in_ok-number.number stored.0 c.args.key.now stored.1
    (sym c.in_ok-copy.ensures.items ∙ same_text (bytes_of c.in_ok-copy.copy) (bytes_of stored.0) (sym stored.2))
