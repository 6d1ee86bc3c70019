-- Steps of checks: what is put together of checks that are alike is alike.
use Rattle.std.proofs.Common.{ℕ, ◌+◌, List, [], ◌∷◌, Bool, true, false, Option, Some, None, Result, Ok, Err, map, refl, ap, subst}
use Rattle.std.specs.List.{AllByRecursion}
use Rattle.plan_typed.specs.declared.sub.Sub.{Sub}
use Rattle.plan_verdict.specs.declared.progress.Progress.{Progress}
use Rattle.plan_verdict.specs.declared.rule.Rule.{Rule}
use Rattle.plan_verdict.specs.declared.rule.Rule.TheVariants as rules
use Rattle.plan_verdict.specs.Checking.{Checking, Refusal, go_on, ◌>>=◌, ◌>>◌, accept, refuse, part, must, present, next_relation, next_node, relations_so_far, nodes_so_far, nodes_from, done, in_order}
use Rattle.verdict_nodes.specs.Alike.{AreAlike, Alike, IsBlind}

then_at : {A B : Type 0} (next later : A → Checking B) (r s : Result (A × Progress) Refusal) → AreAlike r s → ((value : A) → Alike (next value) (later value)) → AreAlike (go_on r next) (go_on s later)
then_at next later (Ok (value, after)) (Ok (other, end)) same k = subst (λ one. AreAlike (next value after) (later one end)) same.0 ((k value).at after end same.1)
then_at next later (Err refusal) (Err other) same k = same
then_at next later (Ok (value, after)) (Err other) same k = absurd same
then_at next later (Err refusal) (Ok (other, end)) same k = absurd same

-- one check after the other
pub then : {A B : Type 0} {first other : Checking A} {next later : A → Checking B} → Alike first other → ((value : A) → Alike (next value) (later value)) → Alike (first >>= next) (other >>= later)
then {first = first} {other = other} {next = next} {later = later} s k = record { at = λ before start same. then_at next later (first before) (other start) (s.at before start same) k }

pub and_then : {A B : Type 0} {first other : Checking A} {next later : Checking B} → Alike first other → Alike next later → Alike (first >> next) (other >> later)
and_then {first = first} {other = other} {next = next} {later = later} s k = record { at = λ before start same. then_at (λ _. next) (λ _. later) (first before) (other start) (s.at before start same) (λ _. k) }

-- checks that end
pub accepted : {A : Type 0} (value : A) → IsBlind (accept value)
accepted value = record { at = λ before start same. (refl, same) }

pub refused : {A : Type 0} (relation : ℕ) (rule : Rule) → IsBlind (refuse {A = A} relation rule)
refused relation rule = record { at = λ before start same. refl }

pub parted : {A : Type 0} (relation : ℕ) (found : Result A Rule) → IsBlind (part relation found)
parted relation (Ok value) = accepted value
parted relation (Err rule) = refused relation rule

pub tested : (relation : ℕ) (test : Bool) (rule : Rule) → IsBlind (must relation test rule)
tested relation true rule = accepted tt
tested relation false rule = refused relation rule

pub found : {A : Type 0} (relation : ℕ) (written : Option A) → IsBlind (present relation written)
found relation (Some value) = accepted value
found relation None = refused relation rules.MissingField

-- the next relation has the same number
pub next_number : IsBlind next_relation
next_number = record { at = λ before start same. (same, ap (λ (count : ℕ). count + 1) same) }

pub relations_alike : IsBlind relations_so_far
relations_alike = record { at = λ before start same. (same, same) }

-- nodes have any numbers
pub next_alike : {A : Type 0} {one other : ℕ → Checking A} → ((m n : ℕ) → Alike (one m) (other n)) → Alike (next_node >>= one) (next_node >>= other)
next_alike k = record { at = λ before start same. (k before.nodes start.nodes).at (record before { nodes = before.nodes + 1 }) (record start { nodes = start.nodes + 1 }) same }

pub and_next : {A : Type 0} {check : Checking A} → IsBlind check → IsBlind (next_node >> check)
and_next s = record { at = λ before start same. s.at (record before { nodes = before.nodes + 1 }) (record start { nodes = start.nodes + 1 }) same }

pub nodes_alike : {A : Type 0} {one other : ℕ → Checking A} → ((m n : ℕ) → Alike (one m) (other n)) → Alike (nodes_so_far >>= one) (nodes_so_far >>= other)
nodes_alike k = record { at = λ before start same. (k before.nodes start.nodes).at before start same }

pub from_alike : (m n : ℕ) → Alike (nodes_from m) (nodes_from n)
from_alike m n = record { at = λ before start same. (refl, same) }

-- the holes of subqueries are any
pub done_alike : (one other : Sub) → Alike (done one) (done other)
done_alike one other = record { at = λ before start same. (refl, same) }

-- each in order
pub ordered : {A : Type 0} (checks : List (Checking A)) → AllByRecursion IsBlind checks → IsBlind (in_order checks)
ordered [] all = accepted []
ordered (first ∷ rest) all = then all.0 (λ value. then (ordered rest all.1) (λ values. accepted (value ∷ values)))

pub mapped : {X A : Type 0} (C : X → Type 0) (f : X → Checking A) (xs : List X) → AllByRecursion C xs → ((x : X) → C x → IsBlind (f x)) → AllByRecursion IsBlind (map f xs)
mapped C f [] all k = tt
mapped C f (x ∷ xs) all k = (k x all.0, mapped C f xs all.1 k)

pub each_alike : {X A : Type 0} (C : X → Type 0) (f : X → Checking A) (xs : List X) → AllByRecursion C xs → ((x : X) → C x → IsBlind (f x)) → IsBlind (in_order (map f xs))
each_alike C f xs all k = ordered (map f xs) (mapped C f xs all k)

pub all_any : {A : Type 0} (xs : List A) → AllByRecursion (λ _. Unit {0}) xs
all_any [] = tt
all_any (x ∷ xs) = (tt, all_any xs)
