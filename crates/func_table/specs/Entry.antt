-- The entries of the table of functions, and which calls they take.
use Rattle.std.specs.Prelude.{ℕ, Bool, true, false, List, [], ◌∷◌, ◌&&◌, ◌||◌, codes}
use Rattle.std.specs.List.{list_all}
use Rattle.std.specs.Cmp.Lexicographic.{pointwise}
use Rattle.std.specs.Str.{bytes_eq}
use Rattle.sub_types.specs.declared.kind.Kind.{Kind}
use Rattle.plan_typed.specs.declared.expr.Func.{Func}
use Rattle.func_table.specs.declared.row.Class.{Class}
use Rattle.func_table.specs.declared.row.Class.TheVariants.{Scalar, Aggregate}
use Rattle.func_table.specs.declared.row.ResultRule.{ResultRule}
use Rattle.func_table.specs.declared.line.Alike.{Alike}
use Rattle.func_table.specs.declared.line.Alike.TheVariants.{Free, Same, Equal}
use Rattle.func_table.specs.Kinds.{short_name, is_same, is_equal, key_of}

-- the arguments that a function takes, by the short names of their kinds: one for each name, or of the one name any
-- number, or one or more
pub data Arguments : Type 0 where
  Each : List (List ℕ) → Arguments
  AnyNumber : List ℕ → Arguments
  OneOrMore : List ℕ → Arguments

-- what a row tells: its name and key, its function, and the kind of its result
pub record Signature : Type 0 where
  pub name : List ℕ
  pub key : List ℕ
  pub func : Func
  pub result : ResultRule

-- a row with the calls that it takes: the file and class of the function, its arguments, and what they have in common
pub record Entry : Type 0 where
  pub file : List ℕ
  pub class : Class
  pub arguments : Arguments
  pub alike : Alike
  pub row : Signature

-- the name that stands for every kind
abbrev pub any : List ℕ
any = codes "any"

-- the name stands for the kind
abbrev pub takes_kind : List ℕ → Kind → Bool
takes_kind name kind = bytes_eq name any || bytes_eq name (short_name kind)

-- the names stand for the kinds of all arguments
abbrev pub takes_kinds : Arguments → List Kind → Bool
takes_kinds (Each names) kinds = pointwise takes_kind names kinds
takes_kinds (AnyNumber name) kinds = list_all (takes_kind name) kinds
takes_kinds (OneOrMore name) [] = false
takes_kinds (OneOrMore name) (kind ∷ kinds) = list_all (takes_kind name) (kind ∷ kinds)

-- two arguments have in common what they must
abbrev pub agree : Alike → Kind → Kind → Bool
agree Free a b = true
agree Same a b = is_same a b
agree Equal a b = is_equal a b

-- the first has it in common with each of the others
abbrev pub all_agree : Alike → List Kind → Bool
all_agree alike [] = true
all_agree alike (kind ∷ kinds) = list_all (agree alike kind) kinds

-- the same class
abbrev pub is_class : Class → Class → Bool
is_class Scalar Scalar = true
is_class Aggregate Aggregate = true
is_class _ _ = false

-- the entry is of the function of this file, name and class
abbrev pub is_named : List ℕ → List ℕ → Class → Entry → Bool
is_named file name class entry = bytes_eq entry.file file && bytes_eq entry.row.name name && is_class entry.class class

-- the entry is of that function, and takes arguments of these kinds
abbrev pub fits : List ℕ → List ℕ → List Kind → Class → Entry → Bool
fits file name kinds class entry = is_named file name class entry && takes_kinds entry.arguments kinds && all_agree entry.alike kinds

-- the names in the key: an argument that repeats is named once
abbrev pub names_of : Arguments → List (List ℕ)
names_of (Each names) = names
names_of (AnyNumber name) = name ∷ []
names_of (OneOrMore name) = name ∷ []

-- the entry of a function, with its key
abbrev pub entry_of : List ℕ → Class → List ℕ → Arguments → Alike → Func → ResultRule → Entry
entry_of file class name arguments alike func result = record {
  file = file;
  class = class;
  arguments = arguments;
  alike = alike;
  row = record { name = name; key = key_of name (names_of arguments); func = func; result = result };
}
