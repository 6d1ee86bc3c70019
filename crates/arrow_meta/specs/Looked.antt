-- What is looked at in a footer or a message: a part that isn't inside the bytes makes the whole unreadable.
use Rattle.std.specs.Prelude.{◌≡◌, ℕ, Bool, Option, Some, None, Result, Ok, Err, unwrap_or, ◌||◌, ◌==◌, if◌then◌else◌}
use Rattle.fb_bytes.specs.declared.bad_buffer.BadBuffer.{BadBuffer}
use Rattle.fb_bytes.specs.Reading.{TableAt, scalar_of, table_of}
use Rattle.sub_types.specs.ResultSteps.{◌>>=◌}
use Rattle.arrow_meta.specs.declared.error.MetaError.{MetaError}
use Rattle.arrow_meta.specs.declared.error.MetaError.TheVariants as errors

abbrev pub looked : {A : Type 0} → Result A BadBuffer → Result A MetaError
looked (Ok x) = Ok x
looked (Err e) = Err errors.Bad

-- what must be there
abbrev pub present : {A : Type 0} → Option A → Result A MetaError
present (Some x) = Ok x
present None = Err errors.Bad

-- what is only readable where a test holds
abbrev pub when : {A : Type 0} → Bool → Result A MetaError → Result A MetaError
when test read = if test then read else Err errors.Bad

-- the number in a slot, or its default where it is absent
unfoldable pub number_in : TableAt → ℕ → ℕ → ℕ → Result ℕ MetaError
number_in table slot width default = looked (scalar_of table slot width) >>= λ number. Ok (unwrap_or number default)

-- the table in a slot, which must be there
unfoldable pub table_in : TableAt → ℕ → Result TableAt MetaError
table_in table slot = looked (table_of table slot) >>= present

-- metadata versions 4 and 5, which are written as 3 and 4
abbrev pub is_version : ℕ → Bool
is_version version = version == 3 || version == 4

-- a call answers what is read, as it is seen, or why it can't be; only want of memory is free
abbrev pub Answers : {A B : Type 0} → (A → B) → Result A MetaError → Result B MetaError → Type 0
Answers seen (Ok x) read = read ≡ Ok (seen x)
Answers seen (Err errors.NoMemory) read = Unit {0}
Answers seen (Err e) read = read ≡ Err e
