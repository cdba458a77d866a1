use Rattle.std.specs.Prelude.{◌≡◌, ℕ, ◌+◌, ◌-◌, ◌*◌, ◌/◌, ◌%◌, ◌≤◌, ◌⊎◌, ◌==◌, nat_lt, nat_le, cond, Option, Some, None}
use Rattle.object_layout.specs.declared.values.Value.{Value}
use Rattle.object_layout.specs.declared.values.Value.TheVariants.{Null, Int, Ref}
use Rattle.object_layout.specs.declared.names.Name.{Name}
use Rattle.object_layout.specs.declared.headers.Header.{Header}
use Rattle.object_layout.specs.declared.TheConstants.{MAX_FIELDS, MAX_ADDRESS, MAX_SPACE, MAX_INT, MAX_SERIAL, NAME_UNIT, HEADER_BASE, SPACE_UNIT, MAX_THREADS}

-- a value within the limits
abbrev pub IsValue : Value → Type 0
IsValue Null = Unit {0}
IsValue (Int i) = i ≤ MAX_INT
IsValue (Ref a) = a.0 ≤ MAX_ADDRESS

-- the word of a value
abbrev pub value_word : Value → ℕ
value_word Null = 0
value_word (Int i) = 2 * i + 1
value_word (Ref a) = 2 * (a.0 + 1)

-- the value of a word, none outside the layout
abbrev pub value_of : ℕ → Option Value
value_of word =
    cond (word % 2 == 1) (Some (Int (word / 2)))
    (cond (word == 0) (Some Null)
    (cond (nat_le word (2 * (MAX_ADDRESS + 1))) (Some (Ref (record { 0 = word / 2 - 1 }))) None))

-- a header within the limits
abbrev pub IsHeader : Header → Type 0
IsHeader h = (h.fields ≤ MAX_FIELDS) × (h.space ≤ MAX_SPACE)

-- the word of a header
abbrev pub header_word : Header → ℕ
header_word h = HEADER_BASE + SPACE_UNIT * h.space + h.fields

-- the header of a word, none outside the layout
abbrev pub header_of : ℕ → Option Header
header_of word =
    cond (nat_lt word HEADER_BASE) None
    (cond (nat_le (HEADER_BASE + SPACE_UNIT * (MAX_SPACE + 1)) word) None
    (cond (nat_lt MAX_FIELDS ((word - HEADER_BASE) % SPACE_UNIT)) None
    (Some (record { fields = (word - HEADER_BASE) % SPACE_UNIT; space = (word - HEADER_BASE) / SPACE_UNIT }))))

-- the root's name, or the name of an object that a thread has made
abbrev pub IsName : Name → Type 0
IsName n = ((n.thread ≡ 0) × (n.serial ≡ 0)) ⊎ ((1 ≤ n.thread) × (n.thread ≤ MAX_THREADS) × (1 ≤ n.serial) × (n.serial ≤ MAX_SERIAL))

-- the word of a name
abbrev pub name_word : Name → ℕ
name_word n = n.thread * NAME_UNIT + n.serial

-- the name of a word, none outside the layout
abbrev pub name_of : ℕ → Option Name
name_of word =
    cond (nat_lt MAX_THREADS (word / NAME_UNIT)) None
    (cond (word / NAME_UNIT == 0)
    (cond (word % NAME_UNIT == 0) (Some (record { thread = 0; serial = 0 })) None)
    (cond (word % NAME_UNIT == 0) None (Some (record { thread = word / NAME_UNIT; serial = word % NAME_UNIT }))))
