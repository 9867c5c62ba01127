-- Facts as JSON data. Numbers of 2^53 and more are strings, and so is every value of a program.
use Rattle.std.specs.Prelude.{ℕ, ℤ, Bool, if◌then◌else◌, nat_lt, List, [], ◌∷◌, decimal, map}
use Rattle.std.specs.Fmt.{signed_decimal}
use Rattle.std.specs.Str.Lossy.{utf8_lossy}
use Rattle.serde_json.specs.Data.{Data, boolean, number, unsigned, string, array, object, Members, no_members, put}
use Rattle.serde_json.specs.View.{items_of}
use Rattle.text_places.specs.Escaped.{escaped}

abbrev pub flag : Bool → Data
flag b = boolean b

abbrev pub word : List ℕ → Data
word text = string text

-- bytes as a text, where what is no UTF-8 is replaced
abbrev pub letters : List ℕ → Data
letters bytes = string (utf8_lossy bytes)

-- the name of a file or a word of the call, as it is told in words
abbrev pub told : List ℕ → Data
told text = letters (escaped text)

-- a value of a program, in decimal
abbrev pub value : ℤ → Data
value v = string (signed_decimal v)

-- a sum: a number below 2^53, which every reader of JSON takes exactly, and from there on in decimal
abbrev pub large : ℕ → Data
large n = if nat_lt n 9007199254740992 then number (unsigned n) else string (decimal n)

-- any other count
abbrev pub count : ℕ → Data
count n = number (unsigned n)

abbrev pub list : List Data → Data
list ds = array (items_of ds)

abbrev pub values : List ℤ → Data
values vs = list (map value vs)

abbrev pub counts : List ℕ → Data
counts ns = list (map count ns)

-- a name, and what stands under it in an object
abbrev pub Field : Type 0
Field = List ℕ × Data

-- members, and these fields put to them one after another
abbrev pub with_fields : List Field → Members → Members
with_fields [] ms = ms
with_fields (f ∷ fs) ms = with_fields fs (put f.0 f.1 ms)

-- the object with these fields
abbrev pub object_of : List Field → Data
object_of fields = object (with_fields fields no_members)
