-- What is said of a word of the command line that is wrong.
use Rattle.std.specs.Prelude.{ℕ, ◌==◌, nat_le, nat_lt, Bool, false, List, [], ◌++◌, length, Option, Some, None, codes, if◌then◌else◌}
use Rattle.std.specs.List.{after_first, before_first, position_or_len}
use Rattle.run_options.specs.Numbers.{number_of}
use Rattle.pram_model.specs.Names.{same_text}
use Rattle.command_requests.specs.declared.given.Given.{Given}
use Rattle.command_requests.specs.declared.given.Given.TheVariants as given
use Rattle.command_requests.specs.Names.{name}
use Rattle.text_places.specs.Escaped.{escaped}

-- what an option wants
abbrev pub wanted : Given → List ℕ
wanted given.Bound = codes "a number from 0 to 4294967295"
wanted given.Seconds = codes "a number from 1 to 4294967295"
wanted given.Workers = codes "a number from 1 to 32"
wanted given.ToldWorkers = codes "a number from 1 to 4294967295"
wanted given.Map = codes "identity, or affine:A,B with A odd, and A and B from 0 to 4294967295"
wanted given.Reserve = codes "ITEMS,EXCHANGES, two numbers from 0 to 4294967295"
wanted given.Schedule = codes "a number from 1 to 4294967295"
wanted given.From = codes "a number from 0 to 4294967295"
wanted given.To = codes "a number from 0 to 4294967295"
wanted given.Random = codes "LO..HI, as -5..5, two numbers of 64 bits of which LO is at most HI"
wanted given.Draw = codes "list, ring, ring:0, tree, sorted, permutation, or graph:V with V vertices from 2 to 4294967295"
wanted given.Seed = codes "a number from 0 to 4294967295"
wanted given.Cells = codes "a number from 0 to 1048576"
wanted given.Values =
    codes "LO..HI, as 0..4, two numbers of 64 bits of which LO is at most HI; explore and compare try at most 100000000 inputs"
wanted given.Permutations = codes "a number from 1 to 10"
wanted given.Under = codes "erew, crew, common, priority or sum"
wanted given.Count = codes "a number from 1 to 1000000"
wanted given.TimeAtMost = codes "a number, or an expression of the sizes of FILE2, as 4*log(n)+10"
wanted given.WorkAtMost = codes "a number, or an expression of the sizes of FILE2, as 4*log(n)+10"
wanted given.ProcsAtMost = codes "a number, or an expression of the sizes of FILE2, as 4*log(n)+10"
wanted given.Size = codes "NAME=VALUE, once for each size that the program declares, VALUE from 0 to 9223372036854775807"
wanted given.Sweep = codes "NAME=SIZES for a size that the program declares, 1 to 1000 of them, as n=4,8,16 or n=4..64*2 or n=10..50+10"
wanted given.Format = codes "text or json, or csv with --sweep, or gnu with check"
wanted given.Show = codes "names of shared declarations of the program, as a,b"
wanted given.Only = (codes "names that the program declares, as a,b: of cells alone with --flow and compare, and with compare of "
    ++ codes "both programs, or output")
wanted given.Bsp = codes "G,L, two numbers from 0 to 4294967295"
wanted given.Subject = codes "a refusal, as E6, a fault, as read-conflict, a command, language or options"

abbrev pub wanted_text : Given → List ℕ
wanted_text g = codes "` for `" ++ (name g ++ (codes "`: it wants " ++ (wanted g ++ codes "\n")))

-- ---- intervals that are written with `-`

abbrev pub is_dash : ℕ → Bool
is_dash b = b == 45

abbrev pub are_ends : Option ℕ → Option ℕ → Bool
are_ends (Some low) (Some high) = nat_le low high
are_ends _ _ = false

-- two numbers of which the first is at most the second
abbrev pub ends_of : (low high : List ℕ) → Option (List ℕ × List ℕ)
ends_of low high = if are_ends (number_of low) (number_of high) then Some (low, high) else None

-- such numbers with `-` between them, as `1-8`
abbrev pub ends_in : (word : List ℕ) → Option (List ℕ × List ℕ)
ends_in word =
    if nat_lt (position_or_len is_dash word) (length word) then ends_of (before_first is_dash word) (after_first is_dash word) else None

-- where they are given to an option that takes an interval
abbrev pub ends_meant : Given → (word : List ℕ) → Option (List ℕ × List ℕ)
ends_meant given.Values word = ends_in word
ends_meant given.Random word = ends_in word
ends_meant _ word = None

abbrev pub meant_text : (name low high : List ℕ) → List ℕ
meant_text name low high = codes "` for `" ++ (name ++ (codes "`: did you mean `" ++ (low ++ (codes ".." ++ (high ++ codes "`?\n")))))

abbrev pub advice_by : Given → Option (List ℕ × List ℕ) → List ℕ
advice_by g (Some (low, high)) = meant_text (name g) low high
advice_by g None = wanted_text g

-- the interval that is meant, or what the option wants
abbrev pub advice : Given → (word : List ℕ) → List ℕ
advice g word = advice_by g (ends_meant g word)

-- `invalid `x` for `--bound`: it wants a number from 0 to 4294967295`, `invalid `1-8` for `--values`: did you mean `1..8`?`
abbrev pub value_sentence : Given → (word : List ℕ) → List ℕ
value_sentence g word = codes "invalid `" ++ (escaped word ++ advice g word)

-- an option that a command wants, in the place of others; of any other word nothing
abbrev pub command_sentence : (word : List ℕ) → List ℕ
command_sentence word =
    if same_text word (codes "--input") then (codes "`compare` wants `--input`, `--cells` with `--values`, `--permutations`, or "
    ++ codes "`--random` or `--draw` with `--count`, and one of these alone\n")
    else if same_text word (codes "--cells") then (codes "`explore` wants `--cells` with `--values`, `--permutations`, or "
    ++ codes "`--random` or `--draw` with `--count`, which take `--cells` too\n")
    else if same_text word (codes "--values") then codes "`--values` goes with `--cells` alone\n"
    else if same_text word (codes "--count") then codes "`--count` goes with `--random` or `--draw` alone\n"
    else if same_text word (codes "--permutations") then (codes "`--permutations` goes with none of `--cells`, `--values`, "
    ++ codes "`--random` and `--draw`\n")
    else if same_text word (codes "--listing") then (codes "`export` wants a FILE, or `--listing` in its place, which goes without "
    ++ codes "`--size`\n")
    else if same_text word (codes "--shrink") then codes "`--shrink` goes with neither `--random` nor `--draw`\n"
    else if same_text word (codes "--witness") then codes "`--witness` wants the name of a file, and `-` is none\n"
    else []

-- an option that doesn't go with others of the call
abbrev pub option_sentence : (word : List ℕ) → List ℕ
option_sentence word =
    if same_text word (codes "--memory") then codes "`--memory` goes with none of `--input`, `--random` and `--draw`\n"
    else if same_text word (codes "--random") then (codes "`--random` goes with neither `--input` nor `--memory`, of `--draw` "
    ++ codes "with `sorted` alone, and with `compare` or `explore` it wants `--count`\n")
    else if same_text word (codes "--draw") then (codes "`--draw` goes with neither `--input` nor `--memory`, and with `compare` "
    ++ codes "or `explore` it wants `--count`\n")
    else if same_text word (codes "--seed") then codes "`--seed` goes with `--random` or `--draw` alone\n"
    else if same_text word (codes "--quiet") then codes "`--quiet` doesn't go with `--show`\n"
    else if same_text word (codes "--html") then codes "`--html` goes with neither `--svg` nor another `--format` than text\n"
    else if same_text word (codes "--svg") then codes "`--svg` goes with no other `--format` than text, and with cost it wants `--sweep`\n"
    else if same_text word (codes "--flow") then codes "`--flow` goes with neither `--svg` nor `--html` nor another `--format` than text\n"
    else if same_text word (codes "--outcome") then codes "`--outcome` doesn't go with `--svg`\n"
    else if same_text word (codes "--bsp") then codes "`--bsp` doesn't go with `--svg`\n"
    else if same_text word (codes "--schedule") then codes "`--schedule` doesn't go with `--sweep`\n"
    else if same_text word (codes "--lines") then codes "`--lines` doesn't go with `--sweep`\n"
    else if same_text word (codes "--seconds") then codes "`--seconds` doesn't go with `--sweep`\n"
    else if same_text word (codes "--only") then codes "`--only` goes with neither `--svg` nor `--html` nor another `--format` than text\n"
    else if same_text word (codes "--from") then codes "`--from` is at most `--to`\n"
    else command_sentence word

-- what is said of a word, by the option that doesn't take it, if there is one
abbrev pub word_fault : Option Given → (word : List ℕ) → List ℕ
word_fault (Some g) word = value_sentence g word
word_fault None word = option_sentence word
