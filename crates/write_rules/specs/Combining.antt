-- How the writers of one cell are combined, two by two and in any order (this project's own profile).
use Rattle.std.specs.Prelude.{◌≡◌, ◌≢◌, refl, List, ◌∷◌, map, Bool, true, false, not, ◌&&◌, ◌||◌, if◌then◌else◌, Err, ℤ, ◌+ℤ◌, int_lt}
use Rattle.std.specs.Prelude.{int_le, FitsSigned}
use Rattle.std.specs.List.{fold, All, AllPairs}
use Rattle.std.specs.Int.{w64, w128, int_wrap}
use Rattle.pram_model.specs.declared.rule.Rule.{Rule}
use Rattle.pram_model.specs.declared.rule.Rule.TheVariants.{Erew, Crew, Common, Priority, Sum}
use Rattle.pram_values.specs.declared.kind.Kind.TheVariants.{WriteConflict}
use Rattle.pram_values.specs.Value.{Value, checked}
use Rattle.pram_values.specs.Truth.{is_equal}
use Rattle.write_rules.specs.declared.entry.Entry.{Entry}
use Rattle.write_rules.specs.declared.write.Write.{Write}
use Rattle.write_rules.specs.Rule.{rule_value}

-- a way to combine: the entry of one writer, the entry of two entries, and what an entry comes to
pub record Combining : Type 0 where
  pub single : ℤ → ℤ → Entry
  pub join : Entry → Entry → Entry
  pub verdict : Entry → Value

-- the entry of the writers w and ws
abbrev pub joined : Combining → Write → List Write → Entry
joined c w ws = fold c.join (c.single w.processor w.value) (map (λ v. c.single v.processor v.value) ws)

-- writers with different indices, whose indices and values are of 64 bits
pub record AreWriters (ws : List Write) : Type 0 where
  pub apart : AllPairs (λ v w. v.processor ≢ w.processor) ws
  pub fit : All (λ w. FitsSigned w64 w.processor × FitsSigned w64 w.value) ws

-- joining is associative and commutative for all entries, so it may go in any order, and writers come to what the rule gives
pub record Carries (rule : Rule) (c : Combining) : Type 0 where
  pub associative : (a b e : Entry) → c.join (c.join a b) e ≡ c.join a (c.join b e)
  pub commutative : (a b : Entry) → c.join a b ≡ c.join b a
  pub meets : (w : Write) (ws : List Write) → AreWriters (w ∷ ws) → c.verdict (joined c w ws) ≡ rule_value rule w ws

-- ---- entries

abbrev pub entry_of : ℤ → ℤ → Entry
entry_of i v = record { owner = i; value = v; clash = false }

abbrev pub marked : Bool → Entry → Entry
marked clash a = record { owner = a.owner; value = a.value; clash = clash }

-- by owner, and by value where they have one owner
abbrev pub is_first : Entry → Entry → Bool
is_first a b = int_lt a.owner b.owner || (is_equal a.owner b.owner && int_le a.value b.value)

abbrev pub first_of : Bool → Entry → Entry → Entry
first_of clash a b = if is_first a b then marked clash a else marked clash b

abbrev pub unless_clash : Entry → Value
unless_clash a = if a.clash then Err WriteConflict else checked a.value

-- ---- the four ways

abbrev pub exclusive : Combining
exclusive = record { single = entry_of; join = first_of true; verdict = unless_clash }

-- two entries clash if their values differ
abbrev pub differ : Entry → Entry → Bool
differ a b = a.clash || b.clash || not (is_equal a.value b.value)

abbrev pub common : Combining
common = record { single = entry_of; join = λ a b. first_of (differ a b) a b; verdict = unless_clash }

abbrev pub priority : Combining
priority = record { single = entry_of; join = first_of false; verdict = λ a. checked a.value }

-- a sum of 128 bits, which writers with different indices don't pass
abbrev pub summed : Combining
summed = record {
  single = entry_of;
  join = λ a b. record {
    owner = if int_le a.owner b.owner then a.owner else b.owner;
    value = int_wrap w128 (a.value +ℤ b.value);
    clash =
        false;
  };
  verdict = λ a. checked a.value;
}

-- exclusive writes with shared reads, or without
abbrev pub exclusive_rule : Bool → Rule
exclusive_rule true = Crew
exclusive_rule false = Erew

-- how the writers of one cell are combined by a rule
abbrev pub combining_by : Rule → Combining
combining_by Erew = exclusive
combining_by Crew = exclusive
combining_by Common = common
combining_by Priority = priority
combining_by Sum = summed

-- exclusive writes are combined in one way, whether reads are shared or not
pub exclusive_known : (shared_reads : Bool) → exclusive ≡ combining_by (exclusive_rule shared_reads)
exclusive_known true = refl
exclusive_known false = refl
