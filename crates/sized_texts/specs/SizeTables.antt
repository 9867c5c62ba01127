-- How the fields of a table of sizes show its sizes, and how these stand in chains.
use Rattle.std.specs.Prelude.{◌≡◌, ℕ, ◌+◌, ◌*◌, ◌%◌, ◌<◌, Bool, nat_eq, List, [], ◌∷◌, map, length, slice_index_or}
use Rattle.std.specs.List.{filter}
use Rattle.std.specs.declared.vec.Vec.{Vec}
use Rattle.std.specs.declared.alloc.Global.{Global}
use Rattle.sized_texts.specs.declared.size.Size.{Size}
use Rattle.sized_texts.specs.declared.size_table.Binding.{Binding}

-- the size of that name and number
abbrev pub size_by : List ℕ → ℕ → Size
size_by name value = record { name = name; value = value }

abbrev pub bound : List Binding → List Size
bound = map (λ b. size_by b.name.now b.value)

-- the number of chains
abbrev pub chain_count : ℕ
chain_count = 4096

-- the chain of a name that goes on with these bytes
abbrev pub chain_from : ℕ → List ℕ → ℕ
chain_from h [] = h
chain_from h (b ∷ rest) = chain_from ((h * 31 + b) % chain_count) rest

-- the chain of a name
abbrev pub chain_of : List ℕ → ℕ
chain_of = chain_from 0

abbrev pub is_in_chain : ℕ → Binding → Bool
is_in_chain h b = nat_eq (chain_of b.name.now) h

-- Each chain holds the bindings of its number, in their order. There are all chains, or neither chains nor bindings.
pub record AreChained (bindings : List Binding) (chains : List (Vec Binding Global)) : Type 0 where
  pub full : 0 < length chains → length chains ≡ chain_count
  pub ready : length chains ≡ 0 → length bindings ≡ 0
  pub each : (h : ℕ) (d : Vec Binding Global) → h < length chains →
      (slice_index_or chains h d).items ≡ filter (is_in_chain h) bindings
