-- What the workers counted: a column for each worker, with an entry for each exchange.
use Rattle.std.specs.Prelude.{◌≡◌, ℕ, ◌<◌, List, [], ◌∷◌, ◌++◌, length, map, Vec, slice_index_or}
use Rattle.std.specs.Global.{Global}
use Rattle.exchange_counts.specs.declared.count.Count.{Count}
use Rattle.superstep_machine.specs.declared.purpose.Purpose.TheVariants.{Close}

abbrev pub columns_of : List (Vec Count Global) → List (List Count)
columns_of = map (λ (v : Vec Count Global). v.items)

-- the column of worker w
abbrev pub column_of : List (List Count) → ℕ → List Count
column_of columns w = slice_index_or columns w []

-- where nothing was counted
abbrev pub nothing : Count
nothing = record { purpose = Close; sent = 0; received = 0 }

-- entry k of a column, from 0
abbrev pub entry_of : ℕ → List Count → Count
entry_of k column = slice_index_or column k nothing

-- one worker at least, and each has as many entries as worker 0
pub record AreColumns (columns : List (List Count)) : Type 0 where
  pub some : 0 < length columns
  pub long : (w : ℕ) → w < length columns → length (column_of columns w) ≡ length (column_of columns 0)

-- the same entries
pub record AreSame (columns others : List (List Count)) : Type 0 where
  pub workers : length others ≡ length columns
  pub exchanges : length (column_of others 0) ≡ length (column_of columns 0)
  pub entries : (w k : ℕ) → w < length columns → k < length (column_of columns 0) →
      entry_of k (column_of others w) ≡ entry_of k (column_of columns w)

-- each column, and behind it one entry of that worker
pub record GrowBy (count : ℕ → Count) (columns more : List (List Count)) : Type 0 where
  pub workers : length more ≡ length columns
  pub entries : (w : ℕ) → w < length columns → column_of more w ≡ column_of columns w ++ count w ∷ []
