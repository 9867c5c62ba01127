-- What each operator gives (this project's own profile).
use Rattle.std.specs.Prelude.{Ok, not, ◌&&◌, ◌||◌, ℤ, ◌+ℤ◌, ◌-ℤ◌, ◌*ℤ◌, neg_ℤ, int_lt, int_le}
use Rattle.pram_tokens.specs.declared.token.Binary.{Binary}
use Rattle.pram_tokens.specs.declared.token.Binary.TheVariants.{Or, And, Equal, Unequal, Less, AtMost, Greater, AtLeast, Add, Subtract}
use Rattle.pram_tokens.specs.declared.token.Binary.TheVariants.{Multiply, Divide, Remainder}
use Rattle.pram_trees.specs.declared.tree.Prefix.{Prefix}
use Rattle.pram_trees.specs.declared.tree.Prefix.TheVariants.{Negate, Not}
use Rattle.pram_values.specs.Value.{Value, checked}
use Rattle.pram_values.specs.Truth.{truth, is_nonzero, is_equal}
use Rattle.pram_values.specs.Division.{quotient, remainder_of}

-- an operator between two values
abbrev pub operate : Binary → ℤ → ℤ → Value
operate Or x y = Ok (truth (is_nonzero x || is_nonzero y))
operate And x y = Ok (truth (is_nonzero x && is_nonzero y))
operate Equal x y = Ok (truth (is_equal x y))
operate Unequal x y = Ok (truth (not (is_equal x y)))
operate Less x y = Ok (truth (int_lt x y))
operate AtMost x y = Ok (truth (int_le x y))
operate Greater x y = Ok (truth (int_lt y x))
operate AtLeast x y = Ok (truth (int_le y x))
operate Add x y = checked (x +ℤ y)
operate Subtract x y = checked (x -ℤ y)
operate Multiply x y = checked (x *ℤ y)
operate Divide x y = quotient x y
operate Remainder x y = remainder_of x y

-- an operator before a value
abbrev pub operate_before : Prefix → ℤ → Value
operate_before Negate x = checked (neg_ℤ x)
operate_before Not x = Ok (truth (not (is_nonzero x)))
