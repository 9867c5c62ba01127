-- What is told, with one entry more, and lists that gain items.
use Rattle.std.proofs.Common.{◌≡◌, ℤ, List, [], ◌∷◌, ◌++◌, append-nil, map, drop, length, refl, ap, sym, ◌∙◌}
use Rattle.journal.specs.declared.entry as rust
use Rattle.journal.specs.Entries.{entry_is}

map_push : (now : List rust.Entry.Entry) (x : rust.Entry.Entry) → map entry_is (now ++ x ∷ []) ≡ map entry_is now ++ entry_is x ∷ []
map_push [] x = refl
map_push (y ∷ now) x = ap (λ r. entry_is y ∷ r) (map_push now x)

pub pushed : (x : rust.Entry.Entry) (now new : List rust.Entry.Entry) → new ≡ now ++ x ∷ [] →
    map entry_is new ≡ map entry_is now ++ entry_is x ∷ []
pushed x now new e = ap (map entry_is) e ∙ map_push now x

-- a list has gained what stands behind it
pub gained : (xs more : List ℤ) → drop (length xs) (xs ++ more) ≡ more
gained [] more = refl
gained (x ∷ xs) more = gained xs more

-- one that is as it was has gained nothing
pub no_gain : (xs : List ℤ) → drop (length xs) xs ≡ []
no_gain xs = ap (drop (length xs)) (sym (append-nil xs)) ∙ gained xs []

-- the same of a list of items
pub item_gained : (xs items : List ℤ) (x : ℤ) → items ≡ x ∷ [] → items ≡ drop (length xs) (xs ++ x ∷ [])
item_gained xs items x e = e ∙ sym (gained xs (x ∷ []))

pub nothing_gained : (xs items : List ℤ) → items ≡ [] → items ≡ drop (length xs) xs
nothing_gained xs items e = e ∙ sym (no_gain xs)
