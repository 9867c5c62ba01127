-- What a piece is for the layout.
use Rattle.std.specs.Prelude.{ℕ, ◌==◌, Bool, true, false, ◌||◌, if◌then◌else◌, List, [], ◌∷◌, codes, slice_index}
use Rattle.pram_model.specs.Names.{is_keyword, is_one_of, same_text}
use Rattle.laid_out_texts.specs.declared.role.Role.{Role}
use Rattle.laid_out_texts.specs.declared.role.Role.TheVariants as role
use Rattle.laid_out_texts.specs.Pieces.{begins_word}

-- the words behind which a block begins
abbrev pub opening_words : List (List ℕ)
opening_words = codes "begin" ∷ codes "do" ∷ codes "then" ∷ codes "pardo" ∷ []

abbrev pub role_of_word : List ℕ → Role
role_of_word text =
    if is_one_of opening_words text then role.Opens
    else (if same_text text (codes "else") then role.Turns
    else (if same_text text (codes "end") then role.Closes
    else (if is_keyword text then role.Keyword else role.Operand)))

abbrev pub role_of_sign : List ℕ → Role
role_of_sign text =
    if same_text text (codes ";") then role.Ends
    else (if same_text text (codes "(") then role.OpensParen
    else (if same_text text (codes "[") || same_text text (codes "..") then role.Joins
    else (if same_text text (codes ")") || same_text text (codes "]") then role.ClosesParen
    else (if same_text text (codes "-") then role.Minus else role.Sign))))

-- what a piece of these bytes is
unfoldable pub role_of : List ℕ → Role
role_of text =
    if slice_index text 0 == 35 then role.Comment
    else (if begins_word (slice_index text 0) then role_of_word text else role_of_sign text)

-- `end` and `else` stand one level further out than what is before them
abbrev pub dedents : Role → Bool
dedents role.Closes = true
dedents role.Turns = true
dedents _ = false
