-- The names of sizes, which are found without a search through all of them.
use Rattle.std.proofs.Common.{◌≡◌, ◌∙◌, ◌+◌, ℕ, suc, Bool, true, false, cond, ◌&&◌, List, [], ◌∷◌, ◌++◌, length, refl, sym, ap, arith}
use Rattle.std.specs.Prelude.{◌||◌, ◌==◌}
use Rattle.std.specs.List.{prefix_len}
use Rattle.std.specs.Str.{bytes_eq}
use Rattle.std.proofs.lemmas.List.{take_at}
use Rattle.pram_model.proofs.Truths.{both}
use Rattle.pram_model.specs.Names.{are_words, is_word, same_text}
use Rattle.sized_texts.specs.SizeWords.{IsSizeWord, name_of}
use Rattle.sized_texts.specs.declared.size.Size.{Size}
use Rattle.command_requests.specs.declared.request.SizeWord.{SizeWord}
use Rattle.command_requests.specs.declared.request.SizeWord.TheVariants.{Given, Swept}
use Rattle.command_requests.specs.Given.{AreNamesOf, GivesSize, has_name, word_text}

-- ---- the name of a word is that of its size

length_by : (t : Bool) (n m k : ℕ) → t ≡ true → n ≡ m → k ≡ suc m → cond t (1 + n) 0 ≡ k
length_by true n m k is same e = omega arith
length_by false n m k is same e = absurd (cc)

length_of : (name digits : List ℕ) → are_words name ≡ true → prefix_len is_word (name ++ 61 ∷ digits) ≡ length name
length_of [] digits h = refl
length_of (b ∷ name) digits h =
    let parts = both (is_word b) (are_words name) h in
    length_by (is_word b) (prefix_len is_word (name ++ 61 ∷ digits)) (length name) (length (b ∷ name)) parts.0
    (length_of name digits parts.1) (omega arith)

read_name : (word : List ℕ) (s : Size) → IsSizeWord word s → s.name ≡ name_of word
read_name word s w =
    let behind = 61 ∷ w.digits in
    let end : length s.name ≡ prefix_len is_word (s.name ++ behind) = sym (length_of s.name w.digits w.words) in
    sym (ap name_of w.parts ∙ take_at s.name behind (prefix_len is_word (s.name ++ behind)) end)

name_given : (w : SizeWord) (s : Size) → GivesSize w s → s.name ≡ name_of (word_text w)
name_given (Given word) s is = read_name word.now s is
name_given (Swept word value) s is = is.0

-- ---- one name more

same_bytes : (a b : List ℕ) → bytes_eq a b ≡ same_text a b
same_bytes [] [] = refl
same_bytes [] (y ∷ b) = refl
same_bytes (x ∷ a) [] = refl
same_bytes (x ∷ a) (y ∷ b) = ap (λ t. (x == y) && t) (same_bytes a b)

pub cond_or : (b c : Bool) → cond b true c ≡ (b || c)
cond_or true c = refl
cond_or false c = refl

turned : (a b c : Bool) → (a || (b || c)) ≡ (b || (a || c))
turned true true c = refl
turned true false c = refl
turned false true c = refl
turned false false c = refl

any_more : (sizes : List Size) (s : Size) (name : List ℕ) → has_name (sizes ++ s ∷ []) name ≡ (same_text s.name name || has_name sizes name)
any_more [] s name = refl
any_more (x ∷ sizes) s name =
    ap (λ b. same_text x.name name || b) (any_more sizes s name) ∙ turned (same_text x.name name) (same_text s.name name) (has_name sizes name)

pub names_more : (old new : List ℕ → Bool) (sizes all : List Size) (w : SizeWord) (s : Size) (name : List ℕ) → AreNamesOf old sizes →
    GivesSize w s → name ≡ name_of (word_text w) → ((q : List ℕ) → new q ≡ (bytes_eq name q || old q)) → all ≡ sizes ++ s ∷ [] →
    AreNamesOf new all
names_more old new sizes all w s name known gives is taken more q =
    let same : name ≡ s.name = is ∙ sym (name_given w s gives) in
    taken q ∙ ap (λ n. bytes_eq n q || old q) same ∙ ap (λ b. b || old q) (same_bytes s.name q)
    ∙ ap (λ b. same_text s.name q || b) (known q) ∙ sym (any_more sizes s q) ∙ ap (λ xs. has_name xs q) (sym more)
