-- The numbers of words are those that an input of these words has.
use Rattle.std.proofs.Common.{◌≡◌, ◌∙◌, ◌++◌, ◌∷◌, [], List, ℕ, ℤ, ap, length, map, refl, subst, sym, ◌-◌}
use Rattle.std.specs.Prelude.{Some, None, Ok, Err}
use Rattle.pram_tokens.specs.Input.{AreNumbers, IsFirstWrong, IsWrongWord, Word, number_of, words}
use Rattle.memory_texts.specs.declared.memory_fault.MemoryFault.{MemoryFault}
use Rattle.memory_texts.specs.Assignments.{IsFault, in_line, left_in, misplaced, number_before, numbers, values_of}

pub numbers_are : (ws : List Word) (zs : List ℤ) → AreNumbers ws zs → numbers ws ≡ Ok zs
numbers_are [] [] is = refl
numbers_are [] (z ∷ zs) is = absurd (cc)
numbers_are (w ∷ ws) [] is = absurd (cc)
numbers_are (w ∷ ws) (z ∷ zs) is =
    let first : number_of w.bytes ≡ Some z = cc in
    let others : map (λ w. number_of w.bytes) ws ≡ map Some zs = cc in
    ap (λ o. number_before o w.offset (numbers ws)) first ∙ ap (number_before (Some z) w.offset) (numbers_are ws zs others)

wrong_behind : (front : List Word) (w : Word) (back : List Word) (zs : List ℤ) → AreNumbers front zs → number_of w.bytes ≡ None →
    numbers (front ++ w ∷ back) ≡ Err w.offset
wrong_behind [] w back zs are none = ap (λ o. number_before o w.offset (numbers back)) none
wrong_behind (x ∷ front) w back [] are none = absurd (cc)
wrong_behind (x ∷ front) w back (z ∷ zs) are none =
    let first : number_of x.bytes ≡ Some z = cc in
    let others : map (λ w. number_of w.bytes) front ≡ map Some zs = cc in
    ap (λ o. number_before o x.offset (numbers (front ++ w ∷ back))) first
    ∙ ap (number_before (Some z) x.offset) (wrong_behind front w back zs others none)

pub numbers_wrong : (text : List ℕ) (at : ℕ) → IsFirstWrong text at → numbers (words 0 text) ≡ Err at
numbers_wrong text at w =
    ap numbers w.whole ∙ wrong_behind w.front (record { offset = at; bytes = w.wrong }) w.back w.values w.numbers w.none

pub bad_values : (end at left : ℕ) (text : List ℕ) (m : MemoryFault) → IsWrongWord text at → left ≡ length text - at →
    m ≡ misplaced end left → IsFault m (in_line end (values_of text))
bad_values end at left text m wrong left_is is =
    subst (λ m. IsFault m (in_line end (values_of text))) (sym (is ∙ ap (misplaced end) left_is))
    (ap (λ r. in_line end (left_in (length text) r)) (numbers_wrong text at wrong.first))
