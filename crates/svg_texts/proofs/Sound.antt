-- What the reader reads to its end is a document.
use Rattle.std.proofs.Common.{◌≡◌, ℕ, Bool, true, false, List, [], ◌∷◌, ◌++◌, refl, ap, ◌∙◌, sym, subst, append_assoc, eqb-true, eq-eqb}
use Rattle.std.specs.Prelude.{codes, nat_eq, ◌||◌, if◌then◌else◌}
use Rattle.svg_texts.specs.WellFormed.{IsDocument, IsName, IsReference, ampersand, first, greater, is_inner, is_letter, is_quoted}
use Rattle.svg_texts.specs.WellFormed.{IsNew, is_first, less, longer}
use Rattle.svg_texts.proofs.Reader.{State, attribute, await, awaiting, behind, done, equated, failed, in_content, in_name, in_tag}
use Rattle.svg_texts.proofs.Reader.{
  in_value,
  inside,
  is_one_of,
  named,
  opened,
  same_text,
  quoted,
  referring,
  rooted,
  run,
  spaced,
  start,
  step,
}
use Rattle.svg_texts.proofs.Rests.{Element, Rest, Tag, Value, element_content, element_of, ended_content, letter_content}
use Rattle.svg_texts.proofs.Rests.{reference_content, tag_closed, tag_goes_on, tag_of, value_ends, value_goes_on}

-- ---- a name that is none of these

same_again : (text : List ℕ) → same_text text text ≡ true
same_again [] = refl
same_again (b ∷ text) = rw (eq-eqb b b refl, same_again text)

new_name : (names : List (List ℕ)) (name : List ℕ) → is_one_of names name ≡ false → IsNew names name
new_name [] name e = tt
new_name (other ∷ names) name e = by (same_text other name) refl e (new_name names name)
  where
    by : (t : Bool) → same_text other name ≡ t → (t || is_one_of names name) ≡ false →
        (is_one_of names name ≡ false → IsNew names name) → IsNew (other ∷ names) name
    by true s e rest = absurd (cc)
    by false s e rest =
        (λ same. let t : same_text other name ≡ true = subst (λ x. same_text x name ≡ true) same (same_again name) in absurd (cc), rest e)

-- ---- what is left behind a state

abbrev pub Means : State → List ℕ → Type 0
Means start text = IsDocument text
Means rooted text = Element [] (codes "<" ++ text)
Means (inside outer) text = Rest outer text
Means (opened tag outer) text = Rest (tag ∷ outer) (codes "<" ++ text)
Means (referring tag outer) text = Rest (tag ∷ outer) (codes "&" ++ text)
Means (awaiting byte left outer) text = (rest : List ℕ) × (text ≡ byte ∷ (left ++ rest)) × Rest outer rest
Means (named tag outer) text = IsName tag → Element outer (codes "<" ++ (tag ++ text))
Means (behind names tag outer) text = Tag names tag outer text
Means (spaced names tag outer) text = Tag names tag outer (codes " " ++ text)
Means (attribute name names tag outer) text = IsName name → Tag names tag outer (codes " " ++ (name ++ text))
Means (equated name names tag outer) text =
    IsName name → IsNew names name → Tag names tag outer (codes " " ++ (name ++ (codes "=" ++ text)))
Means (quoted name names tag outer) text = Value (name ∷ names) tag outer text
Means done text = text ≡ []
Means failed text = ⊥

-- by the outcome of a test
by_test : (t : Bool) (x y : State) (text : List ℕ) (G : Type 0) → (t ≡ true → Means x text → G) → (t ≡ false → Means y text → G) →
    Means (if t then x else y) text → G
by_test true x y text G f g m = f refl m
by_test false x y text G f g m = g refl m

-- where the byte is this one
by_byte : (b byte : ℕ) (x y : State) (text : List ℕ) (G : ℕ → Type 0) → (Means x text → G byte) → (Means y text → G b) →
    Means (if nat_eq b byte then x else y) text → G b
by_byte b byte x y text G f g = by_test (nat_eq b byte) x y text (G b) (λ e m. subst G (sym (eqb-true b byte e)) (f m)) (λ e. g)

awaited : (left : List ℕ) (outer : List (List ℕ)) (text : List ℕ) → Means (await left outer) text →
    (rest : List ℕ) × (text ≡ left ++ rest) × Rest outer rest
awaited [] outer text m = (text, refl, m)
awaited (b ∷ left) outer text m = m

-- ---- a byte more

tag_step : (names : List (List ℕ)) (tag : List ℕ) (outer : List (List ℕ)) (b : ℕ) (text : List ℕ) → Means (in_tag names tag outer b) text
    →
    Tag names tag outer (b ∷ text)
tag_step names tag outer b text =
    by_byte b 32 _ _ text G (λ m. m) (by_byte b 47 _ _ text G closed
    (by_byte b 62 _ _ text G (λ m. tag_goes_on names tag outer text m) (λ m. absurd m)))
  where
    G : ℕ → Type 0
    G x = Tag names tag outer (x ∷ text)

    closed : Means (awaiting 62 [] outer) text → Tag names tag outer (47 ∷ text)
    closed m = subst (λ t. Tag names tag outer (47 ∷ t)) (sym m.1) (tag_closed names tag outer m.0 m.2)

content_step : (tag : List ℕ) (outer : List (List ℕ)) (b : ℕ) (text : List ℕ) → Means (in_content tag outer b) text →
    Rest (tag ∷ outer) (b ∷ text)
content_step tag outer b text = by_test (is_letter b) _ _ text (G b) (λ e m. letter_content b tag outer text e m)
    (λ e. by_byte b 60 _ _ text G (λ m. m) (by_byte b 38 _ _ text G (λ m. m) (λ m. absurd m)))
  where
    G : ℕ → Type 0
    G x = Rest (tag ∷ outer) (x ∷ text)

opened_step : (tag : List ℕ) (outer : List (List ℕ)) (b : ℕ) (text : List ℕ) → Means (step (opened tag outer) b) text →
    Rest (tag ∷ outer) (codes "<" ++ (b ∷ text))
opened_step tag outer b text = by_byte b 47 _ _ text G closing (by_test (is_first b) _ _ text (G b)
    (λ e m. element_content tag outer (codes "<" ++ (b ∷ text)) (m (first b e))) (λ e m. absurd m))
  where
    G : ℕ → Type 0
    G x = Rest (tag ∷ outer) (codes "<" ++ (x ∷ text))

    closing : Means (await (tag ++ codes ">") outer) text → Rest (tag ∷ outer) (codes "</" ++ text)
    closing m = let a = awaited (tag ++ codes ">") outer text m in
        subst (λ t. Rest (tag ∷ outer) (codes "</" ++ t)) (sym (a.1 ∙ append_assoc tag (codes ">") a.0)) (ended_content tag outer a.0 a.2)

referring_step : (tag : List ℕ) (outer : List (List ℕ)) (b : ℕ) (text : List ℕ) → Means (step (referring tag outer) b) text →
    Rest (tag ∷ outer) (codes "&" ++ (b ∷ text))
referring_step tag outer b text =
    by_byte b 97 _ _ text G (λ m. by (codes "&amp;") ampersand 97 (codes "mp;") refl m)
    (by_byte b 108 _ _ text G (λ m. by (codes "&lt;") less 108 (codes "t;") refl m)
    (by_byte b 103 _ _ text G (λ m. by (codes "&gt;") greater 103 (codes "t;") refl m) (λ m. absurd m)))
  where
    G : ℕ → Type 0
    G x = Rest (tag ∷ outer) (codes "&" ++ (x ∷ text))

    by : (these : List ℕ) → IsReference these → (x : ℕ) (left : List ℕ) → these ≡ codes "&" ++ (x ∷ left) →
        Means (await left (tag ∷ outer)) text → G x
    by these is x left e m =
        let a = awaited left (tag ∷ outer) text m in
        subst (λ t. Rest (tag ∷ outer) (codes "&" ++ (x ∷ t))) (sym a.1)
        (subst (λ t. Rest (tag ∷ outer) (t ++ a.0)) e (reference_content these tag outer a.0 is a.2))

named_step : (tag : List ℕ) (outer : List (List ℕ)) (b : ℕ) (text : List ℕ) → Means (step (named tag outer) b) text → IsName tag →
    Element outer (codes "<" ++ (tag ++ (b ∷ text)))
named_step tag outer b text m is = by_test (is_inner b) _ _ text (Element outer (codes "<" ++ (tag ++ (b ∷ text))))
    (λ e m. subst (λ t. Element outer (codes "<" ++ t)) (append_assoc tag (b ∷ []) text) (m (longer tag b is e)))
    (λ e m. element_of tag outer (b ∷ text) is (tag_step [] tag outer b text m)) m

attribute_step : (name : List ℕ) (names : List (List ℕ)) (tag : List ℕ) (outer : List (List ℕ)) (b : ℕ) (text : List ℕ) →
    Means (in_name name names tag outer b) text → IsName name → Tag names tag outer (codes " " ++ (name ++ (b ∷ text)))
attribute_step name names tag outer b text m is = by_test (is_inner b) _ _ text (G b)
    (λ e m. subst (λ t. Tag names tag outer (codes " " ++ t)) (append_assoc name (b ∷ []) text) (m (longer name b is e)))
    (λ e. by_byte b 61 _ _ text G (by_test (is_one_of names name) _ _ text (G 61) (λ f m. absurd m) (λ f m. m is (new_name names name f)))
    (λ m. absurd m)) m
  where
    G : ℕ → Type 0
    G x = Tag names tag outer (codes " " ++ (name ++ (x ∷ text)))

value_step : (name : List ℕ) (names : List (List ℕ)) (tag : List ℕ) (outer : List (List ℕ)) (b : ℕ) (text : List ℕ) →
    Means (in_value name names tag outer b) text → Value (name ∷ names) tag outer (b ∷ text)
value_step name names tag outer b text = by_test (is_quoted b) _ _ text (G b) (λ e m. value_goes_on b (name ∷ names) tag outer text e m)
    (λ e. by_byte b 39 _ _ text G (λ m. value_ends (name ∷ names) tag outer text m) (λ m. absurd m))
  where
    G : ℕ → Type 0
    G x = Value (name ∷ names) tag outer (x ∷ text)

awaiting_step : (byte : ℕ) (left : List ℕ) (outer : List (List ℕ)) (b : ℕ) (text : List ℕ) →
    Means (step (awaiting byte left outer) b) text → Means (awaiting byte left outer) (b ∷ text)
awaiting_step byte left outer b text = by_byte b byte _ _ text (λ x. Means (awaiting byte left outer) (x ∷ text))
    (λ m. let a = awaited left outer text m in (a.0, ap (λ t. byte ∷ t) a.1, a.2)) (λ m. absurd m)

root_step : (b : ℕ) (text : List ℕ) → Means (step rooted b) text → Element [] (codes "<" ++ (b ∷ text))
root_step b text = by_test (is_first b) _ _ text (Element [] (codes "<" ++ (b ∷ text))) (λ e m. m (first b e)) (λ e m. absurd m)

document_of : (text : List ℕ) → Element [] text → IsDocument text
document_of text e = record { root = e.root; is_element = e.is_element; is = e.is ∙ ap (λ t. e.root ++ t) e.left }

step_means : (s : State) (b : ℕ) (text : List ℕ) → Means (step s b) text → Means s (b ∷ text)
step_means start b text = by_byte b 60 _ _ text (λ x. IsDocument (x ∷ text)) (λ m. document_of (60 ∷ text) m) (λ m. absurd m)
step_means rooted b text = root_step b text
step_means (inside []) b text = by_byte b 10 _ _ text (λ x. Rest [] (x ∷ text)) (λ m. ap (λ t. 10 ∷ t) m) (λ m. absurd m)
step_means (inside (tag ∷ outer)) b text = content_step tag outer b text
step_means (opened tag outer) b text = opened_step tag outer b text
step_means (referring tag outer) b text = referring_step tag outer b text
step_means (awaiting byte left outer) b text = awaiting_step byte left outer b text
step_means (named tag outer) b text = named_step tag outer b text
step_means (behind names tag outer) b text = tag_step names tag outer b text
step_means (spaced names tag outer) b text =
    by_test (is_first b) _ _ text (Tag names tag outer (codes " " ++ (b ∷ text))) (λ e m. m (first b e)) (λ e m. absurd m)
step_means (attribute name names tag outer) b text = attribute_step name names tag outer b text
step_means (equated name names tag outer) b text = by_byte b 39 _ _ text
    (λ x. IsName name → IsNew names name → Tag names tag outer (codes " " ++ (name ++ (codes "=" ++ (x ∷ text)))))
    (λ m is new. tag_of name names tag outer text is new m) (λ m. absurd m)
step_means (quoted name names tag outer) b text = value_step name names tag outer b text
step_means done b text = λ m. absurd m
step_means failed b text = λ m. absurd m

-- ---- all of a text

empty_means : (s : State) → s ≡ done → Means s []
empty_means s e = subst (λ t. Means t []) (sym e) refl

means : (text : List ℕ) (s : State) → run s text ≡ done → Means s text
means [] s e = empty_means s e
means (b ∷ text) s e = step_means s b text (means text (step s b) e)

pub document : (text : List ℕ) → run start text ≡ done → IsDocument text
document text e = means text start e
