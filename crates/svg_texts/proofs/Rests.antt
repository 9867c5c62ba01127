-- What is left of a document at a place in it, and that a byte more in front of that is such a rest again.
use Rattle.std.proofs.Common.{◌≡◌, ℕ, true, List, [], ◌∷◌, ◌++◌, refl, ap, ◌∙◌, sym, append_assoc}
use Rattle.std.specs.Prelude.{codes}
use Rattle.std.specs.List.{AllByRecursion}
use Rattle.svg_texts.specs.WellFormed.{AreAttributes, IsContent, IsElement, IsName, IsReference, element, empty, full, is_letter}
use Rattle.svg_texts.specs.WellFormed.{IsNew, is_quoted, letter, more, none, nothing, reference}

-- inside these elements, the inmost one first
abbrev pub Rest : List (List ℕ) → List ℕ → Type 0
Rest [] text = text ≡ codes "\n"
Rest (tag ∷ outer) text = (content : List ℕ) × (rest : List ℕ) × IsContent content
    × (text ≡ content ++ (codes "</" ++ (tag ++ (codes ">" ++ rest)))) × Rest outer rest

-- an element, and what is left behind it
pub record Element (outer : List (List ℕ)) (text : List ℕ) : Type 0 where
  pub root : List ℕ
  pub rest : List ℕ
  pub is_element : IsElement root
  pub is : text ≡ root ++ rest
  pub left : Rest outer rest

-- the end of a tag
pub data Ending (tag : List ℕ) (outer : List (List ℕ)) (text : List ℕ) : Type 0 where
  closed : (rest : List ℕ) → text ≡ codes "/>" ++ rest → Rest outer rest → Ending tag outer text
  goes_on : (rest : List ℕ) → text ≡ codes ">" ++ rest → Rest (tag ∷ outer) rest → Ending tag outer text

-- behind the name of a tag or a value
pub record Tag (names : List (List ℕ)) (tag : List ℕ) (outer : List (List ℕ)) (text : List ℕ) : Type 0 where
  pub attributes : List ℕ
  pub ending : List ℕ
  pub are : AreAttributes names attributes
  pub is : text ≡ attributes ++ ending
  pub ends : Ending tag outer ending

-- in a value
pub record Value (names : List (List ℕ)) (tag : List ℕ) (outer : List (List ℕ)) (text : List ℕ) : Type 0 where
  pub value : List ℕ
  pub rest : List ℕ
  pub are : AllByRecursion (λ b. is_quoted b ≡ true) value
  pub is : text ≡ value ++ (codes "'" ++ rest)
  pub left : Tag names tag outer rest

-- ---- in contents

pub ended_content : (tag : List ℕ) (outer : List (List ℕ)) (rest : List ℕ) → Rest outer rest →
    Rest (tag ∷ outer) (codes "</" ++ (tag ++ (codes ">" ++ rest)))
ended_content tag outer rest r = ([], rest, nothing, refl, r)

pub letter_content : (b : ℕ) (tag : List ℕ) (outer : List (List ℕ)) (text : List ℕ) → is_letter b ≡ true → Rest (tag ∷ outer) text →
    Rest (tag ∷ outer) (b ∷ text)
letter_content b tag outer text is r = (b ∷ r.0, r.1, letter b r.0 is r.2, ap (λ t. b ∷ t) r.3, r.4)

pub reference_content : (these : List ℕ) (tag : List ℕ) (outer : List (List ℕ)) (text : List ℕ) → IsReference these →
    Rest (tag ∷ outer) text → Rest (tag ∷ outer) (these ++ text)
reference_content these tag outer text is r =
    (these ++ r.0, r.1, reference these r.0 is r.2, ap (λ t. these ++ t) r.3 ∙ sym (append_assoc these r.0 _), r.4)

pub element_content : (tag : List ℕ) (outer : List (List ℕ)) (text : List ℕ) → Element (tag ∷ outer) text → Rest (tag ∷ outer) text
element_content tag outer text e = let r = e.left in
    (e.root ++ r.0, r.1, element e.root r.0 e.is_element r.2, e.is ∙ ap (λ t. e.root ++ t) r.3 ∙ sym (append_assoc e.root r.0 _), r.4)

-- ---- in tags

closed_is : (tag attributes rest text ending : List ℕ) → text ≡ attributes ++ ending → ending ≡ codes "/>" ++ rest →
    codes "<" ++ (tag ++ text) ≡ (codes "<" ++ (tag ++ (attributes ++ codes "/>"))) ++ rest
closed_is tag attributes rest text ending is e = rw (is, e) (simp append_assoc)

full_is : (tag attributes content rest inner text ending : List ℕ) → text ≡ attributes ++ ending → ending ≡ codes ">" ++ inner →
    inner ≡ content ++ (codes "</" ++ (tag ++ (codes ">" ++ rest))) →
    codes "<" ++ (tag ++ text)
    ≡ (codes "<" ++ (tag ++ (attributes ++ (codes ">" ++ (content ++ (codes "</" ++ (tag ++ codes ">"))))))) ++ rest
full_is tag attributes content rest inner text ending is e f = rw (is, e, f) (simp append_assoc)

pub element_of : (tag : List ℕ) (outer : List (List ℕ)) (text : List ℕ) → IsName tag → Tag [] tag outer text →
    Element outer (codes "<" ++ (tag ++ text))
element_of tag outer text is t = by t.ending t.ends t.is
  where
    by : (ending : List ℕ) → Ending tag outer ending → text ≡ t.attributes ++ ending → Element outer (codes "<" ++ (tag ++ text))
    by ending (closed rest e r) i = record {
      root = codes "<" ++ (tag ++ (t.attributes ++ codes "/>"));
      rest = rest;
      is_element = empty tag t.attributes is t.are;
      is = closed_is tag t.attributes rest text ending i e;
      left = r;
    }
    by ending (goes_on inner e r) i = record {
      root = codes "<" ++ (tag ++ (t.attributes ++ (codes ">" ++ (r.0 ++ (codes "</" ++ (tag ++ codes ">"))))));
      rest = r.1;
      is_element = full tag t.attributes r.0 is t.are r.2;
      is = full_is tag t.attributes r.0 r.1 inner text ending i e r.3;
      left = r.4;
    }

attribute_is : (name value attributes ending rest text : List ℕ) → text ≡ value ++ (codes "'" ++ rest) → rest ≡ attributes ++ ending →
    codes " " ++ (name ++ (codes "='" ++ text)) ≡ (codes " " ++ (name ++ (codes "='" ++ (value ++ (codes "'" ++ attributes))))) ++ ending
attribute_is name value attributes ending rest text is e = rw (is, e) (simp append_assoc)

pub tag_of : (name : List ℕ) (names : List (List ℕ)) (tag : List ℕ) (outer : List (List ℕ)) (text : List ℕ) → IsName name →
    IsNew names name → Value (name ∷ names) tag outer text → Tag names tag outer (codes " " ++ (name ++ (codes "='" ++ text)))
tag_of name names tag outer text is new v = record {
  attributes = codes " " ++ (name ++ (codes "='" ++ (v.value ++ (codes "'" ++ v.left.attributes))));
  ending = v.left.ending;
  are = more name v.value v.left.attributes is new v.are v.left.are;
  is = attribute_is name v.value v.left.attributes v.left.ending v.rest text v.is v.left.is;
  ends = v.left.ends;
}

pub tag_closed : (names : List (List ℕ)) (tag : List ℕ) (outer : List (List ℕ)) (rest : List ℕ) → Rest outer rest →
    Tag names tag outer (codes "/>" ++ rest)
tag_closed names tag outer rest r =
    record { attributes = []; ending = codes "/>" ++ rest; are = none; is = refl; ends = closed rest refl r }

pub tag_goes_on : (names : List (List ℕ)) (tag : List ℕ) (outer : List (List ℕ)) (rest : List ℕ) → Rest (tag ∷ outer) rest →
    Tag names tag outer (codes ">" ++ rest)
tag_goes_on names tag outer rest r =
    record { attributes = []; ending = codes ">" ++ rest; are = none; is = refl; ends = goes_on rest refl r }

pub value_ends : (names : List (List ℕ)) (tag : List ℕ) (outer : List (List ℕ)) (rest : List ℕ) → Tag names tag outer rest →
    Value names tag outer (codes "'" ++ rest)
value_ends names tag outer rest t = record { value = []; rest = rest; are = tt; is = refl; left = t }

pub value_goes_on : (b : ℕ) (names : List (List ℕ)) (tag : List ℕ) (outer : List (List ℕ)) (text : List ℕ) → is_quoted b ≡ true →
    Value names tag outer text → Value names tag outer (b ∷ text)
value_goes_on b names tag outer text is v =
    record { value = b ∷ v.value; rest = v.rest; are = (is, v.are); is = ap (λ t. b ∷ t) v.is; left = v.left }
