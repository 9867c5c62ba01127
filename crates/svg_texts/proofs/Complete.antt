-- The reader reads every document to its end, so what it doesn't read is none.
use Rattle.std.proofs.Common.{◌≡◌, ℕ, Bool, true, false, List, [], ◌∷◌, ◌++◌, refl, ap, ◌∙◌, append_assoc, eq-eqb, eqb-true, arith}
use Rattle.std.specs.Prelude.{codes, nat_eq, ◌||◌}
use Rattle.std.proofs.lemmas.Bool.{and_parts}
use Rattle.std.proofs.lemmas.Bool.Decides.{nat_tests}
use Rattle.svg_texts.specs.WellFormed.{AreAttributes, IsContent, IsDocument, IsElement, IsName, IsReference, ampersand, element, empty}
use Rattle.svg_texts.specs.WellFormed.{
  IsNew,
  first,
  full,
  greater,
  is_first,
  is_inner,
  is_letter,
  less,
  letter,
  longer,
  more,
  none,
  nothing,
  reference,
}
use Rattle.svg_texts.proofs.Pieces.{passed, quoted_past, taken}
use Rattle.svg_texts.proofs.Reader.{State, attribute, await, awaiting, behind, done, equated, failed, in_tag, inside, named, opened}
use Rattle.svg_texts.proofs.Reader.{is_one_of, quoted, rooted, same_text, run, spaced, start, step}

-- ---- names

-- where a name begins in one state, and goes on in states of what was read of it
module _ (from : State) (state : List ℕ → State) (begins : (b : ℕ) → is_first b ≡ true → step from b ≡ state (b ∷ []))
    (keeps : (name : List ℕ) (b : ℕ) → is_inner b ≡ true → step (state name) b ≡ state (name ++ (b ∷ []))) where
  name_read : {name : List ℕ} → IsName name → (rest : List ℕ) → run from (name ++ rest) ≡ run (state name) rest
  name_read (first b e) rest = ap (λ s. run s rest) (begins b e)
  name_read (longer name b is e) rest =
      ap (run from) (append_assoc name (b ∷ []) rest) ∙ name_read is (b ∷ rest) ∙ ap (λ s. run s rest) (keeps name b e)

in_attribute : (names : List (List ℕ)) (tag : List ℕ) (outer : List (List ℕ)) {name : List ℕ} → IsName name → (rest : List ℕ) →
    run (spaced names tag outer) (name ++ rest) ≡ run (attribute name names tag outer) rest
in_attribute names tag outer is rest = name_read (spaced names tag outer) (λ name. attribute name names tag outer)
    (λ b e. taken (is_first b) _ _ e) (λ name b e. taken (is_inner b) _ _ e) is rest

old_name : (names : List (List ℕ)) (name : List ℕ) → IsNew names name → is_one_of names name ≡ false
old_name [] name new = refl
old_name (other ∷ names) name new = by (same_text other name) refl (old_name names name new.1)
  where
    equal : (a b : List ℕ) → same_text a b ≡ true → b ≡ a
    equal [] [] e = refl
    equal [] (y ∷ b) e = absurd (cc)
    equal (x ∷ a) [] e = absurd (cc)
    equal (x ∷ a) (y ∷ b) e = let e' = and_parts (nat_eq x y) (same_text a b) e in cc (equal a b e'.1, eqb-true x y e'.0)

    by : (t : Bool) → same_text other name ≡ t → is_one_of names name ≡ false → (t || is_one_of names name) ≡ false
    by true s rest = absurd (new.0 (equal other name s))
    by false s rest = rest

-- ---- tags

-- what ends a tag is no part of a name, and leads to one state whatever the attributes were
module _ (tag : List ℕ) (outer : List (List ℕ)) (byte : ℕ) (to : State) (more_text : List ℕ)
    (ends : (names : List (List ℕ)) → in_tag names tag outer byte ≡ to) where
  attributes_read : {names : List (List ℕ)} {text : List ℕ} → AreAttributes names text →
      run (behind names tag outer) (text ++ (byte ∷ more_text)) ≡ run to more_text
  attributes_read {names} none = ap (λ s. run s more_text) (ends names)
  attributes_read {names} (more name value rest is new all are) =
      let left : List ℕ = byte ∷ more_text in
      ap (run (spaced names tag outer)) (append_assoc name (codes "='" ++ (value ++ (codes "'" ++ rest))) left)
      ∙ in_attribute names tag outer is (codes "='" ++ ((value ++ (codes "'" ++ rest)) ++ left))
      ∙ ap (λ s. run s (codes "'" ++ ((value ++ (codes "'" ++ rest)) ++ left))) (passed (is_one_of names name) failed
      (equated name names tag outer) (old_name names name new))
      ∙ ap (run (quoted name names tag outer)) (append_assoc value (codes "'" ++ rest) left)
      ∙ quoted_past value all (codes "'" ++ (rest ++ left)) name names tag outer
      ∙ attributes_read are

  tag_read : {text : List ℕ} → AreAttributes [] text → is_inner byte ≡ false →
      run (named tag outer) (text ++ (byte ∷ more_text)) ≡ run to more_text
  tag_read none inner =
      ap (λ s. run s more_text) (passed (is_inner byte) (named (tag ++ (byte ∷ [])) outer) (in_tag [] tag outer byte) inner ∙ ends [])
  tag_read (more name value rest is new all are) inner = attributes_read (more name value rest is new all are)

-- ---- contents and elements

await_read : (left : List ℕ) (outer : List (List ℕ)) (rest : List ℕ) → run (await left outer) (left ++ rest) ≡ run (inside outer) rest
await_read [] outer rest = refl
await_read (b ∷ left) outer rest =
    ap (λ s. run s (left ++ rest)) (taken (nat_eq b b) (await left outer) failed (eq-eqb b b refl)) ∙ await_read left outer rest

reference_read : {text : List ℕ} → IsReference text → (tag : List ℕ) (outer : List (List ℕ)) (rest : List ℕ) →
    run (inside (tag ∷ outer)) (text ++ rest) ≡ run (inside (tag ∷ outer)) rest
reference_read ampersand tag outer rest = refl
reference_read less tag outer rest = refl
reference_read greater tag outer rest = refl

no_slash : (b : ℕ) → is_first b ≡ true → nat_eq b 47 ≡ false
no_slash b e = grind (arith, nat_tests)

child_begins : (tag : List ℕ) (outer : List (List ℕ)) (b : ℕ) → is_first b ≡ true →
    step (opened tag outer) b ≡ named (b ∷ []) (tag ∷ outer)
child_begins tag outer b e = passed (nat_eq b 47) _ _ (no_slash b e) ∙ taken (is_first b) (named (b ∷ []) (tag ∷ outer)) failed e

-- behind `<`, in one state in front of the name
module _ (before : State) (outer : List (List ℕ)) (begins : (b : ℕ) → is_first b ≡ true → step before b ≡ named (b ∷ []) outer) where
  tag_named : {name : List ℕ} → IsName name → (text rest : List ℕ) →
      run before ((name ++ text) ++ rest) ≡ run (named name outer) (text ++ rest)
  tag_named {name} is text rest = ap (run before) (append_assoc name text rest)
      ∙ name_read before (λ name. named name outer) begins (λ name b e. taken (is_inner b) _ _ e) is (text ++ rest)

mutual
  content_read : {text : List ℕ} → IsContent text → (tag : List ℕ) (outer : List (List ℕ)) (rest : List ℕ) →
      run (inside (tag ∷ outer)) (text ++ rest) ≡ run (inside (tag ∷ outer)) rest
  content_read nothing tag outer rest = refl
  content_read (letter b text e c) tag outer rest =
      ap (λ s. run s (text ++ rest)) (taken (is_letter b) (inside (tag ∷ outer)) _ e) ∙ content_read c tag outer rest
  content_read (reference these text r c) tag outer rest = ap (run (inside (tag ∷ outer))) (append_assoc these text rest)
      ∙ reference_read r tag outer (text ++ rest) ∙ content_read c tag outer rest
  content_read (element these text e c) tag outer rest = ap (run (inside (tag ∷ outer))) (append_assoc these text rest)
      ∙ element_read e (inside (tag ∷ outer)) (opened tag outer) (tag ∷ outer) refl (child_begins tag outer) (text ++ rest)
      ∙ content_read c tag outer rest

  element_read : {text : List ℕ} → IsElement text → (from before : State) (outer : List (List ℕ)) → step from 60 ≡ before →
      ((b : ℕ) → is_first b ≡ true → step before b ≡ named (b ∷ []) outer) → (rest : List ℕ) →
      run from (text ++ rest) ≡ run (inside outer) rest
  element_read (empty name attributes is are) from before outer e begins rest =
      ap (λ s. run s ((name ++ (attributes ++ codes "/>")) ++ rest)) e ∙ tag_named before outer begins is (attributes ++ codes "/>") rest
      ∙ ap (run (named name outer)) (append_assoc attributes (codes "/>") rest)
      ∙ tag_read name outer 47 (awaiting 62 [] outer) (codes ">" ++ rest) (λ names. refl) are refl
  element_read (full name attributes content is are c) from before outer e begins rest =
      let back : List ℕ = codes "</" ++ (name ++ codes ">") in
      ap (λ s. run s ((name ++ (attributes ++ (codes ">" ++ (content ++ back)))) ++ rest)) e
      ∙ tag_named before outer begins is (attributes ++ (codes ">" ++ (content ++ back))) rest
      ∙ ap (run (named name outer)) (append_assoc attributes (codes ">" ++ (content ++ back)) rest)
      ∙ tag_read name outer 62 (inside (name ∷ outer)) ((content ++ back) ++ rest) (λ names. refl) are refl
      ∙ ap (run (inside (name ∷ outer))) (append_assoc content back rest)
      ∙ content_read c name outer (back ++ rest) ∙ await_read (name ++ codes ">") outer rest

pub read : {text : List ℕ} → IsDocument text → run start text ≡ done
read d = ap (run start) d.is
    ∙ element_read d.is_element start rooted [] refl (λ b e. taken (is_first b) (named (b ∷ []) []) failed e) (codes "\n")
