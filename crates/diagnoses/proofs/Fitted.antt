-- The names that fit, by the tokens of the text.
use Rattle.std.proofs.Common.{◌≡◌, ◌∙◌, ◌∷◌, [], false, ap, Bool, List, ℕ, refl, subst, sym}
use Rattle.std.specs.Prelude.{Result, Ok, Err, filter}
use Rattle.pram_tokens.specs.Scanning.{Cut, Finds, cut}
use Rattle.pram_tokens.specs.declared.error.LexError.{LexError}
use Rattle.pram_tokens.specs.declared.error.LexError.TheVariants.{BadToken}
use Rattle.pram_tokens.specs.declared.token.Token.{Token}
use Rattle.help.specs.InScope.{Known}
use Rattle.help.specs.Hints.{before}
use Rattle.diagnoses.specs.declared.fitting.Role.{Role}
use Rattle.diagnoses.specs.declared.fitting.Role.TheVariants as role
use Rattle.diagnoses.specs.Fitting.{fits_by, fitting, fronts, is_inside, role_at, role_of}

-- of a text that is cut into these tokens; `seen` are the tokens, and `around` the blocks, behind references
pub by_cut : (r : Result Cut ℕ) (at : ℕ) (names : List Known) (ts seen : List Token) (os : List ℕ) (n : ℕ) (role : Role) (inside : Bool)
    (blocks around : List ℕ) → r ≡ Ok (cut ts os) → seen ≡ ts → around ≡ blocks → n ≡ before at os → role ≡ role_of ts n →
    inside ≡ is_inside names → blocks ≡ fronts (cut ts os) n → filter (fits_by role inside seen around) names ≡ fitting r at names
by_cut r at names ts seen os n role inside blocks around cuts seen_is around_is n_is role_is inside_is blocks_is =
    rw (cuts, seen_is, around_is, role_is, inside_is, blocks_is, n_is) refl

none_pass : (names : List Known) → filter (λ k. false) names ≡ []
none_pass [] = refl
none_pass (k ∷ names) = none_pass names

-- of a text with something that is no token
pub no_cut : {X : Type 0} (view : X → Cut) (res : Result X LexError) (f : LexError) (bad : ℕ) (r : Result Cut ℕ) (at : ℕ)
    (names : List Known) → res ≡ Err f → f ≡ BadToken bad → Finds view res r → [] ≡ fitting r at names
no_cut view res f bad r at names came is finds =
    let told = subst (λ e. Finds view e r) came finds in
    let failed : r ≡ Err bad = subst (λ e. Finds view (Err e) r) is told in
    rw failed (sym (none_pass names))

-- the role of a name in a text that is cut into these tokens
pub role_by_cut : (r : Result Cut ℕ) (at : ℕ) (ts seen : List Token) (os : List ℕ) (n : ℕ) (role : Role) → r ≡ Ok (cut ts os) → seen ≡ ts →
    n ≡ before at os → role ≡ role_of seen n → role ≡ role_at r at
role_by_cut r at ts seen os n role cuts seen_is n_is is =
    is ∙ ap (λ s. role_of s n) seen_is ∙ ap (role_of ts) n_is ∙ sym (ap (λ q. role_at q at) cuts)

-- and in one with something that is no token
pub role_no_cut : {X : Type 0} (view : X → Cut) (res : Result X LexError) (f : LexError) (bad : ℕ) (r : Result Cut ℕ) (at : ℕ) →
    res ≡ Err f →
    f ≡ BadToken bad → Finds view res r → role.Value ≡ role_at r at
role_no_cut view res f bad r at came is finds =
    let told = subst (λ e. Finds view e r) came finds in
    let failed : r ≡ Err bad = subst (λ e. Finds view (Err e) r) is told in
    sym (ap (λ q. role_at q at) failed)
