-- What there is to say of a name, by the tree of the text, and of a token.
use Rattle.std.proofs.Common.{◌≡◌, ◌∙◌, List, ℕ, Option, Result, Ok, Err, IfOk, ap, refl, subst, sym, take}
use Rattle.pram_tokens.specs.Scanning.{cut_of}
use Rattle.pram_tokens.specs.declared.error.LexError.{LexError}
use Rattle.pram_tokens.specs.declared.error.LexError.TheVariants.{BadToken}
use Rattle.help.specs.Choices.{IsRefusedFor}
use Rattle.pram_names.specs.declared.fault.Breach.{Breach}
use Rattle.pram_names.specs.declared.fault.Cause.{Cause}
use Rattle.pram_names.specs.declared.fault.Cause.TheVariants.{UnknownName}
use Rattle.pram_names.specs.declared.fault.Spot.TheVariants.{Offset}
use Rattle.pram_trees.specs.Program.{ProgramTree}
use Rattle.pram_trees.specs.Text.{IsTextOf}
use Rattle.help.specs.Bound.{bound_in}
use Rattle.help.specs.InScope.{Known, names_at}
use Rattle.help.specs.Nearness.{nearest}
use Rattle.diagnoses.specs.Fitting.{fitting, is_inside, role_at}
use Rattle.diagnoses.specs.Places.{token_at}
use Rattle.diagnoses.specs.Remarks.{IsExpectation, IsRemark, NoToken, Nothing, OfTree, Remark, remark_at, remark_of, unknown}

-- what follows from what is so of an answer
pub if_ok : {A E : Type 0} (r : Result A E) (P Q : A → Type 0) → ((a : A) → P a → Q a) → IfOk r P → IfOk r Q
if_ok (Ok a) P Q f h = f a h
if_ok (Err e) P Q f h = h

pub by_tree : (text : List ℕ) (b : Breach) (tree : ProgramTree) (r : Remark) → IsTextOf text tree → r ≡ remark_of text tree b →
    IsRemark text b r
by_tree text b tree r is said = subst (IsRemark text b) (sym said) (OfTree tree is)

-- of a name that isn't in scope, by the names that are
pub of_unknown : (text : List ℕ) (tree : ProgramTree) (at : ℕ) (c : Cause) (r : Remark) (bound : Option Known) (names : List Known)
    (word : List ℕ) → c ≡ UnknownName → word ≡ token_at text at → bound ≡ bound_in tree word → names ≡ names_at tree at →
    r ≡ unknown (role_at (cut_of text) at) (is_inside names) bound (nearest (fitting (cut_of text) at names) (token_at text at)) →
    r ≡ remark_at text tree (Offset at) c
of_unknown text tree at c r bound names word c_is word_is bound_is names_is said =
    let found : bound ≡ bound_in tree (token_at text at) = bound_is ∙ ap (bound_in tree) word_is in
    rw c_is (said ∙ rw (found, names_is) refl)

-- where something before the place is no token
pub no_token : {X : Type 0} (text before : List ℕ) (at bad : ℕ) (e : LexError) (res : Result X LexError) → before ≡ take at text →
    res ≡ Err e →
    e ≡ BadToken bad → IsRefusedFor before res → IsExpectation text at Nothing
no_token {X} text before at bad e res front failed is refused =
    let told = subst (IsRefusedFor before) failed refused in
    NoToken bad (subst (λ t. cut_of t ≡ Err bad) front (subst (λ f. IsRefusedFor {X = X} before (Err f)) is told))
