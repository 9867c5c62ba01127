-- Which text is a listing, and what is wrong with a text that is none.
use Rattle.std.specs.Prelude.{◌≡◌, ℕ, ◌≤◌, ◌<◌, List, [], ◌∷◌, ◌++◌, length, Result, Ok, Err}
use Rattle.superstep_listing.specs.declared.error.ListingFault.{ListingFault}
use Rattle.superstep_listing.specs.declared.error.ListingFault.TheVariants.{TextTooLong, BadListing, OutOfMemory}
use Rattle.superstep_instructions.specs.Code.{SuperstepCode}
use Rattle.superstep_instructions.specs.Limits.{IsCode}
use Rattle.superstep_listing.specs.Listing.{ended, lines_of, spelling}

-- the greatest length of a listing
abbrev pub longest : ℕ
longest = 8388608

-- A listing of code: its spelling, where that is short enough, and the code within the limits.
pub record IsListing (text : List ℕ) (code : SuperstepCode) : Type 0 where
  pub fits : length text ≤ longest
  pub stands : IsCode code
  pub spelled : text ≡ spelling code

-- some code's listing begins with these lines
pub record Begins (lines : List (List ℕ)) : Type 0 where
  pub code : SuperstepCode
  pub stands : IsCode code
  pub more : List (List ℕ)
  pub same : lines_of code ≡ lines ++ more

-- The text is no listing. The lines before the offset begin one; with the line there, if it is ended by LF, none begins so.
pub record IsFirstBad (text : List ℕ) (at : ℕ) : Type 0 where
  pub fits : length text ≤ longest
  pub none : (code : SuperstepCode) → IsListing text code → ⊥
  pub front : List (List ℕ)
  pub back : List ℕ
  pub whole : text ≡ ended front ++ back
  pub place : at ≡ length (ended front)
  pub begins : Begins front
  pub stops : (bytes more : List ℕ) → back ≡ bytes ++ 10 ∷ more → Begins (front ++ bytes ∷ []) → ⊥

-- the answer is that code, unless memory was refused
abbrev pub IsAnswer : SuperstepCode → Result SuperstepCode ListingFault → Type 0
IsAnswer code (Ok found) = found ≡ code
IsAnswer code (Err OutOfMemory) = Unit {0}
IsAnswer code (Err _) = ⊥

-- Each refusal says what is wrong with the text, in this order: its length, its lines. Memory is asked for behind the first.
abbrev pub IsFaultOf : {X : Type 0} → List ℕ → Result X ListingFault → Type 0
IsFaultOf text (Ok x) = Unit {0}
IsFaultOf text (Err TextTooLong) = longest < length text
IsFaultOf text (Err (BadListing at)) = IsFirstBad text at
IsFaultOf text (Err OutOfMemory) = length text ≤ longest
