-- What a request asks for that lays no texts out.
use Rattle.std.proofs.Common.{◌≡◌, refl}
use Rattle.command_requests.specs.declared.arrange_words.ArrangeWords.{ArrangeWords}
use Rattle.command_requests.specs.declared.request.Request.{Request}
use Rattle.command_requests.specs.declared.request.Request.TheVariants as request
use Rattle.pramc.specs.Calls.{IsFoundFirst}

pub found_first : (r : Request) → ((words : ArrangeWords) → r ≡ request.Arrange words → ⊥) → IsFoundFirst r
found_first (request.Arrange words) other = absurd (other words refl)
found_first _ other = tt
