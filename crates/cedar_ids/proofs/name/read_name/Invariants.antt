use Rattle.std.proofs.Common.{◌≡◌, length}
use denote.Text.{Utf8}
use denote.Shadow.{shadow}
use Rattle.cedar_ids.specs.laws.NameReading.{components, name_of_components, name_of}
use Rattle.cedar_ids.proofs.name.read_name.Given as goal

abbrev pub invariant-loop-front : goal.invariant-loop-front
invariant-loop-front l = shadow (Utf8 l.rest) × (name_of_components l.path.items (components l.rest) ≡ name_of l.text)

abbrev pub decreases-loop-front : goal.decreases-loop-front
decreases-loop-front l = length l.rest
