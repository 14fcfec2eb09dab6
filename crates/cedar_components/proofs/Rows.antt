-- From the lists of all components to the list of each number.
use Rattle.std.proofs.Common.{◌≡◌, ℕ, ◌+◌, ◌<◌, ◌≤◌, arith, length, get_or, List}
use Rattle.cedar_components.specs.Reach.{IsReach}
use Rattle.cedar_components.specs.laws.Lists.{AreLists, AreReached}

pub reach_from : (E : ℕ → ℕ → Type 0) (n count : ℕ) (component start lists : List ℕ)
    → length component ≡ n → ((x : ℕ) → x < n → get_or component x 0 ≤ count)
    → AreLists (count + 1) n start lists → AreReached E n component (count + 1) start lists
    → IsReach E n component start lists
reach_from E n count component start lists len within l r = record {
  component_len = len;
  component_in = λ x h. omega (arith, within x h, l.start_len);
  ordered = λ x h. l.ordered (get_or component x 0) (omega (arith, within x h));
  inside = λ x h. l.inside (get_or component x 0 + 1) (omega (arith, within x h));
  lists_in = l.lists_in;
  sound = λ x y h. r.sound x y h (omega (arith, within x h));
  complete = λ x y h. r.complete x y h (omega (arith, within x h));
}
